-- Lists with one root.
use Rattle.std.proofs.Common.{◌≡◌, ℕ, ◌^◌, ◌≤◌, ◌⊎◌, inl, inr, List, [], ◌∷◌, ◌++◌, length, map, drop, get_or, refl, sym, ◌∙◌, ap, arith}
use Rattle.std.specs.List.{flat_map, Contains, AllByRecursion}
use Rattle.std.proofs.lemmas.List.{length-map}
use Rattle.std.proofs.lemmas.List.Elements.{Contains-append_cases}
use Rattle.tree_shape.specs.Hashing.{Hashing}
use Rattle.tree_shape.specs.Shape.{Shape, inactive}
use Rattle.tree_shape.specs.Slow.{leaf_digests}
use Rattle.tree_shape.specs.Root.{root}
use Rattle.tree_shape.specs.declared.bagging.Bagging.{Bagging}
use Rattle.tree_shape.specs.declared.bagging.Bagging.TheVariants.{ForwardFold}
use Rattle.tree_proof.specs.Inputs.{Clash, tree_inputs}
use Rattle.log_model.specs.Meaning.{Meaning}
use Rattle.log_model.specs.Operations.{floor_of, root_of}
use Rattle.log_model.specs.Hashed.{inputs_of, NoClash}
use Rattle.log_model.proofs.OperationLemmas.{inactive-within}
use Rattle.tree_proof.proofs.InputLemmas.{in_flat_map}

module _ {D Op V : Type 0} (s : Shape) (h : Hashing D) (m : Meaning Op V) where
  root_of_encodings : (ops : List Op) → root_of s h m ops ≡ root s h (leaf_digests s h (map m.encoding ops)) (inactive s (length ops) (floor_of m ops)) ForwardFold
  unfolding root_of
  root_of_encodings ops = refl

  -- two lists of elements with one root are one, or two inputs clash
  abbrev pub IsOneRoot : Type 0
  IsOneRoot = (bagging : Bagging) (first second : List (List ℕ)) (j k : ℕ) → length first ≤ 2 ^ 62 → length second ≤ 2 ^ 62 → j ≤ length (s.heights (length first)) → k ≤ length (s.heights (length second))
      → root s h (leaf_digests s h first) j bagging ≡ root s h (leaf_digests s h second) k bagging
      → ((first ≡ second) × (j ≡ k)) ⊎ Clash h (tree_inputs s h first j bagging ++ tree_inputs s h second k bagging)

  -- two lists of operations with one root have the same encodings, or two inputs clash
  abbrev pub AreEncodingsOne : Type 0
  AreEncodingsOne = (first second : List Op) → length first ≤ 2 ^ 62 → length second ≤ 2 ^ 62 → root_of s h m first ≡ root_of s h m second
      → (map m.encoding first ≡ map m.encoding second) ⊎ Clash h (inputs_of s h m first ++ inputs_of s h m second)

  within : (ops : List Op) → inactive s (length ops) (floor_of m ops) ≤ length (s.heights (length (map m.encoding ops)))
  within ops = rw (length-map ops m.encoding) (inactive-within s (length ops) (floor_of m ops))

  pub encodings_one : IsOneRoot → AreEncodingsOne
  encodings_one law first second few_first few_second e =
      let l = length-map first m.encoding in
      let k = length-map second m.encoding in
      elim (law ForwardFold (map m.encoding first) (map m.encoding second) (inactive s (length first) (floor_of m first)) (inactive s (length second) (floor_of m second))
      (omega (arith, l, few_first)) (omega (arith, k, few_second)) (within first) (within second) (sym (root_of_encodings first) ∙ e ∙ root_of_encodings second)) [
        | inl one ↦ inl one.0
        | inr clash ↦ inr clash
      ]

  -- what is hashed for two of several lists is hashed for these
  among : (lists : List (List Op)) (first second : List Op) → Contains lists first → Contains lists second → (x : List ℕ) → Contains (inputs_of s h m first ++ inputs_of s h m second) x → Contains (flat_map (inputs_of s h m) lists) x
  among lists first second a b x c = elim (Contains-append_cases (inputs_of s h m first) (inputs_of s h m second) x c) [
    | inl one ↦ in_flat_map (inputs_of s h m) lists first x a one
    | inr other ↦ in_flat_map (inputs_of s h m) lists second x b other
  ]

  wider : (lists : List (List Op)) (first second : List Op) → Contains lists first → Contains lists second → Clash h (inputs_of s h m first ++ inputs_of s h m second) → Clash h (flat_map (inputs_of s h m) lists)
  wider lists first second a b c = record {
    first = c.first;
    second = c.second;
    has_first = among lists first second a b c.first c.has_first;
    has_second = among lists first second a b c.second c.has_second;
    differ = c.differ;
    same_digest = c.same_digest;
  }

  module _ (allowed : Op → Type 0) (apart : (a b : Op) → allowed a → allowed b → m.encoding a ≡ m.encoding b → a ≡ b) where
    told_apart : (xs ys : List Op) → AllByRecursion allowed xs → AllByRecursion allowed ys → map m.encoding xs ≡ map m.encoding ys → xs ≡ ys
    told_apart [] [] a b e = refl
    told_apart [] (y ∷ ys) a b e = absurd (cc)
    told_apart (x ∷ xs) [] a b e = absurd (cc)
    told_apart (x ∷ xs) (y ∷ ys) a b e =
        let head : m.encoding x ≡ m.encoding y = ap (λ (es : List (List ℕ)). get_or es 0 (m.encoding x)) e in
        let tail : map m.encoding xs ≡ map m.encoding ys = ap (λ (es : List (List ℕ)). drop 1 es) e in
        rw (apart x y a.0 b.0 head, told_apart xs ys a.1 b.1 tail) refl

    pub lists_are_one : AreEncodingsOne → (lists : List (List Op)) (first second : List Op) → NoClash s h m lists → Contains lists first → Contains lists second
        → AllByRecursion allowed first → AllByRecursion allowed second → length first ≤ 2 ^ 62 → length second ≤ 2 ^ 62 → root_of s h m first ≡ root_of s h m second → first ≡ second
    lists_are_one law lists first second none a b all_first all_second few_first few_second e = elim (law first second few_first few_second e) [
      | inl same ↦ told_apart first second all_first all_second same
      | inr clash ↦ absurd (none (wider lists first second a b clash))
    ]
