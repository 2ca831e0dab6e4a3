-- What a table holds by name.
use Rattle.std.proofs.Common.{◌≡◌, ◌≢◌, ℕ, suc, ◌+◌, ◌<◌, ◌≤◌, Bool, true, false, if◌then◌else◌, List, [], ◌∷◌, ◌++◌, length, drop, set, get_or, refl, sym, ◌∙◌, ap, subst, arith}
use Rattle.std.proofs.lemmas.List.{drop_more}
use Rattle.std.proofs.lemmas.Slice.Eq.{bytes_eq-Decides}
use Rattle.std.specs.Str.{bytes_eq}
use Rattle.memory_volume.specs.Tables.{value_in, row_of, Sets}

pub same_name : (name : List ℕ) → bytes_eq name name ≡ true
same_name name = (bytes_eq-Decides name name).1 refl

pub other_name : (one two : List ℕ) → one ≢ two → bytes_eq one two ≡ false
other_name one two ne = elim (bytes_eq one two) as (λ b. bytes_eq one two ≡ b → b ≡ false) [
  | true ↦ λ is. absurd (ne ((bytes_eq-Decides one two).0 is))
  | false ↦ λ is. refl
] refl

-- one step of a walk over the rows

pub row_here : {X : Type 0} (name_of : X → List ℕ) (rows : List X) (i : ℕ) (row : X) (name : List ℕ) → i < length rows → row ≡ get_or rows i row → bytes_eq (name_of row) name ≡ true → row_of name_of (drop i rows) name ≡ 0
row_here {X} name_of rows i row name lt is same =
    ap (λ (l : List X). row_of name_of l name) (drop_more rows i row lt)
    ∙ ap (λ (x : X). row_of name_of (x ∷ drop (i + 1) rows) name) (sym is)
    ∙ ap (λ b. if b then 0 else suc (row_of name_of (drop (i + 1) rows) name)) same

pub row_past : {X : Type 0} (name_of : X → List ℕ) (rows : List X) (i : ℕ) (row : X) (name : List ℕ) → i < length rows → row ≡ get_or rows i row → bytes_eq (name_of row) name ≡ false → row_of name_of (drop i rows) name ≡ suc (row_of name_of (drop (i + 1) rows) name)
row_past {X} name_of rows i row name lt is other =
    ap (λ (l : List X). row_of name_of l name) (drop_more rows i row lt)
    ∙ ap (λ (x : X). row_of name_of (x ∷ drop (i + 1) rows) name) (sym is)
    ∙ ap (λ b. if b then 0 else suc (row_of name_of (drop (i + 1) rows) name)) other

pub row_of-le-length : {X : Type 0} (name_of : X → List ℕ) (rows : List X) (name : List ℕ) → row_of name_of rows name ≤ length rows
row_of-le-length name_of [] name = omega arith
row_of-le-length name_of (row ∷ rows) name = elim (bytes_eq (name_of row) name) as (λ b. (if b then 0 else suc (row_of name_of rows name)) ≤ suc (length rows)) [
  | true ↦ omega arith
  | false ↦ omega (arith, row_of-le-length name_of rows name)
]

-- a new row behind the others, where there was none of its name
pub row_behind : {X : Type 0} (name_of : X → List ℕ) (rows : List X) (made : X) (name : List ℕ) → row_of name_of rows name ≡ length rows → name_of made ≡ name → row_of name_of (rows ++ made ∷ []) name ≡ length rows
row_behind name_of [] made name absent named = ap (λ b. if b then 0 else 1) (ap (λ n. bytes_eq n name) named ∙ same_name name)
row_behind name_of (row ∷ rows) made name absent named =
    elim (bytes_eq (name_of row) name) as (λ b. (if b then 0 else suc (row_of name_of rows name)) ≡ suc (length rows) → (if b then 0 else suc (row_of name_of (rows ++ made ∷ []) name)) ≡ suc (length rows)) [
      | true ↦ λ e. absurd (omega (arith, e))
      | false ↦ λ e. ap suc (row_behind name_of rows made name (omega (arith, e)) named)
    ] absent

pub named_at : {X : Type 0} (name_of : X → List ℕ) (rows : List X) (name : List ℕ) (d : X) → row_of name_of rows name < length rows → name_of (get_or rows (row_of name_of rows name) d) ≡ name
named_at name_of [] name d lt = absurd (omega arith)
named_at name_of (row ∷ rows) name d lt =
    elim (bytes_eq (name_of row) name) as (λ b. bytes_eq (name_of row) name ≡ b → (if b then 0 else suc (row_of name_of rows name)) < suc (length rows) → name_of (get_or (row ∷ rows) (if b then 0 else suc (row_of name_of rows name)) d) ≡ name) [
      | true ↦ λ is e. (bytes_eq-Decides (name_of row) name).0 is
      | false ↦ λ is e. named_at name_of rows name d (omega (arith, e))
    ] refl lt

pub named_here : {X : Type 0} (name_of : X → List ℕ) (rows : List X) (name : List ℕ) (i : ℕ) (row : X) → i ≡ row_of name_of rows name → i < length rows → row ≡ get_or rows i row → name_of row ≡ name
named_here name_of rows name i row at within is =
    ap name_of is ∙ ap (λ n. name_of (get_or rows n row)) at ∙ named_at name_of rows name row (subst (λ n. n < length rows) at within)

module _ {X V : Type 0} (name_of : X → List ℕ) (value_of : X → V) (none : V) where
  abbrev held : List X → List ℕ → V
  held rows name = value_in name_of value_of none rows name

  pub value_at : (rows : List X) (name : List ℕ) (d : X) → row_of name_of rows name < length rows → value_in name_of value_of none rows name ≡ value_of (get_or rows (row_of name_of rows name) d)
  value_at [] name d lt = absurd (omega arith)
  value_at (row ∷ rows) name d lt =
      elim (bytes_eq (name_of row) name) as (λ b. (if b then 0 else suc (row_of name_of rows name)) < suc (length rows) → (if b then value_of row else held rows name) ≡ value_of (get_or (row ∷ rows) (if b then 0 else suc (row_of name_of rows name)) d)) [
        | true ↦ λ e. refl
        | false ↦ λ e. value_at rows name d (omega (arith, e))
      ] lt

  pub value_absent : (rows : List X) (name : List ℕ) → length rows ≤ row_of name_of rows name → value_in name_of value_of none rows name ≡ none
  value_absent [] name past = refl
  value_absent (row ∷ rows) name past =
      elim (bytes_eq (name_of row) name) as (λ b. suc (length rows) ≤ (if b then 0 else suc (row_of name_of rows name)) → (if b then value_of row else held rows name) ≡ none) [
        | true ↦ λ e. absurd (omega (arith, e))
        | false ↦ λ e. value_absent rows name (omega (arith, e))
      ] past

  -- a row that holds none changes nothing behind the others
  pub value_behind : (rows : List X) (made : X) (other : List ℕ) → value_of made ≡ none → value_in name_of value_of none (rows ++ made ∷ []) other ≡ value_in name_of value_of none rows other
  value_behind [] made other empty = elim (bytes_eq (name_of made) other) as (λ b. (if b then value_of made else none) ≡ none) [ true ↦ empty | false ↦ refl ]
  value_behind (row ∷ rows) made other empty = ap (λ v. if bytes_eq (name_of row) other then value_of row else v) (value_behind rows made other empty)

  chosen : (b c : Bool) (x y z : V) → (b ≡ true → c ≡ false) → (if b then y else (if c then x else z)) ≡ (if c then x else (if b then y else z))
  chosen true true x y z apart = let never : true ≡ false = apart refl in absurd cc
  chosen true false x y z apart = refl
  chosen false c x y z apart = refl

  twice : (b : Bool) (x y z : V) → (if b then x else (if b then y else z)) ≡ (if b then x else z)
  twice true x y z = refl
  twice false x y z = refl

  -- another row in a name's place
  pub value_set : (rows : List X) (name other : List ℕ) (made : X) → row_of name_of rows name < length rows → name_of made ≡ name → value_in name_of value_of none (set rows (row_of name_of rows name) made) other ≡ (if bytes_eq name other then value_of made else value_in name_of value_of none rows other)
  value_set [] name other made lt named = absurd (omega arith)
  value_set (row ∷ rows) name other made lt named =
      elim (bytes_eq (name_of row) name) as (λ b. bytes_eq (name_of row) name ≡ b → (if b then 0 else suc (row_of name_of rows name)) < suc (length rows) → held (set (row ∷ rows) (if b then 0 else suc (row_of name_of rows name)) made) other ≡ (if bytes_eq name other then value_of made else held (row ∷ rows) other)) [
        | true ↦ λ is e.
            let its_name : name_of row ≡ name = (bytes_eq-Decides (name_of row) name).0 is in
            ap (λ n. if bytes_eq n other then value_of made else held rows other) named
            ∙ sym (ap (λ n. if bytes_eq name other then value_of made else (if bytes_eq n other then value_of row else held rows other)) its_name ∙ twice (bytes_eq name other) (value_of made) (value_of row) (held rows other))
        | false ↦ λ is e.
            ap (λ v. if bytes_eq (name_of row) other then value_of row else v) (value_set rows name other made (omega (arith, e)) named)
            ∙ chosen (bytes_eq (name_of row) other) (bytes_eq name other) (value_of made) (value_of row) (held rows other) (apart is)
      ] refl lt
    where
      apart : bytes_eq (name_of row) name ≡ false → bytes_eq (name_of row) other ≡ true → bytes_eq name other ≡ false
      apart not_name is_other =
          let here : name_of row ≡ other = (bytes_eq-Decides (name_of row) other).0 is_other in
          ap (bytes_eq name) (sym here) ∙ other_name name (name_of row) (λ same. let never : true ≡ false = sym ((bytes_eq-Decides (name_of row) name).1 (sym same)) ∙ not_name in cc)

  -- what the table held by a name, where its row stands
  pub value_was : (old mid : List X) (name : List ℕ) (i : ℕ) (was : X) → ((other : List ℕ) → held mid other ≡ held old other) → i ≡ row_of name_of mid name → i < length mid → was ≡ get_or mid i was → held old name ≡ value_of was
  value_was old mid name i was kept at within is =
      sym (kept name)
      ∙ value_at mid name was (subst (λ n. n < length mid) at within)
      ∙ ap (λ n. value_of (get_or mid n was)) (sym at)
      ∙ ap value_of (sym is)

  pub value_here : (rows : List X) (name : List ℕ) (i : ℕ) (row : X) → i ≡ row_of name_of rows name → i < length rows → row ≡ get_or rows i row → held rows name ≡ value_of row
  value_here rows name i row at within is = value_was rows rows name i row (λ other. refl) at within is

  pub sets_at : (old mid : List X) (name : List ℕ) (i : ℕ) (was now : X) (value : V) → ((other : List ℕ) → held mid other ≡ held old other) → i ≡ row_of name_of mid name → i < length mid → was ≡ get_or mid i was → name_of now ≡ name_of was → value_of now ≡ value → Sets name value (held old) (held (set mid i now))
  sets_at old mid name i was now value kept at within is named value_is = record {
    each = λ other.
        ap (λ n. held (set mid n now) other) at
        ∙ value_set mid name other now (subst (λ n. n < length mid) at within) (named ∙ ap name_of is ∙ ap (λ n. name_of (get_or mid n was)) at ∙ named_at name_of mid name was (subst (λ n. n < length mid) at within))
        ∙ ap (λ v. if bytes_eq name other then v else held mid other) value_is
        ∙ ap (λ v. if bytes_eq name other then value else v) (kept other);
  }

  -- and where nothing has changed there
  pub keeps_at : (old mid : List X) (name : List ℕ) (i : ℕ) (was now : X) → ((other : List ℕ) → held mid other ≡ held old other) → i ≡ row_of name_of mid name → i < length mid → was ≡ get_or mid i was → name_of now ≡ name_of was → value_of now ≡ value_of was → (other : List ℕ) → held (set mid i now) other ≡ held old other
  keeps_at old mid name i was now kept at within is named value_is other =
      (sets_at old mid name i was now (held old name) kept at within is named (value_is ∙ sym (value_was old mid name i was kept at within is))).each other
      ∙ same other
    where
      same : (other : List ℕ) → (if bytes_eq name other then held old name else held old other) ≡ held old other
      same other = elim (bytes_eq name other) as (λ b. bytes_eq name other ≡ b → (if b then held old name else held old other) ≡ held old other) [
        | true ↦ λ is. ap (held old) ((bytes_eq-Decides name other).0 is)
        | false ↦ λ is. refl
      ] refl
