-- Pins put before the nodes of a tree, where it has none.
use Rattle.std.proofs.Common.{◌≡◌, ℕ, ◌<◌, ◌≤◌, inl, inr, Bool, true, false, cond, List, [], ◌∷◌, ◌++◌, length, Some, None, Option, refl, sym, ◌∙◌, ap, subst, arith}
use Rattle.std.specs.Prelude.{is_none, slice_get, IsSome}
use Rattle.std.specs.BTreeMap.{is_at}
use Rattle.std.specs.Ordering.{nat_cmp}
use Rattle.std.specs.List.{filter}
use Rattle.std.proofs.lemmas.Bool.Decides.{eqb_tells, leb_tells}
use Rattle.std.proofs.lemmas.Map.Entries.{lookup-filter-keys}
use Rattle.tree_shape.specs.Hashing.{Hashing}
use Rattle.tree_shape.specs.Shape.{Shape, made}
use Rattle.tree_shape.specs.Slow.{nodes}
use Rattle.tree_store.specs.Stores.{IsTreeOf}
use Rattle.tree_core.specs.Pruned.{IsPruned}
use Rattle.tree_core.specs.KeptNodes.{entry_at, placed, AreBefore}
use Rattle.tree_core.specs.Tree.{either}
use Rattle.tree_verification.proofs.KeyLemmas.{key_same}
use Rattle.tree_core.proofs.KeptNodesLemmas.{entry_here, entry_on, entry_first, entry_second}

-- whether there is no node at an entry's position
abbrev pub is_free : {D : Type 0} → List (ℕ × D) → ℕ × D → Bool
is_free old e = is_none (entry_at old e.0)

-- the table of pins with further ones before it, where neither a pin nor one of the run stands
pub pinned_table : {D : Type 0} (pins es fs : List (ℕ × D)) (run : List D) (os : List (ℕ × D)) (ds : List D) (m first : ℕ) → os ≡ es → ds ≡ run → first ≡ m
    → fs ≡ filter (is_free (os ++ placed first ds)) pins ++ os → fs ≡ filter (is_free (es ++ placed m run)) pins ++ es
pinned_table pins es fs run os ds m first e d f is =
    is ∙ ap (λ xs. filter (is_free (xs ++ placed first ds)) pins ++ xs) e ∙ ap (λ xs. filter (is_free (es ++ placed first xs)) pins ++ es) d
    ∙ ap (λ n. filter (is_free (es ++ placed n run)) pins ++ es) f

pub joined_pinned : {D : Type 0} (old pins fs : List (ℕ × D)) → fs ≡ filter (is_free old) pins ++ old → (p : ℕ) → entry_at fs p ≡ either (entry_at old p) (entry_at pins p)
joined_pinned {D = D} old pins fs e p = ap (λ es. entry_at es p) e ∙ by (entry_at old p) refl
  where
    free : entry_at (filter (is_free old) pins) p ≡ cond (is_none (entry_at old p)) (entry_at pins p) None
    free = lookup-filter-keys (is_at (nat_cmp p)) (λ k. is_none (entry_at old k)) (is_none (entry_at old p)) (λ k t. ap (λ q. is_none (entry_at old q)) (sym (key_same p k t))) pins

    by : (o : Option D) → entry_at old p ≡ o → entry_at (filter (is_free old) pins ++ old) p ≡ either (entry_at old p) (entry_at pins p)
    by (Some d) is =
        let none : entry_at (filter (is_free old) pins) p ≡ None = free ∙ ap (λ q. cond (is_none q) (entry_at pins p) None) is in
        entry_second (filter (is_free old) pins) old p none ∙ is ∙ sym (ap (λ q. either q (entry_at pins p)) is)
    by None is =
        entry_first (filter (is_free old) pins) old p is ∙ free ∙ ap (λ q. cond (is_none q) (entry_at pins p) None) is ∙ sym (ap (λ q. either q (entry_at pins p)) is)

some_not_none : {D : Type 0} (o : Option D) → IsSome o → is_none o ≡ true → ⊥
some_not_none (Some d) some none = absurd (cc)
some_not_none None some none = absurd (cc)

-- where all nodes from a position on to the end are there, the pins that aren't stand before it
pub free_before : {D : Type 0} (old : List (ℕ × D)) (first end : ℕ) (pins : List (ℕ × D)) → ((p : ℕ) → first ≤ p → p < end → IsSome (entry_at old p)) → ((p : ℕ) (d : D) → entry_at pins p ≡ Some d → p < end)
    → AreBefore first (filter (is_free old) pins)
free_before old first end [] there low = tt
free_before {D = D} old first end (e ∷ es) there low = by (is_free old e) refl (free_before old first end es there later)
  where
    later : (p : ℕ) (d : D) → entry_at es p ≡ Some d → p < end
    later p d is = elim (eqb_tells p e.0) [
      | inl same ↦ low p e.1 (entry_here es e p same.1)
      | inr apart ↦ low p d (entry_on es e p apart.1 ∙ is)
    ]

    by : (t : Bool) → is_free old e ≡ t → AreBefore first (filter (is_free old) es) → AreBefore first (cond t (e ∷ filter (is_free old) es) (filter (is_free old) es))
    by true is rest = elim (leb_tells first e.0) [
      | inl t ↦ absurd (some_not_none (entry_at old e.0) (there e.0 t.1 (low e.0 e.1 (entry_here es e e.0 refl))) is)
      | inr t ↦ (omega (arith, t.1), rest)
    ]
    by false is rest = rest

either_is_some : {D : Type 0} (a b : Option D) → IsSome a → IsSome (either a b)
either_is_some (Some d) b some = refl
either_is_some None b some = absurd (cc)

nothing_there : {D : Type 0} (o : Option D) → ((d : D) → o ≡ Some d → ⊥) → o ≡ None
nothing_there (Some d) never = absurd (never d refl)
nothing_there None never = refl

-- a pruned tree with further nodes of it
pub pinned_pruned : {D : Type 0} (s : Shape) (n b : ℕ) (f g pins : ℕ → Option D) → IsPruned s n b f → ((p : ℕ) → g p ≡ either (f p) (pins p)) → ((p : ℕ) (d : D) → pins p ≡ Some d → p < length (made s n)) → IsPruned s n b g
pinned_pruned s n b f g pins i put low = record {
  ended = λ p le. put p ∙ ap (λ q. either q (pins p)) (i.ended p le) ∙ nothing_there (pins p) (λ d is. let lt = low p d is in omega arith);
  since = λ p le lt. subst (λ (o : Option _). IsSome o) (sym (put p)) (either_is_some (f p) (pins p) (i.since p le lt));
  peaks = λ x k peak. subst (λ (o : Option _). IsSome o) (sym (put (s.position x k))) (either_is_some (f (s.position x k)) (pins (s.position x k)) (i.peaks x k peak));
}

-- a node that stands in one of the two
pub either_from : {D : Type 0} (P : D → Type 0) (a b : Option D) → ((d : D) → a ≡ Some d → P d) → ((d : D) → b ≡ Some d → P d) → (d : D) → either a b ≡ Some d → P d
either_from P (Some c) b f g d e = f d e
either_from P None b f g d e = g d e

pub same_tree : {D : Type 0} (s : Shape) (h : Hashing D) (all : List D) (n : ℕ) (f g : ℕ → Option D) → ((p : ℕ) → g p ≡ f p) → IsTreeOf s h all n f → IsTreeOf s h all n g
same_tree s h all n f g same of = record { count = of.count; right = λ p d e. of.right p d (sym (same p) ∙ e) }

-- a tree with further nodes that are right
pub pinned_tree : {D : Type 0} (s : Shape) (h : Hashing D) (all : List D) (n : ℕ) (f g pins : ℕ → Option D) → ((p : ℕ) → g p ≡ either (f p) (pins p))
    → ((p : ℕ) (d : D) → pins p ≡ Some d → slice_get (nodes s h all) p ≡ Some d) → IsTreeOf s h all n f → IsTreeOf s h all n g
pinned_tree s h all n f g pins put right of = record {
  count = of.count;
  right = λ p d e. either_from (λ c. slice_get (nodes s h all) p ≡ Some c) (f p) (pins p) (of.right p) (right p) d (sym (put p) ∙ e);
}
