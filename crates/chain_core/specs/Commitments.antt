-- States of a database by their size and root, and when they are the same.
use Rattle.std.specs.Prelude.{◌≡◌, ℕ, Bool, List, ◌&&◌, true, ◌==◌, nat_eq, nat_lt, Option, Some, None, if◌then◌else◌}
use Rattle.std.specs.Cmp.{first_so, second_so, IsPartialEquivalence, IsEquivalence, on_per, on_equiv, and_per, and_equiv, nat_eq_equiv, partial_equiv_from_equiv}
use Rattle.std.specs.Cmp.Lexicographic.{pointwise, lists_per, lists_equiv, bytes_decides}
use Rattle.std.proofs.lemmas.Bool.Decides.{Decides-eqb}
use Rattle.chain_core.specs.declared.commitment.Commitment.{Commitment}

-- Whether two states have the same size and the same root, where roots are known by their bytes.
abbrev pub is_same : {F D : Type 0} → (D → List ℕ) → Commitment F D → Commitment F D → Bool
is_same bytes a b = (a.size == b.size) && pointwise nat_eq (bytes a.root) (bytes b.root)

-- It is symmetric and transitive.
pub is_same_per : {F D : Type 0} (bytes : D → List ℕ) → IsPartialEquivalence (is_same {F = F} bytes)
is_same_per bytes =
    and_per (on_per (λ c. c.size) (partial_equiv_from_equiv nat_eq_equiv))
    (on_per (λ c. bytes c.root) (lists_per (partial_equiv_from_equiv nat_eq_equiv)))

-- It is an equivalence.
pub is_same_equivalence : {F D : Type 0} (bytes : D → List ℕ) → IsEquivalence (is_same {F = F} bytes)
is_same_equivalence bytes =
    and_equiv (on_equiv (λ c. c.size) nat_eq_equiv) (on_equiv (λ c. bytes c.root) (lists_equiv nat_eq_equiv))

-- The later of a boundary and a base; the boundary where there is no base, or one that is no later.
abbrev pub later_state : {F D : Type 0} → Commitment F D → Option (Commitment F D) → Commitment F D
later_state inherited None = inherited
later_state inherited (Some base) = if nat_lt inherited.size base.size then base else inherited

-- Where roots with the same bytes are equal, states that are the same are equal.
pub is_same-exact : {F D : Type 0} (bytes : D → List ℕ) → ((x y : D) → bytes x ≡ bytes y → x ≡ y)
    → (a b : Commitment F D) → is_same bytes a b ≡ true → a ≡ b
is_same-exact {F} {D} bytes exact a b same = equal sizes roots
  where
    roots_same : Bool
    roots_same = pointwise nat_eq (bytes a.root) (bytes b.root)

    sizes : a.size ≡ b.size
    sizes = (Decides-eqb a.size b.size).0 (first_so (a.size == b.size) roots_same same)

    roots : a.root ≡ b.root
    roots = exact a.root b.root
        ((bytes_decides (bytes a.root) (bytes b.root)).0 (second_so (a.size == b.size) roots_same same))

    equal : a.size ≡ b.size → a.root ≡ b.root → a ≡ b
    equal p q i = record { size = p i; root = q i }
