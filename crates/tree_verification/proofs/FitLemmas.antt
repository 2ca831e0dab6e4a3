-- The tree of a list of elements is told by the proof of a range of it.
use Rattle.std.proofs.Common.{◌≡◌, ℕ, ◌+◌, ◌≤◌, true, List, [], length, map, get_or, Option, refl, sym, ◌∙◌, ap, subst, arith}
use Rattle.std.specs.Prelude.{◌-◌, slice_range}
use Rattle.tree_shape.specs.Hashing.{Hashing}
use Rattle.tree_shape.specs.Shape.{Shape}
use Rattle.tree_shape.specs.Slow.{leaf, leaf_at, leaf_digests, node}
use Rattle.tree_proof.specs.declared.proof.Proof.{Proof}
use Rattle.tree_proof.specs.Cover.{Opened, meets, cover, cover_digests}
use Rattle.tree_proof.specs.Check.{item_leaf}
use Rattle.tree_proof.proofs.Complete.{range_leaf}
use Rattle.tree_verification.specs.Told.{told_nodes, in_tree, IsHashed, IsTold, entries, TellsExactly}

module _ {D : Type 0} (s : Shape) (h : Hashing D) (leaves : List D) where
  slow-hashed : (met : Opened) (leaf_of : ℕ → D) → ((x : ℕ) → met x 0 ≡ true → leaf_of x ≡ leaf_at h leaves x) → IsHashed s h met leaf_of (node s h leaves)
  unfolding node
  slow-hashed met leaf_of right = record { leaves = λ x m. sym (right x m); parents = λ x k m. refl }

pub slow-told : {F D : Type 0} (s : Shape) (h : Hashing D) (proof : Proof F D) (a : ℕ) (items elements : List (List ℕ)) → length elements ≡ proof.leaves → a + length items ≤ proof.leaves
    → proof.digests ≡ cover_digests s h (leaf_digests s h elements) (meets a (a + length items)) proof.leaves → items ≡ slice_range elements a (a + length items) → IsTold s h proof a items (node s h (leaf_digests s h elements))
slow-told s h proof a items elements l within digests are = record {
  hashed = slow-hashed s h (leaf_digests s h elements) (meets a (a + length items)) (item_leaf s h a items)
      (λ x m. ap (λ ls. leaf s h x (get_or ls (x - a) [])) are ∙ range_leaf s h elements a (a + length items) x (omega (arith, l, within)) m);
  digests = digests;
}

-- the same where the first leaf, the leaves and the digests have other names
pub told-from : {F D : Type 0} (s : Shape) (h : Hashing D) (proof : Proof F D) (a : ℕ) (items : List (List ℕ)) (told : ℕ → Option D) (from n : ℕ) (ds : List D) (tree : ℕ → ℕ → D) → from ≡ a → n ≡ proof.leaves → ds ≡ proof.digests
    → IsTold s h proof a items tree
    → (IsHashed s h (meets from (from + length items)) (item_leaf s h from items) tree → ds ≡ map (in_tree tree) (cover s (meets from (from + length items)) n)
    → TellsExactly told (entries s tree (told_nodes s (meets from (from + length items)) n)))
    → TellsExactly told (entries s tree (told_nodes s (meets a (a + length items)) proof.leaves))
told-from s h proof a items told from n ds tree e f g t gives =
    let hashed = subst (λ b. IsHashed s h (meets b (b + length items)) (item_leaf s h b items) tree) (sym e) t.hashed in
    let digests = g ∙ t.digests ∙ ap (λ b. map (in_tree tree) (cover s (meets b (b + length items)) proof.leaves)) (sym e) ∙ ap (λ m. map (in_tree tree) (cover s (meets from (from + length items)) m)) (sym f) in
    subst (λ b. TellsExactly told (entries s tree (told_nodes s (meets b (b + length items)) proof.leaves))) e
    (subst (λ m. TellsExactly told (entries s tree (told_nodes s (meets from (from + length items)) m))) f (gives hashed digests))
