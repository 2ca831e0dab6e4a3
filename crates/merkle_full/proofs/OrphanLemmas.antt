-- A leaf behind the nodes of complete leaves.
use Rattle.std.proofs.Common.{◌≡◌, inl, inr, ℕ, suc, ◌+◌, ◌<◌, ◌≤◌, List, [], ◌∷◌, ◌++◌, length, take, drop, get_or, Some, Bool, true, Result, Ok, Err, refl, sym, ◌∙◌, ap, subst, arith}
use Rattle.std.specs.Prelude.{slice_get, IfOk, nat_lt, ◌&&◌}
use Rattle.std.specs.Option.{option_map}
use Rattle.std.proofs.Math.Seq.{drop-append_seam}
use Rattle.std.proofs.lemmas.Bool.{cases_lt, lt-ltb}
use Rattle.std.proofs.lemmas.List.{take_more}
use Rattle.std.proofs.lemmas.Option.{slice_get-map, slice_get_within, same_Some}
use Rattle.volume_base.specs.declared.error.JournalError.{JournalError}
use Rattle.volume_base.specs.declared.error.JournalError.TheVariants as journal
use Rattle.journal_base.specs.Answers.{IsOfRead}
use Rattle.journal_base.specs.Items.{Items, IsCorrupt}
use Rattle.tree_shape.specs.Hashing.{Hashing}
use Rattle.tree_shape.specs.Shape.{Shape, made, Stands}
use Rattle.tree_shape.specs.Places.{get-behind}
use Rattle.tree_shape.specs.Slow.{node, node_of, nodes}
use Rattle.tree_shape.proofs.NeededLemmas.{made_le}
use Rattle.tree_store.specs.Errors.{from_journal}
use Rattle.tree_store.specs.Stored.{size}
use Rattle.tree_store.specs.declared.error.Error.TheVariants.{Journal}
use Rattle.tree_core.specs.Batches.{Unsealed, with_digests}
use Rattle.tree_verification.proofs.NodeLemmas.{stands-later}
use Rattle.merkle_full.specs.Preparing.{has_orphan, NotReached}
use Rattle.merkle_full.proofs.FullLemmas.{length-nodes}

-- leaf n stands behind the nodes of n leaves
leaf_stands : (s : Shape) (n : ℕ) → Stands (made s (n + 1)) (length (made s n)) n 0
unfolding made
leaf_stands s n = let e : n + 1 ≡ suc n = omega arith in rw e (get-behind (made s n) (s.parents n) (n, 0))

-- a digest behind the nodes of the first leaves of a list is its next
pub next_leaf : {D : Type 0} (s : Shape) (h : Hashing D) (all : List D) (n : ℕ) (d : D) → n < length all → slice_get (nodes s h all) (length (made s n)) ≡ Some d → take (n + 1) all ≡ take n all ++ (d ∷ [])
unfolding node
next_leaf s h all n d lt is =
    let stands = stands-later s (n + 1) (length all) (length (made s n)) n 0 (omega (arith, lt)) (leaf_stands s n) in
    let slow : slice_get (nodes s h all) (length (made s n)) ≡ Some (get_or all n (h.digest [])) = slice_get-map (node_of s h all) (made s (length all)) (length (made s n)) ∙ ap (option_map (node_of s h all)) stands in
    take_more all n (h.digest []) lt ∙ ap (λ (x : _). take n all ++ (x ∷ [])) (same_Some _ _ (sym slow ∙ is))

-- what a batch of one leaf adds to a list
pub leaf_joined : {D : Type 0} (all : List D) (b c : Unsealed D) (d : D) → c ≡ with_digests b (d ∷ []) → b.digests ≡ [] → all ++ drop (length all) (all ++ c.digests) ≡ all ++ (d ∷ [])
leaf_joined all b c d is none =
    let one : c.digests ≡ d ∷ [] = ap (λ (u : Unsealed _). u.digests) is ∙ ap (λ (l : List _). l ++ (d ∷ [])) none in
    ap (λ (l : List _). all ++ l) (drop-append_seam all c.digests ∙ one)

-- what holds of the value in two ways
pub ok_both : {T E : Type 0} (P Q R : T → Type 0) (r : Result T E) → ((x : T) → P x → Q x → R x) → IfOk r P → IfOk r Q → IfOk r R
ok_both P Q R (Ok x) f p q = f x p q
ok_both P Q R (Err e) f p q = tt

-- an orphan that is a node of the list is its next leaf
pub orphan_next : {D : Type 0} (s : Shape) (h : Hashing D) (all : List D) (n p : ℕ) (d : D) → p ≡ length (made s n) → slice_get (nodes s h all) p ≡ Some d → take (n + 1) all ≡ take n all ++ (d ∷ [])
orphan_next s h all n p d place is = elim (cases_lt n (length all)) [
  | inl lt ↦ next_leaf s h all n d lt (ap (slice_get (nodes s h all)) (sym place) ∙ is)
  | inr le ↦ absurd (let within = slice_get_within (nodes s h all) p d is in let less = made_le s (length all) n le in omega (arith, within, less, place, length-nodes s h all))
]

has_orphan_here : (s : Shape) (high end n : ℕ) → n < high → size s n < end → has_orphan s high end n ≡ true
has_orphan_here s high end n room here = ap (λ (b : Bool). b && nat_lt (size s n) end) (lt-ltb n high room) ∙ lt-ltb (size s n) end here

-- why it can't be read
pub not_reached : {F D : Type 0} (items : Items D) (s : Shape) (high start end n pos : ℕ) (e : JournalError) → pos ≡ size s n → n < high → pos < end → start ≤ size s n
    → ((p : ℕ) → e ≡ journal.ItemPruned p → pos < start) → ((p : ℕ) → e ≡ journal.ItemOutOfRange p → end ≤ pos) → ((p : ℕ) → e ≡ journal.Corruption p → (p ≡ pos) × IsCorrupt items pos) → IsOfRead e → NotReached {F = F} items s high end n (from_journal e)
not_reached items s high start end n pos (journal.ItemPruned p) at room here low pruned past corrupt is = absurd (let lt = pruned p refl in omega (arith, lt, low, at))
not_reached items s high start end n pos (journal.ItemOutOfRange p) at room here low pruned past corrupt is = absurd (let le = past p refl in omega (arith, le, here))
not_reached items s high start end n pos journal.EmptyAppend at room here low pruned past corrupt is = absurd (cc)
not_reached items s high start end n pos journal.SizeOverflow at room here low pruned past corrupt is = absurd (cc)
not_reached items s high start end n pos (journal.Tree t) at room here low pruned past corrupt is = absurd (cc)
not_reached items s high start end n pos journal.Volume at room here low pruned past corrupt is = inl tt
not_reached items s high start end n pos journal.Memory at room here low pruned past corrupt is = inl tt
not_reached items s high start end n pos (journal.Corruption p) at room here low pruned past corrupt is =
    let bad = corrupt p refl in
    let within : size s n < end = omega (arith, at, here) in
    inr (has_orphan_here s high end n room within, ap (λ (q : ℕ). Journal (journal.Corruption q)) (bad.0 ∙ at), subst (IsCorrupt items) at bad.1)
