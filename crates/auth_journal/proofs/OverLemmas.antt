-- The nodes of a sealed batch over a tree, and the peaks among them.
use Rattle.std.proofs.Common.{◌≡◌, inl, inr, ℕ, ◌-◌, ◌<◌, ◌≤◌, List, length, map, Option, Some, None, refl, sym, ◌∙◌, ap, subst, arith}
use Rattle.std.specs.Prelude.{slice_get, IsSome, IfOk, IfErr, IsOkUnless, Result, Ok, Err}
use Rattle.std.specs.Global.{Vec}
use Rattle.std.proofs.lemmas.Bool.Decides.{leb_tells}
use Rattle.std.proofs.lemmas.Option.{slice_get_past, slice_get_within}
use Rattle.tree_shape.specs.Kept.{KeepsPeaks}
use Rattle.tree_shape.specs.Pins.{pins}
use Rattle.tree_shape.specs.Shape.{Shape, IsLawful, made}
use Rattle.tree_shape.proofs.NeededLemmas.{made_le, needed_from}
use Rattle.tree_store.specs.Stores.{IsUnread}
use Rattle.tree_store.specs.declared.error.Error.{Error}
use Rattle.tree_store.specs.declared.error.Error.TheVariants.{Memory, ElementPruned}
use Rattle.tree_core.specs.Batches.{Sealed, IsSoundSealed, sealed_node}
use Rattle.tree_core.specs.Links.{joined_nodes}
use Rattle.tree_core.specs.Overlay.{overlaid}
use Rattle.tree_core.specs.Tree.{Tree, node_at, IsSound}
use Rattle.tree_core.proofs.OverlayLemmas.{sealed-size, sealed-since}
use Rattle.tree_core.proofs.PrunedLemmas.{peak_stands}
use Rattle.tree_core.proofs.OverlayLemmas.{overlay-tree}
use Rattle.merkle_full.proofs.PeakLemmas.{peak_of_pin, peaks_told}
use Rattle.auth_journal.specs.Proving.{AreBatchPeaks}

module _ {D : Type 0} (s : Shape) (b : Sealed D) (t : Tree D) where
  -- the batch has the node
  pub over_batch : (p : ℕ) (d : D) → Some d ≡ sealed_node s b p → Some d ≡ overlaid s b t p
  over_batch p d is = elim (leb_tells (length (made s b.first)) p) [
    | inl v ↦ rw v.0 (rw v.0 at is)
    | inr u ↦ absurd (let none = rw u.0 at is in cc)
  ]

  -- it hasn't, and the position is one of the tree with the batch
  pub over_tree : (p : ℕ) → IsSoundSealed s b → None ≡ sealed_node s b p → p < length (made s b.leaves) → node_at t p ≡ overlaid s b t p
  over_tree p sound is lt = elim (leb_tells (length (made s b.first)) p) [
    | inl v ↦ absurd (none_some (sealed_node s b p) (sym is) (sealed-since s b p sound v.1 lt))
    | inr u ↦ rw u.0 refl
  ]
    where
      none_some : (o : Option D) → o ≡ None → IsSome o → ⊥
      none_some None e i = absurd (cc)
      none_some (Some d) e i = absurd (cc)

  -- past the tree with the batch there is none
  pub over_past : (p : ℕ) → IsSoundSealed s b → length (made s b.leaves) ≤ p → None ≡ overlaid s b t p
  over_past p sound le = elim (leb_tells (length (made s b.first)) p) [
    | inl v ↦ rw v.0 (sym (slice_get_past (joined_nodes b.links) (p - length (made s b.first)) (omega (arith, le, sealed-size s b sound))))
    | inr u ↦ absurd (omega (arith, u.1, sealed-size s b sound, le))
  ]

  module _ (w : IsLawful s) (q : KeepsPeaks s) (sound : IsSoundSealed s b) (base : IsSound s t) (reach : b.first ≤ t.leaves) where
    there : (p : ℕ) → p < length (made s b.leaves) → (p < length (made s b.first) → IsSome (node_at t p)) → IsSome (overlaid s b t p)
    there p lt low = elim (leb_tells (length (made s b.first)) p) [
      | inl v ↦ (let some = rw v.0 at (sealed-since s b p sound v.1 lt) in rw v.0 some)
      | inr u ↦ rw u.0 (low u.1)
    ]

    -- each peak of a number of leaves from the tree's boundary on
    pub peak_there : (n i p : ℕ) → t.boundary ≤ n → n ≤ b.leaves → slice_get (pins s n) i ≡ Some p → IsSome (overlaid s b t p)
    peak_there n i p low high is =
        let at = peak_of_pin s n i p is in
        let stands = peak_stands s (made s n) n (s.heights n) at.start at.height (w.peaks n) at.peak in
        let within = slice_get_within (made s n) (s.position at.start at.height) (at.start, at.height) stands in
        let grow = made_le s n b.leaves high in
        let first = made_le s b.first t.leaves reach in
        subst (λ o. IsSome (overlaid s b t o)) (sym at.position)
        (there (s.position at.start at.height) (omega (arith, within, grow))
        (λ below. elim (needed_from s w q n t.boundary at.start at.height low (inl at.peak)) [
          | inl late ↦ base.held.since (s.position at.start at.height) late (omega (arith, below, first))
          | inr peak ↦ base.held.peaks at.start at.height peak
        ]))

-- where each is there, only memory can be wanting
pub all_there : {F P D : Type 0} (told : ℕ → Option D) (ps : List ℕ) (result : Result P (Error F)) → ((i p : ℕ) → slice_get ps i ≡ Some p → IsSome (told p)) → IfErr result (IsUnread told ps) → IsOkUnless result Memory
all_there told ps (Ok x) f u = tt
all_there {F} told ps (Err e) f u = why e u
  where
    none_some : {D : Type 0} (o : Option D) → o ≡ None → IsSome o → ⊥
    none_some None e i = absurd (cc)
    none_some (Some d) e i = absurd (cc)

    why : (e : Error F) → IsUnread told ps e → e ≡ Memory
    why (ElementPruned p) u = absurd (none_some (told p) u.absent (f u.index p u.here))
    why Memory u = refl
    why _ u = absurd u

-- the peaks that were read
pub peaks_read : {F D : Type 0} (s : Shape) (b : Sealed D) (t : Tree D) (n : ℕ) (ps : List ℕ) (result : Result (Vec D) (Error F)) → IsLawful s → KeepsPeaks s → IsSoundSealed s b → IsSound s t → n ≤ b.leaves → ps ≡ pins s n
    → IfOk result (λ found. map Some found.items ≡ map (overlaid s b t) ps) → IfErr result (IsUnread (overlaid s b t) ps) → AreBatchPeaks s b t n result
peaks_read s b t n ps (Ok found) w q sound base le are nodes unread = record {
  nodes = nodes ∙ ap (map (overlaid s b t)) are;
  list = λ h all made of sealed alike.
      let tree = overlay-tree s h all made b t w sound of sealed alike in
      peaks_told s h made b.leaves (overlaid s b t) n w (omega (arith, le, tree.count)) tree found.items (nodes ∙ ap (map (overlaid s b t)) are);
  first = tt;
  kept = λ low reach. tt;
}
peaks_read {F} {D} s b t n ps (Err e) w q sound base le are nodes unread = record {
  nodes = tt;
  list = tt;
  first = subst (λ (qs : List ℕ). IsUnread (overlaid s b t) qs e) are unread;
  kept = λ low reach.
      let read : Result (Vec D) (Error F) = Err e in
      all_there (overlaid s b t) (pins s n) read (λ i p is. peak_there s b t w q sound base reach n i p low le is) (subst (λ (qs : List ℕ). IsUnread (overlaid s b t) qs e) are unread);
}
