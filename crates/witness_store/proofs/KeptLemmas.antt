-- What a search has found, as one of the witnesses that a log keeps.
use Rattle.std.proofs.Common.{◌≡◌, ℕ, ◌+◌, ◌-◌, ◌≤◌, min, max, List, Option, Some, None, sym, subst, arith}
use Rattle.codec_base.specs.Codec.{Reading, IsLawful}
use Rattle.codec_base.specs.Combine.{through_at}
use Rattle.journal_base.specs.Items.{Items}
use Rattle.journal_base.specs.View.{View, IsHeld}
use Rattle.volume_base.specs.Log.{end_of}
use Rattle.volume_base.specs.Volume.{State}
use Rattle.witness_store.specs.declared.search.Found.{Found}
use Rattle.witness_store.specs.declared.witness.Witness.{Witness}
use Rattle.witness_store.specs.Searched.{IsHere, IsFirst}
use Rattle.witness_store.specs.Witness.{text_of, IsAllowed, of_parts, witness_at, witness_lawful}
use Rattle.witness_store.specs.Witnesses.{witnesses_of, Keeps, place_of, kept_from, IsKept}
use Rattle.witness_store.proofs.PlaceLemmas.{place_found, kept_end, listed, none_of_size}
use Rattle.witness_store.proofs.SearchLemmas.{first_in_log}

module _ {F D : Type 0} (spelling : D → List ℕ) (admits : D → Type 0) (reads : List ℕ → Reading D) (lawful : IsLawful spelling admits reads) (view : View (Unit {0})) (s : State) (ws : List (Witness F D)) (held : IsHeld view s) (keeps : Keeps (witnesses_of spelling admits view s) ws) (n : ℕ) (found : Found F D) (first : IsFirst (witnesses_of spelling admits view s) view.start view.end n found) where
  abbrev items : Items (Witness F D)
  items = witnesses_of spelling admits view s

  abbrev witness_reads : List ℕ → Reading (Witness F D)
  witness_reads = through_at of_parts (witness_at reads)

  abbrev is_lawful : IsLawful (text_of {F = F} spelling) (IsAllowed admits) witness_reads
  is_lawful = witness_lawful spelling admits reads lawful

  in_log : IsFirst items items.log.start (end_of items.log) n found
  in_log = first_in_log spelling admits view s n found held first

  -- the one that was found, of so many operations
  pub kept_here : (w : Witness F D) → found.here ≡ Some w → w.size ≡ n → IsKept ws view.start n (Some (found.position, w))
  kept_here w is same =
      let here : IsHere items view.end found.position n (Some w) = subst (λ (o : Option (Witness F D)). IsHere items view.end found.position n o) is first.here in
      (first.low, listed items witness_reads is_lawful ws keeps found.position w (let low = first.low in let start = held.start_is in omega (arith, low, start)) here.1, same)

  none_kept : IsHere items (end_of items.log) found.position (n + 1) found.here → IsKept ws view.start n None
  none_kept more p w low there same = none_of_size items witness_reads is_lawful ws keeps n found in_log more p w (let start = held.start_is in omega (arith, low, start)) there same

  -- none was found, or one of more
  pub kept_none : found.here ≡ None → IsKept ws view.start n None
  kept_none is =
      none_kept (subst (λ (o : Option (Witness F D)). IsHere items (end_of items.log) found.position (n + 1) o) (sym is) (subst (λ (o : Option (Witness F D)). IsHere items (end_of items.log) found.position n o) is in_log.here))

  pub kept_other : (w : Witness F D) → found.here ≡ Some w → (w.size ≡ n → ⊥) → IsKept ws view.start n None
  kept_other w is other =
      let here : IsHere items (end_of items.log) found.position n (Some w) = subst (λ (o : Option (Witness F D)). IsHere items (end_of items.log) found.position n o) is in_log.here in
      let least = here.2 in
      let more : n + 1 ≤ w.size = at_least w.size least other in
      none_kept (subst (λ (o : Option (Witness F D)). IsHere items (end_of items.log) found.position (n + 1) o) (sym is) (here.0, here.1, more))
    where
      at_least : (m : ℕ) → n ≤ m → (m ≡ n → ⊥) → n + 1 ≤ m
      at_least m le ne = omega (arith, le, ne)

  -- its place among the witnesses
  pub kept_first : found.position ≡ place_of ws view.start n
  kept_first = subst (λ (b : ℕ). found.position ≡ place_of ws b n) (sym held.start_is) (sym (place_found items witness_reads is_lawful ws keeps n found in_log))

  -- from where on a prune keeps all
  pub kept_place : (least reach : ℕ) → least ≡ min found.position (max view.end 1 - 1) → reach ≡ end_of items.log → min least reach ≡ kept_from ws view.start n
  kept_place least reach is reaches =
      let place = kept_first in
      let whole = kept_end items witness_reads is_lawful ws keeps in
      let end = held.end_is in
      omega (arith, place, is, reaches, whole, end)
