-- What a search under a cap selects.
use Rattle.std.proofs.Common.{◌≡◌, ℕ, ◌+◌, ◌-◌, ◌^◌, ◌<◌, ◌≤◌, List, length, drop, Option, Some, None, refl, sym, ◌∙◌, ap, subst, arith}
use Rattle.std.specs.Prelude.{slice_get, MatchOption}
use Rattle.std.specs.Option.{option_map}
use Rattle.std.proofs.lemmas.Option.{slice_get_within, slice_get-map}
use Rattle.std.proofs.lemmas.List.{length-map}
use Rattle.codec_base.specs.Codec.{Reading, IsLawful}
use Rattle.codec_base.specs.Combine.{through_at}
use Rattle.journal_base.specs.Items.{Items}
use Rattle.journal_base.specs.View.{View, log_of, IsHeld}
use Rattle.volume_base.specs.Log.{end_of}
use Rattle.volume_base.specs.Volume.{State}
use Rattle.witness_store.specs.declared.search.Found.{Found}
use Rattle.witness_store.specs.declared.witness.Witness.{Witness}
use Rattle.witness_store.specs.Searched.{IsWitnessAt, IsBefore, IsHere, IsFirst}
use Rattle.witness_store.specs.Selected.{IsAbove, IsSelected, NoneWithin, IsLastWithin}
use Rattle.witness_store.specs.Witness.{text_of, IsAllowed, of_parts, witness_at, witness_lawful}
use Rattle.witness_store.specs.Witnesses.{witnesses_of, sizes_of, Keeps, place_of}
use Rattle.witness_store.proofs.PlaceLemmas.{place_found, kept_end, kept_count, listed, first_is, all_at}
use Rattle.witness_store.proofs.SearchLemmas.{first_in_log}

module _ {F D : Type 0} (items : Items (Witness F D)) where
  above_at : (start end position cap : ℕ) (here : Option (Witness F D)) → position < end → IsHere items end position (cap + 1) here → IsAbove items position cap
  above_at start end position cap None lt is = absurd (omega (arith, lt, is))
  above_at start end position cap (Some w) lt is = record { witness = w; here = is.1; more = (let least = is.2 in omega (arith, least)) }

  -- the witness before the first above the cap
  pub selected_before : (start end cap : ℕ) (found : Found F D) (w : Witness F D) → IsFirst items start end (cap + 1) found → found.before ≡ Some w → IsSelected items start end (Some cap) (found.position, w)
  selected_before start end cap found w first is =
      let before : IsBefore items start found.position (cap + 1) (Some w) = subst (λ (o : Option (Witness F D)). IsBefore items start found.position (cap + 1) o) is first.before in
      let less = before.2 in
      (before.0, first.high, before.1, omega (arith, less), λ lt. above_at start end found.position cap found.here lt first.here)

  -- there is none
  pub none_selected : (start end cap : ℕ) (found : Found F D) → start < end → IsFirst items start end (cap + 1) found → found.before ≡ None → NoneWithin items start (Some cap)
  none_selected start end cap found some first is =
      let at : found.position ≡ start = subst (λ (o : Option (Witness F D)). IsBefore items start found.position (cap + 1) o) is first.before in
      subst (λ (p : ℕ). IsAbove items p cap) at (above_at start end found.position cap found.here (omega (arith, some, at)) first.here)

  -- Where the log keeps the witnesses of a list.
  module _ (reads : List ℕ → Reading (Witness F D)) (lawful : IsLawful items.spelling items.admits reads) (ws : List (Witness F D)) (keeps : Keeps items ws) where
    pub last_before : (cap : ℕ) (found : Found F D) (w : Witness F D) → IsFirst items items.log.start (end_of items.log) (cap + 1) found → found.before ≡ Some w → IsLastWithin ws items.log.start (Some cap) (Some (found.position, w))
    last_before cap found w first is =
        let before : IsBefore items items.log.start found.position (cap + 1) (Some w) = subst (λ (o : Option (Witness F D)). IsBefore items items.log.start found.position (cap + 1) o) is first.before in
        let low = before.0 in
        (sym (place_found items reads lawful ws keeps (cap + 1) found first), low, listed items reads lawful ws keeps (found.position - 1) w (omega (arith, low)) before.1)

    pub none_before : (cap : ℕ) (found : Found F D) → IsFirst items items.log.start (end_of items.log) (cap + 1) found → found.before ≡ None → IsLastWithin ws items.log.start (Some cap) None
    none_before cap found first is =
        let at : found.position ≡ items.log.start = subst (λ (o : Option (Witness F D)). IsBefore items items.log.start found.position (cap + 1) o) is first.before in
        place_found items reads lawful ws keeps (cap + 1) found first ∙ at

    -- the last of all, which is within a cap that none is above
    none_past : (cap : ℕ) → ((w : Witness F D) → items.admits w → w.size ≤ cap) → place_of ws items.log.start (cap + 1) ≡ length ws
    none_past cap small =
        let kept = drop items.log.start ws in
        let sizes = sizes_of kept in
        let count : length sizes ≡ length items.log.items = length-map kept (λ (v : Witness F D). v.size) ∙ kept_count items reads lawful ws keeps in
        let whole = kept_end items reads lawful ws keeps in
        let all = first_is (cap + 1) sizes (length sizes) keeps.rising (omega arith) (λ j m e is. let most = within j m (slice_get kept j) refl is in omega (arith, most)) (λ m is. let lt = slice_get_within sizes (length sizes) m is in absurd (omega (arith, lt))) in
        omega (arith, all, count, whole)
      where
        within : (j m : ℕ) (o : Option (Witness F D)) → slice_get (drop items.log.start ws) j ≡ o → slice_get (sizes_of (drop items.log.start ws)) j ≡ Some m → m ≤ cap
        within j m None is size =
            let there : option_map (λ (v : Witness F D). v.size) None ≡ Some m = sym (ap (option_map (λ (v : Witness F D). v.size)) is) ∙ sym (slice_get-map (λ (v : Witness F D). v.size) (drop items.log.start ws) j) ∙ size in
            absurd cc
        within j m (Some v) is size =
            let there : option_map (λ (v : Witness F D). v.size) (Some v) ≡ Some m = sym (ap (option_map (λ (v : Witness F D). v.size)) is) ∙ sym (slice_get-map (λ (v : Witness F D). v.size) (drop items.log.start ws) j) ∙ size in
            let same : v.size ≡ m = cc in
            let low = small v (all_at items.admits (drop items.log.start ws) j v keeps.allowed is) in
            omega (arith, same, low)

    pub last_of_all : (cap : Option ℕ) (w : Witness F D) → items.log.start < end_of items.log → MatchOption cap (Unit {0}) (λ c. (v : Witness F D) → items.admits v → v.size ≤ c) → IsWitnessAt items (end_of items.log - 1) w
        → IsLastWithin ws items.log.start cap (Some (end_of items.log, w))
    last_of_all None w some small at = (kept_end items reads lawful ws keeps, some, listed items reads lawful ws keeps (end_of items.log - 1) w (omega (arith, some)) at)
    last_of_all (Some c) w some small at =
        (kept_end items reads lawful ws keeps ∙ sym (none_past c small), some, listed items reads lawful ws keeps (end_of items.log - 1) w (omega (arith, some)) at)

-- The same of what a volume holds of a journal, by the journal's view.
module _ {F D : Type 0} (spelling : D → List ℕ) (admits : D → Type 0) (reads : List ℕ → Reading D) (lawful : IsLawful spelling admits reads) (view : View (Unit {0})) (s : State) (ws : List (Witness F D)) (held : IsHeld view s) (keeps : Keeps (witnesses_of spelling admits view s) ws) where
  abbrev witness_reads : List ℕ → Reading (Witness F D)
  witness_reads = through_at of_parts (witness_at reads)

  abbrev is_lawful : IsLawful (text_of {F = F} spelling) (IsAllowed admits) witness_reads
  is_lawful = witness_lawful spelling admits reads lawful

  pub found_last : (cap above : ℕ) (o : Option ℕ) (found : Found F D) (w : Witness F D) → above ≡ cap + 1 → o ≡ Some cap → IsFirst (witnesses_of spelling admits view s) view.start view.end above found → found.before ≡ Some w → IsLastWithin ws view.start o (Some (found.position, w))
  found_last cap above o found w is_above is_some first is =
      let at = first_in_log spelling admits view s (cap + 1) found held (subst (λ (n : ℕ). IsFirst (witnesses_of spelling admits view s) view.start view.end n found) is_above first) in
      let last = last_before (witnesses_of spelling admits view s) witness_reads is_lawful ws keeps cap found w at is in
      subst (λ (b : ℕ). IsLastWithin ws b o (Some (found.position, w))) (sym held.start_is) (subst (λ (c : Option ℕ). IsLastWithin ws (log_of view s).start c (Some (found.position, w))) (sym is_some) last)

  pub found_none : (cap above : ℕ) (o : Option ℕ) (found : Found F D) → above ≡ cap + 1 → o ≡ Some cap → IsFirst (witnesses_of spelling admits view s) view.start view.end above found → found.before ≡ None → IsLastWithin ws view.start o None
  found_none cap above o found is_above is_some first is =
      let at = first_in_log spelling admits view s (cap + 1) found held (subst (λ (n : ℕ). IsFirst (witnesses_of spelling admits view s) view.start view.end n found) is_above first) in
      let last = none_before (witnesses_of spelling admits view s) witness_reads is_lawful ws keeps cap found at is in
      subst (λ (b : ℕ). IsLastWithin ws b o None) (sym held.start_is) (subst (λ (c : Option ℕ). IsLastWithin ws (log_of view s).start c None) (sym is_some) last)

  pub last_read : (o : Option ℕ) (end : ℕ) (w : Witness F D) → end ≡ view.end → view.start < view.end → MatchOption o (Unit {0}) (λ c. 2 ^ 62 ≤ c) → IsWitnessAt (witnesses_of spelling admits view s) (end - 1) w → IsLastWithin ws view.start o (Some (end, w))
  last_read o end w is some large at =
      let ends : end ≡ end_of (log_of view s) = is ∙ held.end_is in
      let items : Items (Witness F D) = witnesses_of spelling admits view s in
      let there : IsWitnessAt items (end_of items.log - 1) w = subst (λ (e : ℕ). IsWitnessAt items (e - 1) w) ends at in
      let last = last_of_all items witness_reads is_lawful ws keeps o w (omega (arith, some, held.start_is, held.end_is)) (all_small o large) there in
      subst (λ (b : ℕ). IsLastWithin ws b o (Some (end, w))) (sym held.start_is) (subst (λ (e : ℕ). IsLastWithin ws items.log.start o (Some (e, w))) (sym ends) last)
    where
      all_small : (o : Option ℕ) → MatchOption o (Unit {0}) (λ c. 2 ^ 62 ≤ c) → MatchOption o (Unit {0}) (λ c. (v : Witness F D) → IsAllowed admits v → v.size ≤ c)
      all_small None large = tt
      all_small (Some c) large = λ v ok. let most = ok.1.0.1 in omega (arith, large, most)
