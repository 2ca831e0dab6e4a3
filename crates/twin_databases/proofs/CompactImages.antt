-- What a crash leaves of the compact database's log while it is opened.
use Rattle.std.proofs.Common.{◌≡◌, ◌≢◌, inl, inr, true, false, ℕ, zero, suc, ◌+◌, ◌<◌, ◌≤◌, Bool, List, [], ◌∷◌, length, map, take, min, Option, Some, None, refl, sym, ◌∙◌, ap, subst, arith}
use Rattle.std.specs.Prelude.{slice_get, nat_le, Result, Ok, Err, IfOk}
use Rattle.std.proofs.lemmas.List.{length-take}
use Rattle.codec_base.specs.declared.error.CodecError.{CodecError}
use Rattle.volume_base.specs.Bounds.{IsPartOf}
use Rattle.volume_base.specs.Log.{Log, end_of, Shrinks}
use Rattle.volume_base.specs.Moments.{LogHas, LogKeeps}
use Rattle.volume_base.specs.Volume as volume
use Rattle.volume_base.proofs.BoundLemmas.{part_shrinks, part_wider}
use Rattle.volume_base.proofs.MomentLemmas.{log_moves}
use Rattle.journal_base.specs.View.{View}
use Rattle.tree_shape.specs.Mmr.{mmr}
use Rattle.tree_shape.specs.Sha256Codec.{bytes_of, IsDigest}
use Rattle.tree_shape.specs.declared.mmr.Mmr.{Mmr}
use Rattle.log_model.specs.AppliedSizes.{first_at_least}
use Rattle.log_model.specs.Good.{IsDurable}
use Rattle.log_model.specs.Machine.{State}
use Rattle.log_model.specs.Opening.{has, last_kept}
use Rattle.log_model.specs.Stored.{CompactStands, durable_witnesses}
use Rattle.log_model.specs.Witness.{witness_text}
use Rattle.log_model.proofs.OpeningLemmas.{rises_from_zero, applied_some}
use Rattle.log_model.proofs.SizeLemmas.{le_is, not_le}
use Rattle.chain_core.specs.declared.error.Error.{Error}
use Rattle.witness_store.specs.StoreView.{IsRestarted}
use Rattle.witness_store.specs.Witness.{text_of}
use Rattle.compact_db.specs.Opening.{IsLatest, IsFirstCommit, Begins, BeginsWith, Opens}
use Rattle.compact_db.specs.WitnessOf.{witness_of}
use Rattle.compact_db.proofs.ApplyLemmas.{read_some}
use Rattle.compact_db.proofs.ServingLemmas.{front_witness}
use Rattle.list_machine.specs.Operation.{Operation, meaning, sha}
use Rattle.list_machine.specs.Step.{plain_commit}
use Rattle.list_machine.proofs.LogPlaces.{has_at, at_has}
use Rattle.twin_databases.specs.CompactKind.{CompactView, IsOpenable}
use Rattle.twin_databases.proofs.CompactLemmas.{commit_by}
use Rattle.twin_databases.proofs.CompactOpening.{under_cap}
use Rattle.twin_databases.proofs.CompactSizes.{first_here, IsLastAt, IsFound, found_last}
use Rattle.twin_databases.proofs.CompactStanding.{texts_are, has_states, is_latest, some_kept, none_kept, log_fresh}

-- the empty log at 0, or that with its one text
restarted_part : (t : List ℕ) (greatest : ℕ) (new : Log) → IsRestarted 0 t new → IsPartOf (t ∷ []) greatest 0 new
restarted_part t greatest new (inl is) =
    subst (IsPartOf (t ∷ []) greatest 0) (sym is) (record { items = refl; within = omega arith; start_high = omega arith; end_low = omega arith })
restarted_part t greatest new (inr is) =
    subst (IsPartOf (t ∷ []) greatest 0) (sym is) (record { items = refl; within = omega arith; start_high = omega arith; end_low = omega arith })

durable_count : (sizes : List ℕ) (d : ℕ) → 1 ≤ d → durable_witnesses sizes d ≡ first_at_least d sizes + 1
durable_count sizes zero some = absurd (omega (arith, some))
durable_count sizes (suc d) some = refl

module _ (allowed : Operation → Type 0) (s : State Operation) (log : Log) (is : IsOpenable allowed s)
    (stands : CompactStands mmr sha bytes_of meaning s.ops s.sizes s.prune s.durable log) where
  abbrev Texts : List (List ℕ)
  Texts = map (witness_text mmr sha meaning bytes_of s.ops) s.sizes

  abbrev Greatest : ℕ
  Greatest = first_at_least s.prune s.sizes

  abbrev Least : ℕ
  Least = durable_witnesses s.sizes s.durable

  -- what is durable is within what is selected
  durable_low : (most n j : ℕ) → s.durable ≤ most → IsLastAt most log 0 s.sizes n j → Least ≤ suc j
  durable_low most n j high last = by is.log.durable
    where
      by : IsDurable s.sizes s.durable → Least ≤ suc j
      by (inr (nothing, sizes)) = (let none = ap (durable_witnesses s.sizes) nothing in omega (arith, none))
      by (inl (k, lt, there)) = pick (nat_le k j) refl
        where
          at : slice_get s.sizes k ≡ Some s.durable
          at = read_some s.sizes k s.durable s.durable lt (sym there)

          first : first_at_least s.durable s.sizes ≡ k
          first = first_here 0 (length s.ops) s.durable k s.sizes (rises_from_zero (length s.ops) s.sizes is.log.sizes) at

          count : Least ≡ k + 1
          count = durable_count s.sizes s.durable (applied_some (length s.ops) s.durable s.sizes is.log.sizes (k, lt, there)) ∙ ap (λ (i : ℕ). i + 1) first

          zero_plus : (i : ℕ) → i ≡ 0 + i
          zero_plus i = omega arith

          pick : (b : Bool) → nat_le k j ≡ b → Least ≤ suc j
          pick true e = (let le = le_is k j e in omega (arith, le, count))
          pick false e =
              let gt = not_le k j e in
              let low = at_has log j (subst (λ (p : ℕ). has log p ≡ true) (sym (zero_plus j)) last.kept) in
              let start = low.0 in
              let end = stands.end_low in
              let here = subst (λ (p : ℕ). has log p ≡ true) (zero_plus k) (has_at log k (omega (arith, start, gt)) (omega (arith, end, count))) in
              let past = last.above k s.durable gt at here in
              absurd (omega (arith, past, high))

  module _ (nothing : s.durable ≡ 0) (sizes : s.sizes ≡ 1 ∷ []) where
    none_durable : Least ≡ 0
    none_durable = ap (durable_witnesses s.sizes) nothing

    texts_of : (op : Operation) → IsFirstCommit meaning op → Texts ≡ text_of bytes_of (witness_of {F = Mmr} mmr sha meaning (op ∷ []) 1) ∷ []
    texts_of op first =
        let count = ap length is.begins in
        let one : 1 ≤ length s.ops = omega (arith, count, length-take 1 s.ops) in
        let commit : plain_commit ≡ op = sym (commit_by op None 0 first.floored first.valued) in
        let front = front_witness {F = Mmr} mmr sha meaning s.ops [] 0 1 (omega arith) one in
        let begins = ap (λ (os : List Operation). witness_of {F = Mmr} mmr sha meaning os (length os)) is.begins in
        let same = ap (λ (o : Operation). witness_of {F = Mmr} mmr sha meaning (o ∷ []) 1) commit in
        ap (map (witness_text mmr sha meaning bytes_of s.ops)) sizes
        ∙ ap (λ w. text_of bytes_of w ∷ []) (front ∙ begins ∙ same)

    begins_step : (old new : Log) → IsPartOf Texts Greatest Least old → Begins Mmr mmr sha meaning bytes_of old new → IsPartOf Texts Greatest Least new
    begins_step old new part step = by step
      where
        cut : Shrinks 0 old new → IsPartOf Texts Greatest Least new
        cut shrinks =
            part_wider Texts Greatest Greatest (min Least 0) Least new (omega arith) (omega (arith, none_durable))
            (part_shrinks Texts old new Greatest Least 0 shrinks part)

        begun : (op : Operation) → IsFirstCommit meaning op → BeginsWith (text_of bytes_of (witness_of {F = Mmr} mmr sha meaning (op ∷ []) 1)) old new → IsPartOf Texts Greatest Least new
        begun op first (inl shrinks) = cut shrinks
        begun op first (inr restarted) =
            let text = text_of bytes_of (witness_of {F = Mmr} mmr sha meaning (op ∷ []) 1) in
            part_wider Texts Greatest Greatest 0 Least new (omega arith) (omega (arith, none_durable))
            (subst (λ (ts : List (List ℕ)). IsPartOf ts Greatest 0 new) (sym (texts_of op first)) (restarted_part text Greatest new restarted))

        by : Begins Mmr mmr sha meaning bytes_of old new → IsPartOf Texts Greatest Least new
        by (inl shrinks) = cut shrinks
        by (inr (op, first, begins)) = begun op first begins

module _ (tells : Type 0) (decoded : List ℕ → Result Operation CodecError) (allowed : Operation → Type 0) (view : View (Unit {0})) (cap : Option ℕ)
    (old new : volume.State) (r : Result CompactView (Error Mmr)) where
  module _ (opens : Opens mmr sha meaning bytes_of IsDigest decoded allowed view cap tells old new r) (told : tells)
      (s : State Operation) (most : ℕ) (cap_is : cap ≡ Some most) (one : 1 ≤ most) (high : s.durable ≤ most) (is : IsOpenable allowed s)
      (stands : CompactStands mmr sha bytes_of meaning s.ops s.sizes s.prune s.durable (old.log view.name))
      (left : LogHas old view.name (CompactStands mmr sha bytes_of meaning s.ops s.sizes s.prune s.durable)) where
    abbrev Kept : Type 0
    Kept = LogKeeps view.name (CompactStands mmr sha bytes_of meaning s.ops s.sizes s.prune s.durable) old new

    abbrev Found : ℕ
    Found = last_kept most (old.log view.name) 1 0 s.sizes

    keeps_some : 0 < length (old.log view.name).items → Kept
    keeps_some some = by (found_last most (old.log view.name) 1 0 s.sizes)
      where
        by : IsFound most (old.log view.name) 1 0 s.sizes Found → Kept
        by (inr (same, none)) = absurd (some_kept allowed s (old.log view.name) is stands most one high some none)
        by (inl (j, last)) =
            let log = old.log view.name in
            let latest = subst (λ (c : Option ℕ). IsLatest (take (end_of log) s.sizes) log.start c (suc j) Found) (sym cap_is) (is_latest allowed s log is stands most Found j last) in
            let greatest = first_at_least s.prune s.sizes in
            let least = durable_witnesses s.sizes s.durable in
            let texts = texts_are s.ops s.sizes in
            subst (λ (ts : List (List ℕ)). LogKeeps view.name (IsPartOf ts greatest least) old new) texts
            (opens.images told s.ops s.sizes (suc j) Found greatest least (has_states allowed s log is stands) latest
            (durable_low allowed s log is stands most Found j high last)
            (subst (λ (ts : List (List ℕ)). LogHas old view.name (IsPartOf ts greatest least)) (sym texts) left))

    keeps_none : length (old.log view.name).items ≤ 0 → Kept
    keeps_none none =
        let log = old.log view.name in
        let nothing = none_kept allowed s log is stands none in
        let stood = CompactStands mmr sha bytes_of meaning s.ops s.sizes s.prune s.durable in
        log_moves view.name (Begins Mmr mmr sha meaning bytes_of) stood stood old new
        (opens.first told (log_fresh allowed s log is stands none)).images left (begins_step allowed s log is stands nothing.0 nothing.1)

    keeps_one : Kept
    keeps_one = by (old.log view.name).items refl
      where
        by : (items : List (List ℕ)) → (old.log view.name).items ≡ items → Kept
        by [] same = keeps_none (let count = ap length same in omega (arith, count))
        by (x ∷ xs) same = keeps_some (let count = ap length same in omega (arith, count))

  -- each log that a crash leaves stands for the state
  pub state_left : (cap ≢ Some 0 → Opens mmr sha meaning bytes_of IsDigest decoded allowed view cap tells old new r) → tells
      → (s : State Operation) (most : ℕ) → cap ≡ Some most → 1 ≤ most → s.durable ≤ most → IsOpenable allowed s
      → CompactStands mmr sha bytes_of meaning s.ops s.sizes s.prune s.durable (old.log view.name)
      → LogHas old view.name (CompactStands mmr sha bytes_of meaning s.ops s.sizes s.prune s.durable)
      → LogKeeps view.name (CompactStands mmr sha bytes_of meaning s.ops s.sizes s.prune s.durable) old new
  state_left opens told s most cap_is one high is stands left = keeps_one (opens (under_cap cap most one cap_is)) told s most cap_is one high is stands left

-- after an opening it leaves the log as it is
pub left_alone : (tells : Type 0) (decoded : List ℕ → Result Operation CodecError) (allowed : Operation → Type 0) (view : View (Unit {0})) (cap : Option ℕ) (old new : volume.State)
    (r : Result CompactView (Error Mmr)) → Opens mmr sha meaning bytes_of IsDigest decoded allowed view cap tells old new r → tells
    → IfOk r (λ db. volume.OnlyLeft (new.log_left new.clock view.name) (new.log view.name))
left_alone tells decoded allowed view cap old new (Ok db) opens told = opens.log.durable told
left_alone tells decoded allowed view cap old new (Err e) opens told = tt
