-- What an opening of the compact database gives of a log that stands for a state.
use Rattle.std.proofs.Common.{◌≡◌, ◌≢◌, inl, inr, true, ℕ, zero, suc, ◌+◌, ◌-◌, ◌^◌, ◌<◌, ◌≤◌, List, [], ◌∷◌, length, map, take, drop, Option, Some, refl, sym, ◌∙◌, ap, subst, take-take, arith}
use Rattle.std.specs.Prelude.{slice_get, nat_le, ◌&&◌, Result, Ok, Err, IfOk}
use Rattle.std.specs.List.{AllByRecursion}
use Rattle.std.proofs.lemmas.List.{length-map, length-take, take-map, drop-take}
use Rattle.std.proofs.lemmas.Option.{slice_get_within}
use Rattle.sha2.proofs.Facts256.{length-sha256}
use Rattle.volume_base.specs.Bounds.{IsRunOf, IsPartOf}
use Rattle.volume_base.specs.Log.{Log, end_of, no_log}
use Rattle.volume_base.specs.Moments.{Image, present}
use Rattle.volume_base.specs.Volume as volume
use Rattle.codec_base.specs.declared.error.CodecError.{CodecError}
use Rattle.chain_core.specs.declared.error.Error.{Error}
use Rattle.journal_base.specs.View.{View}
use Rattle.tree_shape.specs.Mmr.{mmr}
use Rattle.tree_shape.specs.MmrSize.{mmr_few_peaks}
use Rattle.tree_shape.specs.Sha256Codec.{bytes_of, IsDigest}
use Rattle.tree_shape.specs.declared.mmr.Mmr.{Mmr}
use Rattle.tree_shape.specs.declared.sha256.Sha256Digest.{Sha256Digest}
use Rattle.log_model.specs.AppliedSizes.{RiseTo, first_at_least, sizes_to}
use Rattle.log_model.specs.Good.{IsDurable}
use Rattle.log_model.specs.Machine.{State}
use Rattle.log_model.specs.Opening.{has, last_kept, opened_at}
use Rattle.log_model.specs.Stored.{DatabaseNames, CompactStands, durable_witnesses}
use Rattle.log_model.specs.Witness.{witness_text, last_bytes}
use Rattle.log_model.proofs.OpeningLemmas.{rises_from_zero, applied_some}
use Rattle.log_model.proofs.SizeLemmas.{either, first_higher}
use Rattle.witness_store.specs.Witness.{text_of, IsAllowed}
use Rattle.witness_store.specs.Witnesses.{Rises, sizes_of}
use Rattle.witness_store.specs.declared.witness.Witness.{Witness}
use Rattle.compact_db.specs.Held.{IsSizeOf, HasStates}
use Rattle.compact_db.specs.Opening.{IsLatest, Opens, witnesses_in}
use Rattle.compact_db.specs.WitnessOf.{witness_of}
use Rattle.compact_db.proofs.ApplyLemmas.{read_some}
use Rattle.compact_db.proofs.SizeLemmas.{all_behind, all_before, get_before}
use Rattle.compact_db.proofs.WitnessLemmas.{witness_allowed}
use Rattle.list_machine.specs.Operation.{Operation, meaning, sha}
use Rattle.list_machine.specs.Trace.{fresh_state}
use Rattle.list_machine.proofs.LogPlaces.{has_at, at_has}
use Rattle.twin_batches.specs.Kind.{Kept, kept_of}
use Rattle.twin_databases.specs.CompactKind.{CompactView, IsHeldAt, IsCompactOf, IsOpenable, at_rest, kept_to}
use Rattle.twin_databases.proofs.CompactOpening.{opened_fresh, opened_held, under_cap}
use Rattle.twin_databases.proofs.CompactSizes.{rise_get, rises_of, rises_behind, rises_before, first_here, sizes_upto, each_size, IsLastAt, NoneKept, IsFound, found_last}

-- what is kept, in other words
pub retold : (kept other : Kept) (image : Image) (db : CompactView) → kept.ops ≡ other.ops → kept.sizes ≡ other.sizes → kept.wstart ≡ other.wstart
    → IsCompactOf kept image db → IsCompactOf other image db
retold kept other image db ops sizes start is = record {
  held = subst (λ (ns : List ℕ). IsHeldAt other.ops ns db (at_rest image)) sizes (subst (λ (os : List Operation). IsHeldAt os kept.sizes db (at_rest image)) ops is.held);
  few = (let a = ap length ops in let b = ap length sizes in omega (arith, is.few, a, b));
  begins = is.begins ∙ start;
}

-- ---- the witnesses of a list at some sizes

abbrev pub witnesses_at : List Operation → List ℕ → List (Witness Mmr Sha256Digest)
witnesses_at ops ns = map (witness_of {F = Mmr} mmr sha meaning ops) ns

pub texts_are : (ops : List Operation) (ns : List ℕ) → map (text_of bytes_of) (witnesses_at ops ns) ≡ map (witness_text mmr sha meaning bytes_of ops) ns
texts_are ops [] = refl
texts_are ops (n ∷ ns) = ap (λ ts. witness_text mmr sha meaning bytes_of ops n ∷ ts) (texts_are ops ns)

sizes_behind : (ops : List Operation) (k : ℕ) (ns : List ℕ) → sizes_of (drop k (witnesses_at ops ns)) ≡ drop k ns
sizes_behind ops zero [] = refl
sizes_behind ops zero (n ∷ ns) = ap (λ xs. n ∷ xs) (sizes_behind ops zero ns)
sizes_behind ops (suc k) [] = refl
sizes_behind ops (suc k) (n ∷ ns) = sizes_behind ops k ns

all_allowed : (ops : List Operation) → length ops ≤ 2 ^ 62 → ((n : ℕ) → length (last_bytes mmr sha meaning ops n) < 2 ^ 64) → (ns : List ℕ)
    → AllByRecursion (IsSizeOf meaning ops) ns → AllByRecursion (IsAllowed {F = Mmr} IsDigest) (witnesses_at ops ns)
all_allowed ops few short [] all = tt
all_allowed ops few short (n ∷ ns) all =
    let le = all.0.0 in
    (witness_allowed mmr sha meaning IsDigest length-sha256 Mmr mmr_few_peaks ops n (omega (arith, few, le)) (short n), all_allowed ops few short ns all.1)

run_of : (log : Log) (ops : List Operation) (sizes : List ℕ) (greatest least : ℕ) → IsPartOf (map (witness_text mmr sha meaning bytes_of ops) sizes) greatest least log
    → IsRunOf (map (text_of bytes_of) (witnesses_at ops (take (end_of log) sizes))) log
run_of log ops sizes greatest least part =
    let texts = map (witness_text mmr sha meaning bytes_of ops) sizes in
    let here : map (text_of bytes_of) (witnesses_at ops (take (end_of log) sizes)) ≡ take (end_of log) texts =
    texts_are ops (take (end_of log) sizes) ∙ sym (take-map (witness_text mmr sha meaning bytes_of ops) (end_of log) sizes) in
    record {
      items = part.items ∙ sym (drop-take log.start (length log.items) texts) ∙ ap (drop log.start) (sym here);
      within = (let count = ap length here in omega (arith, count, length-take (end_of log) texts, part.within));
    }

module _ (allowed : Operation → Type 0) (s : State Operation) (log : Log) (is : IsOpenable allowed s)
    (stands : CompactStands mmr sha bytes_of meaning s.ops s.sizes s.prune s.durable log) where
  rises : RiseTo 0 (length s.ops) s.sizes
  rises = rises_from_zero (length s.ops) s.sizes is.log.sizes

  all_sizes : AllByRecursion (IsSizeOf meaning s.ops) s.sizes
  all_sizes = each_size s.ops 0 s.sizes rises is.log.commits

  pub has_states : HasStates {F = Mmr} mmr sha meaning s.ops (take (end_of log) s.sizes) (witnesses_in bytes_of IsDigest log)
  has_states =
      let here = take (end_of log) s.sizes in
      let all = all_before (IsSizeOf meaning s.ops) (end_of log) s.sizes all_sizes in
      record {
        few = is.few;
        witnesses = record {
          spelled = run_of log s.ops s.sizes _ _ stands;
          allowed = all_behind (IsAllowed IsDigest) log.start (witnesses_at s.ops here) (all_allowed s.ops is.few is.short here all);
          rising = subst Rises (sym (sizes_behind s.ops log.start here)) (rises_behind log.start here (rises_before (end_of log) s.sizes (rises_of 0 (length s.ops) s.sizes rises)));
        };
        within = all_behind (IsSizeOf meaning s.ops) log.start here all;
      }

  whole_log : end_of log ≤ length s.sizes
  whole_log = (let within = stands.within in omega (arith, within, length-map s.sizes (witness_text mmr sha meaning bytes_of s.ops)))

  module _ (most n j : ℕ) (last : IsLastAt most log 0 s.sizes n j) where
    place : (log.start ≤ j) × (j < end_of log)
    place = (let zero_plus : 0 + j ≡ j = omega arith in at_has log j (subst (λ (p : ℕ). has log p ≡ true) zero_plus last.kept))

    pub is_latest : IsLatest (take (end_of log) s.sizes) log.start (Some most) (suc j) n
    is_latest =
        let low = place.0 in
        let high = place.1 in
        let same : suc j - 1 ≡ j = omega arith in
        record {
          kept = omega (arith, low);
          here = ap (slice_get (take (end_of log) s.sizes)) same ∙ get_before s.sizes (end_of log) j high ∙ last.here;
          within = last.within;
          above = λ i x le at.
              let in_log : i < end_of log = omega (arith, slice_get_within (take (end_of log) s.sizes) i x at, length-take (end_of log) s.sizes) in
              let zero_plus : i ≡ 0 + i = omega arith in
              let there = subst (λ (p : ℕ). has log p ≡ true) zero_plus (has_at log i (omega (arith, low, le)) in_log) in
              last.above i x (omega (arith, le)) (sym (get_before s.sizes (end_of log) i in_log) ∙ at) there;
        }

    pub fewer : suc j ≤ n
    fewer = (let above = rise_get 0 (length s.ops) j n s.sizes rises last.here in omega (arith, above))

    pub cut_sizes : take (suc j) (take (end_of log) s.sizes) ≡ sizes_to n s.sizes
    cut_sizes = (let high = place.1 in take-take (suc j) (end_of log) s.sizes (omega (arith, high)) ∙ sizes_upto 0 (length s.ops) j n s.sizes rises last.here)

  -- nothing is pruned where nothing is durable
  starts_low : log.start ≤ first_at_least s.durable s.sizes
  starts_low =
      let high = stands.start_high in
      let low = first_higher s.prune s.durable s.sizes (let a = is.log.pruned in let b = is.log.nodes in omega (arith, a, b)) in
      omega (arith, high, low)

  pub starts_at_zero : s.durable ≡ 0 → s.sizes ≡ 1 ∷ [] → log.start ≡ 0
  starts_at_zero none one =
      let first : first_at_least s.durable s.sizes ≡ 0 = ap (λ (d : ℕ). first_at_least d s.sizes) none ∙ ap (first_at_least 0) one in
      omega (arith, starts_low, first)

  durable_there : (d : ℕ) → 1 ≤ d → durable_witnesses s.sizes d ≤ end_of log → first_at_least d s.sizes + 1 ≤ end_of log
  durable_there zero some le = absurd (omega (arith, some))
  durable_there (suc d) some le = le

  -- something is within a cap at or past what is durable
  pub some_kept : (most : ℕ) → 1 ≤ most → s.durable ≤ most → 0 < length log.items → NoneKept most log 0 s.sizes → ⊥
  some_kept most one high some none = by is.log.durable
    where
      by : IsDurable s.sizes s.durable → ⊥
      by (inl (k, lt, there)) =
          let at = read_some s.sizes k s.durable s.durable lt (sym there) in
          let first = first_here 0 (length s.ops) s.durable k s.sizes rises at in
          let end = durable_there s.durable (applied_some (length s.ops) s.durable s.sizes is.log.sizes (k, lt, there)) stands.end_low in
          let zero_plus : k ≡ 0 + k = omega arith in
          let kept = subst (λ (p : ℕ). has log p ≡ true) zero_plus (has_at log k (omega (arith, starts_low, first)) (omega (arith, end, first))) in
          let past = none k s.durable at kept in
          omega (arith, past, high)
      by (inr (nothing, sizes)) =
          let start = starts_at_zero nothing sizes in
          let at : slice_get s.sizes 0 ≡ Some 1 = ap (λ (ns : List ℕ). slice_get ns 0) sizes in
          let zero_plus : 0 ≡ 0 + 0 = omega arith in
          let kept = subst (λ (p : ℕ). has log p ≡ true) zero_plus (has_at log 0 (omega (arith, start)) (omega (arith, some))) in
          let past = none 0 1 at kept in
          omega (arith, past, one)

  -- a log without witnesses is that of a fresh state
  pub none_kept : length log.items ≤ 0 → (s.durable ≡ 0) × (s.sizes ≡ 1 ∷ [])
  none_kept none = by is.log.durable
    where
      by : IsDurable s.sizes s.durable → (s.durable ≡ 0) × (s.sizes ≡ 1 ∷ [])
      by (inl contains) =
          let end = durable_there s.durable (applied_some (length s.ops) s.durable s.sizes is.log.sizes contains) stands.end_low in
          absurd (omega (arith, end, starts_low, none))
      by (inr fresh) = fresh

  log_by : (log : Log) → log.start ≡ 0 → log.items ≡ [] → log ≡ no_log
  log_by log p q i = record { start = p i; items = q i }

  no_items : (xs : List (List ℕ)) → length xs ≤ 0 → xs ≡ []
  no_items [] le = refl
  no_items (x ∷ xs) le = absurd (omega (arith, le))

  pub log_fresh : length log.items ≤ 0 → log ≡ no_log
  log_fresh none = (let fresh = none_kept none in log_by log (starts_at_zero fresh.0 fresh.1) (no_items log.items none))

  one_kept : (most : ℕ) (ns : List ℕ) → ns ≡ 1 ∷ [] → last_kept most log 1 0 ns ≡ 1
  one_kept most ns one = ap (last_kept most log 1 0) one ∙ either (λ (x : ℕ). x ≡ 1) (nat_le 1 most && has log 0) 1 1 (λ t. refl) (λ t. refl)

  pub fresh_size : (most : ℕ) → length log.items ≤ 0 → last_kept most log 1 0 s.sizes ≡ 1
  fresh_size most none = one_kept most s.sizes (none_kept none).1

-- ---- an opening

module _ (tells : Type 0) (decoded : List ℕ → Result Operation CodecError) (allowed : Operation → Type 0) (view : View (Unit {0})) (cap : Option ℕ)
    (old new : volume.State) where
  module _ (db : CompactView) (opens : Opens mmr sha meaning bytes_of IsDigest decoded allowed view cap tells old new (let r : Result CompactView (Error Mmr) = Ok db in r)) (told : tells)
      (names : DatabaseNames) (s : State Operation) (most : ℕ) (name : names.witness ≡ view.name) (cap_is : cap ≡ Some most) (one : 1 ≤ most) (high : s.durable ≤ most)
      (is : IsOpenable allowed s) (stands : CompactStands mmr sha bytes_of meaning s.ops s.sizes s.prune s.durable (old.log view.name)) where
    abbrev found : ℕ
    found = last_kept most (old.log view.name) 1 0 s.sizes

    same_start : (old.log view.name).start ≡ (old.log names.witness).start
    same_start = ap (λ (n : List ℕ). (old.log n).start) (sym name)

    of_some : 0 < length (old.log view.name).items → IsCompactOf (kept_of (opened_at names s (present old) found)) (present new) db
    of_some some = by (found_last most (old.log view.name) 1 0 s.sizes)
      where
        by : IsFound most (old.log view.name) 1 0 s.sizes found → IsCompactOf (kept_of (opened_at names s (present old) found)) (present new) db
        by (inl (j, last)) =
            let log = old.log view.name in
            let latest = subst (λ (c : Option ℕ). IsLatest (take (end_of log) s.sizes) log.start c (suc j) found) (sym cap_is) (is_latest allowed s log is stands most found j last) in
            let held = opened_held tells decoded allowed view cap old new (Ok db) opens told s.ops (take (end_of log) s.sizes) (suc j) found s.start (has_states allowed s log is stands) latest
            (fewer allowed s log is stands most found j last) (λ op at. is.allows (found - 1) op at) in
            retold (kept_to s.ops (take (end_of log) s.sizes) (suc j) found s.start log.start) (kept_of (opened_at names s (present old) found)) (present new) db refl
            (cut_sizes allowed s log is stands most found j last) same_start held
        by (inr (same, none)) = absurd (some_kept allowed s (old.log view.name) is stands most one high some none)

    of_none : length (old.log view.name).items ≤ 0 → IsCompactOf (kept_of (opened_at names s (present old) found)) (present new) db
    of_none none =
        let log = old.log view.name in
        let fresh = opened_fresh tells decoded allowed view cap old new (Ok db) opens told (log_fresh allowed s log is stands none) in
        let nothing = none_kept allowed s log is stands none in
        let size : found ≡ 1 = fresh_size allowed s log is stands most none in
        let sizes : sizes_to found s.sizes ≡ 1 ∷ [] = ap (sizes_to found) nothing.1 ∙ ap (λ (n : ℕ). sizes_to n (1 ∷ [])) size in
        retold (kept_of fresh_state) (kept_of (opened_at names s (present old) found)) (present new) db (sym is.begins ∙ ap (λ (n : ℕ). take n s.ops) (sym size)) (sym sizes)
        (sym (starts_at_zero allowed s log is stands nothing.0 nothing.1) ∙ same_start) fresh

    opened_one : IsCompactOf (kept_of (opened_at names s (present old) found)) (present new) db
    opened_one = by (old.log view.name).items refl
      where
        by : (items : List (List ℕ)) → (old.log view.name).items ≡ items → IsCompactOf (kept_of (opened_at names s (present old) found)) (present new) db
        by [] same = of_none (let count = ap length same in omega (arith, count))
        by (x ∷ xs) same = of_some (let count = ap length same in omega (arith, count))

  pub opened_state : (r : Result CompactView (Error Mmr)) → (cap ≢ Some 0 → Opens mmr sha meaning bytes_of IsDigest decoded allowed view cap tells old new r) → tells
      → IfOk r (λ db. (names : DatabaseNames) (s : State Operation) (most : ℕ) → names.witness ≡ view.name → cap ≡ Some most → 1 ≤ most → s.durable ≤ most
      → IsOpenable allowed s → CompactStands mmr sha bytes_of meaning s.ops s.sizes s.prune s.durable (old.log view.name)
      → IsCompactOf (kept_of (opened_at names s (present old) (last_kept most (old.log view.name) 1 0 s.sizes))) (present new) db)
  opened_state (Ok db) opens told = λ names s most name cap_is one high is stands. opened_one db (opens (under_cap cap most one cap_is)) told names s most name cap_is one high is stands
  opened_state (Err e) opens told = tt
