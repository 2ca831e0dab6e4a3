-- Why the compact database isn't opened where it could be.
use Rattle.std.proofs.Common.{◌≡◌, ◌≢◌, inl, inr, ℕ, zero, suc, ◌+◌, ◌-◌, ◌^◌, ◌<◌, ◌≤◌, List, [], ◌∷◌, length, take, Option, Some, None, refl, sym, ◌∙◌, ap, subst, append-nil, arith}
use Rattle.std.specs.Prelude.{slice_get, unwrap_or, IsSome, Result, Ok, Err, IfErr}
use Rattle.codec_base.specs.Codec.{Reading, IsLawful}
use Rattle.codec_base.specs.Combine.{through_lawful}
use Rattle.codec_base.specs.Parts.{byte_list, admits_bytes, byte_list_at, whole}
use Rattle.codec_base.specs.PartsLaws.{byte_list_lawful}
use Rattle.codec_base.specs.declared.error.CodecError.{CodecError}
use Rattle.codec_base.specs.declared.parts.LengthCfg.{LengthCfg}
use Rattle.volume_base.specs.Log.{Log, end_of, no_log}
use Rattle.volume_base.specs.Volume as volume
use Rattle.journal_base.specs.View.{View}
use Rattle.tree_shape.specs.Mmr.{mmr}
use Rattle.tree_shape.specs.Sha256Codec.{bytes_of, IsDigest}
use Rattle.tree_shape.specs.declared.mmr.Mmr.{Mmr}
use Rattle.tree_shape.proofs.NodeLemmas.{length-peaks}
use Rattle.op_codec.specs.Keyless.{parts, of_parts, of_parts_of, parts_of_parts, variable_admits, variable_at, variable_lawful, variable_spelling}
use Rattle.op_codec.specs.declared.encoding.VariableEncoding.{VariableEncoding}
use Rattle.log_model.specs.Good.{FloorFits, FloorsRise}
use Rattle.log_model.specs.Machine.{State}
use Rattle.log_model.specs.Opening.{last_kept}
use Rattle.log_model.specs.Operations.{leaves_from}
use Rattle.log_model.specs.Stored.{CompactStands}
use Rattle.chain_core.specs.Answers.{IsOutside}
use Rattle.chain_core.specs.declared.error.Error.{Error}
use Rattle.compact_db.specs.Held.{IsSizeOf}
use Rattle.compact_db.specs.Opening.{IsLatest, Opens}
use Rattle.compact_db.specs.Rebuild.{operation_answer, rebuild_answer}
use Rattle.compact_db.specs.WitnessOf.{witness_of}
use Rattle.witness_store.specs.declared.witness.Witness.{Witness}
use Rattle.tree_shape.specs.declared.sha256.Sha256Digest.{Sha256Digest}
use Rattle.compact_db.proofs.ListLemmas.{part}
use Rattle.compact_db.proofs.RebuildLemmas.{answer_is}
use Rattle.compact_db.proofs.ServingLemmas.{front_witness}
use Rattle.compact_db.proofs.StateLemmas.{last_taken, kept_size}
use Rattle.compact_db.proofs.SizeLemmas.{size_some}
use Rattle.list_machine.specs.Operation.{Operation, meaning, sha}
use Rattle.twin_databases.specs.CompactKind.{CompactView, IsOpenable}
use Rattle.twin_databases.specs.OpeningErrors.{read_under}
use Rattle.twin_databases.proofs.CompactOpening.{under_cap}
use Rattle.twin_databases.proofs.CompactSizes.{IsFound, found_last}
use Rattle.twin_databases.proofs.CompactStanding.{has_states, is_latest, some_kept, log_fresh}

-- ---- an operation that is allowed is read where it is spelled

abbrev pub Admits : LengthCfg → Operation → Type 0
Admits cfg op = variable_admits (admits_bytes cfg.max) (parts op)

abbrev pub Reads : LengthCfg → List ℕ → Reading Operation
Reads cfg = read_under cfg.max

operation_lawful : (cfg : LengthCfg) → IsLawful meaning.encoding (Admits cfg) (Reads cfg)
operation_lawful cfg =
    through_lawful parts of_parts of_parts_of (parts_of_parts Mmr (VariableEncoding (List ℕ)) (List ℕ) LengthCfg)
    (variable_spelling byte_list) (variable_admits (admits_bytes cfg.max)) (variable_at (byte_list_at cfg.max))
    (variable_lawful byte_list (admits_bytes cfg.max) (byte_list_at cfg.max) (byte_list_lawful cfg.max))

pub read_again : (cfg : LengthCfg) (op : Operation) → Admits cfg op → whole (Reads cfg (meaning.encoding op)) ≡ Ok op
read_again cfg op allowed =
    ap whole (ap (Reads cfg) (sym (append-nil (meaning.encoding op))) ∙ (operation_lawful cfg).again op [] allowed)

-- ---- a commit of a list

some_of : (o : Option ℕ) → IsSome o → (f : ℕ) × (o ≡ Some f)
some_of None is = absurd cc
some_of (Some f) is = (f, refl)

-- it isn't earlier than its floor
floor_early : (low i k f : ℕ) (ops : List Operation) (op : Operation) → FloorsRise meaning low i ops → slice_get ops k ≡ Some op → meaning.floor op ≡ Some f → f ≤ i + k
floor_early low i k f [] op rise at is = absurd cc
floor_early low i zero f (x ∷ xs) op rise at is =
    let same : x ≡ op = cc in
    let fits = subst (FloorFits low i) (ap (λ (o : Operation). meaning.floor o) same ∙ is) rise.0 in
    let le = fits.1 in omega (arith, le)
floor_early low i (suc k) f (x ∷ xs) op rise at is =
    let le = floor_early (unwrap_or (meaning.floor x) low) (i + 1) k f xs op rise.1 at is in omega (arith, le)

module _ (decoded : List ℕ → Result Operation CodecError) (allowed : Operation → Type 0) (again : (op : Operation) → allowed op → decoded (meaning.encoding op) ≡ Ok op) where
  -- the witness of a list rebuilds at each of its sizes whose commit is allowed
  pub list_rebuilds : (ops : List Operation) (size : ℕ) → length ops ≤ 2 ^ 62 → IsSizeOf meaning ops size → FloorsRise meaning 0 0 ops
      → ((op : Operation) → slice_get ops (size - 1) ≡ Some op → allowed op)
      → (e : Error Mmr) → rebuild_answer mmr meaning decoded (witness_of {F = Mmr} mmr sha meaning ops size) ≡ Err e → ⊥
  list_rebuilds ops size few of floors all e bad =
      let some = size_some meaning ops size of in
      let le = of.0 in
      let last = part mmr sha meaning allowed (take size ops) of.1 (λ op at. all op (last_taken meaning size ops of op at)) in
      let at = last_taken meaning size ops of last.last last.here in
      let w = witness_of {F = Mmr} mmr sha meaning ops size in
      let bytes : w.op_bytes ≡ meaning.encoding last.last =
      ap (λ (x : Witness Mmr Sha256Digest). x.op_bytes) (front_witness {F = Mmr} mmr sha meaning ops [] 0 size some le) ∙ last.bytes in
      let floor = some_of (meaning.floor last.last) last.commits in
      let early = floor_early 0 0 (size - 1) floor.0 ops last.last floors at floor.1 in
      let told : operation_answer {F = Mmr} (decoded w.op_bytes) ≡ Ok last.last =
      ap (operation_answer {F = Mmr}) (ap decoded bytes ∙ again last.last last.allowed) in
      let good = answer_is mmr meaning decoded w last.last floor.0 some (omega (arith, le, few)) told floor.1 (omega (arith, early))
      (length-peaks mmr sha (leaves_from mmr sha meaning 0 (take (size - 1) ops)) (size - 1)) in
      let both = sym good ∙ bad in absurd cc

  module _ (tells : Type 0) (view : View (Unit {0})) (cap : Option ℕ) (old new : volume.State) where
    -- an empty log is refused by the outside alone
    pub fresh_not : (r : Result CompactView (Error Mmr)) → Opens mmr sha meaning bytes_of IsDigest decoded allowed view cap tells old new r → tells
        → old.log view.name ≡ no_log → IfErr r (λ e. IsOutside e)
    fresh_not (Ok db) opens told none = tt
    fresh_not (Err e) opens told none =
        let start = ap (λ (l : Log). l.start) none in
        let count = ap (λ (l : Log). length l.items) none in
        elim ((opens.contents told).refused) [
          | inl out ↦ out
          | inr (inl tip) ↦ let low = tip.0 in absurd (omega (arith, low, start))
          | inr (inr why) ↦ let some = why.0 in absurd (omega (arith, some, count))
        ]

    module _ (e : Error Mmr) (opens : Opens mmr sha meaning bytes_of IsDigest decoded allowed view cap tells old new (let r : Result CompactView (Error Mmr) = Err e in r)) (told : tells)
        (s : State Operation) (most : ℕ) (cap_is : cap ≡ Some most) (one : 1 ≤ most) (high : s.durable ≤ most) (is : IsOpenable allowed s) (floors : FloorsRise meaning 0 0 s.ops)
        (stands : CompactStands mmr sha bytes_of meaning s.ops s.sizes s.prune s.durable (old.log view.name)) where
      abbrev Found : ℕ
      Found = last_kept most (old.log view.name) 1 0 s.sizes

      out_of_some : 0 < length (old.log view.name).items → IsOutside e
      out_of_some some = by (found_last most (old.log view.name) 1 0 s.sizes)
        where
          by : IsFound most (old.log view.name) 1 0 s.sizes Found → IsOutside e
          by (inr (same, none)) = absurd (some_kept allowed s (old.log view.name) is stands most one high some none)
          by (inl (j, last)) =
              let log = old.log view.name in
              let here = take (end_of log) s.sizes in
              let latest = subst (λ (c : Option ℕ). IsLatest here log.start c (suc j) Found) (sym cap_is) (is_latest allowed s log is stands most Found j last) in
              let states = has_states allowed s log is stands in
              let size = kept_size mmr sha meaning s.ops here log.start (suc j) Found states.within latest.kept latest.here in
              elim ((opens.contents told).damaged s.ops here (suc j) Found states latest) [
                | inl out ↦ out
                | inr bad ↦ absurd (list_rebuilds s.ops Found is.few size floors (λ op at. is.allows (Found - 1) op at) e bad)
              ]

      out_of_none : length (old.log view.name).items ≤ 0 → IsOutside e
      out_of_none none = fresh_not (Err e) opens told (log_fresh allowed s (old.log view.name) is stands none)

      outside_one : IsOutside e
      outside_one = by (old.log view.name).items refl
        where
          by : (items : List (List ℕ)) → (old.log view.name).items ≡ items → IsOutside e
          by [] same = out_of_none (let count = ap length same in omega (arith, count))
          by (x ∷ xs) same = out_of_some (let count = ap length same in omega (arith, count))

    -- and so is a log that stands for a state
    pub state_not : (r : Result CompactView (Error Mmr)) → (cap ≢ Some 0 → Opens mmr sha meaning bytes_of IsDigest decoded allowed view cap tells old new r) → tells
        → IfErr r (λ e. (s : State Operation) (most : ℕ) → cap ≡ Some most → 1 ≤ most → s.durable ≤ most → IsOpenable allowed s → FloorsRise meaning 0 0 s.ops
        → CompactStands mmr sha bytes_of meaning s.ops s.sizes s.prune s.durable (old.log view.name) → IsOutside e)
    state_not (Ok db) opens told = tt
    state_not (Err e) opens told = λ s most cap_is one high is floors stands. outside_one e (opens (under_cap cap most one cap_is)) told s most cap_is one high is floors stands
