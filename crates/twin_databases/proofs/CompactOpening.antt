-- What an opening of the compact database gives the run.
use Rattle.std.proofs.Common.{◌≡◌, ◌≢◌, ℕ, zero, suc, ◌+◌, ◌-◌, ◌<◌, ◌≤◌, List, [], ◌∷◌, length, map, take, drop, Option, Some, None, refl, sym, ◌∙◌, ap, subst, arith}
use Rattle.std.specs.Prelude.{slice_get, Result, Ok, Err, IfOk}
use Rattle.std.proofs.lemmas.List.{length-map, length-take, length-drop}
use Rattle.std.proofs.lemmas.Option.{slice_get_within}
use Rattle.codec_base.specs.declared.error.CodecError.{CodecError}
use Rattle.volume_base.specs.Log.{Log, no_log}
use Rattle.volume_base.specs.Moments.{present}
use Rattle.volume_base.specs.Volume.{State}
use Rattle.tree_shape.specs.Mmr.{mmr}
use Rattle.tree_shape.specs.Sha256Codec.{bytes_of, IsDigest}
use Rattle.tree_shape.specs.declared.mmr.Mmr.{Mmr}
use Rattle.chain_core.specs.declared.error.Error.{Error}
use Rattle.journal_base.specs.View.{View}
use Rattle.witness_store.specs.Witness.{text_of}
use Rattle.compact_db.specs.DbView.{seen_log}
use Rattle.compact_db.specs.Held.{IsSizeOf, HasStates}
use Rattle.compact_db.specs.Opening.{IsLatest, IsFirstCommit, Opens, witnesses_in}
use Rattle.compact_db.specs.WitnessOf.{witness_of}
use Rattle.compact_db.proofs.SizeLemmas.{all_at, get_behind}
use Rattle.list_machine.specs.Operation.{Operation, meaning, sha}
use Rattle.list_machine.specs.Step.{plain_commit}
use Rattle.list_machine.specs.Trace.{fresh_state}
use Rattle.twin_batches.specs.Kind.{kept_of}
use Rattle.twin_databases.specs.CompactKind.{CompactView, IsHeldAt, IsCompactOf, at_rest, held_over, kept_to}
use Rattle.twin_databases.proofs.CompactLemmas.{commit_by, same_name}

-- whatever the cap is
pub either_cap : (cap : Option ℕ) (P : Type 0) → (cap ≡ Some 0 → P) → (cap ≢ Some 0 → P) → P
either_cap None P zero_cap other = other (λ e. cc)
either_cap (Some zero) P zero_cap other = zero_cap refl
either_cap (Some (suc n)) P zero_cap other = other (λ e. cc)

-- a cap of at least 1 isn't 0
pub under_cap : (cap : Option ℕ) (most : ℕ) → 1 ≤ most → cap ≡ Some most → cap ≢ Some 0
under_cap cap most one is = λ none. (let zero_cap : most ≡ 0 = (let e = sym is ∙ none in cc) in omega (arith, zero_cap, one))

-- a log with the witnesses of a list has one where it has a latest size
some_witness : (log : Log) (ops : List Operation) (sizes : List ℕ) (cap : Option ℕ) (count size : ℕ)
    → HasStates {F = Mmr} mmr sha meaning ops sizes (witnesses_in bytes_of IsDigest log) → IsLatest sizes log.start cap count size → 0 < length log.items
some_witness log ops sizes cap count size has latest =
    let ws = map (witness_of {F = Mmr} mmr sha meaning ops) sizes in
    let texts = map (text_of bytes_of) ws in
    let items : length log.items ≡ length (drop log.start texts) = ap length has.witnesses.spelled.items in
    let total : length texts ≡ length sizes = length-map ws (text_of bytes_of) ∙ length-map sizes (witness_of {F = Mmr} mmr sha meaning ops) in
    omega (arith, items, length-drop log.start texts, total, latest.kept, slice_get_within sizes (count - 1) size latest.here)

-- and that size is one of the list's
latest_within : (log : Log) (ops : List Operation) (sizes : List ℕ) (cap : Option ℕ) (count size : ℕ)
    → HasStates {F = Mmr} mmr sha meaning ops sizes (witnesses_in bytes_of IsDigest log) → IsLatest sizes log.start cap count size → size ≤ length ops
latest_within log ops sizes cap count size has latest =
    let i = count - 1 - log.start in
    let place : log.start + i ≡ count - 1 = (let kept = latest.kept in omega (arith, kept)) in
    let at = get_behind sizes log.start i ∙ ap (slice_get sizes) place ∙ latest.here in
    (all_at (IsSizeOf meaning ops) (drop log.start sizes) i size has.within at).0

module _ (tells : Type 0) (decoded : List ℕ → Result Operation CodecError) (allowed : Operation → Type 0) (view : View (Unit {0})) (cap : Option ℕ)
    (old new : State) where
  fresh_one : (db : CompactView) → IsFirstCommit meaning db.commit → IsHeldAt (db.commit ∷ []) (1 ∷ []) db new → IsCompactOf (kept_of fresh_state) (present new) db
  fresh_one db first held =
      let commit : db.commit ≡ plain_commit = commit_by db.commit None 0 first.floored first.valued in
      record {
        held = held_over (plain_commit ∷ []) (1 ∷ []) db new (at_rest (present new)) refl (subst (λ (op : Operation). IsHeldAt (op ∷ []) (1 ∷ []) db new) commit held);
        few = omega arith;
        begins = (let some = held.some in omega (arith, some));
      }

  pub opened_fresh : (r : Result CompactView (Error Mmr)) → Opens mmr sha meaning bytes_of IsDigest decoded allowed view cap tells old new r → tells
      → old.log view.name ≡ no_log → IfOk r (IsCompactOf (kept_of fresh_state) (present new))
  opened_fresh (Ok db) opens told none = (let begun = (opens.contents told).begun none in fresh_one db begun.0 begun.1)
  opened_fresh (Err e) opens told none = tt

  pub opened_held : (r : Result CompactView (Error Mmr)) → Opens mmr sha meaning bytes_of IsDigest decoded allowed view cap tells old new r → tells
      → IfOk r (λ db. (ops : List Operation) (sizes : List ℕ) (count size start : ℕ)
      → HasStates {F = Mmr} mmr sha meaning ops sizes (witnesses_in bytes_of IsDigest (old.log view.name)) → IsLatest sizes (old.log view.name).start cap count size
      → count ≤ size → ((op : Operation) → slice_get ops (size - 1) ≡ Some op → allowed op)
      → IsCompactOf (kept_to ops sizes count size start (old.log view.name).start) (present new) db)
  opened_held (Ok db) opens told = λ ops sizes count size start has latest few allows.
      let log = old.log view.name in
      let contents = opens.contents told in
      let held = contents.held ops sizes count size has latest allows in
      let cut = (contents.resumed (some_witness log ops sizes cap count size has latest)).cut in
      record {
        held = held_over (take size ops) (take count sizes) db new (at_rest (present new)) refl held;
        few = omega (arith, few, length-take count sizes, length-take size ops, latest_within log ops sizes cap count size has latest);
        begins = ap (λ (name : List ℕ). (new.log name).start) (same_name view (seen_log db.log) opens.log.same) ∙ ap (λ (l : Log). l.start) cut;
      }
  opened_held (Err e) opens told = tt
