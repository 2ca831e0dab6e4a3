-- In which state a run opens that begins on what a whole run has left.
use Rattle.std.proofs.Common.{◌≡◌, ℕ, zero, suc, ◌+◌, ◌<◌, ◌≤◌, Bool, true, false, cond, ◌&&◌, List, [], ◌∷◌, length, map, take, drop, refl, ◌∙◌, ap, arith, take_all}
use Rattle.std.specs.Prelude.{nat_le}
use Rattle.std.proofs.lemmas.Bool.Decides.{nat_tests}
use Rattle.std.proofs.lemmas.List.{length-map, length-drop}
use Rattle.volume_base.specs.Bounds.{IsRunOf}
use Rattle.volume_base.specs.Log.{Log, end_of}
use Rattle.volume_base.specs.Moments.{Image}
use Rattle.tree_shape.specs.Mmr.{mmr}
use Rattle.tree_shape.specs.Sha256Codec.{bytes_of}
use Rattle.log_model.specs.AppliedSizes.{RiseTo, sizes_to, first_at_least}
use Rattle.log_model.specs.Good.{AnyList}
use Rattle.log_model.specs.Machine.{State}
use Rattle.log_model.specs.Opening.{has, last_kept, opens_at, opened_at}
use Rattle.log_model.specs.Witness.{witness_text}
use Rattle.log_model.proofs.OpeningLemmas.{rises_from_zero}
use Rattle.log_model.proofs.SizeLemmas.{not_le, rise_le}
use Rattle.list_machine.specs.Config.{Config}
use Rattle.list_machine.specs.GoodRuns.{IsGoodState}
use Rattle.list_machine.specs.Operation.{Operation, meaning, sha}
use Rattle.list_machine.specs.Starts.{HoldsLog, HoldsWitnesses, names_in}
use Rattle.list_machine.specs.Laws.{LeftStatesReopen, last_state}
use Rattle.list_machine.proofs.LogPlaces.{has_at}

-- the end of a log that has a whole list from its start on
run_end : (list : List (List ℕ)) (log : Log) → IsRunOf list log → end_of log ≡ length list
run_end list log run =
    let items : length log.items ≡ length (drop log.start list) = ap length run.items in
    omega (arith, items, length-drop log.start list, run.within)

-- ---- sizes that rise

le_so : (m n : ℕ) → m ≤ n → nat_le m n ≡ true
le_so m n le = grind (arith, nat_tests)

-- the last one is kept
last_kept_is : (most : ℕ) (witness : Log) (before i low high : ℕ) (ns : List ℕ) → RiseTo low high ns → low < high
    → high ≤ most → witness.start + 1 ≤ i + length ns → i + length ns ≤ end_of witness
    → last_kept most witness before i ns ≡ high
last_kept_is most witness before i low high [] rise lt le start end = absurd (omega (arith, rise, lt))
last_kept_is most witness before i low high (n ∷ []) rise lt le start end =
    let same : n ≡ high = rise.1 in
    let within = le_so n most (omega (arith, same, le)) in
    let there = has_at witness i (omega (arith, start)) (omega (arith, end)) in
    rw (within, there) same
last_kept_is most witness before i low high (n ∷ m ∷ ns) rise lt le start end =
    let later = rise_le m high ns rise.1.1 in
    let next = rise.1.0 in
    last_kept_is most witness (cond (nat_le n most && has witness i) n before) (i + 1) n high (m ∷ ns) rise.1
    (omega (arith, later, next)) le (omega (arith, start)) (omega (arith, end))

-- all are at most the last one
sizes_all : (low high : ℕ) (ns : List ℕ) → RiseTo low high ns → sizes_to high ns ≡ ns
sizes_all low high [] rise = refl
sizes_all low high (n ∷ ns) rise =
    let le = rise_le n high ns rise.1 in
    rw (le_so n high le, sizes_all n high ns rise.1) refl

-- one is at least this, where the last one is
pub first_below : (l low high : ℕ) (ns : List ℕ) → RiseTo low high ns → low < high → l ≤ high
    → first_at_least l ns < length ns
first_below l low high [] rise lt le = absurd (omega (arith, rise, lt))
first_below l low high (n ∷ ns) rise lt le =
    pick (λ past. first_below l n high ns rise.1 (omega (arith, past, le)) le) (nat_le l n) refl
  where
    pick : (n < l → first_at_least l ns < length ns) → (b : Bool) → nat_le l n ≡ b
        → cond b zero (suc (first_at_least l ns)) < suc (length ns)
    pick more true e = omega arith
    pick more false e = let below = more (not_le l n e) in omega (arith, below)

-- ---- what is left

module _ (config : Config) (s : State Operation) (image : Image) (g : IsGoodState AnyList config.value_limit s)
    (log : HoldsLog config image s) (witnesses : HoldsWitnesses config image s) where
  abbrev Total : ℕ
  Total = length s.ops

  rises : RiseTo 0 Total s.sizes
  rises = rises_from_zero Total s.sizes g.good.log.sizes

  some : 0 < Total
  some = let durable = g.some in let within = g.good.log.within in omega (arith, durable, within)

  log_end : end_of (image.log config.log) ≡ Total
  log_end = run_end (map meaning.encoding s.ops) (image.log config.log) log.ops ∙ length-map s.ops meaning.encoding

  witness_end : end_of (image.log config.witness) ≡ length s.sizes
  witness_end = run_end (map (witness_text mmr sha meaning bytes_of s.ops) s.sizes) (image.log config.witness)
      witnesses.witnesses ∙ length-map s.sizes (witness_text mmr sha meaning bytes_of s.ops)

  witness_start : (image.log config.witness).start < length s.sizes
  witness_start =
      let kept = g.good.log in
      let pruned : s.prune ≤ Total = (let a = kept.pruned in let b = kept.nodes in let c = kept.within in
      omega (arith, a, b, c)) in
      let below = first_below s.prune 0 Total s.sizes rises some pruned in
      let high = kept.wstart in
      let start = witnesses.start in
      omega (arith, below, high, start)

  opens : opens_at (names_in config) s image ≡ Total
  opens = last_kept_is (end_of (image.log config.log)) (image.log config.witness) 1 0 0 Total s.sizes rises some
      (omega (arith, log_end)) (omega (arith, witness_start)) (omega (arith, witness_end))

  reopened : opened_at (names_in config) s image (opens_at (names_in config) s image) ≡ last_state s
  reopened i = record {
    ops = (ap (λ (n : ℕ). take n s.ops) opens ∙ take_all Total s.ops (omega arith)) i;
    sizes = (ap (λ (n : ℕ). sizes_to n s.sizes) opens ∙ sizes_all 0 Total s.sizes rises) i;
    durable = opens i;
    node_durable = opens i;
    prune = s.prune;
    start = log.start i;
    wstart = witnesses.start i;
    batches = [];
  }

pub left_reopen : LeftStatesReopen
left_reopen config s image g log witnesses = reopened config s image g log witnesses
