-- In which state a run opens.
use Rattle.std.proofs.Common.{◌≡◌, ℕ, ◌≤◌, List, [], ◌∷◌, length, take, refl, sym, ◌∙◌, ap, subst, arith}
use Rattle.std.specs.Prelude.{Contains}
use Rattle.std.proofs.lemmas.List.{length-take-le}
use Rattle.volume_base.specs.Log.{Log, end_of}
use Rattle.volume_base.specs.Moments.{Image}
use Rattle.tree_shape.specs.Mmr.{mmr}
use Rattle.tree_shape.specs.MmrPlaces.{mmr_lawful}
use Rattle.tree_shape.specs.Sha256Codec.{bytes_of}
use Rattle.log_model.specs.Good.{AnyList}
use Rattle.log_model.specs.Machine.{State, fresh}
use Rattle.log_model.specs.Opening.{opened_at, opens_at}
use Rattle.log_model.specs.Stored.{IsEmpty}
use Rattle.log_model.proofs.OpeningLemmas.{applied_some, opens_applied, opens_good, opens_past, rise_all, rises_from_zero}
use Rattle.log_model.proofs.StoredLemmas.{fresh_stands, good_fresh}
use Rattle.list_machine.specs.Config.{Config}
use Rattle.list_machine.specs.Openings.{OpensWell, OpensFresh}
use Rattle.list_machine.specs.Operation.{Operation, meaning, sha}
use Rattle.list_machine.specs.Starts.{IsStart, names_in}
use Rattle.list_machine.specs.Step.{plain_commit}
use Rattle.list_machine.specs.Trace.{fresh_state}
use Rattle.list_machine.proofs.StartParts.{one_kept}

module _ (config : Config) (s : State Operation) (image : Image) (start : IsStart config s image) where
  abbrev Allowed : List ℕ → Type 0
  Allowed v = length v ≤ config.value_limit

  abbrev Size : ℕ
  Size = opens_at (names_in config) s image

  applied : Contains s.sizes Size
  applied = opens_applied mmr sha bytes_of meaning AnyList Allowed plain_commit (names_in config) s image start.good

  count : length (take Size s.ops) ≡ Size
  count = length-take-le Size s.ops
      (rise_all 0 (length s.ops) Size s.sizes (rises_from_zero (length s.ops) s.sizes start.good.log.sizes) applied)

  past : s.durable ≤ Size
  past =
      opens_past mmr sha bytes_of meaning AnyList Allowed plain_commit (names_in config) s image start.good start.stands

  pub opens_well : OpensWell config s image
  opens_well = record {
    good = record {
      good = opens_good mmr sha bytes_of meaning AnyList Allowed plain_commit (names_in config) s image AnyList
          start.good start.stands tt;
      some = applied_some (length s.ops) Size s.sizes start.good.log.sizes applied;
    };
    applied = subst (Contains s.sizes) (sym count) applied;
    past = omega (arith, past, count);
  }

-- the state in which contents are opened whose logs begin there
opened_one : (start wstart : ℕ) → start ≡ 0 → wstart ≡ 0
    → record fresh_state { start = start; wstart = wstart } ≡ fresh_state
opened_one start wstart one two =
    ap (λ (n : ℕ). record fresh_state { start = n; wstart = wstart }) one
    ∙ ap (λ (n : ℕ). record fresh_state { wstart = n }) two

pub opens_fresh : (config : Config) (image : Image) → IsEmpty (names_in config) image → OpensFresh config image
opens_fresh config image empty =
    let names = names_in config in
    let one : opens_at names (fresh plain_commit) image ≡ 1 =
    one_kept (end_of (image.log config.log)) (image.log config.witness) (1 ∷ []) refl in
    let start = ap (λ (log : Log). log.start) empty.log in
    let wstart = ap (λ (log : Log). log.start) empty.witness in
    record {
      start = record {
        good = good_fresh meaning AnyList (λ (v : List ℕ). length v ≤ config.value_limit) plain_commit tt refl tt;
        still = refl;
        stands = fresh_stands mmr sha bytes_of meaning mmr_lawful names plain_commit image empty;
      };
      opened = ap (opened_at names (fresh plain_commit) image) one
          ∙ opened_one (image.log config.log).start (image.log config.witness).start start wstart;
    }
