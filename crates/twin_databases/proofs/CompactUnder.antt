-- The compact database that is opened under a configuration.
use Rattle.std.proofs.Common.{◌≡◌, ◌≢◌, ℕ, ◌≤◌, List, [], length, get_or, Option, Some, sym, ◌∙◌, ap, subst}
use Rattle.std.specs.Prelude.{Result, Ok, Err, IfOk, IfErr, IsErrOf}
use Rattle.codec_base.specs.Parts.{admits_bytes}
use Rattle.codec_base.specs.declared.parts.LengthCfg.{LengthCfg}
use Rattle.op_codec.specs.Keyless.{parts, variable_admits}
use Rattle.volume_base.specs.Log.{Log}
use Rattle.volume_base.specs.Moments.{LogHas, LogKeeps, present}
use Rattle.volume_base.specs.Names.{Names, log_alone}
use Rattle.volume_base.specs.Volume as volume
use Rattle.volume_base.specs.Volume.{Changes, OnlyLeft}
use Rattle.volume_base.proofs.JoinLemmas.{went_none}
use Rattle.tree_shape.specs.Mmr.{mmr}
use Rattle.tree_shape.specs.Sha256Codec.{bytes_of}
use Rattle.tree_shape.specs.declared.mmr.Mmr.{Mmr}
use Rattle.chain_core.specs.Answers.{IsOutside}
use Rattle.chain_core.specs.declared.error.Error.{Error}
use Rattle.chain_core.specs.declared.error.Error.TheVariants as error
use Rattle.log_model.specs.Good.{AnyList, FloorsRise, IsGood}
use Rattle.log_model.specs.Machine.{State}
use Rattle.log_model.specs.Opening.{last_kept, opened_at}
use Rattle.log_model.specs.Stored.{DatabaseNames, CompactStands}
use Rattle.compact_db.specs.DbView.{seen_log}
use Rattle.list_machine.specs.Config.{Config}
use Rattle.list_machine.specs.Operation.{Operation, meaning, sha}
use Rattle.list_machine.specs.Starts.{names_in}
use Rattle.list_machine.specs.Step.{plain_commit}
use Rattle.twin_batches.specs.Kind.{kept_of}
use Rattle.twin_databases.specs.CompactKind.{CompactView, IsCompactOf, IsCompactUnder, IsOpenable, compact_kind}
use Rattle.twin_databases.proofs.GoodStart.{openable}
use Rattle.twin_databases.proofs.WentLemmas.{changes_err}

-- which operations a codec allows
abbrev Allowed : LengthCfg → Operation → Type 0
Allowed codec op = variable_admits (admits_bytes codec.max) (parts op)

module _ (tells : Type 0) (config : Config) (small : config.value_limit ≤ 16777216) (codec : LengthCfg)
    (codec_is : codec ≡ record { max = config.value_limit }) (name : List ℕ) (name_is : name ≡ config.witness)
    (cap given : Option ℕ) (cap_is : cap ≡ given) (old : volume.State) where
  abbrev Stands : State Operation → Log → Type 0
  Stands s log = CompactStands mmr sha bytes_of meaning s.ops s.sizes s.prune s.durable log

  abbrev Good : State Operation → Type 0
  Good s = IsGood meaning AnyList (λ (v : List ℕ). length v ≤ config.value_limit) plain_commit s

  same_log : old.log name ≡ old.log config.witness
  same_log = ap old.log name_is

  open_here : (s : State Operation) → Good s → IsOpenable (Allowed codec) s
  open_here s good =
      subst (λ (c : LengthCfg). IsOpenable (Allowed c) s) (sym codec_is) (openable config.value_limit small s good)

  pub under_opened : (new : volume.State) (r : Result CompactView (Error Mmr))
      → (tells → IfOk r (λ db. (names : DatabaseNames) (s : State Operation) (most : ℕ) → names.witness ≡ name
      → cap ≡ Some most → 1 ≤ most → s.durable ≤ most → IsOpenable (Allowed codec) s → Stands s (old.log name)
      → IsCompactOf (kept_of (opened_at names s (present old) (last_kept most (old.log name) 1 0 s.sizes)))
      (present new) db))
      → IfOk r (λ db. tells → (s : State Operation) (most : ℕ) → given ≡ Some most → 1 ≤ most → s.durable ≤ most
      → Good s → Stands s (old.log config.witness)
      → IsCompactOf
      (kept_of (opened_at (names_in config) s (present old) (last_kept most (old.log config.witness) 1 0 s.sizes)))
      (present new) db)
  under_opened new (Ok db) opened = λ told s most is one high good stands.
      subst (λ (log : Log). IsCompactOf
      (kept_of (opened_at (names_in config) s (present old) (last_kept most log 1 0 s.sizes))) (present new) db)
      same_log
      (opened told (names_in config) s most (sym name_is) (cap_is ∙ is) one high (open_here s good)
      (subst (Stands s) (sym same_log) stands))
  under_opened new (Err e) opened = tt

  pub under_standing : (r : Result CompactView (Error Mmr))
      → (tells → IfErr r (λ e. (s : State Operation) (most : ℕ) → cap ≡ Some most → 1 ≤ most → s.durable ≤ most
      → IsOpenable (Allowed codec) s → FloorsRise meaning 0 0 s.ops → Stands s (old.log name) → IsOutside e))
      → IfErr r (λ e. tells → (s : State Operation) (most : ℕ) → given ≡ Some most → 1 ≤ most → s.durable ≤ most
      → Good s → Stands s (old.log config.witness) → IsOutside e)
  under_standing (Ok db) refused = tt
  under_standing (Err e) refused = λ told s most is one high good stands.
      refused told s most (cap_is ∙ is) one high (open_here s good) good.ops.floors
      (subst (Stands s) (sym same_log) stands)

  -- what a crash leaves of the log goes on standing for the state
  pub under_images : (new : volume.State)
      → (tells → (s : State Operation) (most : ℕ) → cap ≡ Some most → 1 ≤ most → s.durable ≤ most
      → IsOpenable (Allowed codec) s → Stands s (old.log name) → LogHas old name (Stands s)
      → LogKeeps name (Stands s) old new)
      → tells → (s : State Operation) (most : ℕ) → given ≡ Some most → 1 ≤ most → s.durable ≤ most → Good s
      → Stands s (old.log config.witness) → LogHas old config.witness (Stands s)
      → LogKeeps config.witness (Stands s) old new
  under_images new images told s most is one high good =
      subst (λ (n : List ℕ). Stands s (old.log n) → LogHas old n (Stands s) → LogKeeps n (Stands s) old new) name_is
      (images told s most (cap_is ∙ is) one high (open_here s good))

-- ---- whatever the volume holds

-- what an opening under a cap other than 0 gives, as a cap of 0 is refused
pub capped_ok : (cap : Option ℕ) (r : Result CompactView (Error Mmr)) (P : CompactView → Type 0)
    → (cap ≡ Some 0 → IsErrOf r error.InvalidInitializationBound) → (cap ≢ Some 0 → IfOk r P) → IfOk r P
capped_ok cap (Ok db) P bound other = other (λ none. absurd (let bad = bound none in cc))
capped_ok cap (Err e) P bound other = tt

pub under_under : (config : Config) (blob : ℕ) (codec : LengthCfg) → blob ≡ config.witness_blob
    → codec ≡ record { max = config.value_limit } → (r : Result CompactView (Error Mmr))
    → IfOk r (λ db. ((seen_log db.log).blob ≡ blob) × (db.codec ≡ codec)) → IfOk r (λ db. IsCompactUnder config db)
under_under config blob codec blob_is codec_is (Ok db) is = record { blob = is.0 ∙ blob_is; codec = is.1 ∙ codec_is }
under_under config blob codec blob_is codec_is (Err e) is = tt

pub under_durable : (tells : Type 0) (name : List ℕ) (new : volume.State) (r : Result CompactView (Error Mmr))
    → IfOk r (λ db. compact_kind.names db ≡ log_alone name)
    → (tells → IfOk r (λ db. OnlyLeft (new.log_left new.clock name) (new.log name)))
    → IfOk r (λ db. tells → compact_kind.is_synced db new)
under_durable tells name new (Ok db) same durable = λ told.
    subst (λ (n : List ℕ). OnlyLeft (new.log_left new.clock n) (new.log n))
    (sym (ap (λ (n : Names). get_or n.logs 0 []) same)) (durable told)
under_durable tells name new (Err e) same durable = tt

pub under_names : (config : Config) (name : List ℕ) → name ≡ config.witness → (r : Result CompactView (Error Mmr))
    → IfOk r (λ db. compact_kind.names db ≡ log_alone name)
    → IfOk r (λ db. compact_kind.names db ≡ log_alone config.witness)
under_names config name is (Ok db) same = same ∙ ap log_alone is
under_names config name is (Err e) same = tt

-- a refused cap has changed nothing
pub unchanged : (tells : Type 0) (s : volume.State) (r : Result CompactView (Error Mmr))
    → IsErrOf r error.InvalidInitializationBound → Changes tells error.Volume s s r
unchanged tells s r is =
    subst (λ (r : Result CompactView (Error Mmr)). Changes tells error.Volume s s r) (sym is)
    (changes_err tells error.Volume error.InvalidInitializationBound s s (λ e. cc) (went_none tells s))
