-- What stands for a state of both databases of a run, where it stands for another too.
use Rattle.std.proofs.Common.{◌≡◌, ℕ, ◌≤◌, List, [], ◌∷◌, ◌++◌, length, max, Option, Some, None, refl, sym, subst, arith}
use Rattle.std.specs.Prelude.{nat_lt, nat_le}
use Rattle.std.proofs.lemmas.List.{append-nil}
use Rattle.volume_base.specs.Moments.{Image}
use Rattle.tree_shape.specs.Mmr.{mmr}
use Rattle.tree_shape.specs.Sha256Codec.{bytes_of}
use Rattle.log_model.specs.Good.{IsGoodLog}
use Rattle.log_model.specs.Machine.{State, batch_at, committed, max_leaves, pruned}
use Rattle.log_model.specs.Reach.{may_apply}
use Rattle.log_model.specs.StateBatches.{Batch, UnsealedBatch, Unsealed, Sealed, Gone, is_held, size_of}
use Rattle.log_model.specs.declared.refusal.Refusal.{Refusal}
use Rattle.log_model.proofs.SizeLemmas as sizes
use Rattle.log_model.proofs.StoredLemmas.{full_wider, compact_wider, compact_longer}
use Rattle.command_text.specs.declared.command.Command.{Command}
use Rattle.command_text.specs.declared.command.Command.TheVariants as command
use Rattle.compact_db.specs.DbView.{seen_log}
use Rattle.list_machine.specs.Config.{Config}
use Rattle.list_machine.specs.Operation.{Operation, meaning, one_list, sha}
use Rattle.list_machine.specs.Starts.{without_batches}
use Rattle.list_machine.specs.Step.{Outcome, step, begin, begin_on, append_to, seal, seal_refusal, sealed_or_lost, metadata_length, apply, hold, release}
use Rattle.list_machine.proofs.RunLaws.{either}
use Rattle.twin_batches.specs.About.{about_of}
use Rattle.twin_batches.specs.Standing.{with_ops}
use Rattle.twin_batches.specs.declared.about.Topic.TheVariants as topic
use Rattle.twin_batches.proofs.Handlers.{begins_where}
use Rattle.twin_databases.specs.CompactKind.{CompactView, compact_kind}
use Rattle.twin_databases.specs.FullKind.{FullView, full_kind}
use Rattle.twin_run.specs.Standing.{Stands}
use Rattle.twin_run.proofs.OneVolume.{CompactPart}

-- ---- where more is durable

module _ (s : State Operation) (good : IsGoodLog meaning s) where
  pub more_durable : (nodes : ℕ) → s.node_durable ≤ nodes → (f : FullView) (image : Image)
      → full_kind.stands (record s { durable = length s.ops; node_durable = nodes }) f image
      → full_kind.stands s f image
  more_durable nodes le f image stands = full_wider mmr sha bytes_of meaning s.ops s.prune s.prune (length s.ops)
      s.durable nodes s.node_durable (image.log f.journal.items.name) (image.log f.journal.tree.log.name)
      (image.map f.journal.tree.metadata) (omega arith) good.within le stands

  pub stored_less : (config : Config) (c : Command) → about_of c ≡ topic.Storage → (f : FullView) (image : Image)
      → full_kind.stands (step config s c).1 f image → full_kind.stands s f image
  stored_less config command.Commit about = more_durable s.node_durable (omega arith)
  stored_less config command.Sync about =
      more_durable (length s.ops) (let few = good.nodes in let within = good.within in omega (arith, few, within))
  stored_less config command.StartSync about =
      more_durable (length s.ops) (let few = good.nodes in let within = good.within in omega (arith, few, within))
  stored_less config _ about = absurd (cc)

  pub committed_less : (config : Config) (image : Image) → Stands config (committed s) image → Stands config s image
  committed_less config image stands = record {
    full = full_wider mmr sha bytes_of meaning s.ops s.prune s.prune (length s.ops) s.durable s.node_durable
        s.node_durable (image.log config.log) (image.log config.nodes) (image.map config.metadata) (omega arith)
        good.within (omega arith) stands.full;
    compact = compact_wider mmr sha bytes_of meaning s.ops s.sizes s.prune s.prune (length s.ops) s.durable
        (image.log config.witness) (omega arith) good.within stands.compact;
  }

-- ---- where it may be pruned further

pub pruned_wider : (config : Config) (s : State Operation) (l : ℕ) (d : CompactView) (image : Image)
    → compact_kind.stands (committed s) d image
    → compact_kind.stands (pruned config.log_blob config.witness_blob s l) d image
pruned_wider config s l d image stands = compact_wider mmr sha bytes_of meaning s.ops s.sizes s.prune (max s.prune l)
    (length s.ops) (length s.ops) (image.log (seen_log d.log).name) (omega arith) (omega arith) stands

-- ---- where the list is longer

module _ (s : State Operation) (good : IsGoodLog meaning s) (d : CompactView) (image : Image) where
  abbrev Still : State Operation → Type 0
  Still t = compact_kind.stands s d image → compact_kind.stands t d image

  with_more : (more : List Operation) → Still (with_ops s (s.ops ++ more))
  with_more more stands =
      let log = image.log (seen_log d.log).name in
      let P : List ℕ → Type 0 =
      λ ns. CompactPart (record s { ops = s.ops ++ more; sizes = ns }) log in
      let longer : (later : List ℕ) → P (s.sizes ++ later) = λ later. compact_longer mmr sha bytes_of meaning s.ops
      more s.sizes later s.prune s.durable log good.sizes good.within stands in
      sizes.either P (nat_lt (length s.ops) (length (s.ops ++ more))) (s.sizes ++ (length (s.ops ++ more) ∷ [])) s.sizes
      (λ longer_there. longer (length (s.ops ++ more) ∷ [])) (λ none. subst P (append-nil s.sizes) (longer []))

  abbrev StillAfter : Outcome → Type 0
  StillAfter o = Still o.1

  applied_more : (b : ℕ) (x : Batch Operation) → StillAfter (apply s b x)
  applied_more b (Sealed c) = either StillAfter (is_held c) _ _ (λ held. either StillAfter (may_apply one_list s c) _ _
      (λ may. let begins = begins_where s c.list c.boundary c.tips may in
      subst (λ (list : List Operation). Still (with_ops s list)) (sym begins.1) (with_more begins.0))
      (λ stale stands. stands)) (λ gone stands. stands)
  applied_more b (Unsealed u) = λ stands. stands
  applied_more b Gone = λ stands. stands

  pub applied_longer : (b : ℕ) → Still (apply s b (batch_at s b)).1
  applied_longer b = applied_more b (batch_at s b)

-- ---- where the batches alone are others

pub stands_beside : (config : Config) (s t : State Operation) → without_batches t ≡ without_batches s → (image : Image)
    → Stands config s image → Stands config t image
stands_beside config s t same image stands =
    let here : Stands config (without_batches s) image = record { full = stands.full; compact = stands.compact } in
    let there = subst (λ (u : State Operation). Stands config u image) (sym same) here in
    record { full = there.full; compact = there.compact }

pub stands_same : (config : Config) (s t : State Operation) → t ≡ s → (image : Image) → Stands config s image
    → Stands config t image
stands_same config s t same image stands =
    subst (λ (u : State Operation). Stands config u image) (sym same) stands

module _ (s : State Operation) where
  abbrev InBatches : Outcome → Type 0
  InBatches o = without_batches o.1 ≡ without_batches s

  begun_there : (p : ℕ) (x : Batch Operation) → InBatches (begin_on s p x)
  begun_there p (Sealed c) = either InBatches (is_held c) _ _ (λ held. refl) (λ gone. refl)
  begun_there p (Unsealed u) = refl
  begun_there p Gone = refl

  begun_batches : (parent : Option ℕ) → InBatches (begin s parent)
  begun_batches None = refl
  begun_batches (Some p) = begun_there p (batch_at s p)

  appended_there : (limit b : ℕ) (v : List ℕ) (x : Batch Operation) → InBatches (append_to limit s b v x)
  appended_there limit b v (Unsealed u) = either InBatches (nat_lt limit (length v)) _ _ (λ long. refl)
      (λ short. either InBatches (nat_le max_leaves (size_of u)) _ _ (λ full. refl) (λ room. refl))
  appended_there limit b v (Sealed c) = refl
  appended_there limit b v Gone = refl

  sealed_there : (b : ℕ) (u : UnsealedBatch Operation) (metadata : Option (List ℕ)) (floor : ℕ)
      (why : Option Refusal) → InBatches (sealed_or_lost s b u metadata floor why)
  sealed_there b u metadata floor (Some why) = refl
  sealed_there b u metadata floor None = refl

  ended_there : (limit b : ℕ) (metadata : Option (List ℕ)) (floor : ℕ) (x : Batch Operation)
      → InBatches (seal limit s b metadata floor x)
  ended_there limit b metadata floor (Unsealed u) = either InBatches (nat_lt limit (metadata_length metadata)) _ _
      (λ long. refl) (λ short. sealed_there b u metadata floor (seal_refusal s u floor))
  ended_there limit b metadata floor (Sealed c) = refl
  ended_there limit b metadata floor Gone = refl

  held_there : (b : ℕ) (x : Batch Operation) → InBatches (hold s b x)
  held_there b (Sealed c) = either InBatches (is_held c) _ _ (λ held. refl) (λ gone. refl)
  held_there b (Unsealed u) = refl
  held_there b Gone = refl

  released_there : (b : ℕ) (x : Batch Operation) → InBatches (release s b x)
  released_there b (Sealed c) = either InBatches (is_held c) _ _ (λ held. refl) (λ gone. refl)
  released_there b (Unsealed u) = refl
  released_there b Gone = refl

  -- so it is after a command on batches
  pub in_batches : (config : Config) (c : Command) → about_of c ≡ topic.Batches → InBatches (step config s c)
  in_batches config (command.New parent) about = begun_batches parent
  in_batches config (command.Append b v) about = appended_there config.value_limit b v (batch_at s b)
  in_batches config (command.Seal b metadata floor) about =
      ended_there config.value_limit b metadata floor (batch_at s b)
  in_batches config (command.Hold b) about = held_there b (batch_at s b)
  in_batches config (command.Release b) about = released_there b (batch_at s b)
  in_batches config command.Snapshot about = refl
  in_batches config _ about = absurd (cc)
