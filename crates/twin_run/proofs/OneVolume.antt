-- What a crash leaves of the whole volume, in what it leaves of the logs and maps of one database.
use Rattle.std.proofs.Common.{◌≡◌, [], get_or, sym, subst}
use Rattle.volume_base.specs.Log.{Log}
use Rattle.volume_base.specs.Moments.{Image, LeftAt, EachNow, present}
use Rattle.volume_base.specs.Names.{Names}
use Rattle.volume_base.specs.Volume as volume
use Rattle.volume_base.specs.Volume.{Map}
use Rattle.volume_base.proofs.NameLemmas.{names_of_each, agree_three}
use Rattle.tree_shape.specs.Mmr.{mmr}
use Rattle.tree_shape.specs.Sha256Codec.{bytes_of}
use Rattle.log_model.specs.Machine.{State}
use Rattle.log_model.specs.Stored.{FullStands, CompactStands}
use Rattle.list_machine.specs.Config.{Config}
use Rattle.list_machine.specs.Operation.{Operation, meaning, sha}
use Rattle.list_machine.specs.Starts.{full_names, compact_names}
use Rattle.twin_batches.specs.Standing.{StandsNow}
use Rattle.twin_databases.specs.CompactKind.{CompactView, compact_kind}
use Rattle.twin_databases.specs.FullKind.{FullView, full_kind}
use Rattle.twin_run.specs.Standing.{Stands}

-- The logs and the map of these names stand for the full database's part of a state, and the log for the compact
-- one's.
abbrev pub FullPart : State Operation → Log → Log → Map → Type 0
FullPart s log nodes metadata =
    FullStands mmr sha bytes_of meaning s.ops s.prune s.durable s.node_durable log nodes metadata

abbrev pub CompactPart : State Operation → Log → Type 0
CompactPart s log = CompactStands mmr sha bytes_of meaning s.ops s.sizes s.prune s.durable log

module _ (config : Config) (s : State Operation) where
  -- An image of the volume has it under a database's names, where those are the configuration's.
  pub full_part : (f : FullView) (image : Image) → full_kind.names f ≡ full_names config → Stands config s image
      → full_kind.stands s f image
  full_part f image same stands = subst (λ (names : Names).
      FullPart s (image.log (get_or names.logs 0 [])) (image.log (get_or names.logs 1 []))
      (image.map (get_or names.maps 0 []))) (sym same) stands.full

  pub compact_part : (d : CompactView) (image : Image) → compact_kind.names d ≡ compact_names config
      → Stands config s image → compact_kind.stands s d image
  compact_part d image same stands =
      subst (λ (names : Names). CompactPart s (image.log (get_or names.logs 0 []))) (sym same) stands.compact

  -- Where each image that a crash may leave now stands for a state, what it leaves under a database's names does.
  module _ (now : volume.State) (left : LeftAt now now.clock (present now)) (each : EachNow (Stands config s) now) where
    pub full_now : (f : FullView) → full_kind.names f ≡ full_names config → StandsNow full_kind s f now
    full_now f same = names_of_each (full_kind.names f) (full_kind.stands s f) now
        (agree_three f.journal.items.name f.journal.tree.log.name f.journal.tree.metadata (FullPart s)) left
        (λ image at. full_part f image same (each image at))

    pub compact_now : (d : CompactView) → compact_kind.names d ≡ compact_names config → StandsNow compact_kind s d now
    compact_now d same = names_of_each (compact_kind.names d) (compact_kind.stands s d) now
        (λ one two agree is. subst (λ (log : Log). CompactPart s log) (sym agree.logs.0) is) left
        (λ image at. compact_part d image same (each image at))
