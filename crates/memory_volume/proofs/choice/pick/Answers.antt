use Rattle.std.proofs.Common.{◌<◌, ◌^◌, sym, subst}
use Rattle.volume_base.specs.Log.{Log, end_of}
use Rattle.memory_volume.proofs.ChoiceLemmas.{version_is}
use Rattle.memory_volume.proofs.choice.pick.Goals as goal

pub end-last-requires : goal.end-last-requires
end-last-requires c = subst (λ (l : Log). end_of l < 2 ^ 64) (sym c.version_at-log.ensures) (c.requires _ (version_is c.args.row.now.present c.args.row.now.earlier.items c.args.version))
