use Rattle.std.proofs.Common.{sym, rules}
use Rattle.memory_volume.proofs.ChoiceLemmas.{version_from_none, version_from_at}
use Rattle.memory_volume.proofs.choice.version_at.Goals as goal

pub returns-then-place-eq0 : goal.returns-then-place-eq0
returns-then-place-eq0 c = sym (version_from_none c.args.row.now.present c.args.row.now.earlier.items c.args.version (search rules))

pub returns : goal.returns
returns c = sym (version_from_at c.args.row.now.present c.args.row.now.earlier.items c.args.version _ c.index.result.now (search rules) c.index.ensures)
