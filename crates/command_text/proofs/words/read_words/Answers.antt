use Rattle.command_text.proofs.CommandLines.{unnamed}
use Rattle.command_text.proofs.words.read_words.Goals as goal

pub returns-in_default-clause-command : goal.returns-in_default-clause-command
returns-in_default-clause-command c = unnamed c.args.word.now c.args.words c.in_default.ensures
