use Rattle.line_text.specs.Pending.{puts_whole}
use Rattle.line_text.proofs.piece.Piece.put.Goals as goal

pub returns-clause-text : goal.returns-clause-text
returns-clause-text g c = puts_whole _ c.args.self.now _ c.send.new.self _ c.write_all.result c.args.text.now c.in_ok-send.ensures.sent c.in_ok-send.ensures.ok c.write_all.ensures.text
