use Rattle.std.proofs.Common.{◌≡◌, None, length, sym, ◌∙◌, ap}
use Rattle.std.specs.NonZero.{non_zero_u64_get}
use Rattle.twin_side.specs.Proving.{known_refusal}
use Rattle.twin_side.proofs.FullReads.{admitted, held, size_here}
use Rattle.twin_side.proofs.ProvingLemmas.{else_outside, made_shown, unmade_shown}
use Rattle.twin_side.proofs.full_proofs.Side+Full.shown.Goals as goal

pub returns-in-Ok-clause-shown : goal.returns-in-Ok-clause-shown
returns-in-Ok-clause-shown g c tells config s good =
    let db = c.args.self.now.db in
    let start = db.journal.items.start in
    let known : known_refusal start (length s.ops) c.args.s ≡ None = ap (λ k. known_refusal start k c.args.s) (sym (size_here config _ db _ s good)) ∙ c.requires.known in
    made_shown s.ops start (non_zero_u64_get c.args.n) c.new.result c.new-2.result c.args.s c.args.a c.new.ensures c.new-2.ensures known c.requires.late c.in-Ok.made
    (c.in-Ok.ensures.answer tells s.ops (held config _ db _ s good) (λ p op read at. admitted config _ db _ s good p op at))

pub returns-then-says_no_commit-clause-shown : goal.returns-then-says_no_commit-clause-shown
returns-then-says_no_commit-clause-shown g c tells config s good =
    let db = c.args.self.now.db in
    let start = db.journal.items.start in
    let known : known_refusal start (length s.ops) c.args.s ≡ None = ap (λ k. known_refusal start k c.args.s) (sym (size_here config _ db _ s good)) ∙ c.requires.known in
    unmade_shown s.ops start (non_zero_u64_get c.args.n) c.new.result c.new-2.result c.args.s c.args.a c.new.ensures c.new-2.ensures known c.requires.late c.in-Err.error
    (sym c.says_no_commit.ensures ∙ c.if-says_no_commit.true)
    (c.in-Err.ensures.answer tells s.ops (held config _ db _ s good) (λ p op read at. admitted config _ db _ s good p op at))

pub returns-else-says_no_commit-clause-errors : goal.returns-else-says_no_commit-clause-errors
returns-else-says_no_commit-clause-errors g c tells config s good =
    let db = c.args.self.now.db in
    let start = db.journal.items.start in
    let known : known_refusal start (length s.ops) c.args.s ≡ None = ap (λ k. known_refusal start k c.args.s) (sym (size_here config _ db _ s good)) ∙ c.requires.known in
    else_outside s.ops start (non_zero_u64_get c.args.n) c.new.result c.new-2.result c.args.s c.args.a c.new.ensures c.new-2.ensures known c.requires.late c.in-Err.error
    (sym c.says_no_commit.ensures ∙ c.if-says_no_commit.false)
    (c.in-Err.ensures.answer tells s.ops (held config _ db _ s good) (λ p op read at. admitted config _ db _ s good p op at))
