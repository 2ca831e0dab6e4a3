use Rattle.std.proofs.Common.{ℕ, ◌+◌, ◌^◌, sym, ◌∙◌, ap}
use Rattle.std.specs.Prelude.{nat_lt}
use Rattle.tree_verification.proofs.SeveralLemmas.{met-then, met-else}
use Rattle.tree_verification.proofs.wanted.SeveralWanted.is_met.Goals as goal

pub returns-then-at-self : goal.returns-then-at-self
returns-then-at-self g c =
    let ls = c.args.self.now.locations.now in
    ap (λ (l : ℕ). nat_lt l (c.args.x + c.width.result)) (c.as_u64.ensures ∙ sym c.index-self-at.is) ∙ ap (λ (w : ℕ). nat_lt c.index-self-at.result (c.args.x + w)) c.width.ensures
    ∙ met-then ls c.args.x (c.args.x + 2 ^ c.args.height) c.first_from-at.result c.index-self-at.result c.requires.ready (record { before = c.first_from-at.ensures.before; since = c.first_from-at.ensures.since }) c.if-at-self.true c.index-self-at.is

pub returns-else-at-self : goal.returns-else-at-self
returns-else-at-self g c =
    met-else c.args.self.now.locations.now c.args.x (c.args.x + 2 ^ c.args.height) c.first_from-at.result c.requires.ready (record { before = c.first_from-at.ensures.before; since = c.first_from-at.ensures.since }) c.if-at-self.false
