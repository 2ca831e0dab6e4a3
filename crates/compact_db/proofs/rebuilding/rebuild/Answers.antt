use Rattle.std.proofs.Common.{◌≡◌, ◌-◌, ◌∙◌, ap}
use Rattle.compact_db.proofs.RebuildLemmas.{parted, front_count, front_pins, last_is, state_is}
use Rattle.compact_db.proofs.rebuilding.rebuild.Goals as goal

pub returns-clause-list : goal.returns-clause-list
returns-clause-list g c ops ends few all is =
    let s = g.F.Family.shape in
    let h = g.H.Hasher.hash in
    let m = g.O.Logged.meaning in
    let admits = g.O.Read.admits c.args.codec.now in
    let last = parted s h m admits ops ends few all c.args.witness is in
    let bytes = last_is s h m admits ops ends few all c.args.witness is ∙ g.met.O.Logged.spelled last.last in
    let here = c.in_ok-commit.ensures.only last.last last.allowed bytes in
    let before : c.as_u64-before.result - 1 ≡ c.args.witness.size - 1 = ap (λ n. n - 1) c.as_u64-before.ensures in
    state_is s h m admits ops ends few all c.args.witness is c.in_ok-commit.commit c.in_ok-commit.floor c.in_ok-tip.tip c.in_ok-tip.merkle
    here c.in_ok-commit.ensures.floor
    (c.in_ok-tip.ensures.list _ (front_count s h m admits ops ends few all c.args.witness is (c.as_u64-before.result - 1) before)
    (front_pins s h m admits ops ends few all c.args.witness is (c.as_u64-before.result - 1) c.into_vec-pins.result.items before c.into_vec-pins.ensures))
