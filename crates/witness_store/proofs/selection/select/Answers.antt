use Rattle.std.proofs.Common.{◌≡◌, ℕ, ◌+◌, ◌^◌, ◌≤◌, ◌∙◌, ap, subst, sym, arith}
use Rattle.std.specs.Prelude.{Option, MatchOption}
use Rattle.witness_store.proofs.SearchLemmas.{within_of_held}
use Rattle.witness_store.proofs.SelectLemmas.{found_last, found_none, last_read}
use Rattle.witness_store.proofs.selection.select.Goals.{in_default-via-in-Some+else-as_u64-lt-MAX_LEAVES, in_default-via-in_default}
use Rattle.witness_store.proofs.selection.select.Goals as goal

pub returns-in-Some-before-clause-last : goal.returns-in-Some-before-clause-last
returns-in-Some-before-clause-last g c told held ws keeps =
    let above : c.new-above.result ≡ c.in-Some.cap + 1 = c.new-above.ensures ∙ ap (λ n. n + 1) c.as_u64-in-Some.ensures in
    let within = within_of_held _ _ held in
    found_last g.D.Spelled.spelling (g.D.Read.admits tt) (g.D.Read.reads tt) (g.met.D.Read.lawful tt) (g.R.Witnesses.seen c.args.reader.now) (g.V.Volume.state c.args.vol.now) ws held keeps c.in-Some.cap c.new-above.result c.args.cap c.in_ok-found-in-Some.found c.in-Some-before.witness above c.in-Some.is (c.in_ok-found-in-Some.ensures.found told within) c.in-Some-before.is

pub returns-in-Some-clause-last : goal.returns-in-Some-clause-last
returns-in-Some-clause-last g c told held ws keeps =
    let above : c.new-above.result ≡ c.in-Some.cap + 1 = c.new-above.ensures ∙ ap (λ n. n + 1) c.as_u64-in-Some.ensures in
    let within = within_of_held _ _ held in
    found_none g.D.Spelled.spelling (g.D.Read.admits tt) (g.D.Read.reads tt) (g.met.D.Read.lawful tt) (g.R.Witnesses.seen c.args.reader.now) (g.V.Volume.state c.args.vol.now) ws held keeps c.in-Some.cap c.new-above.result c.args.cap c.in_ok-found-in-Some.found above c.in-Some.is (c.in_ok-found-in-Some.ensures.found told within) c.in-None.is

pub returns-clause-last : goal.returns-clause-last
returns-clause-last g c told held ws keeps =
    let large : MatchOption c.args.cap (Unit {0}) (λ n. 2 ^ 62 ≤ n) = elim c.in_default.branch [
      | in_default-via-in-Some+else-as_u64-lt-MAX_LEAVES w ↦
          subst (λ (o : Option ℕ). MatchOption o (Unit {0}) (λ n. 2 ^ 62 ≤ n)) (sym w.in-Some.is) (omega (arith, w.if-as_u64-lt-MAX_LEAVES.false, w.as_u64.ensures))
      | in_default-via-in_default w ↦ subst (λ (o : Option ℕ). MatchOption o (Unit {0}) (λ n. 2 ^ 62 ≤ n)) (sym w.in_default.is) tt
    ] in
    last_read g.D.Spelled.spelling (g.D.Read.admits tt) (g.D.Read.reads tt) (g.met.D.Read.lawful tt) (g.R.Witnesses.seen c.args.reader.now) (g.V.Volume.state c.args.vol.now) ws held keeps c.args.cap c.span-end.result.1 c.in_ok-witness-in_default.witness c.span-end.ensures.end c.requires.some large (c.in_ok-witness-in_default.ensures.witness told)

pub returns-clause-few : goal.returns-clause-few
returns-clause-few g c = record { looks = 1; counted = c.witness_at.ensures.reads; few = omega (arith, c.requires.some) }
