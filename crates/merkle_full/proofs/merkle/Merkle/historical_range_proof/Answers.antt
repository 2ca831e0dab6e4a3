use Rattle.std.proofs.Common.{◌≡◌, ◌<◌, ◌≤◌, ℕ, Err, sym, ◌∙◌, ap, subst, arith}
use Rattle.volume_base.specs.Moments.{present}
use Rattle.tree_proof.specs.Cover.{meets}
use Rattle.tree_verification.specs.Ranges.{cover_positions}
use Rattle.merkle_full.specs.Full.{Full, IsKept, told_at}
use Rattle.merkle_full.specs.Proving.{history_answer}
use Rattle.merkle_full.proofs.FullLemmas.{held_of_full, told_tree}
use Rattle.merkle_full.proofs.ProvedLemmas.{history_past, history_within, range_in, cover_told, if_outside, on_answer, proved_refused}
use Rattle.tree_verification.proofs.NodeLemmas.{ok_gives}
use Rattle.tree_store.specs.declared.error.Error.TheVariants.{RangeOutOfBounds}
use Rattle.merkle_full.proofs.merkle.Merkle.historical_range_proof.Goals as goal

pub returns-then-count-as_u64-clause-proves : goal.returns-then-count-as_u64-clause-proves
returns-then-count-as_u64-clause-proves g c =
    let t = c.args.self.now in
    let n = c.args.leaves in
    let leaves_is : c.self.inside.mem.leaves ≡ t.tree.leaves = ap (λ (u : Full g.row.D.Denot). u.tree.leaves) c.self.view_is in
    let place : c.new.result ≡ n = c.new.ensures ∙ c.as_u64-count.ensures in
    let past : t.tree.leaves < n = omega (arith, c.if-count-as_u64.true, c.as_u64-count.ensures, c.as_u64.ensures, c.leaves.ensures.leaves, leaves_is) in
    let is = history_past {F = g.row.F.Denot} t.tree.leaves n c.args.start c.args.end past in
    proved_refused g.V.Volume.tells g.F.Family.shape g.D.Spelled.spelling (g.D.Read.admits tt) (g.D.Read.reads tt) t (present (g.V.Volume.state c.args.vol.now)) (history_answer t.tree.leaves n c.args.start c.args.end) n c.args.inactive_peaks c.args.start c.args.end (RangeOutOfBounds c.new.result)
    (is ∙ ap (λ (k : ℕ). Err (RangeOutOfBounds k)) (sym place))

pub returns-clause-proves : goal.returns-clause-proves
returns-clause-proves g c =
    let s = g.F.Family.shape in
    let sp = g.D.Spelled.spelling in
    let ad = g.D.Read.admits tt in
    let t = c.args.self.now in
    let n = c.args.leaves in
    let image = present (g.V.Volume.state c.args.vol.now) in
    let kept = subst (λ (u : Full g.row.D.Denot). IsKept s u) c.self.view_is c.self.invariant in
    let leaves_is : c.self.inside.mem.leaves ≡ t.tree.leaves = ap (λ (u : Full g.row.D.Denot). u.tree.leaves) c.self.view_is in
    let few : n ≤ t.tree.leaves = omega (arith, c.if-count-as_u64.false, c.as_u64-count.ensures, c.as_u64.ensures, c.leaves.ensures.leaves, leaves_is) in
    let same = history_within {F = g.row.F.Denot} t.tree.leaves n c.args.start c.args.end few in
    let did = c.historical_range_proof.ensures in
    record {
      refused = λ e is. did.refused e (sym same ∙ is);
      within = on_answer c.historical_range_proof.result _ _ (λ ok. same ∙ ok) did.within;
      form = did.form;
      told = did.told;
      list = ok_gives _ _ (λ proof is tells h all full.
          is tells (held_of_full s h sp ad all t image full kept.sound.within) h all (told_tree s h sp ad all t image (g.D.Read.reads tt) (g.met.D.Read.lawful tt) full)) c.historical_range_proof.result did.proof;
      kept = λ ok from tells h all full.
          let answered = range_in t.tree.leaves n c.args.start c.args.end (sym same ∙ ok) in
          let held = held_of_full s h sp ad all t image full kept.sound.within in
          if_outside (told_at (g.D.Read.reads tt) t image) (cover_positions s (meets c.args.start c.args.end) n) c.historical_range_proof.result
          (cover_told s h sp ad all t image (g.D.Read.reads tt) (g.met.D.Read.lawful tt) g.met.F.Family.lawful g.met.F.Family.keeps full kept n c.args.start c.args.end few (let one = answered.0 in let two = answered.1 in omega (arith, from, one, two)) from)
          (did.outside (sym same ∙ ok) tells held);
      first = λ ok tells held. did.outside (sym same ∙ ok) tells held;
      fault = λ ok. did.fault (sym same ∙ ok);
    }
