use Rattle.std.proofs.Common.{List, ◌++◌, sym, ◌∙◌, ap, subst}
use Rattle.std.specs.Option.{unwrap_or}
use Rattle.std.proofs.Math.Seq.{drop-append_seam}
use Rattle.tree_core.specs.Tree.{IsOf}
use Rattle.compact_db.specs.Verified.{root_under, verified_leaves}
use Rattle.compact_db.proofs.ApplyLemmas.{stale_memory}
use Rattle.compact_db.proofs.MarkLemmas.{refused_misfit}
use Rattle.compact_db.proofs.applying.applied.Goals as goal

pub returns-clause-list : goal.returns-clause-list
returns-clause-list g c all more of sealed rooted =
    let s = g.F.Family.shape in
    let h = g.H.Hasher.hash in
    let grown : IsOf s h (all ++ more) c.apply_batch.new.self =
    subst (λ (ds : List g.row.H-Digest.Denot). IsOf s h (all ++ ds) c.apply_batch.new.self) (drop-append_seam all more)
    (c.in-Ok.ensures.tree h all (all ++ more) of sealed) in
    let floor = c.new-floor.ensures ∙ c.unwrap_or.ensures ∙ ap (λ o. unwrap_or o 0) c.commit_floor.ensures in (
      c.in_ok-tip.ensures.verified (all ++ more) grown (rooted ∙ ap (root_under s h (all ++ more)) (sym floor))
          ∙ ap (λ bytes. verified_leaves s h (all ++ more) bytes c.new-floor.result)
          (c.requires.bytes ∙ sym (g.met.O.Logged.spelled c.args.commit.now))
          ∙ ap (verified_leaves s h (all ++ more) (g.O.Logged.meaning.encoding c.args.commit.now)) floor,
      c.prune_to_frontier.ensures.tree h (all ++ more) grown,
    )

pub returns-in-Err-clause-misfit : goal.returns-in-Err-clause-misfit
returns-in-Err-clause-misfit g c is all of i fits =
    let s = g.F.Family.shape in
    let h = g.H.Hasher.hash in
    refused_misfit s h all c.args.merkle.leaves c.args.batch.now c.in-Err.error (c.in-Err.ensures.refused h all of)
    (λ memory. stale_memory c.as_stale.result is (c.as_stale.ensures.memory memory)) i fits
