use Rattle.std.proofs.Common.{◌≡◌, ℕ, List, refl, subst, ap}
use Rattle.journal_base.specs.View.{View}
use Rattle.volume_base.specs.Log.{cleared_at, BecomesOneOf}
use Rattle.volume_base.specs.Volume.{LogCall}
use Rattle.volume_base.proofs.CallLemmas.{log_call_read, log_call_after_read}
use Rattle.volume_base.proofs.JoinLemmas.{writes_joins}
use Rattle.volume_base.specs.declared.error.JournalError.TheVariants as journal
use Rattle.tree_store.specs.declared.error.Error.TheVariants as tree
use Rattle.tree_store.specs.Errors.{from_journal}
use Rattle.tree_store.proofs.ErrorLemmas.{volume_below}
use Rattle.journal_base.proofs.StepLemmas.{becomes_same}
use Rattle.merkle_full.proofs.PrepareLemmas.{writes_of_read}
use Rattle.merkle_full.proofs.RunLemmas.{not_ok}
use Rattle.merkle_full.proofs.prepare.kept_nodes.Goals as goal

pub returns-in_err-nodes-clause-call : goal.returns-in_err-nodes-clause-call
returns-in_err-nodes-clause-call g c =
    let read = c.in_err-nodes.ensures.answers in
    record {
      log = log_call_read g.V.Volume.tells journal.Volume _ (BecomesOneOf (cleared_at 0)) (becomes_same (cleared_at 0)) _ _ _ read;
      writes = writes_of_read g.V.Volume.tells journal.Volume tree.Volume _ _ _ _ read c.in_err-nodes.ensures.reads (volume_below _ c.in_err-nodes.field-0.0 _ refl c.from_residual.ensures.1) (not_ok c.from_residual.result (λ d. d ≡ from_journal c.in_err-nodes.field-0.0) _ c.from_residual.ensures.1);
    }

pub returns-in_err-cleared-clause-call : goal.returns-in_err-cleared-clause-call
returns-in_err-cleared-clause-call g c =
    let did = c.in_ok-nodes.ensures {u = tt} in
    let call = c.in_err-cleared.ensures.clears.call in
    let name = ap (λ (v : View _). v.name) did.made in
    let b = g.V.Volume.state c.recover.new.vol in
    let d = g.V.Volume.state c.reset.new.vol in
    record {
      log = λ told. log_call_after_read g.V.Volume.tells journal.Volume _ (BecomesOneOf (cleared_at 0)) (becomes_same (cleared_at 0)) _ _ _ did.answers _ told
          (subst (λ (n : List ℕ). LogCall n (BecomesOneOf (cleared_at 0)) b d) name (call.log told));
      writes = writes_joins g.V.Volume.tells journal.Volume journal.Volume tree.Volume _ b d c.in_ok-nodes.nodes _ _ (writes_of_read g.V.Volume.tells journal.Volume journal.Volume _ _ _ _ did.answers did.reads (λ is. is) did.answers.kept) call.writes
          (volume_below _ c.in_err-cleared.field-0.0 _ refl c.from_residual-in_err-cleared.ensures.1) (λ _. not_ok c.from_residual-in_err-cleared.result (λ d. d ≡ from_journal c.in_err-cleared.field-0.0) _ c.from_residual-in_err-cleared.ensures.1);
    }
