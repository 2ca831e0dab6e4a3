use Rattle.std.proofs.Common.{◌≡◌, ℕ, refl, sym, ◌∙◌, ap}
use Rattle.chain_core.specs.declared.commitment.Commitment.{Commitment}
use Rattle.tree_shape.specs.declared.mmr.Mmr.{Mmr}
use Rattle.tree_shape.specs.declared.sha256.Sha256Digest.{Sha256Digest}
use Rattle.command_text.specs.declared.command.Answer.TheVariants as answer
use Rattle.twin_batches.proofs.Handlers.{size_answer}
use Rattle.twin_side.proofs.side.Side.size.Goals as goal

same_size : (a b c d e f : ℕ) → a ≡ d → b ≡ e → c ≡ f → answer.Size a b c ≡ answer.Size d e f
same_size a b c d e f p q r = rw (p, q, r) refl

pub returns : goal.returns
returns g c = λ image s is at.
    let told = size_answer g.D.Database.kind image c.args.self.now.db c.args.self.now.numbers s is in
    same_size _ _ _ _ _ _ (c.as_u64.ensures ∙ ap (λ (d : Commitment Mmr Sha256Digest). d.size) c.commitment.ensures ∙ sym told.0) (sym at) (c.floor.ensures ∙ sym told.1)
