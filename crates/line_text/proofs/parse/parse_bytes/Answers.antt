use Rattle.std.proofs.Common.{◌≢◌, inl, inr, sym, ◌∙◌}
use Rattle.std.specs.Prelude.{codes}
use Rattle.std.proofs.lemmas.Bool.{eqb-false, false≢true}
use Rattle.std.proofs.lemmas.Slice.Eq.{bytes_eq-Decides}
use Rattle.line_text.proofs.HexWords.{word_read, word_unread}
use Rattle.line_text.proofs.parse.parse_bytes.Goals as goal

pub returns-in-Ok-clause-bytes : goal.returns-in-Ok-clause-bytes
returns-in-Ok-clause-bytes c =
    rw c.from_vec.ensures (word_read c.args.word.now c.in-Ok.bytes.items (eqb-false _ _ (sym c.if-is_empty.ensures)) c.in-Ok.ensures.ok)

pub returns-in_default : goal.returns-in_default
returns-in_default c =
    let other : c.args.word.now ≢ codes "." = (λ e. false≢true (c.if-eq.ensures ∙ (bytes_eq-Decides c.args.word.now c.as_slice.result.now).1 (e ∙ sym c.as_slice.ensures))) in
    record {
      bytes = elim c.in-Err.ensures.err [
        | inl memory ↦ absurd (c.in_default.not-OutOfMemory memory)
        | inr failed ↦ word_unread c.args.word.now c.in-Err.e other failed
      ];
      memory = tt;
    }
