use Rattle.std.proofs.Common.{rules, ◌≡◌, [], ◌∷◌, get_or, arith}
use Rattle.hex.specs.Hex.{encode_lower}
use Rattle.line_text.specs.Pending.{puts_err}
use Rattle.line_text.proofs.HexText.{sent_nothing, hex_sent, hex_front}
use Rattle.line_text.proofs.text.put_hex.Goals as goal

pub loop-byte-init : goal.loop-byte-init
loop-byte-init g c = record { sent = sent_nothing _ _; later = omega arith }

pub returns-in_err-put-clause-text : goal.returns-in_err-put-clause-text
returns-in_err-put-clause-text g c =
    let pair : c.encode_to_slice.new.output ≡ encode_lower (get_or c.args.bytes.now c.loop-byte.byte-index 0 ∷ []) = search rules in
    puts_err _ _ _ _ c.from_residual.result _ c.from_residual.ensures.0 (hex_front _ _ _ c.loop-byte.piece _ c.args.bytes.now c.loop-byte.byte-index 0 _ c.loop-byte-test.true pair c.loop-byte.invariant.sent c.in_err-put.ensures.text)

pub loop-byte-preserved : goal.loop-byte-preserved
loop-byte-preserved g c =
    let pair : c.encode_to_slice.new.output ≡ encode_lower (get_or c.args.bytes.now c.loop-byte.byte-index 0 ∷ []) = search rules in
    record {
      sent = hex_sent _ _ _ c.loop-byte.piece _ c.put.new.self c.args.bytes.now c.loop-byte.byte-index 0 _ c.loop-byte-test.true pair c.loop-byte.invariant.sent c.in_ok-put.ensures.text;
      later = omega (arith, c.loop-byte.invariant.later, c.put.ensures.cause.later);
    }
