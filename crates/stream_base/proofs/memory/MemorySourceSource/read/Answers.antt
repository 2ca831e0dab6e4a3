use Rattle.std.proofs.Common.{◌≡◌, ◌+◌, ◌-◌, length, take, drop, sym, ap, ◌∙◌, arith, length-drop}
use Rattle.stream_base.specs.Streams.{Unread}
use Rattle.stream_base.proofs.Known.{left_taken, drop_past}
use Rattle.stream_base.proofs.memory.MemorySourceSource.read.Goals as goal

pub returns-clause-bytes : goal.returns-clause-bytes
returns-clause-bytes c =
    let bytes = c.self.inside.bytes in
    let at = c.self.inside.at in
    let count = c.fill-count.result in
    let left_is : c.args.self.now.left ≡ drop at bytes = sym (ap (λ (s : Unread). s.left) c.self.view_is) in
    let given : c.split_at.result.1.now ≡ drop at bytes = c.split_at.ensures.back ∙ ap (drop at) c.as_slice.ensures in
    let behind : length c.split_at.result.1.now ≡ length bytes - at = ap length given ∙ length-drop at bytes in
    (left_is ∙ left_taken at count bytes _ (c.fill-count.ensures.front ∙ ap (take count) given), λ none some. drop_past (at + count) bytes (omega arith))
