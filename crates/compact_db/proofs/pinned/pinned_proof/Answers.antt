use Rattle.std.proofs.Common.{◌≡◌, ◌+◌, ◌-◌, ◌∙◌, ap, arith}
use Rattle.tree_shape.specs.Shape.{inactive}
use Rattle.compact_db.proofs.PinLemmas.{inactive_fits}
use Rattle.compact_db.proofs.PinnedLemmas.{pins_proof}
use Rattle.compact_db.proofs.pinned.pinned_proof.Goals as goal

pub proof_from_memory-requires : goal.proof_from_memory-requires
proof_from_memory-requires g c =
    let size = c.as_u64-size.ensures in
    let new = c.new.ensures in
    let some = c.requires.some in
    let count : c.new.result ≡ c.as_u64-size.result - 1 + 1 = omega (arith, new, size, some) in
    inactive_fits g.F.Family.shape (c.as_u64-size.result - 1 + 1) c.new.result c.args.floor c.inactive_peaks-inactive.result count
    c.inactive_peaks-inactive.ensures

pub returns-in-Ok-clause-proof : goal.returns-in-Ok-clause-proof
returns-in-Ok-clause-proof g c h =
    let s = g.F.Family.shape in
    let w = c.args.witness.now in
    let size = c.as_u64-size.ensures in
    let some = c.requires.some in
    let first = c.new-2.ensures in
    let before : c.as_u64-size.result - 1 ≡ w.size - 1 = ap (λ n. n - 1) size in
    let up : c.new-2.result + 1 ≡ w.size = omega (arith, first, size, some) in
    let count : c.as_u64-size.result - 1 + 1 ≡ w.size = omega (arith, size, some) in
    pins_proof s h w c.args.floor c.in-Ok.proof (c.as_u64-size.result - 1) c.new-2.result (c.new-2.result + 1) (c.as_u64-size.result - 1 + 1)
    c.inactive_peaks-inactive.result c.as_slice.result.now g.met.F.Family.lawful some before (first ∙ before) up count
    (c.inactive_peaks-inactive.ensures ∙ ap (λ n. inactive s n c.args.floor) (c.new.ensures ∙ size)) c.as_slice.ensures
    c.in-Ok.ensures.form c.in-Ok.ensures.proof
