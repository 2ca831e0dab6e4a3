use Rattle.std.proofs.Common.{◌≡◌, ◌∷◌, true, false, refl, arith}
use Rattle.std.proofs.lemmas.Result.{err_from_is_err_and}
use Rattle.chain_core.proofs.PlaceLemmas.{refused_elsewhere, refused_full, by_floor, refused_by_floor}
use Rattle.chain_core.proofs.place.Place.check.Goals as goal

pub returns-in_err-validate_batch_applicable-clause-refused : goal.returns-in_err-validate_batch_applicable-clause-refused
returns-in_err-validate_batch_applicable-clause-refused g c =
    let place = c.args.self.now in
    let p = err_from_is_err_and c.from_residual.result c.from_residual.ensures.1 in
    let told = rw (c.copied.ensures, c.copied-2.ensures, c.as_slice.ensures) at c.in_err-validate_batch_applicable.ensures.at_boundary_or_ancestor in
    refused_elsewhere g.D.Digest.bytes g.met.D.Digest.exact c.args.current.now (place.boundary ∷ place.ancestors) c.args.size place.floor c.args.floor c.from_residual.result p.0 p.1 (rw p.2 c.in_err-validate_batch_applicable.ensures.stale) (λ h. absurd (let never : false ≡ true = told.1 h in cc))

pub returns-then-tip-gt-MAX_LEAVES-clause-refused : goal.returns-then-tip-gt-MAX_LEAVES-clause-refused
returns-then-tip-gt-MAX_LEAVES-clause-refused g c =
    let place = c.args.self.now in
    let told = rw (c.copied.ensures, c.copied-2.ensures, c.as_slice.ensures) at c.in_ok-validate_batch_applicable.ensures.at_boundary_or_ancestor in
    rw c.new.ensures (refused_full g.D.Digest.bytes g.met.D.Digest.exact c.args.current.now (place.boundary ∷ place.ancestors) (told.0 refl) c.args.size place.floor c.args.floor (omega (arith, c.if-tip-gt-MAX_LEAVES.true)))

pub returns-in_err-validate_merkleize_floor-clause-refused : goal.returns-in_err-validate_merkleize_floor-clause-refused
returns-in_err-validate_merkleize_floor-clause-refused g c =
    let place = c.args.self.now in
    let told = rw (c.copied.ensures, c.copied-2.ensures, c.as_slice.ensures) at c.in_ok-validate_batch_applicable.ensures.at_boundary_or_ancestor in
    let p = err_from_is_err_and c.from_residual-in_err-validate_merkleize_floor.result c.from_residual-in_err-validate_merkleize_floor.ensures.1 in
    let why = rw (c.new-start.ensures, c.as_u64.ensures, c.new-2.ensures) at c.in_err-validate_merkleize_floor.ensures in
    refused_by_floor g.D.Digest.bytes g.met.D.Digest.exact c.args.current.now (place.boundary ∷ place.ancestors) (told.0 refl) c.args.size place.floor c.args.floor (omega (arith, c.if-tip-gt-MAX_LEAVES.false))
    c.from_residual-in_err-validate_merkleize_floor.result p.0 p.1 (rw p.2 why)

pub returns-clause-refused : goal.returns-clause-refused
returns-clause-refused g c =
    let place = c.args.self.now in
    let told = rw (c.copied.ensures, c.copied-2.ensures, c.as_slice.ensures) at c.in_ok-validate_batch_applicable.ensures.at_boundary_or_ancestor in
    let why = rw (c.new-start.ensures, c.as_u64.ensures, c.new-2.ensures) at c.in_ok-validate_merkleize_floor.ensures in
    rw (by_floor g.D.Digest.bytes g.met.D.Digest.exact c.args.current.now (place.boundary ∷ place.ancestors) (told.0 refl) c.args.size place.floor c.args.floor (omega (arith, c.if-tip-gt-MAX_LEAVES.false))) why
