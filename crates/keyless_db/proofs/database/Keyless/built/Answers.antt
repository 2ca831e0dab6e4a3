use Rattle.std.proofs.Common.{◌≡◌, ◌≤◌, length, refl, sym, ◌∙◌, ap, subst, arith}
use Rattle.tree_shape.specs.Shape.{inactive}
use Rattle.log_model.proofs.OperationLemmas.{inactive-within}
use Rattle.keyless_db.proofs.OpenLemmas.{built_held}
use Rattle.keyless_db.proofs.database.Keyless.built.Goals as goal

pub root-requires : goal.root-requires
root-requires g c =
    let s = g.F.Family.shape in
    let k : c.inactive_peaks-inactive.result ≡ inactive s c.args.size c.in-Some.floor =
    c.inactive_peaks-inactive.ensures ∙ ap (λ n. inactive s n c.new-3.result) c.new-2.ensures ∙ ap (inactive s c.args.size) c.new-3.ensures in
    subst (λ n. c.inactive_peaks-inactive.result ≤ length (s.heights n)) (sym c.requires.whole)
    (subst (λ n. n ≤ length (s.heights c.args.size)) (sym k) (inactive-within s c.args.size c.in-Some.floor))

pub returns-clause-listed : goal.returns-clause-listed
returns-clause-listed g c list image joined low at =
    let s = g.F.Family.shape in
    let k : c.inactive_peaks-inactive.result ≡ inactive s c.args.size c.in-Some.floor =
    c.inactive_peaks-inactive.ensures ∙ ap (λ n. inactive s n c.new-3.result) c.new-2.ensures ∙ ap (inactive s c.args.size) c.new-3.ensures in
    built_held s g.H.Hasher.hash g.O.Logged.meaning g.H.Digest.Spelled.spelling (g.H.Digest.Read.admits tt) g.O.Spelled.spelling g.met.O.Logged.spelled list c.args.journal image joined low c.args.size c.requires.whole
    (omega (arith, c.if-size-gt-MAX_LEAVES.false)) c.args.last_commit at c.in-Some.floor (sym c.in-Some.ensures) _ c.inactive_peaks-inactive.result c.in-Ok.root refl
    (c.new-state.ensures.size ∙ c.new-4.ensures) c.new-state.ensures.root refl k c.requires.folded c.in-Ok.ensures.root
