use Rattle.std.proofs.Common.{rules, ◌≡◌, ℕ, map, Option, Some, None, sym, subst}
use Rattle.witness_store.specs.Witnesses.{IsKept}
use Rattle.witness_store.specs.declared.witness.Witness.{Witness}
use Rattle.compact_db.specs.DbView.{DbView, seen_log}
use Rattle.compact_db.specs.Held.{IsHeldFor}
use Rattle.compact_db.specs.Serving.{IsKeptAt}
use Rattle.compact_db.specs.WitnessOf.{witness_of}
use Rattle.compact_db.proofs.ServingLemmas.{size_none, size_here, fault_outside}
use Rattle.compact_db.proofs.database.CompactDb.retained_position.Goals as goal

pub returns-in-Ok-Some-clause-kept : goal.returns-in-Ok-Some-clause-kept
returns-in-Ok-Some-clause-kept g c told ops sizes held =
    let s = g.F.Family.shape in
    let h = g.H.Hasher.hash in
    let m = g.O.Logged.meaning in
    let was = subst (λ (d : DbView g.row.F.Denot g.row.H-Digest.Denot g.row.O.Denot g.row.O-Cfg.Denot). IsHeldFor s h m g.H.Digest.Spelled.spelling (g.H.Digest.Read.admits tt) ops sizes d (g.V.Volume.state c.args.vol.now))
    (sym c.self.view_is) held in
    let one : c.in-Ok-Some.field-0 ≡ Some (c.in-Ok-Some.position, c.in-Ok-Some.field-0-0-1) = first_of (search rules, cc) in
    let kept = subst (λ (o : Option (ℕ × Witness g.row.F.Denot g.row.H-Digest.Denot)). IsKept (map (witness_of s h m ops) sizes) (seen_log c.self.inside.log).start c.args.size o) one
    (c.in-Ok-Some.ensures.kept was.opened told was.bounds _ was.witnesses) in
    subst (λ (d : DbView g.row.F.Denot g.row.H-Digest.Denot g.row.O.Denot g.row.O-Cfg.Denot). IsKeptAt sizes (seen_log d.log).start c.args.size (Some c.in-Ok-Some.position)) c.self.view_is
    (size_here s h m ops sizes (seen_log c.self.inside.log).start c.args.size c.in-Ok-Some.position c.in-Ok-Some.field-0-0-1 kept)

pub returns-in-Ok-None-clause-kept : goal.returns-in-Ok-None-clause-kept
returns-in-Ok-None-clause-kept g c told ops sizes held =
    let s = g.F.Family.shape in
    let h = g.H.Hasher.hash in
    let m = g.O.Logged.meaning in
    let was = subst (λ (d : DbView g.row.F.Denot g.row.H-Digest.Denot g.row.O.Denot g.row.O-Cfg.Denot). IsHeldFor s h m g.H.Digest.Spelled.spelling (g.H.Digest.Read.admits tt) ops sizes d (g.V.Volume.state c.args.vol.now))
    (sym c.self.view_is) held in
    let kept = subst (λ (o : Option (ℕ × Witness g.row.F.Denot g.row.H-Digest.Denot)). IsKept (map (witness_of s h m ops) sizes) (seen_log c.self.inside.log).start c.args.size o) c.in-Ok-None.field-0-is
    (c.in-Ok-None.ensures.kept was.opened told was.bounds _ was.witnesses) in
    subst (λ (d : DbView g.row.F.Denot g.row.H-Digest.Denot g.row.O.Denot g.row.O-Cfg.Denot). IsKeptAt sizes (seen_log d.log).start c.args.size None) c.self.view_is
    (size_none {F = g.row.F.Denot} s h m ops sizes (seen_log c.self.inside.log).start c.args.size kept)

pub returns-clause-held : goal.returns-clause-held
returns-clause-held g c told ops sizes held =
    let s = g.F.Family.shape in
    let h = g.H.Hasher.hash in
    let m = g.O.Logged.meaning in
    let was = subst (λ (d : DbView g.row.F.Denot g.row.H-Digest.Denot g.row.O.Denot g.row.O-Cfg.Denot). IsHeldFor s h m g.H.Digest.Spelled.spelling (g.H.Digest.Read.admits tt) ops sizes d (g.V.Volume.state c.args.vol.now))
    (sym c.self.view_is) held in
    fault_outside s h m g.H.Digest.Spelled.spelling (g.H.Digest.Read.admits tt) g.V.Volume.tells _ (g.V.Volume.state c.args.vol.now) c.in-Err.error c.in-Err.ensures.fault told ops sizes was
