use Rattle.std.proofs.Common.{rules, ◌≡◌, ◌⊎◌, ◌-◌, inl, inr, false, ℕ, List, map, drop, take, Option, Some, None, Err, sym, ◌∙◌, ap, subst, arith}
use Rattle.std.specs.Prelude.{slice_get, IsOk, IfSome, IfErr}
use Rattle.std.specs.List.{AllByRecursion}
use Rattle.std.proofs.lemmas.List.{length-take}
use Rattle.codec_base.specs.Parts.{whole}
use Rattle.journal_base.specs.View.{IsWithin}
use Rattle.volume_base.proofs.ReadLemmas.{only_read_none, only_read_joins, reads_of}
use Rattle.volume_base.specs.declared.error.JournalError.TheVariants.{ItemPruned}
use Rattle.chain_core.specs.Answers.{IsOutside}
use Rattle.chain_core.specs.declared.error.Error.{Error}
use Rattle.chain_core.specs.declared.error.Error.TheVariants.{Journal, Volume}
use Rattle.witness_store.specs.Searched.{IsWitnessAt}
use Rattle.witness_store.specs.Witnesses.{witnesses_of, IsKept}
use Rattle.witness_store.specs.declared.witness.Witness.{Witness}
use Rattle.compact_db.specs.DbView.{DbView, seen_log}
use Rattle.compact_db.specs.Held.{IsHeldFor, IsSizeOf}
use Rattle.compact_db.specs.Pinned.{ProvesCommit}
use Rattle.compact_db.specs.Rebuild.{RefusedOnlyAs, rebuild_answer}
use Rattle.compact_db.specs.Serving.{has_size, kept_answer, AnswersAs, IsDamaged, IsLogFault, IsRebuiltAt}
use Rattle.compact_db.specs.WitnessOf.{witness_of}
use Rattle.compact_db.specs.declared.verified.VerifiedWitness.{VerifiedWitness}
use Rattle.compact_db.proofs.ServingLemmas.{size_ended, size_none, size_here, witness_here, front_witness, kept_true, kept_false, none_kept, rebuilt_as, damaged_as, fault_outside, never_volume, not_volume, if_ok, and_ok, is_ok, rebuilt_here}
use Rattle.compact_db.proofs.StateLemmas.{last_taken}
use Rattle.compact_db.proofs.database.CompactDb.state_at.Goals as goal

pub returns-in-Ok-Some-clause-kept : goal.returns-in-Ok-Some-clause-kept
returns-in-Ok-Some-clause-kept g c told ops sizes held =
    let s = g.F.Family.shape in
    let h = g.H.Hasher.hash in
    let m = g.O.Logged.meaning in
    let was = subst (λ (d : DbView g.row.F.Denot g.row.H-Digest.Denot g.row.O.Denot g.row.O-Cfg.Denot). IsHeldFor s h m g.H.Digest.Spelled.spelling (g.H.Digest.Read.admits tt) ops sizes d (g.V.Volume.state c.args.vol.now))
    (sym c.self.view_is) held in
    let one : c.in-Ok-Some.field-0 ≡ Some (c.in-Ok-Some.field-0-0-0, c.in-Ok-Some.witness) = first_of (search rules, cc) in
    let first = (seen_log c.self.inside.log).start in
    let found = subst (λ (o : Option (ℕ × Witness g.row.F.Denot g.row.H-Digest.Denot)). IsKept (map (witness_of s h m ops) sizes) first c.new.result o) one
    (c.in-Ok-Some.ensures.kept was.opened told was.bounds _ was.witnesses) in
    let kept = subst (λ (n : ℕ). IsKept (map (witness_of s h m ops) sizes) first n (Some (c.in-Ok-Some.field-0-0-0, c.in-Ok-Some.witness))) c.new.ensures found in
    let here = size_here s h m ops sizes first c.args.size c.in-Ok-Some.field-0-0-0 c.in-Ok-Some.witness kept in
    let same = witness_here s h m ops sizes first c.args.size c.in-Ok-Some.field-0-0-0 c.in-Ok-Some.witness kept in
    let decoded = λ (bytes : List ℕ). whole (g.O.Read.reads c.self.inside.codec bytes) in
    let refused = subst (λ (x : Witness g.row.F.Denot g.row.H-Digest.Denot). RefusedOnlyAs (rebuild_answer s m decoded x) c.shown_of.result) same c.shown_of.ensures.refused in
    subst (λ (d : DbView g.row.F.Denot g.row.H-Digest.Denot g.row.O.Denot g.row.O-Cfg.Denot).
    AnswersAs (kept_answer c.args.size (has_size (drop (seen_log d.log).start sizes) c.args.size))
    (rebuild_answer {F = g.row.F.Denot} s m (λ bytes. whole (g.O.Read.reads d.codec bytes)) (witness_of s h m ops c.args.size)) c.shown_of.result) c.self.view_is
    (rebuilt_as c.args.size (has_size (drop first sizes) c.args.size) (rebuild_answer s m decoded (witness_of s h m ops c.args.size)) c.shown_of.result
    (kept_true sizes first c.in-Ok-Some.field-0-0-0 c.args.size here) refused)

pub returns-in-Ok-None-clause-kept : goal.returns-in-Ok-None-clause-kept
returns-in-Ok-None-clause-kept g c told ops sizes held =
    let s = g.F.Family.shape in
    let h = g.H.Hasher.hash in
    let m = g.O.Logged.meaning in
    let was = subst (λ (d : DbView g.row.F.Denot g.row.H-Digest.Denot g.row.O.Denot g.row.O-Cfg.Denot). IsHeldFor s h m g.H.Digest.Spelled.spelling (g.H.Digest.Read.admits tt) ops sizes d (g.V.Volume.state c.args.vol.now))
    (sym c.self.view_is) held in
    let first = (seen_log c.self.inside.log).start in
    let found = subst (λ (o : Option (ℕ × Witness g.row.F.Denot g.row.H-Digest.Denot)). IsKept (map (witness_of s h m ops) sizes) first c.new.result o) c.in-Ok-None.field-0-is
    (c.in-Ok-None.ensures.kept was.opened told was.bounds _ was.witnesses) in
    let kept = subst (λ (n : ℕ). IsKept {F = g.row.F.Denot} (map (witness_of s h m ops) sizes) first n None) c.new.ensures found in
    inl (subst (λ (d : DbView g.row.F.Denot g.row.H-Digest.Denot g.row.O.Denot g.row.O-Cfg.Denot).
    kept_answer {F = g.row.F.Denot} c.args.size (has_size (drop (seen_log d.log).start sizes) c.args.size) ≡ Err (Journal (ItemPruned (c.args.size - 1)))) c.self.view_is
    (none_kept c.args.size (has_size (drop first sizes) c.args.size)
    (kept_false sizes first c.args.size (size_none {F = g.row.F.Denot} s h m ops sizes first c.args.size kept))))

pub returns-in-Err-clause-kept : goal.returns-in-Err-clause-kept
returns-in-Err-clause-kept g c told ops sizes held =
    let s = g.F.Family.shape in
    let h = g.H.Hasher.hash in
    let m = g.O.Logged.meaning in
    let was = subst (λ (d : DbView g.row.F.Denot g.row.H-Digest.Denot g.row.O.Denot g.row.O-Cfg.Denot). IsHeldFor s h m g.H.Digest.Spelled.spelling (g.H.Digest.Read.admits tt) ops sizes d (g.V.Volume.state c.args.vol.now))
    (sym c.self.view_is) held in
    inr (inl (fault_outside s h m g.H.Digest.Spelled.spelling (g.H.Digest.Read.admits tt) g.V.Volume.tells _ (g.V.Volume.state c.args.vol.now) c.in-Err.error c.in-Err.ensures.fault told ops sizes was))

pub returns-in-Ok-Some-clause-list : goal.returns-in-Ok-Some-clause-list
returns-in-Ok-Some-clause-list g c = if_ok c.shown_of.result _ _ c.shown_of.ensures.list (λ r list told ops sizes held all.
    let s = g.F.Family.shape in
    let h = g.H.Hasher.hash in
    let m = g.O.Logged.meaning in
    let was = subst (λ (d : DbView g.row.F.Denot g.row.H-Digest.Denot g.row.O.Denot g.row.O-Cfg.Denot). IsHeldFor s h m g.H.Digest.Spelled.spelling (g.H.Digest.Read.admits tt) ops sizes d (g.V.Volume.state c.args.vol.now))
    (sym c.self.view_is) held in
    let one : c.in-Ok-Some.field-0 ≡ Some (c.in-Ok-Some.field-0-0-0, c.in-Ok-Some.witness) = first_of (search rules, cc) in
    let first = (seen_log c.self.inside.log).start in
    let found = subst (λ (o : Option (ℕ × Witness g.row.F.Denot g.row.H-Digest.Denot)). IsKept (map (witness_of s h m ops) sizes) first c.new.result o) one
    (c.in-Ok-Some.ensures.kept was.opened told was.bounds _ was.witnesses) in
    let kept = subst (λ (n : ℕ). IsKept (map (witness_of s h m ops) sizes) first n (Some (c.in-Ok-Some.field-0-0-0, c.in-Ok-Some.witness))) c.new.ensures found in
    let here = size_here s h m ops sizes first c.args.size c.in-Ok-Some.field-0-0-0 c.in-Ok-Some.witness kept in
    let same = witness_here s h m ops sizes first c.args.size c.in-Ok-Some.field-0-0-0 c.in-Ok-Some.witness kept in
    let few = was.list.few in
    let kept_sizes = subst (λ (k : ℕ). AllByRecursion (IsSizeOf m ops) (drop k sizes)) (sym was.bounds.start_is) was.within in
    let ended = size_ended m ops sizes first c.in-Ok-Some.field-0-0-0 c.args.size kept_sizes here in
    let within = ended.0 in
    let allowed = subst (λ (d : DbView g.row.F.Denot g.row.H-Digest.Denot g.row.O.Denot g.row.O-Cfg.Denot). (op : g.row.O.Denot) → slice_get ops (c.args.size - 1) ≡ Some op → g.O.Read.admits d.codec op) (sym c.self.view_is) all in
    let state = list (take c.args.size ops) ended.1 (omega (arith, few, length-take c.args.size ops)) (λ op at. allowed op (last_taken m c.args.size ops ended op at))
    (same ∙ front_witness s h m ops sizes first c.args.size c.requires within) in
    (state.0, last_taken m c.args.size ops ended r.1 state.1))

pub returns-in-Ok-Some-clause-errors : goal.returns-in-Ok-Some-clause-errors
returns-in-Ok-Some-clause-errors g c =
    let s = g.F.Family.shape in
    let m = g.O.Logged.meaning in
    let state = g.V.Volume.state c.args.vol.now in
    let one : c.in-Ok-Some.field-0 ≡ Some (c.in-Ok-Some.field-0-0-0, c.in-Ok-Some.witness) = first_of (search rules, cc) in
    let items = witnesses_of {F = g.row.F.Denot} g.H.Digest.Spelled.spelling (g.H.Digest.Read.admits tt) (seen_log c.self.inside.log) state in
    let decoded = λ (bytes : List ℕ). whole (g.O.Read.reads c.self.inside.codec bytes) in
    subst (λ (d : DbView g.row.F.Denot g.row.H-Digest.Denot g.row.O.Denot g.row.O-Cfg.Denot).
    let there = witnesses_of {F = g.row.F.Denot} g.H.Digest.Spelled.spelling (g.H.Digest.Read.admits tt) (seen_log d.log) state in
    IfErr c.shown_of.result (λ (e : Error g.row.F.Denot). (kept_answer c.args.size false ≡ Err e) ⊎ (IsOutside e ⊎ (IsLogFault g.V.Volume.tells (IsWithin (seen_log d.log) state) there e
    ⊎ IsDamaged s m (λ bytes. whole (g.O.Read.reads d.codec bytes)) g.V.Volume.tells (IsWithin (seen_log d.log) state) there c.args.size e)))) c.self.view_is
    (damaged_as s m decoded g.V.Volume.tells (IsWithin (seen_log c.self.inside.log) state) items c.args.size
    (IsLogFault g.V.Volume.tells (IsWithin (seen_log c.self.inside.log) state) items) c.in-Ok-Some.field-0-0-0 c.in-Ok-Some.witness (kept_answer c.args.size false) c.shown_of.result
    (λ told within.
    let x = subst (λ (o : Option (ℕ × Witness g.row.F.Denot g.row.H-Digest.Denot)). IfSome o (λ y. IsWitnessAt items y.0 y.1 × (y.1.size ≡ c.new.result))) one (c.in-Ok-Some.ensures.stands told within) in
    (x.0, x.1 ∙ c.new.ensures)) c.shown_of.ensures.refused)

pub returns-in-Ok-Some-clause-answers : goal.returns-in-Ok-Some-clause-answers
returns-in-Ok-Some-clause-answers g c =
    let old = g.V.Volume.state c.args.vol.now in
    let new = g.V.Volume.state c.kept_at.new.vol in
    let decoded = λ (bytes : List ℕ). whole (g.O.Read.reads c.self.inside.codec bytes) in
    reads_of g.V.Volume.tells Volume old new c.shown_of.result
    (only_read_joins g.V.Volume.tells Volume old old new c.in-Ok-Some.field-0 (only_read_none g.V.Volume.tells old) c.in-Ok-Some.ensures.answers)
    (not_volume (rebuild_answer g.F.Family.shape g.O.Logged.meaning decoded c.in-Ok-Some.witness) c.shown_of.result c.shown_of.ensures.refused
    (never_volume g.F.Family.shape g.O.Logged.meaning decoded c.in-Ok-Some.witness))

pub returns-in-Ok-Some-clause-rebuilds : goal.returns-in-Ok-Some-clause-rebuilds
returns-in-Ok-Some-clause-rebuilds g c = if_ok c.shown_of.result _ _ c.shown_of.ensures.answer (λ r answer told ops sizes held.
    let s = g.F.Family.shape in
    let h = g.H.Hasher.hash in
    let m = g.O.Logged.meaning in
    let was = subst (λ (d : DbView g.row.F.Denot g.row.H-Digest.Denot g.row.O.Denot g.row.O-Cfg.Denot). IsHeldFor s h m g.H.Digest.Spelled.spelling (g.H.Digest.Read.admits tt) ops sizes d (g.V.Volume.state c.args.vol.now))
    (sym c.self.view_is) held in
    let one : c.in-Ok-Some.field-0 ≡ Some (c.in-Ok-Some.field-0-0-0, c.in-Ok-Some.witness) = first_of (search rules, cc) in
    let first = (seen_log c.self.inside.log).start in
    let found = subst (λ (o : Option (ℕ × Witness g.row.F.Denot g.row.H-Digest.Denot)). IsKept (map (witness_of s h m ops) sizes) first c.new.result o) one
    (c.in-Ok-Some.ensures.kept was.opened told was.bounds _ was.witnesses) in
    let kept = subst (λ (n : ℕ). IsKept (map (witness_of s h m ops) sizes) first n (Some (c.in-Ok-Some.field-0-0-0, c.in-Ok-Some.witness))) c.new.ensures found in
    let same = witness_here s h m ops sizes first c.args.size c.in-Ok-Some.field-0-0-0 c.in-Ok-Some.witness kept in
    let decoded = λ (bytes : List ℕ). whole (g.O.Read.reads c.self.inside.codec bytes) in
    let is = ap (λ (x : Witness g.row.F.Denot g.row.H-Digest.Denot). rebuild_answer s m decoded x) (sym same) ∙ answer in
    subst (λ (d : DbView g.row.F.Denot g.row.H-Digest.Denot g.row.O.Denot g.row.O-Cfg.Denot).
    IsOk (rebuild_answer {F = g.row.F.Denot} s m (λ bytes. whole (g.O.Read.reads d.codec bytes)) (witness_of s h m ops c.args.size))) c.self.view_is
    (is_ok (rebuild_answer s m decoded (witness_of s h m ops c.args.size)) r.1 is))

pub returns-in-Ok-Some-clause-rebuilt : goal.returns-in-Ok-Some-clause-rebuilt
returns-in-Ok-Some-clause-rebuilt g c = if_ok c.shown_of.result _ _ (and_ok c.shown_of.result _ _ c.shown_of.ensures.answer c.shown_of.ensures.witness) (λ r is.
    let s = g.F.Family.shape in
    let m = g.O.Logged.meaning in
    let state = g.V.Volume.state c.args.vol.now in
    let one : c.in-Ok-Some.field-0 ≡ Some (c.in-Ok-Some.field-0-0-0, c.in-Ok-Some.witness) = first_of (search rules, cc) in
    let items = witnesses_of {F = g.row.F.Denot} g.H.Digest.Spelled.spelling (g.H.Digest.Read.admits tt) (seen_log c.self.inside.log) state in
    let decoded = λ (bytes : List ℕ). whole (g.O.Read.reads c.self.inside.codec bytes) in
    subst (λ (d : DbView g.row.F.Denot g.row.H-Digest.Denot g.row.O.Denot g.row.O-Cfg.Denot).
    let there = witnesses_of {F = g.row.F.Denot} g.H.Digest.Spelled.spelling (g.H.Digest.Read.admits tt) (seen_log d.log) state in
    g.V.Volume.tells → IsWithin (seen_log d.log) state → (v : VerifiedWitness g.row.F.Denot g.row.H-Digest.Denot) → v.witness ≡ r.0.witness →
    IsRebuiltAt s m (λ bytes. whole (g.O.Read.reads d.codec bytes)) there c.args.size v r.1) c.self.view_is
    (λ told within v same.
    let x = subst (λ (o : Option (ℕ × Witness g.row.F.Denot g.row.H-Digest.Denot)). IfSome o (λ y. IsWitnessAt items y.0 y.1 × (y.1.size ≡ c.new.result))) one (c.in-Ok-Some.ensures.stands told within) in
    rebuilt_here s m decoded items c.args.size c.in-Ok-Some.field-0-0-0 c.in-Ok-Some.witness v r.1 (x.0, x.1 ∙ c.new.ensures) is.0 (same ∙ is.1)))

pub returns-in-Ok-Some-clause-proof : goal.returns-in-Ok-Some-clause-proof
returns-in-Ok-Some-clause-proof g c = if_ok c.shown_of.result _ _ (and_ok c.shown_of.result _ _ c.shown_of.ensures.proof c.shown_of.ensures.witness) (λ r is floor floored.
    subst (λ (w : Witness g.row.F.Denot g.row.H-Digest.Denot). ProvesCommit g.F.Family.shape g.H.Hasher.hash w floor r.0.proof) (sym is.1) (is.0 floor floored))
