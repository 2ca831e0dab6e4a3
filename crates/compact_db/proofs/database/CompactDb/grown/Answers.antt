use Rattle.std.proofs.Common.{◌≡◌, ◌⊎◌, inl, inr, ℕ, true, ◌+◌, ◌-◌, ◌^◌, List, [], ◌∷◌, ◌++◌, length, map, Err, refl, sym, ◌∙◌, ap, subst, arith}
use Rattle.volume_base.specs.Log.{end_of}
use Rattle.volume_base.specs.Moments.{LogHas, LogKeeps}
use Rattle.volume_base.specs.Names.{log_alone, NamesCall}
use Rattle.volume_base.specs.Volume.{LogCall}
use Rattle.volume_base.proofs.CallLemmas.{names_call_none, names_call_log}
use Rattle.volume_base.specs.declared.error.JournalError.TheVariants.{SizeOverflow}
use Rattle.chain_core.specs.declared.error.Error.TheVariants.{StaleBatch, Journal}
use Rattle.log_model.specs.Operations.{floor_of, leaves_from}
use Rattle.log_model.proofs.OperationLemmas.{leaves_from-append}
use Rattle.tree_core.specs.Applied.{Fits}
use Rattle.tree_core.specs.Batches.{IsSealedOf}
use Rattle.journal_base.specs.View.{View, log_of, SameButBounds}
use Rattle.volume_base.specs.Log.{Log}
use Rattle.witness_store.specs.StoreView.{HasWitnesses}
use Rattle.witness_store.specs.Witnesses.{witnesses_of}
use Rattle.witness_store.specs.declared.witness.Witness.{Witness}
use Rattle.tree_core.specs.Tree.{Tree, IsOf}
use Rattle.compact_db.specs.DbView.{DbView, IsOfList, seen_log, waits}
use Rattle.compact_db.specs.Held.{IsHeldFor}
use Rattle.compact_db.specs.StateOf.{IsRestored}
use Rattle.compact_db.specs.WitnessOf.{witness_of}
use Rattle.compact_db.specs.Writing.{place_in, written_log, Extends, IsOutsideOrFull}
use Rattle.compact_db.proofs.DbLemmas.{root_under_last, size_of_list}
use Rattle.compact_db.specs.declared.database.WitnessLog.TheVariants.{Open}
use Rattle.compact_db.proofs.StateLemmas.{ones}
use Rattle.compact_db.proofs.ImageLemmas.{images_none, call_none, call_restarts, restarts_none, no_result}
use Rattle.compact_db.proofs.HeldLemmas.{last_witness, grown_state, grown_held, begun_held, allowed_tip, last_below, states_of, grown_start, begun_start}
use Rattle.compact_db.proofs.SettleLemmas.{never_stale, full_cause, same_err, passed_each, refused_not_full, refused_as, err_each, size_is}
use Rattle.compact_db.proofs.database.CompactDb.grown.Goals as goal

pub returns-clause-list : goal.returns-clause-list
returns-clause-list g c ops more told sealed ends few at rooted =
    let s = g.F.Family.shape in
    let h = g.H.Hasher.hash in
    let m = g.O.Logged.meaning in
    let whole = leaves_from-append s h m 0 ops more in
    let tree : IsOf s h (leaves_from s h m 0 ops) c.self.inside.merkle =
    subst (λ (t : Tree g.row.H-Digest.Denot). IsOf s h (leaves_from s h m 0 ops) t)
    (sym (ap (λ (d : DbView g.row.F.Denot g.row.H-Digest.Denot g.row.O.Denot g.row.O-Cfg.Denot). d.tree) c.self.view_is)) told.tree_of in
    grown_state s h m ops more c.args.commit c.in_ok-tip.tip c.in_ok-tip.merkle ends few at
    (subst (λ ds. IsRestored s h ds (m.encoding c.args.commit) (floor_of m (c.args.commit ∷ [])) (c.in_ok-tip.tip, c.in_ok-tip.merkle)) (sym whole)
    (c.in_ok-tip.ensures.list (leaves_from s h m 0 ops) (leaves_from s h m (0 + length ops) more) tree
    (subst (λ ds. IsSealedOf s h ds c.args.batch.now) whole sealed)
    (root_under_last s h m (ops ++ more) c.args.commit _ c.args.root at whole rooted)))

pub returns-clause-held : goal.returns-clause-held
returns-clause-held g c told ops more sizes was is lt =
    let s = g.F.Family.shape in
    let h = g.H.Hasher.hash in
    let m = g.O.Logged.meaning in
    let hashed = λ (bytes : List ℕ). g.met.H.Digest.Digest.allowed (h.digest bytes)
    (ap length (sym (g.met.H.Hasher.same_bytes (h.digest bytes))) ∙ g.met.H.Hasher.one_size bytes) in
    let allowed = allowed_tip s h m g.met.F.Family.lawful g.met.F.Family.few_peaks (g.H.Digest.Read.admits tt) hashed (ops ++ more) c.in_ok-tip.tip c.in_ok-tip.merkle c.args.commit is c.in_ok-tip.ensures.short in
    let was2 = subst (λ (d : DbView g.row.F.Denot g.row.H-Digest.Denot g.row.O.Denot g.row.O-Cfg.Denot). IsHeldFor s h m g.H.Digest.Spelled.spelling (g.H.Digest.Read.admits tt) ops sizes d (g.V.Volume.state c.args.vol.now))
    (sym c.self.view_is) was in
    let size = size_of_list s h m (ops ++ more) c.in_ok-tip.tip c.in_ok-tip.merkle c.args.commit is in
    let below = last_below g.row.F.Denot s h m ops sizes (seen_log c.self.inside.log).start c.in_ok-tip.tip.witness.size was.last (omega (arith, size, lt)) in
    let sp = g.H.Digest.Spelled.spelling in
    let ad = g.H.Digest.Read.admits tt in
    grown_held s h m g.met.F.Family.lawful sp ad _ (g.V.Volume.state c.extended.new.vol) (seen_log c.self.inside.log) (ap (λ (v : View (Unit {0})). v.name) c.in_ok-store.ensures.same.0) refl (c.in_ok-store.ensures.held told)
    (witnesses_of sp ad (seen_log c.self.inside.log) (g.V.Volume.state c.args.vol.now)) ops more sizes
    (ap (λ (l : Log). l.start) (c.in_ok-store.ensures.written told) ∙ grown_start sp c.self.inside.log c.in_ok-tip.tip.witness (g.V.Volume.state c.args.vol.now) was2.opened)
    is (states_of s h m sp ad _ (g.V.Volume.state c.args.vol.now) ops sizes was2)
    (c.in_ok-store.ensures.keeps was2.opened told was2.bounds (map (witness_of s h m ops) sizes) was2.witnesses allowed below)

pub returns-clause-imported : goal.returns-clause-imported
returns-clause-imported g c waiting told ops is =
    let s = g.F.Family.shape in
    let h = g.H.Hasher.hash in
    let m = g.O.Logged.meaning in
    let sp = g.H.Digest.Spelled.spelling in
    let ad = g.H.Digest.Read.admits tt in
    let made : DbView g.row.F.Denot g.row.H-Digest.Denot g.row.O.Denot g.row.O-Cfg.Denot = record { log = Open c.in_ok-store.store; tip = c.in_ok-tip.tip; tree = c.in_ok-tip.merkle; commit = c.args.commit; codec = c.self.inside.codec } in
    let w : waits c.self.inside.log ≡ true = subst (λ (d : DbView g.row.F.Denot g.row.H-Digest.Denot g.row.O.Denot g.row.O-Cfg.Denot). waits d.log ≡ true) (sym c.self.view_is) waiting in
    let hashed = λ (bytes : List ℕ). g.met.H.Digest.Digest.allowed (h.digest bytes)
    (ap length (sym (g.met.H.Hasher.same_bytes (h.digest bytes))) ∙ g.met.H.Hasher.one_size bytes) in
    let allowed = allowed_tip s h m g.met.F.Family.lawful g.met.F.Family.few_peaks ad hashed ops c.in_ok-tip.tip c.in_ok-tip.merkle c.args.commit is c.in_ok-tip.ensures.short in (
      ones (place_in c.self.inside.log (g.V.Volume.state c.args.vol.now)) ++ (length ops ∷ []),
      begun_held s h m g.met.F.Family.lawful sp ad made (g.V.Volume.state c.extended.new.vol) (seen_log c.self.inside.log) (ap (λ (v : View (Unit {0})). v.name) c.in_ok-store.ensures.same.0) refl (c.in_ok-store.ensures.held told)
          ops (place_in c.self.inside.log (g.V.Volume.state c.args.vol.now)) is
          (ap (λ (l : Log). l.start) (c.in_ok-store.ensures.written told) ∙ begun_start sp c.self.inside.log c.in_ok-tip.tip.witness (g.V.Volume.state c.args.vol.now) w)
          (λ ws count. c.in_ok-store.ensures.begins w told ws count allowed),
    )

-- ---- the tree takes the batch at no mark, or there is no memory

pub returns-in_err-tip-clause-full : goal.returns-in_err-tip-clause-full
returns-in_err-tip-clause-full g c told is =
    absurd (refused_not_full c.in_err-tip.field-0.0 c.in_err-tip.ensures.errors (same_err c.in_err-tip.field-0.0 (Journal SizeOverflow) c.from_residual.result c.from_residual.ensures.1 is))

pub returns-in_err-tip-clause-names : goal.returns-in_err-tip-clause-names
returns-in_err-tip-clause-names g c told = names_call_none _ (g.V.Volume.state c.args.vol.now)

pub returns-in_err-tip-clause-misfit : goal.returns-in_err-tip-clause-misfit
returns-in_err-tip-clause-misfit g c is ops of i fits =
    let s = g.F.Family.shape in
    let h = g.H.Hasher.hash in
    let m = g.O.Logged.meaning in
    let stale = same_err c.in_err-tip.field-0.0 StaleBatch c.from_residual.result c.from_residual.ensures.1 is in
    let tree_is = ap (λ (d : DbView g.row.F.Denot g.row.H-Digest.Denot g.row.O.Denot g.row.O-Cfg.Denot). d.tree) c.self.view_is in
    let tree : IsOf s h (leaves_from s h m 0 ops) c.self.inside.merkle = subst (λ (t : Tree g.row.H-Digest.Denot). IsOf s h (leaves_from s h m 0 ops) t) (sym tree_is) of.tree_of in
    c.in_err-tip.ensures.misfit (ap Err stale) (leaves_from s h m 0 ops) tree i
    (subst (λ (t : Tree g.row.H-Digest.Denot). Fits s h (leaves_from s h m 0 ops) t.leaves c.args.batch.now i) (sym tree_is) fits)

pub returns-in_err-tip-clause-errors : goal.returns-in_err-tip-clause-errors
returns-in_err-tip-clause-errors g c =
    passed_each c.in_err-tip.field-0.0 (λ e. (e ≡ StaleBatch) ⊎ IsOutsideOrFull e) c.from_residual.result c.from_residual.ensures.1 (refused_as c.in_err-tip.field-0.0 c.in_err-tip.ensures.errors)

-- ---- the witness isn't written

pub returns-in_err-store-clause-full : goal.returns-in_err-store-clause-full
returns-in_err-store-clause-full g c told is =
    let cause = full_cause c.in_err-store.field-0.0 c.from_residual-in_err-store.result c.from_residual-in_err-store.ensures.1 is in (
      subst (λ (d : DbView g.row.F.Denot g.row.H-Digest.Denot g.row.O.Denot g.row.O-Cfg.Denot). end_of (log_of (seen_log d.log) (g.V.Volume.state c.args.vol.now)) ≡ 2 ^ 64 - 1) c.self.view_is (c.in_err-store.ensures.overflow told (ap Err cause)),
      c.in_err-store.ensures.refused told _ (ap Err cause) refl,
    )

pub returns-in_err-store-clause-names : goal.returns-in_err-store-clause-names
returns-in_err-store-clause-names g c told =
    subst (λ (d : DbView g.row.F.Denot g.row.H-Digest.Denot g.row.O.Denot g.row.O-Cfg.Denot). NamesCall (log_alone (seen_log d.log).name) (g.V.Volume.state c.args.vol.now) (g.V.Volume.state c.extended.new.vol)) c.self.view_is
    (names_call_log (log_alone (seen_log c.self.inside.log).name) (seen_log c.self.inside.log).name _ (g.V.Volume.state c.args.vol.now) (g.V.Volume.state c.extended.new.vol) (inl refl) (c.extended.ensures.log told))

pub returns-in_err-store-clause-unwritten : goal.returns-in_err-store-clause-unwritten
returns-in_err-store-clause-unwritten g c is =
    absurd (never_stale c.in_err-store.field-0.0 c.from_residual-in_err-store.result c.from_residual-in_err-store.ensures.1 is)

pub returns-in_err-store-clause-misfit : goal.returns-in_err-store-clause-misfit
returns-in_err-store-clause-misfit g c is =
    absurd (never_stale c.in_err-store.field-0.0 c.from_residual-in_err-store.result c.from_residual-in_err-store.ensures.1 is)

pub returns-in_err-store-clause-errors : goal.returns-in_err-store-clause-errors
returns-in_err-store-clause-errors g c =
    err_each c.from_residual-in_err-store.result c.in_err-store.field-0.0 (λ e. (e ≡ StaleBatch) ⊎ IsOutsideOrFull e) c.from_residual-in_err-store.ensures.1
    (inr (size_is c.in_err-store.field-0.0 c.in_err-store.ensures.errors))

-- ---- it is

pub returns-clause-log : goal.returns-clause-log
returns-clause-log g c =
    subst (λ (d : DbView g.row.F.Denot g.row.H-Digest.Denot g.row.O.Denot g.row.O-Cfg.Denot). SameButBounds (seen_log d.log) c.in_ok-store.store.log) c.self.view_is c.in_ok-store.ensures.same.0

pub returns-clause-written : goal.returns-clause-written
returns-clause-written g c told =
    subst (λ (d : DbView g.row.F.Denot g.row.H-Digest.Denot g.row.O.Denot g.row.O-Cfg.Denot). log_of (seen_log d.log) (g.V.Volume.state c.extended.new.vol) ≡ written_log g.H.Digest.Spelled.spelling d.log c.in_ok-tip.tip.witness (g.V.Volume.state c.args.vol.now)) c.self.view_is
    (c.in_ok-store.ensures.written told)

pub returns-clause-names : goal.returns-clause-names
returns-clause-names g c told =
    subst (λ (d : DbView g.row.F.Denot g.row.H-Digest.Denot g.row.O.Denot g.row.O-Cfg.Denot). NamesCall (log_alone (seen_log d.log).name) (g.V.Volume.state c.args.vol.now) (g.V.Volume.state c.extended.new.vol)) c.self.view_is
    (names_call_log (log_alone (seen_log c.self.inside.log).name) (seen_log c.self.inside.log).name _ (g.V.Volume.state c.args.vol.now) (g.V.Volume.state c.extended.new.vol) (inl refl) (c.extended.ensures.log told))

-- ---- what a crash leaves

pub returns-in_err-tip-clause-images : goal.returns-in_err-tip-clause-images
returns-in_err-tip-clause-images g c told ops more sizes greatest least was sealed ends few at rooted has =
    images_none g.H.Digest.Spelled.spelling (seen_log c.args.self.log).name (map (witness_of {F = g.row.F.Denot} g.F.Family.shape g.H.Hasher.hash g.O.Logged.meaning ops) sizes) _ greatest least (g.V.Volume.state c.args.vol.now) has

pub returns-in_err-store-clause-images : goal.returns-in_err-store-clause-images
returns-in_err-store-clause-images g c told ops more sizes greatest least was sealed ends few at rooted has =
    let s = g.F.Family.shape in
    let h = g.H.Hasher.hash in
    let m = g.O.Logged.meaning in
    let sp = g.H.Digest.Spelled.spelling in
    let ad = g.H.Digest.Read.admits tt in
    let whole = leaves_from-append s h m 0 ops more in
    let was2 = subst (λ (d : DbView g.row.F.Denot g.row.H-Digest.Denot g.row.O.Denot g.row.O-Cfg.Denot). IsHeldFor s h m sp ad ops sizes d (g.V.Volume.state c.args.vol.now)) (sym c.self.view_is) was in
    let made = grown_state s h m ops more c.args.commit c.in_ok-tip.tip c.in_ok-tip.merkle ends few at
    (subst (λ ds. IsRestored s h ds (m.encoding c.args.commit) (floor_of m (c.args.commit ∷ [])) (c.in_ok-tip.tip, c.in_ok-tip.merkle)) (sym whole)
    (c.in_ok-tip.ensures.list (leaves_from s h m 0 ops) (leaves_from s h m (0 + length ops) more) was2.list.tree_of
    (subst (λ ds. IsSealedOf s h ds c.args.batch.now) whole sealed)
    (root_under_last s h m (ops ++ more) c.args.commit _ c.args.root at whole rooted))) in
    let last = last_witness s h m g.met.F.Family.lawful (ops ++ more) c.in_ok-tip.tip c.in_ok-tip.merkle c.args.commit made in
    let ws : List (Witness g.row.F.Denot g.row.H-Digest.Denot) = map (witness_of s h m ops) sizes in
    subst (λ (d : DbView g.row.F.Denot g.row.H-Digest.Denot g.row.O.Denot g.row.O-Cfg.Denot). LogHas (g.V.Volume.state c.args.vol.now) (seen_log d.log).name (HasWitnesses g.H.Digest.Spelled.spelling ws greatest least)
    → LogKeeps (seen_log d.log).name (HasWitnesses g.H.Digest.Spelled.spelling (ws ++ (witness_of s h m (ops ++ more) (length (ops ++ more)) ∷ [])) greatest least) (g.V.Volume.state c.args.vol.now) (g.V.Volume.state c.extended.new.vol)) c.self.view_is
    (λ left. subst (λ (w : Witness g.row.F.Denot g.row.H-Digest.Denot). LogKeeps (seen_log c.self.inside.log).name (HasWitnesses g.H.Digest.Spelled.spelling (ws ++ (w ∷ [])) greatest least) (g.V.Volume.state c.args.vol.now) (g.V.Volume.state c.extended.new.vol)) last
    (c.extended.ensures.images was2.opened told ws greatest least was2.witnesses.spelled left)) has

pub returns-clause-images : goal.returns-clause-images
returns-clause-images g c told ops more sizes greatest least was sealed ends few at rooted has =
    let s = g.F.Family.shape in
    let h = g.H.Hasher.hash in
    let m = g.O.Logged.meaning in
    let sp = g.H.Digest.Spelled.spelling in
    let ad = g.H.Digest.Read.admits tt in
    let whole = leaves_from-append s h m 0 ops more in
    let was2 = subst (λ (d : DbView g.row.F.Denot g.row.H-Digest.Denot g.row.O.Denot g.row.O-Cfg.Denot). IsHeldFor s h m sp ad ops sizes d (g.V.Volume.state c.args.vol.now)) (sym c.self.view_is) was in
    let made = grown_state s h m ops more c.args.commit c.in_ok-tip.tip c.in_ok-tip.merkle ends few at
    (subst (λ ds. IsRestored s h ds (m.encoding c.args.commit) (floor_of m (c.args.commit ∷ [])) (c.in_ok-tip.tip, c.in_ok-tip.merkle)) (sym whole)
    (c.in_ok-tip.ensures.list (leaves_from s h m 0 ops) (leaves_from s h m (0 + length ops) more) was2.list.tree_of
    (subst (λ ds. IsSealedOf s h ds c.args.batch.now) whole sealed)
    (root_under_last s h m (ops ++ more) c.args.commit _ c.args.root at whole rooted))) in
    let last = last_witness s h m g.met.F.Family.lawful (ops ++ more) c.in_ok-tip.tip c.in_ok-tip.merkle c.args.commit made in
    let ws : List (Witness g.row.F.Denot g.row.H-Digest.Denot) = map (witness_of s h m ops) sizes in
    subst (λ (d : DbView g.row.F.Denot g.row.H-Digest.Denot g.row.O.Denot g.row.O-Cfg.Denot). LogHas (g.V.Volume.state c.args.vol.now) (seen_log d.log).name (HasWitnesses g.H.Digest.Spelled.spelling ws greatest least)
    → LogKeeps (seen_log d.log).name (HasWitnesses g.H.Digest.Spelled.spelling (ws ++ (witness_of s h m (ops ++ more) (length (ops ++ more)) ∷ [])) greatest least) (g.V.Volume.state c.args.vol.now) (g.V.Volume.state c.extended.new.vol)) c.self.view_is
    (λ left. subst (λ (w : Witness g.row.F.Denot g.row.H-Digest.Denot). LogKeeps (seen_log c.self.inside.log).name (HasWitnesses g.H.Digest.Spelled.spelling (ws ++ (w ∷ [])) greatest least) (g.V.Volume.state c.args.vol.now) (g.V.Volume.state c.extended.new.vol)) last
    (c.extended.ensures.images was2.opened told ws greatest least was2.witnesses.spelled left)) has

-- ---- its log, of whichever list; and the log of an import

pub returns-in_err-tip-clause-call : goal.returns-in_err-tip-clause-call
returns-in_err-tip-clause-call g c told = (
  c.args.self.tip.witness,
  call_none g.H.Digest.Spelled.spelling c.args.self.log c.args.self.tip.witness (g.V.Volume.state c.args.vol.now),
  no_result c.from_residual.result _ _ c.from_residual.ensures.1,
)

pub returns-in_err-store-clause-call : goal.returns-in_err-store-clause-call
returns-in_err-store-clause-call g c told =
    let a = g.V.Volume.state c.args.vol.now in
    let b = g.V.Volume.state c.extended.new.vol in (
      c.in_ok-tip.tip.witness,
      subst (λ (d : DbView g.row.F.Denot g.row.H-Digest.Denot g.row.O.Denot g.row.O-Cfg.Denot). LogCall (seen_log d.log).name (Extends g.H.Digest.Spelled.spelling d.log c.in_ok-tip.tip.witness a) a b) c.self.view_is
          (c.extended.ensures.log told),
      no_result c.from_residual-in_err-store.result _ _ c.from_residual-in_err-store.ensures.1,
    )

pub returns-clause-call : goal.returns-clause-call
returns-clause-call g c told =
    let a = g.V.Volume.state c.args.vol.now in
    let b = g.V.Volume.state c.extended.new.vol in (
      c.in_ok-tip.tip.witness,
      subst (λ (d : DbView g.row.F.Denot g.row.H-Digest.Denot g.row.O.Denot g.row.O-Cfg.Denot). LogCall (seen_log d.log).name (Extends g.H.Digest.Spelled.spelling d.log c.in_ok-tip.tip.witness a) a b) c.self.view_is
          (c.extended.ensures.log told),
      refl,
    )

pub returns-in_err-tip-clause-restarts : goal.returns-in_err-tip-clause-restarts
returns-in_err-tip-clause-restarts g c waiting told ops more was sealed ends few at rooted =
    restarts_none g.H.Digest.Spelled.spelling c.args.self.log _ (g.V.Volume.state c.args.vol.now)

pub returns-in_err-store-clause-restarts : goal.returns-in_err-store-clause-restarts
returns-in_err-store-clause-restarts g c waiting told ops more was sealed ends few at rooted =
    let s = g.F.Family.shape in
    let h = g.H.Hasher.hash in
    let m = g.O.Logged.meaning in
    let sp = g.H.Digest.Spelled.spelling in
    let a = g.V.Volume.state c.args.vol.now in
    let b = g.V.Volume.state c.extended.new.vol in
    let whole = leaves_from-append s h m 0 ops more in
    let was2 = subst (λ (d : DbView g.row.F.Denot g.row.H-Digest.Denot g.row.O.Denot g.row.O-Cfg.Denot). IsOfList s h m ops d) (sym c.self.view_is) was in
    let made = grown_state s h m ops more c.args.commit c.in_ok-tip.tip c.in_ok-tip.merkle ends few at
    (subst (λ ds. IsRestored s h ds (m.encoding c.args.commit) (floor_of m (c.args.commit ∷ [])) (c.in_ok-tip.tip, c.in_ok-tip.merkle)) (sym whole)
    (c.in_ok-tip.ensures.list (leaves_from s h m 0 ops) (leaves_from s h m (0 + length ops) more) was2.tree_of
    (subst (λ ds. IsSealedOf s h ds c.args.batch.now) whole sealed)
    (root_under_last s h m (ops ++ more) c.args.commit _ c.args.root at whole rooted))) in
    let last = last_witness s h m g.met.F.Family.lawful (ops ++ more) c.in_ok-tip.tip c.in_ok-tip.merkle c.args.commit made in
    let call = subst (λ (d : DbView g.row.F.Denot g.row.H-Digest.Denot g.row.O.Denot g.row.O-Cfg.Denot). LogCall (seen_log d.log).name (Extends sp d.log c.in_ok-tip.tip.witness a) a b) c.self.view_is
    (c.extended.ensures.log told) in
    call_restarts sp c.args.self.log _ a b waiting
    (subst (λ (w : Witness g.row.F.Denot g.row.H-Digest.Denot). LogCall (seen_log c.args.self.log).name (Extends sp c.args.self.log w a) a b) last call)

pub returns-clause-restarts : goal.returns-clause-restarts
returns-clause-restarts g c waiting told ops more was sealed ends few at rooted =
    let s = g.F.Family.shape in
    let h = g.H.Hasher.hash in
    let m = g.O.Logged.meaning in
    let sp = g.H.Digest.Spelled.spelling in
    let a = g.V.Volume.state c.args.vol.now in
    let b = g.V.Volume.state c.extended.new.vol in
    let whole = leaves_from-append s h m 0 ops more in
    let was2 = subst (λ (d : DbView g.row.F.Denot g.row.H-Digest.Denot g.row.O.Denot g.row.O-Cfg.Denot). IsOfList s h m ops d) (sym c.self.view_is) was in
    let made = grown_state s h m ops more c.args.commit c.in_ok-tip.tip c.in_ok-tip.merkle ends few at
    (subst (λ ds. IsRestored s h ds (m.encoding c.args.commit) (floor_of m (c.args.commit ∷ [])) (c.in_ok-tip.tip, c.in_ok-tip.merkle)) (sym whole)
    (c.in_ok-tip.ensures.list (leaves_from s h m 0 ops) (leaves_from s h m (0 + length ops) more) was2.tree_of
    (subst (λ ds. IsSealedOf s h ds c.args.batch.now) whole sealed)
    (root_under_last s h m (ops ++ more) c.args.commit _ c.args.root at whole rooted))) in
    let last = last_witness s h m g.met.F.Family.lawful (ops ++ more) c.in_ok-tip.tip c.in_ok-tip.merkle c.args.commit made in
    let call = subst (λ (d : DbView g.row.F.Denot g.row.H-Digest.Denot g.row.O.Denot g.row.O-Cfg.Denot). LogCall (seen_log d.log).name (Extends sp d.log c.in_ok-tip.tip.witness a) a b) c.self.view_is
    (c.extended.ensures.log told) in
    call_restarts sp c.args.self.log _ a b waiting
    (subst (λ (w : Witness g.row.F.Denot g.row.H-Digest.Denot). LogCall (seen_log c.args.self.log).name (Extends sp c.args.self.log w a) a b) last call)
