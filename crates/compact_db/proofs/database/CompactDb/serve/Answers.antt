use Rattle.std.proofs.Common.{◌≡◌, ◌⊎◌, ◌-◌, ◌<◌, inl, inr, true, false, ℕ, List, [], drop, take, Some, Ok, Err, refl, sym, ◌∙◌, ap, subst}
use Rattle.std.specs.Prelude.{slice_get, IsOk}
use Rattle.codec_base.specs.Parts.{whole}
use Rattle.journal_base.specs.View.{IsWithin}
use Rattle.volume_base.proofs.ReadLemmas.{only_read_none, only_read_joins, reads_of}
use Rattle.volume_base.specs.declared.error.JournalError.TheVariants.{ItemPruned}
use Rattle.target_codec.specs.Request.{size_of, start_of}
use Rattle.chain_core.specs.Answers.{IsOutside}
use Rattle.chain_core.specs.declared.error.Error.TheVariants.{Journal, Volume}
use Rattle.witness_store.specs.Witnesses.{witnesses_of}
use Rattle.witness_store.specs.declared.witness.Witness.{Witness}
use Rattle.compact_db.specs.DbView.{DbView, seen_log}
use Rattle.compact_db.specs.Rebuild.{rebuild_answer}
use Rattle.compact_db.specs.Serving.{has_size, is_kept, kept_answer, serve_answer, response_to, AnswersAs, IsDamaged, IsLogFault, IsRebuiltAt}
use Rattle.compact_db.specs.StateOf.{verified_of}
use Rattle.compact_db.specs.Verified.{IsShownOf}
use Rattle.compact_db.specs.WitnessOf.{witness_of}
use Rattle.compact_db.specs.declared.verified.VerifiedWitness.{VerifiedWitness}
use Rattle.compact_db.proofs.ApplyLemmas.{one_item}
use Rattle.compact_db.proofs.AnswerLemmas.{serve_is, serve_refused, serve_some, tip_kept, other_kept, memory_as, memory_alone, memory_err, tip_response}
use Rattle.compact_db.proofs.DbLemmas.{size_of_list}
use Rattle.compact_db.proofs.ServingLemmas.{if_ok}
use Rattle.compact_db.proofs.database.CompactDb.serve.Goals as goal

pub returns-in-Err-clause-kept : goal.returns-in-Err-clause-kept
returns-in-Err-clause-kept g c told ops sizes held =
    let n = size_of c.args.request in
    let at = start_of c.args.request in
    let last = c.args.self.now.tip.witness.size in
    let tip : c.as_u64-tip.result ≡ last = c.as_u64-tip.ensures ∙ ap (λ (d : DbView g.row.F.Denot g.row.H-Digest.Denot g.row.O.Denot g.row.O-Cfg.Denot). d.tip.witness.size) c.self.view_is in
    let refused : serve_answer last n at true ≡ Err c.in-Err.error = subst (λ (t : ℕ). serve_answer t n at true ≡ Err c.in-Err.error) tip (sym c.in-Err.ensures) in
    inl (serve_refused last n at (is_kept last (drop (seen_log c.args.self.now.log).start sizes) n) c.in-Err.error refused)

pub returns-then-size-tip-clause-kept : goal.returns-then-size-tip-clause-kept
returns-then-size-tip-clause-kept g c told ops sizes held =
    let n = size_of c.args.request in
    let at = start_of c.args.request in
    let last = c.args.self.now.tip.witness.size in
    let tip : c.as_u64-tip.result ≡ last = c.as_u64-tip.ensures ∙ ap (λ (d : DbView g.row.F.Denot g.row.H-Digest.Denot g.row.O.Denot g.row.O-Cfg.Denot). d.tip.witness.size) c.self.view_is in
    let passed : serve_answer {F = g.row.F.Denot} last n at true ≡ Ok tt = subst (λ (t : ℕ). serve_answer {F = g.row.F.Denot} t n at true ≡ Ok tt) tip (sym c.in-Ok.ensures) in
    let size : c.as_u64-size.result ≡ n = c.as_u64-size.ensures ∙ c.size.ensures in
    let same : n ≡ last = sym size ∙ c.if-size-tip.true ∙ tip in
    let sizes_kept = drop (seen_log c.args.self.now.log).start sizes in
    let is : is_kept last sizes_kept n ≡ true = tip_kept last n sizes_kept same in
    let served : serve_answer {F = g.row.F.Denot} last n at (is_kept last sizes_kept n) ≡ Ok tt = serve_is last n at (is_kept last sizes_kept n) passed ∙ ap (kept_answer n) is in
    memory_as _ _ c.serve_tip.result served c.serve_tip.ensures.memory

pub returns-then-size-tip-clause-list : goal.returns-then-size-tip-clause-list
returns-then-size-tip-clause-list g c =
    let s = g.F.Family.shape in
    let h = g.H.Hasher.hash in
    let m = g.O.Logged.meaning in
    let n = size_of c.args.request in
    let at = start_of c.args.request in
    let last = c.args.self.now.tip.witness.size in
    let tip : c.as_u64-tip.result ≡ last = c.as_u64-tip.ensures ∙ ap (λ (d : DbView g.row.F.Denot g.row.H-Digest.Denot g.row.O.Denot g.row.O-Cfg.Denot). d.tip.witness.size) c.self.view_is in
    let size : c.as_u64-size.result ≡ n = c.as_u64-size.ensures ∙ c.size.ensures in
    let same : n ≡ last = sym size ∙ c.if-size-tip.true ∙ tip in
    let d = c.args.self.now in
    if_ok c.serve_tip.result _ _ c.serve_tip.ensures.response (λ x is told ops sizes held commit there all.
    is ∙ tip_response s h m c.args.request ops n commit there d.tip d.tree d.commit held.list (same ∙ size_of_list s h m ops d.tip d.tree d.commit held.list))

pub returns-then-size-tip-clause-errors : goal.returns-then-size-tip-clause-errors
returns-then-size-tip-clause-errors g c =
    memory_err _ _ c.serve_tip.result c.serve_tip.ensures.memory

pub returns-in-Err-state_at-clause-kept : goal.returns-in-Err-state_at-clause-kept
returns-in-Err-state_at-clause-kept g c told ops sizes held =
    let s = g.F.Family.shape in
    let h = g.H.Hasher.hash in
    let m = g.O.Logged.meaning in
    let n = size_of c.args.request in
    let at = start_of c.args.request in
    let last = c.args.self.now.tip.witness.size in
    let tip : c.as_u64-tip.result ≡ last = c.as_u64-tip.ensures ∙ ap (λ (d : DbView g.row.F.Denot g.row.H-Digest.Denot g.row.O.Denot g.row.O-Cfg.Denot). d.tip.witness.size) c.self.view_is in
    let passed : serve_answer {F = g.row.F.Denot} last n at true ≡ Ok tt = subst (λ (t : ℕ). serve_answer {F = g.row.F.Denot} t n at true ≡ Ok tt) tip (sym c.in-Ok.ensures) in
    let size : c.as_u64-size.result ≡ n = c.as_u64-size.ensures ∙ c.size.ensures in
    let other : n ≡ last → ⊥ = λ e. c.if-size-tip.false (size ∙ e ∙ sym tip) in
    let sizes_kept = drop (seen_log c.args.self.now.log).start sizes in
    let served : serve_answer {F = g.row.F.Denot} last n at (is_kept last sizes_kept n) ≡ kept_answer n (has_size sizes_kept n) =
    serve_is last n at (is_kept last sizes_kept n) passed ∙ ap (kept_answer n) (other_kept last n sizes_kept other) in
    let decoded = λ (bytes : List ℕ). whole (g.O.Read.reads c.args.self.now.codec bytes) in
    let other_answer = λ (k : ℕ). rebuild_answer {F = g.row.F.Denot} s m decoded (witness_of s h m ops k) in
    subst (λ answer. AnswersAs {T = ℕ} answer (other_answer n) (Err c.in-Err-state_at.error)) (sym served)
    (subst (λ (k : ℕ). AnswersAs {T = ℕ} (kept_answer k (has_size sizes_kept k)) (other_answer k) (Err c.in-Err-state_at.error)) size
    (c.in-Err-state_at.ensures.kept told ops sizes held))

pub returns-in-Err-state_at-clause-errors : goal.returns-in-Err-state_at-clause-errors
returns-in-Err-state_at-clause-errors g c =
    let s = g.F.Family.shape in
    let m = g.O.Logged.meaning in
    let n = size_of c.args.request in
    let at = start_of c.args.request in
    let last = c.args.self.now.tip.witness.size in
    let tip : c.as_u64-tip.result ≡ last = c.as_u64-tip.ensures ∙ ap (λ (d : DbView g.row.F.Denot g.row.H-Digest.Denot g.row.O.Denot g.row.O-Cfg.Denot). d.tip.witness.size) c.self.view_is in
    let passed : serve_answer {F = g.row.F.Denot} last n at true ≡ Ok tt = subst (λ (t : ℕ). serve_answer {F = g.row.F.Denot} t n at true ≡ Ok tt) tip (sym c.in-Ok.ensures) in
    let size : c.as_u64-size.result ≡ n = c.as_u64-size.ensures ∙ c.size.ensures in
    let decoded = λ (bytes : List ℕ). whole (g.O.Read.reads c.args.self.now.codec bytes) in
    let state = g.V.Volume.state c.args.vol.now in
    let items = witnesses_of {F = g.row.F.Denot} g.H.Digest.Spelled.spelling (g.H.Digest.Read.admits tt) (seen_log c.args.self.now.log) state in
    let within = IsWithin (seen_log c.args.self.now.log) state in
    let why = subst (λ (k : ℕ). (kept_answer k false ≡ Err c.in-Err-state_at.error) ⊎ (IsOutside c.in-Err-state_at.error ⊎ (IsLogFault g.V.Volume.tells within items c.in-Err-state_at.error ⊎ IsDamaged s m decoded g.V.Volume.tells within items k c.in-Err-state_at.error))) size
    c.in-Err-state_at.ensures.errors in
    elim why [
      | inl f ↦ inl (serve_is last n at false passed ∙ f)
      | inr f ↦ inr f
    ]

pub returns-in-Err-state_at-clause-waiting : goal.returns-in-Err-state_at-clause-waiting
returns-in-Err-state_at-clause-waiting g c waiting =
    let n = size_of c.args.request in
    let at = start_of c.args.request in
    let last = c.args.self.now.tip.witness.size in
    let tip : c.as_u64-tip.result ≡ last = c.as_u64-tip.ensures ∙ ap (λ (d : DbView g.row.F.Denot g.row.H-Digest.Denot g.row.O.Denot g.row.O-Cfg.Denot). d.tip.witness.size) c.self.view_is in
    let passed : serve_answer {F = g.row.F.Denot} last n at true ≡ Ok tt = subst (λ (t : ℕ). serve_answer {F = g.row.F.Denot} t n at true ≡ Ok tt) tip (sym c.in-Ok.ensures) in
    let size : c.as_u64-size.result ≡ n = c.as_u64-size.ensures ∙ c.size.ensures in
    let other : n ≡ last → ⊥ = λ e. c.if-size-tip.false (size ∙ e ∙ sym tip) in
    let told = c.in-Err-state_at.ensures.waiting waiting in
    let first = told.0 in
    let is : c.in-Err-state_at.error ≡ Journal (ItemPruned (c.as_u64-size.result - 1)) = cc in (
      told.1,
      λ e f.
          let both = sym (serve_is {F = g.row.F.Denot} last n at (is_kept last [] n) passed ∙ ap (kept_answer n) (other_kept last n [] other)) ∙ f in
          let pruned : Journal (ItemPruned (n - 1)) ≡ e = cc in
          ap Err (is ∙ ap (λ (k : ℕ). Journal (ItemPruned (k - 1))) size ∙ pruned),
    )

pub returns-clause-kept : goal.returns-clause-kept
returns-clause-kept g c told ops sizes held =
    let s = g.F.Family.shape in
    let h = g.H.Hasher.hash in
    let m = g.O.Logged.meaning in
    let n = size_of c.args.request in
    let at = start_of c.args.request in
    let last = c.args.self.now.tip.witness.size in
    let tip : c.as_u64-tip.result ≡ last = c.as_u64-tip.ensures ∙ ap (λ (d : DbView g.row.F.Denot g.row.H-Digest.Denot g.row.O.Denot g.row.O-Cfg.Denot). d.tip.witness.size) c.self.view_is in
    let passed : serve_answer {F = g.row.F.Denot} last n at true ≡ Ok tt = subst (λ (t : ℕ). serve_answer {F = g.row.F.Denot} t n at true ≡ Ok tt) tip (sym c.in-Ok.ensures) in
    let size : c.as_u64-size.result ≡ n = c.as_u64-size.ensures ∙ c.size.ensures in
    let other : n ≡ last → ⊥ = λ e. c.if-size-tip.false (size ∙ e ∙ sym tip) in
    let sizes_kept = drop (seen_log c.args.self.now.log).start sizes in
    let served : serve_answer {F = g.row.F.Denot} last n at (is_kept last sizes_kept n) ≡ kept_answer n (has_size sizes_kept n) =
    serve_is last n at (is_kept last sizes_kept n) passed ∙ ap (kept_answer n) (other_kept last n sizes_kept other) in
    let is : kept_answer {F = g.row.F.Denot} n (has_size sizes_kept n) ≡ Ok tt = subst (λ (k : ℕ). kept_answer {F = g.row.F.Denot} k (has_size sizes_kept k) ≡ Ok tt) size
    (c.in-Ok-state_at.ensures.kept told ops sizes held) in
    memory_as _ _ c.response.result (served ∙ is) c.response.ensures.memory

pub returns-clause-list : goal.returns-clause-list
returns-clause-list g c =
    let s = g.F.Family.shape in
    let h = g.H.Hasher.hash in
    let m = g.O.Logged.meaning in
    let n = size_of c.args.request in
    let at = start_of c.args.request in
    let last = c.args.self.now.tip.witness.size in
    let tip : c.as_u64-tip.result ≡ last = c.as_u64-tip.ensures ∙ ap (λ (d : DbView g.row.F.Denot g.row.H-Digest.Denot g.row.O.Denot g.row.O-Cfg.Denot). d.tip.witness.size) c.self.view_is in
    let passed : serve_answer {F = g.row.F.Denot} last n at true ≡ Ok tt = subst (λ (t : ℕ). serve_answer {F = g.row.F.Denot} t n at true ≡ Ok tt) tip (sym c.in-Ok.ensures) in
    let size : c.as_u64-size.result ≡ n = c.as_u64-size.ensures ∙ c.size.ensures in
    let r = c.in-Ok-state_at.kept in
    if_ok c.response.result _ _ c.response.ensures.response (λ x is told ops sizes held commit there all.
    let state = subst (λ (k : ℕ). IsShownOf r.0.witness r.0.proof (verified_of s h m (take k ops)) × (slice_get ops (k - 1) ≡ Some r.1)) size
    (c.in-Ok-state_at.ensures.list told ops sizes held (λ op at.
    let place = ap (λ (k : ℕ). slice_get ops (k - 1)) size in
    subst (g.O.Read.admits c.args.self.now.codec) (one_item (slice_get ops (n - 1)) commit op there (sym place ∙ at)) all)) in
    let v = verified_of {F = g.row.F.Denot} s h m (take n ops) in
    is v state.0.1 (ap (λ (w : Witness g.row.F.Denot g.row.H-Digest.Denot). w.pinned_nodes) state.0.0)
    ∙ ap (response_to c.args.request v) (one_item (slice_get ops (n - 1)) r.1 commit state.1 there))

pub returns-clause-errors : goal.returns-clause-errors
returns-clause-errors g c =
    memory_err _ _ c.response.result c.response.ensures.memory

pub returns-clause-answers : goal.returns-clause-answers
returns-clause-answers g c =
    let old = g.V.Volume.state c.args.vol.now in
    let new = g.V.Volume.state c.state_at.new.vol in
    reads_of g.V.Volume.tells Volume old new c.response.result
    (only_read_joins g.V.Volume.tells Volume old old new _ (only_read_none g.V.Volume.tells old) c.in-Ok-state_at.ensures.answers)
    (memory_alone c.response.result c.response.ensures.memory)

pub state_at-requires : goal.state_at-requires
state_at-requires g c =
    let n = size_of c.args.request in
    let at = start_of c.args.request in
    let last = c.args.self.now.tip.witness.size in
    let tip : c.as_u64-tip.result ≡ last = c.as_u64-tip.ensures ∙ ap (λ (d : DbView g.row.F.Denot g.row.H-Digest.Denot g.row.O.Denot g.row.O-Cfg.Denot). d.tip.witness.size) c.self.view_is in
    let passed : serve_answer {F = g.row.F.Denot} last n at true ≡ Ok tt = subst (λ (t : ℕ). serve_answer {F = g.row.F.Denot} t n at true ≡ Ok tt) tip (sym c.in-Ok.ensures) in
    let size : c.as_u64-size.result ≡ n = c.as_u64-size.ensures ∙ c.size.ensures in
    subst (λ (k : ℕ). 0 < k) (sym size) (serve_some last n at passed)

pub returns-then-size-tip-clause-rebuilds : goal.returns-then-size-tip-clause-rebuilds
returns-then-size-tip-clause-rebuilds g c =
    let n = size_of c.args.request in
    let last = c.args.self.now.tip.witness.size in
    let tip : c.as_u64-tip.result ≡ last = c.as_u64-tip.ensures ∙ ap (λ (d : DbView g.row.F.Denot g.row.H-Digest.Denot g.row.O.Denot g.row.O-Cfg.Denot). d.tip.witness.size) c.self.view_is in
    let size : c.as_u64-size.result ≡ n = c.as_u64-size.ensures ∙ c.size.ensures in
    let same : n ≡ last = sym size ∙ c.if-size-tip.true ∙ tip in
    if_ok c.serve_tip.result _ _ c.serve_tip.ensures.response (λ x is told ops sizes held other. absurd (other same))

pub returns-then-size-tip-clause-rebuilt : goal.returns-then-size-tip-clause-rebuilt
returns-then-size-tip-clause-rebuilt g c =
    let n = size_of c.args.request in
    let last = c.args.self.now.tip.witness.size in
    let tip : c.as_u64-tip.result ≡ last = c.as_u64-tip.ensures ∙ ap (λ (d : DbView g.row.F.Denot g.row.H-Digest.Denot g.row.O.Denot g.row.O-Cfg.Denot). d.tip.witness.size) c.self.view_is in
    let size : c.as_u64-size.result ≡ n = c.as_u64-size.ensures ∙ c.size.ensures in
    let same : n ≡ last = sym size ∙ c.if-size-tip.true ∙ tip in
    if_ok c.serve_tip.result _ _ c.serve_tip.ensures.response (λ x is other told within. absurd (other same))

pub returns-clause-rebuilds : goal.returns-clause-rebuilds
returns-clause-rebuilds g c =
    let s = g.F.Family.shape in
    let h = g.H.Hasher.hash in
    let m = g.O.Logged.meaning in
    let n = size_of c.args.request in
    let size : c.as_u64-size.result ≡ n = c.as_u64-size.ensures ∙ c.size.ensures in
    let decoded = λ (bytes : List ℕ). whole (g.O.Read.reads c.args.self.now.codec bytes) in
    if_ok c.response.result _ _ c.response.ensures.response (λ x is told ops sizes held other.
    subst (λ (k : ℕ). IsOk (rebuild_answer {F = g.row.F.Denot} s m decoded (witness_of s h m ops k))) size
    (c.in-Ok-state_at.ensures.rebuilds told ops sizes held))

pub returns-clause-rebuilt : goal.returns-clause-rebuilt
returns-clause-rebuilt g c =
    let s = g.F.Family.shape in
    let m = g.O.Logged.meaning in
    let n = size_of c.args.request in
    let size : c.as_u64-size.result ≡ n = c.as_u64-size.ensures ∙ c.size.ensures in
    let r = c.in-Ok-state_at.kept in
    let state = g.V.Volume.state c.args.vol.now in
    let items = witnesses_of {F = g.row.F.Denot} g.H.Digest.Spelled.spelling (g.H.Digest.Read.admits tt) (seen_log c.args.self.now.log) state in
    let decoded = λ (bytes : List ℕ). whole (g.O.Read.reads c.args.self.now.codec bytes) in
    let v : VerifiedWitness g.row.F.Denot g.row.H-Digest.Denot = record { witness = r.0.witness; root = g.H.Hasher.hash.digest []; proof = r.0.proof } in
    if_ok c.response.result _ _ c.response.ensures.response (λ x is other told within. (
      v,
      r.1,
      subst (λ (k : ℕ). IsRebuiltAt s m decoded items k v r.1) size (c.in-Ok-state_at.ensures.rebuilt told within v refl),
      c.in-Ok-state_at.ensures.proof,
      is v refl refl,
    ))
