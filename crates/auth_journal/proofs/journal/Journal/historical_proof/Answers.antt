use Rattle.std.proofs.Common.{◌≡◌, ◌+◌, ◌-◌, ◌<◌, ◌≤◌, ℕ, List, length, take, drop, Ok, Err, ◌∙◌, ap, subst, arith}
use Rattle.std.specs.NonZero.{non_zero_u64_get}
use Rattle.std.specs.Prelude.{Result}
use Rattle.volume_base.specs.Log.{Log}
use Rattle.volume_base.specs.Moments.{present}
use Rattle.volume_base.specs.declared.error.JournalError.TheVariants as journal
use Rattle.volume_base.proofs.ReadLemmas.{only_read_none, only_read_joins, reads_of}
use Rattle.journal_base.specs.Answers.{IsOfVolume}
use Rattle.journal_base.specs.Items.{Spells}
use Rattle.journal_base.specs.Reads.{AreItemsAt}
use Rattle.journal_base.specs.View.{View}
use Rattle.tree_proof.specs.declared.proof.Proof.{Proof}
use Rattle.tree_store.specs.declared.error.Error as tree_error
use Rattle.tree_store.specs.declared.error.Error.TheVariants as tree
use Rattle.tree_core.specs.Tree.{Tree, IsSound}
use Rattle.merkle_full.specs.Proving.{history_answer, IsProved}
use Rattle.auth_journal.specs.Joined.{Joined}
use Rattle.auth_journal.specs.Proving.{range_end}
use Rattle.auth_journal.specs.Reading.{positions, AreUnread, AreAdmitted}
use Rattle.auth_journal.specs.Errors.{from_journal, from_tree, IsLifted}
use Rattle.auth_journal.specs.declared.error.Error.TheVariants as joined
use Rattle.auth_journal.proofs.AlignLemmas.{reads_above}
use Rattle.auth_journal.proofs.DurableLemmas.{err_and}
use Rattle.auth_journal.proofs.LowerLemmas.{journal_lifted, proof_lifted}
use Rattle.auth_journal.proofs.ProofLemmas.{moved, tree_refused, log_refused, both_made}
use Rattle.auth_journal.proofs.journal.Journal.historical_proof.Goals as goal

pub returns-in_err-proof-clause-proves : goal.returns-in_err-proof-clause-proves
returns-in_err-proof-clause-proves g c =
    let s = g.F.Family.shape in
    let h = g.H.Hasher.hash in
    let tells = g.V.Volume.tells in
    let digest = g.H.Digest.Spelled.spelling in
    let admits = g.H.Digest.Read.admits tt in
    let reads = g.H.Digest.Read.reads tt in
    let spelling = g.C.Item.Spelled.spelling in
    let allowed = g.C.Item.Read.admits in
    let old = g.V.Volume.state c.args.vol.now in
    let j = c.args.self.now in
    let n = c.args.leaves in
    let a = c.args.start in
    let count = non_zero_u64_get c.args.max_ops in
    let b = range_end n a count in
    let ends = ap (λ (k : Joined g.row.H-Digest.Denot g.row.C-Item-Cfg.Denot). k.items.end) c.self.view_is in
    let le : n ≤ j.items.end = omega (arith, c.if-count-end.false, c.as_u64-count.ensures, c.bounds-end.ensures.end, ends) in
    let lt : a < n = omega (arith, c.if-first-count.false, c.as_u64-count.ensures, c.as_u64-first.ensures) in
    let some : 0 < count = omega (arith, c.get.ensures.nonzero, c.get.ensures.value) in
    let tree : c.mem.result.now ≡ j.tree.tree = c.mem.ensures ∙ ap (λ (k : Joined g.row.H-Digest.Denot g.row.C-Item-Cfg.Denot). k.tree.tree) c.self.view_is in
    let sound = subst (λ (t : Tree g.row.H-Digest.Denot). IsSound s t) tree c.leaves-stored.ensures.sound in
    let to : c.as_u64-first.result + c.min-size.result ≡ b = omega (arith, c.as_u64-first.ensures, c.min-size.ensures, c.get.ensures.value, c.as_u64-count.ensures, lt) in
    let at_n : c.new-2.result ≡ n = c.new-2.ensures ∙ c.as_u64-count.ensures in
    let at_a : c.new-3.result ≡ a = c.new-3.ensures ∙ c.as_u64-first.ensures in
    let at_b : c.new-4.result ≡ b = c.new-4.ensures ∙ to in
    let answer : Result (Proof g.row.F.Denot g.row.H-Digest.Denot) (tree_error.Error g.row.F.Denot) = Err c.in_err-proof.field-0.0 in
    let m = c.self.inside.merkle in
    let did = subst (λ (k : Joined g.row.H-Digest.Denot g.row.C-Item-Cfg.Denot). IsProved tells s digest admits reads k.tree (present old) (history_answer k.tree.tree.leaves n a b) n c.args.inactive_peaks a b answer) c.self.view_is
    (subst (λ (z : ℕ). IsProved tells s digest admits reads m (present old) (history_answer m.tree.leaves n a z) n c.args.inactive_peaks a z answer) at_b
    (subst (λ (z : ℕ). IsProved tells s digest admits reads m (present old) (history_answer m.tree.leaves n z c.new-4.result) n c.args.inactive_peaks z c.new-4.result answer) at_a
    (subst (λ (z : ℕ). IsProved tells s digest admits reads m (present old) (history_answer m.tree.leaves z c.new-3.result c.new-4.result) z c.args.inactive_peaks c.new-3.result c.new-4.result answer) at_n ((c.in_err-proof.ensures {u = tt}).proves)))) in
    tree_refused g.row.F.Denot tells s h digest admits reads spelling allowed j (present old) n c.args.inactive_peaks a count le lt some sound c.in_err-proof.field-0.0 _ c.from_residual.ensures.1 did

pub returns-in_err-items-clause-proves : goal.returns-in_err-items-clause-proves
returns-in_err-items-clause-proves g c =
    let s = g.F.Family.shape in
    let h = g.H.Hasher.hash in
    let tells = g.V.Volume.tells in
    let digest = g.H.Digest.Spelled.spelling in
    let admits = g.H.Digest.Read.admits tt in
    let reads = g.H.Digest.Read.reads tt in
    let spelling = g.C.Item.Spelled.spelling in
    let allowed = g.C.Item.Read.admits in
    let old = g.V.Volume.state c.args.vol.now in
    let j = c.args.self.now in
    let n = c.args.leaves in
    let a = c.args.start in
    let count = non_zero_u64_get c.args.max_ops in
    let b = range_end n a count in
    let ends = ap (λ (k : Joined g.row.H-Digest.Denot g.row.C-Item-Cfg.Denot). k.items.end) c.self.view_is in
    let le : n ≤ j.items.end = omega (arith, c.if-count-end.false, c.as_u64-count.ensures, c.bounds-end.ensures.end, ends) in
    let lt : a < n = omega (arith, c.if-first-count.false, c.as_u64-count.ensures, c.as_u64-first.ensures) in
    let some : 0 < count = omega (arith, c.get.ensures.nonzero, c.get.ensures.value) in
    let tree : c.mem.result.now ≡ j.tree.tree = c.mem.ensures ∙ ap (λ (k : Joined g.row.H-Digest.Denot g.row.C-Item-Cfg.Denot). k.tree.tree) c.self.view_is in
    let sound = subst (λ (t : Tree g.row.H-Digest.Denot). IsSound s t) tree c.leaves-stored.ensures.sound in
    let to : c.as_u64-first.result + c.min-size.result ≡ b = omega (arith, c.as_u64-first.ensures, c.min-size.ensures, c.get.ensures.value, c.as_u64-count.ensures, lt) in
    let at_n : c.new-2.result ≡ n = c.new-2.ensures ∙ c.as_u64-count.ensures in
    let at_a : c.new-3.result ≡ a = c.new-3.ensures ∙ c.as_u64-first.ensures in
    let at_b : c.new-4.result ≡ b = c.new-4.ensures ∙ to in
    let answer : Result (Proof g.row.F.Denot g.row.H-Digest.Denot) (tree_error.Error g.row.F.Denot) = Ok c.in_ok-proof.proof in
    let m = c.self.inside.merkle in
    let did = subst (λ (k : Joined g.row.H-Digest.Denot g.row.C-Item-Cfg.Denot). IsProved tells s digest admits reads k.tree (present old) (history_answer k.tree.tree.leaves n a b) n c.args.inactive_peaks a b answer) c.self.view_is
    (subst (λ (z : ℕ). IsProved tells s digest admits reads m (present old) (history_answer m.tree.leaves n a z) n c.args.inactive_peaks a z answer) at_b
    (subst (λ (z : ℕ). IsProved tells s digest admits reads m (present old) (history_answer m.tree.leaves n z c.new-4.result) n c.args.inactive_peaks z c.new-4.result answer) at_a
    (subst (λ (z : ℕ). IsProved tells s digest admits reads m (present old) (history_answer m.tree.leaves z c.new-3.result c.new-4.result) z c.args.inactive_peaks c.new-3.result c.new-4.result answer) at_n ((c.in_ok-proof.ensures {u = tt}).proves)))) in
    let new = g.V.Volume.state c.historical_range_proof.new.vol in
    let i : Joined g.row.H-Digest.Denot g.row.C-Item-Cfg.Denot = record { items = g.C.Contiguous.view c.self.inside.journal; tree = c.self.inside.merkle; bagging = c.self.inside.hasher; failed = c.self.inside.failed } in
    let same = λ (told : tells). ((c.in_ok-proof.ensures {u = tt}).reads.contents told).logs i.items.name in
    let e = c.in_err-items.field-0.0 in
    let read = c.in_err-items.ensures {u = tt} in
    log_refused g.row.F.Denot tells s h digest admits reads spelling allowed j (present old) n c.args.inactive_peaks a count le lt some sound e _ c.from_residual-in_err-items.ensures.1 c.in_ok-proof.proof did
    (λ told. moved (λ (v : View g.row.C-Item-Cfg.Denot) (l : Log) (x y : ℕ). AreUnread tells (record { log = l; spelling = spelling; admits = allowed v.codec }) x y e) i j old new c.as_u64-first.result a (c.as_u64-first.result + c.min-size.result) b c.self.view_is (same told) c.as_u64-first.ensures to (read.unread))
    (λ told. moved (λ (v : View g.row.C-Item-Cfg.Denot) (l : Log) (x y : ℕ). (list : List g.row.C-Item.Denot) → Spells spelling list l → l.start ≤ x → y ≤ length list → AreAdmitted (allowed v.codec) list x y → IsOfVolume e) i j old new c.as_u64-first.result a (c.as_u64-first.result + c.min-size.result) b c.self.view_is (same told) c.as_u64-first.ensures to (read.outside told))

pub returns-clause-proves : goal.returns-clause-proves
returns-clause-proves g c =
    let s = g.F.Family.shape in
    let h = g.H.Hasher.hash in
    let tells = g.V.Volume.tells in
    let digest = g.H.Digest.Spelled.spelling in
    let admits = g.H.Digest.Read.admits tt in
    let reads = g.H.Digest.Read.reads tt in
    let spelling = g.C.Item.Spelled.spelling in
    let allowed = g.C.Item.Read.admits in
    let old = g.V.Volume.state c.args.vol.now in
    let j = c.args.self.now in
    let n = c.args.leaves in
    let a = c.args.start in
    let count = non_zero_u64_get c.args.max_ops in
    let b = range_end n a count in
    let ends = ap (λ (k : Joined g.row.H-Digest.Denot g.row.C-Item-Cfg.Denot). k.items.end) c.self.view_is in
    let le : n ≤ j.items.end = omega (arith, c.if-count-end.false, c.as_u64-count.ensures, c.bounds-end.ensures.end, ends) in
    let lt : a < n = omega (arith, c.if-first-count.false, c.as_u64-count.ensures, c.as_u64-first.ensures) in
    let some : 0 < count = omega (arith, c.get.ensures.nonzero, c.get.ensures.value) in
    let tree : c.mem.result.now ≡ j.tree.tree = c.mem.ensures ∙ ap (λ (k : Joined g.row.H-Digest.Denot g.row.C-Item-Cfg.Denot). k.tree.tree) c.self.view_is in
    let sound = subst (λ (t : Tree g.row.H-Digest.Denot). IsSound s t) tree c.leaves-stored.ensures.sound in
    let to : c.as_u64-first.result + c.min-size.result ≡ b = omega (arith, c.as_u64-first.ensures, c.min-size.ensures, c.get.ensures.value, c.as_u64-count.ensures, lt) in
    let at_n : c.new-2.result ≡ n = c.new-2.ensures ∙ c.as_u64-count.ensures in
    let at_a : c.new-3.result ≡ a = c.new-3.ensures ∙ c.as_u64-first.ensures in
    let at_b : c.new-4.result ≡ b = c.new-4.ensures ∙ to in
    let answer : Result (Proof g.row.F.Denot g.row.H-Digest.Denot) (tree_error.Error g.row.F.Denot) = Ok c.in_ok-proof.proof in
    let m = c.self.inside.merkle in
    let did = subst (λ (k : Joined g.row.H-Digest.Denot g.row.C-Item-Cfg.Denot). IsProved tells s digest admits reads k.tree (present old) (history_answer k.tree.tree.leaves n a b) n c.args.inactive_peaks a b answer) c.self.view_is
    (subst (λ (z : ℕ). IsProved tells s digest admits reads m (present old) (history_answer m.tree.leaves n a z) n c.args.inactive_peaks a z answer) at_b
    (subst (λ (z : ℕ). IsProved tells s digest admits reads m (present old) (history_answer m.tree.leaves n z c.new-4.result) n c.args.inactive_peaks z c.new-4.result answer) at_a
    (subst (λ (z : ℕ). IsProved tells s digest admits reads m (present old) (history_answer m.tree.leaves z c.new-3.result c.new-4.result) z c.args.inactive_peaks c.new-3.result c.new-4.result answer) at_n ((c.in_ok-proof.ensures {u = tt}).proves)))) in
    let new = g.V.Volume.state c.historical_range_proof.new.vol in
    let i : Joined g.row.H-Digest.Denot g.row.C-Item-Cfg.Denot = record { items = g.C.Contiguous.view c.self.inside.journal; tree = c.self.inside.merkle; bagging = c.self.inside.hasher; failed = c.self.inside.failed } in
    let same = λ (told : tells). ((c.in_ok-proof.ensures {u = tt}).reads.contents told).logs i.items.name in
    let made = c.in_ok-items.items in
    let read = c.in_ok-items.ensures {u = tt} in
    both_made g.row.F.Denot tells s h digest admits reads spelling allowed j (present old) n c.args.inactive_peaks a count le lt some sound c.in_ok-proof.proof made did
    (omega (arith, read.counted, c.as_u64-first.ensures, to))
    (λ told. moved (λ (v : View g.row.C-Item-Cfg.Denot) (l : Log) (x y : ℕ). AreItemsAt (record { log = l; spelling = spelling; admits = allowed v.codec }) (positions x y) made.items) i j old new c.as_u64-first.result a (c.as_u64-first.result + c.min-size.result) b c.self.view_is (same told) c.as_u64-first.ensures to (read.items told))
    (λ told. moved (λ (v : View g.row.C-Item-Cfg.Denot) (l : Log) (x y : ℕ). (list : List g.row.C-Item.Denot) → Spells spelling list l → l.start ≤ x → y ≤ length list → AreAdmitted (allowed v.codec) list x y → made.items ≡ take (y - x) (drop x list)) i j old new c.as_u64-first.result a (c.as_u64-first.result + c.min-size.result) b c.self.view_is (same told) c.as_u64-first.ensures to (read.listed told))

pub returns-in_err-proof-clause-lifted : goal.returns-in_err-proof-clause-lifted
returns-in_err-proof-clause-lifted g c =
    let e = c.in_err-proof.field-0.0 in
    err_and _ (from_tree e) IsLifted c.from_residual.ensures.1 (let did = (c.in_err-proof.ensures {u = tt}).proves in proof_lifted {T = Proof g.row.F.Denot g.row.H-Digest.Denot} c.self.inside.merkle.tree.leaves c.new-2.result c.new-3.result c.new-4.result e did.refused did.fault)

pub returns-in_err-items-clause-lifted : goal.returns-in_err-items-clause-lifted
returns-in_err-items-clause-lifted g c =
    let e = c.in_err-items.field-0.0 in
    err_and _ (from_journal e) IsLifted c.from_residual-in_err-items.ensures.1 (journal_lifted g.row.F.Denot e)

pub returns-in_err-items-clause-reads : goal.returns-in_err-items-clause-reads
returns-in_err-items-clause-reads g c =
    let tells = g.V.Volume.tells in
    let first = only_read_joins tells tree.Volume _ _ _ c.in_ok-proof.proof (only_read_none tells (g.V.Volume.state c.args.vol.now)) (c.in_ok-proof.ensures {u = tt}).reads in
    reads_above tells _ _ _ c.in_err-items.field-0.0 _ c.from_residual-in_err-items.ensures.1 first (c.in_err-items.ensures {u = tt}).reads

pub returns-clause-reads : goal.returns-clause-reads
returns-clause-reads g c =
    let tells = g.V.Volume.tells in
    let first = only_read_joins tells tree.Volume _ _ _ c.in_ok-proof.proof (only_read_none tells (g.V.Volume.state c.args.vol.now)) (c.in_ok-proof.ensures {u = tt}).reads in
    reads_of tells joined.Volume _ _ _ (only_read_joins tells journal.Volume _ _ _ c.in_ok-items.items first (c.in_ok-items.ensures {u = tt}).reads) (λ is. absurd cc)
