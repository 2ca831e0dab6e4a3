use Rattle.std.proofs.Common.{◌≡◌, ◌≤◌, ◌++◌, inl, inr, ℕ, List, Option, Ok, Some, max, take, refl, sym, ◌∙◌, ap, subst, arith}
use Rattle.std.specs.Fn.{FnReturnsAt}
use Rattle.std.specs.Prelude.{string_bytes, unwrap_or}
use Rattle.volume_base.specs.Log.{Log, cut_to, Shrinks}
use Rattle.volume_base.specs.Moments.{NamesLeft, present, LogKeeps}
use Rattle.volume_base.specs.Names.{two_logs_and_map, NamesCall}
use Rattle.volume_base.specs.Volume.{Map, OnlyLeft, Follows}
use Rattle.volume_base.proofs.CallLemmas.{names_call_log, names_call_joins}
use Rattle.volume_base.proofs.MomentLemmas.{log_stays_log}
use Rattle.volume_base.proofs.NameLemmas.{names_of_image}
use Rattle.volume_base.proofs.TurnLemmas.{names_back, now_after, keeps_idle, keeps_joins}
use Rattle.volume_base.proofs.JoinLemmas.{went_of, changes_joins}
use Rattle.journal_base.specs.Items.{items_of, Spells}
use Rattle.journal_base.specs.View.{View, at_bounds}
use Rattle.std.specs.NonZero.{non_zero_u64_get}
use Rattle.journal_base.specs.Blobs.{blob_start}
use Rattle.tree_store.specs.Stored.{TreeStands, size}
use Rattle.merkle_full.specs.Preparing.{cap_of, log_kept}
use Rattle.merkle_full.proofs.GrownLemmas.{err_same}
use Rattle.merkle_full.proofs.PrepareLemmas.{kept_standing, durable_fits}
use Rattle.auth_journal.specs.Aligning.{NotAligned}
use Rattle.auth_journal.specs.Joined.{IsJoinedOf, leaves_of}
use Rattle.auth_journal.specs.Opening.{OpensAt, OpensUpTo, ShrinksToEnd}
use Rattle.auth_journal.specs.Reading.{AreReadable}
use Rattle.auth_journal.specs.Searching.{EndsAt}
use Rattle.auth_journal.specs.Standing.{NamesStand, NamesKeepStanding}
use Rattle.auth_journal.specs.declared.error.Error.TheVariants as joined
use Rattle.auth_journal.proofs.AlignLemmas.{changes_same}
use Rattle.auth_journal.proofs.OpeningLemmas.{seen_items, keeps_behind}
use Rattle.auth_journal.proofs.SettledLemmas.{opened_settled, renamed_settles}
use Rattle.auth_journal.specs.Errors.{IsLifted}
use Rattle.auth_journal.proofs.journal.Journal.open_under.Goals as goal

pub returns-clause-named : goal.returns-clause-named
returns-clause-named g c =
    let tells = g.V.Volume.tells in
    let s = g.F.Family.shape in
    let h = g.H.Hasher.hash in
    let digest = g.H.Digest.Spelled.spelling in
    let admitted = g.H.Digest.Read.admits tt in
    let spelling = g.C.Item.Spelled.spelling in
    let admits = g.C.Item.Read.admits in
    let says = FnReturnsAt g.P.Fn c.args.predicate in
    let cap = c.args.max_size in
    let s0 = g.V.Volume.state c.args.vol.now in
    let s1 = g.V.Volume.state c.prepare.new.vol in
    let first = g.C.Backing.config c.args.journal_cfg in
    let nodes = string_bytes c.args.merkle_cfg.nodes in
    let metadata = string_bytes c.args.merkle_cfg.metadata in
    let r = c.in_ok-recovery.recovery in
    let did = c.in_ok-recovery.ensures {u = tt} in
    let name : r.items.name ≡ first.name = ap (λ (v : View g.row.C-Item-Cfg.Denot). v.name) did.named.0 in
    let s2 = g.V.Volume.state c.finish.new.vol in
    let t = c.in_ok-opened.opened in
    let did_finish = c.in_ok-opened.ensures {u = tt} in
    let from = did_finish.from in
    (from.items ∙ ap (λ (v : View g.row.C-Item-Cfg.Denot). at_bounds v t.items.start t.items.end) did.named.0, from.bagging ∙ did.named.2, from.failed)

pub returns-clause-tree_named : goal.returns-clause-tree_named
returns-clause-tree_named g c =
    let is = (c.in_ok-recovery.ensures {u = tt}).named.1 in
    let from = (c.in_ok-opened.ensures {u = tt}).from in
    (ap (λ (v : View (Unit {0})). v.name) from.log ∙ is.nodes_is, ap (λ (v : View (Unit {0})). v.blob) from.log ∙ is.blob_is, from.metadata ∙ is.metadata_is)

pub returns-clause-found : goal.returns-clause-found
returns-clause-found g c told =
    let tells = g.V.Volume.tells in
    let s = g.F.Family.shape in
    let h = g.H.Hasher.hash in
    let digest = g.H.Digest.Spelled.spelling in
    let admitted = g.H.Digest.Read.admits tt in
    let spelling = g.C.Item.Spelled.spelling in
    let admits = g.C.Item.Read.admits in
    let says = FnReturnsAt g.P.Fn c.args.predicate in
    let cap = c.args.max_size in
    let s0 = g.V.Volume.state c.args.vol.now in
    let s1 = g.V.Volume.state c.prepare.new.vol in
    let first = g.C.Backing.config c.args.journal_cfg in
    let nodes = string_bytes c.args.merkle_cfg.nodes in
    let metadata = string_bytes c.args.merkle_cfg.metadata in
    let r = c.in_ok-recovery.recovery in
    let did = c.in_ok-recovery.ensures {u = tt} in
    let name : r.items.name ≡ first.name = ap (λ (v : View g.row.C-Item-Cfg.Denot). v.name) did.named.0 in
    let s2 = g.V.Volume.state c.finish.new.vol in
    let t = c.in_ok-opened.opened in
    let did_finish = c.in_ok-opened.ensures {u = tt} in
    let from = did_finish.from in
    let within = did.within told in
    let end : t.items.end ≡ r.end = (did_finish.reached told within).0 in
    subst (λ n. EndsAt (items_of spelling admits first s0) says cap n) (sym end) (did.found told)

pub returns-clause-cut : goal.returns-clause-cut
returns-clause-cut g c told =
    let tells = g.V.Volume.tells in
    let s = g.F.Family.shape in
    let h = g.H.Hasher.hash in
    let digest = g.H.Digest.Spelled.spelling in
    let admitted = g.H.Digest.Read.admits tt in
    let spelling = g.C.Item.Spelled.spelling in
    let admits = g.C.Item.Read.admits in
    let says = FnReturnsAt g.P.Fn c.args.predicate in
    let cap = c.args.max_size in
    let s0 = g.V.Volume.state c.args.vol.now in
    let s1 = g.V.Volume.state c.prepare.new.vol in
    let first = g.C.Backing.config c.args.journal_cfg in
    let nodes = string_bytes c.args.merkle_cfg.nodes in
    let metadata = string_bytes c.args.merkle_cfg.metadata in
    let r = c.in_ok-recovery.recovery in
    let did = c.in_ok-recovery.ensures {u = tt} in
    let name : r.items.name ≡ first.name = ap (λ (v : View g.row.C-Item-Cfg.Denot). v.name) did.named.0 in
    let s2 = g.V.Volume.state c.finish.new.vol in
    let t = c.in_ok-opened.opened in
    let did_finish = c.in_ok-opened.ensures {u = tt} in
    let from = did_finish.from in
    let within = did.within told in
    let end : t.items.end ≡ r.end = (did_finish.reached told within).0 in
    let same : s1.log first.name ≡ s0.log first.name = (did.log told).others.logs first.name c.requires.apart in
    let cut : s2.log first.name ≡ cut_to (s0.log first.name) t.items.end = sym (ap s2.log name) ∙ did_finish.cut told ∙ ap (λ n. cut_to (s1.log n) r.end) name ∙ ap (λ (l : Log). cut_to l r.end) same ∙ ap (λ n. cut_to (s0.log first.name) n) (sym end) in
    (cut, did_finish.held told)

pub returns-clause-opens : goal.returns-clause-opens
returns-clause-opens g c told =
    let tells = g.V.Volume.tells in
    let s = g.F.Family.shape in
    let h = g.H.Hasher.hash in
    let digest = g.H.Digest.Spelled.spelling in
    let admitted = g.H.Digest.Read.admits tt in
    let spelling = g.C.Item.Spelled.spelling in
    let admits = g.C.Item.Read.admits in
    let says = FnReturnsAt g.P.Fn c.args.predicate in
    let cap = c.args.max_size in
    let s0 = g.V.Volume.state c.args.vol.now in
    let s1 = g.V.Volume.state c.prepare.new.vol in
    let first = g.C.Backing.config c.args.journal_cfg in
    let nodes = string_bytes c.args.merkle_cfg.nodes in
    let metadata = string_bytes c.args.merkle_cfg.metadata in
    let r = c.in_ok-recovery.recovery in
    let did = c.in_ok-recovery.ensures {u = tt} in
    let name : r.items.name ≡ first.name = ap (λ (v : View g.row.C-Item-Cfg.Denot). v.name) did.named.0 in
    let s2 = g.V.Volume.state c.finish.new.vol in
    let t = c.in_ok-opened.opened in
    let did_finish = c.in_ok-opened.ensures {u = tt} in
    let from = did_finish.from in
    let within = did.within told in
    let end : t.items.end ≡ r.end = (did_finish.reached told within).0 in
    let same : s1.log first.name ≡ s0.log first.name = (did.log told).others.logs first.name c.requires.apart in
    let opens : OpensAt g.row.F.Denot digest admitted s (s0.map metadata) (s0.log nodes) (cap_of (Some r.end)) r.tree.pruned r.tree.tree.leaves = record { boundary = r.tree.boundary; complete = r.tree.complete; opens = did.opens told } in
    let items = items_of spelling admits first s0 in
    let up_to : OpensUpTo g.row.F.Denot digest admitted s (s0.map metadata) (s0.log nodes) items r.end r.tree.pruned = record {
      leaves = r.tree.tree.leaves;
      opens = opens;
      reached = omega (arith, did.sound.0, within.items.start_is, ap (λ (l : Log). l.start) (ap s1.log name ∙ same));
      readable = seen_items (λ i. AreReadable i r.tree.tree.leaves r.end) spelling admits first r.items s0 s1 did.named.0 same (did_finish.replayed told within);
    } in
    subst (λ b. OpensUpTo g.row.F.Denot digest admitted s (s0.map metadata) (s0.log nodes) items t.items.end b) (sym from.boundary)
    (subst (λ n. OpensUpTo g.row.F.Denot digest admitted s (s0.map metadata) (s0.log nodes) items n r.tree.pruned) (sym end) up_to)

pub returns-clause-whole : goal.returns-clause-whole
returns-clause-whole g c = (c.in_ok-opened.ensures {u = tt}).whole

pub returns-clause-seated : goal.returns-clause-seated
returns-clause-seated g c told =
    let tells = g.V.Volume.tells in
    let s = g.F.Family.shape in
    let h = g.H.Hasher.hash in
    let digest = g.H.Digest.Spelled.spelling in
    let admitted = g.H.Digest.Read.admits tt in
    let spelling = g.C.Item.Spelled.spelling in
    let admits = g.C.Item.Read.admits in
    let says = FnReturnsAt g.P.Fn c.args.predicate in
    let cap = c.args.max_size in
    let s0 = g.V.Volume.state c.args.vol.now in
    let s1 = g.V.Volume.state c.prepare.new.vol in
    let first = g.C.Backing.config c.args.journal_cfg in
    let nodes = string_bytes c.args.merkle_cfg.nodes in
    let metadata = string_bytes c.args.merkle_cfg.metadata in
    let r = c.in_ok-recovery.recovery in
    let did = c.in_ok-recovery.ensures {u = tt} in
    let name : r.items.name ≡ first.name = ap (λ (v : View g.row.C-Item-Cfg.Denot). v.name) did.named.0 in
    let s2 = g.V.Volume.state c.finish.new.vol in
    let t = c.in_ok-opened.opened in
    let did_finish = c.in_ok-opened.ensures {u = tt} in
    let from = did_finish.from in
    did_finish.seated told (did.within told)

pub returns-clause-map : goal.returns-clause-map
returns-clause-map g c told =
    let s0 = g.V.Volume.state c.args.vol.now in
    let s1 = g.V.Volume.state c.prepare.new.vol in
    let s2 = g.V.Volume.state c.finish.new.vol in
    let metadata = string_bytes c.args.merkle_cfg.metadata in
    let did = c.in_ok-recovery.ensures {u = tt} in
    let is = did.named.1.metadata_is in
    let ready = did.within told in
    ap s2.map (sym is) ∙ (c.in_ok-opened.ensures {u = tt}).map told ready ∙ sym ready.tree.read ∙ ap s1.map is ∙ (did.log told).others.maps metadata

pub returns-clause-nodes : goal.returns-clause-nodes
returns-clause-nodes g c told stored is =
    let s = g.F.Family.shape in
    let s0 = g.V.Volume.state c.args.vol.now in
    let s1 = g.V.Volume.state c.prepare.new.vol in
    let nodes = string_bytes c.args.merkle_cfg.nodes in
    let r = c.in_ok-recovery.recovery in
    let did = c.in_ok-recovery.ensures {u = tt} in
    let named = did.named.1 in
    let opens = did.opens told in
    let one : opens.stored ≡ stored = (let both = sym opens.stored_is ∙ is in cc) in
    let at : r.tree.boundary ≡ unwrap_or stored 0 = opens.boundary_is ∙ ap (λ (x : Option ℕ). unwrap_or x 0) one in
    let kept = log_kept stored (s0.log nodes) in
    let blob = non_zero_u64_get c.args.merkle_cfg.items_per_blob in
    (c.in_ok-opened.ensures {u = tt}).nodes told (did.within told)
    ∙ ap (λ (n : List ℕ). max (s1.log n).start (blob_start r.tree.log.blob (size s r.tree.boundary))) named.nodes_is
    ∙ ap (λ (l : Log). max l.start (blob_start r.tree.log.blob (size s r.tree.boundary))) (did.kept told stored is)
    ∙ ap (λ (b : ℕ). max kept.start (blob_start b (size s r.tree.boundary))) named.blob_is
    ∙ ap (λ (b : ℕ). max kept.start (blob_start blob (size s b))) at

pub returns-clause-joined : goal.returns-clause-joined
returns-clause-joined g c told list rest durable top run long stands =
    let tells = g.V.Volume.tells in
    let s = g.F.Family.shape in
    let h = g.H.Hasher.hash in
    let digest = g.H.Digest.Spelled.spelling in
    let admitted = g.H.Digest.Read.admits tt in
    let spelling = g.C.Item.Spelled.spelling in
    let admits = g.C.Item.Read.admits in
    let says = FnReturnsAt g.P.Fn c.args.predicate in
    let cap = c.args.max_size in
    let s0 = g.V.Volume.state c.args.vol.now in
    let s1 = g.V.Volume.state c.prepare.new.vol in
    let first = g.C.Backing.config c.args.journal_cfg in
    let nodes = string_bytes c.args.merkle_cfg.nodes in
    let metadata = string_bytes c.args.merkle_cfg.metadata in
    let r = c.in_ok-recovery.recovery in
    let did = c.in_ok-recovery.ensures {u = tt} in
    let name : r.items.name ≡ first.name = ap (λ (v : View g.row.C-Item-Cfg.Denot). v.name) did.named.0 in
    let s2 = g.V.Volume.state c.finish.new.vol in
    let t = c.in_ok-opened.opened in
    let did_finish = c.in_ok-opened.ensures {u = tt} in
    let from = did_finish.from in
    let within = did.within told in
    let end : t.items.end ≡ r.end = (did_finish.reached told within).0 in
    let same : s1.log first.name ≡ s0.log first.name = (did.log told).others.logs first.name c.requires.apart in
    let all = leaves_of s h spelling (list ++ rest) in
    let Q = TreeStands s h digest all durable top in
    let clock = did.still told (λ stored is. kept_standing s h digest all durable top (s0.log nodes) (s0.map metadata) stored stands is) in
    let still = did.changes.still told clock in
    let log = ap s1.log did.named.1.nodes_is ∙ still.logs nodes in
    let map_is = sym within.tree.read ∙ ap s1.map did.named.1.metadata_is ∙ still.maps metadata in
    let now = subst (λ (l : Log). Q l r.tree.read) (sym log) (subst (λ (m : Map). Q (s0.log nodes) m) (sym map_is) stands) in
    let here = subst (λ (l : Log). Spells spelling list l) (sym (ap s1.log name ∙ same)) run in
    let whole = did_finish.joined told list rest durable top within here long now (did.list told (list ++ rest) durable top stands) in
    subst (λ n. IsJoinedOf s h digest admitted spelling (take n list) t (present s2)) (sym end) whole

pub returns-clause-durable : goal.returns-clause-durable
returns-clause-durable g c told =
    let tells = g.V.Volume.tells in
    let s = g.F.Family.shape in
    let h = g.H.Hasher.hash in
    let digest = g.H.Digest.Spelled.spelling in
    let admitted = g.H.Digest.Read.admits tt in
    let spelling = g.C.Item.Spelled.spelling in
    let admits = g.C.Item.Read.admits in
    let says = FnReturnsAt g.P.Fn c.args.predicate in
    let cap = c.args.max_size in
    let s0 = g.V.Volume.state c.args.vol.now in
    let s1 = g.V.Volume.state c.prepare.new.vol in
    let first = g.C.Backing.config c.args.journal_cfg in
    let nodes = string_bytes c.args.merkle_cfg.nodes in
    let metadata = string_bytes c.args.merkle_cfg.metadata in
    let r = c.in_ok-recovery.recovery in
    let did = c.in_ok-recovery.ensures {u = tt} in
    let name : r.items.name ≡ first.name = ap (λ (v : View g.row.C-Item-Cfg.Denot). v.name) did.named.0 in
    let s2 = g.V.Volume.state c.finish.new.vol in
    let t = c.in_ok-opened.opened in
    let did_finish = c.in_ok-opened.ensures {u = tt} in
    let from = did_finish.from in
    let both = did_finish.durable told in (
      subst (λ n. OnlyLeft (s2.log_left s2.clock n) (s2.log n)) (sym (ap (λ (v : View g.row.C-Item-Cfg.Denot). v.name) from.items)) both.0,
      subst (λ n. OnlyLeft (s2.log_left s2.clock n) (s2.log n)) (sym (ap (λ (v : View (Unit {0})). v.name) from.log)) both.1,
    )

pub returns-in_err-recovery-clause-refused : goal.returns-in_err-recovery-clause-refused
returns-in_err-recovery-clause-refused g c told =
    let tells = g.V.Volume.tells in
    let s = g.F.Family.shape in
    let h = g.H.Hasher.hash in
    let digest = g.H.Digest.Spelled.spelling in
    let admitted = g.H.Digest.Read.admits tt in
    let spelling = g.C.Item.Spelled.spelling in
    let admits = g.C.Item.Read.admits in
    let says = FnReturnsAt g.P.Fn c.args.predicate in
    let cap = c.args.max_size in
    let s0 = g.V.Volume.state c.args.vol.now in
    let s1 = g.V.Volume.state c.prepare.new.vol in
    let first = g.C.Backing.config c.args.journal_cfg in
    let nodes = string_bytes c.args.merkle_cfg.nodes in
    let metadata = string_bytes c.args.merkle_cfg.metadata in
    let e = c.in_err-recovery.field-0.0 in
    err_same _ e _ c.from_residual.ensures.1 (inl (c.in_err-recovery.ensures.refused told))

pub returns-in_err-opened-clause-refused : goal.returns-in_err-opened-clause-refused
returns-in_err-opened-clause-refused g c told =
    let tells = g.V.Volume.tells in
    let s = g.F.Family.shape in
    let h = g.H.Hasher.hash in
    let digest = g.H.Digest.Spelled.spelling in
    let admitted = g.H.Digest.Read.admits tt in
    let spelling = g.C.Item.Spelled.spelling in
    let admits = g.C.Item.Read.admits in
    let says = FnReturnsAt g.P.Fn c.args.predicate in
    let cap = c.args.max_size in
    let s0 = g.V.Volume.state c.args.vol.now in
    let s1 = g.V.Volume.state c.prepare.new.vol in
    let first = g.C.Backing.config c.args.journal_cfg in
    let nodes = string_bytes c.args.merkle_cfg.nodes in
    let metadata = string_bytes c.args.merkle_cfg.metadata in
    let r = c.in_ok-recovery.recovery in
    let did = c.in_ok-recovery.ensures {u = tt} in
    let name : r.items.name ≡ first.name = ap (λ (v : View g.row.C-Item-Cfg.Denot). v.name) did.named.0 in
    let within = did.within told in
    let same : s1.log first.name ≡ s0.log first.name = (did.log told).others.logs first.name c.requires.apart in
    let opens : OpensAt g.row.F.Denot digest admitted s (s0.map metadata) (s0.log nodes) (cap_of (Some r.end)) r.tree.pruned r.tree.tree.leaves = record { boundary = r.tree.boundary; complete = r.tree.complete; opens = did.opens told } in
    let e = c.in_err-opened.field-0.0 in
    let not = seen_items (λ i. NotAligned tells i r.tree.tree.leaves r.end e) spelling admits first r.items s0 s1 did.named.0 same (c.in_err-opened.ensures.refused told within) in
    let reached : (s0.log first.name).start ≤ r.tree.tree.leaves = omega (arith, did.sound.0, within.items.start_is, ap (λ (l : Log). l.start) (ap s1.log name ∙ same)) in
    err_same _ e _ c.from_residual-in_err-opened.ensures.1 (inr (r.end, r.tree.pruned, r.tree.tree.leaves, did.found told, did.sound.1, opens, reached, not))

pub returns-in_err-recovery-clause-names : goal.returns-in_err-recovery-clause-names
returns-in_err-recovery-clause-names g c told =
    let tells = g.V.Volume.tells in
    let s = g.F.Family.shape in
    let h = g.H.Hasher.hash in
    let digest = g.H.Digest.Spelled.spelling in
    let admitted = g.H.Digest.Read.admits tt in
    let spelling = g.C.Item.Spelled.spelling in
    let admits = g.C.Item.Read.admits in
    let says = FnReturnsAt g.P.Fn c.args.predicate in
    let cap = c.args.max_size in
    let s0 = g.V.Volume.state c.args.vol.now in
    let s1 = g.V.Volume.state c.prepare.new.vol in
    let first = g.C.Backing.config c.args.journal_cfg in
    let nodes = string_bytes c.args.merkle_cfg.nodes in
    let metadata = string_bytes c.args.merkle_cfg.metadata in
    let names = two_logs_and_map first.name nodes metadata in
    names_call_log names nodes _ s0 s1 (inr (inl refl)) (c.in_err-recovery.ensures.log told)

pub returns-in_err-opened-clause-names : goal.returns-in_err-opened-clause-names
returns-in_err-opened-clause-names g c told =
    let tells = g.V.Volume.tells in
    let s = g.F.Family.shape in
    let h = g.H.Hasher.hash in
    let digest = g.H.Digest.Spelled.spelling in
    let admitted = g.H.Digest.Read.admits tt in
    let spelling = g.C.Item.Spelled.spelling in
    let admits = g.C.Item.Read.admits in
    let says = FnReturnsAt g.P.Fn c.args.predicate in
    let cap = c.args.max_size in
    let s0 = g.V.Volume.state c.args.vol.now in
    let s1 = g.V.Volume.state c.prepare.new.vol in
    let first = g.C.Backing.config c.args.journal_cfg in
    let nodes = string_bytes c.args.merkle_cfg.nodes in
    let metadata = string_bytes c.args.merkle_cfg.metadata in
    let r = c.in_ok-recovery.recovery in
    let did = c.in_ok-recovery.ensures {u = tt} in
    let name : r.items.name ≡ first.name = ap (λ (v : View g.row.C-Item-Cfg.Denot). v.name) did.named.0 in
    let s2 = g.V.Volume.state c.finish.new.vol in
    let names = two_logs_and_map first.name nodes metadata in
    let call = subst (λ m. NamesCall (two_logs_and_map first.name nodes m) s1 s2) did.named.1.metadata_is (subst (λ n. NamesCall (two_logs_and_map first.name n r.tree.metadata) s1 s2) did.named.1.nodes_is (subst (λ n. NamesCall (two_logs_and_map n r.tree.log.name r.tree.metadata) s1 s2) name (c.in_err-opened.ensures.names told))) in
    names_call_joins names s0 s1 s2 (names_call_log names nodes _ s0 s1 (inr (inl refl)) (did.log told)) call

pub returns-clause-names : goal.returns-clause-names
returns-clause-names g c told =
    let tells = g.V.Volume.tells in
    let s = g.F.Family.shape in
    let h = g.H.Hasher.hash in
    let digest = g.H.Digest.Spelled.spelling in
    let admitted = g.H.Digest.Read.admits tt in
    let spelling = g.C.Item.Spelled.spelling in
    let admits = g.C.Item.Read.admits in
    let says = FnReturnsAt g.P.Fn c.args.predicate in
    let cap = c.args.max_size in
    let s0 = g.V.Volume.state c.args.vol.now in
    let s1 = g.V.Volume.state c.prepare.new.vol in
    let first = g.C.Backing.config c.args.journal_cfg in
    let nodes = string_bytes c.args.merkle_cfg.nodes in
    let metadata = string_bytes c.args.merkle_cfg.metadata in
    let r = c.in_ok-recovery.recovery in
    let did = c.in_ok-recovery.ensures {u = tt} in
    let name : r.items.name ≡ first.name = ap (λ (v : View g.row.C-Item-Cfg.Denot). v.name) did.named.0 in
    let s2 = g.V.Volume.state c.finish.new.vol in
    let t = c.in_ok-opened.opened in
    let did_finish = c.in_ok-opened.ensures {u = tt} in
    let from = did_finish.from in
    let names = two_logs_and_map first.name nodes metadata in
    let call = subst (λ m. NamesCall (two_logs_and_map first.name nodes m) s1 s2) did.named.1.metadata_is (subst (λ n. NamesCall (two_logs_and_map first.name n r.tree.metadata) s1 s2) did.named.1.nodes_is (subst (λ n. NamesCall (two_logs_and_map n r.tree.log.name r.tree.metadata) s1 s2) name (did_finish.names told))) in
    names_call_joins names s0 s1 s2 (names_call_log names nodes _ s0 s1 (inr (inl refl)) (did.log told)) call

pub returns-in_err-recovery-clause-log : goal.returns-in_err-recovery-clause-log
returns-in_err-recovery-clause-log g c told =
    let says = FnReturnsAt g.P.Fn c.args.predicate in
    let cap = c.args.max_size in
    let s0 = g.V.Volume.state c.args.vol.now in
    let s1 = g.V.Volume.state c.prepare.new.vol in
    let first = g.C.Backing.config c.args.journal_cfg in
    let nodes = string_bytes c.args.merkle_cfg.nodes in
    let items = items_of g.C.Item.Spelled.spelling g.C.Item.Read.admits first s0 in
    let step = ShrinksToEnd items says cap in
    log_stays_log nodes first.name _ (Follows (s0.log_left s0.clock first.name) step) s0 s1 (c.in_err-recovery.ensures.log told).images c.requires.apart (λ log left. (log, left, inl refl))

pub returns-in_err-opened-clause-log : goal.returns-in_err-opened-clause-log
returns-in_err-opened-clause-log g c told =
    let says = FnReturnsAt g.P.Fn c.args.predicate in
    let cap = c.args.max_size in
    let s0 = g.V.Volume.state c.args.vol.now in
    let s1 = g.V.Volume.state c.prepare.new.vol in
    let first = g.C.Backing.config c.args.journal_cfg in
    let nodes = string_bytes c.args.merkle_cfg.nodes in
    let items = items_of g.C.Item.Spelled.spelling g.C.Item.Read.admits first s0 in
    let step = ShrinksToEnd items says cap in
    let r = c.in_ok-recovery.recovery in
    let did = c.in_ok-recovery.ensures {u = tt} in
    let name : r.items.name ≡ first.name = ap (λ (v : View g.row.C-Item-Cfg.Denot). v.name) did.named.0 in
    let s2 = g.V.Volume.state c.finish.new.vol in
    let keeps = subst (λ n. LogKeeps n (Follows (s1.log_left s1.clock n) (Shrinks r.end)) s1 s2) name (c.in_err-opened.ensures.log told (did.within told)) in
    keeps_behind first.name nodes _ (Shrinks r.end) step s0 s1 s2 c.requires.apart (did.log told) keeps (λ log. inl refl) (λ old new shrinks. inr (r.end, did.found told, shrinks))

pub returns-clause-log : goal.returns-clause-log
returns-clause-log g c told =
    let says = FnReturnsAt g.P.Fn c.args.predicate in
    let cap = c.args.max_size in
    let s0 = g.V.Volume.state c.args.vol.now in
    let s1 = g.V.Volume.state c.prepare.new.vol in
    let first = g.C.Backing.config c.args.journal_cfg in
    let nodes = string_bytes c.args.merkle_cfg.nodes in
    let items = items_of g.C.Item.Spelled.spelling g.C.Item.Read.admits first s0 in
    let step = ShrinksToEnd items says cap in
    let r = c.in_ok-recovery.recovery in
    let did = c.in_ok-recovery.ensures {u = tt} in
    let name : r.items.name ≡ first.name = ap (λ (v : View g.row.C-Item-Cfg.Denot). v.name) did.named.0 in
    let s2 = g.V.Volume.state c.finish.new.vol in
    let keeps = subst (λ n. LogKeeps n (Follows (s1.log_left s1.clock n) (Shrinks r.end)) s1 s2) name ((c.in_ok-opened.ensures {u = tt}).log told (did.within told)) in
    keeps_behind first.name nodes _ (Shrinks r.end) step s0 s1 s2 c.requires.apart (did.log told) keeps (λ log. inl refl) (λ old new shrinks. inr (r.end, did.found told, shrinks))

pub returns-in_err-opened-clause-changes : goal.returns-in_err-opened-clause-changes
returns-in_err-opened-clause-changes g c =
    let tells = g.V.Volume.tells in
    let s = g.F.Family.shape in
    let h = g.H.Hasher.hash in
    let digest = g.H.Digest.Spelled.spelling in
    let admitted = g.H.Digest.Read.admits tt in
    let spelling = g.C.Item.Spelled.spelling in
    let admits = g.C.Item.Read.admits in
    let says = FnReturnsAt g.P.Fn c.args.predicate in
    let cap = c.args.max_size in
    let s0 = g.V.Volume.state c.args.vol.now in
    let s1 = g.V.Volume.state c.prepare.new.vol in
    let first = g.C.Backing.config c.args.journal_cfg in
    let nodes = string_bytes c.args.merkle_cfg.nodes in
    let metadata = string_bytes c.args.merkle_cfg.metadata in
    let r = c.in_ok-recovery.recovery in
    let did = c.in_ok-recovery.ensures {u = tt} in
    let name : r.items.name ≡ first.name = ap (λ (v : View g.row.C-Item-Cfg.Denot). v.name) did.named.0 in
    changes_same tells _ _ _ c.in_err-opened.field-0.0 _ c.from_residual-in_err-opened.ensures.1 (went_of tells joined.Volume _ _ r did.changes) c.in_err-opened.ensures.changes

pub returns-clause-changes : goal.returns-clause-changes
returns-clause-changes g c =
    let tells = g.V.Volume.tells in
    let s = g.F.Family.shape in
    let h = g.H.Hasher.hash in
    let digest = g.H.Digest.Spelled.spelling in
    let admitted = g.H.Digest.Read.admits tt in
    let spelling = g.C.Item.Spelled.spelling in
    let admits = g.C.Item.Read.admits in
    let says = FnReturnsAt g.P.Fn c.args.predicate in
    let cap = c.args.max_size in
    let s0 = g.V.Volume.state c.args.vol.now in
    let s1 = g.V.Volume.state c.prepare.new.vol in
    let first = g.C.Backing.config c.args.journal_cfg in
    let nodes = string_bytes c.args.merkle_cfg.nodes in
    let metadata = string_bytes c.args.merkle_cfg.metadata in
    let r = c.in_ok-recovery.recovery in
    let did = c.in_ok-recovery.ensures {u = tt} in
    let name : r.items.name ≡ first.name = ap (λ (v : View g.row.C-Item-Cfg.Denot). v.name) did.named.0 in
    let s2 = g.V.Volume.state c.finish.new.vol in
    let t = c.in_ok-opened.opened in
    let did_finish = c.in_ok-opened.ensures {u = tt} in
    let from = did_finish.from in
    changes_joins tells joined.Volume joined.Volume _ _ _ (Ok t) (Ok t) (went_of tells joined.Volume _ _ r did.changes) did_finish.changes (λ is. absurd cc) did_finish.changes.kept

pub returns-in_err-recovery-clause-images : goal.returns-in_err-recovery-clause-images
returns-in_err-recovery-clause-images g c told list rest marks low run long has =
    let s = g.F.Family.shape in
    let h = g.H.Hasher.hash in
    let digest = g.H.Digest.Spelled.spelling in
    let admitted = g.H.Digest.Read.admits tt in
    let spelling = g.C.Item.Spelled.spelling in
    let s0 = g.V.Volume.state c.args.vol.now in
    let s1 = g.V.Volume.state c.prepare.new.vol in
    let first = g.C.Backing.config c.args.journal_cfg in
    let nodes = string_bytes c.args.merkle_cfg.nodes in
    let metadata = string_bytes c.args.merkle_cfg.metadata in
    let now = g.met.V.Volume.contents_left c.args.vol.now told in
    let stands = (has (present s0) (names_of_image (two_logs_and_map first.name nodes metadata) s0 s0.clock (present s0) now)).tree in
    let whole = list ++ rest in
    let all = leaves_of s h spelling whole in
    let Left = NamesLeft (two_logs_and_map first.name nodes metadata) in
    let Stands = NamesStand s h digest spelling whole marks first.name nodes metadata in
    let did = c.in_err-recovery.ensures in
    let clock = did.still told (λ stored is. kept_standing s h digest all marks.node_durable (s0.log first.name).start (s0.log nodes) (s0.map metadata) stored stands is) in
    keeps_idle Left (names_back (two_logs_and_map first.name nodes metadata)) Stands s0 s1 clock (did.log told).images.past has

pub returns-in_err-opened-clause-images : goal.returns-in_err-opened-clause-images
returns-in_err-opened-clause-images g c told list rest marks low run long has =
    let s = g.F.Family.shape in
    let h = g.H.Hasher.hash in
    let digest = g.H.Digest.Spelled.spelling in
    let admitted = g.H.Digest.Read.admits tt in
    let spelling = g.C.Item.Spelled.spelling in
    let s0 = g.V.Volume.state c.args.vol.now in
    let s1 = g.V.Volume.state c.prepare.new.vol in
    let first = g.C.Backing.config c.args.journal_cfg in
    let nodes = string_bytes c.args.merkle_cfg.nodes in
    let metadata = string_bytes c.args.merkle_cfg.metadata in
    let now = g.met.V.Volume.contents_left c.args.vol.now told in
    let stands = (has (present s0) (names_of_image (two_logs_and_map first.name nodes metadata) s0 s0.clock (present s0) now)).tree in
    let whole = list ++ rest in
    let all = leaves_of s h spelling whole in
    let Left = NamesLeft (two_logs_and_map first.name nodes metadata) in
    let Stands = NamesStand s h digest spelling whole marks first.name nodes metadata in
    let did = c.in_ok-recovery.ensures {u = tt} in
    let clock = did.still told (λ stored is. kept_standing s h digest all marks.node_durable (s0.log first.name).start (s0.log nodes) (s0.map metadata) stored stands is) in
    let ab = keeps_idle Left (names_back (two_logs_and_map first.name nodes metadata)) Stands s0 s1 clock (did.log told).images.past has in
    let r = c.in_ok-recovery.recovery in
    let s2 = g.V.Volume.state c.finish.new.vol in
    let name : r.items.name ≡ first.name = ap (λ (v : View g.row.C-Item-Cfg.Denot). v.name) did.named.0 in
    let same : s1.log first.name ≡ s0.log first.name = (did.log told).others.logs first.name c.requires.apart in
    let ready = did.within told in
    let here = subst (λ (l : Log). Spells spelling list l) (sym (ap s1.log name ∙ same)) run in
    let ends = low r.end (did.found told) in
    let few : marks.node_durable ≤ cap_of (Some r.end) = omega (arith, ends.1, did.sound.1) in
    let fits = durable_fits g.row.F.Denot s h digest admitted all marks.node_durable (s0.log first.name).start (s0.log nodes) (s0.map metadata) (cap_of (Some r.end)) r.tree.boundary r.tree.complete r.tree.pruned r.tree.tree.leaves stands (did.opens told) few in
    let of = did.list told whole marks.node_durable (s0.log first.name).start stands in
    let step = c.in_err-opened.ensures.images told list rest marks ready here long of ends.0 fits in
    let bc = subst (λ n. NamesKeepStanding s h digest spelling whole marks n nodes metadata s1 s2) name
    (subst (λ n. NamesKeepStanding s h digest spelling whole marks r.items.name n metadata s1 s2) did.named.1.nodes_is
    (subst (λ n. NamesKeepStanding s h digest spelling whole marks r.items.name r.tree.log.name n s1 s2) did.named.1.metadata_is step)) in
    keeps_joins Left (names_back (two_logs_and_map first.name nodes metadata)) Stands s0 s1 s2 ab (bc (now_after Left Stands s0 s1 ab))

pub returns-clause-images : goal.returns-clause-images
returns-clause-images g c told list rest marks low run long has =
    let s = g.F.Family.shape in
    let h = g.H.Hasher.hash in
    let digest = g.H.Digest.Spelled.spelling in
    let admitted = g.H.Digest.Read.admits tt in
    let spelling = g.C.Item.Spelled.spelling in
    let s0 = g.V.Volume.state c.args.vol.now in
    let s1 = g.V.Volume.state c.prepare.new.vol in
    let first = g.C.Backing.config c.args.journal_cfg in
    let nodes = string_bytes c.args.merkle_cfg.nodes in
    let metadata = string_bytes c.args.merkle_cfg.metadata in
    let now = g.met.V.Volume.contents_left c.args.vol.now told in
    let stands = (has (present s0) (names_of_image (two_logs_and_map first.name nodes metadata) s0 s0.clock (present s0) now)).tree in
    let whole = list ++ rest in
    let all = leaves_of s h spelling whole in
    let Left = NamesLeft (two_logs_and_map first.name nodes metadata) in
    let Stands = NamesStand s h digest spelling whole marks first.name nodes metadata in
    let did = c.in_ok-recovery.ensures {u = tt} in
    let clock = did.still told (λ stored is. kept_standing s h digest all marks.node_durable (s0.log first.name).start (s0.log nodes) (s0.map metadata) stored stands is) in
    let ab = keeps_idle Left (names_back (two_logs_and_map first.name nodes metadata)) Stands s0 s1 clock (did.log told).images.past has in
    let r = c.in_ok-recovery.recovery in
    let s2 = g.V.Volume.state c.finish.new.vol in
    let name : r.items.name ≡ first.name = ap (λ (v : View g.row.C-Item-Cfg.Denot). v.name) did.named.0 in
    let same : s1.log first.name ≡ s0.log first.name = (did.log told).others.logs first.name c.requires.apart in
    let ready = did.within told in
    let here = subst (λ (l : Log). Spells spelling list l) (sym (ap s1.log name ∙ same)) run in
    let ends = low r.end (did.found told) in
    let few : marks.node_durable ≤ cap_of (Some r.end) = omega (arith, ends.1, did.sound.1) in
    let fits = durable_fits g.row.F.Denot s h digest admitted all marks.node_durable (s0.log first.name).start (s0.log nodes) (s0.map metadata) (cap_of (Some r.end)) r.tree.boundary r.tree.complete r.tree.pruned r.tree.tree.leaves stands (did.opens told) few in
    let of = did.list told whole marks.node_durable (s0.log first.name).start stands in
    let step = (c.in_ok-opened.ensures {u = tt}).images told list rest marks ready here long of ends.0 fits in
    let bc = subst (λ n. NamesKeepStanding s h digest spelling whole marks n nodes metadata s1 s2) name
    (subst (λ n. NamesKeepStanding s h digest spelling whole marks r.items.name n metadata s1 s2) did.named.1.nodes_is
    (subst (λ n. NamesKeepStanding s h digest spelling whole marks r.items.name r.tree.log.name n s1 s2) did.named.1.metadata_is step)) in
    keeps_joins Left (names_back (two_logs_and_map first.name nodes metadata)) Stands s0 s1 s2 ab (bc (now_after Left Stands s0 s1 ab))

pub returns-in_err-recovery-clause-lifted : goal.returns-in_err-recovery-clause-lifted
returns-in_err-recovery-clause-lifted g c =
    let e = c.in_err-recovery.field-0.0 in
    err_same _ e IsLifted c.from_residual.ensures.1 c.in_err-recovery.ensures.lifted

pub returns-in_err-opened-clause-lifted : goal.returns-in_err-opened-clause-lifted
returns-in_err-opened-clause-lifted g c =
    let e = c.in_err-opened.field-0.0 in
    err_same _ e IsLifted c.from_residual-in_err-opened.ensures.1 c.in_err-opened.ensures.lifted

pub returns-clause-settled : goal.returns-clause-settled
returns-clause-settled g c told list rest marks low run long has =
    let s = g.F.Family.shape in
    let h = g.H.Hasher.hash in
    let digest = g.H.Digest.Spelled.spelling in
    let spelling = g.C.Item.Spelled.spelling in
    let s0 = g.V.Volume.state c.args.vol.now in
    let s2 = g.V.Volume.state c.finish.new.vol in
    let first = g.C.Backing.config c.args.journal_cfg in
    let nodes = string_bytes c.args.merkle_cfg.nodes in
    let metadata = string_bytes c.args.merkle_cfg.metadata in
    let names = two_logs_and_map first.name nodes metadata in
    let longer = list ++ rest in
    let stands = (has (present s0) (names_of_image names s0 s0.clock (present s0) (g.met.V.Volume.contents_left c.args.vol.now told))).tree in
    let here = now_after (NamesLeft names) (NamesStand s h digest spelling longer marks first.name nodes metadata) s0 s2 (returns-clause-images g c told list rest marks low run long has) in
    let t = c.in_ok-opened.opened in
    let start = (s0.log first.name).start in
    let joined = returns-clause-joined g c told list rest marks.node_durable start run long stands in
    let durable = returns-clause-durable g c told in
    let whole = opened_settled s h digest (g.H.Digest.Read.admits tt) spelling list rest marks t s2 g.met.F.Family.lawful (c.in_ok-opened.ensures {u = tt}).rests (returns-clause-whole g c) joined durable.0 durable.1 in
    let is = returns-clause-tree_named g c in
    renamed_settles s h digest spelling longer t.items.end marks t.items.name t.tree.log.name t.tree.metadata first.name nodes metadata s2
    (ap (λ (v : View g.row.C-Item-Cfg.Denot). v.name) (returns-clause-named g c).0) is.0 is.2 whole here
