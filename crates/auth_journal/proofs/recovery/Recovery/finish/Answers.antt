use Rattle.std.proofs.Common.{◌≡◌, ◌≢◌, ◌≤◌, ◌^◌, ◌++◌, inl, ℕ, List, Ok, Err, max, take, drop, length, map, false, refl, sym, ◌∙◌, ap, subst, arith}
use Rattle.volume_base.specs.Log.{Log, Shrinks, end_of, cut_to}
use Rattle.volume_base.specs.Moments.{present, LogKeeps, NamesLeft, Now}
use Rattle.volume_base.specs.Names.{log_alone, two_logs_and_map, NamesCall}
use Rattle.volume_base.specs.Volume.{Map, Follows, OnlyLeft}
use Rattle.volume_base.specs.declared.error.JournalError.TheVariants as journal
use Rattle.volume_base.proofs.CallLemmas.{names_call_log, names_call_joins}
use Rattle.volume_base.proofs.JoinLemmas.{went_of_writes, went_joins, changes_of_writes, changes_joins}
use Rattle.volume_base.proofs.NameLemmas.{durable_after, names_of_image}
use Rattle.journal_base.specs.Blobs.{blob_start}
use Rattle.journal_base.specs.Items.{items_of, Spells}
use Rattle.journal_base.specs.View.{View, SameButBounds, IsHeld, log_of, at_bounds}
use Rattle.tree_core.specs.Tree.{IsOf}
use Rattle.tree_store.specs.Stored.{TreeStands, size}
use Rattle.tree_store.specs.declared.error.Error.TheVariants as tree
use Rattle.volume_base.proofs.TurnLemmas.{now_after}
use Rattle.merkle_full.specs.Flushing.{AllStand, AllKeepStanding}
use Rattle.merkle_full.proofs.GrownLemmas.{err_same}
use Rattle.merkle_full.proofs.SettleLemmas.{end_cut}
use Rattle.auth_journal.specs.Aligning.{NotAligned}
use Rattle.auth_journal.specs.Joined.{Joined, IsJoinedOf, leaves_of}
use Rattle.auth_journal.specs.Opening.{Readied, IsSoundReady, IsReadyIn, IsOpenedFrom, StandsWhileOpened}
use Rattle.auth_journal.specs.Reading.{AreReadable}
use Rattle.auth_journal.specs.Standing.{NamesStand, all_synced}
use Rattle.auth_journal.specs.declared.error.Error.TheVariants as joined
use Rattle.auth_journal.proofs.AlignLemmas.{outside_above, changes_above, changes_same}
use Rattle.auth_journal.proofs.LeafLemmas.{all_digests, length-leaves_of}
use Rattle.merkle_full.specs.Lists.{IsFullOf}
use Rattle.auth_journal.proofs.OpenedLemmas.{Left, Stands, opened_as, cut_keeps, opened_keeps, caught_keeps, named_keeps, cut_at, leaves_split}
use Rattle.auth_journal.proofs.ReadingLemmas.{run_end}
use Rattle.auth_journal.proofs.SettledLemmas.{opened_settled, renamed_settles}
use Rattle.auth_journal.proofs.StandingLemmas.{tree_beside}
use Rattle.auth_journal.proofs.OpeningLemmas.{prepared_later, start_not, aligned_cut, readable_cut, names_of_tree, names_of_nodes, log_keeps_beside, keeps_cut, finish_joined, leaves_ahead, leaves_take}
use Rattle.auth_journal.specs.Errors.{from_journal, from_tree, IsLifted}
use Rattle.auth_journal.proofs.DurableLemmas.{err_and}
use Rattle.auth_journal.proofs.OpenedLemmas.{log_lifted, tree_lifted}
use Rattle.auth_journal.proofs.recovery.Recovery.finish.Goals as goal

pub returns-clause-from : goal.returns-clause-from
returns-clause-from g c =
    let tells = g.V.Volume.tells in
    let spelling = g.C.Item.Spelled.spelling in
    let s0 = g.V.Volume.state c.args.vol.now in
    let r : Readied g.row.H-Digest.Denot g.row.C-Item-Cfg.Denot = record { items = g.C.Recovery.BackingRecovery.view c.self.inside.journal; end = c.self.inside.end; tree = c.self.inside.merkle; bagging = c.self.inside.hasher } in
    let sound : IsSoundReady r = c.self.invariant in
    let s1 = g.V.Volume.state c.finish.new.vol in
    let cut = c.in_ok-journal.ensures {u = tt} in
    let opened_is = g.met.C.Backing.opened_is c.in_ok-journal.journal in
    let items = g.C.Contiguous.view c.in_ok-journal.journal in
    let items_is : SameButBounds r.items items = subst (λ (v : View g.row.C-Item-Cfg.Denot). SameButBounds r.items v) opened_is cut.made in
    let name : items.name ≡ r.items.name = ap (λ (v : View g.row.C-Item-Cfg.Denot). v.name) items_is in
    let s2 = g.V.Volume.state c.finish-2.new.vol in
    let t = c.in_ok-opened.opened in
    let opened = c.in_ok-opened.ensures {u = tt} in
    let node : t.log.name ≡ r.tree.log.name = ap (λ (v : View (Unit {0})). v.name) opened.from.log in
    let apart : items.name ≢ r.tree.log.name = λ e. sound.apart (sym name ∙ e) in
    let s3 = g.V.Volume.state c.catch_up.new.vol in
    let u = c.in_ok-merkle.merkle in
    let caught = c.in_ok-merkle.ensures {u = tt} in
    let j : Joined g.row.H-Digest.Denot g.row.C-Item-Cfg.Denot = record { items = items; tree = u; bagging = c.self.inside.hasher; failed = false } in
    let from : IsOpenedFrom r j = record {
      items = items_is;
      log = caught.aligned.log ∙ ap (λ (v : View (Unit {0})). at_bounds v u.log.start u.log.end) opened.from.log;
      boundary = caught.aligned.boundary ∙ opened.from.boundary;
      metadata = caught.aligned.metadata ∙ opened.from.metadata;
      bagging = refl;
      failed = refl;
    } in
    subst (λ (v : Readied g.row.H-Digest.Denot g.row.C-Item-Cfg.Denot). IsOpenedFrom v j) c.self.view_is from

pub invariant_of-result : goal.invariant_of-result
invariant_of-result g c =
    let tells = g.V.Volume.tells in
    let spelling = g.C.Item.Spelled.spelling in
    let s0 = g.V.Volume.state c.args.vol.now in
    let r : Readied g.row.H-Digest.Denot g.row.C-Item-Cfg.Denot = record { items = g.C.Recovery.BackingRecovery.view c.self.inside.journal; end = c.self.inside.end; tree = c.self.inside.merkle; bagging = c.self.inside.hasher } in
    let sound : IsSoundReady r = c.self.invariant in
    let s1 = g.V.Volume.state c.finish.new.vol in
    let cut = c.in_ok-journal.ensures {u = tt} in
    let opened_is = g.met.C.Backing.opened_is c.in_ok-journal.journal in
    let items = g.C.Contiguous.view c.in_ok-journal.journal in
    let items_is : SameButBounds r.items items = subst (λ (v : View g.row.C-Item-Cfg.Denot). SameButBounds r.items v) opened_is cut.made in
    let name : items.name ≡ r.items.name = ap (λ (v : View g.row.C-Item-Cfg.Denot). v.name) items_is in
    let s2 = g.V.Volume.state c.finish-2.new.vol in
    let t = c.in_ok-opened.opened in
    let opened = c.in_ok-opened.ensures {u = tt} in
    let node : t.log.name ≡ r.tree.log.name = ap (λ (v : View (Unit {0})). v.name) opened.from.log in
    let apart : items.name ≢ r.tree.log.name = λ e. sound.apart (sym name ∙ e) in
    let s3 = g.V.Volume.state c.catch_up.new.vol in
    let u = c.in_ok-merkle.merkle in
    let caught = c.in_ok-merkle.ensures {u = tt} in
    let j : Joined g.row.H-Digest.Denot g.row.C-Item-Cfg.Denot = record { items = items; tree = u; bagging = c.self.inside.hasher; failed = false } in
    record {
      apart = λ e. apart (e ∙ ap (λ (v : View (Unit {0})). v.name) caught.aligned.log ∙ node);
      items = λ kept. ap (λ (v : View g.row.C-Item-Cfg.Denot). v.failed) items_is ∙ sound.kept;
      tree = λ kept. ap (λ (v : View (Unit {0})). v.failed) caught.aligned.log ∙ opened.fresh;
    }

pub returns-clause-reached : goal.returns-clause-reached
returns-clause-reached g c told held =
    let tells = g.V.Volume.tells in
    let spelling = g.C.Item.Spelled.spelling in
    let s0 = g.V.Volume.state c.args.vol.now in
    let r : Readied g.row.H-Digest.Denot g.row.C-Item-Cfg.Denot = record { items = g.C.Recovery.BackingRecovery.view c.self.inside.journal; end = c.self.inside.end; tree = c.self.inside.merkle; bagging = c.self.inside.hasher } in
    let sound : IsSoundReady r = c.self.invariant in
    let s1 = g.V.Volume.state c.finish.new.vol in
    let cut = c.in_ok-journal.ensures {u = tt} in
    let opened_is = g.met.C.Backing.opened_is c.in_ok-journal.journal in
    let items = g.C.Contiguous.view c.in_ok-journal.journal in
    let items_is : SameButBounds r.items items = subst (λ (v : View g.row.C-Item-Cfg.Denot). SameButBounds r.items v) opened_is cut.made in
    let name : items.name ≡ r.items.name = ap (λ (v : View g.row.C-Item-Cfg.Denot). v.name) items_is in
    let s2 = g.V.Volume.state c.finish-2.new.vol in
    let t = c.in_ok-opened.opened in
    let opened = c.in_ok-opened.ensures {u = tt} in
    let node : t.log.name ≡ r.tree.log.name = ap (λ (v : View (Unit {0})). v.name) opened.from.log in
    let apart : items.name ≢ r.tree.log.name = λ e. sound.apart (sym name ∙ e) in
    let s3 = g.V.Volume.state c.catch_up.new.vol in
    let u = c.in_ok-merkle.merkle in
    let caught = c.in_ok-merkle.ensures {u = tt} in
    let j : Joined g.row.H-Digest.Denot g.row.C-Item-Cfg.Denot = record { items = items; tree = u; bagging = c.self.inside.hasher; failed = false } in
    let ready : IsReadyIn r s0 = subst (λ (v : Readied g.row.H-Digest.Denot g.row.C-Item-Cfg.Denot). IsReadyIn v s0) (sym c.self.view_is) held in
    let low : (log_of r.items s0).start ≤ r.end = omega (arith, sound.reached, ready.items.start_is) in
    let high : r.end ≤ end_of (log_of r.items s0) = omega (arith, sound.within, ready.items.end_is) in
    let held_one : IsHeld items s1 = subst (λ (v : View g.row.C-Item-Cfg.Denot). IsHeld v s1) opened_is (cut.held told) in
    let ends : items.end ≡ r.end = held_one.end_is ∙ ap (λ n. end_of (s1.log n)) name ∙ ap end_of (cut.cut told) ∙ end_cut (log_of r.items s0) r.end low high in
    let leaves : u.tree.leaves ≡ r.end = omega (arith, caught.aligned.leaves, opened.from.leaves, ready.high) in
    subst (λ (v : Readied g.row.H-Digest.Denot g.row.C-Item-Cfg.Denot). (items.end ≡ v.end) × (u.tree.leaves ≡ v.end)) c.self.view_is (ends, leaves)

pub returns-clause-held : goal.returns-clause-held
returns-clause-held g c told =
    let tells = g.V.Volume.tells in
    let spelling = g.C.Item.Spelled.spelling in
    let s0 = g.V.Volume.state c.args.vol.now in
    let r : Readied g.row.H-Digest.Denot g.row.C-Item-Cfg.Denot = record { items = g.C.Recovery.BackingRecovery.view c.self.inside.journal; end = c.self.inside.end; tree = c.self.inside.merkle; bagging = c.self.inside.hasher } in
    let sound : IsSoundReady r = c.self.invariant in
    let s1 = g.V.Volume.state c.finish.new.vol in
    let cut = c.in_ok-journal.ensures {u = tt} in
    let opened_is = g.met.C.Backing.opened_is c.in_ok-journal.journal in
    let items = g.C.Contiguous.view c.in_ok-journal.journal in
    let items_is : SameButBounds r.items items = subst (λ (v : View g.row.C-Item-Cfg.Denot). SameButBounds r.items v) opened_is cut.made in
    let name : items.name ≡ r.items.name = ap (λ (v : View g.row.C-Item-Cfg.Denot). v.name) items_is in
    let s2 = g.V.Volume.state c.finish-2.new.vol in
    let t = c.in_ok-opened.opened in
    let opened = c.in_ok-opened.ensures {u = tt} in
    let node : t.log.name ≡ r.tree.log.name = ap (λ (v : View (Unit {0})). v.name) opened.from.log in
    let apart : items.name ≢ r.tree.log.name = λ e. sound.apart (sym name ∙ e) in
    let s3 = g.V.Volume.state c.catch_up.new.vol in
    let u = c.in_ok-merkle.merkle in
    let caught = c.in_ok-merkle.ensures {u = tt} in
    let j : Joined g.row.H-Digest.Denot g.row.C-Item-Cfg.Denot = record { items = items; tree = u; bagging = c.self.inside.hasher; failed = false } in
    let held_one : IsHeld items s1 = subst (λ (v : View g.row.C-Item-Cfg.Denot). IsHeld v s1) opened_is (cut.held told) in
    let second = (opened.names told).others.logs items.name (apart, tt) in
    let third = (caught.names told).others.logs items.name ((λ e. apart (e ∙ node)), tt) in
    let at = third ∙ second in
    record { start_is = held_one.start_is ∙ ap (λ (l : Log). l.start) (sym at); end_is = held_one.end_is ∙ ap end_of (sym at) }

pub returns-clause-cut : goal.returns-clause-cut
returns-clause-cut g c told =
    let tells = g.V.Volume.tells in
    let spelling = g.C.Item.Spelled.spelling in
    let s0 = g.V.Volume.state c.args.vol.now in
    let r : Readied g.row.H-Digest.Denot g.row.C-Item-Cfg.Denot = record { items = g.C.Recovery.BackingRecovery.view c.self.inside.journal; end = c.self.inside.end; tree = c.self.inside.merkle; bagging = c.self.inside.hasher } in
    let sound : IsSoundReady r = c.self.invariant in
    let s1 = g.V.Volume.state c.finish.new.vol in
    let cut = c.in_ok-journal.ensures {u = tt} in
    let opened_is = g.met.C.Backing.opened_is c.in_ok-journal.journal in
    let items = g.C.Contiguous.view c.in_ok-journal.journal in
    let items_is : SameButBounds r.items items = subst (λ (v : View g.row.C-Item-Cfg.Denot). SameButBounds r.items v) opened_is cut.made in
    let name : items.name ≡ r.items.name = ap (λ (v : View g.row.C-Item-Cfg.Denot). v.name) items_is in
    let s2 = g.V.Volume.state c.finish-2.new.vol in
    let t = c.in_ok-opened.opened in
    let opened = c.in_ok-opened.ensures {u = tt} in
    let node : t.log.name ≡ r.tree.log.name = ap (λ (v : View (Unit {0})). v.name) opened.from.log in
    let apart : items.name ≢ r.tree.log.name = λ e. sound.apart (sym name ∙ e) in
    let s3 = g.V.Volume.state c.catch_up.new.vol in
    let u = c.in_ok-merkle.merkle in
    let caught = c.in_ok-merkle.ensures {u = tt} in
    let j : Joined g.row.H-Digest.Denot g.row.C-Item-Cfg.Denot = record { items = items; tree = u; bagging = c.self.inside.hasher; failed = false } in
    let second = (opened.names told).others.logs items.name (apart, tt) in
    let third = (caught.names told).others.logs items.name ((λ e. apart (e ∙ node)), tt) in
    let here : s3.log r.items.name ≡ cut_to (s0.log r.items.name) r.end = sym (ap s3.log name) ∙ third ∙ second ∙ ap s1.log name ∙ cut.cut told in
    subst (λ (v : Readied g.row.H-Digest.Denot g.row.C-Item-Cfg.Denot). log_of v.items s3 ≡ cut_to (log_of v.items s0) v.end) c.self.view_is here

pub returns-clause-seated : goal.returns-clause-seated
returns-clause-seated g c told held =
    let tells = g.V.Volume.tells in
    let spelling = g.C.Item.Spelled.spelling in
    let s0 = g.V.Volume.state c.args.vol.now in
    let r : Readied g.row.H-Digest.Denot g.row.C-Item-Cfg.Denot = record { items = g.C.Recovery.BackingRecovery.view c.self.inside.journal; end = c.self.inside.end; tree = c.self.inside.merkle; bagging = c.self.inside.hasher } in
    let sound : IsSoundReady r = c.self.invariant in
    let s1 = g.V.Volume.state c.finish.new.vol in
    let cut = c.in_ok-journal.ensures {u = tt} in
    let opened_is = g.met.C.Backing.opened_is c.in_ok-journal.journal in
    let items = g.C.Contiguous.view c.in_ok-journal.journal in
    let items_is : SameButBounds r.items items = subst (λ (v : View g.row.C-Item-Cfg.Denot). SameButBounds r.items v) opened_is cut.made in
    let name : items.name ≡ r.items.name = ap (λ (v : View g.row.C-Item-Cfg.Denot). v.name) items_is in
    let s2 = g.V.Volume.state c.finish-2.new.vol in
    let t = c.in_ok-opened.opened in
    let opened = c.in_ok-opened.ensures {u = tt} in
    let node : t.log.name ≡ r.tree.log.name = ap (λ (v : View (Unit {0})). v.name) opened.from.log in
    let apart : items.name ≢ r.tree.log.name = λ e. sound.apart (sym name ∙ e) in
    let s3 = g.V.Volume.state c.catch_up.new.vol in
    let u = c.in_ok-merkle.merkle in
    let caught = c.in_ok-merkle.ensures {u = tt} in
    let j : Joined g.row.H-Digest.Denot g.row.C-Item-Cfg.Denot = record { items = items; tree = u; bagging = c.self.inside.hasher; failed = false } in
    let ready : IsReadyIn r s0 = subst (λ (v : Readied g.row.H-Digest.Denot g.row.C-Item-Cfg.Denot). IsReadyIn v s0) (sym c.self.view_is) held in
    let prepared = prepared_later r.tree s0 s1 ((cut.call.log told).others.logs r.tree.log.name (λ e. sound.apart (sym e))) ((cut.call.log told).others.maps r.tree.metadata) ready.tree in
    caught.seated told (opened.seated told prepared)

pub returns-clause-map : goal.returns-clause-map
returns-clause-map g c told held =
    let tells = g.V.Volume.tells in
    let spelling = g.C.Item.Spelled.spelling in
    let s0 = g.V.Volume.state c.args.vol.now in
    let r : Readied g.row.H-Digest.Denot g.row.C-Item-Cfg.Denot = record { items = g.C.Recovery.BackingRecovery.view c.self.inside.journal; end = c.self.inside.end; tree = c.self.inside.merkle; bagging = c.self.inside.hasher } in
    let sound : IsSoundReady r = c.self.invariant in
    let s1 = g.V.Volume.state c.finish.new.vol in
    let cut = c.in_ok-journal.ensures {u = tt} in
    let opened_is = g.met.C.Backing.opened_is c.in_ok-journal.journal in
    let items = g.C.Contiguous.view c.in_ok-journal.journal in
    let items_is : SameButBounds r.items items = subst (λ (v : View g.row.C-Item-Cfg.Denot). SameButBounds r.items v) opened_is cut.made in
    let name : items.name ≡ r.items.name = ap (λ (v : View g.row.C-Item-Cfg.Denot). v.name) items_is in
    let s2 = g.V.Volume.state c.finish-2.new.vol in
    let t = c.in_ok-opened.opened in
    let opened = c.in_ok-opened.ensures {u = tt} in
    let node : t.log.name ≡ r.tree.log.name = ap (λ (v : View (Unit {0})). v.name) opened.from.log in
    let apart : items.name ≢ r.tree.log.name = λ e. sound.apart (sym name ∙ e) in
    let s3 = g.V.Volume.state c.catch_up.new.vol in
    let u = c.in_ok-merkle.merkle in
    let caught = c.in_ok-merkle.ensures {u = tt} in
    let j : Joined g.row.H-Digest.Denot g.row.C-Item-Cfg.Denot = record { items = items; tree = u; bagging = c.self.inside.hasher; failed = false } in
    let ready : IsReadyIn r s0 = subst (λ (v : Readied g.row.H-Digest.Denot g.row.C-Item-Cfg.Denot). IsReadyIn v s0) (sym c.self.view_is) held in
    let prepared = prepared_later r.tree s0 s1 ((cut.call.log told).others.logs r.tree.log.name (λ e. sound.apart (sym e))) ((cut.call.log told).others.maps r.tree.metadata) ready.tree in
    subst (λ (v : Readied g.row.H-Digest.Denot g.row.C-Item-Cfg.Denot). s3.map v.tree.metadata ≡ v.tree.read) c.self.view_is ((caught.names told).others.maps r.tree.metadata tt ∙ opened.map told prepared)

pub returns-clause-nodes : goal.returns-clause-nodes
returns-clause-nodes g c told held =
    let tells = g.V.Volume.tells in
    let spelling = g.C.Item.Spelled.spelling in
    let s0 = g.V.Volume.state c.args.vol.now in
    let r : Readied g.row.H-Digest.Denot g.row.C-Item-Cfg.Denot = record { items = g.C.Recovery.BackingRecovery.view c.self.inside.journal; end = c.self.inside.end; tree = c.self.inside.merkle; bagging = c.self.inside.hasher } in
    let sound : IsSoundReady r = c.self.invariant in
    let s1 = g.V.Volume.state c.finish.new.vol in
    let cut = c.in_ok-journal.ensures {u = tt} in
    let opened_is = g.met.C.Backing.opened_is c.in_ok-journal.journal in
    let items = g.C.Contiguous.view c.in_ok-journal.journal in
    let items_is : SameButBounds r.items items = subst (λ (v : View g.row.C-Item-Cfg.Denot). SameButBounds r.items v) opened_is cut.made in
    let name : items.name ≡ r.items.name = ap (λ (v : View g.row.C-Item-Cfg.Denot). v.name) items_is in
    let s2 = g.V.Volume.state c.finish-2.new.vol in
    let t = c.in_ok-opened.opened in
    let opened = c.in_ok-opened.ensures {u = tt} in
    let node : t.log.name ≡ r.tree.log.name = ap (λ (v : View (Unit {0})). v.name) opened.from.log in
    let apart : items.name ≢ r.tree.log.name = λ e. sound.apart (sym name ∙ e) in
    let s3 = g.V.Volume.state c.catch_up.new.vol in
    let u = c.in_ok-merkle.merkle in
    let caught = c.in_ok-merkle.ensures {u = tt} in
    let j : Joined g.row.H-Digest.Denot g.row.C-Item-Cfg.Denot = record { items = items; tree = u; bagging = c.self.inside.hasher; failed = false } in
    let ready : IsReadyIn r s0 = subst (λ (v : Readied g.row.H-Digest.Denot g.row.C-Item-Cfg.Denot). IsReadyIn v s0) (sym c.self.view_is) held in
    let prepared = prepared_later r.tree s0 s1 ((cut.call.log told).others.logs r.tree.log.name (λ e. sound.apart (sym e))) ((cut.call.log told).others.maps r.tree.metadata) ready.tree in
    let point = blob_start r.tree.log.blob (size g.F.Family.shape r.tree.boundary) in
    let seat = caught.seated told (opened.seated told prepared) in
    let last : u.log.name ≡ r.tree.log.name = ap (λ (v : View (Unit {0})). v.name) caught.aligned.log ∙ node in
    let third : (s3.log r.tree.log.name).start ≡ (s2.log r.tree.log.name).start = subst (λ (n : List ℕ). (s3.log n).start ≡ (s2.log n).start) node (caught.begins told) in
    let first = (cut.call.log told).others.logs r.tree.log.name (λ e. sound.apart (sym e)) in
    subst (λ (v : Readied g.row.H-Digest.Denot g.row.C-Item-Cfg.Denot). u.log.start ≡ max (s0.log v.tree.log.name).start (blob_start v.tree.log.blob (size g.F.Family.shape v.tree.boundary))) c.self.view_is
    (seat.start_is ∙ ap (λ (n : List ℕ). (s3.log n).start) last ∙ third ∙ ap (λ (l : Log). l.start) (opened.log told prepared).log ∙ ap (λ (l : Log). max l.start point) first)

pub returns-clause-joined : goal.returns-clause-joined
returns-clause-joined g c told list rest durable top held run long stands of =
    let tells = g.V.Volume.tells in
    let spelling = g.C.Item.Spelled.spelling in
    let s0 = g.V.Volume.state c.args.vol.now in
    let r : Readied g.row.H-Digest.Denot g.row.C-Item-Cfg.Denot = record { items = g.C.Recovery.BackingRecovery.view c.self.inside.journal; end = c.self.inside.end; tree = c.self.inside.merkle; bagging = c.self.inside.hasher } in
    let sound : IsSoundReady r = c.self.invariant in
    let s1 = g.V.Volume.state c.finish.new.vol in
    let cut = c.in_ok-journal.ensures {u = tt} in
    let opened_is = g.met.C.Backing.opened_is c.in_ok-journal.journal in
    let items = g.C.Contiguous.view c.in_ok-journal.journal in
    let items_is : SameButBounds r.items items = subst (λ (v : View g.row.C-Item-Cfg.Denot). SameButBounds r.items v) opened_is cut.made in
    let name : items.name ≡ r.items.name = ap (λ (v : View g.row.C-Item-Cfg.Denot). v.name) items_is in
    let s2 = g.V.Volume.state c.finish-2.new.vol in
    let t = c.in_ok-opened.opened in
    let opened = c.in_ok-opened.ensures {u = tt} in
    let node : t.log.name ≡ r.tree.log.name = ap (λ (v : View (Unit {0})). v.name) opened.from.log in
    let apart : items.name ≢ r.tree.log.name = λ e. sound.apart (sym name ∙ e) in
    let s3 = g.V.Volume.state c.catch_up.new.vol in
    let u = c.in_ok-merkle.merkle in
    let caught = c.in_ok-merkle.ensures {u = tt} in
    let j : Joined g.row.H-Digest.Denot g.row.C-Item-Cfg.Denot = record { items = items; tree = u; bagging = c.self.inside.hasher; failed = false } in
    let s = g.F.Family.shape in
    let h = g.H.Hasher.hash in
    let digest = g.H.Digest.Spelled.spelling in
    let admits = g.H.Digest.Read.admits tt in
    let whole = list ++ rest in
    let all = leaves_of s h spelling whole in
    let back = sym c.self.view_is in
    let ready : IsReadyIn r s0 = subst (λ (v : Readied g.row.H-Digest.Denot g.row.C-Item-Cfg.Denot). IsReadyIn v s0) (sym c.self.view_is) held in
    let prepared = prepared_later r.tree s0 s1 ((cut.call.log told).others.logs r.tree.log.name (λ e. sound.apart (sym e))) ((cut.call.log told).others.maps r.tree.metadata) ready.tree in
    let held_one : IsHeld items s1 = subst (λ (v : View g.row.C-Item-Cfg.Denot). IsHeld v s1) opened_is (cut.held told) in
    let second = (opened.names told).others.logs items.name (apart, tt) in
    let third = (caught.names told).others.logs items.name ((λ e. apart (e ∙ node)), tt) in
    let run_r = subst (λ (v : Readied g.row.H-Digest.Denot g.row.C-Item-Cfg.Denot). Spells spelling list (log_of v.items s0)) back run in
    let stands_r = subst (λ (v : Readied g.row.H-Digest.Denot g.row.C-Item-Cfg.Denot). TreeStands s h digest all durable top (s0.log v.tree.log.name) v.tree.read) back stands in
    let of_r = subst (λ (v : Readied g.row.H-Digest.Denot g.row.C-Item-Cfg.Denot). IsOf s h (leaves_of s h spelling (take v.tree.tree.leaves whole)) v.tree.tree) back of in
    let stands_1 = subst (λ (l : Log). TreeStands s h digest all durable top l r.tree.read) (sym ((cut.call.log told).others.logs r.tree.log.name (λ e. sound.apart (sym e)))) stands_r in
    let few : length all ≤ 2 ^ 62 = omega (arith, long, length-leaves_of s h spelling whole) in
    let digests = all_digests s h admits (map spelling whole) (λ m. g.met.H.Digest.Digest.allowed (h.digest m) (ap length (sym (g.met.H.Hasher.same_bytes (h.digest m))) ∙ g.met.H.Hasher.one_size m)) in
    let of_front = subst (λ (ds : List g.row.H-Digest.Denot). IsOf s h ds r.tree.tree) (sym (leaves_take s h spelling r.tree.tree.leaves whole)) of_r in
    let within : r.tree.tree.leaves ≤ length list = omega (arith, ready.high, sound.within, ready.items.end_is, run_end spelling list (log_of r.items s0) run_r) in
    let full = subst (λ (ds : List g.row.H-Digest.Denot). IsFullOf s h digest admits ds t (present s2)) (leaves_ahead s h spelling r.tree.tree.leaves list rest within)
    (opened.full told h all durable top prepared stands_1 few digests of_front) in
    let is = finish_joined s h digest admits spelling list r j t s0 s1 s2 s3 sound ready run_r items_is held_one (cut.listed told list run_r) second third opened.from.leaves caught.aligned.leaves full (caught.full told) in
    subst (λ (v : Readied g.row.H-Digest.Denot g.row.C-Item-Cfg.Denot). IsJoinedOf s h digest admits spelling (take v.end list) j (present s3)) c.self.view_is is

pub returns-clause-durable : goal.returns-clause-durable
returns-clause-durable g c told =
    let tells = g.V.Volume.tells in
    let spelling = g.C.Item.Spelled.spelling in
    let s0 = g.V.Volume.state c.args.vol.now in
    let r : Readied g.row.H-Digest.Denot g.row.C-Item-Cfg.Denot = record { items = g.C.Recovery.BackingRecovery.view c.self.inside.journal; end = c.self.inside.end; tree = c.self.inside.merkle; bagging = c.self.inside.hasher } in
    let sound : IsSoundReady r = c.self.invariant in
    let s1 = g.V.Volume.state c.finish.new.vol in
    let cut = c.in_ok-journal.ensures {u = tt} in
    let opened_is = g.met.C.Backing.opened_is c.in_ok-journal.journal in
    let items = g.C.Contiguous.view c.in_ok-journal.journal in
    let items_is : SameButBounds r.items items = subst (λ (v : View g.row.C-Item-Cfg.Denot). SameButBounds r.items v) opened_is cut.made in
    let name : items.name ≡ r.items.name = ap (λ (v : View g.row.C-Item-Cfg.Denot). v.name) items_is in
    let s2 = g.V.Volume.state c.finish-2.new.vol in
    let t = c.in_ok-opened.opened in
    let opened = c.in_ok-opened.ensures {u = tt} in
    let node : t.log.name ≡ r.tree.log.name = ap (λ (v : View (Unit {0})). v.name) opened.from.log in
    let apart : items.name ≢ r.tree.log.name = λ e. sound.apart (sym name ∙ e) in
    let s3 = g.V.Volume.state c.catch_up.new.vol in
    let u = c.in_ok-merkle.merkle in
    let caught = c.in_ok-merkle.ensures {u = tt} in
    let j : Joined g.row.H-Digest.Denot g.row.C-Item-Cfg.Denot = record { items = items; tree = u; bagging = c.self.inside.hasher; failed = false } in
    let second = (opened.names told).others.logs items.name (apart, tt) in
    let third = (caught.names told).others.logs items.name ((λ e. apart (e ∙ node)), tt) in
    let names = two_logs_and_map r.items.name r.tree.log.name r.tree.metadata in
    let first : OnlyLeft (s1.log_left s1.clock items.name) (s1.log items.name) = subst (λ n. OnlyLeft (s1.log_left s1.clock n) (s1.log n)) (sym name) (cut.durable told) in
    let then = durable_after (log_alone t.log.name) items.name s2 s3 (caught.names told).images ((λ e. apart (e ∙ node)), tt) third (durable_after _ items.name s1 s2 (opened.names told).images (apart, tt) second first) in
    let item_log = subst (λ n. OnlyLeft (s3.log_left s3.clock n) (s3.log n)) name then in
    let node_log = subst (λ n. OnlyLeft (s3.log_left s3.clock n) (s3.log n)) node (caught.durable told) in
    subst (λ (v : Readied g.row.H-Digest.Denot g.row.C-Item-Cfg.Denot). OnlyLeft (s3.log_left s3.clock v.items.name) (s3.log v.items.name) × OnlyLeft (s3.log_left s3.clock v.tree.log.name) (s3.log v.tree.log.name)) c.self.view_is (item_log, node_log)

pub returns-in_err-journal-clause-refused : goal.returns-in_err-journal-clause-refused
returns-in_err-journal-clause-refused g c told held =
    let tells = g.V.Volume.tells in
    let spelling = g.C.Item.Spelled.spelling in
    let s0 = g.V.Volume.state c.args.vol.now in
    let r : Readied g.row.H-Digest.Denot g.row.C-Item-Cfg.Denot = record { items = g.C.Recovery.BackingRecovery.view c.self.inside.journal; end = c.self.inside.end; tree = c.self.inside.merkle; bagging = c.self.inside.hasher } in
    let sound : IsSoundReady r = c.self.invariant in
    let ready : IsReadyIn r s0 = subst (λ (v : Readied g.row.H-Digest.Denot g.row.C-Item-Cfg.Denot). IsReadyIn v s0) (sym c.self.view_is) held in
    let e = c.in_err-journal.field-0.0 in
    let did = c.in_err-journal.ensures in
    start_not tells _ _ _ e _ c.from_residual.ensures.1 did.errors (λ p is. let y = (did.pruned p (ap Err is)).1 told in absurd (omega (arith, y, sound.reached, ready.items.start_is)))

pub returns-in_err-opened-clause-refused : goal.returns-in_err-opened-clause-refused
returns-in_err-opened-clause-refused g c told held =
    let tells = g.V.Volume.tells in
    let spelling = g.C.Item.Spelled.spelling in
    let s0 = g.V.Volume.state c.args.vol.now in
    let r : Readied g.row.H-Digest.Denot g.row.C-Item-Cfg.Denot = record { items = g.C.Recovery.BackingRecovery.view c.self.inside.journal; end = c.self.inside.end; tree = c.self.inside.merkle; bagging = c.self.inside.hasher } in
    let sound : IsSoundReady r = c.self.invariant in
    let s1 = g.V.Volume.state c.finish.new.vol in
    let cut = c.in_ok-journal.ensures {u = tt} in
    let opened_is = g.met.C.Backing.opened_is c.in_ok-journal.journal in
    let items = g.C.Contiguous.view c.in_ok-journal.journal in
    let items_is : SameButBounds r.items items = subst (λ (v : View g.row.C-Item-Cfg.Denot). SameButBounds r.items v) opened_is cut.made in
    let name : items.name ≡ r.items.name = ap (λ (v : View g.row.C-Item-Cfg.Denot). v.name) items_is in
    let ready : IsReadyIn r s0 = subst (λ (v : Readied g.row.H-Digest.Denot g.row.C-Item-Cfg.Denot). IsReadyIn v s0) (sym c.self.view_is) held in
    let prepared = prepared_later r.tree s0 s1 ((cut.call.log told).others.logs r.tree.log.name (λ e. sound.apart (sym e))) ((cut.call.log told).others.maps r.tree.metadata) ready.tree in
    outside_above tells _ _ _ c.in_err-opened.field-0.0 _ c.from_residual-in_err-opened.ensures.1 (c.in_err-opened.ensures.outside told prepared)

pub returns-in_err-merkle-clause-refused : goal.returns-in_err-merkle-clause-refused
returns-in_err-merkle-clause-refused g c told held =
    let tells = g.V.Volume.tells in
    let spelling = g.C.Item.Spelled.spelling in
    let s0 = g.V.Volume.state c.args.vol.now in
    let r : Readied g.row.H-Digest.Denot g.row.C-Item-Cfg.Denot = record { items = g.C.Recovery.BackingRecovery.view c.self.inside.journal; end = c.self.inside.end; tree = c.self.inside.merkle; bagging = c.self.inside.hasher } in
    let sound : IsSoundReady r = c.self.invariant in
    let s1 = g.V.Volume.state c.finish.new.vol in
    let cut = c.in_ok-journal.ensures {u = tt} in
    let opened_is = g.met.C.Backing.opened_is c.in_ok-journal.journal in
    let items = g.C.Contiguous.view c.in_ok-journal.journal in
    let items_is : SameButBounds r.items items = subst (λ (v : View g.row.C-Item-Cfg.Denot). SameButBounds r.items v) opened_is cut.made in
    let name : items.name ≡ r.items.name = ap (λ (v : View g.row.C-Item-Cfg.Denot). v.name) items_is in
    let s2 = g.V.Volume.state c.finish-2.new.vol in
    let t = c.in_ok-opened.opened in
    let opened = c.in_ok-opened.ensures {u = tt} in
    let node : t.log.name ≡ r.tree.log.name = ap (λ (v : View (Unit {0})). v.name) opened.from.log in
    let apart : items.name ≢ r.tree.log.name = λ e. sound.apart (sym name ∙ e) in
    let ready : IsReadyIn r s0 = subst (λ (v : Readied g.row.H-Digest.Denot g.row.C-Item-Cfg.Denot). IsReadyIn v s0) (sym c.self.view_is) held in
    let prepared = prepared_later r.tree s0 s1 ((cut.call.log told).others.logs r.tree.log.name (λ e. sound.apart (sym e))) ((cut.call.log told).others.maps r.tree.metadata) ready.tree in
    let low : (log_of r.items s0).start ≤ r.end = omega (arith, sound.reached, ready.items.start_is) in
    let high : r.end ≤ end_of (log_of r.items s0) = omega (arith, sound.within, ready.items.end_is) in
    let second = (opened.names told).others.logs items.name (apart, tt) in
    let held_one : IsHeld items s1 = subst (λ (v : View g.row.C-Item-Cfg.Denot). IsHeld v s1) opened_is (cut.held told) in
    let ends : items.end ≡ r.end = held_one.end_is ∙ ap (λ n. end_of (s1.log n)) name ∙ ap end_of (cut.cut told) ∙ end_cut (log_of r.items s0) r.end low high in
    let reaches : items.end ≡ max t.tree.leaves r.end = omega (arith, ends, opened.from.leaves, ready.high) in
    let e = c.in_err-merkle.field-0.0 in
    let admits = g.C.Item.Read.admits in
    let here = c.in_err-merkle.ensures.refused told (opened.seated told prepared) reaches in
    let at : s2.log r.items.name ≡ cut_to (s0.log r.items.name) r.end = sym (ap s2.log name) ∙ second ∙ ap s1.log name ∙ cut.cut told in
    let seen = subst (λ (l : Log). NotAligned tells (record { log = l; spelling = spelling; admits = admits r.items.codec }) r.tree.tree.leaves r.end e) at
    (subst (λ n. NotAligned tells (items_of spelling admits r.items s2) n r.end e) opened.from.leaves (subst (λ (w : View g.row.C-Item-Cfg.Denot). NotAligned tells (items_of spelling admits w s2) t.tree.leaves r.end e) items_is here)) in
    let whole = aligned_cut tells spelling (admits r.items.codec) (s0.log r.items.name) r.end low (λ told. high) r.tree.tree.leaves e seen in
    err_same _ e _ c.from_residual-in_err-merkle.ensures.1 (subst (λ (v : Readied g.row.H-Digest.Denot g.row.C-Item-Cfg.Denot). NotAligned tells (items_of spelling admits v.items s0) v.tree.tree.leaves v.end e) c.self.view_is whole)

pub returns-in_err-journal-clause-names : goal.returns-in_err-journal-clause-names
returns-in_err-journal-clause-names g c told =
    let tells = g.V.Volume.tells in
    let spelling = g.C.Item.Spelled.spelling in
    let s0 = g.V.Volume.state c.args.vol.now in
    let r : Readied g.row.H-Digest.Denot g.row.C-Item-Cfg.Denot = record { items = g.C.Recovery.BackingRecovery.view c.self.inside.journal; end = c.self.inside.end; tree = c.self.inside.merkle; bagging = c.self.inside.hasher } in
    let sound : IsSoundReady r = c.self.invariant in
    let s1 = g.V.Volume.state c.finish.new.vol in
    let names = two_logs_and_map r.items.name r.tree.log.name r.tree.metadata in
    subst (λ (v : Readied g.row.H-Digest.Denot g.row.C-Item-Cfg.Denot). NamesCall (two_logs_and_map v.items.name v.tree.log.name v.tree.metadata) s0 s1) c.self.view_is (names_call_log names r.items.name _ s0 s1 (inl refl) (c.in_err-journal.ensures.call.log told))

pub returns-in_err-opened-clause-names : goal.returns-in_err-opened-clause-names
returns-in_err-opened-clause-names g c told =
    let tells = g.V.Volume.tells in
    let spelling = g.C.Item.Spelled.spelling in
    let s0 = g.V.Volume.state c.args.vol.now in
    let r : Readied g.row.H-Digest.Denot g.row.C-Item-Cfg.Denot = record { items = g.C.Recovery.BackingRecovery.view c.self.inside.journal; end = c.self.inside.end; tree = c.self.inside.merkle; bagging = c.self.inside.hasher } in
    let sound : IsSoundReady r = c.self.invariant in
    let s1 = g.V.Volume.state c.finish.new.vol in
    let cut = c.in_ok-journal.ensures {u = tt} in
    let opened_is = g.met.C.Backing.opened_is c.in_ok-journal.journal in
    let items = g.C.Contiguous.view c.in_ok-journal.journal in
    let items_is : SameButBounds r.items items = subst (λ (v : View g.row.C-Item-Cfg.Denot). SameButBounds r.items v) opened_is cut.made in
    let name : items.name ≡ r.items.name = ap (λ (v : View g.row.C-Item-Cfg.Denot). v.name) items_is in
    let s2 = g.V.Volume.state c.finish-2.new.vol in
    let names = two_logs_and_map r.items.name r.tree.log.name r.tree.metadata in
    let first = names_call_log names r.items.name _ s0 s1 (inl refl) (cut.call.log told) in
    subst (λ (v : Readied g.row.H-Digest.Denot g.row.C-Item-Cfg.Denot). NamesCall (two_logs_and_map v.items.name v.tree.log.name v.tree.metadata) s0 s2) c.self.view_is (names_call_joins names s0 s1 s2 first (names_of_tree r.items.name r.tree.log.name r.tree.metadata s1 s2 (c.in_err-opened.ensures.names told)))

pub returns-in_err-merkle-clause-names : goal.returns-in_err-merkle-clause-names
returns-in_err-merkle-clause-names g c told =
    let tells = g.V.Volume.tells in
    let spelling = g.C.Item.Spelled.spelling in
    let s0 = g.V.Volume.state c.args.vol.now in
    let r : Readied g.row.H-Digest.Denot g.row.C-Item-Cfg.Denot = record { items = g.C.Recovery.BackingRecovery.view c.self.inside.journal; end = c.self.inside.end; tree = c.self.inside.merkle; bagging = c.self.inside.hasher } in
    let sound : IsSoundReady r = c.self.invariant in
    let s1 = g.V.Volume.state c.finish.new.vol in
    let cut = c.in_ok-journal.ensures {u = tt} in
    let opened_is = g.met.C.Backing.opened_is c.in_ok-journal.journal in
    let items = g.C.Contiguous.view c.in_ok-journal.journal in
    let items_is : SameButBounds r.items items = subst (λ (v : View g.row.C-Item-Cfg.Denot). SameButBounds r.items v) opened_is cut.made in
    let name : items.name ≡ r.items.name = ap (λ (v : View g.row.C-Item-Cfg.Denot). v.name) items_is in
    let s2 = g.V.Volume.state c.finish-2.new.vol in
    let t = c.in_ok-opened.opened in
    let opened = c.in_ok-opened.ensures {u = tt} in
    let node : t.log.name ≡ r.tree.log.name = ap (λ (v : View (Unit {0})). v.name) opened.from.log in
    let apart : items.name ≢ r.tree.log.name = λ e. sound.apart (sym name ∙ e) in
    let s3 = g.V.Volume.state c.catch_up.new.vol in
    let names = two_logs_and_map r.items.name r.tree.log.name r.tree.metadata in
    let first = names_call_log names r.items.name _ s0 s1 (inl refl) (cut.call.log told) in
    let then = names_call_joins names s0 s1 s2 first (names_of_tree r.items.name r.tree.log.name r.tree.metadata s1 s2 (opened.names told)) in
    let last = names_of_nodes r.items.name r.tree.log.name r.tree.metadata s2 s3 (subst (λ n. NamesCall (log_alone n) s2 s3) node (c.in_err-merkle.ensures.names told)) in
    subst (λ (v : Readied g.row.H-Digest.Denot g.row.C-Item-Cfg.Denot). NamesCall (two_logs_and_map v.items.name v.tree.log.name v.tree.metadata) s0 s3) c.self.view_is (names_call_joins names s0 s2 s3 then last)

pub returns-clause-names : goal.returns-clause-names
returns-clause-names g c told =
    let tells = g.V.Volume.tells in
    let spelling = g.C.Item.Spelled.spelling in
    let s0 = g.V.Volume.state c.args.vol.now in
    let r : Readied g.row.H-Digest.Denot g.row.C-Item-Cfg.Denot = record { items = g.C.Recovery.BackingRecovery.view c.self.inside.journal; end = c.self.inside.end; tree = c.self.inside.merkle; bagging = c.self.inside.hasher } in
    let sound : IsSoundReady r = c.self.invariant in
    let s1 = g.V.Volume.state c.finish.new.vol in
    let cut = c.in_ok-journal.ensures {u = tt} in
    let opened_is = g.met.C.Backing.opened_is c.in_ok-journal.journal in
    let items = g.C.Contiguous.view c.in_ok-journal.journal in
    let items_is : SameButBounds r.items items = subst (λ (v : View g.row.C-Item-Cfg.Denot). SameButBounds r.items v) opened_is cut.made in
    let name : items.name ≡ r.items.name = ap (λ (v : View g.row.C-Item-Cfg.Denot). v.name) items_is in
    let s2 = g.V.Volume.state c.finish-2.new.vol in
    let t = c.in_ok-opened.opened in
    let opened = c.in_ok-opened.ensures {u = tt} in
    let node : t.log.name ≡ r.tree.log.name = ap (λ (v : View (Unit {0})). v.name) opened.from.log in
    let apart : items.name ≢ r.tree.log.name = λ e. sound.apart (sym name ∙ e) in
    let s3 = g.V.Volume.state c.catch_up.new.vol in
    let u = c.in_ok-merkle.merkle in
    let caught = c.in_ok-merkle.ensures {u = tt} in
    let j : Joined g.row.H-Digest.Denot g.row.C-Item-Cfg.Denot = record { items = items; tree = u; bagging = c.self.inside.hasher; failed = false } in
    let names = two_logs_and_map r.items.name r.tree.log.name r.tree.metadata in
    let first = names_call_log names r.items.name _ s0 s1 (inl refl) (cut.call.log told) in
    let then = names_call_joins names s0 s1 s2 first (names_of_tree r.items.name r.tree.log.name r.tree.metadata s1 s2 (opened.names told)) in
    let last = names_of_nodes r.items.name r.tree.log.name r.tree.metadata s2 s3 (subst (λ n. NamesCall (log_alone n) s2 s3) node (caught.names told)) in
    subst (λ (v : Readied g.row.H-Digest.Denot g.row.C-Item-Cfg.Denot). NamesCall (two_logs_and_map v.items.name v.tree.log.name v.tree.metadata) s0 s3) c.self.view_is (names_call_joins names s0 s2 s3 then last)

pub returns-in_err-journal-clause-log : goal.returns-in_err-journal-clause-log
returns-in_err-journal-clause-log g c told held =
    let tells = g.V.Volume.tells in
    let spelling = g.C.Item.Spelled.spelling in
    let s0 = g.V.Volume.state c.args.vol.now in
    let r : Readied g.row.H-Digest.Denot g.row.C-Item-Cfg.Denot = record { items = g.C.Recovery.BackingRecovery.view c.self.inside.journal; end = c.self.inside.end; tree = c.self.inside.merkle; bagging = c.self.inside.hasher } in
    let sound : IsSoundReady r = c.self.invariant in
    let s1 = g.V.Volume.state c.finish.new.vol in
    let ready : IsReadyIn r s0 = subst (λ (v : Readied g.row.H-Digest.Denot g.row.C-Item-Cfg.Denot). IsReadyIn v s0) (sym c.self.view_is) held in
    let low : (log_of r.items s0).start ≤ r.end = omega (arith, sound.reached, ready.items.start_is) in
    let high : r.end ≤ end_of (log_of r.items s0) = omega (arith, sound.within, ready.items.end_is) in
    subst (λ (v : Readied g.row.H-Digest.Denot g.row.C-Item-Cfg.Denot). LogKeeps v.items.name (Follows (s0.log_left s0.clock v.items.name) (Shrinks v.end)) s0 s1) c.self.view_is (keeps_cut r.items.name (log_of r.items s0) r.end s0 s1 high (c.in_err-journal.ensures.call.log told).images)

pub returns-in_err-opened-clause-log : goal.returns-in_err-opened-clause-log
returns-in_err-opened-clause-log g c told held =
    let tells = g.V.Volume.tells in
    let spelling = g.C.Item.Spelled.spelling in
    let s0 = g.V.Volume.state c.args.vol.now in
    let r : Readied g.row.H-Digest.Denot g.row.C-Item-Cfg.Denot = record { items = g.C.Recovery.BackingRecovery.view c.self.inside.journal; end = c.self.inside.end; tree = c.self.inside.merkle; bagging = c.self.inside.hasher } in
    let sound : IsSoundReady r = c.self.invariant in
    let s1 = g.V.Volume.state c.finish.new.vol in
    let cut = c.in_ok-journal.ensures {u = tt} in
    let opened_is = g.met.C.Backing.opened_is c.in_ok-journal.journal in
    let items = g.C.Contiguous.view c.in_ok-journal.journal in
    let items_is : SameButBounds r.items items = subst (λ (v : View g.row.C-Item-Cfg.Denot). SameButBounds r.items v) opened_is cut.made in
    let name : items.name ≡ r.items.name = ap (λ (v : View g.row.C-Item-Cfg.Denot). v.name) items_is in
    let s2 = g.V.Volume.state c.finish-2.new.vol in
    let ready : IsReadyIn r s0 = subst (λ (v : Readied g.row.H-Digest.Denot g.row.C-Item-Cfg.Denot). IsReadyIn v s0) (sym c.self.view_is) held in
    let low : (log_of r.items s0).start ≤ r.end = omega (arith, sound.reached, ready.items.start_is) in
    let high : r.end ≤ end_of (log_of r.items s0) = omega (arith, sound.within, ready.items.end_is) in
    let first = keeps_cut r.items.name (log_of r.items s0) r.end s0 s1 high (cut.call.log told).images in
    subst (λ (v : Readied g.row.H-Digest.Denot g.row.C-Item-Cfg.Denot). LogKeeps v.items.name (Follows (s0.log_left s0.clock v.items.name) (Shrinks v.end)) s0 s2) c.self.view_is (log_keeps_beside r.items.name _ _ s0 s1 s2 first (sound.apart, tt) (c.in_err-opened.ensures.names told))

pub returns-in_err-merkle-clause-log : goal.returns-in_err-merkle-clause-log
returns-in_err-merkle-clause-log g c told held =
    let tells = g.V.Volume.tells in
    let spelling = g.C.Item.Spelled.spelling in
    let s0 = g.V.Volume.state c.args.vol.now in
    let r : Readied g.row.H-Digest.Denot g.row.C-Item-Cfg.Denot = record { items = g.C.Recovery.BackingRecovery.view c.self.inside.journal; end = c.self.inside.end; tree = c.self.inside.merkle; bagging = c.self.inside.hasher } in
    let sound : IsSoundReady r = c.self.invariant in
    let s1 = g.V.Volume.state c.finish.new.vol in
    let cut = c.in_ok-journal.ensures {u = tt} in
    let opened_is = g.met.C.Backing.opened_is c.in_ok-journal.journal in
    let items = g.C.Contiguous.view c.in_ok-journal.journal in
    let items_is : SameButBounds r.items items = subst (λ (v : View g.row.C-Item-Cfg.Denot). SameButBounds r.items v) opened_is cut.made in
    let name : items.name ≡ r.items.name = ap (λ (v : View g.row.C-Item-Cfg.Denot). v.name) items_is in
    let s2 = g.V.Volume.state c.finish-2.new.vol in
    let t = c.in_ok-opened.opened in
    let opened = c.in_ok-opened.ensures {u = tt} in
    let node : t.log.name ≡ r.tree.log.name = ap (λ (v : View (Unit {0})). v.name) opened.from.log in
    let apart : items.name ≢ r.tree.log.name = λ e. sound.apart (sym name ∙ e) in
    let s3 = g.V.Volume.state c.catch_up.new.vol in
    let ready : IsReadyIn r s0 = subst (λ (v : Readied g.row.H-Digest.Denot g.row.C-Item-Cfg.Denot). IsReadyIn v s0) (sym c.self.view_is) held in
    let low : (log_of r.items s0).start ≤ r.end = omega (arith, sound.reached, ready.items.start_is) in
    let high : r.end ≤ end_of (log_of r.items s0) = omega (arith, sound.within, ready.items.end_is) in
    let first = keeps_cut r.items.name (log_of r.items s0) r.end s0 s1 high (cut.call.log told).images in
    let then = log_keeps_beside r.items.name _ _ s0 s1 s2 first (sound.apart, tt) (opened.names told) in
    subst (λ (v : Readied g.row.H-Digest.Denot g.row.C-Item-Cfg.Denot). LogKeeps v.items.name (Follows (s0.log_left s0.clock v.items.name) (Shrinks v.end)) s0 s3) c.self.view_is (log_keeps_beside r.items.name _ _ s0 s2 s3 then ((λ e. sound.apart (e ∙ node)), tt) (c.in_err-merkle.ensures.names told))

pub returns-clause-log : goal.returns-clause-log
returns-clause-log g c told held =
    let tells = g.V.Volume.tells in
    let spelling = g.C.Item.Spelled.spelling in
    let s0 = g.V.Volume.state c.args.vol.now in
    let r : Readied g.row.H-Digest.Denot g.row.C-Item-Cfg.Denot = record { items = g.C.Recovery.BackingRecovery.view c.self.inside.journal; end = c.self.inside.end; tree = c.self.inside.merkle; bagging = c.self.inside.hasher } in
    let sound : IsSoundReady r = c.self.invariant in
    let s1 = g.V.Volume.state c.finish.new.vol in
    let cut = c.in_ok-journal.ensures {u = tt} in
    let opened_is = g.met.C.Backing.opened_is c.in_ok-journal.journal in
    let items = g.C.Contiguous.view c.in_ok-journal.journal in
    let items_is : SameButBounds r.items items = subst (λ (v : View g.row.C-Item-Cfg.Denot). SameButBounds r.items v) opened_is cut.made in
    let name : items.name ≡ r.items.name = ap (λ (v : View g.row.C-Item-Cfg.Denot). v.name) items_is in
    let s2 = g.V.Volume.state c.finish-2.new.vol in
    let t = c.in_ok-opened.opened in
    let opened = c.in_ok-opened.ensures {u = tt} in
    let node : t.log.name ≡ r.tree.log.name = ap (λ (v : View (Unit {0})). v.name) opened.from.log in
    let apart : items.name ≢ r.tree.log.name = λ e. sound.apart (sym name ∙ e) in
    let s3 = g.V.Volume.state c.catch_up.new.vol in
    let u = c.in_ok-merkle.merkle in
    let caught = c.in_ok-merkle.ensures {u = tt} in
    let j : Joined g.row.H-Digest.Denot g.row.C-Item-Cfg.Denot = record { items = items; tree = u; bagging = c.self.inside.hasher; failed = false } in
    let ready : IsReadyIn r s0 = subst (λ (v : Readied g.row.H-Digest.Denot g.row.C-Item-Cfg.Denot). IsReadyIn v s0) (sym c.self.view_is) held in
    let low : (log_of r.items s0).start ≤ r.end = omega (arith, sound.reached, ready.items.start_is) in
    let high : r.end ≤ end_of (log_of r.items s0) = omega (arith, sound.within, ready.items.end_is) in
    let first = keeps_cut r.items.name (log_of r.items s0) r.end s0 s1 high (cut.call.log told).images in
    let then = log_keeps_beside r.items.name _ _ s0 s1 s2 first (sound.apart, tt) (opened.names told) in
    subst (λ (v : Readied g.row.H-Digest.Denot g.row.C-Item-Cfg.Denot). LogKeeps v.items.name (Follows (s0.log_left s0.clock v.items.name) (Shrinks v.end)) s0 s3) c.self.view_is (log_keeps_beside r.items.name _ _ s0 s2 s3 then ((λ e. sound.apart (e ∙ node)), tt) (caught.names told))

pub returns-in_err-opened-clause-changes : goal.returns-in_err-opened-clause-changes
returns-in_err-opened-clause-changes g c =
    let tells = g.V.Volume.tells in
    let spelling = g.C.Item.Spelled.spelling in
    let s0 = g.V.Volume.state c.args.vol.now in
    let r : Readied g.row.H-Digest.Denot g.row.C-Item-Cfg.Denot = record { items = g.C.Recovery.BackingRecovery.view c.self.inside.journal; end = c.self.inside.end; tree = c.self.inside.merkle; bagging = c.self.inside.hasher } in
    let sound : IsSoundReady r = c.self.invariant in
    let s1 = g.V.Volume.state c.finish.new.vol in
    let cut = c.in_ok-journal.ensures {u = tt} in
    let opened_is = g.met.C.Backing.opened_is c.in_ok-journal.journal in
    let items = g.C.Contiguous.view c.in_ok-journal.journal in
    let items_is : SameButBounds r.items items = subst (λ (v : View g.row.C-Item-Cfg.Denot). SameButBounds r.items v) opened_is cut.made in
    let name : items.name ≡ r.items.name = ap (λ (v : View g.row.C-Item-Cfg.Denot). v.name) items_is in
    let first = went_of_writes tells journal.Volume _ _ c.in_ok-journal.journal cut.call.writes in
    changes_above tells _ _ _ c.in_err-opened.field-0.0 _ c.from_residual-in_err-opened.ensures.1 first (changes_of_writes tells tree.Volume _ _ _ c.in_err-opened.ensures.writes)

pub returns-in_err-merkle-clause-changes : goal.returns-in_err-merkle-clause-changes
returns-in_err-merkle-clause-changes g c =
    let tells = g.V.Volume.tells in
    let spelling = g.C.Item.Spelled.spelling in
    let s0 = g.V.Volume.state c.args.vol.now in
    let r : Readied g.row.H-Digest.Denot g.row.C-Item-Cfg.Denot = record { items = g.C.Recovery.BackingRecovery.view c.self.inside.journal; end = c.self.inside.end; tree = c.self.inside.merkle; bagging = c.self.inside.hasher } in
    let sound : IsSoundReady r = c.self.invariant in
    let s1 = g.V.Volume.state c.finish.new.vol in
    let cut = c.in_ok-journal.ensures {u = tt} in
    let opened_is = g.met.C.Backing.opened_is c.in_ok-journal.journal in
    let items = g.C.Contiguous.view c.in_ok-journal.journal in
    let items_is : SameButBounds r.items items = subst (λ (v : View g.row.C-Item-Cfg.Denot). SameButBounds r.items v) opened_is cut.made in
    let name : items.name ≡ r.items.name = ap (λ (v : View g.row.C-Item-Cfg.Denot). v.name) items_is in
    let s2 = g.V.Volume.state c.finish-2.new.vol in
    let t = c.in_ok-opened.opened in
    let opened = c.in_ok-opened.ensures {u = tt} in
    let node : t.log.name ≡ r.tree.log.name = ap (λ (v : View (Unit {0})). v.name) opened.from.log in
    let apart : items.name ≢ r.tree.log.name = λ e. sound.apart (sym name ∙ e) in
    let first = went_of_writes tells journal.Volume _ _ c.in_ok-journal.journal cut.call.writes in
    let went = went_joins tells _ _ _ first (went_of_writes tells tree.Volume _ _ t opened.writes) in
    changes_same tells _ _ _ c.in_err-merkle.field-0.0 _ c.from_residual-in_err-merkle.ensures.1 went c.in_err-merkle.ensures.changes

pub returns-clause-changes : goal.returns-clause-changes
returns-clause-changes g c =
    let tells = g.V.Volume.tells in
    let spelling = g.C.Item.Spelled.spelling in
    let s0 = g.V.Volume.state c.args.vol.now in
    let r : Readied g.row.H-Digest.Denot g.row.C-Item-Cfg.Denot = record { items = g.C.Recovery.BackingRecovery.view c.self.inside.journal; end = c.self.inside.end; tree = c.self.inside.merkle; bagging = c.self.inside.hasher } in
    let sound : IsSoundReady r = c.self.invariant in
    let s1 = g.V.Volume.state c.finish.new.vol in
    let cut = c.in_ok-journal.ensures {u = tt} in
    let opened_is = g.met.C.Backing.opened_is c.in_ok-journal.journal in
    let items = g.C.Contiguous.view c.in_ok-journal.journal in
    let items_is : SameButBounds r.items items = subst (λ (v : View g.row.C-Item-Cfg.Denot). SameButBounds r.items v) opened_is cut.made in
    let name : items.name ≡ r.items.name = ap (λ (v : View g.row.C-Item-Cfg.Denot). v.name) items_is in
    let s2 = g.V.Volume.state c.finish-2.new.vol in
    let t = c.in_ok-opened.opened in
    let opened = c.in_ok-opened.ensures {u = tt} in
    let node : t.log.name ≡ r.tree.log.name = ap (λ (v : View (Unit {0})). v.name) opened.from.log in
    let apart : items.name ≢ r.tree.log.name = λ e. sound.apart (sym name ∙ e) in
    let s3 = g.V.Volume.state c.catch_up.new.vol in
    let u = c.in_ok-merkle.merkle in
    let caught = c.in_ok-merkle.ensures {u = tt} in
    let j : Joined g.row.H-Digest.Denot g.row.C-Item-Cfg.Denot = record { items = items; tree = u; bagging = c.self.inside.hasher; failed = false } in
    let first = went_of_writes tells journal.Volume _ _ c.in_ok-journal.journal cut.call.writes in
    let went = went_joins tells _ _ _ first (went_of_writes tells tree.Volume _ _ t opened.writes) in
    changes_joins tells joined.Volume joined.Volume _ _ _ (Ok u) (Ok j) went caught.changes (λ is. absurd cc) caught.changes.kept

pub returns-clause-replayed : goal.returns-clause-replayed
returns-clause-replayed g c told held =
    let tells = g.V.Volume.tells in
    let spelling = g.C.Item.Spelled.spelling in
    let s0 = g.V.Volume.state c.args.vol.now in
    let r : Readied g.row.H-Digest.Denot g.row.C-Item-Cfg.Denot = record { items = g.C.Recovery.BackingRecovery.view c.self.inside.journal; end = c.self.inside.end; tree = c.self.inside.merkle; bagging = c.self.inside.hasher } in
    let sound : IsSoundReady r = c.self.invariant in
    let s1 = g.V.Volume.state c.finish.new.vol in
    let cut = c.in_ok-journal.ensures {u = tt} in
    let opened_is = g.met.C.Backing.opened_is c.in_ok-journal.journal in
    let items = g.C.Contiguous.view c.in_ok-journal.journal in
    let items_is : SameButBounds r.items items = subst (λ (v : View g.row.C-Item-Cfg.Denot). SameButBounds r.items v) opened_is cut.made in
    let name : items.name ≡ r.items.name = ap (λ (v : View g.row.C-Item-Cfg.Denot). v.name) items_is in
    let s2 = g.V.Volume.state c.finish-2.new.vol in
    let t = c.in_ok-opened.opened in
    let opened = c.in_ok-opened.ensures {u = tt} in
    let node : t.log.name ≡ r.tree.log.name = ap (λ (v : View (Unit {0})). v.name) opened.from.log in
    let apart : items.name ≢ r.tree.log.name = λ e. sound.apart (sym name ∙ e) in
    let ready : IsReadyIn r s0 = subst (λ (v : Readied g.row.H-Digest.Denot g.row.C-Item-Cfg.Denot). IsReadyIn v s0) (sym c.self.view_is) held in
    let low : (log_of r.items s0).start ≤ r.end = omega (arith, sound.reached, ready.items.start_is) in
    let high : r.end ≤ end_of (log_of r.items s0) = omega (arith, sound.within, ready.items.end_is) in
    let second = (opened.names told).others.logs items.name (apart, tt) in
    let admits = g.C.Item.Read.admits in
    let at : s2.log r.items.name ≡ cut_to (s0.log r.items.name) r.end = sym (ap s2.log name) ∙ second ∙ ap s1.log name ∙ cut.cut told in
    let seen = subst (λ (l : Log). AreReadable (record { log = l; spelling = spelling; admits = admits r.items.codec }) r.tree.tree.leaves r.end) at
    (subst (λ n. AreReadable (items_of spelling admits r.items s2) n r.end) opened.from.leaves (subst (λ (w : View g.row.C-Item-Cfg.Denot). AreReadable (items_of spelling admits w s2) t.tree.leaves r.end) items_is ((c.in_ok-merkle.ensures {u = tt}).replayed told))) in
    let whole = readable_cut tells spelling (admits r.items.codec) (s0.log r.items.name) r.end low (λ told. high) r.tree.tree.leaves seen in
    subst (λ (v : Readied g.row.H-Digest.Denot g.row.C-Item-Cfg.Denot). AreReadable (items_of spelling admits v.items s0) v.tree.tree.leaves v.end) c.self.view_is whole

pub returns-in_err-journal-clause-images : goal.returns-in_err-journal-clause-images
returns-in_err-journal-clause-images g c told list rest marks =
    let tells = g.V.Volume.tells in
    let spelling = g.C.Item.Spelled.spelling in
    let s0 = g.V.Volume.state c.args.vol.now in
    let r : Readied g.row.H-Digest.Denot g.row.C-Item-Cfg.Denot = record { items = g.C.Recovery.BackingRecovery.view c.self.inside.journal; end = c.self.inside.end; tree = c.self.inside.merkle; bagging = c.self.inside.hasher } in
    let sound : IsSoundReady r = c.self.invariant in
    let s1 = g.V.Volume.state c.finish.new.vol in
    subst (λ (v : Readied g.row.H-Digest.Denot g.row.C-Item-Cfg.Denot). StandsWhileOpened g.F.Family.shape g.H.Hasher.hash g.H.Digest.Spelled.spelling spelling list rest marks v s0 s1) c.self.view_is
    (λ ready run long of low_items low_nodes has.
    cut_keeps g.F.Family.shape g.H.Hasher.hash g.H.Digest.Spelled.spelling spelling (list ++ rest) marks r sound s0 s1 ready low_items (c.in_err-journal.ensures.call.log told).images has)

pub returns-in_err-opened-clause-images : goal.returns-in_err-opened-clause-images
returns-in_err-opened-clause-images g c told list rest marks =
    let tells = g.V.Volume.tells in
    let spelling = g.C.Item.Spelled.spelling in
    let s0 = g.V.Volume.state c.args.vol.now in
    let r : Readied g.row.H-Digest.Denot g.row.C-Item-Cfg.Denot = record { items = g.C.Recovery.BackingRecovery.view c.self.inside.journal; end = c.self.inside.end; tree = c.self.inside.merkle; bagging = c.self.inside.hasher } in
    let sound : IsSoundReady r = c.self.invariant in
    let s1 = g.V.Volume.state c.finish.new.vol in
    let cut = c.in_ok-journal.ensures {u = tt} in
    let opened_is = g.met.C.Backing.opened_is c.in_ok-journal.journal in
    let items = g.C.Contiguous.view c.in_ok-journal.journal in
    let items_is : SameButBounds r.items items = subst (λ (v : View g.row.C-Item-Cfg.Denot). SameButBounds r.items v) opened_is cut.made in
    let name : items.name ≡ r.items.name = ap (λ (v : View g.row.C-Item-Cfg.Denot). v.name) items_is in
    let s2 = g.V.Volume.state c.finish-2.new.vol in
    let s = g.F.Family.shape in
    let h = g.H.Hasher.hash in
    let digest = g.H.Digest.Spelled.spelling in
    let admits = g.H.Digest.Read.admits tt in
    let whole = list ++ rest in
    let all = leaves_of s h spelling whole in
    subst (λ (v : Readied g.row.H-Digest.Denot g.row.C-Item-Cfg.Denot). StandsWhileOpened g.F.Family.shape g.H.Hasher.hash g.H.Digest.Spelled.spelling spelling list rest marks v s0 s2) c.self.view_is
    (λ ready run long of low_items low_nodes has.
    let prepared = prepared_later r.tree s0 s1 ((cut.call.log told).others.logs r.tree.log.name (λ e. sound.apart (sym e))) ((cut.call.log told).others.maps r.tree.metadata) ready.tree in
    let few : length all ≤ 2 ^ 62 = omega (arith, long, length-leaves_of s h spelling whole) in
    let digests = all_digests s h admits (map spelling whole) (λ m. g.met.H.Digest.Digest.allowed (h.digest m) (ap length (sym (g.met.H.Hasher.same_bytes (h.digest m))) ∙ g.met.H.Hasher.one_size m)) in
    let of_front = subst (λ (ds : List g.row.H-Digest.Denot). IsOf s h ds r.tree.tree) (sym (leaves_take s h spelling r.tree.tree.leaves whole)) of in
    let now = g.met.V.Volume.contents_left c.finish.new.vol told in
    let ab = cut_keeps s h digest spelling whole marks r sound s0 s1 ready low_items (cut.call.log told).images has in
    let did = c.in_err-opened.ensures in
    opened_keeps s h digest spelling whole marks r sound s0 s1 s2 ab (did.names told) now (λ top. did.images told h all marks.node_durable top prepared few digests of_front low_nodes))

pub returns-in_err-merkle-clause-images : goal.returns-in_err-merkle-clause-images
returns-in_err-merkle-clause-images g c told list rest marks =
    let tells = g.V.Volume.tells in
    let spelling = g.C.Item.Spelled.spelling in
    let s0 = g.V.Volume.state c.args.vol.now in
    let r : Readied g.row.H-Digest.Denot g.row.C-Item-Cfg.Denot = record { items = g.C.Recovery.BackingRecovery.view c.self.inside.journal; end = c.self.inside.end; tree = c.self.inside.merkle; bagging = c.self.inside.hasher } in
    let sound : IsSoundReady r = c.self.invariant in
    let s1 = g.V.Volume.state c.finish.new.vol in
    let cut = c.in_ok-journal.ensures {u = tt} in
    let opened_is = g.met.C.Backing.opened_is c.in_ok-journal.journal in
    let items = g.C.Contiguous.view c.in_ok-journal.journal in
    let items_is : SameButBounds r.items items = subst (λ (v : View g.row.C-Item-Cfg.Denot). SameButBounds r.items v) opened_is cut.made in
    let name : items.name ≡ r.items.name = ap (λ (v : View g.row.C-Item-Cfg.Denot). v.name) items_is in
    let s2 = g.V.Volume.state c.finish-2.new.vol in
    let t = c.in_ok-opened.opened in
    let opened = c.in_ok-opened.ensures {u = tt} in
    let node : t.log.name ≡ r.tree.log.name = ap (λ (v : View (Unit {0})). v.name) opened.from.log in
    let apart : items.name ≢ r.tree.log.name = λ e. sound.apart (sym name ∙ e) in
    let s = g.F.Family.shape in
    let h = g.H.Hasher.hash in
    let digest = g.H.Digest.Spelled.spelling in
    let admits = g.H.Digest.Read.admits tt in
    let whole = list ++ rest in
    let all = leaves_of s h spelling whole in
    let s3 = g.V.Volume.state c.catch_up.new.vol in
    let caught = c.in_err-merkle.ensures in
    subst (λ (v : Readied g.row.H-Digest.Denot g.row.C-Item-Cfg.Denot). StandsWhileOpened g.F.Family.shape g.H.Hasher.hash g.H.Digest.Spelled.spelling spelling list rest marks v s0 s3) c.self.view_is
    (λ ready run long of low_items low_nodes has.
    let prepared = prepared_later r.tree s0 s1 ((cut.call.log told).others.logs r.tree.log.name (λ e. sound.apart (sym e))) ((cut.call.log told).others.maps r.tree.metadata) ready.tree in
    let few : length all ≤ 2 ^ 62 = omega (arith, long, length-leaves_of s h spelling whole) in
    let digests = all_digests s h admits (map spelling whole) (λ m. g.met.H.Digest.Digest.allowed (h.digest m) (ap length (sym (g.met.H.Hasher.same_bytes (h.digest m))) ∙ g.met.H.Hasher.one_size m)) in
    let of_front = subst (λ (ds : List g.row.H-Digest.Denot). IsOf s h ds r.tree.tree) (sym (leaves_take s h spelling r.tree.tree.leaves whole)) of in
    let now = g.met.V.Volume.contents_left c.finish.new.vol told in
    let ab = cut_keeps s h digest spelling whole marks r sound s0 s1 ready low_items (cut.call.log told).images has in
    let bc = opened_keeps s h digest spelling whole marks r sound s0 s1 s2 ab (opened.names told) now (λ top. opened.images told h all marks.node_durable top prepared few digests of_front low_nodes) in
    let stands = tree_beside s h digest spelling whole (opened_as r) sound.apart marks s1 (s1.log r.items.name) (now.logs r.items.name) (now_after (Left s h digest spelling whole marks r sound) (Stands s h digest spelling whole marks r sound) s0 s1 ab) (s1.log r.tree.log.name) (s1.map r.tree.metadata) (now.logs r.tree.log.name) (now.maps r.tree.metadata) in
    let stood = subst (λ (m : Map). TreeStands s h digest all marks.node_durable (s1.log r.items.name).start (s1.log r.tree.log.name) m) prepared.read stands in
    let within : r.tree.tree.leaves ≤ length list = omega (arith, ready.high, sound.within, ready.items.end_is, run_end spelling list (log_of r.items s0) run) in
    let full = subst (λ (ds : List g.row.H-Digest.Denot). IsFullOf s h digest admits ds t (present s2)) (leaves_ahead s h spelling r.tree.tree.leaves list rest within)
    (opened.full told h all marks.node_durable (s1.log r.items.name).start prepared stood few digests of_front) in
    let here = cut_at s h digest admits spelling list r items t s0 s1 s2 sound ready run name (cut.listed told list run) ((opened.names told).others.logs items.name (apart, tt)) opened.from.leaves full in
    let split = leaves_split s h spelling list rest t.tree.leaves r.end (omega (arith, opened.from.leaves, ready.high)) (omega (arith, run_end spelling list (log_of r.items s0) run, sound.within, ready.items.end_is)) in
    caught_keeps s h digest spelling whole marks r sound s0 s2 s3 t.log.name (sym node) bc (caught.names told) (g.met.V.Volume.contents_left c.finish-2.new.vol told)
    (λ top. subst (λ (ds : List g.row.H-Digest.Denot). AllStand s h digest ds marks.node_durable top (opened_as r).tree s2 → AllKeepStanding s h digest ds marks.node_durable top (opened_as r).tree s2 s3) split
    (named_keeps s h digest (leaves_of s h spelling (take (max t.tree.leaves r.end) (take r.end list)) ++ drop r.end all) marks.node_durable top (opened_as r).tree t s2 s3 node opened.from.metadata
    (caught.images told (take r.end list) (drop r.end all) marks.node_durable top here.run here.long here.full))))

pub returns-clause-images : goal.returns-clause-images
returns-clause-images g c told list rest marks =
    let tells = g.V.Volume.tells in
    let spelling = g.C.Item.Spelled.spelling in
    let s0 = g.V.Volume.state c.args.vol.now in
    let r : Readied g.row.H-Digest.Denot g.row.C-Item-Cfg.Denot = record { items = g.C.Recovery.BackingRecovery.view c.self.inside.journal; end = c.self.inside.end; tree = c.self.inside.merkle; bagging = c.self.inside.hasher } in
    let sound : IsSoundReady r = c.self.invariant in
    let s1 = g.V.Volume.state c.finish.new.vol in
    let cut = c.in_ok-journal.ensures {u = tt} in
    let opened_is = g.met.C.Backing.opened_is c.in_ok-journal.journal in
    let items = g.C.Contiguous.view c.in_ok-journal.journal in
    let items_is : SameButBounds r.items items = subst (λ (v : View g.row.C-Item-Cfg.Denot). SameButBounds r.items v) opened_is cut.made in
    let name : items.name ≡ r.items.name = ap (λ (v : View g.row.C-Item-Cfg.Denot). v.name) items_is in
    let s2 = g.V.Volume.state c.finish-2.new.vol in
    let t = c.in_ok-opened.opened in
    let opened = c.in_ok-opened.ensures {u = tt} in
    let node : t.log.name ≡ r.tree.log.name = ap (λ (v : View (Unit {0})). v.name) opened.from.log in
    let apart : items.name ≢ r.tree.log.name = λ e. sound.apart (sym name ∙ e) in
    let s = g.F.Family.shape in
    let h = g.H.Hasher.hash in
    let digest = g.H.Digest.Spelled.spelling in
    let admits = g.H.Digest.Read.admits tt in
    let whole = list ++ rest in
    let all = leaves_of s h spelling whole in
    let s3 = g.V.Volume.state c.catch_up.new.vol in
    let caught = c.in_ok-merkle.ensures {u = tt} in
    subst (λ (v : Readied g.row.H-Digest.Denot g.row.C-Item-Cfg.Denot). StandsWhileOpened g.F.Family.shape g.H.Hasher.hash g.H.Digest.Spelled.spelling spelling list rest marks v s0 s3) c.self.view_is
    (λ ready run long of low_items low_nodes has.
    let prepared = prepared_later r.tree s0 s1 ((cut.call.log told).others.logs r.tree.log.name (λ e. sound.apart (sym e))) ((cut.call.log told).others.maps r.tree.metadata) ready.tree in
    let few : length all ≤ 2 ^ 62 = omega (arith, long, length-leaves_of s h spelling whole) in
    let digests = all_digests s h admits (map spelling whole) (λ m. g.met.H.Digest.Digest.allowed (h.digest m) (ap length (sym (g.met.H.Hasher.same_bytes (h.digest m))) ∙ g.met.H.Hasher.one_size m)) in
    let of_front = subst (λ (ds : List g.row.H-Digest.Denot). IsOf s h ds r.tree.tree) (sym (leaves_take s h spelling r.tree.tree.leaves whole)) of in
    let now = g.met.V.Volume.contents_left c.finish.new.vol told in
    let ab = cut_keeps s h digest spelling whole marks r sound s0 s1 ready low_items (cut.call.log told).images has in
    let bc = opened_keeps s h digest spelling whole marks r sound s0 s1 s2 ab (opened.names told) now (λ top. opened.images told h all marks.node_durable top prepared few digests of_front low_nodes) in
    let stands = tree_beside s h digest spelling whole (opened_as r) sound.apart marks s1 (s1.log r.items.name) (now.logs r.items.name) (now_after (Left s h digest spelling whole marks r sound) (Stands s h digest spelling whole marks r sound) s0 s1 ab) (s1.log r.tree.log.name) (s1.map r.tree.metadata) (now.logs r.tree.log.name) (now.maps r.tree.metadata) in
    let stood = subst (λ (m : Map). TreeStands s h digest all marks.node_durable (s1.log r.items.name).start (s1.log r.tree.log.name) m) prepared.read stands in
    let within : r.tree.tree.leaves ≤ length list = omega (arith, ready.high, sound.within, ready.items.end_is, run_end spelling list (log_of r.items s0) run) in
    let full = subst (λ (ds : List g.row.H-Digest.Denot). IsFullOf s h digest admits ds t (present s2)) (leaves_ahead s h spelling r.tree.tree.leaves list rest within)
    (opened.full told h all marks.node_durable (s1.log r.items.name).start prepared stood few digests of_front) in
    let here = cut_at s h digest admits spelling list r items t s0 s1 s2 sound ready run name (cut.listed told list run) ((opened.names told).others.logs items.name (apart, tt)) opened.from.leaves full in
    let split = leaves_split s h spelling list rest t.tree.leaves r.end (omega (arith, opened.from.leaves, ready.high)) (omega (arith, run_end spelling list (log_of r.items s0) run, sound.within, ready.items.end_is)) in
    caught_keeps s h digest spelling whole marks r sound s0 s2 s3 t.log.name (sym node) bc (caught.names told) (g.met.V.Volume.contents_left c.finish-2.new.vol told)
    (λ top. subst (λ (ds : List g.row.H-Digest.Denot). AllStand s h digest ds marks.node_durable top (opened_as r).tree s2 → AllKeepStanding s h digest ds marks.node_durable top (opened_as r).tree s2 s3) split
    (named_keeps s h digest (leaves_of s h spelling (take (max t.tree.leaves r.end) (take r.end list)) ++ drop r.end all) marks.node_durable top (opened_as r).tree t s2 s3 node opened.from.metadata
    (caught.images told (take r.end list) (drop r.end all) marks.node_durable top here.run here.long here.full))))

pub returns-in_err-journal-clause-lifted : goal.returns-in_err-journal-clause-lifted
returns-in_err-journal-clause-lifted g c =
    let e = c.in_err-journal.field-0.0 in
    err_and _ (from_journal e) IsLifted c.from_residual.ensures.1 (log_lifted g.row.F.Denot e)

pub returns-in_err-opened-clause-lifted : goal.returns-in_err-opened-clause-lifted
returns-in_err-opened-clause-lifted g c =
    let e = c.in_err-opened.field-0.0 in
    err_and _ (from_tree e) IsLifted c.from_residual-in_err-opened.ensures.1 (tree_lifted e c.in_err-opened.ensures.errors)

pub returns-in_err-merkle-clause-lifted : goal.returns-in_err-merkle-clause-lifted
returns-in_err-merkle-clause-lifted g c =
    let e = c.in_err-merkle.field-0.0 in
    err_and _ e IsLifted c.from_residual-in_err-merkle.ensures.1 c.in_err-merkle.ensures.lifted

pub returns-clause-settled : goal.returns-clause-settled
returns-clause-settled g c told list rest marks ready run long of low_items low_nodes has =
    let s = g.F.Family.shape in
    let h = g.H.Hasher.hash in
    let digest = g.H.Digest.Spelled.spelling in
    let spelling = g.C.Item.Spelled.spelling in
    let s0 = g.V.Volume.state c.args.vol.now in
    let s3 = g.V.Volume.state c.catch_up.new.vol in
    let longer = list ++ rest in
    let r = c.args.self in
    let names = two_logs_and_map r.items.name r.tree.log.name r.tree.metadata in
    let Stands = NamesStand s h digest spelling longer marks r.items.name r.tree.log.name r.tree.metadata in
    let image = has (present s0) (names_of_image names s0 s0.clock (present s0) (g.met.V.Volume.contents_left c.args.vol.now told)) in
    let stands = subst (λ (m : Map). TreeStands s h digest (leaves_of s h spelling longer) marks.node_durable (s0.log r.items.name).start (s0.log r.tree.log.name) m) ready.tree.read image.tree in
    let here = now_after (NamesLeft names) Stands s0 s3 (returns-clause-images g c told list rest marks ready run long of low_items low_nodes has) in
    let j : Joined g.row.H-Digest.Denot g.row.C-Item-Cfg.Denot = record { items = g.C.Contiguous.view c.in_ok-journal.journal; tree = c.in_ok-merkle.merkle; bagging = c.self.inside.hasher; failed = false } in
    let from = returns-clause-from g c in
    let end : j.items.end ≡ r.end = (returns-clause-reached g c told ready).0 in
    let start = (s0.log r.items.name).start in
    let joined = returns-clause-joined g c told list rest marks.node_durable start ready run long stands of in
    let at_end = subst (λ n. IsJoinedOf s h digest (g.H.Digest.Read.admits tt) spelling (take n list) j (present s3)) (sym end) joined in
    let durable = returns-clause-durable g c told in
    let item_name : j.items.name ≡ r.items.name = ap (λ (v : View g.row.C-Item-Cfg.Denot). v.name) from.items in
    let node_name : j.tree.log.name ≡ r.tree.log.name = ap (λ (v : View (Unit {0})). v.name) from.log in
    let item_log = subst (λ n. OnlyLeft (s3.log_left s3.clock n) (s3.log n)) (sym item_name) durable.0 in
    let node_log = subst (λ n. OnlyLeft (s3.log_left s3.clock n) (s3.log n)) (sym node_name) durable.1 in
    let whole = opened_settled s h digest (g.H.Digest.Read.admits tt) spelling list rest marks j s3 g.met.F.Family.lawful (c.in_ok-merkle.ensures {u = tt}).rests (c.in_ok-merkle.ensures {u = tt}).whole at_end item_log node_log in
    let named = renamed_settles s h digest spelling longer j.items.end marks j.items.name j.tree.log.name j.tree.metadata r.items.name r.tree.log.name r.tree.metadata s3 item_name node_name from.metadata whole in
    subst (λ n. Now (NamesLeft names) (NamesStand s h digest spelling (take n longer) (all_synced n marks) r.items.name r.tree.log.name r.tree.metadata) s3) end (named here)
