use Rattle.std.proofs.Common.{◌≡◌, [], Ok, Err, ◌∙◌, ap, sym, subst, arith, inl, inr, refl, ◌∷◌}
use Rattle.volume_base.specs.Log.{Log, end_of}
use Rattle.volume_base.specs.Names.{two_logs_and_map}
use Rattle.volume_base.proofs.CallLemmas.{names_call_joins, names_call_log}
use Rattle.volume_base.proofs.JoinLemmas.{changes_joins, changes_of_writes, went_of_writes}
use Rattle.journal_base.specs.View.{View, IsDurable, IsHeld}
use Rattle.auth_journal.specs.Standing.{logs_of, names_of}
use Rattle.auth_journal.specs.declared.error.Error.TheVariants as joined
use Rattle.chain_core.specs.declared.error.Error.TheVariants.{Volume}
use Rattle.keyless_db.proofs.LiftLemmas.{ok_never, outside_above, volume_below}
use Rattle.keyless_db.proofs.BeginningLemmas.{begins_not, begins_synced}
use Rattle.keyless_db.proofs.OpenLemmas.{append_lifted, append_outside, durable_same, flush_wraps, logs_call}
use Rattle.keyless_db.proofs.database.Keyless.begun.Goals as goal

pub returns-in-Ok-sync-clause-listed : goal.returns-in-Ok-sync-clause-listed
returns-in-Ok-sync-clause-listed g c tells of low =
    let made = c.in-Ok.made in
    let old = g.V.Volume.state c.args.vol.now in
    let mid = g.V.Volume.state c.append.new.vol in
    let added = c.in-Ok.ensures.joined tells [] of in
    let synced = c.in-Ok-sync.ensures.joined tells _ added in
    let name = ap (λ (v : View g.row.O-Cfg.Denot). (mid.log v.name).start) c.in-Ok.ensures.same.1.items in
    let log = ap (λ (l : Log). l.start) (c.in-Ok.ensures.appends.appended tells) in
    let kept = c.in-Ok-sync.ensures.same in
    (synced, omega (arith, low, of.start_is, added.start_is, name, log, c.in-Ok.ensures.same.1.boundary, kept.tree.boundary, ap (λ (v : View g.row.O-Cfg.Denot). v.start) kept.items))

pub returns-in-Ok-sync-clause-changes : goal.returns-in-Ok-sync-clause-changes
returns-in-Ok-sync-clause-changes g c =
    let fresh = c.in-Ok.ensures.same.1.failed ∙ c.requires in
    let went = went_of_writes g.V.Volume.tells joined.Volume _ _ c.in-Ok.made c.in-Ok.ensures.appends.writes in
    let writes = c.in-Ok-sync.ensures.writes fresh in
    changes_joins g.V.Volume.tells joined.Volume Volume _ _ _ (Ok c.in-Ok-sync.journal) (Ok c.in-Ok-sync.journal) went (changes_of_writes g.V.Volume.tells joined.Volume _ _ (Ok c.in-Ok-sync.journal) writes)
    (λ is. ok_never _ Volume _ is) writes.kept

pub returns-in-Err-sync-clause-changes : goal.returns-in-Err-sync-clause-changes
returns-in-Err-sync-clause-changes g c =
    let fresh = c.in-Ok.ensures.same.1.failed ∙ c.requires in
    let went = went_of_writes g.V.Volume.tells joined.Volume _ _ c.in-Ok.made c.in-Ok.ensures.appends.writes in
    let writes = c.in-Err-sync.ensures.writes fresh in
    changes_joins g.V.Volume.tells joined.Volume Volume _ _ _ (Err c.in-Err-sync.error) _ went (changes_of_writes g.V.Volume.tells joined.Volume _ _ (Err c.in-Err-sync.error) writes)
    (volume_below c.in-Err-sync.error c.from_joined-in-Err-sync.result c.from_joined-in-Err-sync.ensures) tt

pub returns-in-Err-clause-names : goal.returns-in-Err-clause-names
returns-in-Err-clause-names g c tells =
    let j = c.args.journal in
    names_call_log (names_of j) j.items.name _ _ _ (inl refl) (c.in-Err.ensures.appends.log tells)

pub returns-in-Ok-sync-clause-names : goal.returns-in-Ok-sync-clause-names
returns-in-Ok-sync-clause-names g c tells =
    let j = c.args.journal in
    let k = c.in-Ok.made.0 in
    let same : logs_of k ≡ record { logs = j.items.name ∷ j.tree.log.name ∷ []; maps = [] } =
    ap (λ (v : View g.row.O-Cfg.Denot). record { logs = v.name ∷ k.tree.log.name ∷ []; maps = [] }) c.in-Ok.ensures.same.1.items
    ∙ ap (λ (v : View (Unit {0})). record { logs = j.items.name ∷ v.name ∷ []; maps = [] }) c.in-Ok.ensures.same.1.log in
    names_call_joins (names_of j) _ _ _ (names_call_log (names_of j) j.items.name _ _ _ (inl refl) (c.in-Ok.ensures.appends.log tells))
    (logs_call j.items.name j.tree.log.name j.tree.metadata (logs_of k) _ _ same (c.in-Ok-sync.ensures.names tells))

pub returns-in-Err-sync-clause-names : goal.returns-in-Err-sync-clause-names
returns-in-Err-sync-clause-names g c tells =
    let j = c.args.journal in
    let k = c.in-Ok.made.0 in
    let same : logs_of k ≡ record { logs = j.items.name ∷ j.tree.log.name ∷ []; maps = [] } =
    ap (λ (v : View g.row.O-Cfg.Denot). record { logs = v.name ∷ k.tree.log.name ∷ []; maps = [] }) c.in-Ok.ensures.same.1.items
    ∙ ap (λ (v : View (Unit {0})). record { logs = j.items.name ∷ v.name ∷ []; maps = [] }) c.in-Ok.ensures.same.1.log in
    names_call_joins (names_of j) _ _ _ (names_call_log (names_of j) j.items.name _ _ _ (inl refl) (c.in-Ok.ensures.appends.log tells))
    (logs_call j.items.name j.tree.log.name j.tree.metadata (logs_of k) _ _ same (c.in-Err-sync.ensures.names tells))

pub returns-in-Ok-sync-clause-durable : goal.returns-in-Ok-sync-clause-durable
returns-in-Ok-sync-clause-durable g c tells =
    let same = c.in-Ok-sync.ensures.same in
    let new = g.V.Volume.state c.sync.new.vol in
    let durable = c.in-Ok-sync.ensures.durable tells in
    (subst (λ (v : View g.row.O-Cfg.Denot). IsDurable v new) (sym same.items) durable.0, durable_same c.in-Ok.made.0.tree.log c.in-Ok-sync.journal.tree.log new same.tree.log durable.1)

pub returns-in-Ok-sync-clause-joined : goal.returns-in-Ok-sync-clause-joined
returns-in-Ok-sync-clause-joined g c =
    let j = c.args.journal in
    let k = c.in-Ok.made.0 in
    let t = c.in-Ok-sync.journal in
    let added = c.in-Ok.ensures.same.1 in
    let kept = c.in-Ok-sync.ensures.same in
    ap (λ (v : View g.row.O-Cfg.Denot). two_logs_and_map v.name t.tree.log.name t.tree.metadata) kept.items
    ∙ ap (λ (v : View (Unit {0})). two_logs_and_map k.items.name v.name t.tree.metadata) kept.tree.log
    ∙ ap (two_logs_and_map k.items.name k.tree.log.name) kept.tree.metadata
    ∙ ap (λ (v : View g.row.O-Cfg.Denot). two_logs_and_map v.name k.tree.log.name k.tree.metadata) added.items
    ∙ ap (λ (v : View (Unit {0})). two_logs_and_map j.items.name v.name k.tree.metadata) added.log
    ∙ ap (two_logs_and_map j.items.name j.tree.log.name) added.metadata

pub returns-in-Ok-sync-clause-start : goal.returns-in-Ok-sync-clause-start
returns-in-Ok-sync-clause-start g c tells here =
    let mid = g.V.Volume.state c.append.new.vol in
    let new = g.V.Volume.state c.sync.new.vol in
    let k = c.in-Ok.made.0 in
    let held = c.in-Ok.ensures.held tells in
    let name = ap (λ (v : View g.row.O-Cfg.Denot). (mid.log v.name).start) c.in-Ok.ensures.same.1.items in
    let log = ap (λ (l : Log). l.start) (c.in-Ok.ensures.appends.appended tells) in
    let same = c.in-Ok-sync.ensures.same.items in
    let log_is = c.in-Ok-sync.ensures.contents tells in
    let later : IsHeld k.items new = record {
      start_is = held.start_is ∙ ap (λ (l : Log). l.start) (sym log_is);
      end_is = held.end_is ∙ ap end_of (sym log_is);
    } in
    (ap (λ (v : View g.row.O-Cfg.Denot). v.start) same ∙ held.start_is ∙ name ∙ log ∙ sym here.start_is, subst (λ (v : View g.row.O-Cfg.Denot). IsHeld v new) (sym same) later)

pub returns-in-Ok-sync-clause-blob : goal.returns-in-Ok-sync-clause-blob
returns-in-Ok-sync-clause-blob g c =
    ap (λ (v : View (Unit {0})). v.blob) c.in-Ok-sync.ensures.same.tree.log ∙ ap (λ (v : View (Unit {0})). v.blob) c.in-Ok.ensures.same.1.log

pub returns-in-Err-clause-refused : goal.returns-in-Err-clause-refused
returns-in-Err-clause-refused g c tells here none leaves seated =
    append_outside c.in-Err.error c.from_joined.result c.from_joined.ensures
    (λ x is. let full = c.in-Err.ensures.refused x (ap Err is) in omega (arith, full, leaves))
    (λ x is. let full = (c.in-Err.ensures.overflow x (ap Err is)).1 tells in let end = here.end_is in omega (arith, full, none, end))

pub returns-in-Err-sync-clause-refused : goal.returns-in-Err-sync-clause-refused
returns-in-Err-sync-clause-refused g c tells here none leaves seated =
    outside_above c.in-Err-sync.error c.from_joined-in-Err-sync.result c.from_joined-in-Err-sync.ensures (c.in-Err-sync.ensures.bounded tells (c.in-Ok.ensures.seated tells seated))

pub returns-in-Ok-sync-clause-log : goal.returns-in-Ok-sync-clause-log
returns-in-Ok-sync-clause-log g c tells =
    let mid = g.V.Volume.state c.append.new.vol in
    let new = g.V.Volume.state c.sync.new.vol in
    let same = c.in-Ok.ensures.same.1.items in
    let here = ap (λ (v : View g.row.O-Cfg.Denot). new.log v.name) same in
    let there = ap (λ (v : View g.row.O-Cfg.Denot). mid.log v.name) same in
    sym here ∙ c.in-Ok-sync.ensures.contents tells ∙ there ∙ c.in-Ok.ensures.appends.appended tells

pub returns-in-Err-clause-errors : goal.returns-in-Err-clause-errors
returns-in-Err-clause-errors g c =
    inr (c.in-Err.error, c.from_joined.ensures, append_lifted _ c.in-Err.error c.in-Err.ensures.refused (λ full. (c.in-Err.ensures.full full).0) (λ x is. (c.in-Err.ensures.overflow x is).0))

pub returns-in-Err-sync-clause-errors : goal.returns-in-Err-sync-clause-errors
returns-in-Err-sync-clause-errors g c =
    inr (c.in-Err-sync.error, c.from_joined-in-Err-sync.ensures, flush_wraps g.F.Family.shape c.in-Ok.made.0.tree c.in-Err-sync.error c.in-Err-sync.ensures.errors)

pub returns-in-Err-clause-images : goal.returns-in-Err-clause-images
returns-in-Err-clause-images g c tells marks of =
    begins_not g.F.Family.shape g.H.Hasher.hash g.H.Digest.Spelled.spelling g.O.Spelled.spelling c.args.commit.now marks c.args.journal (g.V.Volume.state c.args.vol.now) (g.V.Volume.state c.append.new.vol) (g.V.Volume.state c.append.new.vol) _ tt (c.in-Err.ensures.images tells [] marks of)

pub returns-in-Ok-sync-clause-images : goal.returns-in-Ok-sync-clause-images
returns-in-Ok-sync-clause-images g c tells marks of =
    let k = c.in-Ok.made.0 in
    let added = c.in-Ok.ensures.same.1 in
    begins_synced g.F.Family.shape g.H.Hasher.hash g.H.Digest.Spelled.spelling g.O.Spelled.spelling c.args.commit.now marks c.args.journal (g.V.Volume.state c.args.vol.now) (g.V.Volume.state c.append.new.vol) (g.V.Volume.state c.sync.new.vol) _ k (Ok c.in-Ok-sync.journal) tt
    (ap (λ (v : View g.row.O-Cfg.Denot). v.name) added.items) (ap (λ (v : View (Unit {0})). v.name) added.log) added.metadata
    (c.in-Ok.ensures.images tells [] marks of) (c.in-Ok-sync.ensures.images tells (c.args.commit.now ∷ []) marks (c.in-Ok.ensures.joined tells [] of))

pub returns-in-Err-sync-clause-images : goal.returns-in-Err-sync-clause-images
returns-in-Err-sync-clause-images g c tells marks of =
    let k = c.in-Ok.made.0 in
    let added = c.in-Ok.ensures.same.1 in
    begins_synced g.F.Family.shape g.H.Hasher.hash g.H.Digest.Spelled.spelling g.O.Spelled.spelling c.args.commit.now marks c.args.journal (g.V.Volume.state c.args.vol.now) (g.V.Volume.state c.append.new.vol) (g.V.Volume.state c.sync.new.vol) _ k (Err c.in-Err-sync.error) tt
    (ap (λ (v : View g.row.O-Cfg.Denot). v.name) added.items) (ap (λ (v : View (Unit {0})). v.name) added.log) added.metadata
    (c.in-Ok.ensures.images tells [] marks of) (c.in-Err-sync.ensures.images tells (c.args.commit.now ∷ []) marks (c.in-Ok.ensures.joined tells [] of))
