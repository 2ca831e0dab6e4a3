use Rattle.std.proofs.Common.{◌≡◌, ◌<◌, ◌++◌, ◌∙◌, ℕ, List, [], ◌∷◌, length, map, take, get_or, None, Err, inl, inr, sym, ap, subst, arith}
use Rattle.std.specs.Prelude.{Result}
use Rattle.std.specs.Prelude.{string_bytes}
use Rattle.std.specs.List.{AllByRecursion}
use Rattle.volume_base.specs.Moments.{NamesLeft, Now, present}
use Rattle.volume_base.specs.Names.{Names, NamesCall, two_logs_and_map}
use Rattle.volume_base.proofs.TurnLemmas.{keeps_none}
use Rattle.auth_journal.specs.Standing.{NamesStand, all_synced}
use Rattle.volume_base.proofs.CallLemmas.{names_call_joins}
use Rattle.volume_base.proofs.JoinLemmas.{changes_joins, went_of}
use Rattle.journal_base.specs.Items.{Items, items_of}
use Rattle.journal_base.specs.View.{View}
use Rattle.volume_base.specs.Log.{Log, cut_to}
use Rattle.codec_base.specs.Reads.{one_value}
use Rattle.auth_journal.proofs.LeafLemmas.{all_digests}
use Rattle.chain_core.specs.declared.error.Error.{Error}
use Rattle.chain_core.specs.declared.error.Error.TheVariants.{InvalidInitializationBound, Volume}
use Rattle.keyless_db.specs.Opening.{EndsHere, GoesOn, IsSaidCommit}
use Rattle.auth_journal.specs.Joined.{IsJoinedOf}
use Rattle.auth_journal.proofs.ReadingLemmas.{run_end}
use Rattle.keyless_db.proofs.BeginningLemmas.{begins_behind, begins_none, emptied}
use Rattle.keyless_db.proofs.LocationLemmas.{nothing_taken}
use Rattle.keyless_db.proofs.ListedLemmas.{ends_within, listed_outside}
use Rattle.keyless_db.proofs.ReadLemmas.{all_at}
use Rattle.keyless_db.proofs.OpenLemmas.{built_at, built_some, empty_at, ends_here, if_err, if_ok, if_ok_both, init_of, init_refused, keeps_still, never_err, now_still}
use Rattle.keyless_db.proofs.database.Keyless.init.Goals as goal

pub returns-in-Ok-open_journal-clause-held : goal.returns-in-Ok-open_journal-clause-held
returns-in-Ok-open_journal-clause-held g c =
    let s = g.F.Family.shape in
    let h = g.H.Hasher.hash in
    let m = g.O.Logged.meaning in
    let digest = g.H.Digest.Spelled.spelling in
    let admits = g.H.Digest.Read.admits tt in
    let spelling = g.O.Spelled.spelling in
    let opened = c.in-Ok-open_journal.ensures in
    let items : Items g.row.O.Denot = items_of spelling g.O.Read.admits (g.C.Backing.config c.args.cfg.log) (g.V.Volume.state c.args.vol.now) in
    if_ok _ _ c.opened_from.result
    (λ d held. λ tells list rest durable run few stands all.
    let codec = ap (λ (v : View g.row.O-Cfg.Denot). v.codec) opened.named.0 in
    let may = subst (λ (x : g.row.O-Cfg.Denot). AllByRecursion (g.O.Read.admits x) list) (sym codec) all in
    init_of s h m digest admits spelling items c.args.max_size list c.in-Ok-open_journal.journal.items.end d _ (opened.found tells) (held tells list (opened.listed tells list rest durable run few stands) may))
    c.opened_from.ensures.held

pub returns-in-Ok-open_journal-clause-changes : goal.returns-in-Ok-open_journal-clause-changes
returns-in-Ok-open_journal-clause-changes g c =
    changes_joins g.V.Volume.tells Volume Volume _ _ _ c.opened_from.result c.opened_from.result (went_of g.V.Volume.tells Volume _ _ c.in-Ok-open_journal.journal c.in-Ok-open_journal.ensures.changes)
    c.opened_from.ensures.changes (λ is. is) c.opened_from.ensures.changes.kept

pub returns-in-Ok-open_journal-clause-names : goal.returns-in-Ok-open_journal-clause-names
returns-in-Ok-open_journal-clause-names g c tells =
    let opened = c.in-Ok-open_journal.ensures in
    names_call_joins _ _ _ _ (opened.names tells) (subst (λ (n : Names). NamesCall n (g.V.Volume.state c.open_journal.new.vol) (g.V.Volume.state c.opened_from.new.vol)) opened.joined (c.opened_from.ensures.names tells))

pub returns-in-Ok-open_journal-clause-durable : goal.returns-in-Ok-open_journal-clause-durable
returns-in-Ok-open_journal-clause-durable g c =
    if_ok _ _ c.opened_from.result (λ d held. λ tells. let durable = c.in-Ok-open_journal.ensures.durable tells in held tells durable.0 durable.1) c.opened_from.ensures.durable

pub returns-in-Ok-open_journal-clause-joined : goal.returns-in-Ok-open_journal-clause-joined
returns-in-Ok-open_journal-clause-joined g c =
    if_ok _ _ c.opened_from.result (λ d same. same ∙ c.in-Ok-open_journal.ensures.joined) c.opened_from.ensures.joined

pub returns-in-Ok-open_journal-clause-rests : goal.returns-in-Ok-open_journal-clause-rests
returns-in-Ok-open_journal-clause-rests g c =
    if_ok _ _ c.opened_from.result (λ d rests. rests c.in-Ok-open_journal.ensures.rests) c.opened_from.ensures.rests

pub returns-in-Ok-open_journal-clause-start : goal.returns-in-Ok-open_journal-clause-start
returns-in-Ok-open_journal-clause-start g c =
    if_ok _ _ c.opened_from.result
    (λ d began. λ tells. let opened = c.in-Ok-open_journal.ensures.start tells in let is = began tells opened.1 in (is.0 ∙ opened.0, is.1)) c.opened_from.ensures.start

pub returns-in-Ok-open_journal-clause-past : goal.returns-in-Ok-open_journal-clause-past
returns-in-Ok-open_journal-clause-past g c =
    let items : Items g.row.O.Denot = items_of g.O.Spelled.spelling g.O.Read.admits (g.C.Backing.config c.args.cfg.log) (g.V.Volume.state c.args.vol.now) in
    let opened = c.in-Ok-open_journal.ensures in
    let j = c.in-Ok-open_journal.journal in
    if_ok _ _ c.opened_from.result
    (λ d past. λ tells empty.
    let at = opened.start tells in
    empty_at items (IsSaidCommit g.O.Logged.meaning) c.args.max_size j.items.end (opened.found tells) empty (λ some. subst (λ n. n < j.items.end) at.0 (past tells at.1 some)))
    c.opened_from.ensures.past

pub returns-in-Ok-open_journal-clause-blob : goal.returns-in-Ok-open_journal-clause-blob
returns-in-Ok-open_journal-clause-blob g c =
    if_ok _ _ c.opened_from.result (λ d same. same ∙ c.in-Ok-open_journal.ensures.blob) c.opened_from.ensures.blob

pub returns-in-Err-open_journal-clause-bound_only : goal.returns-in-Err-open_journal-clause-bound_only
returns-in-Err-open_journal-clause-bound_only g c is = absurd (let same : c.in-Err-open_journal.error ≡ InvalidInitializationBound = cc in c.in-Err-open_journal.ensures.other same)

pub returns-in-Ok-open_journal-clause-bound_only : goal.returns-in-Ok-open_journal-clause-bound_only
returns-in-Ok-open_journal-clause-bound_only g c is = never_err InvalidInitializationBound _ c.opened_from.result c.opened_from.ensures.other is

pub returns-in-Err-open_journal-clause-refused : goal.returns-in-Err-open_journal-clause-refused
returns-in-Err-open_journal-clause-refused g c tells some = inr (inl (c.in-Err-open_journal.ensures.refused tells))

pub returns-in-Ok-open_journal-clause-refused : goal.returns-in-Ok-open_journal-clause-refused
returns-in-Ok-open_journal-clause-refused g c tells some =
    let m = g.O.Logged.meaning in
    let spelling = g.O.Spelled.spelling in
    let digest = g.H.Digest.Spelled.spelling in
    let admits = g.H.Digest.Read.admits tt in
    let view = g.C.Backing.config c.args.cfg.log in
    let old = g.V.Volume.state c.args.vol.now in
    let mid = g.V.Volume.state c.open_journal.new.vol in
    let items : Items g.row.O.Denot = items_of spelling g.O.Read.admits view old in
    let opened = c.in-Ok-open_journal.ensures in
    let j = c.in-Ok-open_journal.journal in
    let at = opened.start tells in
    let found = opened.found tells in
    let name = ap (λ (v : View g.row.O-Cfg.Denot). mid.log v.name) opened.named.0 in
    let codec = ap (λ (v : View g.row.O-Cfg.Denot). v.codec) opened.named.0 in
    let cut : mid.log j.items.name ≡ cut_to (old.log view.name) j.items.end = name ∙ opened.cut tells in
    let ends : 0 < j.items.end → EndsHere m (items_of spelling g.O.Read.admits j.items mid) j.items.end = λ past.
    subst (λ (x : g.row.O-Cfg.Denot). EndsHere m (record { log = mid.log j.items.name; spelling = spelling; admits = g.O.Read.admits x }) j.items.end) (sym codec)
    (ends_here m items (mid.log j.items.name) c.args.max_size j.items.end cut found past) in
    if_err _ _ c.opened_from.result
    (λ e why. init_refused g.V.Volume.tells digest admits g.F.Family.shape (old.map (string_bytes c.args.cfg.merkle.metadata)) (old.log (string_bytes c.args.cfg.merkle.nodes)) items m c.args.max_size _ j.items.end
    (ap (λ (l : Log). l.start) cut) found e why)
    (c.opened_from.ensures.refused tells at.1 (opened.seated tells) ends)

pub returns-in-Ok-open_journal-clause-opens : goal.returns-in-Ok-open_journal-clause-opens
returns-in-Ok-open_journal-clause-opens g c =
    let view = g.C.Backing.config c.args.cfg.log in
    let old = g.V.Volume.state c.args.vol.now in
    let mid = g.V.Volume.state c.open_journal.new.vol in
    let new = g.V.Volume.state c.opened_from.new.vol in
    let opened = c.in-Ok-open_journal.ensures in
    let j = c.in-Ok-open_journal.journal in
    let first = g.O.Spelled.spelling (g.O.KeylessOperation.committed None 0) in
    let name = ap (λ (v : View g.row.O-Cfg.Denot). mid.log v.name) opened.named.0 in
    if_ok_both _ _ _ c.opened_from.result
    (λ d at log. λ tells.
    let cut : mid.log j.items.name ≡ cut_to (old.log view.name) j.items.end = name ∙ opened.cut tells in
    let moved = subst (λ (v : View g.row.O-Cfg.Denot). GoesOn first j.items.end (mid.log j.items.name) (new.log v.name)) opened.named.0 (log tells) in
    (j.items.end, opened.found tells, at, subst (λ (l : Log). GoesOn first j.items.end l (new.log view.name)) cut moved))
    c.opened_from.ensures.at c.opened_from.ensures.log

pub returns-in-Err-open_journal-clause-errors : goal.returns-in-Err-open_journal-clause-errors
returns-in-Err-open_journal-clause-errors g c some = c.in-Err-open_journal.ensures.errors

pub returns-in-Ok-open_journal-clause-errors : goal.returns-in-Ok-open_journal-clause-errors
returns-in-Ok-open_journal-clause-errors g c some = c.opened_from.ensures.errors

pub returns-in-Ok-open_journal-clause-some : goal.returns-in-Ok-open_journal-clause-some
returns-in-Ok-open_journal-clause-some g c =
    let first = g.O.KeylessOperation.committed None 0 in
    if_ok _ _ c.opened_from.result (λ d at. built_some first c.in-Ok-open_journal.journal.items.end d at) c.opened_from.ensures.at

pub returns-in-Ok-open_journal-clause-outside : goal.returns-in-Ok-open_journal-clause-outside
returns-in-Ok-open_journal-clause-outside g c tells some list rest durable run few stands all opening =
    let s = g.F.Family.shape in
    let h = g.H.Hasher.hash in
    let spelling = g.O.Spelled.spelling in
    let digest = g.H.Digest.Spelled.spelling in
    let admits = g.H.Digest.Read.admits tt in
    let view = g.C.Backing.config c.args.cfg.log in
    let old = g.V.Volume.state c.args.vol.now in
    let items : Items g.row.O.Denot = items_of spelling g.O.Read.admits view old in
    let one = λ (x y : g.row.O.Denot). one_value _ _ _ (g.met.O.Read.lawful view.codec) x y in
    let digests = all_digests s h admits (map spelling (list ++ rest)) (λ m. g.met.H.Digest.Digest.allowed (h.digest m) (ap length (sym (g.met.H.Hasher.same_bytes (h.digest m))) ∙ g.met.H.Hasher.one_size m)) in
    listed_outside g.row.F.Denot s h g.met.F.Family.lawful g.met.F.Family.keeps g.met.F.Family.small digest admits g.O.Logged.meaning items one (old.log (string_bytes c.args.cfg.merkle.nodes))
    (old.map (string_bytes c.args.cfg.merkle.metadata)) c.args.max_size list rest durable run few stands digests (λ i x at. all_at (g.O.Read.admits view.codec) list i x all at) opening g.V.Volume.tells tells c.opened_from.result
    (returns-in-Ok-open_journal-clause-refused g c tells some)

pub returns-in-Err-open_journal-clause-outside : goal.returns-in-Err-open_journal-clause-outside
returns-in-Err-open_journal-clause-outside g c tells some list rest durable run few stands all opening =
    let s = g.F.Family.shape in
    let h = g.H.Hasher.hash in
    let spelling = g.O.Spelled.spelling in
    let digest = g.H.Digest.Spelled.spelling in
    let admits = g.H.Digest.Read.admits tt in
    let view = g.C.Backing.config c.args.cfg.log in
    let old = g.V.Volume.state c.args.vol.now in
    let items : Items g.row.O.Denot = items_of spelling g.O.Read.admits view old in
    let one = λ (x y : g.row.O.Denot). one_value _ _ _ (g.met.O.Read.lawful view.codec) x y in
    let digests = all_digests s h admits (map spelling (list ++ rest)) (λ m. g.met.H.Digest.Digest.allowed (h.digest m) (ap length (sym (g.met.H.Hasher.same_bytes (h.digest m))) ∙ g.met.H.Hasher.one_size m)) in
    let refused : Result (Unit {0}) (Error g.row.F.Denot) = Err c.in-Err-open_journal.error in
    listed_outside g.row.F.Denot s h g.met.F.Family.lawful g.met.F.Family.keeps g.met.F.Family.small digest admits g.O.Logged.meaning items one (old.log (string_bytes c.args.cfg.merkle.nodes))
    (old.map (string_bytes c.args.cfg.merkle.metadata)) c.args.max_size list rest durable run few stands digests (λ i x at. all_at (g.O.Read.admits view.codec) list i x all at) opening g.V.Volume.tells tells refused
    (returns-in-Err-open_journal-clause-refused g c tells some)

pub returns-in-Err-clause-images : goal.returns-in-Err-clause-images
returns-in-Err-clause-images g c tells list rest marks past within run few has =
    let names = two_logs_and_map (g.C.Backing.config c.args.cfg.log).name (string_bytes c.args.cfg.merkle.nodes) (string_bytes c.args.cfg.merkle.metadata) in
    keeps_none (NamesLeft names) (NamesStand g.F.Family.shape g.H.Hasher.hash g.H.Digest.Spelled.spelling g.O.Spelled.spelling (list ++ rest) marks (g.C.Backing.config c.args.cfg.log).name (string_bytes c.args.cfg.merkle.nodes) (string_bytes c.args.cfg.merkle.metadata)) (g.V.Volume.state c.args.vol.now) has

pub returns-in-Err-open_journal-clause-images : goal.returns-in-Err-open_journal-clause-images
returns-in-Err-open_journal-clause-images g c tells list rest marks past within run few = c.in-Err-open_journal.ensures.images tells list rest marks within run few

pub returns-in-Ok-open_journal-clause-images : goal.returns-in-Ok-open_journal-clause-images
returns-in-Ok-open_journal-clause-images g c tells list rest marks past within run few has =
    let old = g.V.Volume.state c.args.vol.now in
    let mid = g.V.Volume.state c.open_journal.new.vol in
    let new = g.V.Volume.state c.opened_from.new.vol in
    let opened = c.in-Ok-open_journal.ensures in
    let still = c.opened_from.ensures.still tells (past c.in-Ok-open_journal.journal.items.end (opened.found tells)) in
    let names = two_logs_and_map (g.C.Backing.config c.args.cfg.log).name (string_bytes c.args.cfg.merkle.nodes) (string_bytes c.args.cfg.merkle.metadata) in
    keeps_still names (NamesStand g.F.Family.shape g.H.Hasher.hash g.H.Digest.Spelled.spelling g.O.Spelled.spelling (list ++ rest) marks (g.C.Backing.config c.args.cfg.log).name (string_bytes c.args.cfg.merkle.nodes) (string_bytes c.args.cfg.merkle.metadata)) old mid new still.0 still.1 (opened.images tells list rest marks within run few has)

pub returns-in-Ok-open_journal-clause-settled : goal.returns-in-Ok-open_journal-clause-settled
returns-in-Ok-open_journal-clause-settled g c =
    let old = g.V.Volume.state c.args.vol.now in
    let mid = g.V.Volume.state c.open_journal.new.vol in
    let new = g.V.Volume.state c.opened_from.new.vol in
    let opened = c.in-Ok-open_journal.ensures in
    let j = c.in-Ok-open_journal.journal in
    let names = two_logs_and_map (g.C.Backing.config c.args.cfg.log).name (string_bytes c.args.cfg.merkle.nodes) (string_bytes c.args.cfg.merkle.metadata) in
    if_ok _ _ c.opened_from.result
    (λ d at. λ tells list rest marks past within run few has.
    let some = past j.items.end (opened.found tells) in
    let still = c.opened_from.ensures.still tells some in
    let sized = built_at (g.O.KeylessOperation.committed None 0) j.items.end d some at in
    subst (λ (n : ℕ). Now (NamesLeft names) (NamesStand g.F.Family.shape g.H.Hasher.hash g.H.Digest.Spelled.spelling g.O.Spelled.spelling (take n (list ++ rest)) (all_synced n marks) (g.C.Backing.config c.args.cfg.log).name (string_bytes c.args.cfg.merkle.nodes) (string_bytes c.args.cfg.merkle.metadata)) new) (sym sized)
    (now_still names (NamesStand g.F.Family.shape g.H.Hasher.hash g.H.Digest.Spelled.spelling g.O.Spelled.spelling (take j.items.end (list ++ rest)) (all_synced j.items.end marks) (g.C.Backing.config c.args.cfg.log).name (string_bytes c.args.cfg.merkle.nodes) (string_bytes c.args.cfg.merkle.metadata)) old mid new still.0 still.1 (opened.settled tells list rest marks within run few has)))
    c.opened_from.ensures.at

pub returns-in-Err-clause-begins : goal.returns-in-Err-clause-begins
returns-in-Err-clause-begins g c tells marks some within run has =
    absurd (let same : c.in-Err.error ≡ InvalidInitializationBound = c.in-Err.ensures.only in some (c.in-Err.ensures.zero.0 (ap Err same)))

pub returns-in-Err-open_journal-clause-begins : goal.returns-in-Err-open_journal-clause-begins
returns-in-Err-open_journal-clause-begins g c tells marks some within run has =
    let view = g.C.Backing.config c.args.cfg.log in
    let nodes = string_bytes c.args.cfg.merkle.nodes in
    let metadata = string_bytes c.args.cfg.merkle.metadata in
    let old = g.V.Volume.state c.args.vol.now in
    let mid = g.V.Volume.state c.open_journal.new.vol in
    begins_none g.F.Family.shape g.H.Hasher.hash g.H.Digest.Spelled.spelling g.O.Spelled.spelling (g.O.KeylessOperation.committed None 0) marks view.name nodes metadata old mid _ tt
    (c.in-Err-open_journal.ensures.images tells [] (g.O.KeylessOperation.committed None 0 ∷ []) marks within run (omega arith) has)

pub returns-in-Ok-open_journal-clause-begins : goal.returns-in-Ok-open_journal-clause-begins
returns-in-Ok-open_journal-clause-begins g c tells marks some within run has =
    let view = g.C.Backing.config c.args.cfg.log in
    let nodes = string_bytes c.args.cfg.merkle.nodes in
    let metadata = string_bytes c.args.cfg.merkle.metadata in
    let old = g.V.Volume.state c.args.vol.now in
    let mid = g.V.Volume.state c.open_journal.new.vol in
    let new = g.V.Volume.state c.opened_from.new.vol in
    let items : Items g.row.O.Denot = items_of g.O.Spelled.spelling g.O.Read.admits view old in
    let opened = c.in-Ok-open_journal.ensures in
    let j = c.in-Ok-open_journal.journal in
    let left = g.met.V.Volume.contents_left c.args.vol.now tells in
    let here = has (present old) (record { logs = (left.logs view.name, (left.logs nodes, tt)); maps = (left.maps metadata, tt) }) in
    let ends = run_end g.O.Spelled.spelling [] (old.log view.name) run in
    let reach = ends_within g.O.Logged.meaning items c.args.max_size j.items.end (opened.found tells) in
    let zero : j.items.end ≡ 0 = omega (arith, ends, reach) in
    let first = g.O.KeylessOperation.committed None 0 in
    let kept = within j.items.end (opened.found tells) in
    let listed = opened.listed tells [] (first ∷ []) marks.node_durable run (omega arith) here.tree in
    let gone = emptied g.F.Family.shape g.H.Hasher.hash g.H.Digest.Spelled.spelling g.O.Spelled.spelling first marks j.items.end view.name nodes metadata mid zero kept.0 kept.1
    (opened.settled tells [] (first ∷ []) marks within run (omega arith) has) in
    let none : take j.items.end (let nil : List g.row.O.Denot = [] in nil) ≡ [] = ap (λ n. take n (let nil : List g.row.O.Denot = [] in nil)) zero ∙ nothing_taken [] in
    let empty = subst (λ (xs : List g.row.O.Denot). IsJoinedOf g.F.Family.shape g.H.Hasher.hash g.H.Digest.Spelled.spelling (g.H.Digest.Read.admits tt) g.O.Spelled.spelling xs j (present mid)) none listed.joined in
    begins_behind g.F.Family.shape g.H.Hasher.hash g.H.Digest.Spelled.spelling g.O.Spelled.spelling (g.O.KeylessOperation.committed None 0) marks view.name nodes metadata j.items.name j.tree.log.name j.tree.metadata old mid new c.opened_from.result
    (ap (λ (n : Names). get_or n.logs 0 []) opened.joined) (ap (λ (n : Names). get_or n.logs 1 []) opened.joined) (ap (λ (n : Names). get_or n.maps 0 []) opened.joined)
    (opened.images tells [] (first ∷ []) marks within run (omega arith) has) gone (c.opened_from.ensures.begins tells marks zero empty)
