use Rattle.std.proofs.Common.{◌≡◌, ◌∙◌, ℕ, List, Ok, Err, refl, take, drop, subst, sym, ap}
use Rattle.std.proofs.lemmas.List.{take-append-drop}
use Rattle.journal_base.specs.View.{View}
use Rattle.tree_store.specs.Stored.{TreeStands, size}
use Rattle.tree_core.specs.Tree.{Tree, IsRested}
use Rattle.tree_store.specs.declared.error.Error.TheVariants as tree
use Rattle.volume_base.specs.Log.{Log}
use Rattle.volume_base.specs.Moments.{PairHas, PairKeeps}
use Rattle.volume_base.specs.Names.{log_alone, log_and_map, NamesCall}
use Rattle.volume_base.specs.Volume.{Map, OnlyLeft}
use Rattle.volume_base.proofs.CallLemmas.{names_call_joins}
use Rattle.volume_base.proofs.JoinLemmas.{writes_joins}
use Rattle.volume_base.proofs.MomentLemmas.{pair_has_after, pair_keeps_joins}
use Rattle.merkle_full.proofs.RunLemmas.{same_fault, not_ok}
use Rattle.merkle_full.proofs.PruneRun.{names_wider}
use Rattle.merkle_full.specs.Flushing.{IsFilled}
use Rattle.merkle_full.specs.Lifted.{IsLifted}
use Rattle.merkle_full.specs.Preparing.{settled_log}
use Rattle.merkle_full.proofs.GrownLemmas.{err_same}
use Rattle.merkle_full.proofs.LiftedLemmas.{flush_lifted}
use Rattle.merkle_full.proofs.recovery.Recovery.finish.Goals as goal

pub returns-in_err-settled-clause-images : goal.returns-in_err-settled-clause-images
returns-in_err-settled-clause-images g c told h all durable top within long digests of few has = c.in_err-settled.ensures.images told h all durable top within long few has

pub returns-in_err-opened-clause-names : goal.returns-in_err-opened-clause-names
returns-in_err-opened-clause-names g c told =
    let s0 = g.V.Volume.state c.args.vol.now in
    let s1 = g.V.Volume.state c.settle.new.vol in
    let s2 = g.V.Volume.state c.sync.new.vol in
    let r = c.args.self in
    let t = c.in_ok-settled.settled in
    let did = c.in_ok-settled.ensures {u = tt} in
    let name = ap (λ (v : View _). v.name) did.from.log in
    let call = names_wider r.log.name r.metadata s1 s2 (subst (λ (n : List ℕ). NamesCall (log_alone n) s1 s2) name (c.in_err-opened.ensures.names told)) in
    names_call_joins (log_and_map r.log.name r.metadata) s0 s1 s2 (did.names told) call

pub returns-in_err-opened-clause-images : goal.returns-in_err-opened-clause-images
returns-in_err-opened-clause-images g c told h all durable top within long digests of few has =
    let s0 = g.V.Volume.state c.args.vol.now in
    let s1 = g.V.Volume.state c.settle.new.vol in
    let s2 = g.V.Volume.state c.sync.new.vol in
    let r = c.args.self in
    let t = c.in_ok-settled.settled in
    let did = c.in_ok-settled.ensures {u = tt} in
    let name = ap (λ (v : View _). v.name) did.from.log in
    let Q = TreeStands g.F.Family.shape h g.D.Spelled.spelling all durable top in
    let n = r.tree.leaves in
    let one = did.images told h all durable top within long few has in
    let now = pair_has_after r.log.name r.metadata Q s0 s1 one in
    let left = g.met.V.Volume.contents_left c.args.vol.now told in
    let stands = subst (λ (m : Map). Q (s0.log r.log.name) m) within.read (has (s0.log r.log.name) (s0.map r.metadata) (left.logs r.log.name) (left.maps r.metadata)) in
    let full = did.full told h all durable top within stands long digests of in
    let split = take-append-drop n all in
    let P : List _ → List ℕ → List ℕ → Type 0 = λ l nodes pins. PairHas s1 nodes pins (TreeStands g.F.Family.shape h g.D.Spelled.spelling l durable top) in
    let R : List _ → List ℕ → List ℕ → Type 0 = λ l nodes pins. PairKeeps nodes pins (TreeStands g.F.Family.shape h g.D.Spelled.spelling l durable top) s1 s2 in
    let before = subst (λ (l : List _). P l t.log.name t.metadata) (sym split) (subst (λ (k : List ℕ). P all k t.metadata) (sym name) (subst (λ (k : List ℕ). P all r.log.name k) (sym did.from.metadata) now)) in
    let after = c.in_err-opened.ensures.ahead told h (take n all) (drop n all) durable top full before in
    let two = subst (λ (k : List ℕ). R all r.log.name k) did.from.metadata (subst (λ (k : List ℕ). R all k t.metadata) name (subst (λ (l : List _). R l t.log.name t.metadata) split after)) in
    pair_keeps_joins r.log.name r.metadata Q s0 s1 s2 one two

pub returns-in_err-opened-clause-writes : goal.returns-in_err-opened-clause-writes
returns-in_err-opened-clause-writes g c =
    let did = c.in_ok-settled.ensures {u = tt} in
    let e = c.in_err-opened.field-0.0 in
    let result = c.from_residual-in_err-opened.result in
    let is = c.from_residual-in_err-opened.ensures.1 in
    writes_joins g.V.Volume.tells tree.Volume tree.Volume tree.Volume (g.V.Volume.state c.args.vol.now) (g.V.Volume.state c.settle.new.vol) (g.V.Volume.state c.sync.new.vol) c.in_ok-settled.settled (Err e) result did.writes (c.in_err-opened.ensures.writes did.failed)
    (same_fault result (Err e) e tree.Volume refl is) (λ k. not_ok result (λ d. d ≡ e) _ is)

pub returns-clause-full : goal.returns-clause-full
returns-clause-full g c told h all durable top within stands long digests of = (c.in_ok-opened.ensures {u = tt}).full told h (take c.args.self.tree.leaves all) ((c.in_ok-settled.ensures {u = tt}).full told h all durable top within stands long digests of)

pub returns-clause-durable : goal.returns-clause-durable
returns-clause-durable g c told =
    let s2 = g.V.Volume.state c.sync.new.vol in
    let name = ap (λ (v : View _). v.name) (c.in_ok-settled.ensures {u = tt}).from.log in
    subst (λ (n : List ℕ). OnlyLeft (s2.log_left s2.clock n) (s2.log n)) name ((c.in_ok-opened.ensures {u = tt}).durable told)

pub returns-clause-names : goal.returns-clause-names
returns-clause-names g c told =
    let s0 = g.V.Volume.state c.args.vol.now in
    let s1 = g.V.Volume.state c.settle.new.vol in
    let s2 = g.V.Volume.state c.sync.new.vol in
    let r = c.args.self in
    let t = c.in_ok-settled.settled in
    let did = c.in_ok-settled.ensures {u = tt} in
    let name = ap (λ (v : View _). v.name) did.from.log in
    let call = names_wider r.log.name r.metadata s1 s2 (subst (λ (n : List ℕ). NamesCall (log_alone n) s1 s2) name ((c.in_ok-opened.ensures {u = tt}).names told)) in
    names_call_joins (log_and_map r.log.name r.metadata) s0 s1 s2 (did.names told) call

pub returns-clause-images : goal.returns-clause-images
returns-clause-images g c told h all durable top within long digests of few has =
    let s0 = g.V.Volume.state c.args.vol.now in
    let s1 = g.V.Volume.state c.settle.new.vol in
    let s2 = g.V.Volume.state c.sync.new.vol in
    let r = c.args.self in
    let t = c.in_ok-settled.settled in
    let did = c.in_ok-settled.ensures {u = tt} in
    let name = ap (λ (v : View _). v.name) did.from.log in
    let Q = TreeStands g.F.Family.shape h g.D.Spelled.spelling all durable top in
    let n = r.tree.leaves in
    let one = did.images told h all durable top within long few has in
    let now = pair_has_after r.log.name r.metadata Q s0 s1 one in
    let left = g.met.V.Volume.contents_left c.args.vol.now told in
    let stands = subst (λ (m : Map). Q (s0.log r.log.name) m) within.read (has (s0.log r.log.name) (s0.map r.metadata) (left.logs r.log.name) (left.maps r.metadata)) in
    let full = did.full told h all durable top within stands long digests of in
    let split = take-append-drop n all in
    let P : List _ → List ℕ → List ℕ → Type 0 = λ l nodes pins. PairHas s1 nodes pins (TreeStands g.F.Family.shape h g.D.Spelled.spelling l durable top) in
    let R : List _ → List ℕ → List ℕ → Type 0 = λ l nodes pins. PairKeeps nodes pins (TreeStands g.F.Family.shape h g.D.Spelled.spelling l durable top) s1 s2 in
    let before = subst (λ (l : List _). P l t.log.name t.metadata) (sym split) (subst (λ (k : List ℕ). P all k t.metadata) (sym name) (subst (λ (k : List ℕ). P all r.log.name k) (sym did.from.metadata) now)) in
    let after = (c.in_ok-opened.ensures {u = tt}).ahead told h (take n all) (drop n all) durable top full before in
    let two = subst (λ (k : List ℕ). R all r.log.name k) did.from.metadata (subst (λ (k : List ℕ). R all k t.metadata) name (subst (λ (l : List _). R l t.log.name t.metadata) split after)) in
    pair_keeps_joins r.log.name r.metadata Q s0 s1 s2 one two

pub returns-clause-writes : goal.returns-clause-writes
returns-clause-writes g c =
    let did = c.in_ok-settled.ensures {u = tt} in
    writes_joins g.V.Volume.tells tree.Volume tree.Volume tree.Volume (g.V.Volume.state c.args.vol.now) (g.V.Volume.state c.settle.new.vol) (g.V.Volume.state c.sync.new.vol) c.in_ok-settled.settled (Ok c.in_ok-opened.opened) (Ok c.in_ok-opened.opened) did.writes ((c.in_ok-opened.ensures {u = tt}).writes did.failed) (λ is. is) (λ k. k)

pub returns-clause-fresh : goal.returns-clause-fresh
returns-clause-fresh g c = ap (λ (v : View _). v.failed) (c.in_ok-opened.ensures {u = tt}).same.log ∙ (c.in_ok-settled.ensures {u = tt}).failed

pub returns-clause-rested : goal.returns-clause-rested
returns-clause-rested g c =
    let s = g.F.Family.shape in
    let t = c.in_ok-settled.settled in
    let u = c.in_ok-opened.opened in
    let did = c.in_ok-settled.ensures {u = tt} in
    subst (λ (b : ℕ). IsRested s b c.args.self.tree u.tree) did.from.boundary (subst (λ (m : Tree _). IsRested s t.boundary m u.tree) did.tree (c.in_ok-opened.ensures {u = tt}).rested)

pub returns-clause-log : goal.returns-clause-log
returns-clause-log g c told within =
    let s = g.F.Family.shape in
    let spelling = g.D.Spelled.spelling in
    let s0 = g.V.Volume.state c.args.vol.now in
    let s1 = g.V.Volume.state c.settle.new.vol in
    let s2 = g.V.Volume.state c.sync.new.vol in
    let r = c.args.self in
    let t = c.in_ok-settled.settled in
    let did = c.in_ok-settled.ensures {u = tt} in
    let name = ap (λ (v : View _). v.name) did.from.log in
    let settled = settled_log s r.log.blob r.boundary r.complete (s0.log r.log.name) in
    let now = s2.log r.log.name in
    let one = subst (λ (n : List ℕ). IsFilled s spelling t.tree t.log.end (s1.log n) (s2.log n)) name ((c.in_ok-opened.ensures {u = tt}).filled told) in
    let two = subst (λ (l : Log). IsFilled s spelling t.tree t.log.end l now) (did.log told within) one in
    let three = subst (λ (e : ℕ). IsFilled s spelling t.tree e settled now) (did.ends told within) two in
    subst (λ (m : Tree _). IsFilled s spelling m (size s r.complete) settled now) did.tree three

pub returns-clause-map : goal.returns-clause-map
returns-clause-map g c told within = ((c.in_ok-opened.ensures {u = tt}).names told).others.maps c.args.self.metadata tt ∙ (c.in_ok-settled.ensures {u = tt}).map told within

pub returns-in_err-opened-clause-errors : goal.returns-in_err-opened-clause-errors
returns-in_err-opened-clause-errors g c = let e = c.in_err-opened.field-0.0 in err_same c.from_residual-in_err-opened.result e IsLifted c.from_residual-in_err-opened.ensures.1 (flush_lifted g.F.Family.shape c.in_ok-settled.settled e c.in_err-opened.ensures.errors)
