use Rattle.std.proofs.Common.{inl, ℕ, List, Ok, take, refl, arith, subst, sym, ◌∙◌, ap}
use Rattle.std.specs.Prelude.{string_bytes}
use Rattle.tree_store.specs.Stored.{TreeStands, size}
use Rattle.tree_store.specs.declared.error.Error.TheVariants as tree
use Rattle.journal_base.specs.View.{View}
use Rattle.volume_base.specs.Log.{Log, cut_to}
use Rattle.volume_base.specs.Moments.{present, PairHas, PairKeeps}
use Rattle.volume_base.specs.Names.{log_and_map, NamesCall}
use Rattle.volume_base.specs.Volume.{Map}
use Rattle.tree_core.specs.Tree.{IsRested}
use Rattle.volume_base.proofs.CallLemmas.{names_call_log, names_call_joins}
use Rattle.volume_base.proofs.JoinLemmas.{went_of, changes_joins, changes_of_writes}
use Rattle.volume_base.proofs.MomentLemmas.{pair_has_after, pair_keeps_joins}
use Rattle.merkle_full.specs.Flushing.{IsFilled}
use Rattle.merkle_full.specs.Lists.{IsFullOf}
use Rattle.merkle_full.specs.Preparing.{cap_of, log_kept, settled_log, Opens}
use Rattle.merkle_full.proofs.PrepareLemmas.{kept_standing, durable_fits, selected_past}
use Rattle.merkle_full.proofs.RecallLemmas.{filled_front}
use Rattle.merkle_full.proofs.RunLemmas.{renamed_durable}
use Rattle.merkle_full.proofs.SettleLemmas.{ends_settled}
use Rattle.merkle_full.proofs.StandLemmas.{pair_idle}
use Rattle.merkle_full.proofs.merkle.Merkle.open_under.Goals as goal

pub returns-clause-named : goal.returns-clause-named
returns-clause-named g c =
    let named = (c.in_ok-recovery.ensures {u = tt}).named in
    let opened = c.in_ok-opened.ensures {u = tt} in
    record {
      nodes_is = ap (λ (v : View _). v.name) opened.from.log ∙ named.nodes_is;
      blob_is = ap (λ (v : View _). v.blob) opened.from.log ∙ named.blob_is;
      unfailed = opened.fresh;
      metadata_is = opened.from.metadata ∙ named.metadata_is;
    }

pub returns-clause-durable : goal.returns-clause-durable
returns-clause-durable g c told =
    renamed_durable (string_bytes c.args.cfg.nodes) _ (g.V.Volume.state c.finish.new.vol) (c.in_ok-recovery.ensures {u = tt}).named.nodes_is ((c.in_ok-opened.ensures {u = tt}).durable told)

pub returns-clause-opens : goal.returns-clause-opens
returns-clause-opens g c told =
    let s = g.F.Family.shape in
    let spelling = g.D.Spelled.spelling in
    let admits = g.D.Read.admits tt in
    let s0 = g.V.Volume.state c.args.vol.now in
    let s1 = g.V.Volume.state c.prepare.new.vol in
    let s2 = g.V.Volume.state c.finish.new.vol in
    let nodes = string_bytes c.args.cfg.nodes in
    let m = s0.map (string_bytes c.args.cfg.metadata) in
    let top = cap_of c.args.max_leaves in
    let r = c.in_ok-recovery.recovery in
    let did = c.in_ok-recovery.ensures {u = tt} in
    let opened = c.in_ok-opened.ensures {u = tt} in
    let t = c.in_ok-opened.opened in
    let opens = did.prepared told in
    let kept = log_kept opens.stored (s0.log nodes) in
    let selects = opens.selects in
    let named = did.named.nodes_is in
    let log_is = ap s1.log named ∙ did.kept told opens.stored opens.stored_is in
    let past = selected_past s r.boundary _ _ top r.complete r.pruned r.complete selects refl in
    let ends = ends_settled s kept r.complete r.boundary r.log.blob (omega (arith, selects.pruned_is, selects.within)) past selects.most.fits in
    let filled = subst (λ (l : Log). IsFilled s spelling r.tree (size s r.complete) (settled_log s r.log.blob r.boundary r.complete l) (s2.log r.log.name)) log_is (opened.log told (did.within told)) in
    let blob = ap (λ (v : View _). v.blob) opened.from.log in
    record {
      boundary = r.boundary;
      complete = r.complete;
      opens = subst (λ (n : ℕ). Opens g.row.F.Denot spelling admits s m (s0.log nodes) top r.boundary r.complete t.boundary n) (sym opened.from.leaves)
          (subst (λ (b : ℕ). Opens g.row.F.Denot spelling admits s m (s0.log nodes) top r.boundary r.complete b r.tree.leaves) (sym opened.from.boundary) opens);
      was = r.tree;
      recalls = did.recalls told;
      parents = did.parents;
      rested = subst (λ (b : ℕ). IsRested s b r.tree t.tree) (sym opened.from.boundary) opened.rested;
      log = record {
        stored = opens.stored;
        stored_is = opens.stored_is;
        log = ap (λ (n : List ℕ). cut_to (s2.log n) (size s r.complete)) (sym named) ∙ filled_front s spelling r.tree (size s r.complete) _ _ filled ends ∙ ap (λ (b : ℕ). settled_log s b r.boundary r.complete kept) (sym blob);
        filled = subst (λ (n : List ℕ). IsFilled s spelling r.tree (size s r.complete) (settled_log s t.log.blob r.boundary r.complete kept) (s2.log n)) named
            (subst (λ (b : ℕ). IsFilled s spelling r.tree (size s r.complete) (settled_log s b r.boundary r.complete kept) (s2.log r.log.name)) (sym blob) filled);
      };
    }

pub returns-clause-map : goal.returns-clause-map
returns-clause-map g c told =
    let s0 = g.V.Volume.state c.args.vol.now in
    let s1 = g.V.Volume.state c.prepare.new.vol in
    let s2 = g.V.Volume.state c.finish.new.vol in
    let metadata = string_bytes c.args.cfg.metadata in
    let did = c.in_ok-recovery.ensures {u = tt} in
    let within = did.within told in
    let named = did.named.metadata_is in
    ap s2.map (sym named) ∙ (c.in_ok-opened.ensures {u = tt}).map told within ∙ sym within.read ∙ ap s1.map named ∙ (did.log told).others.maps metadata

pub returns-clause-full : goal.returns-clause-full
returns-clause-full g c told all durable top stands long digests =
    let s = g.F.Family.shape in
    let h = g.H.Hasher.hash in
    let spelling = g.D.Spelled.spelling in
    let s0 = g.V.Volume.state c.args.vol.now in
    let s1 = g.V.Volume.state c.prepare.new.vol in
    let nodes = string_bytes c.args.cfg.nodes in
    let metadata = string_bytes c.args.cfg.metadata in
    let r = c.in_ok-recovery.recovery in
    let did = c.in_ok-recovery.ensures {u = tt} in
    let s2 = g.V.Volume.state c.finish.new.vol in
    let Q = TreeStands s h spelling all durable top in
    let clock = did.still told (λ stored is. kept_standing s h spelling all durable top (s0.log nodes) (s0.map metadata) stored stands is) in
    let same = did.changes.still told clock in
    let within = did.within told in
    let log = ap s1.log did.named.nodes_is ∙ same.logs nodes in
    let map_is = sym within.read ∙ ap s1.map did.named.metadata_is ∙ same.maps metadata in
    let now = subst (λ (l : Log). Q l r.read) (sym log) (subst (λ (m : Map). Q (s0.log nodes) m) (sym map_is) stands) in
    let opened = c.in_ok-opened.ensures {u = tt} in
    let full = opened.full told h all durable top within now long digests (did.list told all durable top stands) in
    subst (λ (n : ℕ). IsFullOf s h spelling (g.D.Read.admits tt) (take n all) c.in_ok-opened.opened (present s2)) (sym opened.from.leaves) full

pub returns-in_err-opened-clause-names : goal.returns-in_err-opened-clause-names
returns-in_err-opened-clause-names g c told =
    let s = g.F.Family.shape in
    let h = g.H.Hasher.hash in
    let spelling = g.D.Spelled.spelling in
    let s0 = g.V.Volume.state c.args.vol.now in
    let s1 = g.V.Volume.state c.prepare.new.vol in
    let nodes = string_bytes c.args.cfg.nodes in
    let metadata = string_bytes c.args.cfg.metadata in
    let r = c.in_ok-recovery.recovery in
    let did = c.in_ok-recovery.ensures {u = tt} in
    let s2 = g.V.Volume.state c.finish.new.vol in
    let names = log_and_map nodes metadata in
    let call = subst (λ (n : List ℕ). NamesCall (log_and_map n metadata) s1 s2) did.named.nodes_is (subst (λ (m : List ℕ). NamesCall (log_and_map r.log.name m) s1 s2) did.named.metadata_is (c.in_err-opened.ensures.names told)) in
    names_call_joins names s0 s1 s2 (names_call_log names nodes _ s0 s1 (inl refl) (did.log told)) call

pub returns-clause-names : goal.returns-clause-names
returns-clause-names g c told =
    let s = g.F.Family.shape in
    let h = g.H.Hasher.hash in
    let spelling = g.D.Spelled.spelling in
    let s0 = g.V.Volume.state c.args.vol.now in
    let s1 = g.V.Volume.state c.prepare.new.vol in
    let nodes = string_bytes c.args.cfg.nodes in
    let metadata = string_bytes c.args.cfg.metadata in
    let r = c.in_ok-recovery.recovery in
    let did = c.in_ok-recovery.ensures {u = tt} in
    let s2 = g.V.Volume.state c.finish.new.vol in
    let names = log_and_map nodes metadata in
    let call = subst (λ (n : List ℕ). NamesCall (log_and_map n metadata) s1 s2) did.named.nodes_is (subst (λ (m : List ℕ). NamesCall (log_and_map r.log.name m) s1 s2) did.named.metadata_is ((c.in_ok-opened.ensures {u = tt}).names told)) in
    names_call_joins names s0 s1 s2 (names_call_log names nodes _ s0 s1 (inl refl) (did.log told)) call

pub returns-in_err-recovery-clause-images : goal.returns-in_err-recovery-clause-images
returns-in_err-recovery-clause-images g c told all durable top long digests few has =
    let s = g.F.Family.shape in
    let h = g.H.Hasher.hash in
    let spelling = g.D.Spelled.spelling in
    let s0 = g.V.Volume.state c.args.vol.now in
    let s1 = g.V.Volume.state c.prepare.new.vol in
    let nodes = string_bytes c.args.cfg.nodes in
    let metadata = string_bytes c.args.cfg.metadata in
    let Q = TreeStands s h spelling all durable top in
    let did = c.in_err-recovery.ensures in
    let left = g.met.V.Volume.contents_left c.args.vol.now told in
    let stands = has (s0.log nodes) (s0.map metadata) (left.logs nodes) (left.maps metadata) in
    let clock = did.still told (λ stored is. kept_standing s h spelling all durable top (s0.log nodes) (s0.map metadata) stored stands is) in
    pair_idle nodes metadata Q s0 s1 clock (did.log told).images.past has

pub returns-in_err-opened-clause-images : goal.returns-in_err-opened-clause-images
returns-in_err-opened-clause-images g c told all durable top long digests few has =
    let s = g.F.Family.shape in
    let h = g.H.Hasher.hash in
    let spelling = g.D.Spelled.spelling in
    let s0 = g.V.Volume.state c.args.vol.now in
    let s1 = g.V.Volume.state c.prepare.new.vol in
    let nodes = string_bytes c.args.cfg.nodes in
    let metadata = string_bytes c.args.cfg.metadata in
    let r = c.in_ok-recovery.recovery in
    let did = c.in_ok-recovery.ensures {u = tt} in
    let s2 = g.V.Volume.state c.finish.new.vol in
    let Q = TreeStands s h spelling all durable top in
    let left = g.met.V.Volume.contents_left c.args.vol.now told in
    let stands = has (s0.log nodes) (s0.map metadata) (left.logs nodes) (left.maps metadata) in
    let clock = did.still told (λ stored is. kept_standing s h spelling all durable top (s0.log nodes) (s0.map metadata) stored stands is) in
    let one = pair_idle nodes metadata Q s0 s1 clock (did.log told).images.past has in
    let now = pair_has_after nodes metadata Q s0 s1 one in
    let named = subst (λ (n : List ℕ). PairHas s1 n r.metadata Q) (sym did.named.nodes_is) (subst (λ (m : List ℕ). PairHas s1 nodes m Q) (sym did.named.metadata_is) now) in
    let room = durable_fits g.row.F.Denot s h spelling (g.D.Read.admits tt) all durable top (s0.log nodes) (s0.map metadata) (cap_of c.args.max_leaves) r.boundary r.complete r.pruned r.tree.leaves stands (did.prepared told) few in
    let two = c.in_err-opened.ensures.images told h all durable top (did.within told) long digests (did.list told all durable top stands) room named in
    pair_keeps_joins nodes metadata Q s0 s1 s2 one (subst (λ (n : List ℕ). PairKeeps n metadata Q s1 s2) did.named.nodes_is (subst (λ (m : List ℕ). PairKeeps r.log.name m Q s1 s2) did.named.metadata_is two))

pub returns-clause-images : goal.returns-clause-images
returns-clause-images g c told all durable top long digests few has =
    let s = g.F.Family.shape in
    let h = g.H.Hasher.hash in
    let spelling = g.D.Spelled.spelling in
    let s0 = g.V.Volume.state c.args.vol.now in
    let s1 = g.V.Volume.state c.prepare.new.vol in
    let nodes = string_bytes c.args.cfg.nodes in
    let metadata = string_bytes c.args.cfg.metadata in
    let r = c.in_ok-recovery.recovery in
    let did = c.in_ok-recovery.ensures {u = tt} in
    let s2 = g.V.Volume.state c.finish.new.vol in
    let Q = TreeStands s h spelling all durable top in
    let left = g.met.V.Volume.contents_left c.args.vol.now told in
    let stands = has (s0.log nodes) (s0.map metadata) (left.logs nodes) (left.maps metadata) in
    let clock = did.still told (λ stored is. kept_standing s h spelling all durable top (s0.log nodes) (s0.map metadata) stored stands is) in
    let one = pair_idle nodes metadata Q s0 s1 clock (did.log told).images.past has in
    let now = pair_has_after nodes metadata Q s0 s1 one in
    let named = subst (λ (n : List ℕ). PairHas s1 n r.metadata Q) (sym did.named.nodes_is) (subst (λ (m : List ℕ). PairHas s1 nodes m Q) (sym did.named.metadata_is) now) in
    let room = durable_fits g.row.F.Denot s h spelling (g.D.Read.admits tt) all durable top (s0.log nodes) (s0.map metadata) (cap_of c.args.max_leaves) r.boundary r.complete r.pruned r.tree.leaves stands (did.prepared told) few in
    let two = (c.in_ok-opened.ensures {u = tt}).images told h all durable top (did.within told) long digests (did.list told all durable top stands) room named in
    pair_keeps_joins nodes metadata Q s0 s1 s2 one (subst (λ (n : List ℕ). PairKeeps n metadata Q s1 s2) did.named.nodes_is (subst (λ (m : List ℕ). PairKeeps r.log.name m Q s1 s2) did.named.metadata_is two))

pub returns-clause-changes : goal.returns-clause-changes
returns-clause-changes g c =
    let did = c.in_ok-recovery.ensures {u = tt} in
    let t = c.in_ok-opened.opened in
    let then = (c.in_ok-opened.ensures {u = tt}).writes in
    changes_joins g.V.Volume.tells tree.Volume tree.Volume _ _ _ (Ok t) (Ok t) (went_of g.V.Volume.tells tree.Volume _ _ c.in_ok-recovery.recovery did.changes) (changes_of_writes g.V.Volume.tells tree.Volume _ _ (Ok t) then) (λ is. is) then.kept

pub returns-clause-seated : goal.returns-clause-seated
returns-clause-seated g c told = (c.in_ok-opened.ensures {u = tt}).seated told ((c.in_ok-recovery.ensures {u = tt}).within told)
