use Rattle.std.proofs.Common.{◌≡◌, inl, inr, ◌≤◌, ℕ, List, Err, take, refl, sym, ◌∙◌, ap, subst, arith}
use Rattle.std.specs.Prelude.{◌⊎◌, ◌^◌, string_bytes, unwrap_or}
use Rattle.std.specs.Option.{option_map}
use Rattle.journal_base.specs.View.{View, seen_of}
use Rattle.volume_base.specs.Log.{Log}
use Rattle.volume_base.specs.Moments.{present, PairKeeps}
use Rattle.volume_base.specs.Names.{log_and_map, NamesCall}
use Rattle.volume_base.specs.Volume.{Map}
use Rattle.volume_base.proofs.CallLemmas.{names_call_idle, names_call_joins}
use Rattle.volume_base.proofs.JoinLemmas.{went_of_reads, went_joins, changes_of_reads, changes_of_writes, changes_joins}
use Rattle.volume_base.proofs.ReadLemmas.{only_read_none, only_read_joins, reads_joins}
use Rattle.tree_store.specs.Stored.{size, IsMapOf}
use Rattle.tree_store.specs.declared.error.Error.TheVariants as tree
use Rattle.tree_core.specs.Tree.{Tree, IsOf}
use Rattle.merkle_full.specs.Lists.{IsFullOf}
use Rattle.merkle_full.specs.Preparing.{contents_of}
use Rattle.merkle_full.specs.Syncing.{BeginsInOrder, KeepsOf, log_begun, IsMapBegun, IsMiscounted, IsBegunFrom, NotBegun}
use Rattle.merkle_full.proofs.BeginLemmas.{begun_is_map, held_later, same_begun, begun_after_reads, begun_full}
use Rattle.merkle_full.proofs.GrownLemmas.{err_same}
use Rattle.merkle_full.proofs.RunLemmas.{renamed_durable, same_fault, not_ok}
use Rattle.merkle_full.proofs.StandLemmas.{pair_idle}
use Rattle.merkle_full.specs.Recovering.{Source, IsRecalled}
use Rattle.merkle_full.specs.Lifted.{IsLifted}
use Rattle.merkle_full.proofs.LiftedLemmas.{outside_lifted}
use Rattle.merkle_full.proofs.merkle.Merkle.init_sync.Goals as goal

-- ---- the count is tested first

pub returns-in_err-check_count-clause-refused : goal.returns-in_err-check_count-clause-refused
returns-in_err-check_count-clause-refused g c told =
    let s = g.F.Family.shape in
    let s0 = g.V.Volume.state c.args.vol.now in
    let given = option_map (λ v. v.items) c.args.cfg.pinned_nodes in
    let contents = contents_of g.D.Spelled.spelling (g.D.Read.admits tt) (s0.map (string_bytes c.args.cfg.config.metadata)) (s0.log (string_bytes c.args.cfg.config.nodes)) in
    let e = c.in_err-check_count.field-0.0 in
    let why = c.in_err-check_count.ensures.refused in
    err_same _ e (NotBegun contents s c.args.cfg.start c.args.cfg.end given) c.from_residual.ensures.1 (inr (inl (why.0, subst (λ (n : ℕ). IsMiscounted s n given) c.as_u64-start.ensures why.1)))

-- ---- what is read

pub returns-in_err-nodes-clause-names : goal.returns-in_err-nodes-clause-names
returns-in_err-nodes-clause-names g c told = let reads = c.in_err-nodes.ensures.reads in names_call_idle _ _ _ reads.clock (reads.past told) (reads.contents told)

pub returns-in_err-nodes-clause-images : goal.returns-in_err-nodes-clause-images
returns-in_err-nodes-clause-images g c told = let reads = c.in_err-nodes.ensures.reads in pair_idle _ _ _ _ _ reads.clock (reads.past told) (λ log m left_log left_map. inl (left_log, left_map))

pub returns-in_err-plan-clause-refused : goal.returns-in_err-plan-clause-refused
returns-in_err-plan-clause-refused g c told =
    let s = g.F.Family.shape in
    let spelling = g.D.Spelled.spelling in
    let admits = g.D.Read.admits tt in
    let s0 = g.V.Volume.state c.args.vol.now in
    let s1 = g.V.Volume.state c.seen_nodes.new.vol in
    let s2 = g.V.Volume.state c.ready.new.vol in
    let nodes = string_bytes c.args.cfg.config.nodes in
    let metadata = string_bytes c.args.cfg.config.metadata in
    let given = option_map (λ v. v.items) c.args.cfg.pinned_nodes in
    let contents = contents_of spelling admits (s0.map metadata) (s0.log nodes) in
    let seen = c.in_ok-nodes.ensures {u = tt} in
    let view = seen_of c.in_ok-nodes.nodes in
    let name = ap (λ (v : View _). v.name) seen.made in
    let start_is = c.as_u64-start.ensures in
    let end_is = c.as_u64-end.ensures in
    let held1 = held_later view s0 s1 (seen.reads.contents told) (seen.held told) in
    let map_is = ap s1.map c.as_str.ensures.value ∙ (seen.reads.contents told).maps metadata in
    let log_is = ap s1.log name ∙ (seen.reads.contents told).logs nodes in
    let e = c.in_err-plan.field-0.0 in
    err_same _ e (NotBegun contents s c.args.cfg.start c.args.cfg.end given) c.from_residual-in_err-plan.ensures.1
    (same_begun spelling admits (λ src n k. NotBegun src s n k given e) _ (s0.map metadata) _ (s0.log nodes) _ c.args.cfg.start _ c.args.cfg.end map_is log_is start_is end_is (c.in_err-plan.ensures.refused told held1))

pub returns-in_err-plan-clause-unwritten : goal.returns-in_err-plan-clause-unwritten
returns-in_err-plan-clause-unwritten g c told =
    let e = c.in_err-plan.field-0.0 in
    err_same _ e _ c.from_residual-in_err-plan.ensures.1 (inr (c.in_err-plan.ensures.reads.clock ∙ (c.in_ok-nodes.ensures {u = tt}).reads.clock))

pub returns-in_err-plan-clause-names : goal.returns-in_err-plan-clause-names
returns-in_err-plan-clause-names g c told =
    let s = g.F.Family.shape in
    let spelling = g.D.Spelled.spelling in
    let admits = g.D.Read.admits tt in
    let s0 = g.V.Volume.state c.args.vol.now in
    let s1 = g.V.Volume.state c.seen_nodes.new.vol in
    let s2 = g.V.Volume.state c.ready.new.vol in
    let nodes = string_bytes c.args.cfg.config.nodes in
    let metadata = string_bytes c.args.cfg.config.metadata in
    let given = option_map (λ v. v.items) c.args.cfg.pinned_nodes in
    let contents = contents_of spelling admits (s0.map metadata) (s0.log nodes) in
    let seen = c.in_ok-nodes.ensures {u = tt} in
    let view = seen_of c.in_ok-nodes.nodes in
    let name = ap (λ (v : View _). v.name) seen.made in
    let start_is = c.as_u64-start.ensures in
    let end_is = c.as_u64-end.ensures in
    let one = only_read_joins _ _ _ _ _ _ (only_read_none g.V.Volume.tells s0) seen.reads in
    let e = c.in_err-plan.field-0.0 in
    let result = c.from_residual-in_err-plan.result in
    let both = reads_joins _ _ _ _ _ _ _ one c.in_err-plan.ensures.reads (same_fault result (Err e) e tree.Volume refl c.from_residual-in_err-plan.ensures.1) (not_ok result (λ d. d ≡ e) _ c.from_residual-in_err-plan.ensures.1) in
    names_call_idle _ s0 s2 both.clock (both.past told) (both.contents told)

pub returns-in_err-plan-clause-images : goal.returns-in_err-plan-clause-images
returns-in_err-plan-clause-images g c told =
    let s = g.F.Family.shape in
    let spelling = g.D.Spelled.spelling in
    let admits = g.D.Read.admits tt in
    let s0 = g.V.Volume.state c.args.vol.now in
    let s1 = g.V.Volume.state c.seen_nodes.new.vol in
    let s2 = g.V.Volume.state c.ready.new.vol in
    let nodes = string_bytes c.args.cfg.config.nodes in
    let metadata = string_bytes c.args.cfg.config.metadata in
    let given = option_map (λ v. v.items) c.args.cfg.pinned_nodes in
    let contents = contents_of spelling admits (s0.map metadata) (s0.log nodes) in
    let seen = c.in_ok-nodes.ensures {u = tt} in
    let view = seen_of c.in_ok-nodes.nodes in
    let name = ap (λ (v : View _). v.name) seen.made in
    let start_is = c.as_u64-start.ensures in
    let end_is = c.as_u64-end.ensures in
    let one = only_read_joins _ _ _ _ _ _ (only_read_none g.V.Volume.tells s0) seen.reads in
    let e = c.in_err-plan.field-0.0 in
    let result = c.from_residual-in_err-plan.result in
    let both = reads_joins _ _ _ _ _ _ _ one c.in_err-plan.ensures.reads (same_fault result (Err e) e tree.Volume refl c.from_residual-in_err-plan.ensures.1) (not_ok result (λ d. d ≡ e) _ c.from_residual-in_err-plan.ensures.1) in
    pair_idle nodes metadata (BeginsInOrder contents s c.args.cfg.start given s0 nodes metadata) s0 s2 both.clock (both.past told) (λ log m left_log left_map. inl (left_log, left_map))

pub returns-in_err-plan-clause-changes : goal.returns-in_err-plan-clause-changes
returns-in_err-plan-clause-changes g c =
    let s = g.F.Family.shape in
    let spelling = g.D.Spelled.spelling in
    let admits = g.D.Read.admits tt in
    let s0 = g.V.Volume.state c.args.vol.now in
    let s1 = g.V.Volume.state c.seen_nodes.new.vol in
    let s2 = g.V.Volume.state c.ready.new.vol in
    let nodes = string_bytes c.args.cfg.config.nodes in
    let metadata = string_bytes c.args.cfg.config.metadata in
    let given = option_map (λ v. v.items) c.args.cfg.pinned_nodes in
    let contents = contents_of spelling admits (s0.map metadata) (s0.log nodes) in
    let seen = c.in_ok-nodes.ensures {u = tt} in
    let view = seen_of c.in_ok-nodes.nodes in
    let name = ap (λ (v : View _). v.name) seen.made in
    let start_is = c.as_u64-start.ensures in
    let end_is = c.as_u64-end.ensures in
    let one = only_read_joins _ _ _ _ _ _ (only_read_none g.V.Volume.tells s0) seen.reads in
    let e = c.in_err-plan.field-0.0 in
    let result = c.from_residual-in_err-plan.result in
    changes_of_reads g.V.Volume.tells tree.Volume s0 s2 result (reads_joins _ _ _ _ _ _ _ one c.in_err-plan.ensures.reads (same_fault result (Err e) e tree.Volume refl c.from_residual-in_err-plan.ensures.1) (not_ok result (λ d. d ≡ e) _ c.from_residual-in_err-plan.ensures.1))

-- ---- what is written

pub returns-in_err-tree-clause-names : goal.returns-in_err-tree-clause-names
returns-in_err-tree-clause-names g c told =
    let s = g.F.Family.shape in
    let spelling = g.D.Spelled.spelling in
    let admits = g.D.Read.admits tt in
    let s0 = g.V.Volume.state c.args.vol.now in
    let s1 = g.V.Volume.state c.seen_nodes.new.vol in
    let s2 = g.V.Volume.state c.ready.new.vol in
    let nodes = string_bytes c.args.cfg.config.nodes in
    let metadata = string_bytes c.args.cfg.config.metadata in
    let given = option_map (λ v. v.items) c.args.cfg.pinned_nodes in
    let contents = contents_of spelling admits (s0.map metadata) (s0.log nodes) in
    let seen = c.in_ok-nodes.ensures {u = tt} in
    let view = seen_of c.in_ok-nodes.nodes in
    let name = ap (λ (v : View _). v.name) seen.made in
    let start_is = c.as_u64-start.ensures in
    let end_is = c.as_u64-end.ensures in
    let s3 = g.V.Volume.state c.begin.new.vol in
    let plan = c.in_ok-plan.ensures {u = tt} in
    let one = only_read_joins _ _ _ _ _ _ (only_read_none g.V.Volume.tells s0) seen.reads in
    let two = only_read_joins _ _ _ _ _ _ one plan.reads in
    let names = log_and_map nodes metadata in
    names_call_joins names s0 s2 s3 (names_call_idle names s0 s2 two.clock (two.past told) (two.contents told)) (subst (λ (n : List ℕ). NamesCall (log_and_map n metadata) s2 s3) name (c.in_err-tree.ensures.names told))

pub returns-in_err-tree-clause-images : goal.returns-in_err-tree-clause-images
returns-in_err-tree-clause-images g c told =
    let s = g.F.Family.shape in
    let spelling = g.D.Spelled.spelling in
    let admits = g.D.Read.admits tt in
    let s0 = g.V.Volume.state c.args.vol.now in
    let s1 = g.V.Volume.state c.seen_nodes.new.vol in
    let s2 = g.V.Volume.state c.ready.new.vol in
    let nodes = string_bytes c.args.cfg.config.nodes in
    let metadata = string_bytes c.args.cfg.config.metadata in
    let given = option_map (λ v. v.items) c.args.cfg.pinned_nodes in
    let contents = contents_of spelling admits (s0.map metadata) (s0.log nodes) in
    let seen = c.in_ok-nodes.ensures {u = tt} in
    let view = seen_of c.in_ok-nodes.nodes in
    let name = ap (λ (v : View _). v.name) seen.made in
    let start_is = c.as_u64-start.ensures in
    let end_is = c.as_u64-end.ensures in
    let held1 = held_later view s0 s1 (seen.reads.contents told) (seen.held told) in
    let map_is = ap s1.map c.as_str.ensures.value ∙ (seen.reads.contents told).maps metadata in
    let log_is = ap s1.log name ∙ (seen.reads.contents told).logs nodes in
    let s3 = g.V.Volume.state c.begin.new.vol in
    let plan = c.in_ok-plan.ensures {u = tt} in
    let one = only_read_joins _ _ _ _ _ _ (only_read_none g.V.Volume.tells s0) seen.reads in
    let two = only_read_joins _ _ _ _ _ _ one plan.reads in
    let has = same_begun spelling admits (λ src n k. IsMapBegun src s n given c.in_ok-plan.plan.map) _ (s0.map metadata) _ (s0.log nodes) _ c.args.cfg.start _ c.args.cfg.end map_is log_is start_is end_is (plan.map told held1) in
    let made = c.in_ok-plan.plan.map in
    let later = subst (λ (n : List ℕ). PairKeeps n metadata (λ log m. (s2.log_left s2.clock n log × s2.map_left s2.clock metadata m) ⊎ (m ≡ made)) s2 s3) name (c.in_err-tree.ensures.images told) in
    begun_after_reads nodes metadata made (IsMapBegun contents s c.args.cfg.start given) s0 s2 s3 two.clock (two.past told) has later

pub returns-in_err-tree-clause-refused : goal.returns-in_err-tree-clause-refused
returns-in_err-tree-clause-refused g c told =
    let s = g.F.Family.shape in
    let spelling = g.D.Spelled.spelling in
    let admits = g.D.Read.admits tt in
    let s0 = g.V.Volume.state c.args.vol.now in
    let s1 = g.V.Volume.state c.seen_nodes.new.vol in
    let s2 = g.V.Volume.state c.ready.new.vol in
    let nodes = string_bytes c.args.cfg.config.nodes in
    let metadata = string_bytes c.args.cfg.config.metadata in
    let given = option_map (λ v. v.items) c.args.cfg.pinned_nodes in
    let contents = contents_of spelling admits (s0.map metadata) (s0.log nodes) in
    let seen = c.in_ok-nodes.ensures {u = tt} in
    let view = seen_of c.in_ok-nodes.nodes in
    let name = ap (λ (v : View _). v.name) seen.made in
    let start_is = c.as_u64-start.ensures in
    let end_is = c.as_u64-end.ensures in
    let held1 = held_later view s0 s1 (seen.reads.contents told) (seen.held told) in
    let map_is = ap s1.map c.as_str.ensures.value ∙ (seen.reads.contents told).maps metadata in
    let log_is = ap s1.log name ∙ (seen.reads.contents told).logs nodes in
    let plan = c.in_ok-plan.ensures {u = tt} in
    let held2 = held_later view s1 s2 (plan.reads.contents told) held1 in
    let e = c.in_err-tree.field-0.0 in
    err_same _ e (NotBegun contents s c.args.cfg.start c.args.cfg.end given) c.from_residual-in_err-tree.ensures.1 (inl (c.in_err-tree.ensures.outside told held2))

pub returns-in_err-tree-clause-unwritten : goal.returns-in_err-tree-clause-unwritten
returns-in_err-tree-clause-unwritten g c told =
    let s = g.F.Family.shape in
    let spelling = g.D.Spelled.spelling in
    let admits = g.D.Read.admits tt in
    let s0 = g.V.Volume.state c.args.vol.now in
    let s1 = g.V.Volume.state c.seen_nodes.new.vol in
    let s2 = g.V.Volume.state c.ready.new.vol in
    let nodes = string_bytes c.args.cfg.config.nodes in
    let metadata = string_bytes c.args.cfg.config.metadata in
    let given = option_map (λ v. v.items) c.args.cfg.pinned_nodes in
    let contents = contents_of spelling admits (s0.map metadata) (s0.log nodes) in
    let seen = c.in_ok-nodes.ensures {u = tt} in
    let view = seen_of c.in_ok-nodes.nodes in
    let name = ap (λ (v : View _). v.name) seen.made in
    let start_is = c.as_u64-start.ensures in
    let end_is = c.as_u64-end.ensures in
    let held1 = held_later view s0 s1 (seen.reads.contents told) (seen.held told) in
    let map_is = ap s1.map c.as_str.ensures.value ∙ (seen.reads.contents told).maps metadata in
    let log_is = ap s1.log name ∙ (seen.reads.contents told).logs nodes in
    let plan = c.in_ok-plan.ensures {u = tt} in
    let held2 = held_later view s1 s2 (plan.reads.contents told) held1 in
    let e = c.in_err-tree.field-0.0 in
    err_same _ e _ c.from_residual-in_err-tree.ensures.1 (inl (c.in_err-tree.ensures.outside told held2))

pub returns-in_err-tree-clause-changes : goal.returns-in_err-tree-clause-changes
returns-in_err-tree-clause-changes g c =
    let s = g.F.Family.shape in
    let spelling = g.D.Spelled.spelling in
    let admits = g.D.Read.admits tt in
    let s0 = g.V.Volume.state c.args.vol.now in
    let s1 = g.V.Volume.state c.seen_nodes.new.vol in
    let s2 = g.V.Volume.state c.ready.new.vol in
    let nodes = string_bytes c.args.cfg.config.nodes in
    let metadata = string_bytes c.args.cfg.config.metadata in
    let given = option_map (λ v. v.items) c.args.cfg.pinned_nodes in
    let contents = contents_of spelling admits (s0.map metadata) (s0.log nodes) in
    let seen = c.in_ok-nodes.ensures {u = tt} in
    let view = seen_of c.in_ok-nodes.nodes in
    let name = ap (λ (v : View _). v.name) seen.made in
    let start_is = c.as_u64-start.ensures in
    let end_is = c.as_u64-end.ensures in
    let s3 = g.V.Volume.state c.begin.new.vol in
    let plan = c.in_ok-plan.ensures {u = tt} in
    let one = only_read_joins _ _ _ _ _ _ (only_read_none g.V.Volume.tells s0) seen.reads in
    let two = only_read_joins _ _ _ _ _ _ one plan.reads in
    let e = c.in_err-tree.field-0.0 in
    let result = c.from_residual-in_err-tree.result in
    let went = went_joins g.V.Volume.tells s0 s1 s2 (went_of_reads g.V.Volume.tells tree.Volume s0 s1 _ seen.reads) (went_of_reads g.V.Volume.tells tree.Volume s1 s2 _ plan.reads) in
    changes_joins g.V.Volume.tells tree.Volume tree.Volume s0 s2 s3 _ result went (changes_of_writes g.V.Volume.tells tree.Volume s2 s3 _ c.in_err-tree.ensures.writes) (same_fault result (Err e) e tree.Volume refl c.from_residual-in_err-tree.ensures.1) (not_ok result (λ d. d ≡ e) _ c.from_residual-in_err-tree.ensures.1)

pub returns-clause-names : goal.returns-clause-names
returns-clause-names g c told =
    let s = g.F.Family.shape in
    let spelling = g.D.Spelled.spelling in
    let admits = g.D.Read.admits tt in
    let s0 = g.V.Volume.state c.args.vol.now in
    let s1 = g.V.Volume.state c.seen_nodes.new.vol in
    let s2 = g.V.Volume.state c.ready.new.vol in
    let nodes = string_bytes c.args.cfg.config.nodes in
    let metadata = string_bytes c.args.cfg.config.metadata in
    let given = option_map (λ v. v.items) c.args.cfg.pinned_nodes in
    let contents = contents_of spelling admits (s0.map metadata) (s0.log nodes) in
    let seen = c.in_ok-nodes.ensures {u = tt} in
    let view = seen_of c.in_ok-nodes.nodes in
    let name = ap (λ (v : View _). v.name) seen.made in
    let start_is = c.as_u64-start.ensures in
    let end_is = c.as_u64-end.ensures in
    let s3 = g.V.Volume.state c.begin.new.vol in
    let plan = c.in_ok-plan.ensures {u = tt} in
    let one = only_read_joins _ _ _ _ _ _ (only_read_none g.V.Volume.tells s0) seen.reads in
    let two = only_read_joins _ _ _ _ _ _ one plan.reads in
    let names = log_and_map nodes metadata in
    names_call_joins names s0 s2 s3 (names_call_idle names s0 s2 two.clock (two.past told) (two.contents told)) (subst (λ (n : List ℕ). NamesCall (log_and_map n metadata) s2 s3) name ((c.in_ok-tree.ensures {u = tt}).names told))

pub returns-clause-images : goal.returns-clause-images
returns-clause-images g c told =
    let s = g.F.Family.shape in
    let spelling = g.D.Spelled.spelling in
    let admits = g.D.Read.admits tt in
    let s0 = g.V.Volume.state c.args.vol.now in
    let s1 = g.V.Volume.state c.seen_nodes.new.vol in
    let s2 = g.V.Volume.state c.ready.new.vol in
    let nodes = string_bytes c.args.cfg.config.nodes in
    let metadata = string_bytes c.args.cfg.config.metadata in
    let given = option_map (λ v. v.items) c.args.cfg.pinned_nodes in
    let contents = contents_of spelling admits (s0.map metadata) (s0.log nodes) in
    let seen = c.in_ok-nodes.ensures {u = tt} in
    let view = seen_of c.in_ok-nodes.nodes in
    let name = ap (λ (v : View _). v.name) seen.made in
    let start_is = c.as_u64-start.ensures in
    let end_is = c.as_u64-end.ensures in
    let held1 = held_later view s0 s1 (seen.reads.contents told) (seen.held told) in
    let map_is = ap s1.map c.as_str.ensures.value ∙ (seen.reads.contents told).maps metadata in
    let log_is = ap s1.log name ∙ (seen.reads.contents told).logs nodes in
    let s3 = g.V.Volume.state c.begin.new.vol in
    let plan = c.in_ok-plan.ensures {u = tt} in
    let one = only_read_joins _ _ _ _ _ _ (only_read_none g.V.Volume.tells s0) seen.reads in
    let two = only_read_joins _ _ _ _ _ _ one plan.reads in
    let has = same_begun spelling admits (λ src n k. IsMapBegun src s n given c.in_ok-plan.plan.map) _ (s0.map metadata) _ (s0.log nodes) _ c.args.cfg.start _ c.args.cfg.end map_is log_is start_is end_is (plan.map told held1) in
    let made = c.in_ok-plan.plan.map in
    let later = subst (λ (n : List ℕ). PairKeeps n metadata (λ log m. (s2.log_left s2.clock n log × s2.map_left s2.clock metadata m) ⊎ (m ≡ made)) s2 s3) name ((c.in_ok-tree.ensures {u = tt}).images told) in
    begun_after_reads nodes metadata made (IsMapBegun contents s c.args.cfg.start given) s0 s2 s3 two.clock (two.past told) has later

pub returns-clause-changes : goal.returns-clause-changes
returns-clause-changes g c =
    let s = g.F.Family.shape in
    let spelling = g.D.Spelled.spelling in
    let admits = g.D.Read.admits tt in
    let s0 = g.V.Volume.state c.args.vol.now in
    let s1 = g.V.Volume.state c.seen_nodes.new.vol in
    let s2 = g.V.Volume.state c.ready.new.vol in
    let nodes = string_bytes c.args.cfg.config.nodes in
    let metadata = string_bytes c.args.cfg.config.metadata in
    let given = option_map (λ v. v.items) c.args.cfg.pinned_nodes in
    let contents = contents_of spelling admits (s0.map metadata) (s0.log nodes) in
    let seen = c.in_ok-nodes.ensures {u = tt} in
    let view = seen_of c.in_ok-nodes.nodes in
    let name = ap (λ (v : View _). v.name) seen.made in
    let start_is = c.as_u64-start.ensures in
    let end_is = c.as_u64-end.ensures in
    let s3 = g.V.Volume.state c.begin.new.vol in
    let plan = c.in_ok-plan.ensures {u = tt} in
    let one = only_read_joins _ _ _ _ _ _ (only_read_none g.V.Volume.tells s0) seen.reads in
    let two = only_read_joins _ _ _ _ _ _ one plan.reads in
    let did = c.in_ok-tree.ensures {u = tt} in
    let went = went_joins g.V.Volume.tells s0 s1 s2 (went_of_reads g.V.Volume.tells tree.Volume s0 s1 _ seen.reads) (went_of_reads g.V.Volume.tells tree.Volume s1 s2 _ plan.reads) in
    changes_joins g.V.Volume.tells tree.Volume tree.Volume s0 s2 s3 _ _ went (changes_of_writes g.V.Volume.tells tree.Volume s2 s3 _ did.writes) (λ is. is) did.writes.kept

pub returns-clause-named : goal.returns-clause-named
returns-clause-named g c =
    let seen = c.in_ok-nodes.ensures {u = tt} in
    let named = (c.in_ok-tree.ensures {u = tt}).named in
    record {
      nodes_is = named.nodes_is ∙ ap (λ (v : View _). v.name) seen.made;
      blob_is = named.blob_is ∙ ap (λ (v : View _). v.blob) seen.made;
      unfailed = named.unfailed;
      metadata_is = named.metadata_is;
      boundary_is = named.boundary_is ∙ c.as_u64-start.ensures;
    }

pub returns-clause-begins : goal.returns-clause-begins
returns-clause-begins g c told =
    let s = g.F.Family.shape in
    let spelling = g.D.Spelled.spelling in
    let admits = g.D.Read.admits tt in
    let s0 = g.V.Volume.state c.args.vol.now in
    let s1 = g.V.Volume.state c.seen_nodes.new.vol in
    let s2 = g.V.Volume.state c.ready.new.vol in
    let nodes = string_bytes c.args.cfg.config.nodes in
    let metadata = string_bytes c.args.cfg.config.metadata in
    let given = option_map (λ v. v.items) c.args.cfg.pinned_nodes in
    let contents = contents_of spelling admits (s0.map metadata) (s0.log nodes) in
    let seen = c.in_ok-nodes.ensures {u = tt} in
    let view = seen_of c.in_ok-nodes.nodes in
    let name = ap (λ (v : View _). v.name) seen.made in
    let start_is = c.as_u64-start.ensures in
    let end_is = c.as_u64-end.ensures in
    let held1 = held_later view s0 s1 (seen.reads.contents told) (seen.held told) in
    let map_is = ap s1.map c.as_str.ensures.value ∙ (seen.reads.contents told).maps metadata in
    let log_is = ap s1.log name ∙ (seen.reads.contents told).logs nodes in
    let s3 = g.V.Volume.state c.begin.new.vol in
    let plan = c.in_ok-plan.ensures {u = tt} in
    let one = only_read_joins _ _ _ _ _ _ (only_read_none g.V.Volume.tells s0) seen.reads in
    let two = only_read_joins _ _ _ _ _ _ one plan.reads in
    let held2 = held_later view s1 s2 (plan.reads.contents told) held1 in
    let did = c.in_ok-tree.ensures {u = tt} in
    let kept = c.in_ok-plan.plan.kept in
    let blob = did.named.blob_is in
    record {
      kept = kept;
      keeps = subst (λ (n : ℕ). KeepsOf s n c.args.cfg.end (s0.log nodes) kept) start_is (subst (λ (k : ℕ). KeepsOf s c.as_u64-start.result k (s0.log nodes) kept) end_is (subst (λ (l : Log). KeepsOf s c.as_u64-start.result c.as_u64-end.result l kept) log_is (plan.kept told held1)));
      leaves = ap (λ (t : Tree _). t.leaves) did.tree ∙ plan.leaves ∙ ap (unwrap_or kept) start_is;
      log = ap s3.log (sym name) ∙ did.log told held2 ∙ ap (λ (b : ℕ). log_begun s b c.as_u64-start.result kept (s2.log view.name)) (sym blob) ∙ ap (λ (n : ℕ). log_begun s c.in_ok-tree.tree.log.blob n kept (s2.log view.name)) start_is
          ∙ ap (log_begun s c.in_ok-tree.tree.log.blob c.args.cfg.start kept) (ap s2.log name ∙ (two.contents told).logs nodes);
    }

pub returns-clause-map : goal.returns-clause-map
returns-clause-map g c told =
    let s = g.F.Family.shape in
    let spelling = g.D.Spelled.spelling in
    let admits = g.D.Read.admits tt in
    let s0 = g.V.Volume.state c.args.vol.now in
    let s1 = g.V.Volume.state c.seen_nodes.new.vol in
    let s2 = g.V.Volume.state c.ready.new.vol in
    let nodes = string_bytes c.args.cfg.config.nodes in
    let metadata = string_bytes c.args.cfg.config.metadata in
    let given = option_map (λ v. v.items) c.args.cfg.pinned_nodes in
    let contents = contents_of spelling admits (s0.map metadata) (s0.log nodes) in
    let seen = c.in_ok-nodes.ensures {u = tt} in
    let view = seen_of c.in_ok-nodes.nodes in
    let name = ap (λ (v : View _). v.name) seen.made in
    let start_is = c.as_u64-start.ensures in
    let end_is = c.as_u64-end.ensures in
    let held1 = held_later view s0 s1 (seen.reads.contents told) (seen.held told) in
    let map_is = ap s1.map c.as_str.ensures.value ∙ (seen.reads.contents told).maps metadata in
    let log_is = ap s1.log name ∙ (seen.reads.contents told).logs nodes in
    let s3 = g.V.Volume.state c.begin.new.vol in
    let plan = c.in_ok-plan.ensures {u = tt} in
    let one = only_read_joins _ _ _ _ _ _ (only_read_none g.V.Volume.tells s0) seen.reads in
    let two = only_read_joins _ _ _ _ _ _ one plan.reads in
    let has = same_begun spelling admits (λ src n k. IsMapBegun src s n given c.in_ok-plan.plan.map) _ (s0.map metadata) _ (s0.log nodes) _ c.args.cfg.start _ c.args.cfg.end map_is log_is start_is end_is (plan.map told held1) in
    subst (λ (m : Map). IsMapBegun contents s c.args.cfg.start given m) (sym ((c.in_ok-tree.ensures {u = tt}).map told)) has

pub returns-clause-seated : goal.returns-clause-seated
returns-clause-seated g c told =
    let s = g.F.Family.shape in
    let spelling = g.D.Spelled.spelling in
    let admits = g.D.Read.admits tt in
    let s0 = g.V.Volume.state c.args.vol.now in
    let s1 = g.V.Volume.state c.seen_nodes.new.vol in
    let s2 = g.V.Volume.state c.ready.new.vol in
    let nodes = string_bytes c.args.cfg.config.nodes in
    let metadata = string_bytes c.args.cfg.config.metadata in
    let given = option_map (λ v. v.items) c.args.cfg.pinned_nodes in
    let contents = contents_of spelling admits (s0.map metadata) (s0.log nodes) in
    let seen = c.in_ok-nodes.ensures {u = tt} in
    let view = seen_of c.in_ok-nodes.nodes in
    let name = ap (λ (v : View _). v.name) seen.made in
    let start_is = c.as_u64-start.ensures in
    let end_is = c.as_u64-end.ensures in
    let held1 = held_later view s0 s1 (seen.reads.contents told) (seen.held told) in
    let map_is = ap s1.map c.as_str.ensures.value ∙ (seen.reads.contents told).maps metadata in
    let log_is = ap s1.log name ∙ (seen.reads.contents told).logs nodes in
    let plan = c.in_ok-plan.ensures {u = tt} in
    let held2 = held_later view s1 s2 (plan.reads.contents told) held1 in
    (c.in_ok-tree.ensures {u = tt}).seated told held2

pub returns-clause-durable : goal.returns-clause-durable
returns-clause-durable g c told =
    renamed_durable (string_bytes c.args.cfg.config.nodes) _ (g.V.Volume.state c.begin.new.vol) (ap (λ (v : View _). v.name) (c.in_ok-nodes.ensures {u = tt}).made) ((c.in_ok-tree.ensures {u = tt}).durable told)

pub returns-clause-durable_map : goal.returns-clause-durable_map
returns-clause-durable_map g c told image left =
    let did = c.in_ok-tree.ensures {u = tt} in
    did.durable_map told image left ∙ sym (did.map told)

pub returns-clause-full : goal.returns-clause-full
returns-clause-full g c told h all digests from =
    let s = g.F.Family.shape in
    let spelling = g.D.Spelled.spelling in
    let admits = g.D.Read.admits tt in
    let s0 = g.V.Volume.state c.args.vol.now in
    let s1 = g.V.Volume.state c.seen_nodes.new.vol in
    let s2 = g.V.Volume.state c.ready.new.vol in
    let nodes = string_bytes c.args.cfg.config.nodes in
    let metadata = string_bytes c.args.cfg.config.metadata in
    let given = option_map (λ v. v.items) c.args.cfg.pinned_nodes in
    let contents = contents_of spelling admits (s0.map metadata) (s0.log nodes) in
    let seen = c.in_ok-nodes.ensures {u = tt} in
    let view = seen_of c.in_ok-nodes.nodes in
    let name = ap (λ (v : View _). v.name) seen.made in
    let start_is = c.as_u64-start.ensures in
    let end_is = c.as_u64-end.ensures in
    let held1 = held_later view s0 s1 (seen.reads.contents told) (seen.held told) in
    let map_is = ap s1.map c.as_str.ensures.value ∙ (seen.reads.contents told).maps metadata in
    let log_is = ap s1.log name ∙ (seen.reads.contents told).logs nodes in
    let s3 = g.V.Volume.state c.begin.new.vol in
    let plan = c.in_ok-plan.ensures {u = tt} in
    let two = only_read_joins _ _ _ _ _ _ (only_read_joins _ _ _ _ _ _ (only_read_none g.V.Volume.tells s0) seen.reads) plan.reads in
    let held2 = held_later view s1 s2 (plan.reads.contents told) held1 in
    let did = c.in_ok-tree.ensures {u = tt} in
    let t = c.in_ok-tree.tree in
    let kept = c.in_ok-plan.plan.kept in
    let start = c.args.cfg.start in
    let end = c.args.cfg.end in
    let w = g.met.F.Family.lawful in
    let keeps = subst (λ (n : ℕ). KeepsOf s n end (s0.log nodes) kept) start_is (subst (λ (k : ℕ). KeepsOf s c.as_u64-start.result k (s0.log nodes) kept) end_is (subst (λ (l : Log). KeepsOf s c.as_u64-start.result c.as_u64-end.result l kept) log_is (plan.kept told held1))) in
    let has = same_begun spelling admits (λ src n k. IsMapBegun src s n given c.in_ok-plan.plan.map) _ (s0.map metadata) _ (s0.log nodes) _ start _ end map_is log_is start_is end_is (plan.map told held1) in
    let few : start ≤ 2 ^ 62 = omega (arith, c.requires.few, c.requires.below) in
    let pins_are = begun_is_map s h spelling all has.digests start w (g.met.F.Family.small start) few from.long (sym has.are_pins.counted) (from.pinned has.digests has.are_pins) in
    let map_at = ap s3.map did.named.metadata_is ∙ did.map told ∙ has.map_is in
    let pinned = subst (λ (m : Map). IsMapOf s h spelling all start m) (sym map_at) pins_are in
    let early = same_begun spelling admits (λ src n k. IsBegunFrom s h all n k given src) (s0.map metadata) _ (s0.log nodes) _ start _ end _ (sym map_is) (sym log_is) (sym start_is) (sym end_is) from in
    let n_is = plan.leaves ∙ ap (unwrap_or kept) start_is in
    let of = subst (λ (u : Tree _). IsOf s h (take (unwrap_or kept start) all) u) (sym did.tree) (subst (λ (b : ℕ). IsOf s h (take (unwrap_or kept b) all) c.in_ok-plan.plan.mem) start_is (plan.tree told held1 h all early)) in
    let log_at = ap s3.log did.named.nodes_is ∙ did.log told held2 ∙ ap (λ (b : ℕ). log_begun s b c.as_u64-start.result kept (s2.log view.name)) (sym did.named.blob_is) ∙ ap (λ (n : ℕ). log_begun s t.log.blob n kept (s2.log view.name)) start_is
    ∙ ap (log_begun s t.log.blob start kept) (ap s2.log name ∙ (two.contents told).logs nodes) in
    let boundary = ap (λ (u : Tree _). u.boundary) did.tree ∙ plan.boundary ∙ ap (unwrap_or kept) start_is in
    let full = begun_full s h w all start end given contents from admits t (present s3) kept keeps (did.seated told held2) boundary (did.named.boundary_is ∙ start_is) pinned log_at digests of in
    subst (λ (n : ℕ). IsFullOf s h spelling admits (take n all) t (present s3)) (sym (ap (λ (u : Tree _). u.leaves) did.tree ∙ n_is)) full

pub returns-clause-recalls : goal.returns-clause-recalls
returns-clause-recalls g c told =
    let s = g.F.Family.shape in
    let s0 = g.V.Volume.state c.args.vol.now in
    let s1 = g.V.Volume.state c.seen_nodes.new.vol in
    let nodes = string_bytes c.args.cfg.config.nodes in
    let seen = c.in_ok-nodes.ensures {u = tt} in
    let view = seen_of c.in_ok-nodes.nodes in
    let held1 = held_later view s0 s1 (seen.reads.contents told) (seen.held told) in
    let log_is = ap s1.log (ap (λ (v : View _). v.name) seen.made) ∙ (seen.reads.contents told).logs nodes in
    let plan = c.in_ok-plan.ensures {u = tt} in
    let did = c.in_ok-tree.ensures {u = tt} in
    let mem = c.in_ok-plan.plan.mem in
    let of : Map → Log → Source g.row.D.Denot = contents_of g.D.Spelled.spelling (g.D.Read.admits tt) in
    let one = subst (λ (l : Log). IsRecalled (Unit {0}) (of c.in_ok-plan.plan.map l) (size s (unwrap_or c.in_ok-plan.plan.kept c.as_u64-start.result)) mem) log_is (plan.recalls told held1) in
    let two = subst (λ (m : Map). IsRecalled (Unit {0}) (of m (s0.log nodes)) (size s (unwrap_or c.in_ok-plan.plan.kept c.as_u64-start.result)) mem) (sym (did.map told)) one in
    let m = (g.V.Volume.state c.begin.new.vol).map (string_bytes c.args.cfg.config.metadata) in
    let three = subst (λ (n : ℕ). IsRecalled (Unit {0}) (of m (s0.log nodes)) (size s n) mem) (sym plan.leaves) two in
    subst (λ (u : Tree _). IsRecalled (Unit {0}) (of m (s0.log nodes)) (size s u.leaves) u) (sym did.tree) three

pub returns-in_err-check_count-clause-errors : goal.returns-in_err-check_count-clause-errors
returns-in_err-check_count-clause-errors g c = err_same c.from_residual.result c.in_err-check_count.field-0.0 IsLifted c.from_residual.ensures.1 (subst IsLifted (sym c.in_err-check_count.ensures.refused.0) tt)

pub returns-in_err-nodes-clause-errors : goal.returns-in_err-nodes-clause-errors
returns-in_err-nodes-clause-errors g c = let e = c.in_err-nodes.field-0.0 in err_same c.from_residual-in_err-nodes.result e IsLifted c.from_residual-in_err-nodes.ensures.1 (outside_lifted e c.in_err-nodes.ensures.outside)
