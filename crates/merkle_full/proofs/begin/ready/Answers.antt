use Rattle.std.proofs.Common.{◌≡◌, inl, inr, ◌≤◌, ℕ, List, Err, length, take, refl, sym, ◌∙◌, ap, subst, arith}
use Rattle.std.specs.Prelude.{◌^◌, IfSome}
use Rattle.std.specs.Option.{option_map}
use Rattle.std.specs.FinMap as finmap
use Rattle.journal_base.specs.View.{seen_of, log_of, IsHeld, IsWithin}
use Rattle.volume_base.specs.Log.{Log, end_of}
use Rattle.volume_base.specs.Volume.{Map}
use Rattle.volume_base.proofs.ReadLemmas.{only_read_none, only_read_joins, reads_joins, reads_of}
use Rattle.tree_shape.specs.Pins.{pins}
use Rattle.tree_store.specs.Stored.{size, IsMapOf}
use Rattle.tree_store.specs.Stores.{IsOutside}
use Rattle.tree_store.specs.declared.error.Error.TheVariants as tree
use Rattle.tree_core.specs.Tree.{IsOf, rests}
use Rattle.merkle_full.specs.Preparing.{contents_of}
use Rattle.merkle_full.specs.Pruning.{pinned_map}
use Rattle.merkle_full.specs.Recovering.{source_of, TellsPeaks, IsRecalled, NotAllRecovered, NotReopened}
use Rattle.merkle_full.specs.Syncing.{ArePins, NotBegun}
use Rattle.merkle_full.proofs.BeginLemmas.{begun_is_map, tells_begun, tells_pins, pins_known, leaves_few, kept_low, kept_high, counted_given}
use Rattle.merkle_full.proofs.GrownLemmas.{err_same, memory_alone, reads_ok}
use Rattle.merkle_full.proofs.PrepareLemmas.{held_source, held_within, recalled_known, not_all_known, not_reopened_known}
use Rattle.merkle_full.proofs.RunLemmas.{same_fault, not_ok}
use Rattle.merkle_full.specs.Lifted.{IsLifted}
use Rattle.merkle_full.proofs.LiftedLemmas.{not_reopened_lifted}
use Rattle.merkle_full.proofs.begin.ready.Goals as goal

pub start_pins-requires : goal.start_pins-requires
start_pins-requires g c = counted_given (λ v. v.items) g.F.Family.shape c.args.start c.args.given c.deref.result.now (c.deref.ensures.value ∙ c.in_ok-positions.ensures {u = tt}) c.requires.counted

pub reopened-requires-clause-few : goal.reopened-requires-clause-few
reopened-requires-clause-few g c =
    let high = kept_high c.args.start c.args.end c.leaves_kept-kept.result c.leaves_kept-kept.ensures.within (omega (arith, c.requires.below)) in
    omega (arith, high, c.unwrap_or.ensures, c.requires.few)

pub reopened-requires-clause-within : goal.reopened-requires-clause-within
reopened-requires-clause-within g c =
    let low = kept_low c.args.start c.args.end c.leaves_kept-kept.result c.leaves_kept-kept.ensures.within in
    omega (arith, low, c.unwrap_or.ensures)

pub returns-in_err-pins-clause-refused : goal.returns-in_err-pins-clause-refused
returns-in_err-pins-clause-refused g c told held =
    let s = g.F.Family.shape in
    let spelling = g.D.Spelled.spelling in
    let old = g.V.Volume.state c.args.vol.now in
    let view = seen_of c.args.nodes.now in
    let pinned = old.map c.args.metadata.now in
    let log = log_of view old in
    let start = c.args.start in
    let within = held_within view old held in
    let source = source_of spelling g.D.Read.admits pinned view old in
    let contents = contents_of spelling (g.D.Read.admits tt) pinned log in
    let given = option_map (λ v. v.items) c.args.given in
    let at = c.deref.ensures.value ∙ c.in_ok-positions.ensures {u = tt} in
    let e = c.in_err-pins.field-0.0 in
    let why = c.in_err-pins.ensures.refused told in
    let known = g.V.Volume.tells × IsWithin view old in
    let lost = not_all_known known (told, within) source (pins s start) e (subst (λ (ps : List ℕ). NotAllRecovered known source ps e) at why.1) in
    err_same _ e (NotBegun contents s start c.args.end given) c.from_residual-in_err-pins.ensures.1
    (inr (inr (inl (why.0, held_source (λ src. NotAllRecovered (Unit {0}) src (pins s start) e) spelling g.D.Read.admits pinned view old log held refl lost))))

pub returns-in_err-map-clause-refused : goal.returns-in_err-map-clause-refused
returns-in_err-map-clause-refused g c told held =
    let old = g.V.Volume.state c.args.vol.now in
    let view = seen_of c.args.nodes.now in
    let contents = contents_of g.D.Spelled.spelling (g.D.Read.admits tt) (old.map c.args.metadata.now) (log_of view old) in
    let e = c.in_err-map.field-0.0 in
    err_same _ e (NotBegun contents g.F.Family.shape c.args.start c.args.end _) c.from_residual-in_err-map.ensures.1 (inl (subst IsOutside (sym c.in_err-map.ensures.memory) tt))

pub returns-in_err-map-clause-reads : goal.returns-in_err-map-clause-reads
returns-in_err-map-clause-reads g c =
    let one = only_read_joins _ _ _ _ _ _ (only_read_none g.V.Volume.tells (g.V.Volume.state c.args.vol.now)) (c.in_ok-pins.ensures {u = tt}).reads in
    reads_of _ _ _ _ _ one (memory_alone _ c.in_err-map.field-0.0 c.from_residual-in_err-map.ensures.1 c.in_err-map.ensures.memory)

pub returns-in_err-mem-clause-refused : goal.returns-in_err-mem-clause-refused
returns-in_err-mem-clause-refused g c told held =
    let s = g.F.Family.shape in
    let spelling = g.D.Spelled.spelling in
    let old = g.V.Volume.state c.args.vol.now in
    let view = seen_of c.args.nodes.now in
    let pinned = old.map c.args.metadata.now in
    let log = log_of view old in
    let start = c.args.start in
    let within = held_within view old held in
    let source = source_of spelling g.D.Read.admits pinned view old in
    let contents = contents_of spelling (g.D.Read.admits tt) pinned log in
    let given = option_map (λ v. v.items) c.args.given in
    let at = c.deref.ensures.value ∙ c.in_ok-positions.ensures {u = tt} in
    let new = g.V.Volume.state c.start_pins.new.vol in
    let did = c.in_ok-pins.ensures {u = tt} in
    let ds = c.in_ok-pins.pins.items in
    let log_is = (did.reads.contents told).logs view.name in
    let now : IsHeld view new = record { start_is = held.start_is ∙ ap (λ (l : Log). l.start) (sym log_is); end_is = held.end_is ∙ ap end_of (sym log_is) } in
    let kept = c.leaves_kept-kept.result in
    let keeps = c.leaves_kept-kept.ensures.kept log (sym held.start_is ∙ sym c.bounds-from.ensures.start) (sym held.end_is ∙ sym c.bounds-from.ensures.end) in
    let m = c.in_ok-map.map in
    let map_is = (c.in_ok-map.ensures {u = tt}).map ∙ ap (λ (ps : List ℕ). pinned_map spelling finmap.empty ps c.deref-3.result.now start) (c.deref-2.ensures.value ∙ c.in_ok-positions.ensures {u = tt}) ∙ ap (λ (xs : List _). pinned_map spelling finmap.empty (pins s start) xs start) c.deref-3.ensures.value in
    let are = held_source (λ src. ArePins (Unit {0}) src (pins s start) given ds) spelling g.D.Read.admits pinned view old log held refl (pins_known (g.V.Volume.tells × IsWithin view old) source c.deref.result.now (pins s start) given ds (told, within) at (did.pins told)) in
    let e = c.in_err-mem.field-0.0 in
    let known = g.V.Volume.tells × IsWithin view new in
    let later = source_of spelling g.D.Read.admits m view new in
    let why = not_reopened_known known (told, held_within view new now) later s c.unwrap_or.result start e c.in_err-mem.ensures.refused in
    let there = held_source (λ src. NotReopened (Unit {0}) src s c.unwrap_or.result start e) spelling g.D.Read.admits m view new log now log_is why in
    let counted = subst (λ (n : ℕ). NotReopened (Unit {0}) (contents_of spelling (g.D.Read.admits tt) m log) s n start e) c.unwrap_or.ensures there in
    err_same _ e (NotBegun contents s start c.args.end given) c.from_residual-in_err-mem.ensures.1 (inr (inr (inr (kept, m, keeps, record { digests = ds; are_pins = are; map_is = map_is }, counted))))

pub returns-in_err-mem-clause-reads : goal.returns-in_err-mem-clause-reads
returns-in_err-mem-clause-reads g c =
    let e = c.in_err-mem.field-0.0 in
    let result = c.from_residual-in_err-mem.result in
    let one = only_read_joins _ _ _ _ _ _ (only_read_none g.V.Volume.tells (g.V.Volume.state c.args.vol.now)) (c.in_ok-pins.ensures {u = tt}).reads in
    reads_joins _ _ _ _ _ _ _ one c.in_err-mem.ensures.reads (same_fault result (Err e) e tree.Volume refl c.from_residual-in_err-mem.ensures.1) (not_ok result (λ d. d ≡ e) _ c.from_residual-in_err-mem.ensures.1)

pub returns-clause-leaves : goal.returns-clause-leaves
returns-clause-leaves g c = (c.in_ok-mem.ensures {u = tt}).leaves ∙ c.unwrap_or.ensures

pub returns-clause-boundary : goal.returns-clause-boundary
returns-clause-boundary g c = (c.in_ok-mem.ensures {u = tt}).boundary ∙ c.unwrap_or.ensures

pub returns-clause-exact : goal.returns-clause-exact
returns-clause-exact g c p = (c.in_ok-mem.ensures {u = tt}).exact p ∙ ap (λ (n : ℕ). rests g.F.Family.shape n c.args.start p) c.unwrap_or.ensures

pub returns-clause-kept : goal.returns-clause-kept
returns-clause-kept g c told held = c.leaves_kept-kept.ensures.kept _ (sym held.start_is ∙ sym c.bounds-from.ensures.start) (sym held.end_is ∙ sym c.bounds-from.ensures.end)

pub returns-clause-low : goal.returns-clause-low
returns-clause-low g c = subst (λ (b : ℕ). IfSome c.leaves_kept-kept.result (λ n. b ≤ size g.F.Family.shape c.args.start)) c.bounds-from.ensures.start c.leaves_kept-kept.ensures.low

pub returns-clause-fits : goal.returns-clause-fits
returns-clause-fits g c = subst (λ (b : ℕ). IfSome c.leaves_kept-kept.result (λ n. size g.F.Family.shape n ≤ b)) c.bounds-from.ensures.end c.leaves_kept-kept.ensures.fits

pub returns-clause-map : goal.returns-clause-map
returns-clause-map g c told held =
    let s = g.F.Family.shape in
    let spelling = g.D.Spelled.spelling in
    let old = g.V.Volume.state c.args.vol.now in
    let view = seen_of c.args.nodes.now in
    let pinned = old.map c.args.metadata.now in
    let log = log_of view old in
    let start = c.args.start in
    let within = held_within view old held in
    let source = source_of spelling g.D.Read.admits pinned view old in
    let contents = contents_of spelling (g.D.Read.admits tt) pinned log in
    let given = option_map (λ v. v.items) c.args.given in
    let at = c.deref.ensures.value ∙ c.in_ok-positions.ensures {u = tt} in
    let did = c.in_ok-pins.ensures {u = tt} in
    let ds = c.in_ok-pins.pins.items in
    let map_is = (c.in_ok-map.ensures {u = tt}).map ∙ ap (λ (ps : List ℕ). pinned_map spelling finmap.empty ps c.deref-3.result.now start) (c.deref-2.ensures.value ∙ c.in_ok-positions.ensures {u = tt}) ∙ ap (λ (xs : List _). pinned_map spelling finmap.empty (pins s start) xs start) c.deref-3.ensures.value in
    let are = held_source (λ src. ArePins (Unit {0}) src (pins s start) given ds) spelling g.D.Read.admits pinned view old log held refl (pins_known (g.V.Volume.tells × IsWithin view old) source c.deref.result.now (pins s start) given ds (told, within) at (did.pins told)) in
    record { digests = ds; are_pins = are; map_is = map_is }

pub returns-clause-tree : goal.returns-clause-tree
returns-clause-tree g c told held h all from =
    let s = g.F.Family.shape in
    let spelling = g.D.Spelled.spelling in
    let old = g.V.Volume.state c.args.vol.now in
    let view = seen_of c.args.nodes.now in
    let pinned = old.map c.args.metadata.now in
    let log = log_of view old in
    let start = c.args.start in
    let within = held_within view old held in
    let source = source_of spelling g.D.Read.admits pinned view old in
    let contents = contents_of spelling (g.D.Read.admits tt) pinned log in
    let given = option_map (λ v. v.items) c.args.given in
    let at = c.deref.ensures.value ∙ c.in_ok-positions.ensures {u = tt} in
    let new = g.V.Volume.state c.start_pins.new.vol in
    let did = c.in_ok-pins.ensures {u = tt} in
    let ds = c.in_ok-pins.pins.items in
    let log_is = (did.reads.contents told).logs view.name in
    let now : IsHeld view new = record { start_is = held.start_is ∙ ap (λ (l : Log). l.start) (sym log_is); end_is = held.end_is ∙ ap end_of (sym log_is) } in
    let kept = c.leaves_kept-kept.result in
    let keeps = c.leaves_kept-kept.ensures.kept log (sym held.start_is ∙ sym c.bounds-from.ensures.start) (sym held.end_is ∙ sym c.bounds-from.ensures.end) in
    let m = c.in_ok-map.map in
    let map_is = (c.in_ok-map.ensures {u = tt}).map ∙ ap (λ (ps : List ℕ). pinned_map spelling finmap.empty ps c.deref-3.result.now start) (c.deref-2.ensures.value ∙ c.in_ok-positions.ensures {u = tt}) ∙ ap (λ (xs : List _). pinned_map spelling finmap.empty (pins s start) xs start) c.deref-3.ensures.value in
    let are = held_source (λ src. ArePins (Unit {0}) src (pins s start) given ds) spelling g.D.Read.admits pinned view old log held refl (pins_known (g.V.Volume.tells × IsWithin view old) source c.deref.result.now (pins s start) given ds (told, within) at (did.pins told)) in
    let w = g.met.F.Family.lawful in
    let small = g.met.F.Family.small in
    let few : start ≤ 2 ^ 62 = omega (arith, c.requires.few, c.requires.below) in
    let of = subst (λ (x : Map). IsMapOf s h spelling all start x) (sym map_is) (begun_is_map s h spelling all ds start w (small start) few from.long (sym are.counted) (from.pinned ds are)) in
    let known = g.V.Volume.tells × IsWithin view new in
    let later = source_of spelling g.D.Read.admits m view new in
    let leaf = tells_begun s h w spelling (λ a b same. g.met.D.Digest.exact a b (sym (g.met.D.Digest.spelled a) ∙ same ∙ g.met.D.Digest.spelled b)) all start c.args.end m log of later known (told, held_within view new now) refl log_is refl small few c.requires.few kept keeps from.logged in
    let pin = tells_pins s h w spelling (λ a b same. g.met.D.Digest.exact a b (sym (g.met.D.Digest.spelled a) ∙ same ∙ g.met.D.Digest.spelled b)) all start c.args.end m log of later known refl refl few (small start) in
    let long = leaves_few s h w all start c.args.end given contents from kept keeps in
    let n_is = c.unwrap_or.ensures in
    subst (λ (n : ℕ). IsOf s h (take n all) c.in_ok-mem.mem) n_is
    ((c.in_ok-mem.ensures {u = tt}).told h all (subst (λ (n : ℕ). n ≤ length all) (sym n_is) long) (subst (λ (n : ℕ). TellsPeaks known later s h all n) (sym n_is) leaf) pin)

pub returns-clause-reads : goal.returns-clause-reads
returns-clause-reads g c =
    let one = only_read_joins _ _ _ _ _ _ (only_read_none g.V.Volume.tells (g.V.Volume.state c.args.vol.now)) (c.in_ok-pins.ensures {u = tt}).reads in
    let two = only_read_joins _ _ _ _ _ _ one (c.in_ok-mem.ensures {u = tt}).reads in
    reads_ok _ _ _ _ _ two

pub returns-clause-recalls : goal.returns-clause-recalls
returns-clause-recalls g c told held =
    let s = g.F.Family.shape in
    let spelling = g.D.Spelled.spelling in
    let old = g.V.Volume.state c.args.vol.now in
    let new = g.V.Volume.state c.start_pins.new.vol in
    let view = seen_of c.args.nodes.now in
    let log = log_of view old in
    let log_is = ((c.in_ok-pins.ensures {u = tt}).reads.contents told).logs view.name in
    let now : IsHeld view new = record { start_is = held.start_is ∙ ap (λ (l : Log). l.start) (sym log_is); end_is = held.end_is ∙ ap end_of (sym log_is) } in
    let m = c.in_ok-map.map in
    let mem = c.in_ok-mem.mem in
    let n = size s c.unwrap_or.result in
    let later = source_of spelling g.D.Read.admits m view new in
    let recalled = recalled_known (g.V.Volume.tells × IsWithin view new) (told, held_within view new now) later n mem (c.in_ok-mem.ensures {u = tt}).recalls in
    let there = held_source (λ src. IsRecalled (Unit {0}) src n mem) spelling g.D.Read.admits m view new log now log_is recalled in
    subst (λ (k : ℕ). IsRecalled (Unit {0}) (contents_of spelling (g.D.Read.admits tt) m log) (size s k) mem) c.unwrap_or.ensures there

pub returns-in_err-mem-clause-errors : goal.returns-in_err-mem-clause-errors
returns-in_err-mem-clause-errors g c =
    let s = g.F.Family.shape in
    let new = g.V.Volume.state c.start_pins.new.vol in
    let view = seen_of c.args.nodes.now in
    let e = c.in_err-mem.field-0.0 in
    let later = source_of g.D.Spelled.spelling g.D.Read.admits c.in_ok-map.map view new in
    err_same c.from_residual-in_err-mem.result e IsLifted c.from_residual-in_err-mem.ensures.1 (not_reopened_lifted (g.V.Volume.tells × IsWithin view new) later s c.unwrap_or.result c.args.start e c.in_err-mem.ensures.refused)

pub returns-in_err-map-clause-errors : goal.returns-in_err-map-clause-errors
returns-in_err-map-clause-errors g c = err_same c.from_residual-in_err-map.result c.in_err-map.field-0.0 IsLifted c.from_residual-in_err-map.ensures.1 (subst IsLifted (sym c.in_err-map.ensures.memory) tt)
