-- Why a tree isn't prepared, by what its map and its log hold.
use Rattle.std.proofs.Common.{◌≡◌, inl, inr, ℕ, ◌≤◌, List, length, Some, None, Option, Result, Ok, Err, Bool, false, refl, sym, ◌∙◌, ap, subst, arith}
use Rattle.std.specs.Prelude.{IsErrOf, OnOk, unwrap_or, nat_lt, if◌then◌else◌}
use Rattle.std.specs.FinMap as finmap
use Rattle.codec_base.specs.Laws.{eight_bytes}
use Rattle.volume_base.specs.Log.{Log, end_of, cleared_at}
use Rattle.volume_base.specs.Volume.{State, Map, Reads, Writes}
use Rattle.journal_base.specs.Items.{items_of, IsCorrupt}
use Rattle.journal_base.specs.View.{View, log_of, IsHeld, IsWithin}
use Rattle.tree_shape.specs.Shape.{Shape, made}
use Rattle.tree_shape.proofs.NeededLemmas.{made_le}
use Rattle.tree_shape.specs.Hashing.{Hashing}
use Rattle.tree_store.specs.Stored.{size, boundary_key, TreeStands}
use Rattle.tree_store.specs.declared.error.Error.{Error}
use Rattle.tree_core.specs.Tree.{Tree}
use Rattle.merkle_full.specs.Opening.{boundary_in, some_ok, stored_as, stored_in, Selects}
use Rattle.merkle_full.specs.Recovering.{Source, source_of, IsRecovered, AllRecovered, NotRecovered, NotAllRecovered, ArePeaksRecovered, IsRecalled, NotReopened}
use Rattle.merkle_full.specs.Preparing.{contents_of, has_orphan, leaves_reached, log_kept, IsOrphanRead, NotReached, NotOpened, NotPrepared, Opens}

-- ---- what holds under a premise that is known

module _ {D : Type 0} (known : Type 0) (k : known) (source : Source D) where
  recovered_known : (p : ℕ) (d : D) → IsRecovered known source p d → IsRecovered (Unit {0}) source p d
  recovered_known p d r = record { allowed = r.allowed; pinned = r.pinned; logged = λ none _. r.logged none k }

  pub recalled_known : (count : ℕ) (t : Tree D) → IsRecalled known source count t → IsRecalled (Unit {0}) source count t
  recalled_known count t all p d lt at = recovered_known p d (all p d lt at)

  all_known : (ps : List ℕ) → AllRecovered known source ps → AllRecovered (Unit {0}) source ps
  all_known ps all i p at = let r = all i p at in (r.0, recovered_known p r.0 r.1)

  lost_known : {F : Type 0} (p : ℕ) (e : Error F) → NotRecovered known source p e → NotRecovered (Unit {0}) source p e
  lost_known p e (inl out) = inl out
  lost_known p e (inr (inl bad)) = inr (inl bad)
  lost_known p e (inr (inr (none, inl (is, f)))) = inr (inr (none, inl (is, λ _. f k)))
  lost_known p e (inr (inr (none, inr (is, f)))) = inr (inr (none, inr (is, λ _. f k)))

  pub not_all_known : {F : Type 0} (ps : List ℕ) (e : Error F) → NotAllRecovered known source ps e → NotAllRecovered (Unit {0}) source ps e
  not_all_known ps e (inl out) = inl out
  not_all_known ps e (inr lost) = inr (record {
    index = lost.index;
    position = lost.position;
    here = lost.here;
    before = λ i p lt at. let r = lost.before i p lt at in (r.0, recovered_known p r.0 r.1);
    why = lost_known lost.position e lost.why;
  })

  pub not_reopened_known : {F : Type 0} (s : Shape) (leaves boundary : ℕ) (e : Error F) → NotReopened known source s leaves boundary e → NotReopened (Unit {0}) source s leaves boundary e
  not_reopened_known s leaves boundary e (inl lost) = inl (not_all_known _ e lost)
  not_reopened_known s leaves boundary e (inr (all, lost)) = inr (all_known _ all, not_all_known _ e lost)

  pub peaks_known : (s : Shape) (complete pruned : ℕ) → ArePeaksRecovered known source s complete pruned → ArePeaksRecovered (Unit {0}) source s complete pruned
  peaks_known s complete pruned r = record { of_leaves = all_known _ r.of_leaves; of_boundary = all_known _ r.of_boundary }

  pub not_opened_known : {F : Type 0} (s : Shape) (boundary cap : ℕ) (e : Error F) → NotOpened known source s boundary cap e → NotOpened (Unit {0}) source s boundary cap e
  not_opened_known s boundary cap e (inl none) = inl none
  not_opened_known s boundary cap e (inr (complete, pruned, selects, inl lost)) = inr (complete, pruned, selects, inl (not_reopened_known s complete pruned e lost))
  not_opened_known s boundary cap e (inr (complete, pruned, selects, inr (peaks, why))) = inr (complete, pruned, selects, inr (peaks_known s complete pruned peaks, why))

-- ---- a view that has the log's bounds

pub held_source : {D C : Type 0} (P : Source D → Type 0) (spelling : D → List ℕ) (admits : C → D → Type 0) (m : Map) (view : View C) (state : State) (log : Log) → IsHeld view state → log_of view state ≡ log
    → P (source_of spelling admits m view state) → P (contents_of spelling (admits view.codec) m log)
held_source {D = D} P spelling admits m view state log held is p =
    let of : Log → ℕ → ℕ → Source D = λ l from to. record { pins = m; items = record { log = l; spelling = spelling; admits = admits view.codec }; start = from; end = to } in
    subst (λ (l : Log). P (of l l.start (end_of l))) is
    (subst (λ (n : ℕ). P (of (log_of view state) (log_of view state).start n)) held.end_is (subst (λ (n : ℕ). P (of (log_of view state) n view.end)) held.start_is p))

pub held_within : {C : Type 0} (view : View C) (state : State) → IsHeld view state → IsWithin view state
held_within view state held = record { start_is = held.start_is; low = omega (arith, held.start_is, held.end_is); high = omega (arith, held.end_is) }

-- ---- results of calls that are joined

-- a read that leaves the count of reads is a write of nothing
pub writes_of_read : {S T E F : Type 0} (tells : Type 0) (fault : E) (above : F) (a b : State) (r : Result S E) (s : Result T F) → Reads tells fault a b r → b.reads ≡ a.reads → (IsErrOf s above → IsErrOf r fault) → OnOk s (b.faults ≡ a.faults) → Writes tells above a b s
writes_of_read tells fault above a b r s read reads same kept = record {
  later = omega (arith, read.clock);
  still = λ told at. read.contents told;
  reads = reads;
  faults = read.faults;
  failed = λ is. read.failed (same is);
  kept = kept;
  steady = read.steady;
}

-- ---- what is selected, and the orphan

pub selects_in : (s : Shape) (boundary from to start end top complete pruned : ℕ) → from ≡ start → to ≡ end → Selects s boundary from to top complete pruned → Selects s boundary start end top complete pruned
selects_in s boundary from to start end top complete pruned one two selects =
    subst (λ (n : ℕ). Selects s boundary start n top complete pruned) two (subst (λ (n : ℕ). Selects s boundary n to top complete pruned) one selects)

pub selected_past : (s : Shape) (boundary start end top complete pruned leaves : ℕ) → Selects s boundary start end top complete pruned → leaves ≡ complete → start ≤ length (made s leaves)
selected_past s boundary start end top complete pruned leaves selects same =
    let most = made_le s selects.least complete (omega (arith, selects.pruned_is, selects.within)) in
    omega (arith, most, selects.is_least.past, ap (λ (n : ℕ). length (made s n)) same)

pub not_reached_before : {F D C : Type 0} (spelling : D → List ℕ) (admits : C → D → Type 0) (view : View C) (old new : State) → log_of view new ≡ log_of view old → (s : Shape) (top end n : ℕ) (e : Error F)
    → NotReached (items_of spelling admits view new) s top end n e → NotReached (items_of spelling admits view old) s top end n e
not_reached_before spelling admits view old new same s top end n e (inl out) = inl out
not_reached_before spelling admits view old new same s top end n e (inr (has, is, bad)) = inr (has, is, subst (λ (l : Log). IsCorrupt (record { log = l; spelling = spelling; admits = admits view.codec }) (size s n)) same bad)

-- ---- the log that is kept

none_stored : {F : Type 0} (r : Result ℕ (Error F)) → some_ok r ≡ Ok None → ⊥
none_stored (Ok b) is = absurd (cc)
none_stored (Err e) is = absurd (cc)

nothing_there : {F : Type 0} (o : Option (List ℕ)) → stored_as {F = F} o ≡ Ok None → o ≡ None
nothing_there None is = refl
nothing_there {F = F} (Some bytes) is = absurd (none_stored {F = F} (boundary_in bytes) is)

log_at_zero : (log : Log) → log.start ≡ 0 → log_kept None log ≡ log
log_at_zero log zero = ap (λ (b : Bool). if b then cleared_at 0 else log) (let e : nat_lt 0 log.start ≡ false = ap (nat_lt 0) zero in e)

-- where log and map stand for a list, the log is kept as it is
pub kept_standing : {F D : Type 0} (s : Shape) (h : Hashing D) (spelling : D → List ℕ) (all : List D) (durable top : ℕ) (log : Log) (m : Map) (stored : Option ℕ) → TreeStands s h spelling all durable top log m → stored_in {F = F} m ≡ Ok stored → log_kept stored log ≡ log
unfolding made
kept_standing s h spelling all durable top log m (Some b) stands is = refl
kept_standing {F = F} s h spelling all durable top log m None stands is =
    let absent = nothing_there {F = F} (finmap.get m boundary_key) is in
    let zero : stands.boundary ≡ 0 = elim stands.pins.stored [
      | inl there ↦ absurd (let bad : Some (eight_bytes stands.boundary) ≡ None = sym there ∙ absent in cc)
      | inr (none, zero) ↦ zero
    ] in
    log_at_zero log (let high = stands.nodes.start_high in let none : length (made s stands.boundary) ≡ 0 = ap (λ (n : ℕ). length (made s n)) zero in omega (arith, high, none))

-- ---- what is prepared, or isn't

module _ {D : Type 0} (F : Type 0) (spelling : D → List ℕ) (admits : D → Type 0) (s : Shape) (m read : Map) (log : Log) (top high b : ℕ) (stored : Option ℕ)
    (same : read ≡ m) (is : stored_in {F = F} read ≡ Ok stored) (boundary : b ≡ unwrap_or stored 0) (under : high ≡ top) where
  pub not_prepared : (e : Error F) → NotOpened (Unit {0}) (contents_of spelling admits read (log_kept stored log)) s b high e → NotPrepared spelling admits s m log top e
  not_prepared e why =
      let at = subst (λ (n : ℕ). NotOpened (Unit {0}) (contents_of spelling admits read (log_kept stored log)) s n high e) boundary why in
      let capped = subst (λ (n : ℕ). NotOpened (Unit {0}) (contents_of spelling admits read (log_kept stored log)) s (unwrap_or stored 0) n e) under at in
      inr (inr (stored, ap stored_in (sym same) ∙ is, subst (λ (r : Map). NotOpened (Unit {0}) (contents_of spelling admits r (log_kept stored log)) s (unwrap_or stored 0) top e) same capped))

  pub prepared : (start end complete pruned leaves : ℕ) → start ≡ (log_kept stored log).start → end ≡ end_of (log_kept stored log) → Selects s b start end high complete pruned
      → ArePeaksRecovered (Unit {0}) (contents_of spelling admits read (log_kept stored log)) s complete pruned → IsOrphanRead (contents_of spelling admits read (log_kept stored log)).items s high end complete → leaves ≡ leaves_reached s high end complete → Opens F spelling admits s m log top b complete pruned leaves
  prepared start end complete pruned leaves from to selects peaks orphan reached = record {
    stored = stored;
    stored_is = ap stored_in (sym same) ∙ is;
    boundary_is = boundary;
    selects = subst (λ (n : ℕ). Selects s b (log_kept stored log).start (end_of (log_kept stored log)) n complete pruned) under (selects_in s b start end (log_kept stored log).start (end_of (log_kept stored log)) high complete pruned from to selects);
    peaks = subst (λ (r : Map). ArePeaksRecovered (Unit {0}) (contents_of spelling admits r (log_kept stored log)) s complete pruned) same peaks;
    orphan = λ has. orphan (ap (λ (n : ℕ). has_orphan s n end complete) under ∙ ap (λ (n : ℕ). has_orphan s top n complete) to ∙ has);
    leaves_are = reached ∙ ap (λ (n : ℕ). leaves_reached s n end complete) under ∙ ap (λ (n : ℕ). leaves_reached s top n complete) to;
  }

-- what is durable is among the complete leaves
pub durable_fits : {D : Type 0} (F : Type 0) (s : Shape) (h : Hashing D) (spelling : D → List ℕ) (admits : D → Type 0) (all : List D) (durable top : ℕ) (log : Log) (m : Map) (high boundary complete pruned leaves : ℕ)
    → TreeStands s h spelling all durable top log m → Opens F spelling admits s m log high boundary complete pruned leaves → durable ≤ high → durable ≤ complete
durable_fits F s h spelling admits all durable top log m high boundary complete pruned leaves stands opens few =
    let same = kept_standing {F = F} s h spelling all durable top log m opens.stored stands opens.stored_is in
    opens.selects.most.most durable few (omega (arith, stands.nodes.end_low, ap end_of same))
