-- Errors of reads of batches.
use Rattle.std.proofs.Common.{◌≡◌, ◌⊎◌, inl, inr, ℕ, ◌<◌, ◌≤◌, ◌-◌, Bool, true, false, List, [], ◌∷◌, Some, None, Option, Ok, Err, refl, sym, ◌∙◌, ap, subst}
use Rattle.std.specs.Prelude.{Contains, Result, IfErr, IsErrOf, IsOkUnless, slice_get, nat_lt, nat_le, if◌then◌else◌}
use Rattle.std.specs.Option.{option_map_or}
use Rattle.std.specs.Result.{IsErrAnd}
use Rattle.std.proofs.lemmas.List.Elements.{Contains-get_or}
use Rattle.std.proofs.lemmas.Option.{slice_get_within, get_or_from_slice_get}
use Rattle.volume_base.specs.Log.{Log, IsItemAt, end_of}
use Rattle.volume_base.specs.Volume.{State, SameContents}
use Rattle.volume_base.specs.declared.error.JournalError.{JournalError}
use Rattle.volume_base.specs.declared.error.JournalError.TheVariants as journal
use Rattle.journal_base.specs.Items.{Items, IsCorrupt, items_of}
use Rattle.journal_base.specs.View.{View, log_of}
use Rattle.auth_journal.specs.Kept.{kept_item}
use Rattle.log_model.specs.Meaning.{Meaning}
use Rattle.log_model.specs.Reads.{or_else, refuse_if, unordered, first_below}
use Rattle.log_model.specs.declared.refusal.Refusal.{Refusal}
use Rattle.log_model.specs.declared.refusal.Refusal.TheVariants as refusal
use Rattle.chain_core.specs.Answers.{IsRefusedWhere, read_refusal_of}
use Rattle.chain_core.specs.Errors.{from_journal}
use Rattle.chain_core.specs.Reached.{linked_item}
use Rattle.chain_core.specs.declared.error.Error.{Error}
use Rattle.chain_core.specs.declared.error.Error.TheVariants as db_error
use Rattle.chain_core.specs.declared.pool.HeldBatch.{HeldBatch}
use Rattle.keyless_db.specs.Batches.{MerkleizedView, UnmerkleizedView}
use Rattle.keyless_db.specs.Reading.{IsChainFault, IsReadAt, IsReadBelow, IsReadFault, last_past, locations_refusal, location_refusal, floored_refusal, pending_item}
use Rattle.keyless_db.proofs.LocationLemmas.{le_true, le_false}
use Rattle.keyless_db.proofs.SeveralLemmas.{unfit_err}

-- one of several
pub contains_at : {X : Type 0} (xs : List X) (i : ℕ) (x : X) → slice_get xs i ≡ Some x → Contains xs x
contains_at {X = X} xs i x at = subst (λ (y : X). Contains xs y) (get_or_from_slice_get xs i x x at) (Contains-get_or xs i x (slice_get_within xs i x at))

-- ---- what answers an error

-- an error that a call handed on
pub err_handed : {F T : Type 0} (r : Result T (Error F)) (e : Error F) (P : Error F → Type 0) → IsErrAnd r (λ d. d ≡ e) → P e → IfErr r P
err_handed (Ok x) e P is p = absurd is
err_handed (Err d) e P is p = subst P (sym is) p

-- what is so of each error
pub err_more : {F T : Type 0} (r : Result T (Error F)) (P Q : Error F → Type 0) → IfErr r P → ((e : Error F) → P e → Q e) → IfErr r Q
err_more (Ok x) P Q p give = tt
err_more (Err e) P Q p give = give e p

not_read : {F : Type 0} (cause : JournalError) → from_journal {F = F} cause ≡ db_error.StaleRead → ⊥
not_read journal.Volume is = cc
not_read journal.Memory is = cc
not_read (journal.ItemPruned p) is = cc
not_read (journal.ItemOutOfRange p) is = cc
not_read (journal.Corruption p) is = cc
not_read journal.SizeOverflow is = cc
not_read journal.EmptyAppend is = cc
not_read (journal.Tree cause) is = cc

-- ---- want of memory

module _ {F Op : Type 0} (tells : Type 0) (items : Items Op) where
  pub memory_fault : (l : ℕ) → IsReadFault {F = F} tells items l db_error.Memory
  memory_fault l = record {
    cause = journal.Memory;
    is = refl;
    of_read = refl;
    pruned = λ p at. absurd cc;
    out_of_range = λ p at. absurd cc;
    corrupt = λ p at. absurd cc;
  }

  pub unless_memory : {T : Type 0} (size : ℕ) (kept : Option Op) (l : ℕ) (r : Result T (Error F)) → IsOkUnless r db_error.Memory → IfErr r (IsChainFault tells items size kept l)
  unless_memory size kept l (Ok x) is = tt
  unless_memory size kept l (Err e) is = inr (subst (λ (d : Error F). IsReadFault tells items l d) (sym is) (memory_fault l))

  -- ---- no read is stale

  fault_not_stale : (size : ℕ) (kept : Option Op) (l : ℕ) (e : Error F) → IsChainFault tells items size kept l e → e ≡ db_error.StaleRead → ⊥
  fault_not_stale size kept l e (inl (none, past, is)) same = let bad = sym is ∙ same in cc
  fault_not_stale size kept l e (inr fault) same = not_read fault.cause (sym fault.is ∙ same)

  pub read_not_stale : {T : Type 0} (size : ℕ) (kept : Option Op) (l : ℕ) (r : Result T (Error F)) → IfErr r (IsChainFault tells items size kept l) → IsErrOf r db_error.StaleRead → ⊥
  read_not_stale size kept l (Ok x) fault at = cc
  read_not_stale size kept l (Err e) fault at = fault_not_stale size kept l e fault (let same : e ≡ db_error.StaleRead = cc in same)

  pub reads_not_stale : {T : Type 0} (size : ℕ) (kept : ℕ → Option Op) (ls : List ℕ) (r : Result T (Error F))
      → IfErr r (λ e. (l : ℕ) × Contains ls l × IsChainFault tells items size (kept l) l e) → IsErrOf r db_error.StaleRead → ⊥
  reads_not_stale size kept ls (Ok x) fault at = cc
  reads_not_stale size kept ls (Err e) fault at = fault_not_stale size (kept fault.0) fault.0 e fault.2 (let same : e ≡ db_error.StaleRead = cc in same)

-- ---- no location is stale

either : (x y : Option Refusal) (r : Refusal) → or_else x y ≡ Some r → (x ≡ Some r) ⊎ (y ≡ Some r)
either None y r is = inr is
either (Some why) y r is = inl is

refused_is : (b : Bool) (why r : Refusal) → refuse_if b why ≡ Some r → why ≡ r
refused_is true why r is = cc
refused_is false why r is = absurd cc

rest : (b : Bool) (o : Option Refusal) (why r : Refusal) → (if b then o else Some why) ≡ Some r → (why ≡ r → ⊥) → o ≡ Some r
rest true o why r is apart = is
rest false o why r is apart = let same : why ≡ r = cc in absurd (apart same)

not_unordered : (ls : List ℕ) → unordered ls ≡ Some refusal.StaleRead → ⊥
not_unordered [] is = cc
not_unordered (x ∷ []) is = cc
not_unordered (x ∷ y ∷ ls) is = not_unordered (y ∷ ls) (rest (nat_lt x y) (unordered (y ∷ ls)) (refusal.LocationOutOfOrder x y) refusal.StaleRead is (λ same. cc))

not_past : (size : ℕ) (ls : List ℕ) → last_past size ls ≡ Some refusal.StaleRead → ⊥
not_past size [] is = cc
not_past size (l ∷ []) is = let bad = refused_is (nat_le size l) (refusal.LocationOutOfBounds l size) refusal.StaleRead is in cc
not_past size (l ∷ k ∷ ls) is = not_past size (k ∷ ls) is

not_below : (floor : ℕ) (ls : List ℕ) → first_below floor refusal.BelowInactivityFloor ls ≡ Some refusal.StaleRead → ⊥
not_below floor [] is = cc
not_below floor (l ∷ ls) is = let bad = refused_is (nat_lt l floor) (refusal.BelowInactivityFloor l) refusal.StaleRead is in cc

not_location : (size floor l : ℕ) → location_refusal size floor l ≡ Some refusal.StaleRead → ⊥
not_location size floor l is = by (either (refuse_if (nat_le size l) (refusal.LocationOutOfBounds l size)) (refuse_if (nat_lt l floor) (refusal.BelowInactivityFloor l)) refusal.StaleRead is)
  where
    by : (refuse_if (nat_le size l) (refusal.LocationOutOfBounds l size) ≡ Some refusal.StaleRead) ⊎ (refuse_if (nat_lt l floor) (refusal.BelowInactivityFloor l) ≡ Some refusal.StaleRead) → ⊥
    by (inl at) = let bad = refused_is (nat_le size l) (refusal.LocationOutOfBounds l size) refusal.StaleRead at in cc
    by (inr at) = let bad = refused_is (nat_lt l floor) (refusal.BelowInactivityFloor l) refusal.StaleRead at in cc

not_locations : (size floor : ℕ) (ls : List ℕ) → floored_refusal size floor ls ≡ Some refusal.StaleRead → ⊥
not_locations size floor ls is = by (either (locations_refusal size ls) (first_below floor refusal.BelowInactivityFloor ls) refusal.StaleRead is)
  where
    within : (unordered ls ≡ Some refusal.StaleRead) ⊎ (last_past size ls ≡ Some refusal.StaleRead) → ⊥
    within (inl at) = not_unordered ls at
    within (inr at) = not_past size ls at

    by : (locations_refusal size ls ≡ Some refusal.StaleRead) ⊎ (first_below floor refusal.BelowInactivityFloor ls ≡ Some refusal.StaleRead) → ⊥
    by (inl at) = within (either (unordered ls) (last_past size ls) refusal.StaleRead at)
    by (inr at) = not_below floor ls at

module _ {F S : Type 0} (T : Type 0) (e : Error F) (stale : IsErrOf {T = S} (Err e) db_error.StaleRead) where
  reason : (o : Option Refusal) → IsRefusedWhere {A = T} o (Err e) → o ≡ Some refusal.StaleRead
  reason o is =
      let why = unfit_err T o e is in
      let same : e ≡ db_error.StaleRead = cc in
      why.1 ∙ sym why.2 ∙ ap read_refusal_of same

  pub location_not_stale : (size floor l : ℕ) → IsRefusedWhere {A = T} (location_refusal size floor l) (Err e) → ⊥
  location_not_stale size floor l is = not_location size floor l (reason (location_refusal size floor l) is)

  pub locations_not_stale : (size floor : ℕ) (ls : List ℕ) → IsRefusedWhere {A = T} (floored_refusal size floor ls) (Err e) → ⊥
  locations_not_stale size floor ls is = not_locations size floor ls (reason (floored_refusal size floor ls) is)

-- what is refused isn't fit
pub fit_never : {F : Type 0} (T : Type 0) (o : Option Refusal) (e : Error F) → IsRefusedWhere {A = T} o (Err e) → o ≡ None → ⊥
fit_never T o e is none = let why = unfit_err T o e is in let bad : None ≡ Some why.0 = sym none ∙ why.1 in cc

-- ---- a read behind others that were done

module _ {Op Cfg : Type 0} (F : Type 0) (tells : Type 0) (spelling : Op → List ℕ) (admits : Cfg → Op → Type 0) (view : View Cfg) (a b : State) (same : tells → SameContents a b) where
  abbrev at_log : Log → Items Op
  at_log log = record { log = log; spelling = spelling; admits = admits view.codec }

  still : tells → log_of view b ≡ log_of view a
  still told = (same told).logs view.name

  pub read_still : (l : ℕ) (e : Error F) → IsReadFault tells (items_of spelling admits view b) l e → IsReadFault tells (items_of spelling admits view a) l e
  read_still l e fault = record {
    cause = fault.cause;
    is = fault.is;
    of_read = fault.of_read;
    pruned = λ p at. let was = fault.pruned p at in (was.0, λ told. subst (λ (log : Log). l < log.start) (still told) (was.1 told));
    out_of_range = λ p at. let was = fault.out_of_range p at in (was.0, λ told. subst (λ (log : Log). end_of log ≤ l) (still told) (was.1 told));
    corrupt = λ p at. let was = fault.corrupt p at in (was.0, λ told. subst (λ (log : Log). IsCorrupt (at_log log) l) (still told) (was.1 told));
  }

  pub fault_still : (size : ℕ) (kept : Option Op) (l : ℕ) (e : Error F) → IsChainFault tells (items_of spelling admits view b) size kept l e → IsChainFault tells (items_of spelling admits view a) size kept l e
  fault_still size kept l e (inl lost) = inl lost
  fault_still size kept l e (inr fault) = inr (read_still l e fault)

pub read_at_still : {Op V Cfg : Type 0} (m : Meaning Op V) (tells : Type 0) (spelling : Op → List ℕ) (admits : Cfg → Op → Type 0) (view : View Cfg) (a b : State) → (tells → SameContents a b) → (l : ℕ) (v : Option V)
    → (tells → IsReadAt m (items_of spelling admits view b) l v) → tells → IsReadAt m (items_of spelling admits view a) l v
read_at_still m tells spelling admits view a b same l v was t =
    let at = was t in (at.0, subst (λ (log : Log). IsItemAt log l (spelling at.0)) ((same t).logs view.name) at.1, at.2, at.3)

pub told_still : {Op V Cfg : Type 0} (m : Meaning Op V) (tells : Type 0) (spelling : Op → List ℕ) (admits : Cfg → Op → Type 0) (view : View Cfg) (a b : State) → (tells → SameContents a b) → (size : ℕ) (kept : Option Op) (l : ℕ)
    (v : Option V) → IsReadBelow m tells (items_of spelling admits view b) size kept l v → IsReadBelow m tells (items_of spelling admits view a) size kept l v
told_still m tells spelling admits view a b same size kept l v told none =
    let was = told none in
    (was.0, λ t. let at = was.1 t in (at.0, subst (λ (log : Log). IsItemAt log l (spelling at.0)) ((same t).logs view.name) at.1, at.2, at.3))

-- ---- what a batch that collects has

module _ {F D Op : Type 0} (pool : List (Option (HeldBatch (MerkleizedView F D Op)))) (b : UnmerkleizedView F D Op) (l : ℕ) where
  abbrev below : Option Op
  below = option_map_or (λ (p : MerkleizedView F D Op). kept_item p.tree l) (linked_item pool b.parent) None

  pub pending_collected : b.base.size ≤ l → pending_item pool b l ≡ slice_get b.tree.items (l - b.base.size)
  pending_collected low = ap (λ t. if t then slice_get b.tree.items (l - b.base.size) else below) (le_true b.base.size l low)

  pub pending_kept : (p : MerkleizedView F D Op) → l < b.base.size → linked_item pool b.parent ≡ Some p → pending_item pool b l ≡ kept_item p.tree l
  pending_kept p lt linked =
      ap (λ t. if t then slice_get b.tree.items (l - b.base.size) else below) (le_false b.base.size l lt)
      ∙ ap (λ (o : Option (MerkleizedView F D Op)). option_map_or (λ (x : MerkleizedView F D Op). kept_item x.tree l) o None) linked

  pub pending_none : l < b.base.size → linked_item pool b.parent ≡ None → pending_item pool b l ≡ None
  pending_none lt none =
      ap (λ t. if t then slice_get b.tree.items (l - b.base.size) else below) (le_false b.base.size l lt)
      ∙ ap (λ (o : Option (MerkleizedView F D Op)). option_map_or (λ (x : MerkleizedView F D Op). kept_item x.tree l) o None) none
