-- A journal as a log of items.
use Rattle.std.proofs.Common.{◌≡◌, ◌⊎◌, Some, inl, inr, min, max, ℕ, ◌<◌, ◌≤◌, Bool, List, length, Ok, Err, refl, sym, ◌∙◌, ap, subst, arith}
use Rattle.std.proofs.lemmas.Bool.{cases_lt}
use Rattle.std.specs.Prelude.{◌↔◌, Result, IsErrOf, IsTrue}
use Rattle.volume_base.specs.Log.{Log, end_of, pruned_to}
use Rattle.volume_base.specs.Volume.{State, Writes, Changes}
use Rattle.volume_base.specs.Moments.{Steps}
use Rattle.volume_base.specs.declared.error.JournalError.{JournalError}
use Rattle.volume_base.specs.declared.error.JournalError.TheVariants as journal
use Rattle.journal_base.specs.Items.{Spells}
use Rattle.journal_base.specs.Tickets as tickets
use Rattle.journal_base.specs.View.{SameButBounds, IsHeld, after_sync, at_bounds, log_of, prune_point}
use Rattle.journal_base.specs.declared.ticket.SyncTicket.{SyncTicket}
use Rattle.journal_base.specs.declared.ticket.SyncTicket.TheVariants.{Done, Failed}
use Rattle.journal_base.proofs.ItemLemmas.{spells_pruned}
use Rattle.journal_base.proofs.StepLemmas as steps
use Rattle.merkle_full.proofs.PruneLemmas.{blob_low}
use Rattle.auth_journal.specs.Durable.{IsFlushed, IsStarted, IsPrunedTo, sync_of}
use Rattle.auth_journal.specs.Errors.{lowered}
use Rattle.auth_journal.specs.Joined.{Joined, log_view}
use Rattle.auth_journal.specs.declared.error.Error.{Error}
use Rattle.auth_journal.specs.declared.error.Error.TheVariants as joined
use Rattle.auth_journal.proofs.AppendLemmas.{writes_err}
use Rattle.auth_journal.proofs.LowerLemmas.{volume_lowered}
use Rattle.auth_journal.proofs.ReadingLemmas.{run_end}

-- ---- what it tells of itself

module _ {D Codec : Type 0} (j k : Joined D Codec) where
  pub same_view : SameButBounds j.items k.items → k.failed ≡ j.failed → SameButBounds (log_view j) (log_view k)
  same_view items failed = ap (λ v. after_sync v k.failed) items ∙ ap (λ b. after_sync (at_bounds j.items k.items.start k.items.end) b) failed

  pub flushed_view : IsFlushed j k → log_view k ≡ log_view j
  flushed_view flushed = ap (λ v. after_sync v k.failed) flushed.items ∙ ap (λ b. after_sync j.items b) flushed.failed

  pub started_view : (fails : Bool) → IsStarted j k fails → log_view k ≡ after_sync (log_view j) fails
  started_view fails started = ap (λ v. after_sync v k.failed) started.items ∙ ap (λ b. after_sync j.items b) started.failed

pub held_view : {D Codec : Type 0} (k : Joined D Codec) (b : State) → IsHeld k.items b → IsHeld (log_view k) b
held_view k b held = record { start_is = held.start_is; end_is = held.end_is }

-- ---- what it answers

-- a failure of the volume stays one
pub volume_stays : {F T : Type 0} (e : Error F) (d : JournalError) → IsErrOf {T = T} (Err e) joined.Volume → lowered e ≡ Some d → d ≡ journal.Volume
volume_stays e d at is = let same : e ≡ joined.Volume = cc in let here : Some journal.Volume ≡ Some d = ap lowered (sym same) ∙ is in cc

volume_back : {F S T : Type 0} (e : Error F) (d : JournalError) → lowered e ≡ Some d → IsErrOf {T = T} (Err d) journal.Volume → IsErrOf {T = S} (Err e) joined.Volume
volume_back e d is at = let same : d ≡ journal.Volume = cc in ap Err (volume_lowered e (is ∙ ap Some same))

module _ {S T F : Type 0} (tells : Type 0) (a b : State) where
  pub writes_done : (x : S) (y : T) → Writes {E = Error F} tells joined.Volume a b (Ok x) → Writes tells journal.Volume a b (Ok y)
  writes_done x y w = record { later = w.later; still = w.still; reads = w.reads; faults = w.faults; failed = λ is. absurd cc; kept = w.kept; steady = w.steady }

  pub writes_lowered : (e : Error F) (d : JournalError) → lowered e ≡ Some d → Writes {T = S} tells joined.Volume a b (Err e) → Writes {T = T} tells journal.Volume a b (Err d)
  writes_lowered e d is w = writes_err tells joined.Volume journal.Volume a b (Err e) d w (λ same. ap Err (volume_lowered e (is ∙ ap Some same)))

  pub changes_done : (x : S) (y : T) → Changes {E = Error F} tells joined.Volume a b (Ok x) → Changes tells journal.Volume a b (Ok y)
  changes_done x y w = record { later = w.later; still = w.still; faults = w.faults; failed = λ is. absurd cc; kept = w.kept; reads = w.reads; steady = w.steady }

  pub changes_lowered : (e : Error F) (d : JournalError) → lowered e ≡ Some d → Changes {T = S} tells joined.Volume a b (Err e) → Changes {T = T} tells journal.Volume a b (Err d)
  changes_lowered e d is w = record { later = w.later; still = w.still; faults = w.faults; failed = λ at. w.failed (volume_back e d is at); kept = tt; reads = w.reads; steady = w.steady }

pub ticket_writes : {F : Type 0} (tells : Type 0) (a b : State) (t : SyncTicket) → Writes {E = Error F} tells joined.Volume a b (sync_of t) → Writes tells journal.Volume a b (tickets.sync_of t)
ticket_writes tells a b Done w = writes_done tells a b tt tt w
ticket_writes tells a b Failed w = writes_lowered tells a b joined.Volume journal.Volume refl w

-- ---- a prune

module _ {D Codec : Type 0} (j m : Joined D Codec) (least : ℕ) (a b : State) (moves : 0 < j.items.end → IsPrunedTo j m) (stays : j.items.end ≡ 0 → (m ≡ j) × (b ≡ a)) where
  either : (P : Type 0) → (0 < j.items.end → P) → (j.items.end ≡ 0 → P) → P
  either P some none = elim (cases_lt 0 j.items.end) [
    | inl lt ↦ some lt
    | inr le ↦ none (omega (arith, le))
  ]

  pub pruned_view : SameButBounds (log_view j) (log_view m)
  pruned_view = either (SameButBounds (log_view j) (log_view m)) (λ some. same_view j m (moves some).items (moves some).failed)
      (λ none. subst (λ (k : Joined D Codec). SameButBounds (log_view j) (log_view k)) (sym (stays none).0) refl)

  pub pruned_held : (0 < j.items.end → IsHeld m.items b) → IsHeld (log_view j) a → IsHeld (log_view m) b
  pruned_held held was = either (IsHeld (log_view m) b) (λ some. record { start_is = (held some).start_is; end_is = (held some).end_is })
      (λ none. subst (λ (k : Joined D Codec). IsHeld (log_view k) b) (sym (stays none).0) (subst (λ (s : State). IsHeld (log_view j) s) (sym (stays none).1) was))

  -- of a log without items no prune moves the start
  point_zero : IsHeld (log_view j) a → j.items.end ≡ 0 → prune_point j.items least a ≤ (log_of j.items a).start
  point_zero was none = omega (arith, was.end_is, none, blob_low j.items.blob (min least (end_of (log_of j.items a))))

  pub pruned_log : (0 < j.items.end → log_of j.items b ≡ pruned_to (log_of j.items a) (prune_point j.items least a)) → IsHeld (log_view j) a → log_of j.items b ≡ pruned_to (log_of j.items a) (prune_point j.items least a)
  pruned_log put was = either (log_of j.items b ≡ pruned_to (log_of j.items a) (prune_point j.items least a)) put
      (λ none. ap (λ (s : State). log_of j.items s) (stays none).1 ∙ sym (steps.pruned_below (log_of j.items a) (prune_point j.items least a) (point_zero was none)))

  pub pruned_list : {Item : Type 0} (spelling : Item → List ℕ) (list : List Item) → log_of j.items b ≡ pruned_to (log_of j.items a) (prune_point j.items least a) → Spells spelling list (log_of j.items a) → Spells spelling list (log_of j.items b)
  pruned_list spelling list put run =
      let low : prune_point j.items least a ≤ length list = omega (arith, run_end spelling list (log_of j.items a) run, blob_low j.items.blob (min least (end_of (log_of j.items a)))) in
      subst (λ (l : Log). Spells spelling list l) (sym put) (spells_pruned spelling list (log_of j.items a) (prune_point j.items least a) low run)

  -- where the point of the prune is past the start the start moves
  pub pruned_start : (0 < j.items.end → log_of j.items b ≡ pruned_to (log_of j.items a) (prune_point j.items least a)) → (0 < j.items.end → IsHeld m.items b) → IsHeld (log_view j) a
      → (log_of j.items a).start < prune_point j.items least a → j.items.start < m.items.start
  pruned_start put held was past = either (j.items.start < m.items.start)
      (λ some.
      let name : m.items.name ≡ j.items.name = ap (λ v. v.name) (moves some).items in
      let there : m.items.start ≡ (log_of j.items b).start = (held some).start_is ∙ ap (λ n. (b.log n).start) name in
      let starts : (log_of j.items b).start ≡ max (log_of j.items a).start (prune_point j.items least a) = ap (λ (l : Log). l.start) (put some) in
      omega (arith, there, starts, past, was.start_is))
      (λ none. absurd (omega (arith, past, point_zero was none)))

abbrev IsMade : {F A : Type 0} → A × ℕ → Result (A × ℕ) (Error F) → Type 0
IsMade made result = Ok made ≡ result

pub pair_first : {F A : Type 0} (x y : A) (m n : ℕ) → IsMade {F = F} (x, m) (Ok (y, n)) → x ≡ y
pair_first {A = A} x y m n is = let both : (x, m) ≡ (y, n) = cc in ap (λ (p : A × ℕ). p.0) both

pub moved_same : (r : Bool) (a b c d x y z w : ℕ) → a ≡ x → b ≡ y → c ≡ z → d ≡ w → (IsTrue r ↔ ((a < b) ⊎ (c < d))) → (IsTrue r ↔ ((x < y) ⊎ (z < w)))
moved_same r a b c d x y z w ax by cz dw moved =
    subst (λ (n : ℕ). IsTrue r ↔ ((n < y) ⊎ (z < w))) ax
    (subst (λ (n : ℕ). IsTrue r ↔ ((a < n) ⊎ (z < w))) by
    (subst (λ (n : ℕ). IsTrue r ↔ ((a < b) ⊎ (n < w))) cz
    (subst (λ (n : ℕ). IsTrue r ↔ ((a < b) ⊎ (c < n))) dw moved)))

-- ---- what a crash leaves

module _ {A S T F : Type 0} {left : State → ℕ → A → Type 0} {P Q : A → Type 0} (a b : State) where
  pub steps_done : (x : S) (y : T) → Steps {E = Error F} left P Q a b (Ok x) → Steps {E = JournalError} left P Q a b (Ok y)
  steps_done x y st = record { past = st.past; ok = st.ok; err = tt }

  pub steps_refused : (e : Error F) (d : JournalError) → Steps {T = S} left P Q a b (Err e) → Steps {T = T} left P Q a b (Err d)
  steps_refused e d st = record { past = st.past; ok = tt; err = st.err }

pub ticket_steps : {A F : Type 0} {left : State → ℕ → A → Type 0} {P Q : A → Type 0} (a b : State) (t : SyncTicket) → Steps {E = Error F} left P Q a b (sync_of t) → Steps left P Q a b (tickets.sync_of t)
ticket_steps a b Done st = steps_done a b tt tt st
ticket_steps a b Failed st = steps_refused a b joined.Volume journal.Volume st
