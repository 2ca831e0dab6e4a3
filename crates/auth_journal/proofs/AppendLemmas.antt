-- Appends, and what is answered above them.
use Rattle.std.proofs.Common.{◌≡◌, ℕ, List, map, Ok, Err, refl, sym, ◌∙◌, ap, subst, arith}
use Rattle.std.specs.Prelude.{Result, IsErrOf}
use Rattle.std.specs.Result.{IsErrAnd}
use Rattle.volume_base.specs.Log.{Grows}
use Rattle.volume_base.specs.Volume.{State, Writes}
use Rattle.volume_base.specs.declared.error.JournalError.{JournalError}
use Rattle.volume_base.specs.declared.error.JournalError.TheVariants as journal
use Rattle.volume_base.proofs.CallLemmas.{log_call_none}
use Rattle.volume_base.proofs.StepLemmas.{grows_same}
use Rattle.journal_base.specs.View.{View, log_of, SameButBounds, IsHeld}
use Rattle.auth_journal.specs.Appending.{Appends}
use Rattle.auth_journal.specs.Errors.{from_journal, from_tree}
use Rattle.auth_journal.specs.declared.error.Error.{Error}
use Rattle.auth_journal.specs.declared.error.Error.TheVariants as joined
use Rattle.tree_shape.specs.Shape.{Shape}
use Rattle.tree_store.specs.declared.error.Error as tree_error
use Rattle.tree_core.specs.Applied.{RefusedByTree}
use Rattle.tree_core.specs.Batches.{Sealed}
use Rattle.tree_core.specs.Tree.{Tree}
use Rattle.auth_journal.proofs.ErrorLemmas.{volume_from, never_volume}

-- nothing was called
pub writes_none : {T E : Type 0} (tells : Type 0) (fault : E) (s : State) (result : Result T E) → (IsErrOf result fault → ⊥) → Writes tells fault s s result
writes_none tells fault s (Ok x) none = record { later = omega arith; still = λ told same. record { logs = λ name. refl; maps = λ name. refl }; reads = refl; faults = omega arith; failed = λ is. absurd (none is); kept = refl; steady = λ steady. record { steady = steady; faults = refl } }
writes_none tells fault s (Err e) none = record { later = omega arith; still = λ told same. record { logs = λ name. refl; maps = λ name. refl }; reads = refl; faults = omega arith; failed = λ is. absurd (none is); kept = tt; steady = λ steady. record { steady = steady; faults = refl } }

-- a call was made, and another error is answered for its own, or an error behind its Ok
pub writes_err : {S T D E : Type 0} (tells : Type 0) (first : D) (fault : E) (a b : State) (r : Result S D) (e : E) → Writes tells first a b r → (e ≡ fault → IsErrOf r first) → Writes {T = T} tells fault a b (Err e)
writes_err tells first fault a b r e w same = record {
  later = w.later;
  still = w.still;
  reads = w.reads;
  faults = w.faults;
  failed = λ is. w.failed (same (err_is _ _ is));
  kept = tt;
  steady = w.steady;
}
  where
    err_is : {T E : Type 0} (x y : E) → IsErrOf {T = T} (Err x) y → x ≡ y
    err_is x y is = cc

module _ {Codec Item : Type 0} (tells : Type 0) (spelling : Item → List ℕ) (view : View Codec) (items : List Item) (a b : State) where
  -- before anything is called
  pub appends_none : {T E : Type 0} (fault : E) (shown : T → View Codec) (e : E) → (e ≡ fault → ⊥) → Appends tells fault spelling view shown items a a (Err e)
  appends_none fault shown e none = record {
    fits = tt;
    made = tt;
    held = tt;
    appended = tt;
    log = λ told. log_call_none view.name (Grows (log_of view a) (map spelling items)) a (grows_same (log_of view a) (map spelling items));
    none = λ is. refl;
    writes = writes_none tells fault a (Err e) (λ is. none (err_is _ _ is));
  }
    where
      err_is : {T E : Type 0} (x y : E) → IsErrOf {T = T} (Err x) y → x ≡ y
      err_is x y is = cc

  -- another error is answered for the append's, or behind it
  pub appends_err : {S T D E : Type 0} (first : D) (fault : E) (was : S → View Codec) (shown : T → View Codec) (r : Result S D) (e : E)
      → Appends tells first spelling view was items a b r → (e ≡ fault → IsErrOf r first) → Appends tells fault spelling view shown items a b (Err e)
  appends_err first fault was shown r e did same = record {
    fits = tt;
    made = tt;
    held = tt;
    appended = tt;
    log = did.log;
    none = did.none;
    writes = writes_err tells first fault a b r e did.writes same;
  }

  pub appends_ok : {S T D E : Type 0} (first : D) (fault : E) (was : S → View Codec) (shown : T → View Codec) (x : S) (y : T)
      → Appends tells first spelling view was items a b (Ok x) → shown y ≡ was x → Appends tells fault spelling view shown items a b (Ok y)
  appends_ok first fault was shown x y did same = record {
    fits = did.fits;
    made = subst (λ (v : View Codec). SameButBounds view v) (sym same) did.made;
    held = λ told held. subst (λ (v : View Codec). IsHeld v b) (sym same) (did.held told held);
    appended = did.appended;
    log = did.log;
    none = did.none;
    writes = record {
      later = did.writes.later;
      still = did.writes.still;
      reads = did.writes.reads;
      faults = did.writes.faults;
      failed = λ is. absurd cc;
      kept = did.writes.kept;
      steady = did.writes.steady;
    };
  }

  -- a refusal of the tree, before the log is called
  pub appends_refused : {F T D : Type 0} (s : Shape) (t : Tree D) (c : Sealed D) (shown : T → View Codec) (e : tree_error.Error F) (result : Result T (Error F))
      → IsErrAnd result (λ d. d ≡ from_tree e) → RefusedByTree s t c e → Appends tells joined.Volume spelling view shown items a a result
  appends_refused s t c shown e (Ok y) is why = absurd is
  appends_refused s t c shown e (Err d) is why = appends_none joined.Volume shown d (λ fault. never_volume s t c e why (sym is ∙ fault))

  -- another error, before the log is called
  pub appends_not : {F T : Type 0} (shown : T → View Codec) (e : Error F) (result : Result T (Error F))
      → IsErrAnd result (λ d. d ≡ e) → (e ≡ joined.Volume → ⊥) → Appends tells joined.Volume spelling view shown items a a result
  appends_not shown e (Ok y) is never = absurd is
  appends_not shown e (Err d) is never = appends_none joined.Volume shown d (λ fault. never (sym is ∙ fault))

  -- the error of a call that appends
  pub appends_handed : {F S T : Type 0} (was : S → View Codec) (shown : T → View Codec) (r : Result S (Error F)) (e : Error F) (result : Result T (Error F))
      → r ≡ Err e → IsErrAnd result (λ d. d ≡ e) → Appends tells joined.Volume spelling view was items a b r → Appends tells joined.Volume spelling view shown items a b result
  appends_handed was shown r e (Ok y) at is did = absurd is
  appends_handed was shown r e (Err d) at is did = appends_err joined.Volume joined.Volume was shown r d did (λ fault. at ∙ ap Err (sym is ∙ fault))

  -- the log's own refusal
  pub appends_below : {F S T : Type 0} (was : S → View Codec) (shown : T → View Codec) (r : Result S JournalError) (e : JournalError) (result : Result T (Error F))
      → r ≡ Err e → IsErrAnd result (λ d. d ≡ from_journal e) → Appends tells journal.Volume spelling view was items a b r → Appends tells joined.Volume spelling view shown items a b result
  appends_below was shown r e (Ok y) at is did = absurd is
  appends_below was shown r e (Err d) at is did = appends_err journal.Volume joined.Volume was shown r d did (λ fault. at ∙ ap Err (volume_from e (sym is ∙ fault)))
