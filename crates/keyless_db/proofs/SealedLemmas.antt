-- Proofs of a sealed batch's own operations, handed on from its journal's.
use Rattle.std.proofs.Common.{◌≡◌, ◌⊎◌, inl, inr, Some, ℕ, ◌^◌, ◌≤◌, true, List, ◌++◌, length, take, drop, Option, None, Ok, Err, refl, sym, ◌∙◌, ap, subst}
use Rattle.std.specs.Prelude.{Result, IfOk, IfErr, IsErrOf, nat_le}
use Rattle.std.proofs.lemmas.List.{take-append-drop}
use Rattle.tree_shape.specs.Hashing.{Hashing}
use Rattle.tree_shape.specs.Shape.{Shape}
use Rattle.tree_store.specs.declared.error.Error as tree_error
use Rattle.tree_store.specs.declared.error.Error.TheVariants as tree
use Rattle.tree_core.specs.Overlay.{AreAlike}
use Rattle.auth_journal.specs.Errors as journal_errors
use Rattle.auth_journal.specs.Joined.{leaves_of}
use Rattle.auth_journal.specs.declared.error.Error as joined_error
use Rattle.log_model.specs.Meaning.{Meaning}
use Rattle.log_model.specs.declared.refusal.Refusal.{Refusal}
use Rattle.log_model.specs.Operations.{leaves_from}
use Rattle.log_model.specs.Reads.{unless_refused}
use Rattle.volume_base.specs.declared.error.JournalError.{JournalError}
use Rattle.tree_store.specs.Stores.{IsOutside as tree_outside}
use Rattle.merkle_full.specs.Reading.{peaks_answer}
use Rattle.chain_core.specs.Answers.{IsOutside, read_refusal_of}
use Rattle.chain_core.specs.Errors.{from_tree}
use Rattle.chain_core.specs.declared.error.Error.TheVariants as db_error
use Rattle.chain_core.specs.declared.error.Error.{Error}
use Rattle.keyless_db.specs.Errors.{from_joined}
use Rattle.keyless_db.specs.Reading.{LiftsTree, ServesAs, lifted_tree}
use Rattle.keyless_db.proofs.LocationLemmas.{le_true}
use Rattle.keyless_db.proofs.ProofLemmas.{first_leaves}
use Rattle.keyless_db.proofs.SealLemmas.{leaves_are}
use Rattle.keyless_db.proofs.SeveralLemmas.{refused_err}

-- an error of the tree is the same through the journal
pub twice : {F : Type 0} (e : tree_error.Error F) → from_joined (journal_errors.from_tree e) ≡ from_tree e
twice tree.Volume = refl
twice tree.Memory = refl
twice e = refl

ok_below : {F T : Type 0} (x : T) (below : Result T (tree_error.Error F)) → Ok x ≡ journal_errors.lifted below → Ok x ≡ lifted_tree below
ok_below x (Ok y) is = let same : x ≡ y = cc in ap Ok same
ok_below x (Err e) is = absurd cc

err_below : {F T : Type 0} (e : joined_error.Error F) (d : Error F) (below : Result T (tree_error.Error F)) → Err e ≡ journal_errors.lifted below → d ≡ from_joined e → Err d ≡ lifted_tree below
err_below e d (Ok y) is at = absurd cc
err_below e d (Err f) is at = let same : e ≡ journal_errors.from_tree f = cc in ap Err (at ∙ ap from_joined same ∙ twice f)

pub lifts_ok : {F T : Type 0} (P : Result T (tree_error.Error F) → Type 0) (x : T) → journal_errors.Lifts P (Ok x) → LiftsTree P (Ok x)
lifts_ok P x l = record { below = l.below; is = ok_below x l.below l.is; says = l.says }

pub lifts_err : {F T : Type 0} (P : Result T (tree_error.Error F) → Type 0) (e : joined_error.Error F) (d : Error F) → journal_errors.Lifts P (Err e) → d ≡ from_joined e → LiftsTree P (Err d)
lifts_err P e d l at = record { below = l.below; is = err_below e d l.below l.is at; says = l.says }

-- what holds of the tree's answer holds of what is made
pub lifts_made : {F T : Type 0} (P : T → Type 0) (x : T) (below : Result T (tree_error.Error F)) → Ok x ≡ journal_errors.lifted below → IfOk below P → P x
lifts_made P x (Ok y) is holds = let same : y ≡ x = cc in subst P same holds
lifts_made P x (Err e) is holds = absurd cc

-- the leaves of a front begin the list's
pub front_alike : {D Op V : Type 0} (s : Shape) (h : Hashing D) (m : Meaning Op V) (spelling : Op → List ℕ) → ((op : Op) → m.encoding op ≡ spelling op) → (ops list : List Op) → ops ≡ take (length ops) list
    → AreAlike (leaves_of s h spelling ops) (leaves_of s h spelling list)
front_alike {D = D} {Op = Op} s h m spelling law ops list front =
    let all = leaves_of s h spelling list in
    let begins : leaves_of s h spelling ops ≡ take (length ops) all =
    leaves_are s h m spelling law ops ∙ ap (λ (xs : List Op). leaves_from s h m 0 xs) front ∙ sym (first_leaves s h m spelling law (length ops) list) in
    inl (drop (length ops) all, sym (take-append-drop (length ops) all) ∙ ap (λ (xs : List D). xs ++ drop (length ops) all) (sym begins))

-- ---- peaks

pub peaks_there : (F : Type 0) (n a : ℕ) → a ≤ n → a ≤ 2 ^ 62 → peaks_answer {F = F} n a ≡ Ok tt
peaks_there F n a within few =
    let e : nat_le a (2 ^ 62) ≡ true = le_true a (2 ^ 62) few in
    let f : nat_le a n ≡ true = le_true a n within in
    rw (e, f) refl

-- where the tree is refused by the outside alone, so is the database
pub peaks_outside : {F T : Type 0} (d : Error F) (below : Result T (tree_error.Error F)) → Err d ≡ lifted_tree below → IfErr below tree_outside → IsOutside d
peaks_outside d (Ok x) is out = absurd cc
peaks_outside d (Err e) is out = let same : d ≡ from_tree e = cc in subst IsOutside (sym same) (by e out)
  where
    by : {F : Type 0} (e : tree_error.Error F) → tree_outside e → IsOutside (from_tree e)
    by tree.Volume out = tt
    by tree.Memory out = tt
    by e out = absurd out

pub peaks_made : {F T : Type 0} (P : T → Type 0) (x : T) (below : Result T (tree_error.Error F)) → Ok x ≡ lifted_tree below → IfOk below P → P x
peaks_made P x (Ok y) is holds = let same : y ≡ x = cc in subst P same holds
peaks_made P x (Err e) is holds = absurd cc

-- an error of another name is no failure of the volume
pub other_never : {F T : Type 0} (cause : JournalError) (r : Result T (Error F)) → IfErr r (λ e. e ≡ db_error.Journal cause) → IsErrOf r db_error.Volume → ⊥
other_never cause (Ok x) is at = cc
other_never cause (Err e) is at = let same : e ≡ db_error.Volume = cc in cc

pub serves_made : {F T : Type 0} (refused : Option Refusal) (P : T → Type 0) (x : T) (r : Result T (Error F)) → refused ≡ None → r ≡ Ok x → P x → ServesAs refused P r
serves_made {F = F} {T = T} refused P x r none is holds = subst (λ (y : Result T (Error F)). ServesAs refused P y) (sym is) (none, holds)

-- an error of the tree is none of the log, and doesn't say that there is no commit
pub tree_never : {F S T : Type 0} (e : Error F) (below : Result S (tree_error.Error F)) (cause : JournalError) → Err e ≡ lifted_tree below → IsErrOf {T = T} (Err e) (db_error.Journal cause) → ⊥
tree_never e (Ok x) cause is at = cc
tree_never e (Err d) cause is at = by d (let one : e ≡ from_tree d = cc in let two : e ≡ db_error.Journal cause = cc in sym one ∙ two)
  where
    by : {F : Type 0} (d : tree_error.Error F) → from_tree d ≡ db_error.Journal cause → ⊥
    by tree.Volume same = cc
    by tree.Memory same = cc
    by d same = cc

pub tree_floorless : {F S T : Type 0} (e : Error F) (below : Result S (tree_error.Error F)) (n : ℕ) → Err e ≡ lifted_tree below → IsErrOf {T = T} (Err e) (db_error.HistoricalFloorPruned n) → ⊥
tree_floorless e (Ok x) n is at = cc
tree_floorless e (Err d) n is at = by d (let one : e ≡ from_tree d = cc in let two : e ≡ db_error.HistoricalFloorPruned n = cc in sym one ∙ two)
  where
    by : {F : Type 0} (d : tree_error.Error F) → from_tree d ≡ db_error.HistoricalFloorPruned n → ⊥
    by tree.Volume same = cc
    by tree.Memory same = cc
    by d same = cc

-- one error isn't another
pub one_error : {F T : Type 0} (x y : Error F) (r : Result T (Error F)) → IfErr r (λ e. e ≡ x) → IsErrOf r y → x ≡ y
one_error x y (Ok z) is at = absurd cc
one_error x y (Err e) is at = let same : e ≡ y = cc in sym is ∙ same

-- the same error of another call
pub same_error : {F T S : Type 0} (e d : Error F) → IsErrOf {T = S} (Err e) d → IsErrOf {T = T} (Err e) d
same_error e d at = let same : e ≡ d = cc in ap Err same

-- what isn't proved isn't served
pub serves_refused : {F A : Type 0} (refused : Option Refusal) (x : A) (e : Error F) → IsOutside e ⊎ ((w : Refusal) × (unless_refused refused x ≡ Err w) × (read_refusal_of e ≡ Some w))
    → IsOutside e ⊎ ((w : Refusal) × (refused ≡ Some w) × (read_refusal_of e ≡ Some w))
serves_refused refused x e (inl out) = inl out
serves_refused refused x e (inr (w, is, of)) = inr (w, refused_err refused x w is, of)
