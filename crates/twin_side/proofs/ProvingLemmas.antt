-- Proofs of a list's operations, made or refused.
use Rattle.std.proofs.Common.{◌≡◌, inl, inr, ℕ, ◌-◌, Bool, true, false, List, take, Option, Some, None, Ok, Err, Vec, refl, sym, ◌∙◌, ap, subst}
use Rattle.std.specs.Prelude.{length, map, nat_lt, Result, if◌then◌else◌}
use Rattle.std.specs.Global.{Global}
use Rattle.volume_base.specs.declared.error.JournalError.TheVariants as journal
use Rattle.volume_base.specs.Moments.{Image}
use Rattle.tree_shape.specs.Mmr.{mmr}
use Rattle.tree_shape.specs.declared.mmr.Mmr.{Mmr}
use Rattle.tree_shape.specs.declared.sha256.Sha256Digest.{Sha256Digest}
use Rattle.tree_store.specs.declared.error.Error.TheVariants as tree
use Rattle.tree_proof.specs.declared.proof.Proof.{Proof}
use Rattle.log_model.specs.Proofs.{lacks_commit, proof_refusal, proof_answer, proof_end, size_refusal}
use Rattle.log_model.specs.Reads.{or_else, refuse_if, unless_refused}
use Rattle.log_model.specs.declared.refusal.Refusal.{Refusal}
use Rattle.log_model.specs.declared.refusal.Refusal.TheVariants as refusal
use Rattle.log_model.specs.Machine.{State}
use Rattle.chain_core.specs.Answers.{IsOutside, read_refusal_of}
use Rattle.chain_core.specs.declared.error.Error.{Error}
use Rattle.chain_core.specs.declared.error.Error.TheVariants as db_error
use Rattle.keyless_db.specs.Reading.{AnswersAs, late_refusal}
use Rattle.keyless_db.proofs.SeveralLemmas.{refused_err, refused_ok}
use Rattle.command_text.specs.declared.command.Answer.TheVariants as answer
use Rattle.list_machine.specs.Operation.{Operation, meaning, sha}
use Rattle.list_machine.specs.Step.{prove, proof_here, unless}
use Rattle.list_machine.specs.Config.{Config}
use Rattle.twin_batches.specs.StateOf.{StandsGood}
use Rattle.twin_batches.specs.declared.numbers.Numbers.{Numbers}
use Rattle.twin_databases.specs.FullKind.{FullView, SealedView, UnsealedView, full_kind}
use Rattle.twin_side.specs.Proving.{known_refusal, says_no_commit, Shown, shown}
use Rattle.twin_side.proofs.FullReads.{size_here, start_here}

-- ---- why a proof is refused, in parts

or_else_assoc : (x y z : Option Refusal) → or_else x (or_else y z) ≡ or_else (or_else x y) z
or_else_assoc None y z = refl
or_else_assoc (Some r) y z = refl

-- which error it is
no_commit_said : {F : Type 0} (e : Error F) → says_no_commit e ≡ true → (n : ℕ) × (e ≡ db_error.HistoricalFloorPruned n)
no_commit_said (db_error.HistoricalFloorPruned n) says = (n, refl)
no_commit_said _ says = absurd cc

-- only a size that no commit ends is refused so
floor_error : {F : Type 0} (n : ℕ) (e : Error F) → read_refusal_of e ≡ Some (refusal.HistoricalFloorPruned n) → e ≡ db_error.HistoricalFloorPruned n
floor_error n (db_error.HistoricalFloorPruned size) is = cc
floor_error n db_error.StaleRead is = absurd cc
floor_error n (db_error.LocationOutOfOrder location next) is = absurd cc
floor_error n (db_error.LocationOutOfBounds location size) is = absurd cc
floor_error n (db_error.BelowInactivityFloor location) is = absurd cc
floor_error n (db_error.PruneBeyondMinRequired location floor) is = absurd cc
floor_error n (db_error.Journal (journal.ItemPruned location)) is = absurd cc
floor_error n (db_error.Merkle (tree.RangeOutOfBounds location)) is = absurd cc
floor_error n _ is = absurd cc

module _ (ops : List Operation) (n : ℕ) where
  -- what no commit ends
  abbrev commit_refusal : Option Refusal
  commit_refusal = refuse_if (lacks_commit meaning (take n ops)) (refusal.HistoricalFloorPruned n)

  module _ (start a : ℕ) where
    split : proof_refusal meaning ops start n a ≡ or_else (known_refusal start (length ops) n) (or_else commit_refusal (late_refusal start n a))
    split =
        or_else_assoc (size_refusal ops n) (refuse_if (nat_lt (n - 1) start) (refusal.ItemPruned (n - 1)))
        (or_else commit_refusal (late_refusal start n a))

    module _ (known : known_refusal start (length ops) n ≡ None) where
      behind : proof_refusal meaning ops start n a ≡ or_else commit_refusal (late_refusal start n a)
      behind = split ∙ ap (λ o. or_else o (or_else commit_refusal (late_refusal start n a))) known

      -- where nothing else is refused it is for a size that no commit ends
      by_commit : late_refusal start n a ≡ None → proof_refusal meaning ops start n a ≡ commit_refusal
      by_commit late = behind ∙ ap (or_else commit_refusal) late ∙ last commit_refusal
        where
          last : (r : Option Refusal) → or_else r None ≡ r
          last None = refl
          last (Some why) = refl

      -- where a commit ends it, by its first operation
      by_late : lacks_commit meaning (take n ops) ≡ false → proof_refusal meaning ops start n a ≡ late_refusal start n a
      by_late ends = behind ∙ ap (λ b. or_else (refuse_if b (refusal.HistoricalFloorPruned n)) (late_refusal start n a)) ends

-- ---- what is shown

refuse_some : (b : Bool) (r why : Refusal) → refuse_if b r ≡ Some why → (b ≡ true) × (r ≡ why)
refuse_some true r why is = (refl, cc)
refuse_some false r why is = absurd cc

refuse_none : (b : Bool) (r : Refusal) → refuse_if b r ≡ None → b ≡ false
refuse_none true r is = absurd cc
refuse_none false r is = refl

module _ (ops : List Operation) (n a count : ℕ) where
  abbrev Proved : Shown
  Proved = proof_answer mmr sha meaning {F = Mmr} ops n a (proof_end n a count)

  shown_if : (b : Bool) → lacks_commit meaning (take n ops) ≡ b → shown ops n a count ≡ if b then None else Some Proved
  shown_if b is = ap (λ (c : Bool). if c then None else Some Proved) is

  -- something is, where a commit ends the first n
  some_shown : (made : Shown) → Some made ≡ shown ops n a count → (lacks_commit meaning (take n ops) ≡ false) × (made ≡ Proved)
  some_shown made is = by (lacks_commit meaning (take n ops)) refl
    where
      by : (b : Bool) → lacks_commit meaning (take n ops) ≡ b → (lacks_commit meaning (take n ops) ≡ false) × (made ≡ Proved)
      by true e = let none : Some made ≡ None = is ∙ shown_if true e in absurd cc
      by false e = let same : Some made ≡ Some Proved = is ∙ shown_if false e in (e, cc)

  module _ (start : ℕ) (known : known_refusal start (length ops) n ≡ None) (late : late_refusal start n a ≡ None) where
    why_refused : (why : Refusal) → unless_refused (proof_refusal meaning ops start n a) Proved ≡ Err why → (lacks_commit meaning (take n ops) ≡ true) × (refusal.HistoricalFloorPruned n ≡ why)
    why_refused why is =
        refuse_some (lacks_commit meaning (take n ops)) (refusal.HistoricalFloorPruned n) why
        (sym (by_commit ops n start a known late) ∙ refused_err (proof_refusal meaning ops start n a) Proved why is)

-- ---- what the database answers

-- a proof with its operations in memory
abbrev pub Made : Type 0
Made = Proof Mmr Sha256Digest × Vec Operation Global

abbrev pub view : Made → Shown
view made = (made.0, made.1.items)

module _ (ops : List Operation) (start count : ℕ) where
  -- it answers as the list does
  abbrev pub Told : ℕ → ℕ → Result Made (Error Mmr) → Type 0
  Told n a r = AnswersAs view (unless_refused (proof_refusal meaning ops start n a) (proof_answer mmr sha meaning {F = Mmr} ops n a (proof_end n a count))) r

  module _ (n a k l : ℕ) (same_n : n ≡ k) (same_a : a ≡ l) (known : known_refusal start (length ops) k ≡ None) (late : late_refusal start k l ≡ None) where
    here : (r : Result Made (Error Mmr)) → Told n a r → Told k l r
    here r told = subst (λ m. Told m l r) same_n (subst (λ m. Told n m r) same_a told)

    -- a proof is shown
    pub made_shown : (made : Made) → Told n a (Ok made) → Some (view made) ≡ shown ops k l count
    made_shown made told =
        let y = refused_ok (proof_refusal meaning ops start k l) (Proved ops k l count) (view made) (here (Ok made) told) in
        let ends = refuse_none (lacks_commit meaning (take k ops)) (refusal.HistoricalFloorPruned k) (sym (by_commit ops k start l known late) ∙ y.0) in
        ap Some (sym y.1) ∙ sym (shown_if ops k l count false ends)

    -- none is, where it is said that no commit ends the size
    pub unmade_shown : (e : Error Mmr) → says_no_commit e ≡ true → Told n a (Err e) → None ≡ shown ops k l count
    unmade_shown e says told = by (here (Err e) told)
      where
        by : Told k l (Err e) → None ≡ shown ops k l count
        by (inl out) = absurd (subst IsOutside (no_commit_said e says).1 out)
        by (inr (why, refused, of)) = sym (shown_if ops k l count true (why_refused ops k l count start known late why refused).0)

    -- another error is the outside's
    pub else_outside : (e : Error Mmr) → says_no_commit e ≡ false → Told n a (Err e) → IsOutside e
    else_outside e other told = by (here (Err e) told)
      where
        by : Told k l (Err e) → IsOutside e
        by (inl out) = out
        by (inr (why, refused, of)) =
            let is : e ≡ db_error.HistoricalFloorPruned k = floor_error k e (of ∙ ap Some (sym (why_refused ops k l count start known late why refused).1)) in
            let says : says_no_commit e ≡ true = ap says_no_commit is in
            absurd cc

-- ---- the replies

-- why the list machine refuses
prove_refused : (s : State Operation) (n a count : ℕ) (why : Refusal) → proof_refusal meaning s.ops s.start n a ≡ Some why → answer.Refused why ≡ (prove s n a count).0
prove_refused s n a count why is = sym (ap (λ o. (unless s o (answer.Proof (proof_here s n a (proof_end n a count)))).0) is)

-- what it answers else
prove_answered : (s : State Operation) (n a count : ℕ) → proof_refusal meaning s.ops s.start n a ≡ None → answer.Proof (proof_here s n a (proof_end n a count)) ≡ (prove s n a count).0
prove_answered s n a count is = sym (ap (λ o. (unless s o (answer.Proof (proof_here s n a (proof_end n a count)))).0) is)

module _ (s : State Operation) (n : ℕ) (known : known_refusal s.start (length s.ops) n ≡ None) where
  -- a proof that is shown is the answer
  pub answers_made : (a count : ℕ) → late_refusal s.start n a ≡ None → (made : Shown) → Some made ≡ shown s.ops n a count
      → answer.Proof (record { proof = made.0; start = a; operations = map meaning.encoding made.1 }) ≡ (prove s n a count).0
  answers_made a count late made is =
      let y = some_shown s.ops n a count made is in
      ap (λ (m : Shown). answer.Proof (record { proof = m.0; start = a; operations = map meaning.encoding m.1 })) y.1
      ∙ prove_answered s n a count (by_late s.ops n s.start a known y.0 ∙ late)

  -- where one is shown, a commit ends the size, and another proof is refused by its first operation
  pub answers_late : (a count b more : ℕ) (made : Shown) (why : Refusal) → Some made ≡ shown s.ops n a count → late_refusal s.start n b ≡ Some why
      → answer.Refused why ≡ (prove s n b more).0
  answers_late a count b more made why is late =
      prove_refused s n b more why (by_late s.ops n s.start b known (some_shown s.ops n a count made is).0 ∙ late)

-- ---- a side that stands for a good state

module _ (c : Config) (image : Image) (db : FullView) (numbers : Numbers SealedView UnsealedView) (s : State Operation) (good : StandsGood full_kind c image db numbers s) where
  pub known_here : (n : ℕ) (r : Option Refusal) → known_refusal db.journal.items.start db.state.size n ≡ r → known_refusal s.start (length s.ops) n ≡ r
  known_here n r is =
      ap (λ k. known_refusal k (length s.ops) n) (sym (start_here c image db numbers s good)) ∙ ap (λ k. known_refusal db.journal.items.start k n) (sym (size_here c image db numbers s good)) ∙ is

  pub late_here : (n a : ℕ) (r : Option Refusal) → late_refusal db.journal.items.start n a ≡ r → late_refusal s.start n a ≡ r
  late_here n a r is = ap (λ k. late_refusal k n a) (sym (start_here c image db numbers s good)) ∙ is
