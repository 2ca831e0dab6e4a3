-- A journal's answer, handed on as a database's.
use Rattle.std.proofs.Common.{◌≡◌, ℕ, List, Ok, Err, refl, sym, ◌∙◌, ap, subst}
use Rattle.std.specs.Prelude.{Result, IsErrOf, OnOk}
use Rattle.volume_base.specs.Moments.{NamesLeft, Steps, present}
use Rattle.volume_base.specs.Volume.{State, Writes, Changes, Reads}
use Rattle.volume_base.specs.declared.error.JournalError.{JournalError}
use Rattle.volume_base.specs.declared.error.JournalError.TheVariants as journal
use Rattle.volume_base.proofs.TurnLemmas.{keeps_none, steps_of_keeps}
use Rattle.journal_base.specs.declared.ticket.SyncTicket.{SyncTicket}
use Rattle.journal_base.specs.declared.ticket.SyncTicket.TheVariants.{Done, Failed}
use Rattle.tree_shape.specs.Hashing.{Hashing}
use Rattle.tree_shape.specs.Shape.{Shape}
use Rattle.auth_journal.specs.Durable as journal_durable
use Rattle.auth_journal.specs.Errors as journal_errors
use Rattle.auth_journal.specs.Joined.{Joined, IsJoinedOf}
use Rattle.auth_journal.specs.Standing.{Marks, ImageStands, StepsStanding, names_of}
use Rattle.auth_journal.specs.declared.error.Error as joined_error
use Rattle.auth_journal.specs.declared.error.Error.TheVariants as joined
use Rattle.chain_core.specs.Answers.{IsOutside}
use Rattle.chain_core.specs.Errors.{from_journal}
use Rattle.chain_core.specs.declared.error.Error.{Error}
use Rattle.chain_core.specs.declared.error.Error.TheVariants.{PruneBeyondMinRequired, Volume}
use Rattle.keyless_db.specs.Durable.{sync_of}
use Rattle.keyless_db.specs.Errors.{from_joined}

-- ---- errors

-- a failure of the volume is one below
pub volume_below : {F S T : Type 0} (e : joined_error.Error F) (d : Error F) → d ≡ from_joined e → IsErrOf {T = T} (Err d) Volume → IsErrOf {T = S} (Err e) joined.Volume
volume_below (joined.Merkle x) d is at = absurd cc
volume_below (joined.Journal x) d is at = absurd cc
volume_below joined.Volume d is at = refl
volume_below joined.Memory d is at = absurd cc

-- a failure of the volume is one of the log
pub volume_of_log : {F S T : Type 0} (e : JournalError) (d : Error F) → d ≡ from_journal e → IsErrOf {T = T} (Err d) Volume → IsErrOf {T = S} (Err e) journal.Volume
volume_of_log journal.Volume d is at = refl
volume_of_log journal.Memory d is at = absurd cc
volume_of_log (journal.ItemPruned p) d is at = absurd cc
volume_of_log (journal.ItemOutOfRange p) d is at = absurd cc
volume_of_log (journal.Corruption p) d is at = absurd cc
volume_of_log journal.SizeOverflow d is at = absurd cc
volume_of_log journal.EmptyAppend d is at = absurd cc
volume_of_log (journal.Tree cause) d is at = absurd cc

-- what fails by the volume fails so above
pub volume_above : {F T : Type 0} (e : joined_error.Error F) (d : Error F) → d ≡ from_joined e → IsErrOf {T = T} (Err e) joined.Volume → d ≡ Volume
volume_above e d is at = let same : e ≡ joined.Volume = cc in is ∙ ap from_joined same

-- a failure of the outside stays one
pub outside_above : {F : Type 0} (e : joined_error.Error F) (d : Error F) → d ≡ from_joined e → journal_errors.IsOutside e → IsOutside d
outside_above (joined.Merkle x) d is out = absurd out
outside_above (joined.Journal x) d is out = absurd out
outside_above joined.Volume d is out = subst IsOutside (sym is) tt
outside_above joined.Memory d is out = subst IsOutside (sym is) tt

-- no error of a journal is a refusal of a prune
pub never_beyond : {F T : Type 0} (e : joined_error.Error F) (d : Error F) (l f : ℕ) → d ≡ from_joined e → IsErrOf {T = T} (Err d) (PruneBeyondMinRequired l f) → ⊥
never_beyond (joined.Merkle x) d l f is at = cc
never_beyond (joined.Journal x) d l f is at = cc
never_beyond joined.Volume d l f is at = cc
never_beyond joined.Memory d l f is at = cc

-- ---- answers of one kind

-- both are done, or both are refused
abbrev pub AreLike : {S T D E : Type 0} → Result S D → Result T E → Type 0
AreLike (Ok x) (Ok y) = Unit {0}
AreLike (Err d) (Err e) = Unit {0}
AreLike _ _ = ⊥

pub steps_like : {A S T D E : Type 0} (left : State → ℕ → A → Type 0) (P Q : A → Type 0) (a b : State) (r : Result S D) (q : Result T E) → AreLike r q → Steps left P Q a b r → Steps left P Q a b q
steps_like left P Q a b (Ok x) (Ok y) like did = record { past = did.past; ok = did.ok; err = tt }
steps_like left P Q a b (Ok x) (Err e) like did = absurd like
steps_like left P Q a b (Err d) (Ok y) like did = absurd like
steps_like left P Q a b (Err d) (Err e) like did = record { past = did.past; ok = tt; err = did.err }

pub writes_like : {S T D E : Type 0} (tells : Type 0) (first : D) (fault : E) (a b : State) (r : Result S D) (q : Result T E) → AreLike r q → (IsErrOf q fault → IsErrOf r first)
    → Writes tells first a b r → Writes tells fault a b q
writes_like tells first fault a b (Ok x) (Ok y) like same w = record { later = w.later; still = w.still; reads = w.reads; faults = w.faults; failed = λ is. w.failed (same is); kept = w.kept; steady = w.steady }
writes_like tells first fault a b (Ok x) (Err e) like same w = absurd like
writes_like tells first fault a b (Err d) (Ok y) like same w = absurd like
writes_like tells first fault a b (Err d) (Err e) like same w = record { later = w.later; still = w.still; reads = w.reads; faults = w.faults; failed = λ is. w.failed (same is); kept = tt; steady = w.steady }

pub changes_like : {S T D E : Type 0} (tells : Type 0) (first : D) (fault : E) (a b : State) (r : Result S D) (q : Result T E) → AreLike r q → (IsErrOf q fault → IsErrOf r first)
    → Changes tells first a b r → Changes tells fault a b q
changes_like tells first fault a b (Ok x) (Ok y) like same w = record { later = w.later; still = w.still; faults = w.faults; failed = λ is. w.failed (same is); kept = w.kept; reads = w.reads; steady = w.steady }
changes_like tells first fault a b (Ok x) (Err e) like same w = absurd like
changes_like tells first fault a b (Err d) (Ok y) like same w = absurd like
changes_like tells first fault a b (Err d) (Err e) like same w = record { later = w.later; still = w.still; faults = w.faults; failed = λ is. w.failed (same is); kept = tt; reads = w.reads; steady = w.steady }

pub reads_like : {S T D E : Type 0} (tells : Type 0) (first : D) (fault : E) (a b : State) (r : Result S D) (q : Result T E) → AreLike r q → (IsErrOf q fault → IsErrOf r first)
    → Reads tells first a b r → Reads tells fault a b q
reads_like tells first fault a b (Ok x) (Ok y) like same w = record { clock = w.clock; past = w.past; contents = w.contents; faults = w.faults; failed = λ is. w.failed (same is); kept = w.kept; reads = w.reads; steady = w.steady }
reads_like tells first fault a b (Ok x) (Err e) like same w = absurd like
reads_like tells first fault a b (Err d) (Ok y) like same w = absurd like
reads_like tells first fault a b (Err d) (Err e) like same w = record { clock = w.clock; past = w.past; contents = w.contents; faults = w.faults; failed = λ is. w.failed (same is); kept = tt; reads = w.reads; steady = w.steady }

-- an answer isn't an error
pub ok_never : {T E : Type 0} (y : T) (fault : E) (P : Type 0) → IsErrOf (Ok y) fault → P
ok_never y fault P is = absurd cc

pub tickets_like : (F : Type 0) (t : SyncTicket) → AreLike (journal_durable.sync_of {F = F} t) (sync_of {F = F} t)
tickets_like F Done = tt
tickets_like F Failed = tt

pub ticket_fault : (F : Type 0) (t : SyncTicket) → IsErrOf (sync_of {F = F} t) Volume → IsErrOf (journal_durable.sync_of {F = F} t) joined.Volume
ticket_fault F Done is = absurd cc
ticket_fault F Failed is = refl

-- ---- the same journal under another name

module _ {D Codec Item : Type 0} (s : Shape) (h : Hashing D) (digest : D → List ℕ) (admits : D → Type 0) (spelling : Item → List ℕ) (list : List Item) (j k : Joined D Codec) (same : j ≡ k) (a b : State) where
  pub joined_back : IsJoinedOf s h digest admits spelling list k (present a) → IsJoinedOf s h digest admits spelling list j (present a)
  joined_back of = subst (λ (x : Joined D Codec). IsJoinedOf s h digest admits spelling list x (present a)) (sym same) of

  pub standing_like : {S T C E : Type 0} (before after : Marks) (r : Result S C) (q : Result T E) → AreLike r q
      → (IsJoinedOf s h digest admits spelling list j (present a) → StepsStanding s h digest spelling list before after j a b r)
      → IsJoinedOf s h digest admits spelling list k (present a) → StepsStanding s h digest spelling list before after k a b q
  standing_like before after r q like did of =
      subst (λ (x : Joined D Codec). StepsStanding s h digest spelling list before after x a b q) same
      (λ has. steps_like _ _ _ a b r q like (did (joined_back of) has))

-- the marks at a place under another name
pub standing_moved : {T E D Codec Item : Type 0} (s : Shape) (h : Hashing D) (digest : D → List ℕ) (spelling : Item → List ℕ) (list : List Item) (j : Joined D Codec) (before : Marks) (after : ℕ → Marks) (l n : ℕ)
    (a b : State) (r : Result T E) → l ≡ n → StepsStanding s h digest spelling list before (after l) j a b r → StepsStanding s h digest spelling list before (after n) j a b r
standing_moved s h digest spelling list j before after l n a b r same did = subst (λ k. StepsStanding s h digest spelling list before (after k) j a b r) same did

-- where nothing is called
pub standing_none : {T E D Codec Item : Type 0} (s : Shape) (h : Hashing D) (digest : D → List ℕ) (spelling : Item → List ℕ) (list : List Item) (j : Joined D Codec) (before after : Marks) (a : State) (result : Result T E)
    → OnOk result ⊥ → StepsStanding s h digest spelling list before after j a a result
standing_none s h digest spelling list j before after a result failed has =
    steps_of_keeps (NamesLeft (names_of j)) (ImageStands s h digest spelling list before j) (ImageStands s h digest spelling list after j) a a result failed
    (keeps_none (NamesLeft (names_of j)) (ImageStands s h digest spelling list before j) a has)
