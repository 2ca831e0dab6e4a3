-- A journal after a started sync, and what the ticket tells.
use Rattle.std.proofs.Common.{◌≡◌, Bool, ℕ, List, Ok, Err, refl, sym, subst}
use Rattle.std.specs.Prelude.{Result, OnOk}
use Rattle.std.specs.Result.{IsErrAnd}
use Rattle.volume_base.specs.Moments.{present}
use Rattle.volume_base.specs.Volume.{State, Writes}
use Rattle.volume_base.specs.declared.error.JournalError.TheVariants as journal
use Rattle.volume_base.proofs.JoinLemmas.{writes_joins}
use Rattle.journal_base.specs.Tickets as log
use Rattle.journal_base.specs.View.{after_sync}
use Rattle.journal_base.specs.declared.ticket.SyncTicket.{SyncTicket}
use Rattle.journal_base.specs.declared.ticket.SyncTicket.TheVariants.{Done, Failed}
use Rattle.tree_shape.specs.Hashing.{Hashing}
use Rattle.tree_shape.specs.Shape.{Shape}
use Rattle.tree_store.specs.declared.error.Error as tree_error
use Rattle.tree_store.specs.declared.error.Error.TheVariants as tree
use Rattle.merkle_full.specs.Flushing as nodes
use Rattle.merkle_full.specs.Lists.{IsFullOf}
use Rattle.auth_journal.specs.Durable.{sync_of, outcome}
use Rattle.auth_journal.specs.Errors.{from_tree}
use Rattle.auth_journal.specs.Joined.{Joined, IsJoinedOf, leaves_of}
use Rattle.auth_journal.specs.declared.error.Error.{Error}
use Rattle.auth_journal.specs.declared.error.Error.TheVariants as joined
use Rattle.auth_journal.proofs.DurableLemmas.{err_not_ok, fault_below, writes_done}
use Rattle.auth_journal.proofs.ErrorLemmas.{volume_from_tree}
use Rattle.auth_journal.proofs.JoinedLemmas.{joined_later}

pub outcome_fails : {F T : Type 0} (result : Result (T × SyncTicket) (Error F)) (P : Error F → Type 0) (Q : Type 0) → IsErrAnd result P → OnOk (outcome result) Q
outcome_fails (Ok made) P Q is = absurd is
outcome_fails (Err e) P Q is = tt

pub outcome_err : {F T : Type 0} (result : Result (T × SyncTicket) (Error F)) (P : Error F → Type 0) → IsErrAnd result P → IsErrAnd (outcome result) P
outcome_err (Ok made) P is = absurd is
outcome_err (Err e) P is = is

pub sync_fails : (F : Type 0) (ticket : SyncTicket) → ticket ≡ Failed → OnOk (sync_of {F = F} ticket) ⊥
sync_fails F ticket is = subst (λ (t : SyncTicket). OnOk (sync_of {F = F} t) ⊥) (sym is) tt

pub sync_done : (F : Type 0) (ticket : SyncTicket) (Q : Type 0) → (ticket ≡ Done → Q) → OnOk (sync_of {F = F} ticket) Q
sync_done F Done Q has = has refl
sync_done F Failed Q has = tt

-- the log stays, and keeps whether its sync has failed; the tree is another of the same list
pub joined_started : {D Codec Item : Type 0} (s : Shape) (h : Hashing D) (digest : D → List ℕ) (admits : D → Type 0) (spelling : Item → List ℕ) (list : List Item) (j k : Joined D Codec) (a c : State) (failed : Bool)
    → IsJoinedOf s h digest admits spelling list j (present a) → k.items ≡ after_sync j.items failed → c.log j.items.name ≡ a.log j.items.name → IsFullOf s h digest admits (leaves_of s h spelling list) k.tree (present c)
    → IsJoinedOf s h digest admits spelling list k (present c)
joined_started {D = D} {Codec = Codec} s h digest admits spelling list j k a c failed was is same full =
    let i : Joined D Codec = record { items = after_sync j.items failed; tree = j.tree; bagging = j.bagging; failed = j.failed } in
    let here : IsJoinedOf s h digest admits spelling list i (present a) = record { items = was.items; start_is = was.start_is; end_is = was.end_is; tree = was.tree } in
    joined_later s h digest admits spelling list i k (present a) (present c) here is same full

-- the sync of the log is done, and that of the tree has ended as its ticket tells
pub writes_started : (F : Type 0) (tells : Type 0) (a b c : State) (items ticket : SyncTicket) → items ≡ Done → Writes tells journal.Volume a b (log.sync_of items) → Writes tells tree.Volume b c (nodes.sync_of {F = F} ticket)
    → Writes tells joined.Volume a c (sync_of {F = F} ticket)
writes_started F tells a b c items ticket is first second = by ticket (subst (λ (t : SyncTicket). Writes tells journal.Volume a b (log.sync_of t)) is first) second
  where
    by : (ticket : SyncTicket) → Writes tells journal.Volume a b (log.sync_of Done) → Writes tells tree.Volume b c (nodes.sync_of {F = F} ticket) → Writes tells joined.Volume a c (sync_of {F = F} ticket)
    by Done ab bc = writes_done tells journal.Volume tree.Volume joined.Volume a b c tt tt tt ab bc
    by Failed ab bc = writes_joins tells journal.Volume tree.Volume joined.Volume a b c tt (nodes.sync_of {F = F} Failed) (sync_of {F = F} Failed) ab bc (λ is. refl) (λ kept. kept)

-- the sync of the log is done, and that of the tree is refused
pub writes_refused : (F : Type 0) (tells : Type 0) (a b c : State) (items : SyncTicket) (e : tree_error.Error F) (result : Result (Unit {0}) (Error F)) → items ≡ Done → IsErrAnd result (λ d. d ≡ from_tree e)
    → Writes tells journal.Volume a b (log.sync_of items) → Writes {T = Unit {0}} tells tree.Volume b c (Err e) → Writes tells joined.Volume a c result
writes_refused F tells a b c items e result done is first second =
    writes_joins tells journal.Volume tree.Volume joined.Volume a b c tt (Err e) result (subst (λ (t : SyncTicket). Writes tells journal.Volume a b (log.sync_of t)) done first) second
    (fault_below from_tree joined.Volume tree.Volume result e volume_from_tree is) (λ kept. err_not_ok result _ _ is)
