-- Errors of a journal: that they are lifted, and what stands for them where it is used as a log of items.
use Rattle.std.proofs.Common.{◌≡◌, ◌⊎◌, inl, inr, ℕ, zero, suc, ◌<◌, arith, List, ◌+◌, ◌^◌, Bool, true, false, Ok, Err, Some, refl, sym, ◌∙◌, ap, subst}
use Rattle.std.specs.Prelude.{Result, IsErrOf, IsSome, nat_le, if◌then◌else◌}
use Rattle.tree_verification.specs.Ranges.{range_answer}
use Rattle.merkle_full.specs.Proving.{history_answer}
use Rattle.merkle_full.specs.Reading.{IsUnreadAt, IsUnreadAmong}
use Rattle.journal_base.specs.Items.{Items}
use Rattle.tree_core.specs.Tree.{prune_answer}
use Rattle.volume_base.specs.Volume.{State}
use Rattle.volume_base.specs.declared.error.JournalError.{JournalError}
use Rattle.volume_base.specs.declared.error.JournalError.TheVariants as journal
use Rattle.volume_base.specs.declared.error.TreeCause.TheVariants as cause
use Rattle.journal_base.specs.Answers.{IsOfVolume, IsOfSize, IsOfAppend, IsRefusal, RefusesUnwritten}
use Rattle.tree_shape.specs.Shape.{Shape}
use Rattle.tree_store.specs.Stores as stores
use Rattle.tree_store.specs.declared.error.Error as tree_error
use Rattle.tree_store.specs.declared.error.Error.TheVariants as tree
use Rattle.tree_core.specs.Applied.{RefusedByTree}
use Rattle.tree_core.specs.Batches.{Sealed}
use Rattle.tree_core.specs.Tree.{Tree}
use Rattle.merkle_full.specs.Flushing.{IsOfFlush}
use Rattle.merkle_full.specs.Full.{Full}
use Rattle.auth_journal.specs.Appending.{IsNamed, NamesUnwritten}
use Rattle.auth_journal.specs.Durable.{IsFromTree, IsTreeUnpruned, IsJournalUnpruned}
use Rattle.auth_journal.specs.Errors.{from_journal, from_tree, unwrapped, IsLifted, IsOutside, lowered, lowered_tree, IsLowered}
use Rattle.auth_journal.specs.declared.error.Error.{Error}
use Rattle.auth_journal.specs.declared.error.Error.TheVariants as joined

-- ---- lifted

-- an error of the log
pub journal_lifted : (F : Type 0) (e : JournalError) → IsLifted (from_journal {F = F} e)
journal_lifted F journal.Volume = tt
journal_lifted F journal.Memory = tt
journal_lifted F (journal.ItemPruned p) = refl
journal_lifted F (journal.ItemOutOfRange p) = refl
journal_lifted F (journal.Corruption p) = refl
journal_lifted F journal.SizeOverflow = refl
journal_lifted F journal.EmptyAppend = refl
journal_lifted F (journal.Tree c) = refl

-- a refusal of a batch
pub refused_lifted : {F D : Type 0} (s : Shape) (t : Tree D) (b : Sealed D) (e : tree_error.Error F) → RefusedByTree s t b e → IsLifted (from_tree e)
refused_lifted s t b tree.StaleBatch why = tt
refused_lifted s t b (tree.AncestorDropped x y) why = tt
refused_lifted s t b tree.Memory why = tt
refused_lifted s t b _ why = absurd why

-- a refused read of nodes
pub read_lifted : {F : Type 0} (e : tree_error.Error F) → stores.IsReadRefusal e → IsLifted (from_tree e)
read_lifted (tree.ElementPruned p) o = tt
read_lifted tree.Volume o = tt
read_lifted tree.Memory o = tt
read_lifted (tree.Journal journal.Volume) o = absurd o
read_lifted (tree.Journal journal.Memory) o = absurd o
read_lifted (tree.Journal (journal.ItemPruned p)) o = refl
read_lifted (tree.Journal (journal.ItemOutOfRange p)) o = refl
read_lifted (tree.Journal (journal.Corruption p)) o = refl
read_lifted (tree.Journal journal.SizeOverflow) o = refl
read_lifted (tree.Journal journal.EmptyAppend) o = refl
read_lifted (tree.Journal (journal.Tree c)) o = refl
read_lifted _ o = absurd o

-- a range that isn't in the tree, or whose nodes can't be read
chosen_lifted : {F : Type 0} (c : Bool) (x y : Result (Unit {0}) (tree_error.Error F)) → ((d : tree_error.Error F) → x ≡ Err d → IsLifted (from_tree d)) → ((d : tree_error.Error F) → y ≡ Err d → IsLifted (from_tree d))
    → (d : tree_error.Error F) → (if c then x else y) ≡ Err d → IsLifted (from_tree d)
chosen_lifted true x y one two d is = one d is
chosen_lifted false x y one two d is = two d is

named_lifted : {F : Type 0} (e : tree_error.Error F) → IsLifted (from_tree e) → (d : tree_error.Error F) → IsErrOf {T = Unit {0}} (Err e) d → IsLifted (from_tree d)
named_lifted {F} e lifted d is = let same : e ≡ d = cc in subst (λ (x : tree_error.Error F). IsLifted (from_tree x)) same lifted

done_lifted : {F : Type 0} (d : tree_error.Error F) → IsErrOf {T = Unit {0}} (Ok tt) d → IsLifted (from_tree d)
done_lifted d is = absurd cc

range_lifted : {F : Type 0} (stored n a b : ℕ) (d : tree_error.Error F) → range_answer stored n a b ≡ Err d → IsLifted (from_tree d)
range_lifted stored n a b =
    chosen_lifted (nat_le b a) _ _ (named_lifted tree.Empty tt)
    (chosen_lifted (nat_le b (2 ^ 62)) _ _ (chosen_lifted (nat_le n stored) _ _ (chosen_lifted (nat_le b n) _ _ done_lifted (named_lifted (tree.RangeOutOfBounds b) tt)) (named_lifted (tree.RangeOutOfBounds n) tt))
    (named_lifted (tree.LocationOverflow b) tt))

history_lifted : {F : Type 0} (stored n a b : ℕ) (d : tree_error.Error F) → history_answer stored n a b ≡ Err d → IsLifted (from_tree d)
history_lifted stored n a b = chosen_lifted (nat_le n stored) _ _ (range_lifted stored n a b) (named_lifted (tree.RangeOutOfBounds n) tt)

pub proof_lifted : {F T : Type 0} (stored n a b : ℕ) (e : tree_error.Error F) → ((d : tree_error.Error F) → history_answer stored n a b ≡ Err d → IsErrOf {T = T} (Err e) d)
    → (history_answer {F = F} stored n a b ≡ Ok tt → stores.IsReadRefusal e) → IsLifted (from_tree e)
proof_lifted {F} stored n a b e refused fault = by_answer (history_answer stored n a b) refl
  where
    by_answer : (answer : Result (Unit {0}) (tree_error.Error F)) → history_answer stored n a b ≡ answer → IsLifted (from_tree e)
    by_answer (Ok u) is = read_lifted e (fault is)
    by_answer (Err d) is = let same : d ≡ e = (let both = refused d is in cc) in subst (λ (x : tree_error.Error F). IsLifted (from_tree x)) same (history_lifted stored n a b d is)

-- ---- what stands for an error

pub unwrapped_is : (e : JournalError) → IsSome (unwrapped e) → unwrapped e ≡ Some e
unwrapped_is journal.Volume some = absurd cc
unwrapped_is journal.Memory some = absurd cc
unwrapped_is (journal.ItemPruned p) some = refl
unwrapped_is (journal.ItemOutOfRange p) some = refl
unwrapped_is (journal.Corruption p) some = refl
unwrapped_is journal.SizeOverflow some = refl
unwrapped_is journal.EmptyAppend some = refl
unwrapped_is (journal.Tree c) some = refl

unwrapped_not_volume : (e : JournalError) → unwrapped e ≡ Some journal.Volume → ⊥
unwrapped_not_volume journal.Volume is = cc
unwrapped_not_volume journal.Memory is = cc
unwrapped_not_volume (journal.ItemPruned p) is = cc
unwrapped_not_volume (journal.ItemOutOfRange p) is = cc
unwrapped_not_volume (journal.Corruption p) is = cc
unwrapped_not_volume journal.SizeOverflow is = cc
unwrapped_not_volume journal.EmptyAppend is = cc
unwrapped_not_volume (journal.Tree c) is = cc

tree_not_volume : {F : Type 0} (e : tree_error.Error F) → lowered_tree e ≡ Some journal.Volume → ⊥
tree_not_volume (tree.LocationOverflow n) is = cc
tree_not_volume (tree.ElementPruned p) is = cc
tree_not_volume (tree.MissingNode p) is = cc
tree_not_volume (tree.LeafOutOfBounds n) is = cc
tree_not_volume (tree.Journal e) is = unwrapped_not_volume e is
tree_not_volume _ is = cc

-- a failure of the volume stands for one alone
pub volume_lowered : {F : Type 0} (e : Error F) → lowered e ≡ Some journal.Volume → e ≡ joined.Volume
volume_lowered joined.Volume is = refl
volume_lowered joined.Memory is = absurd cc
volume_lowered (joined.Journal e) is = absurd (unwrapped_not_volume e is)
volume_lowered (joined.Merkle e) is = absurd (tree_not_volume e is)

-- a refusal by name stands for one
pub named_lowered : {F : Type 0} (e : Error F) (d : JournalError) → lowered e ≡ Some d → IsRefusal d → IsNamed e
named_lowered joined.Volume d is named = let same : journal.Volume ≡ d = cc in absurd (let bad = subst IsRefusal (sym same) named in cc)
named_lowered joined.Memory d is named = let same : journal.Memory ≡ d = cc in absurd (let bad = subst IsRefusal (sym same) named in cc)
named_lowered (joined.Journal e) d is named = tt
named_lowered (joined.Merkle e) d is named = tt

-- the outside's stays one
pub outside_lowers : {F : Type 0} (e : Error F) → IsOutside e → IsSome (lowered e)
outside_lowers joined.Volume o = refl
outside_lowers joined.Memory o = refl
outside_lowers (joined.Journal e) o = absurd o
outside_lowers (joined.Merkle e) o = absurd o

pub outside_lowered : {F : Type 0} (e : Error F) (d : JournalError) → IsOutside e → lowered e ≡ Some d → IsOfVolume d
outside_lowered joined.Volume d o is = let same : journal.Volume ≡ d = cc in subst IsOfVolume same refl
outside_lowered joined.Memory d o is = let same : journal.Memory ≡ d = cc in subst IsOfVolume same refl
outside_lowered (joined.Journal e) d o is = absurd o
outside_lowered (joined.Merkle e) d o is = absurd o

-- ---- of each call

tree_outside_lowers : {F : Type 0} (e : tree_error.Error F) → stores.IsOutside e → IsSome (lowered (from_tree e))
tree_outside_lowers tree.Volume o = refl
tree_outside_lowers tree.Memory o = refl
tree_outside_lowers _ o = absurd o

pub flush_lowers : {F D : Type 0} (s : Shape) (t : Full D) (e : tree_error.Error F) → IsOfFlush s t e → IsSome (lowered (from_tree e))
flush_lowers {F} s t e (inl outside) = tree_outside_lowers e outside
flush_lowers {F} s t e (inr (inl missing)) = subst (λ (x : tree_error.Error F). IsSome (lowered (from_tree x))) (sym missing.4) refl
flush_lowers {F} s t e (inr (inr large)) = subst (λ (x : tree_error.Error F). IsSome (lowered (from_tree x))) (sym large) refl

-- a refused prune
either_lowers : {F : Type 0} (c : Bool) (x y : Result (Unit {0}) (tree_error.Error F)) → ((d : tree_error.Error F) → x ≡ Err d → IsSome (lowered (from_tree d))) → ((d : tree_error.Error F) → y ≡ Err d → IsSome (lowered (from_tree d)))
    → (d : tree_error.Error F) → (if c then x else y) ≡ Err d → IsSome (lowered (from_tree d))
either_lowers true x y one two d is = one d is
either_lowers false x y one two d is = two d is

named_lowers : {F : Type 0} (e : tree_error.Error F) → IsSome (lowered (from_tree e)) → (d : tree_error.Error F) → IsErrOf {T = Unit {0}} (Err e) d → IsSome (lowered (from_tree d))
named_lowers {F} e some d is = let same : e ≡ d = cc in subst (λ (x : tree_error.Error F). IsSome (lowered (from_tree x))) same some

place_lowers : {F : Type 0} (n place : ℕ) (d : tree_error.Error F) → prune_answer n place ≡ Err d → IsSome (lowered (from_tree d))
place_lowers n place =
    either_lowers (nat_le place n) _ _ (λ d is. absurd cc)
    (either_lowers (nat_le place (2 ^ 62)) _ _ (named_lowers (tree.LeafOutOfBounds place) refl) (named_lowers (tree.LocationOverflow place) refl))

unread_at_lowers : {F D : Type 0} (tells : Type 0) (items : Items D) (p : ℕ) (e : tree_error.Error F) → IsUnreadAt tells items p e → IsSome (lowered (from_tree e))
unread_at_lowers tells items p e (inl outside) = tree_outside_lowers e outside
unread_at_lowers {F} tells items p e (inr (inl below)) = subst (λ (x : tree_error.Error F). IsSome (lowered (from_tree x))) (sym below.0) refl
unread_at_lowers {F} tells items p e (inr (inr (inl past))) = subst (λ (x : tree_error.Error F). IsSome (lowered (from_tree x))) (sym past.0) refl
unread_at_lowers {F} tells items p e (inr (inr (inr corrupt))) = subst (λ (x : tree_error.Error F). IsSome (lowered (from_tree x))) (sym corrupt.0) refl

unread_lowers : {F D : Type 0} (tells : Type 0) (items : Items D) (ps : List ℕ) (e : tree_error.Error F) → IsUnreadAmong tells items ps e → IsSome (lowered (from_tree e))
unread_lowers tells items ps e (inl outside) = tree_outside_lowers e outside
unread_lowers {F} tells items ps e (inr at) = elim at.3 [
  | inl pruned ↦ subst (λ (x : tree_error.Error F). IsSome (lowered (from_tree x))) (sym pruned) refl
  | inr unread ↦ unread_at_lowers tells items at.1 e unread
]

tree_prune_lowers : {F D : Type 0} (s : Shape) (tells : Type 0) (t : Full D) (items : Items D) (place : ℕ) (e : tree_error.Error F) → IsTreeUnpruned s tells t items place e → IsSome (lowered (from_tree e))
tree_prune_lowers s tells t items place e (inl refused) = place_lowers t.tree.leaves place e refused
tree_prune_lowers s tells t items place e (inr (inl flush)) = flush_lowers s t e flush
tree_prune_lowers s tells t items place e (inr (inr unread)) = unread_lowers tells items _ e unread

pub prune_lowers : {F D : Type 0} (s : Shape) (tells : Type 0) (t : Full D) (items : Items D) (begins : ℕ) (e : tree_error.Error F) → IsJournalUnpruned s tells t items begins e → IsSome (lowered (from_tree e))
prune_lowers s tells t items begins e (inl flush) = flush_lowers s t e flush
prune_lowers s tells t items begins e (inr cut) = tree_prune_lowers s tells cut.0 items cut.2.0 e cut.2.2

pub from_tree_lowers : {F : Type 0} (P : tree_error.Error F → Type 0) (e : Error F) → ((d : tree_error.Error F) → P d → IsSome (lowered (from_tree d))) → IsFromTree P e → IsSome (lowered e)
from_tree_lowers P e lowers is = subst (λ x. IsSome (lowered x)) (sym is.1) (lowers is.0 is.2)

pub lowered_is : {F : Type 0} (P : Error F → Type 0) (e : Error F) (d : JournalError) → P e → lowered e ≡ Some d → IsLowered P d
lowered_is P e d has is = (e, has, is)

-- why an append fails: by the outside; for the end of the log; or because there would be too many leaves
pub record IsAppendFailure {F : Type 0} (most : Type 0) (end : JournalError → Type 0) (e : Error F) : Type 0 where
  pub why : IsOutside e ⊎ (((d : JournalError) × (e ≡ joined.Journal d) × end d) ⊎ ((e ≡ joined.Merkle (tree.LocationOverflow (2 ^ 62 + 1))) × most))

pub append_fails : {F T : Type 0} (most : Type 0) (end : JournalError → Type 0) (result : Result T (Error F)) (e : Error F) → result ≡ Err e
    → ((d : tree_error.Error F) → IsErrOf result (joined.Merkle d) → (e ≡ joined.Merkle (tree.LocationOverflow (2 ^ 62 + 1))) × most)
    → ((d : JournalError) → IsErrOf result (joined.Journal d) → end d) → IsAppendFailure most end e
append_fails most end result joined.Volume is merkle log = record { why = inl tt }
append_fails most end result joined.Memory is merkle log = record { why = inl tt }
append_fails most end result (joined.Journal d) is merkle log = record { why = inr (inl (d, refl, log d is)) }
append_fails most end result (joined.Merkle d) is merkle log = record { why = inr (inr (merkle d is)) }

pub append_lowers : {F : Type 0} (most : Type 0) (end : JournalError → Type 0) (e : Error F) → ((d : JournalError) → end d → IsSome (unwrapped d)) → IsAppendFailure most end e → IsSome (lowered e)
append_lowers most end e log fails = elim fails.why [
  | inl outside ↦ outside_lowers e outside
  | inr named ↦ elim named [
    | inl of ↦ subst (λ x. IsSome (lowered x)) (sym of.1) (log of.0 of.2)
    | inr full ↦ subst (λ x. IsSome (lowered x)) (sym full.0) refl
  ]
]

pub append_lowered : {F : Type 0} (most : Type 0) (end P : JournalError → Type 0) (e : Error F) (d : JournalError) → ((x : JournalError) → IsOfVolume x → P x) → ((x : JournalError) → end x → IsSome (unwrapped x) × P x)
    → IsAppendFailure most end e → lowered e ≡ Some d → P d ⊎ ((d ≡ journal.Tree (cause.LocationOverflow (2 ^ 62 + 1))) × most)
append_lowered most end P e d volume log fails is = elim fails.why [
  | inl outside ↦ inl (volume d (outside_lowered e d outside is))
  | inr named ↦ elim named [
    | inl of ↦
        let here : unwrapped of.0 ≡ Some d = ap lowered (sym of.1) ∙ is in
        let itself = unwrapped_is of.0 (log of.0 of.2).0 in
        let same : of.0 ≡ d = cc in
        inl (subst P same (log of.0 of.2).1)
    | inr full ↦
        let here : Some (journal.Tree (cause.LocationOverflow (2 ^ 62 + 1))) ≡ Some d = ap lowered (sym full.0) ∙ is in
        let same : d ≡ journal.Tree (cause.LocationOverflow (2 ^ 62 + 1)) = cc in
        inr (same, full.1)
  ]
]

pub volume_of_size : (x : JournalError) → IsOfVolume x → IsOfSize x
volume_of_size journal.Volume of = refl
volume_of_size journal.Memory of = refl
volume_of_size (journal.ItemPruned p) of = absurd cc
volume_of_size (journal.ItemOutOfRange p) of = absurd cc
volume_of_size (journal.Corruption p) of = absurd cc
volume_of_size journal.SizeOverflow of = refl
volume_of_size journal.EmptyAppend of = absurd cc
volume_of_size (journal.Tree c) of = absurd cc

pub size_of_append : (x : JournalError) → IsOfVolume x → IsOfAppend x
size_of_append journal.Volume of = refl
size_of_append journal.Memory of = refl
size_of_append (journal.ItemPruned p) of = absurd cc
size_of_append (journal.ItemOutOfRange p) of = absurd cc
size_of_append (journal.Corruption p) of = absurd cc
size_of_append journal.SizeOverflow of = refl
size_of_append journal.EmptyAppend of = refl
size_of_append (journal.Tree c) of = absurd cc

-- a refusal by name comes before anything is written
pub unwritten_lowered : {F S T : Type 0} (a b : State) (r : Result S (Error F)) (e : Error F) (d : JournalError) → r ≡ Err e → lowered e ≡ Some d → NamesUnwritten a b r → RefusesUnwritten {T = T} a b (Err d)
unwritten_lowered a b r e d was is unwritten = λ x at named. unwritten e was (named_lowered e d is (subst IsRefusal (sym (same d x at)) named))
  where
    same : {T : Type 0} (d x : JournalError) → IsErrOf {T = T} (Err d) x → d ≡ x
    same d x at = cc

-- an error of the log stands for itself
abbrev pub IsOwn : JournalError → Type 0
IsOwn journal.SizeOverflow = Unit {0}
IsOwn journal.EmptyAppend = Unit {0}
IsOwn _ = ⊥

own_volume : {F : Type 0} (e : Error F) (x : JournalError) → IsOwn x → IsOutside e → lowered e ≡ Some x → e ≡ joined.Journal x
own_volume joined.Volume x own o is = let same : journal.Volume ≡ x = cc in absurd (subst IsOwn (sym same) own)
own_volume joined.Memory x own o is = let same : journal.Memory ≡ x = cc in absurd (subst IsOwn (sym same) own)
own_volume (joined.Journal d) x own o is = absurd o
own_volume (joined.Merkle d) x own o is = absurd o

pub own_lowered : {F : Type 0} (most : Type 0) (end : JournalError → Type 0) (e : Error F) (x : JournalError) → ((d : JournalError) → end d → IsSome (unwrapped d)) → IsOwn x → IsAppendFailure most end e → lowered e ≡ Some x → e ≡ joined.Journal x
own_lowered most end e x log own fails is = elim fails.why [
  | inl outside ↦ own_volume e x own outside is
  | inr named ↦ elim named [
    | inl of ↦
        let here : unwrapped of.0 ≡ Some x = ap lowered (sym of.1) ∙ is in
        let itself = unwrapped_is of.0 (log of.0 of.2) in
        let same : of.0 ≡ x = cc in
        of.1 ∙ ap joined.Journal same
    | inr full ↦
        let here : Some (journal.Tree (cause.LocationOverflow (2 ^ 62 + 1))) ≡ Some x = ap lowered (sym full.0) ∙ is in
        let same : journal.Tree (cause.LocationOverflow (2 ^ 62 + 1)) ≡ x = cc in
        absurd (subst IsOwn (sym same) own)
  ]
]

-- the error of an answer is the one that it tells
err_of : {E T : Type 0} (x y : E) → IsErrOf {T = T} (Err x) y → x ≡ y
err_of x y is = cc

-- an append of one item, or of several, has failed
pub one_fails : {F T : Type 0} (most : Type 0) (more : Type 0) (e : Error F) → ((d : tree_error.Error F) → IsErrOf {T = T} (Err e) (joined.Merkle d) → most)
    → (most → IsErrOf {T = T} (Err e) (joined.Merkle (tree.LocationOverflow (2 ^ 62 + 1))))
    → ((d : JournalError) → IsErrOf {T = T} (Err e) (joined.Journal d) → (d ≡ journal.SizeOverflow) × more) → IsAppendFailure most (λ d. d ≡ journal.SizeOverflow) e
one_fails {T = T} most more joined.Volume refused full overflow = record { why = inl tt }
one_fails {T = T} most more joined.Memory refused full overflow = record { why = inl tt }
one_fails {T = T} most more (joined.Journal d) refused full overflow = record { why = inr (inl (d, refl, (overflow d refl).0)) }
one_fails {T = T} most more (joined.Merkle d) refused full overflow =
    let past = refused d refl in
    record { why = inr (inr (err_of {T = T} (joined.Merkle d) (joined.Merkle (tree.LocationOverflow (2 ^ 62 + 1))) (full past), past)) }

pub several_fail : {F T : Type 0} (none most : Type 0) (more : Type 0) (e : Error F) → ((d : tree_error.Error F) → IsErrOf {T = T} (Err e) (joined.Merkle d) → most)
    → (most → (none → ⊥) → IsErrOf {T = T} (Err e) (joined.Merkle (tree.LocationOverflow (2 ^ 62 + 1)))) → (none → IsErrOf {T = T} (Err e) (joined.Journal journal.EmptyAppend))
    → ((d : JournalError) → IsErrOf {T = T} (Err e) (joined.Journal d) → ((d ≡ journal.EmptyAppend) × none) ⊎ ((d ≡ journal.SizeOverflow) × more))
    → IsAppendFailure most (λ d. ((d ≡ journal.EmptyAppend) × none) ⊎ ((d ≡ journal.SizeOverflow) × more)) e
several_fail none most more joined.Volume refused full empty overflow = record { why = inl tt }
several_fail none most more joined.Memory refused full empty overflow = record { why = inl tt }
several_fail none most more (joined.Journal d) refused full empty overflow = record { why = inr (inl (d, refl, overflow d refl)) }
several_fail {T = T} none most more (joined.Merkle d) refused full empty overflow =
    let past = refused d refl in
    let of = full past (λ is. let bad = empty is in cc) in
    record { why = inr (inr (err_of {T = T} (joined.Merkle d) (joined.Merkle (tree.LocationOverflow (2 ^ 62 + 1))) of, past)) }

pub size_some : (d : JournalError) → d ≡ journal.SizeOverflow → IsSome (unwrapped d)
size_some d is = subst (λ x. IsSome (unwrapped x)) (sym is) refl

pub size_of : (d : JournalError) → d ≡ journal.SizeOverflow → IsSome (unwrapped d) × IsOfSize d
size_of d is = (size_some d is, subst IsOfSize (sym is) refl)

pub several_some : (none more : Type 0) (d : JournalError) → ((d ≡ journal.EmptyAppend) × none) ⊎ ((d ≡ journal.SizeOverflow) × more) → IsSome (unwrapped d)
several_some none more d (inl empty) = subst (λ x. IsSome (unwrapped x)) (sym empty.0) refl
several_some none more d (inr size) = subst (λ x. IsSome (unwrapped x)) (sym size.0) refl

pub several_of : (none more : Type 0) (d : JournalError) → ((d ≡ journal.EmptyAppend) × none) ⊎ ((d ≡ journal.SizeOverflow) × more) → IsSome (unwrapped d) × IsOfAppend d
several_of none more d (inl empty) = (several_some none more d (inl empty), subst IsOfAppend (sym empty.0) refl)
several_of none more d (inr size) = (several_some none more d (inr size), subst IsOfAppend (sym size.0) refl)

-- what is answered for a tree that is full, or would be past that
some_of : {E : Type 0} (x y : E) → Some x ≡ Some y → y ≡ x
some_of x y is = cc

pub past_lowered : {F S T : Type 0} (e : Error F) (d : JournalError) → lowered e ≡ Some d → IsErrOf {T = S} (Err e) (joined.Merkle (tree.LocationOverflow (2 ^ 62 + 1))) → IsErrOf {T = T} (Err d) (journal.Tree (cause.LocationOverflow (2 ^ 62 + 1)))
past_lowered {S = S} e d is at = ap Err (some_of (journal.Tree (cause.LocationOverflow (2 ^ 62 + 1))) d (ap lowered (sym (err_of {T = S} e (joined.Merkle (tree.LocationOverflow (2 ^ 62 + 1))) at)) ∙ is))

pub own_stays : {F S T : Type 0} (e : Error F) (d x : JournalError) → unwrapped x ≡ Some x → lowered e ≡ Some d → IsErrOf {T = S} (Err e) (joined.Journal x) → IsErrOf {T = T} (Err d) x
own_stays {S = S} e d x itself is at = ap Err (some_of x d (sym itself ∙ ap lowered (sym (err_of {T = S} e (joined.Journal x) at)) ∙ is))

pub positive : (n : ℕ) → (n ≡ 0 → ⊥) → 0 < n
positive zero some = absurd (some refl)
positive (suc n) some = omega arith
