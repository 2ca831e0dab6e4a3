-- The laws of whole runs.
use Rattle.std.proofs.Common.{◌≡◌, ℕ, zero, suc, ◌+◌, ◌<◌, ◌≤◌, Bool, true, false, cond, List, [], ◌∷◌, ◌++◌, length, take, get_or, Option, Some, None, refl, sym, ap, subst, arith}
use Rattle.std.specs.Prelude.{nat_lt, nat_le, slice_get, unwrap_or, Result, Ok, Err}
use Rattle.std.specs.List.Sorted.{IsNonDecreasingBy}
use Rattle.std.proofs.lemmas.Option.{same_Some}
use Rattle.log_model.specs.StateBatches.{Batch, UnsealedBatch, Unsealed, Sealed, Gone, size_of, is_held}
use Rattle.log_model.specs.Machine.{State, max_leaves, batch_at, with_batch}
use Rattle.log_model.specs.Reach.{may_seal, may_apply, floor_below}
use Rattle.log_model.proofs.ReachLemmas.{lists_decide, not_longer}
use Rattle.command_text.specs.declared.command.Command.{Command}
use Rattle.command_text.specs.declared.command.Command.TheVariants as command
use Rattle.command_text.specs.declared.command.Answer.{Answer}
use Rattle.command_text.specs.declared.command.Answer.TheVariants as answer
use Rattle.log_model.specs.declared.refusal.Refusal.{Refusal}
use Rattle.command_text.specs.declared.command.Reply.{Reply}
use Rattle.log_model.specs.Refusals.{floor_refusal, prune_refusal}
use Rattle.list_machine.specs.Config.{Config}
use Rattle.list_machine.specs.Operation.{Operation, meaning, operation_decide, one_list, same_operation}
use Rattle.list_machine.specs.Step.{Outcome, step, reply, begin, begin_on, append_to, seal_refusal, metadata_length, sealed_or_lost, seal, apply, hold, release, answered, unless, batch_get, batch_get_many, prune, prune_unless}
use Rattle.list_machine.specs.Trace.{trace, replies_from, state_after}
use Rattle.list_machine.specs.Laws.{SizesNeverFall, TellsList, RepliesTellLists, RunsContinue, loses_batch, RefusalsKeep, KeepsLists, StorageKeepsLists, QuestionsKeep}

-- what holds of both choices holds of the one that a test makes
pub either : (P : Outcome → Type 0) (b : Bool) (x y : Outcome) → (b ≡ true → P x) → (b ≡ false → P y) → P (cond b x y)
either P true x y p q = p refl
either P false x y p q = q refl

pub either_why : (P : Option Refusal → Type 0) (b : Bool) (x y : Option Refusal) → (b ≡ true → P x) → (b ≡ false → P y) → P (cond b x y)
either_why P true x y p q = p refl
either_why P false x y p q = q refl

-- ---- questions

-- it leaves the state
abbrev pub Keeps : State Operation → Outcome → Type 0
Keeps s o = o.1 ≡ s

pub answered_keeps : {A : Type 0} (s : State Operation) (a : A → Answer) (r : Result A Refusal) → Keeps s (answered s a r)
answered_keeps s a (Ok x) = refl
answered_keeps s a (Err r) = refl

pub unless_keeps : (s : State Operation) (r : Option Refusal) (a : Answer) → Keeps s (unless s r a)
unless_keeps s None a = refl
unless_keeps s (Some r) a = refl

pub batch_get_keeps : (s : State Operation) (b l : ℕ) (x : Batch Operation) → Keeps s (batch_get s b l x)
batch_get_keeps s b l (Unsealed u) = answered_keeps s _ _
batch_get_keeps s b l (Sealed c) = either (Keeps s) (is_held c) _ _ (λ h. answered_keeps s _ _) (λ h. refl)
batch_get_keeps s b l Gone = refl

pub batch_get_many_keeps : (s : State Operation) (b : ℕ) (ls : List ℕ) (x : Batch Operation) → Keeps s (batch_get_many s b ls x)
batch_get_many_keeps s b ls (Unsealed u) = answered_keeps s _ _
batch_get_many_keeps s b ls (Sealed c) = either (Keeps s) (is_held c) _ _ (λ h. answered_keeps s _ _) (λ h. refl)
batch_get_many_keeps s b ls Gone = refl

pub questions_are_kept : QuestionsKeep
questions_are_kept = record {
  get = λ l config s. answered_keeps s _ _;
  get_many = λ ls config s. answered_keeps s _ _;
  batch_get = λ b l config s. batch_get_keeps s b l (batch_at s b);
  batch_get_many = λ b ls config s. batch_get_many_keeps s b ls (batch_at s b);
  size = λ config s. refl;
  metadata = λ config s. refl;
  proof = λ n a count config s. unless_keeps s _ _;
  commit_proof = λ n config s. unless_keeps s _ _;
}

-- ---- durability

prune_keeps_where : (log_blob witness_blob : ℕ) (s : State Operation) (l : ℕ) (why : Option Refusal) → KeepsLists s (prune_unless log_blob witness_blob s l why).1
prune_keeps_where log_blob witness_blob s l None = record { ops = refl; sizes = refl; batches = refl }
prune_keeps_where log_blob witness_blob s l (Some r) = record { ops = refl; sizes = refl; batches = refl }

prune_keeps : (log_blob witness_blob : ℕ) (s : State Operation) (l : ℕ) → KeepsLists s (prune log_blob witness_blob s l).1
prune_keeps log_blob witness_blob s l = prune_keeps_where log_blob witness_blob s l (prune_refusal meaning s l)

pub storage_keeps : StorageKeepsLists
storage_keeps = record {
  commit = λ config s. record { ops = refl; sizes = refl; batches = refl };
  sync = λ config s. record { ops = refl; sizes = refl; batches = refl };
  start_sync = λ config s. record { ops = refl; sizes = refl; batches = refl };
  prune = λ config s l. prune_keeps config.log_blob config.witness_blob s l;
}

-- ---- sizes

-- lists that are one have one length
list_lengths : (first second : List Operation) → one_list first second ≡ true → length first ≡ length second
list_lengths first second e = ap length ((lists_decide same_operation operation_decide first second).0 e)

abbrev Grows : State Operation → Outcome → Type 0
Grows s o = length s.ops ≤ length o.1.ops

append_grows : (limit : ℕ) (s : State Operation) (b : ℕ) (v : List ℕ) (x : Batch Operation) → Grows s (append_to limit s b v x)
append_grows limit s b v (Unsealed u) = either (Grows s) (nat_lt limit (length v)) _ _ (λ e. omega arith) (λ e. either (Grows s) (nat_le max_leaves (size_of u)) _ _ (λ f. omega arith) (λ f. omega arith))
append_grows limit s b v (Sealed c) = omega arith
append_grows limit s b v Gone = omega arith

ended_grows : (s : State Operation) (b : ℕ) (u : UnsealedBatch Operation) (metadata : Option (List ℕ)) (floor : ℕ) (r : Option Refusal) → Grows s (sealed_or_lost s b u metadata floor r)
ended_grows s b u metadata floor (Some refusal) = omega arith
ended_grows s b u metadata floor None = omega arith

seal_grows : (limit : ℕ) (s : State Operation) (b : ℕ) (metadata : Option (List ℕ)) (floor : ℕ) (x : Batch Operation) → Grows s (seal limit s b metadata floor x)
seal_grows limit s b metadata floor (Unsealed u) = either (Grows s) (nat_lt limit (metadata_length metadata)) _ _ (λ e. omega arith) (λ e. ended_grows s b u metadata floor (seal_refusal s u floor))
seal_grows limit s b metadata floor (Sealed c) = omega arith
seal_grows limit s b metadata floor Gone = omega arith

apply_grows : (s : State Operation) (b : ℕ) (x : Batch Operation) → Grows s (apply s b x)
apply_grows s b (Sealed c) = either (Grows s) (is_held c) _ _ (λ h. either (Grows s) (may_apply one_list s c) _ _ (λ e. not_longer one_list list_lengths s c.list c.boundary c.tips e) (λ e. omega arith)) (λ h. omega arith)
apply_grows s b (Unsealed u) = omega arith
apply_grows s b Gone = omega arith

hold_grows : (s : State Operation) (b : ℕ) (x : Batch Operation) → Grows s (hold s b x)
hold_grows s b (Sealed c) = either (Grows s) (is_held c) _ _ (λ h. omega arith) (λ h. omega arith)
hold_grows s b (Unsealed u) = omega arith
hold_grows s b Gone = omega arith

release_grows : (s : State Operation) (b : ℕ) (x : Batch Operation) → Grows s (release s b x)
release_grows s b (Sealed c) = either (Grows s) (is_held c) _ _ (λ h. omega arith) (λ h. omega arith)
release_grows s b (Unsealed u) = omega arith
release_grows s b Gone = omega arith

begin_grows_on : (s : State Operation) (p : ℕ) (x : Batch Operation) → Grows s (begin_on s p x)
begin_grows_on s p (Sealed c) = either (Grows s) (is_held c) _ _ (λ h. omega arith) (λ h. omega arith)
begin_grows_on s p (Unsealed u) = omega arith
begin_grows_on s p Gone = omega arith

begin_grows : (s : State Operation) (parent : Option ℕ) → Grows s (begin s parent)
begin_grows s None = omega arith
begin_grows s (Some p) = begin_grows_on s p (batch_at s p)

keeps_grows : (s t : State Operation) → t ≡ s → length s.ops ≤ length t.ops
keeps_grows s t e = let l = ap (λ (x : State Operation). length x.ops) e in omega (arith, l)

prune_grows : (log_blob witness_blob : ℕ) (s : State Operation) (l : ℕ) → Grows s (prune log_blob witness_blob s l)
prune_grows log_blob witness_blob s l = let e = ap (λ (ops : List Operation). length ops) (prune_keeps log_blob witness_blob s l).ops in omega (arith, e)

step_grows : (config : Config) (s : State Operation) (c : Command) → Grows s (step config s c)
step_grows config s (command.New parent) = begin_grows s parent
step_grows config s (command.Append b v) = append_grows config.value_limit s b v (batch_at s b)
step_grows config s (command.Seal b metadata floor) = seal_grows config.value_limit s b metadata floor (batch_at s b)
step_grows config s (command.Apply b) = apply_grows s b (batch_at s b)
step_grows config s (command.Hold b) = hold_grows s b (batch_at s b)
step_grows config s (command.Release b) = release_grows s b (batch_at s b)
step_grows config s command.Snapshot = omega arith
step_grows config s (command.Get l) = keeps_grows s _ (answered_keeps s _ _)
step_grows config s (command.GetMany ls) = keeps_grows s _ (answered_keeps s _ _)
step_grows config s (command.BatchGet b l) = keeps_grows s _ (batch_get_keeps s b l (batch_at s b))
step_grows config s (command.BatchGetMany b ls) = keeps_grows s _ (batch_get_many_keeps s b ls (batch_at s b))
step_grows config s command.Size = omega arith
step_grows config s command.Metadata = omega arith
step_grows config s (command.Proof n a count) = keeps_grows s _ (unless_keeps s _ _)
step_grows config s (command.CommitProof n) = keeps_grows s _ (unless_keeps s _ _)
step_grows config s command.Commit = omega arith
step_grows config s command.Sync = omega arith
step_grows config s command.StartSync = omega arith
step_grows config s (command.Prune l) = prune_grows config.log_blob config.witness_blob s l

-- no later reply tells a smaller size
later_larger : (config : Config) (s : State Operation) (cs : List Command) (j : ℕ) (d : Reply) → j < length (replies_from config s cs) → length s.ops ≤ (get_or (replies_from config s cs) j d).size
later_larger config s [] j d lt = absurd (omega arith)
later_larger config s (c ∷ cs) zero d lt = step_grows config s c
later_larger config s (c ∷ cs) (suc j) d lt = let now = step_grows config s c in let rest = later_larger config (step config s c).1 cs j d (omega arith) in omega (arith, now, rest)

never_fall_from : (config : Config) (s : State Operation) (cs : List Command) → IsNonDecreasingBy (λ (r : Reply). r.size) (replies_from config s cs)
never_fall_from config s [] i j d le lt = absurd (omega arith)
never_fall_from config s (c ∷ cs) zero zero d le lt = omega arith
never_fall_from config s (c ∷ cs) zero (suc j) d le lt = later_larger config (step config s c).1 cs j d (omega arith)
never_fall_from config s (c ∷ cs) (suc i) zero d le lt = absurd (omega arith)
never_fall_from config s (c ∷ cs) (suc i) (suc j) d le lt = never_fall_from config (step config s c).1 cs i j d (omega arith) (omega arith)

pub never_fall : SizesNeverFall
unfolding trace
never_fall config s cs zero zero d le lt = omega arith
never_fall config s cs zero (suc j) d le lt = later_larger config s cs j d (omega arith)
never_fall config s cs (suc i) zero d le lt = absurd (omega arith)
never_fall config s cs (suc i) (suc j) d le lt = never_fall_from config s cs i j d (omega arith) (omega arith)

-- ---- what replies tell

some_is : (a b : Reply) → Some a ≡ Some b → a ≡ b
some_is a b e = ap (λ o. unwrap_or o a) e

this_tells : (o : Outcome) (r : Reply) → Some (reply o) ≡ Some r → TellsList r o.1.ops
this_tells o r e = subst (λ (x : Reply). TellsList x o.1.ops) (some_is (reply o) r e) (record { size = refl; full = refl; compact = refl })

tell_from : (config : Config) (s : State Operation) (cs : List Command) (i : ℕ) (r : Reply) → slice_get (replies_from config s cs) i ≡ Some r → TellsList r (state_after config s (take (suc i) cs)).ops
tell_from config s [] i r e = absurd (cc)
tell_from config s (c ∷ cs) zero r e = this_tells (step config s c) r e
tell_from config s (c ∷ cs) (suc i) r e = tell_from config (step config s c).1 cs i r e

pub tell_lists : RepliesTellLists
unfolding trace
tell_lists config s cs zero r e = this_tells (answer.Opened (length s.ops) s.start, s) r e
tell_lists config s cs (suc i) r e = tell_from config s cs i r e

-- ---- runs that continue

continue_from : (config : Config) (s : State Operation) (cs ds : List Command) → replies_from config s (cs ++ ds) ≡ replies_from config s cs ++ replies_from config (state_after config s cs) ds
continue_from config s [] ds = refl
continue_from config s (c ∷ cs) ds = ap (λ (rs : List Reply). reply (step config s c) ∷ rs) (continue_from config (step config s c).1 cs ds)

pub continues : RunsContinue
unfolding trace
continues config s cs ds = ap (λ (rs : List Reply). reply (answer.Opened (length s.ops) s.start, s) ∷ rs) (continue_from config s cs ds)

-- ---- refusals

-- where it is refused, the state stays
abbrev Stays : State Operation → Outcome → Type 0
Stays s o = (r : Refusal) → o.0 ≡ answer.Refused r → o.1 ≡ s

append_stays : (limit : ℕ) (s : State Operation) (b : ℕ) (v : List ℕ) (x : Batch Operation) → Stays s (append_to limit s b v x)
append_stays limit s b v (Unsealed u) = either (Stays s) (nat_lt limit (length v)) _ _ (λ e r is. refl) (λ e. either (Stays s) (nat_le max_leaves (size_of u)) _ _ (λ f r is. refl) (λ f r is. absurd (cc)))
append_stays limit s b v (Sealed d) = λ r is. refl
append_stays limit s b v Gone = λ r is. refl

apply_stays : (s : State Operation) (b : ℕ) (x : Batch Operation) → Stays s (apply s b x)
apply_stays s b (Sealed d) = either (Stays s) (is_held d) _ _ (λ h. either (Stays s) (may_apply one_list s d) _ _ (λ e r is. absurd (cc)) (λ e r is. refl)) (λ h r is. refl)
apply_stays s b (Unsealed u) = λ r is. refl
apply_stays s b Gone = λ r is. refl

hold_stays : (s : State Operation) (b : ℕ) (x : Batch Operation) → Stays s (hold s b x)
hold_stays s b (Sealed d) = either (Stays s) (is_held d) _ _ (λ h r is. absurd (cc)) (λ h r is. refl)
hold_stays s b (Unsealed u) = λ r is. refl
hold_stays s b Gone = λ r is. refl

release_stays : (s : State Operation) (b : ℕ) (x : Batch Operation) → Stays s (release s b x)
release_stays s b (Sealed d) = either (Stays s) (is_held d) _ _ (λ h r is. absurd (cc)) (λ h r is. refl)
release_stays s b (Unsealed u) = λ r is. absurd (cc)
release_stays s b Gone = λ r is. refl

begin_stays_on : (s : State Operation) (p : ℕ) (x : Batch Operation) → Stays s (begin_on s p x)
begin_stays_on s p (Sealed d) = either (Stays s) (is_held d) _ _ (λ h r is. absurd (cc)) (λ h r is. refl)
begin_stays_on s p (Unsealed u) = λ r is. refl
begin_stays_on s p Gone = λ r is. refl

begin_stays : (s : State Operation) (parent : Option ℕ) → Stays s (begin s parent)
begin_stays s None = λ r is. absurd (cc)
begin_stays s (Some p) = begin_stays_on s p (batch_at s p)

prune_stays : (log_blob witness_blob : ℕ) (s : State Operation) (l : ℕ) (why : Option Refusal) → Stays s (prune_unless log_blob witness_blob s l why)
prune_stays log_blob witness_blob s l None = λ r is. absurd (cc)
prune_stays log_blob witness_blob s l (Some x) = λ r is. refl

-- an answer tells why
same_why : (x r : Refusal) → answer.Refused x ≡ answer.Refused r → x ≡ r
same_why x r is = cc

-- for each reason of an unsealed batch its seal loses it
abbrev Loses : Option Refusal → Type 0
Loses why = (x : Refusal) → why ≡ Some x → loses_batch x ≡ true

told_loses : (y x : Refusal) → Some y ≡ Some x → loses_batch y ≡ true → loses_batch x ≡ true
told_loses y x is loses = subst (λ (r : Refusal). loses_batch r ≡ true) (same_Some y x is) loses

floor_loses : (below floor location : ℕ) → Loses (floor_refusal below floor location)
floor_loses below floor location = either_why Loses (nat_lt floor below) _ _ (λ e x is. told_loses _ x is refl)
    (λ e. either_why Loses (nat_lt location floor) _ _ (λ f x is. told_loses _ x is refl) (λ f x is. absurd (cc)))

seal_loses : (s : State Operation) (u : UnsealedBatch Operation) (floor : ℕ) → Loses (seal_refusal s u floor)
seal_loses s u floor = either_why Loses (may_seal one_list s u) _ _
    (λ e. either_why Loses (nat_lt max_leaves (size_of u + 1)) _ _ (λ f x is. told_loses _ x is refl) (λ f. floor_loses (floor_below meaning s u) floor (size_of u)))
    (λ e x is. told_loses _ x is refl)

-- where a seal of batch b is refused, the batch is lost, or the state stays
abbrev LosesOrStays : State Operation → ℕ → Outcome → Type 0
LosesOrStays s b o = (r : Refusal) → o.0 ≡ answer.Refused r → o.1 ≡ cond (loses_batch r) (with_batch s b Gone) s

stays_why : (s t : State Operation) (x r : Refusal) → answer.Refused x ≡ answer.Refused r → loses_batch x ≡ false → s ≡ cond (loses_batch r) t s
stays_why s t x r is stays = rw (sym (same_why x r is), stays) refl

ended_loses : (s : State Operation) (b : ℕ) (metadata : Option (List ℕ)) (floor : ℕ) (u : UnsealedBatch Operation) (why : Option Refusal) → Loses why
    → LosesOrStays s b (sealed_or_lost s b u metadata floor why)
ended_loses s b metadata floor u (Some refusal) loses = λ r is. rw (sym (same_why refusal r is), loses refusal refl) refl
ended_loses s b metadata floor u None loses = λ r is. absurd (cc)

seal_loses_or_stays : (limit : ℕ) (s : State Operation) (b : ℕ) (metadata : Option (List ℕ)) (floor : ℕ) (x : Batch Operation) → LosesOrStays s b (seal limit s b metadata floor x)
seal_loses_or_stays limit s b metadata floor (Unsealed u) = either (LosesOrStays s b) (nat_lt limit (metadata_length metadata)) _ _
    (λ e r is. stays_why s (with_batch s b Gone) _ r is refl) (λ e. ended_loses s b metadata floor u (seal_refusal s u floor) (seal_loses s u floor))
seal_loses_or_stays limit s b metadata floor (Sealed c) = λ r is. stays_why s (with_batch s b Gone) _ r is refl
seal_loses_or_stays limit s b metadata floor Gone = λ r is. stays_why s (with_batch s b Gone) _ r is refl

pub keep : RefusalsKeep
keep config s (command.New parent) r is = begin_stays s parent r is
keep config s (command.Append b v) r is = append_stays config.value_limit s b v (batch_at s b) r is
keep config s (command.Seal b metadata floor) r is = seal_loses_or_stays config.value_limit s b metadata floor (batch_at s b) r is
keep config s (command.Apply b) r is = apply_stays s b (batch_at s b) r is
keep config s (command.Hold b) r is = hold_stays s b (batch_at s b) r is
keep config s (command.Release b) r is = release_stays s b (batch_at s b) r is
keep config s command.Snapshot r is = absurd (cc)
keep config s (command.Get l) r is = answered_keeps s _ _
keep config s (command.GetMany ls) r is = answered_keeps s _ _
keep config s (command.BatchGet b l) r is = batch_get_keeps s b l (batch_at s b)
keep config s (command.BatchGetMany b ls) r is = batch_get_many_keeps s b ls (batch_at s b)
keep config s command.Size r is = absurd (cc)
keep config s command.Metadata r is = absurd (cc)
keep config s (command.Proof n a count) r is = unless_keeps s _ _
keep config s (command.CommitProof n) r is = unless_keeps s _ _
keep config s command.Commit r is = absurd (cc)
keep config s command.Sync r is = absurd (cc)
keep config s command.StartSync r is = absurd (cc)
keep config s (command.Prune l) r is = prune_stays config.log_blob config.witness_blob s l (prune_refusal meaning s l) r is
