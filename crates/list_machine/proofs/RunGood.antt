-- Each step keeps a state good.
use Rattle.std.proofs.Common.{◌≡◌, ℕ, zero, suc, ◌+◌, ◌-◌, ◌<◌, ◌≤◌, false, List, [], ◌∷◌, length, drop, get_or, Option, Some, None, refl, sym, ◌∙◌, ap, subst, arith}
use Rattle.std.specs.Prelude.{nat_lt, nat_le, slice_index_or, slice_set, IfSome, Contains}
use Rattle.std.specs.List.{flat_map}
use Rattle.std.proofs.lemmas.Bool.Decides.{nat_tests}
use Rattle.std.proofs.lemmas.List.{drop_more}
use Rattle.std.proofs.lemmas.List.Elements.{Contains-append_left, Contains-append_right}
use Rattle.log_model.specs.StateBatches.{Batch, UnsealedBatch, SealedBatch, Unsealed, Sealed, Gone, size_of, appended, is_held}
use Rattle.log_model.specs.Good.{AnyList, IsGood, IsGoodBatch, HasParent}
use Rattle.log_model.specs.Machine.{State, max_leaves, batch_at, with_batch, begun, fresh, applied, committed, synced, pruned, snapshot_taken, sealed_list, lists_here}
use Rattle.log_model.specs.Operations.{floor_of}
use Rattle.log_model.specs.Reach.{may_apply, sealed_here}
use Rattle.log_model.specs.Refusals.{prune_refusal}
use Rattle.log_model.proofs.GoodLemmas.{good_lost, good_with_append, good_with_holds, good_begun, good_begun_after, good_snapshot_taken}
use Rattle.log_model.proofs.LogLemmas.{good_committed, good_synced, good_pruned}
use Rattle.log_model.proofs.StoredLemmas.{good_fresh}
use Rattle.log_model.proofs.StepLemmas.{filled, prune_fits, good_sealed_here, good_applied_here}
use Rattle.op_codec.specs.declared.keyless.Operation.TheVariants.{Append, Commit}
use Rattle.command_text.specs.declared.command.Command.{Command}
use Rattle.command_text.specs.declared.command.Command.TheVariants as command
use Rattle.log_model.specs.declared.refusal.Refusal.{Refusal}
use Rattle.list_machine.specs.Config.{Config}
use Rattle.list_machine.specs.Operation.{Operation, meaning, operation_decide, one_list, same_operation}
use Rattle.list_machine.specs.Step.{Outcome, step, begin, begin_on, append_to, seal_refusal, metadata_length, sealed_or_lost, seal, apply, hold, release, prune, prune_unless, plain_commit}
use Rattle.list_machine.specs.Told.{IsTold, StatesAreTold}
use Rattle.list_machine.specs.Trace.{state_after, lists_passed, fresh_state, HasNoClash}
use Rattle.list_machine.specs.GoodRuns.{IsGoodState, HasLists, StepsStayGood, RunsAreGood}
use Rattle.list_machine.proofs.RunLaws.{either, answered_keeps, unless_keeps, batch_get_keeps, batch_get_many_keeps}

abbrev Allowed : ℕ → List ℕ → Type 0
Allowed limit v = length v ≤ limit

not_lt : (m n : ℕ) → nat_lt m n ≡ false → n ≤ m
not_lt m n e = grind (arith, nat_tests)

not_le : (m n : ℕ) → nat_le m n ≡ false → n < m
not_le m n e = grind (arith, nat_tests)

-- the list of a batch that is sealed is one of the state after it
set_has : (bs : List (Batch Operation)) (b : ℕ) (u : UnsealedBatch Operation) (c : SealedBatch Operation) → get_or bs b Gone ≡ Unsealed u → Contains (flat_map sealed_list (slice_set bs b (Sealed c))) c.list
set_has [] b u c is = absurd (cc)
set_has (x ∷ bs) zero u c is = (0, omega arith, refl)
set_has (x ∷ bs) (suc b) u c is = Contains-append_right (sealed_list x) (flat_map sealed_list (slice_set bs b (Sealed c))) c.list (set_has bs b u c is)

has_sealed : (s : State Operation) (b : ℕ) (u : UnsealedBatch Operation) (c : SealedBatch Operation) → batch_at s b ≡ Unsealed u → Contains (lists_here (with_batch s b (Sealed c))) c.list
has_sealed s b u c is = Contains-append_right (s.ops ∷ []) (flat_map sealed_list (slice_set s.batches b (Sealed c))) c.list (set_has s.batches b u c is)

module _ (among : List Operation → Type 0) (limit : ℕ) (s : State Operation) (g : IsGoodState among limit s) where
  abbrev Stays : Outcome → Type 0
  Stays o = IsGoodState among limit o.1

  stays : (t : State Operation) → 1 ≤ t.durable → IsGood meaning among (Allowed limit) plain_commit t → IsGoodState among limit t
  stays t some good = record { good = good; some = some }

  pub append_good : (b : ℕ) (v : List ℕ) (x : Batch Operation) → batch_at s b ≡ x → Stays (append_to limit s b v x)
  append_good b v (Unsealed u) is = either Stays (nat_lt limit (length v)) _ _ (λ e. g) (λ e. either Stays (nat_le max_leaves (size_of u)) _ _ (λ f. g) (λ f.
      stays (with_batch s b (Unsealed (appended u (Append v)))) g.some (good_with_append meaning among (Allowed limit) plain_commit s b u (Append v) g.good is refl (not_lt limit (length v) e) (not_le max_leaves (size_of u) f))))
  append_good b v (Sealed c) is = g
  append_good b v Gone is = g

  allowed_metadata : (metadata : Option (List ℕ)) → metadata_length metadata ≤ limit → IfSome metadata (Allowed limit)
  allowed_metadata None short = tt
  allowed_metadata (Some v) short = short

  -- a seal whose list is one of these
  abbrev StaysKnown : Outcome → Type 0
  StaysKnown o = HasLists among o.1 → Stays o

  ended_good : (b : ℕ) (metadata : Option (List ℕ)) (floor : ℕ) (u : UnsealedBatch Operation) (why : Option Refusal) → seal_refusal s u floor ≡ why → batch_at s b ≡ Unsealed u → metadata_length metadata ≤ limit
      → StaysKnown (sealed_or_lost s b u metadata floor why)
  ended_good b metadata floor u (Some refusal) e is short known = stays (with_batch s b Gone) g.some (good_lost meaning among (Allowed limit) plain_commit s b u g.good is)
  ended_good b metadata floor u None e is short known =
      let c : SealedBatch Operation = sealed_here s u (Commit metadata floor) floor in
      stays (with_batch s b (Sealed c)) g.some (good_sealed_here meaning same_operation operation_decide among (Allowed limit) plain_commit s b u (Commit metadata floor) floor (known c.list (has_sealed s b u c is)) g.good is refl (allowed_metadata metadata short) e)

  pub seal_good : (b : ℕ) (metadata : Option (List ℕ)) (floor : ℕ) (x : Batch Operation) → batch_at s b ≡ x → StaysKnown (seal limit s b metadata floor x)
  seal_good b metadata floor (Unsealed u) is = either StaysKnown (nat_lt limit (metadata_length metadata)) _ _ (λ e known. g)
      (λ e. ended_good b metadata floor u (seal_refusal s u floor) refl is (not_lt limit (metadata_length metadata) e))
  seal_good b metadata floor (Sealed c) is = λ known. g
  seal_good b metadata floor Gone is = λ known. g

  pub apply_good : (b : ℕ) (x : Batch Operation) → batch_at s b ≡ x → Stays (apply s b x)
  apply_good b (Sealed c) is = either Stays (is_held c) _ _ (λ h. either Stays (may_apply one_list s c) _ _ (λ e.
      stays (applied s c) g.some (good_applied_here meaning same_operation operation_decide among (Allowed limit) plain_commit s b c g.some g.good is e)) (λ e. g)) (λ h. g)
  apply_good b (Unsealed u) is = g
  apply_good b Gone is = g

  pub hold_good : (b : ℕ) (x : Batch Operation) → batch_at s b ≡ x → Stays (hold s b x)
  hold_good b (Sealed c) is = either Stays (is_held c) _ _ (λ h. stays (with_batch s b (Sealed (record c { holds = c.holds + 1 }))) g.some (good_with_holds meaning among (Allowed limit) plain_commit s b c (c.holds + 1) g.good is)) (λ h. g)
  hold_good b (Unsealed u) is = g
  hold_good b Gone is = g

  pub release_good : (b : ℕ) (x : Batch Operation) → batch_at s b ≡ x → Stays (release s b x)
  release_good b (Sealed c) is = either Stays (is_held c) _ _ (λ h. stays (with_batch s b (Sealed (record c { holds = c.holds - 1 }))) g.some (good_with_holds meaning among (Allowed limit) plain_commit s b c (c.holds - 1) g.good is)) (λ h. g)
  release_good b (Unsealed u) is = stays (with_batch s b Gone) g.some (good_lost meaning among (Allowed limit) plain_commit s b u g.good is)
  release_good b Gone is = g

  begin_good_on : (p : ℕ) (x : Batch Operation) → batch_at s p ≡ x → Stays (begin_on s p x)
  begin_good_on p (Sealed c) is = either Stays (is_held c) _ _ (λ h. stays (begun s (Some p) c.list) g.some (good_begun_after meaning among (Allowed limit) plain_commit s p c g.good is)) (λ h. g)
  begin_good_on p (Unsealed u) is = g
  begin_good_on p Gone is = g

  pub begin_good : (parent : Option ℕ) → Stays (begin s parent)
  begin_good None = stays (begun s None s.ops) g.some (good_begun meaning among (Allowed limit) plain_commit s g.good)
  begin_good (Some p) = begin_good_on p (batch_at s p) refl

  pub snapshot_good : IsGoodState among limit (snapshot_taken s (floor_of meaning s.ops))
  snapshot_good = stays (snapshot_taken s (floor_of meaning s.ops)) g.some (good_snapshot_taken meaning among (Allowed limit) plain_commit s g.good)

  -- ---- answers that change nothing

  pub kept_good : (t : State Operation) → t ≡ s → IsGoodState among limit t
  kept_good t e = subst (λ (x : State Operation). IsGoodState among limit x) (sym e) g

  -- ---- durability

  some_there : 1 ≤ length s.ops
  some_there = filled meaning among (Allowed limit) plain_commit s g

  pub commit_good : IsGoodState among limit (committed s)
  commit_good = stays (committed s) some_there (good_committed meaning among (Allowed limit) plain_commit s g.good)

  pub sync_good : IsGoodState among limit (synced s)
  sync_good = stays (synced s) some_there (good_synced meaning among (Allowed limit) plain_commit s g.good)

  prune_good_where : (log_blob witness_blob l : ℕ) (why : Option Refusal) → prune_refusal meaning s l ≡ why → Stays (prune_unless log_blob witness_blob s l why)
  prune_good_where log_blob witness_blob l None e = stays (pruned log_blob witness_blob s l) some_there (good_pruned meaning among (Allowed limit) plain_commit log_blob witness_blob s l (prune_fits meaning s l e) g.good)
  prune_good_where log_blob witness_blob l (Some r) e = g

  pub prune_good : (log_blob witness_blob l : ℕ) → Stays (prune log_blob witness_blob s l)
  prune_good log_blob witness_blob l = prune_good_where log_blob witness_blob l (prune_refusal meaning s l) refl

-- a step after which each list is one of these keeps a good state
stay_good_among : (among : List Operation → Type 0) (config : Config) (s : State Operation) (c : Command) → HasLists among (step config s c).1 → IsGoodState among config.value_limit s
    → IsGoodState among config.value_limit (step config s c).1
stay_good_among among config s (command.New parent) known g = begin_good among config.value_limit s g parent
stay_good_among among config s (command.Append b v) known g = append_good among config.value_limit s g b v (batch_at s b) refl
stay_good_among among config s (command.Seal b metadata floor) known g = seal_good among config.value_limit s g b metadata floor (batch_at s b) refl known
stay_good_among among config s (command.Apply b) known g = apply_good among config.value_limit s g b (batch_at s b) refl
stay_good_among among config s (command.Hold b) known g = hold_good among config.value_limit s g b (batch_at s b) refl
stay_good_among among config s (command.Release b) known g = release_good among config.value_limit s g b (batch_at s b) refl
stay_good_among among config s command.Snapshot known g = snapshot_good among config.value_limit s g
stay_good_among among config s (command.Get l) known g = kept_good among config.value_limit s g _ (answered_keeps s _ _)
stay_good_among among config s (command.GetMany ls) known g = kept_good among config.value_limit s g _ (answered_keeps s _ _)
stay_good_among among config s (command.BatchGet b l) known g = kept_good among config.value_limit s g _ (batch_get_keeps s b l (batch_at s b))
stay_good_among among config s (command.BatchGetMany b ls) known g = kept_good among config.value_limit s g _ (batch_get_many_keeps s b ls (batch_at s b))
stay_good_among among config s command.Size known g = g
stay_good_among among config s command.Metadata known g = g
stay_good_among among config s (command.Proof n a count) known g = kept_good among config.value_limit s g _ (unless_keeps s _ _)
stay_good_among among config s (command.CommitProof n) known g = kept_good among config.value_limit s g _ (unless_keeps s _ _)
stay_good_among among config s command.Commit known g = commit_good among config.value_limit s g
stay_good_among among config s command.Sync known g = sync_good among config.value_limit s g
stay_good_among among config s command.StartSync known g = sync_good among config.value_limit s g
stay_good_among among config s (command.Prune l) known g = prune_good among config.value_limit s g config.log_blob config.witness_blob l

pub stay_good : StepsStayGood
stay_good limit = record {
  new = λ parent s g. begin_good AnyList limit s g parent;
  append = λ b v s g. append_good AnyList limit s g b v (batch_at s b) refl;
  seal = λ b m floor s g. seal_good AnyList limit s g b m floor (batch_at s b) refl (λ list has. tt);
  apply = λ b s g. apply_good AnyList limit s g b (batch_at s b) refl;
  hold = λ b s g. hold_good AnyList limit s g b (batch_at s b) refl;
  release = λ b s g. release_good AnyList limit s g b (batch_at s b) refl;
  snapshot = λ s g. snapshot_good AnyList limit s g;
  get = λ l s g. kept_good AnyList limit s g _ (answered_keeps s _ _);
  get_many = λ ls s g. kept_good AnyList limit s g _ (answered_keeps s _ _);
  batch_get = λ b l s g. kept_good AnyList limit s g _ (batch_get_keeps s b l (batch_at s b));
  batch_get_many = λ b ls s g. kept_good AnyList limit s g _ (batch_get_many_keeps s b ls (batch_at s b));
  size = λ s g. g;
  metadata = λ s g. g;
  proof = λ n a count s g. kept_good AnyList limit s g _ (unless_keeps s _ _);
  commit_proof = λ n s g. kept_good AnyList limit s g _ (unless_keeps s _ _);
  commit = λ s g. commit_good AnyList limit s g;
  sync = λ s g. sync_good AnyList limit s g;
  start_sync = λ s g. sync_good AnyList limit s g;
  prune = λ log_blob witness_blob l s g. prune_good AnyList limit s g log_blob witness_blob l;
}

-- ---- and so does a run

-- the lists of a state are among those that a run passes from it on
here_passed : (config : Config) (s : State Operation) (cs : List Command) → HasLists (Contains (lists_passed config s cs)) s
here_passed config s [] list has = has
here_passed config s (c ∷ cs) list has = Contains-append_left (lists_here s) (lists_passed config (step config s c).1 cs) list has

-- those that it passes from the next state on are among them
later_passed : (config : Config) (s : State Operation) (c : Command) (cs : List Command) (list : List Operation)
    → Contains (lists_passed config (step config s c).1 cs) list → Contains (lists_passed config s (c ∷ cs)) list
later_passed config s c cs list has = Contains-append_right (lists_here s) (lists_passed config (step config s c).1 cs) list has

run_good : (config : Config) (s : State Operation) (cs : List Command) → IsGoodState AnyList config.value_limit s → IsGoodState AnyList config.value_limit (state_after config s cs)
run_good config s [] g = g
run_good config s (c ∷ cs) g = run_good config (step config s c).1 cs (stay_good_among AnyList config s c (λ list has. tt) g)

-- the state in which a fresh volume is opened is good among any lists that hold its own
fresh_good_among : (among : List Operation → Type 0) (limit : ℕ) → among (plain_commit ∷ []) → IsGoodState among limit fresh_state
fresh_good_among among limit known = record {
  good = good_synced meaning among (Allowed limit) plain_commit (fresh plain_commit) (good_fresh meaning among (Allowed limit) plain_commit known refl tt);
  some = omega arith;
}

pub are_good : RunsAreGood
are_good = record { fresh = λ limit. fresh_good_among AnyList limit tt; runs = run_good }

-- ---- a run on its way

-- a state that a run of all these commands reaches from a first state, with some of them left: it is good among the lists that the run passes, and
-- from it on the run passes no others
pub record IsOnWay (config : Config) (first : State Operation) (all : List Command) (s : State Operation) (left : List Command) : Type 0 where
  pub good : IsGoodState (Contains (lists_passed config first all)) config.value_limit s
  pub known : (list : List Operation) → Contains (lists_passed config s left) list → Contains (lists_passed config first all) list

-- it begins in a good state without batches, whose one list is its own
pub way_begins : (config : Config) (now : State Operation) (all : List Command)
    → IsGoodState AnyList config.value_limit now → now.batches ≡ [] → IsOnWay config now all now all
way_begins config now all g still =
    let among = Contains (lists_passed config now all) in
    let allowed = Allowed config.value_limit in record {
      good = record {
        good = record {
          ops = record {
            begins = g.good.ops.begins;
            stand = (g.good.ops.stand.0, here_passed config now all now.ops (0, omega arith, refl));
            few = g.good.ops.few;
            values = g.good.ops.values;
            floors = g.good.ops.floors;
          };
          log = g.good.log;
          batches = λ b. subst (λ (bs : List (Batch Operation)). IsGoodBatch meaning among allowed plain_commit
              (slice_index_or bs b Gone)) (sym still) tt;
          parents = λ b. subst (λ (bs : List (Batch Operation)). HasParent now b (slice_index_or bs b Gone))
              (sym still) tt;
        };
        some = g.some;
      };
      known = λ list has. has;
    }

module _ (config : Config) (first : State Operation) (all : List Command) (s : State Operation) where
  way_goes : (c : Command) (left : List Command) → IsOnWay config first all s (c ∷ left) → IsOnWay config first all (step config s c).1 left
  way_goes c left way =
      let next : State Operation = (step config s c).1 in
      let later : (list : List Operation) → Contains (lists_passed config next left) list → Contains (lists_passed config first all) list = λ list has. way.known list (later_passed config s c left list has) in
      record {
        good = stay_good_among (Contains (lists_passed config first all)) config s c (λ list has. later list (here_passed config next left list has)) way.good;
        known = later;
      }

  -- the next of the commands
  pub way_next : (i : ℕ) (c : Command) → i < length all → get_or all i c ≡ c → IsOnWay config first all s (drop i all) → IsOnWay config first all (step config s c).1 (drop (i + 1) all)
  way_next i c lt is way = way_goes c (drop (i + 1) all) (subst (IsOnWay config first all s) (drop_more all i c lt ∙ ap (λ (x : Command). x ∷ drop (i + 1) all) is) way)

  -- where nothing clashes, size and root tell the lists of the state
  pub way_told : (left : List Command) → StatesAreTold config.value_limit → HasNoClash config first all → IsOnWay config first all s left → IsTold s
  unfolding HasNoClash
  way_told left law clear way = law (lists_passed config first all) s clear way.good
