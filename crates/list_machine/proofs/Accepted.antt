-- No generated command is refused that a fresh volume begins.
use Rattle.std.proofs.Common.{◌≡◌, ℕ, zero, suc, ◌+◌, ◌-◌, ◌*◌, ◌%◌, ◌^◌, ◌<◌, ◌≤◌, Bool, true, false, cond, List, [], ◌∷◌, ◌++◌, length, take, set, None, refl, sym, ap, subst, ◌∙◌, arith}
use Rattle.std.specs.Prelude.{◌==◌, ◌||◌, nat_lt, nat_le}
use Rattle.std.specs.Int.{w64, to_be_bytes}
use Rattle.std.proofs.Math.Seq.{take-length, take-append_seam}
use Rattle.std.proofs.lemmas.Bool.{le-ltb, lt-leb}
use Rattle.std.proofs.lemmas.List.{length-append, length-set, get_or-set_same, get_or_push}
use Rattle.log_model.specs.StateBatches.{UnsealedBatch, SealedBatch, Unsealed, Sealed, Gone}
use Rattle.log_model.specs.Machine.{State, batch_at, with_batch, begun, applied, pruned}
use Rattle.log_model.specs.Operations.{floor_of}
use Rattle.log_model.specs.Refusals.{commit_refusal}
use Rattle.log_model.proofs.OperationLemmas.{floor_of_append}
use Rattle.log_model.proofs.ReachLemmas.{lists_decide}
use Rattle.op_codec.specs.declared.keyless.Operation.TheVariants as op
use Rattle.command_text.specs.declared.command.Answer.TheVariants as answer
use Rattle.command_text.specs.declared.command.Command.{Command}
use Rattle.command_text.specs.declared.command.Command.TheVariants as command
use Rattle.command_text.specs.declared.command.Reply.{Reply}
use Rattle.list_machine.proofs.Generating.{appends_few}
use Rattle.list_machine.specs.Config.{standard_config}
use Rattle.list_machine.specs.Generator.{draw, appends, appends_in, round_of, next_round, rounds, round_after, first_round, generated, is_refusal, refusals, GeneratedAreAccepted}
use Rattle.list_machine.specs.Operation.{Operation, meaning, one_list, same_operation, operation_decide}
use Rattle.list_machine.specs.Step.{Outcome, step, reply, append_to, seal, apply, release, done_sealing, sealed_or_lost, prune_unless}
use Rattle.list_machine.specs.Trace.{trace, replies_from, state_after, fresh_state}
use Rattle.list_machine.specs.declared.generator.Round.{Round}

-- ---- tests

if_no : {A : Type 0} (b : Bool) (x y : A) → b ≡ false → cond b x y ≡ y
if_no b x y is = rw is refl

if_yes : {A : Type 0} (b : Bool) (x y : A) → b ≡ true → cond b x y ≡ x
if_yes b x y is = rw is refl

-- ---- runs without a refusal

-- none of these commands is refused, and P holds behind them
abbrev Goes : (State Operation → Type 0) → State Operation → List Command → Type 0
Goes P s [] = P s
Goes P s (c ∷ cs) = (is_refusal (step standard_config s c).0 ≡ false) × Goes P (step standard_config s c).1 cs

goes_then : (P Q : State Operation → Type 0) (s : State Operation) (cs ds : List Command) → Goes P s cs
    → ((t : State Operation) → P t → Goes Q t ds) → Goes Q s (cs ++ ds)
goes_then P Q s [] ds p next = next s p
goes_then P Q s (c ∷ cs) ds p next = (p.0, goes_then P Q (step standard_config s c).1 cs ds p.1 next)

goes_weaker : (P Q : State Operation → Type 0) (s : State Operation) (cs : List Command) → Goes P s cs
    → ((t : State Operation) → P t → Q t) → Goes Q s cs
goes_weaker P Q s [] p q = q s p
goes_weaker P Q s (c ∷ cs) p q = (p.0, goes_weaker P Q (step standard_config s c).1 cs p.1 q)

one_more : (r : Reply) (rs : List Reply) → is_refusal r.answer ≡ false → refusals (r ∷ rs) ≡ refusals rs
one_more r rs taken =
    let none : cond {A = ℕ} (is_refusal r.answer) 1 0 ≡ 0 = if_no {A = ℕ} (is_refusal r.answer) 1 0 taken in
    rw none refl

goes_counts : (P : State Operation → Type 0) (s : State Operation) (cs : List Command) → Goes P s cs
    → (refusals (replies_from standard_config s cs) ≡ 0) × P (state_after standard_config s cs)
goes_counts P s [] p = (refl, p)
goes_counts P s (c ∷ cs) p =
    let rest = goes_counts P (step standard_config s c).1 cs p.1 in
    let more = replies_from standard_config (step standard_config s c).1 cs in
    (one_more (reply (step standard_config s c)) more p.0 ∙ rest.0, rest.1)

-- a command with this outcome isn't refused, and P holds behind it and the others
goes_on : (P : State Operation → Type 0) (s : State Operation) (c : Command) (cs : List Command) (o : Outcome)
    → step standard_config s c ≡ o → is_refusal o.0 ≡ false → Goes P o.1 cs → Goes P s (c ∷ cs)
goes_on P s c cs o is taken rest =
    (ap (λ (x : Outcome). is_refusal x.0) is ∙ taken, subst (λ (x : Outcome). Goes P x.1 cs) (sym is) rest)

-- a list is the front of itself, and of a longer one
stands_whole : (ops : List Operation) → (one_list ops (take (length ops) ops) || false) ≡ true
stands_whole ops =
    let same : one_list ops ops ≡ true = (lists_decide same_operation operation_decide ops ops).1 refl in
    rw (take-length ops, same) refl

stands_before : (ops more : List Operation) → (one_list ops (take (length ops) (ops ++ more)) || false) ≡ true
stands_before ops more =
    let same : one_list ops ops ≡ true = (lists_decide same_operation operation_decide ops ops).1 refl in
    rw (take-append_seam ops more, same) refl

-- ---- the commands of a round

-- a batch on the whole list with these appends, and the one that a commit of this floor makes of it
abbrev filled : List Operation → List Operation → UnsealedBatch Operation
filled ops pending = record { parent = None; list = ops; base = length ops; pending = pending }

abbrev closed : List Operation → List Operation → ℕ → ℕ → SealedBatch Operation
closed ops pending floor holds = record {
  parent = None;
  list = ops ++ (pending ++ (op.Commit None floor ∷ []));
  base = length ops;
  boundary = length ops;
  tips = [];
  floor = floor;
  holds = holds;
}

append_taken : (s : State Operation) (b : ℕ) (v : List ℕ) (pending : List Operation)
    → batch_at s b ≡ Unsealed (filled s.ops pending) → length v ≤ 1048576 → length s.ops + length pending < 2 ^ 62
    → step standard_config s (command.Append b v)
    ≡ (answer.Done, with_batch s b (Unsealed (filled s.ops (pending ++ (op.Append v ∷ [])))))
append_taken s b v pending there short few =
    ap (append_to 1048576 s b v) there
    ∙ if_no (nat_lt 1048576 (length v)) _ _ (le-ltb 1048576 (length v) short)
    ∙ if_no (nat_le (2 ^ 62) (length s.ops + length pending)) _ _ (lt-leb (2 ^ 62) _ few)

no_refusal : (size below floor : ℕ) → size + 1 ≤ 2 ^ 62 → below ≤ floor → floor ≤ size
    → commit_refusal true size below floor ≡ None
no_refusal size below floor few rises within =
    if_no (nat_lt (2 ^ 62) (size + 1)) _ _ (le-ltb (2 ^ 62) (size + 1) few)
    ∙ if_no (nat_lt floor below) _ _ (le-ltb floor below rises)
    ∙ if_no (nat_lt size floor) _ _ (le-ltb size floor within)

seal_taken : (s : State Operation) (b floor : ℕ) (pending : List Operation)
    → batch_at s b ≡ Unsealed (filled s.ops pending) → length s.ops + length pending + 1 ≤ 2 ^ 62
    → floor_of meaning s.ops ≤ floor → floor ≤ length s.ops + length pending
    → step standard_config s (command.Seal b None floor) ≡ done_sealing s b (closed s.ops pending floor 1)
seal_taken s b floor pending there few rises within =
    ap (seal 1048576 s b None floor) there
    ∙ ap (λ (stands : Bool). sealed_or_lost s b (filled s.ops pending) None floor
    (commit_refusal stands (length s.ops + length pending) (floor_of meaning s.ops) floor)) (stands_whole s.ops)
    ∙ ap (sealed_or_lost s b (filled s.ops pending) None floor)
    (no_refusal (length s.ops + length pending) (floor_of meaning s.ops) floor few rises within)

apply_taken : (s : State Operation) (b floor : ℕ) (pending : List Operation)
    → batch_at s b ≡ Sealed (closed s.ops pending floor 1)
    → step standard_config s (command.Apply b) ≡ (answer.Applied, applied s (closed s.ops pending floor 1))
apply_taken s b floor pending there =
    ap (apply s b) there
    ∙ if_yes (one_list s.ops (take (length s.ops) (s.ops ++ (pending ++ (op.Commit None floor ∷ [])))) || false) _ _
    (stands_before s.ops (pending ++ (op.Commit None floor ∷ [])))

release_taken : (s : State Operation) (b floor : ℕ) (ops pending : List Operation)
    → batch_at s b ≡ Sealed (closed ops pending floor 1)
    → step standard_config s (command.Release b)
    ≡ (answer.Done, with_batch s b (Sealed (closed ops pending floor 0)))
release_taken s b floor ops pending there = ap (release s b) there

prune_taken : (s : State Operation) (l : ℕ) → l ≤ floor_of meaning s.ops
    → step standard_config s (command.Prune l) ≡ (answer.Pruned (pruned 64 64 s l).start, pruned 64 64 s l)
prune_taken s l within =
    ap (prune_unless 64 64 s l)
    (if_no (nat_lt (floor_of meaning s.ops) l) _ _ (le-ltb (floor_of meaning s.ops) l within))

-- ---- states of a round

-- a round may begin here
record Between (r : Round) (s : State Operation) : Type 0 where
  number : length s.batches ≡ r.number
  size : length s.ops ≡ r.size
  floor : floor_of meaning s.ops ≤ r.size - 1
  some : 1 ≤ r.size

-- its batch has so many appends
record Filling (r : Round) (k : ℕ) (s : State Operation) : Type 0 where
  number : length s.batches ≡ r.number + 1
  size : length s.ops ≡ r.size
  floor : floor_of meaning s.ops ≤ r.size - 1
  some : 1 ≤ r.size
  pending : List Operation
  there : batch_at s r.number ≡ Unsealed (filled s.ops pending)
  count : length pending ≡ k

-- its batch was applied, and its commit's floor is the last one
record Behind (r : Round) (size : ℕ) (s : State Operation) : Type 0 where
  number : length s.batches ≡ r.number + 1
  size_is : length s.ops ≡ size
  floor : floor_of meaning s.ops ≡ r.size - 1

-- the batch is begun
begun_here : (r : Round) (s : State Operation) → Between r s → Filling r 0 (begun s None s.ops)
begun_here r s is = record {
  number = let l = length-append s.batches (Unsealed (filled s.ops []) ∷ []) in omega (arith, l, is.number);
  size = is.size;
  floor = is.floor;
  some = is.some;
  pending = [];
  there = get_or_push s.batches (Unsealed (filled s.ops [])) Gone r.number is.number;
  count = refl;
}

-- the appends
filling : (r : Round) (n k x : ℕ) (s : State Operation) → Filling r k s → r.size + k + n < 2 ^ 62
    → Goes (Filling r (k + n)) s (appends r.number n x)
unfolding is_refusal
filling r zero k x s is few = let e : k ≡ k + 0 = omega arith in subst (λ (m : ℕ). Filling r m s) e is
filling r (suc n) k x s is few =
    let v : List ℕ = to_be_bytes w64 (draw x) in
    let here = is.there in
    let taken = append_taken s r.number v is.pending here (omega arith) (omega (arith, is.size, is.count)) in
    let next : List Operation = is.pending ++ (op.Append v ∷ []) in
    let now : State Operation = with_batch s r.number (Unsealed (filled s.ops next)) in
    let more : Filling r (k + 1) now = record {
      number = length-set s.batches r.number (Unsealed (filled s.ops next)) ∙ is.number;
      size = is.size;
      floor = is.floor;
      some = is.some;
      pending = next;
      there = get_or-set_same s.batches r.number (Unsealed (filled s.ops next)) Gone (omega (arith, is.number));
      count = let l = length-append is.pending (op.Append v ∷ []) in omega (arith, l, is.count);
    } in
    let e : k + 1 + n ≡ k + suc n = omega arith in
    goes_on (Filling r (k + suc n)) s (command.Append r.number v) (appends r.number n (draw x)) _ taken refl
    (subst (λ (m : ℕ). Goes (Filling r m) now (appends r.number n (draw x))) e
    (filling r n (k + 1) (draw x) now more (omega arith)))

-- the floor of what a commit ends
floor_closed : (ops pending : List Operation) (floor : ℕ)
    → floor_of meaning (ops ++ (pending ++ (op.Commit None floor ∷ []))) ≡ floor
floor_closed ops pending floor =
    let l = length-append pending (op.Commit None floor ∷ []) in
    floor_of_append meaning ops (pending ++ (op.Commit None floor ∷ [])) (omega (arith, l))
    ∙ floor_of_append meaning pending (op.Commit None floor ∷ []) (omega arith)

-- the seal, the apply and the release
closing : (r : Round) (k : ℕ) (s : State Operation) → Filling r k s → r.size + k + 1 ≤ 2 ^ 62
    → Goes (Behind r (r.size + k + 1)) s
    (command.Seal r.number None (r.size - 1) ∷ command.Apply r.number ∷ command.Release r.number ∷ [])
unfolding is_refusal
closing r k s is few =
    let b : ℕ = r.number in
    let f : ℕ = r.size - 1 in
    let within : b < length s.batches = omega (arith, is.number) in
    let sealing = seal_taken s b f is.pending is.there (omega (arith, is.size, is.count)) is.floor
    (omega (arith, is.size)) in
    let c : SealedBatch Operation = closed s.ops is.pending f 1 in
    let s1 : State Operation = with_batch s b (Sealed c) in
    let applying = apply_taken s1 b f is.pending (get_or-set_same s.batches b (Sealed c) Gone within) in
    let s2 : State Operation = applied s1 c in
    let releasing = release_taken s2 b f s.ops is.pending (get_or-set_same s.batches b (Sealed c) Gone within) in
    let l = length-append s.ops (is.pending ++ (op.Commit None f ∷ [])) in
    let m = length-append is.pending (op.Commit None f ∷ []) in
    let P : State Operation → Type 0 = Behind r (r.size + k + 1) in
    goes_on P s (command.Seal b None f) (command.Apply b ∷ command.Release b ∷ []) _ sealing refl
    (goes_on P s1 (command.Apply b) (command.Release b ∷ []) _ applying refl
    (goes_on P s2 (command.Release b) [] _ releasing refl (record {
      number = length-set (set s.batches b (Sealed c)) b (Sealed (closed s.ops is.pending f 0))
          ∙ length-set s.batches b (Sealed c) ∙ is.number;
      size_is = omega (arith, l, m, is.size, is.count);
      floor = floor_closed s.ops is.pending f;
    })))

-- the commit
committing : (r : Round) (size : ℕ) (s : State Operation) (b : Bool) → Behind r size s
    → Goes (Behind r size) s (cond b (command.Commit ∷ []) [])
unfolding is_refusal
committing r size s true is = (refl, record { number = is.number; size_is = is.size_is; floor = is.floor })
committing r size s false is = is

-- the prune
pruning : (r : Round) (size : ℕ) (s : State Operation) (b : Bool) → Behind r size s
    → Goes (Behind r size) s (cond b (command.Prune (r.size - 1) ∷ []) [])
unfolding is_refusal
pruning r size s true is =
    goes_on (Behind r size) s (command.Prune (r.size - 1)) [] _ (prune_taken s (r.size - 1) (omega (arith, is.floor)))
    refl (record { number = is.number; size_is = is.size_is; floor = is.floor })
pruning r size s false is = is

-- a whole round
round_goes : (r : Round) (s : State Operation) → Between r s → r.size + appends_in r + 1 ≤ 2 ^ 62
    → Goes (Between (next_round r)) s (round_of r)
unfolding is_refusal
round_goes r s is few =
    let k : ℕ = appends_in r in
    let size : ℕ = r.size + k + 1 in
    let keep : List Command = cond ((r.number + 1) % 8 == 0) (command.Commit ∷ []) [] in
    let none_before : 0 + k ≡ k = omega arith in
    let give : List Command = cond ((r.number + 1) % 32 == 0) (command.Prune (r.size - 1) ∷ []) [] in (
      refl,
      goes_then (Filling r k) (Between (next_round r)) (begun s None s.ops) (appends r.number k (draw r.drawn))
          (command.Seal r.number None (r.size - 1) ∷ command.Apply r.number ∷ command.Release r.number ∷ (keep ++ give))
          (subst (λ (m : ℕ). Goes (Filling r m) (begun s None s.ops) (appends r.number k (draw r.drawn))) none_before
          (filling r k 0 (draw r.drawn) (begun s None s.ops) (begun_here r s is) (omega arith)))
          (λ t filled_here. goes_then (Behind r size) (Between (next_round r)) t
          (command.Seal r.number None (r.size - 1) ∷ command.Apply r.number ∷ command.Release r.number ∷ [])
          (keep ++ give)
          (closing r k t filled_here few)
          (λ u behind. goes_then (Behind r size) (Between (next_round r)) u keep give (committing r size u _ behind)
          (λ v kept. goes_weaker (Behind r size) (Between (next_round r)) v give (pruning r size v _ kept)
          (λ w last. record {
            number = last.number;
            size = last.size_is;
            floor = omega (arith, last.floor);
            some = omega arith;
          })))),
    )

-- ---- the rounds

rounds_go : (n : ℕ) (r : Round) (s : State Operation) → Between r s → r.size + 17 * n ≤ 2 ^ 61
    → Goes (Between (round_after n r)) s (rounds n r)
rounds_go zero r s is few = is
rounds_go (suc n) r s is few =
    let most = appends_few r in
    goes_then (Between (next_round r)) (Between (round_after n (next_round r))) s (round_of r) (rounds n (next_round r))
    (round_goes r s is (omega arith)) (λ t next. rounds_go n (next_round r) t next (omega arith))

first_between : (x : ℕ) → Between (first_round x) fresh_state
first_between x = record { number = refl; size = refl; floor = omega arith; some = omega arith }

pub all_accepted : GeneratedAreAccepted
unfolding trace is_refusal
all_accepted x n few =
    let goes = rounds_go n (first_round x) fresh_state (first_between x) (omega arith) in
    let counts = goes_counts (Between (round_after n (first_round x))) fresh_state (generated x n) goes in record {
      accepted = counts.0;
      size = counts.1.size;
    }
