-- What the handlers of commands answer.
use Rattle.std.proofs.Common.{◌≡◌, ℕ, ◌+◌, ◌-◌, ◌^◌, ◌<◌, ◌≤◌, Bool, true, false, cond, ◌||◌, List, [], ◌∷◌, ◌++◌, length, take, drop, get_or, set, Option, Some, None, refl, sym, ◌∙◌, ap, subst, arith}
use Rattle.std.specs.Prelude.{nat_lt, Contains, Result, Ok, Err, is_ok, is_err}
use Rattle.std.specs.Bool.{Decides, one_answer}
use Rattle.std.specs.List.{list_any}
use Rattle.std.specs.Option.{option_map, ForSome}
use Rattle.std.proofs.lemmas.List.{take-append-drop}
use Rattle.std.proofs.lemmas.Bool.Decides.{nat_tests}
use Rattle.std.proofs.lemmas.List.{set-get_or, get_or_past}
use Rattle.std.proofs.lemmas.Option.{none-some, same_Some, cond_some}
use Rattle.chain_core.specs.Slots as slots
use Rattle.chain_core.specs.Slots.{holds_of, IsAlive, link_held, link_released}
use Rattle.chain_core.specs.Reached.{item_at}
use Rattle.chain_core.specs.States.{sizes}
use Rattle.chain_core.specs.declared.bounds.Bounds.{Bounds}
use Rattle.chain_core.specs.declared.commitment.Commitment.{Commitment}
use Rattle.chain_core.specs.declared.pool.HeldBatch.{HeldBatch}
use Rattle.tree_shape.specs.declared.mmr.Mmr.{Mmr}
use Rattle.tree_shape.specs.declared.sha256.Sha256Digest.{Sha256Digest}
use Rattle.log_model.specs.StateBatches as batches
use Rattle.log_model.specs.StateBatches.{is_held, begun_on}
use Rattle.log_model.specs.Machine.{State, SameTest, batch_at, begun, applied, with_batch, max_leaves, stands_at}
use Rattle.log_model.specs.Operations.{floor_of}
use Rattle.log_model.specs.Reach.{stands_on, may_apply}
use Rattle.log_model.proofs.ReachLemmas.{lists_decide}
use Rattle.op_codec.specs.declared.keyless.Operation.TheVariants.{Append}
use Rattle.command_text.specs.declared.command.Answer.{Answer}
use Rattle.command_text.specs.declared.command.Answer.TheVariants as answer
use Rattle.log_model.specs.declared.refusal.Refusal.TheVariants.{NoBatch, ValueTooLong, StaleBatch, LocationOverflow}
use Rattle.volume_base.specs.Moments.{Image}
use Rattle.chain_core.proofs.PoolLemmas.{some_held, alive_is, put_new}
use Rattle.chain_core.specs.MarkedPool.{IsMarkedAt}
use Rattle.chain_core.specs.Marks.{marks_of}
use Rattle.chain_core.proofs.MarkedPoolLemmas.{marked_alone}
use Rattle.list_machine.specs.Operation.{Operation, meaning, one_list, same_operation, operation_decide}
use Rattle.list_machine.specs.Commitments.{same_state, AreBounds}
use Rattle.list_machine.specs.Told.{IsTold}
use Rattle.list_machine.specs.Step.{Outcome, refused, refusal_in, metadata_length, sealed_or_lost, seal_refusal, begin, begin_on, append_to, seal, apply, hold, release, snapshot, size, metadata}
use Rattle.twin_batches.specs.Kind.{Kind, Kept, kept_of, with_list, size_of, snapshot_of}
use Rattle.twin_batches.specs.StateOf.{HaveMarks, Likeness, LinkIs, IsUnsealedOf, IsItemOf, IsSealedOf, IsEntryOf, AreBatchesOf, AreFew, HasRoom, if_held, held_in, IsSealedAs, IsUnsealedAs, same_lists, any_lists, IsShaped, IsStateOf, Meets, AnyState, Follows, Answers, Takes}
use Rattle.twin_batches.specs.declared.numbers.Batch.{Batch}
use Rattle.twin_batches.specs.declared.numbers.Batch.TheVariants.{Unsealed, Sealed, Gone}
use Rattle.twin_batches.specs.declared.numbers.Holding.{Holding}
use Rattle.twin_batches.specs.declared.numbers.Numbers.{Numbers}
use Rattle.twin_batches.proofs.Fronts.{lt_false, lt_true, le_false, le_true, stands_decides}
use Rattle.twin_batches.proofs.Matching.{not_both, sealed_within, unsealed_within, unsealed_there, sealed_there, parent_held}
use Rattle.twin_batches.proofs.Marking.{parent_drawn, marks_none, marks_first, marks_child, marks_appended, marks_held, marks_released, marks_taken}
use Rattle.twin_batches.proofs.Changes.{pool_holds, batches_put, batches_lost, batches_appended, batches_begun, batches_added, batches_held, batches_released, few_held, few_released, few_put}

pub same_sealed : (c d : batches.SealedBatch Operation) → batches.Sealed c ≡ batches.Sealed d → c ≡ d
same_sealed c d e = cc

pub same_machine : (u v : batches.UnsealedBatch Operation) → batches.Unsealed u ≡ batches.Unsealed v → u ≡ v
same_machine u v e = cc

never_gone : {U : Type 0} (u : U) → Gone ≡ Unsealed u → ⊥
never_gone u e = cc

-- a batch that is put in its own place
pub set_same : {U : Type 0} (bs : List (Batch U)) (b : ℕ) (x : Batch U) → get_or bs b Gone ≡ x → set bs b x ≡ bs
set_same bs b x e = ap (set bs b) (sym e) ∙ set-get_or bs b Gone

-- ---- where the present list stands

pub stands_same : (one : SameTest Operation) (s : State Operation) (xs ys : List Operation) (m n : ℕ) (ms ns : List ℕ) → xs ≡ ys → m ≡ n → ms ≡ ns → stands_on one s xs m ms ≡ stands_on one s ys n ns
stands_same one s xs ys m n ms ns e f g = rw (e, f, g) refl

-- a list that stands at a front of another begins it
begins_there : (s : State Operation) (list : List Operation) (n : ℕ) → stands_at one_list s list n ≡ true → (more : List Operation) × (list ≡ s.ops ++ more)
begins_there s list n e =
    let same : s.ops ≡ take n list = (lists_decide same_operation operation_decide s.ops (take n list)).0 e in
    (drop n list, sym (ap (λ (xs : List Operation). xs ++ drop n list) same ∙ take-append-drop n list))

begins_any : (s : State Operation) (list : List Operation) (ns : List ℕ) → list_any (stands_at one_list s list) ns ≡ true → (more : List Operation) × (list ≡ s.ops ++ more)
begins_any s list [] e = absurd (cc)
begins_any s list (n ∷ ns) e = either (stands_at one_list s list n) (list_any (stands_at one_list s list) ns) e (λ here. begins_there s list n here) (λ rest. begins_any s list ns rest)
  where
    either : {P : Type 0} (a b : Bool) → (a || b) ≡ true → (a ≡ true → P) → (b ≡ true → P) → P
    either true b e f g = f refl
    either false b e f g = g e

pub begins_where : (s : State Operation) (list : List Operation) (n : ℕ) (ns : List ℕ) → stands_on one_list s list n ns ≡ true → (more : List Operation) × (list ≡ s.ops ++ more)
begins_where s list n ns e = begins_any s list (n ∷ ns) e

-- ---- batches that the caller holds

pub held_some : {U : Type 0} (x : Batch U) (k : Holding) → if_held x ≡ Some k → (x ≡ Sealed k) × (0 < k.holds)
held_some (Unsealed u) k e = absurd (none-some k e)
held_some (Sealed j) k e =
    let t = cond_some (nat_lt 0 j.holds) j k e in
    let some : 0 < j.holds = lt_is j.holds t.0 in
    (ap Sealed t.1, subst (λ (i : Holding). 0 < i.holds) t.1 some)
  where
    lt_is : (n : ℕ) → nat_lt 0 n ≡ true → 0 < n
    lt_is n e = grind (arith, nat_tests)
held_some Gone k e = absurd (none-some k e)

-- it isn't held, if it is sealed
abbrev pub IsUnheld : batches.Batch Operation → Type 0
IsUnheld (batches.Unsealed w) = Unit {0}
IsUnheld (batches.Sealed c) = is_held c ≡ false
IsUnheld batches.Gone = Unit {0}

module _ (s : State Operation) (b : ℕ) where
  pub begin_unheld : (y : batches.Batch Operation) → IsUnheld y → begin_on s b y ≡ refused s (NoBatch b)
  begin_unheld (batches.Unsealed w) e = refl
  begin_unheld (batches.Sealed c) e = rw e refl
  begin_unheld batches.Gone e = refl

  pub apply_unheld : (y : batches.Batch Operation) → IsUnheld y → apply s b y ≡ refused s (NoBatch b)
  apply_unheld (batches.Unsealed w) e = refl
  apply_unheld (batches.Sealed c) e = rw e refl
  apply_unheld batches.Gone e = refl

  pub hold_unheld : (y : batches.Batch Operation) → IsUnheld y → hold s b y ≡ refused s (NoBatch b)
  hold_unheld (batches.Unsealed w) e = refl
  hold_unheld (batches.Sealed c) e = rw e refl
  hold_unheld batches.Gone e = refl

  module _ (c : batches.SealedBatch Operation) (held : is_held c ≡ true) where
    pub begin_held : begin_on s b (batches.Sealed c) ≡ (answer.Batch (length s.batches), begun s (Some b) c.list)
    begin_held = rw held refl

    pub apply_stale : may_apply one_list s c ≡ false → apply s b (batches.Sealed c) ≡ refused s StaleBatch
    apply_stale stale = rw (held, stale) refl

    pub apply_done : may_apply one_list s c ≡ true → apply s b (batches.Sealed c) ≡ (answer.Applied, applied s c)
    apply_done stands = rw (held, stands) refl

    pub hold_done : hold s b (batches.Sealed c) ≡ (answer.Done, with_batch s b (batches.Sealed (batches.with_hold c)))
    hold_done = rw held refl

    pub release_done : release s b (batches.Sealed c) ≡ (answer.Done, with_batch s b (batches.Sealed (batches.without_hold c)))
    release_done = rw held refl

  pub release_unheld : (c : batches.SealedBatch Operation) → is_held c ≡ false → release s b (batches.Sealed c) ≡ refused s (NoBatch b)
  release_unheld c e = rw e refl

  -- ---- an unsealed batch

  pub append_sealed : (limit : ℕ) (v : List ℕ) (y : batches.Batch Operation) → ((w : batches.UnsealedBatch Operation) → y ≡ batches.Unsealed w → ⊥) → append_to limit s b v y ≡ refused s (NoBatch b)
  append_sealed limit v (batches.Unsealed w) not = absurd (not w refl)
  append_sealed limit v (batches.Sealed c) not = refl
  append_sealed limit v batches.Gone not = refl

  pub seal_sealed : (limit : ℕ) (metadata : Option (List ℕ)) (floor : ℕ) (y : batches.Batch Operation) → ((w : batches.UnsealedBatch Operation) → y ≡ batches.Unsealed w → ⊥) → seal limit s b metadata floor y ≡ refused s (NoBatch b)
  seal_sealed limit metadata floor (batches.Unsealed w) not = absurd (not w refl)
  seal_sealed limit metadata floor (batches.Sealed c) not = refl
  seal_sealed limit metadata floor batches.Gone not = refl

  module _ (w : batches.UnsealedBatch Operation) where
    pub append_long : (limit : ℕ) (v : List ℕ) → limit < length v → append_to limit s b v (batches.Unsealed w) ≡ refused s (ValueTooLong (length v))
    append_long limit v long = rw (lt_true limit (length v) long) refl

    pub append_full : (limit : ℕ) (v : List ℕ) → length v ≤ limit → max_leaves ≤ batches.size_of w → append_to limit s b v (batches.Unsealed w) ≡ refused s (LocationOverflow (batches.size_of w + 1))
    append_full limit v short full = rw (lt_false limit (length v) short, le_true max_leaves (batches.size_of w) full) refl

    pub append_done : (limit : ℕ) (v : List ℕ) → length v ≤ limit → batches.size_of w < max_leaves → append_to limit s b v (batches.Unsealed w) ≡ (answer.Done, with_batch s b (batches.Unsealed (batches.appended w (Append v))))
    append_done limit v short few = rw (lt_false limit (length v) short, le_false max_leaves (batches.size_of w) few) refl

    pub seal_long : (limit : ℕ) (metadata : Option (List ℕ)) (floor : ℕ) → limit < metadata_length metadata → seal limit s b metadata floor (batches.Unsealed w) ≡ refused s (ValueTooLong (metadata_length metadata))
    seal_long limit metadata floor long = rw (lt_true limit (metadata_length metadata) long) refl

    pub seal_short : (limit : ℕ) (metadata : Option (List ℕ)) (floor : ℕ) → metadata_length metadata ≤ limit → seal limit s b metadata floor (batches.Unsealed w) ≡ sealed_or_lost s b w metadata floor (seal_refusal s w floor)
    seal_short limit metadata floor short = rw (lt_false limit (metadata_length metadata) short) refl

-- ---- results

pub not_ok : {A E : Type 0} (r : Result A E) (t : Bool) → t ≡ is_err r → t ≡ true → is_ok r ≡ false
not_ok (Ok x) t e f = absurd (let never : false ≡ true = sym e ∙ f in cc)
not_ok (Err x) t e f = refl

pub yes_ok : {A E : Type 0} (r : Result A E) (t : Bool) → t ≡ is_err r → t ≡ false → is_ok r ≡ true
yes_ok (Ok x) t e f = refl
yes_ok (Err x) t e f = absurd (let never : true ≡ false = sym e ∙ f in cc)

-- ---- entries

module _ {S U : Type 0} (like : Likeness S U) (bs : List (Batch U)) (pool : List (Option (HeldBatch S))) (all : List (batches.Batch Operation)) where
  holds_none : (j : Holding) (t : Bool) → nat_lt 0 j.holds ≡ t → cond (nat_lt 0 j.holds) (Some j) None ≡ None → nat_lt 0 j.holds ≡ false
  holds_none j true e h = absurd (none-some j (sym (rw e at h)))
  holds_none j false e h = e

  pub entry_unheld : (b : ℕ) (x : Batch U) (y : batches.Batch Operation) → IsEntryOf like bs pool all b x y → if_held x ≡ None → IsUnheld y
  entry_unheld b x (batches.Unsealed w) i e = tt
  entry_unheld b (Unsealed u) (batches.Sealed c) i e = absurd i
  entry_unheld b (Sealed j) (batches.Sealed c) i e = rw i.holds (holds_none j (nat_lt 0 j.holds) refl e)
  entry_unheld b Gone (batches.Sealed c) i e = absurd i
  entry_unheld b x batches.Gone i e = tt

  -- where it isn't unsealed, neither is the list machine's
  pub entry_sealed : (b : ℕ) (x : Batch U) (y : batches.Batch Operation) → IsEntryOf like bs pool all b x y → ((u : U) → x ≡ Unsealed u → ⊥) → (w : batches.UnsealedBatch Operation) → y ≡ batches.Unsealed w → ⊥
  entry_sealed b (Unsealed u) y i not w e = not u refl
  entry_sealed b (Sealed j) (batches.Unsealed v) i not w e = i
  entry_sealed b (Sealed j) (batches.Sealed c) i not w e = cc
  entry_sealed b (Sealed j) batches.Gone i not w e = cc
  entry_sealed b Gone (batches.Unsealed v) i not w e = i
  entry_sealed b Gone (batches.Sealed c) i not w e = cc
  entry_sealed b Gone batches.Gone i not w e = cc

  -- not sealed, where it isn't in memory
  pub entry_gone : (b : ℕ) (y : batches.Batch Operation) → IsEntryOf like bs pool all b Gone y → y ≡ batches.Gone
  entry_gone b (batches.Unsealed w) i = absurd i
  entry_gone b (batches.Sealed c) i = absurd i
  entry_gone b batches.Gone i = refl

  -- a sealed batch that the caller holds
  pub record Held (b : ℕ) (j : Holding) : Type 0 where
    pub batch : batches.SealedBatch Operation
    pub sealed : get_or bs b Gone ≡ Sealed j
    pub some : 0 < j.holds
    pub machine : get_or all b batches.Gone ≡ batches.Sealed batch
    pub is : IsSealedOf like bs pool all b j batch
    pub held : is_held batch ≡ true
    pub pool_held : 0 < holds_of pool j.id

  module _ (is : AreBatchesOf like bs pool all) (b : ℕ) where
    pub held_at : (j : Holding) → get_or bs b Gone ≡ Sealed j → 0 < j.holds → Held b j
    held_at j sealed some =
        let c = sealed_there like bs pool all is b j sealed in record {
          batch = c.0;
          sealed = sealed;
          some = some;
          machine = c.1;
          is = c.2;
          held = let n = c.2.holds in lt_true 0 c.0.holds (omega (arith, n, some));
          pool_held = pool_holds like bs pool all is b j sealed c.0 c.1 c.2 some;
        }

    pub held_there : (j : Holding) → held_in bs b ≡ Some j → Held b j
    held_there j e = let t = held_some (get_or bs b Gone) j e in held_at j t.0 t.1

    pub unheld_there : held_in bs b ≡ None → IsUnheld (get_or all b batches.Gone)
    unheld_there e = entry_unheld b (get_or bs b Gone) (get_or all b batches.Gone) (is.each b) e

    pub gone_past : length bs ≤ b → get_or all b batches.Gone ≡ batches.Gone
    gone_past past = get_or_past all b batches.Gone (let n = is.count in omega (arith, n, past))

    -- it is alive in the pool
    module _ (j : Holding) (t : Held b j) where
      pub held_alive : IsAlive pool j.id
      held_alive = let e = some_held pool j.id t.pool_held in alive_is (slots.slot_at pool j.id) e.0 e.1

      pub held_item : (e : HeldBatch S) × (slots.slot_at pool j.id ≡ Some e) × IsItemOf like bs b e t.batch
      held_item = let e = some_held pool j.id t.pool_held in (e.0, e.1, t.is.item e.0 e.1)

      pub item_is : (e : HeldBatch S) → slots.slot_at pool j.id ≡ Some e → item_at pool j.id ≡ Some e.item
      item_is e there = ap (option_map (λ (b : HeldBatch S). b.item)) there

-- ---- a side

module _ {Db S U : Type 0} (k : Kind Db S U) where
  pub shape_from : (n : Numbers S U) (bs : List (Batch U)) (pool : List (Option (HeldBatch S))) (taken : ℕ) (all : List (batches.Batch Operation)) → n.batches.items ≡ bs → n.pool ≡ pool → n.taken ≡ taken
      → AreBatchesOf (any_lists k) bs pool all → AreFew taken pool → IsShaped k n
  shape_from n bs pool taken all e f g is few = record {
    all = all;
    batches = subst (λ (xs : List (Batch U)). AreBatchesOf (any_lists k) xs n.pool all) (sym e) (subst (λ (p : List (Option (HeldBatch S))). AreBatchesOf (any_lists k) bs p all) (sym f) is);
    few = subst (λ (p : List (Option (HeldBatch S))). AreFew n.taken p) (sym f) (subst (λ (t : ℕ). AreFew t pool) (sym g) few);
  }

  pub state_from : (image : Image) (db : Db) (n : Numbers S U) (s : State Operation) (bs : List (Batch U)) (pool : List (Option (HeldBatch S))) → n.batches.items ≡ bs → n.pool ≡ pool → k.is_of (kept_of s) image db
      → AreBatchesOf (same_lists k) bs pool s.batches → HaveMarks k bs pool → IsStateOf k image db n s
  state_from image db n s bs pool e f log is marks = record {
    log = log;
    batches = subst (λ (xs : List (Batch U)). AreBatchesOf (same_lists k) xs n.pool s.batches) (sym e) (subst (λ (p : List (Option (HeldBatch S))). AreBatchesOf (same_lists k) bs p s.batches) (sym f) is);
    marks = subst (λ (xs : List (Batch U)). HaveMarks k xs n.pool) (sym e) (subst (λ (p : List (Option (HeldBatch S))). HaveMarks k bs p) (sym f) marks);
  }

  pub meets : (image : Image) (db : Db) (new : Numbers S U) (o p : Outcome) (a : Answer) → o ≡ p → a ≡ p.0 → IsStateOf k image db new p.1 → Meets k o image db new a
  meets image db new o p a e same is = subst (λ (q : Outcome). Meets k q image db new a) (sym e) (same, is)

  pub size_is : (u : U) (w : batches.UnsealedBatch Operation) → IsUnsealedAs k u w → size_of k u ≡ batches.size_of w
  size_is u w is =
      let base = ap (λ (d : Commitment Mmr Sha256Digest). d.size) (k.base_is w.list u is.list) in
      let same = is.base in
      let own = ap length is.pending in
      omega (arith, base, same, own)

  pub size_answer : (image : Image) (db : Db) (n : Numbers S U) (s : State Operation) → IsStateOf k image db n s → (length s.ops ≡ (k.state db).size) × (floor_of meaning s.ops ≡ k.floor db)
  size_answer image db n s is = (sym (ap (λ (d : Commitment Mmr Sha256Digest). d.size) (k.state_is (kept_of s) image db is.log)), sym (k.floor_is (kept_of s) image db is.log))

  -- what answers over any contents goes on over these, as a step that is the same
  pub answers_here : (of : State Operation → Type 0) (f step : State Operation → Outcome) (db made : Db) (old new : Numbers S U) (a : Answer) → Answers k of f db old new a → ((s : State Operation) → IsTold s → of s)
      → ((s : State Operation) → step s ≡ f s) → made ≡ db → (image : Image) → Follows k IsTold step image image db made old new a
  answers_here of f step db made old new a answers told same kept image = record {
    shaped = (answers image).shaped;
    follows = λ s by is.
        subst (λ (o : Outcome). Meets k o image made new a) (sym (same s))
        (subst (λ (d : Db). Meets k (f s) image d new a) (sym kept) ((answers image).follows s (told s by) is));
  }

  module _ (db : Db) (old : Numbers S U) (sh : IsShaped k old) (new : Numbers S U) (taken : new.taken ≡ old.taken) where
    abbrev Old : List (Batch U)
    Old = old.batches.items

    drawn_in : (image : Image) (s : State Operation) → IsStateOf k image db old s → (b : ℕ) (u : U) → get_or Old b Gone ≡ Unsealed u → ForSome (k.parent u) (λ p. p < length old.pool)
    drawn_in image s is b u at = parent_drawn (same_lists k) Old old.pool s.batches is.batches b u at

    -- ---- nothing changes

    module _ (items : new.batches.items ≡ Old) (pool : new.pool ≡ old.pool) where
      still : IsShaped k new
      still = shape_from new Old old.pool old.taken sh.all items pool taken sh.batches sh.few

      still_state : (image : Image) (s : State Operation) → IsStateOf k image db old s → IsStateOf k image db new s
      still_state image s is = state_from image db new s Old old.pool items pool is.log is.batches is.marks

      pub stays : (of : State Operation → Type 0) (step : State Operation → Outcome) (a : Answer) → ((image : Image) (s : State Operation) → of s → IsStateOf k image db old s → step s ≡ (a, s)) → Answers k of step db old new a
      stays of step a e = λ image. record { shaped = still; follows = λ s in_these is. meets image db new (step s) (a, s) a (e image s in_these is) refl (still_state image s is) }

    -- ---- a new batch

    module _ (room : HasRoom old) (u : U) (items : new.batches.items ≡ Old ++ (Unsealed u ∷ [])) (pending : k.pending u ≡ []) where
      begun_few : (link : Option ℕ) → ForSome link (λ id. 0 < holds_of old.pool id) → AreFew old.taken (link_held old.pool link)
      begun_few link held = few_held old.taken old.pool sh.few room.holds link held

      -- on the present list
      module _ (parent : k.parent u ≡ None) (pool : new.pool ≡ old.pool) (list : (kept : Kept) (image : Image) → k.is_of kept image db → k.is_unsealed kept.ops u) (marked : k.is_marked [] u) where
        none_held : ForSome (k.parent u) (λ id. 0 < holds_of old.pool id)
        none_held = λ id e. absurd (none-some id (sym parent ∙ e))

        none_pool : link_held old.pool (k.parent u) ≡ old.pool
        none_pool = ap (link_held old.pool) parent

        none_link : LinkIs Old (length Old) (k.parent u) None
        none_link = subst (λ (l : Option ℕ). LinkIs Old (length Old) l None) (sym parent) tt

        pub begun_here : Answers k AnyState (λ s. begin s None) db old new (answer.Batch (length Old))
        begun_here = λ image. record {
          shaped =
              let made = batches_begun (any_lists k) Old old.pool sh.all sh.batches u (begun_on None []) tt none_link none_held in
              shape_from new (Old ++ (Unsealed u ∷ [])) (link_held old.pool (k.parent u)) old.taken _ items (pool ∙ sym none_pool) taken made (begun_few (k.parent u) none_held);
          follows = λ s any is.
              let w : batches.UnsealedBatch Operation = begun_on None s.ops in
              let made = batches_begun (same_lists k) Old old.pool s.batches is.batches u w (record { list = list (kept_of s) image is.log; base = refl; pending = sym pending }) none_link none_held in (
                ap answer.Batch (sym is.batches.count),
                state_from image db new (begun s None s.ops) (Old ++ (Unsealed u ∷ [])) (link_held old.pool (k.parent u)) items (pool ∙ sym none_pool) is.log made
                    (marks_first k Old old.pool is.marks (drawn_in image s is) u parent marked),
              );
        }

      -- on a sealed batch
      module _ (p : ℕ) (j : Holding) (at : held_in Old p ≡ Some j) (parent : k.parent u ≡ Some j.id) (pool : new.pool ≡ link_held old.pool (Some j.id))
          (list : (x : S) → item_at old.pool j.id ≡ Some x → (l : List Operation) → k.is_sealed l x → k.is_unsealed l u)
          (marked : (x : S) → item_at old.pool j.id ≡ Some x → (l : List Operation) → k.is_sealed l x → k.is_marked (marks_of (k.bounds x)) u) where
        some_link : LinkIs Old (length Old) (k.parent u) (Some p)
        some_link = let sealed = (held_some (get_or Old p Gone) j at).0 in
            subst (λ (l : Option ℕ). LinkIs Old (length Old) l (Some p)) (sym parent) (sealed_within Old p j sealed, record { holding = j; sealed = sealed; id_is = refl })

        some_pool : new.pool ≡ link_held old.pool (k.parent u)
        some_pool = pool ∙ ap (link_held old.pool) (sym parent)

        some_parent : 0 < holds_of old.pool j.id → ForSome (k.parent u) (λ id. 0 < holds_of old.pool id)
        some_parent held = λ id e. subst (λ i. 0 < holds_of old.pool i) (same_Some j.id id (sym parent ∙ e)) held

        pub begun_on_batch : Answers k AnyState (λ s. begin s (Some p)) db old new (answer.Batch (length Old))
        begun_on_batch = λ image. record {
          shaped =
              let t = held_there (any_lists k) Old old.pool sh.all sh.batches p j at in
              let held = some_parent t.pool_held in
              let made = batches_begun (any_lists k) Old old.pool sh.all sh.batches u (begun_on (Some p) []) tt some_link held in
              shape_from new (Old ++ (Unsealed u ∷ [])) (link_held old.pool (k.parent u)) old.taken _ items some_pool taken made (begun_few (k.parent u) held);
          follows = λ s any is.
              let t = held_there (same_lists k) Old old.pool s.batches is.batches p j at in
              let e = held_item (same_lists k) Old old.pool s.batches is.batches p j t in
              let w : batches.UnsealedBatch Operation = begun_on (Some p) t.batch.list in
              let item = item_is (same_lists k) Old old.pool s.batches is.batches p j t e.0 e.1 in
              let unsealed = list e.0.item item t.batch.list e.2.is.list in
              let same : IsUnsealedAs k u w = record { list = unsealed; base = refl; pending = sym pending } in
              let made = batches_begun (same_lists k) Old old.pool s.batches is.batches u w same some_link (some_parent t.pool_held) in
              meets image db new (begin s (Some p)) (answer.Batch (length s.batches), begun s (Some p) t.batch.list) (answer.Batch (length Old))
              (ap (begin_on s p) t.machine ∙ begin_held s p t.batch t.held)
              (ap answer.Batch (sym is.batches.count))
              (state_from image db new (begun s (Some p) t.batch.list) (Old ++ (Unsealed u ∷ [])) (link_held old.pool (k.parent u)) items some_pool is.log made
              (marks_child k Old old.pool is.marks (drawn_in image s is) u j.id e.0 t.batch.list parent e.1 item e.2.is.list unsealed (marked e.0.item item t.batch.list e.2.is.list)));
        }

    -- ---- an append

    module _ (b : ℕ) (u : U) (at : get_or Old b Gone ≡ Unsealed u) (limit : ℕ) (value : List ℕ) where
      abbrev Step : State Operation → Outcome
      Step s = append_to limit s b value (batch_at s b)

      unsealed_here : (image : Image) (s : State Operation) → IsStateOf k image db old s → (w : batches.UnsealedBatch Operation) × (batch_at s b ≡ batches.Unsealed w) × IsUnsealedOf (same_lists k) Old b u w
      unsealed_here image s is = unsealed_there (same_lists k) Old old.pool s.batches is.batches b u at

      module _ (items : new.batches.items ≡ Old) (pool : new.pool ≡ old.pool) where
        pub append_too_long : limit < length value → Answers k AnyState (λ s. append_to limit s b value (batch_at s b)) db old new (answer.Refused (ValueTooLong (length value)))
        append_too_long long = stays items pool AnyState Step (answer.Refused (ValueTooLong (length value))) (λ image s any is. let w = unsealed_here image s is in ap (append_to limit s b value) w.1 ∙ append_long s b w.0 limit value long)

        pub append_no_room : (size : ℕ) → length value ≤ limit → size ≡ size_of k u → max_leaves ≤ size → Answers k AnyState (λ s. append_to limit s b value (batch_at s b)) db old new (answer.Refused (LocationOverflow (size + 1)))
        append_no_room size short here full = stays items pool AnyState Step (answer.Refused (LocationOverflow (size + 1))) (λ image s any is.
            let w = unsealed_here image s is in
            let same : size ≡ batches.size_of w.0 = here ∙ size_is u w.0 w.2.is in
            ap (append_to limit s b value) w.1 ∙ append_full s b w.0 limit value short (omega (arith, same, full)) ∙ ap (λ n. refused s (LocationOverflow (n + 1))) (sym same))

      module _ (v : U) (items : new.batches.items ≡ set Old b (Unsealed v)) (pool : new.pool ≡ old.pool) (parent : k.parent v ≡ k.parent u) (pending : k.pending v ≡ k.pending u ++ (Append value ∷ []))
          (list : (l : List Operation) → k.is_unsealed l u → k.is_unsealed l v) (marked : (ms : List ℕ) → k.is_marked ms u → k.is_marked ms v) where
        pub append_follows : length value ≤ limit → size_of k u < max_leaves → Answers k AnyState (λ s. append_to limit s b value (batch_at s b)) db old new answer.Done
        append_follows short few = λ image. record {
          shaped =
              let w = unsealed_there (any_lists k) Old old.pool sh.all sh.batches b u at in
              shape_from new (set Old b (Unsealed v)) old.pool old.taken _ items pool taken
              (batches_appended (any_lists k) Old old.pool sh.all sh.batches b u at w.0 w.1 w.2 v (Append value) parent tt) sh.few;
          follows = λ s any is.
              let w = unsealed_here image s is in
              let same = size_is u w.0 w.2.is in
              let is_as : IsUnsealedAs k v (batches.appended w.0 (Append value)) = record { list = list w.0.list w.2.is.list; base = w.2.is.base; pending = ap (λ (ops : List Operation). ops ++ (Append value ∷ [])) w.2.is.pending ∙ sym pending } in
              meets image db new (append_to limit s b value (batch_at s b)) (answer.Done, with_batch s b (batches.Unsealed (batches.appended w.0 (Append value)))) answer.Done
              (ap (append_to limit s b value) w.1 ∙ append_done s b w.0 limit value short (omega (arith, same, few)))
              refl
              (state_from image db new (with_batch s b (batches.Unsealed (batches.appended w.0 (Append value)))) (set Old b (Unsealed v)) old.pool items pool is.log
              (batches_appended (same_lists k) Old old.pool s.batches is.batches b u at w.0 w.1 w.2 v (Append value) parent is_as)
              (marks_appended k Old old.pool is.marks (drawn_in image s is) b u v at parent (k.base_is w.0.list v is_as.list ∙ sym (k.base_is w.0.list u w.2.is.list)) marked));
        }

    -- ---- holds

    module _ (b : ℕ) (j : Holding) (at : get_or Old b Gone ≡ Sealed j) (some : 0 < j.holds) where
      at_shape : Held (any_lists k) Old old.pool sh.all b j
      at_shape = held_at (any_lists k) Old old.pool sh.all sh.batches b j at some

      at_state : (image : Image) (s : State Operation) → IsStateOf k image db old s → Held (same_lists k) Old old.pool s.batches b j
      at_state image s is = held_at (same_lists k) Old old.pool s.batches is.batches b j at some

      link_is_held : ForSome (Some j.id) (λ id. 0 < holds_of old.pool id)
      link_is_held id e = let h = at_shape in subst (λ i. 0 < holds_of old.pool i) (same_Some j.id id e) h.pool_held

      keeps_held : (c : batches.SealedBatch Operation) (x : S) → IsSealedAs k x c → IsSealedAs k x (batches.with_hold c)
      keeps_held c x is = record { list = is.list; base = is.base; boundary = is.boundary; tips = is.tips; floor = is.floor }

      keeps_let_go : (c : batches.SealedBatch Operation) (x : S) → IsSealedAs k x c → IsSealedAs k x (batches.without_hold c)
      keeps_let_go c x is = record { list = is.list; base = is.base; boundary = is.boundary; tips = is.tips; floor = is.floor }

      module _ (room : HasRoom old) (items : new.batches.items ≡ set Old b (Sealed (record { id = j.id; holds = j.holds + 1 }))) (pool : new.pool ≡ link_held old.pool (Some j.id)) where
        pub hold_follows : Answers k AnyState (λ s. hold s b (batch_at s b)) db old new answer.Done
        hold_follows = λ image. record {
          shaped =
              let t = at_shape in
              shape_from new _ _ old.taken _ items pool taken
              (batches_held (any_lists k) Old old.pool sh.all sh.batches b j t.sealed t.batch t.machine t.is t.some (record { id = j.id; holds = j.holds + 1 }) refl (batches.with_hold t.batch) (λ x h. h) refl refl refl)
              (few_held old.taken old.pool sh.few room.holds (Some j.id) link_is_held);
          follows = λ s any is.
              let t = at_state image s is in
              meets image db new (hold s b (batch_at s b)) (answer.Done, with_batch s b (batches.Sealed (batches.with_hold t.batch))) answer.Done (ap (hold s b) t.machine ∙ hold_done s b t.batch t.held) refl
              (state_from image db new (with_batch s b (batches.Sealed (batches.with_hold t.batch))) _ _ items pool is.log
              (batches_held (same_lists k) Old old.pool s.batches is.batches b j t.sealed t.batch t.machine t.is t.some (record { id = j.id; holds = j.holds + 1 }) refl (batches.with_hold t.batch) (keeps_held t.batch) refl refl refl)
              (marks_held k Old old.pool is.marks (drawn_in image s is) b _ (sealed_within Old b j at) (λ w e. not_both w _ (sym e)) (Some j.id)));
        }

      module _ (items : new.batches.items ≡ set Old b (Sealed (record { id = j.id; holds = j.holds - 1 }))) (pool : new.pool ≡ link_released old.pool (Some j.id)) where
        pub let_go_follows : Answers k AnyState (λ s. release s b (batch_at s b)) db old new answer.Done
        let_go_follows = λ image. record {
          shaped =
              let t = at_shape in
              shape_from new _ _ old.taken _ items pool taken
              (batches_released (any_lists k) Old old.pool sh.all sh.batches b j t.sealed t.batch t.machine t.is t.some (record { id = j.id; holds = j.holds - 1 }) refl (batches.without_hold t.batch) (λ x h. h) refl refl refl)
              (few_released old.taken old.pool sh.few (Some j.id) link_is_held);
          follows = λ s any is.
              let t = at_state image s is in
              meets image db new (release s b (batch_at s b)) (answer.Done, with_batch s b (batches.Sealed (batches.without_hold t.batch))) answer.Done (ap (release s b) t.machine ∙ release_done s b t.batch t.held) refl
              (state_from image db new (with_batch s b (batches.Sealed (batches.without_hold t.batch))) _ _ items pool is.log
              (batches_released (same_lists k) Old old.pool s.batches is.batches b j t.sealed t.batch t.machine t.is t.some (record { id = j.id; holds = j.holds - 1 }) refl (batches.without_hold t.batch) (keeps_let_go t.batch) refl refl refl)
              (marks_released k Old old.pool is.marks (drawn_in image s is) b _ (sealed_within Old b j at) (λ w e. not_both w _ (sym e)) (Some j.id)));
        }

    -- ---- an unsealed batch is given up

    module _ (b : ℕ) (u : U) (at : get_or Old b Gone ≡ Unsealed u) (items : new.batches.items ≡ set Old b Gone) (pool : new.pool ≡ link_released old.pool (k.parent u)) where
      pub lost_shape : IsShaped k new
      lost_shape =
          let w = unsealed_there (any_lists k) Old old.pool sh.all sh.batches b u at in
          shape_from new _ _ old.taken _ items pool taken (batches_lost (any_lists k) Old old.pool sh.all sh.batches b u at w.0 w.1 w.2)
          (few_released old.taken old.pool sh.few (k.parent u) (parent_held (any_lists k) Old old.pool sh.all sh.batches b u at))

      pub lost_state : (image : Image) (s : State Operation) → IsStateOf k image db old s → IsStateOf k image db new (with_batch s b batches.Gone)
      lost_state image s is =
          let w = unsealed_there (same_lists k) Old old.pool s.batches is.batches b u at in
          state_from image db new (with_batch s b batches.Gone) _ _ items pool is.log (batches_lost (same_lists k) Old old.pool s.batches is.batches b u at w.0 w.1 w.2)
          (marks_released k Old old.pool is.marks (drawn_in image s is) b Gone (unsealed_within Old b u at) (λ w e. never_gone w e) (k.parent u))

    -- ---- a snapshot

    module _ (room : HasRoom old) (x : S) (j : Holding) (number : j.id ≡ length old.pool) (once : j.holds ≡ 1) (items : new.batches.items ≡ Old ++ (Sealed j ∷ [])) (pool : new.pool ≡ old.pool ++ (Some (record { item = x; parent = None; holds = 1 }) ∷ []))
        (bounds : k.bounds x ≡ snapshot_of k db) (list : (kept : Kept) (image : Image) → k.is_of kept image db → k.is_sealed kept.ops x) where
      abbrev Taken : HeldBatch S
      Taken = record { item = x; parent = None; holds = 1 }

      new_there : slots.slot_at (old.pool ++ (Some Taken ∷ [])) j.id ≡ Some Taken
      new_there = subst (λ i. slots.slot_at (old.pool ++ (Some Taken ∷ [])) i ≡ Some Taken) (sym number) (put_new old.pool (Some Taken))

      taken_alone : IsMarkedAt k.bounds old.pool None (k.bounds x)
      taken_alone = subst (IsMarkedAt k.bounds old.pool None) (sym bounds) (marked_alone k.bounds old.pool (snapshot_of k db) refl refl (omega arith))

      taken_as : (image : Image) (s : State Operation) → k.is_of (kept_of s) image db → IsSealedAs k x (batches.snapshot_of s.ops (floor_of meaning s.ops))
      taken_as image s log =
          let size : length s.ops ≡ (k.state db).size = sym (ap (λ (d : Commitment Mmr Sha256Digest). d.size) (k.state_is (kept_of s) image db log)) in
          record {
            list = list (kept_of s) image log;
            base = size ∙ sym (ap (λ (d : Bounds Mmr Sha256Digest). d.base.size) bounds);
            boundary = size ∙ sym (ap (λ (d : Bounds Mmr Sha256Digest). d.db.size) bounds);
            tips = sym (ap (λ (d : Bounds Mmr Sha256Digest). sizes d.ancestors) bounds);
            floor = sym (ap (λ (d : Bounds Mmr Sha256Digest). d.inactivity_floor) bounds ∙ k.floor_is (kept_of s) image db log);
          }

      pub snapshot_follows : Answers k AnyState snapshot db old new (answer.Batch (length Old))
      snapshot_follows = λ image. record {
        shaped =
            let put = batches_put (any_lists k) Old old.pool sh.all sh.batches Taken (omega arith) in
            shape_from new _ _ old.taken _ items pool taken
            (batches_added (any_lists k) Old (old.pool ++ (Some Taken ∷ [])) sh.all put j (batches.snapshot_of [] 0) Taken new_there refl once refl
            (λ q i sealed same. let d = (sealed_there (any_lists k) Old old.pool sh.all sh.batches q i sealed).2.drawn in omega (arith, d, same, number))
            (record { is = tt; link = tt }))
            (few_put old.taken old.pool sh.few Taken room.drawn refl);
        follows = λ s any is.
            let put = batches_put (same_lists k) Old old.pool s.batches is.batches Taken (omega arith) in
            let c : batches.SealedBatch Operation = batches.snapshot_of s.ops (floor_of meaning s.ops) in (
              ap answer.Batch (sym is.batches.count),
              state_from image db new (snapshot s).1 _ _ items pool is.log
                  (batches_added (same_lists k) Old (old.pool ++ (Some Taken ∷ [])) s.batches put j c Taken new_there refl once refl
                  (λ q i sealed same. let d = (sealed_there (same_lists k) Old old.pool s.batches is.batches q i sealed).2.drawn in omega (arith, d, same, number))
                  (record { is = taken_as image s is.log; link = tt }))
                  (marks_taken k Old old.pool is.marks (drawn_in image s is) (Sealed j) (λ w e. not_both w j (sym e)) Taken taken_alone),
            );
      }

  -- ---- an apply

  -- a batch that a side may apply is the one that is held
  pub taken_there : (db : Db) (n : Numbers S U) (b : ℕ) → Takes k db n b → (j : Holding)
      → held_in n.batches.items b ≡ Some j → (x : S) → item_at n.pool j.id ≡ Some x
      → Decides true (Contains ((k.bounds x).db ∷ (k.bounds x).ancestors) (k.state db))
  taken_there db n b takes j at x there =
      let same : takes.holding ≡ j = same_Some _ _ (sym takes.held ∙ at) in
      (λ e. takes.stands x (subst (λ (h : Holding). item_at n.pool h.id ≡ Some x) (sym same) there), λ is. refl)

  module _ (image : Image) (db : Db) (old : Numbers S U) (b : ℕ) (j : Holding)
      (at : held_in old.batches.items b ≡ Some j) (may : Bool)
      (stands : (x : S) → item_at old.pool j.id ≡ Some x
      → Decides may (Contains ((k.bounds x).db ∷ (k.bounds x).ancestors) (k.state db))) where
    there_in : (s : State Operation) → IsStateOf k image db old s
        → Held (same_lists k) old.batches.items old.pool s.batches b j
    there_in s is = held_there (same_lists k) old.batches.items old.pool s.batches is.batches b j at

    -- what the pool keeps of it
    item_in : (s : State Operation) (is : IsStateOf k image db old s)
        → (e : HeldBatch S) × (item_at old.pool j.id ≡ Some e.item) × IsSealedAs k e.item (there_in s is).batch
    item_in s is =
        let t = there_in s is in
        let e = held_item (same_lists k) old.batches.items old.pool s.batches is.batches b j t in
        (e.0, item_is (same_lists k) old.batches.items old.pool s.batches is.batches b j t e.0 e.1, e.2.is)

    -- where size and root tell the lists of the state, it may be applied where they say so
    applies : (s : State Operation) → IsTold s → (is : IsStateOf k image db old s)
        → may_apply one_list s (there_in s is).batch ≡ may
    applies s told is =
        let t = there_in s is in
        let c : batches.SealedBatch Operation = t.batch in
        let e = item_in s is in
        let x : S = e.0.item in
        let fits = e.2 in
        let bounds : AreBounds c.list (k.bounds x) = k.bounded c.list x fits.list in
        let now = subst (λ (d : Commitment Mmr Sha256Digest).
        Decides may (Contains ((k.bounds x).db ∷ (k.bounds x).ancestors) d))
        (k.state_is (kept_of s) image db is.log) (stands x e.1) in
        let test = one_answer may
        (stands_on same_state s c.list (k.bounds x).db.size (sizes (k.bounds x).ancestors)) now
        (stands_decides s c.list (k.bounds x).db (k.bounds x).ancestors bounds.db bounds.ancestors) in
        sym (test ∙ stands_same same_state s c.list c.list (k.bounds x).db.size c.boundary
        (sizes (k.bounds x).ancestors) c.tips refl (sym fits.boundary) (sym fits.tips) ∙ told.applies b c t.machine)

    -- else it is stale
    pub refusal_stale : may ≡ false → (s : State Operation) → IsTold s → IsStateOf k image db old s
        → Some StaleBatch ≡ refusal_in (apply s b (batch_at s b)).0
    refusal_stale unlike s told is =
        let t = there_in s is in
        let done : apply s b (batch_at s b) ≡ refused s StaleBatch = ap (apply s b) t.machine
        ∙ apply_stale s b t.batch t.held (applies s told is ∙ unlike) in
        sym (ap (λ (o : Outcome). refusal_in o.0) done)

    module _ (alike : may ≡ true) where
      done_here : (s : State Operation) → IsTold s → (is : IsStateOf k image db old s)
          → apply s b (batch_at s b) ≡ (answer.Applied, applied s (there_in s is).batch)
      done_here s told is =
          let t = there_in s is in
          ap (apply s b) t.machine ∙ apply_done s b t.batch t.held (applies s told is ∙ alike)

      -- nothing refuses it
      pub refusal_none : (s : State Operation) → IsTold s → IsStateOf k image db old s
          → None ≡ refusal_in (apply s b (batch_at s b)).0
      refusal_none s told is = sym (ap (λ (o : Outcome). refusal_in o.0) (done_here s told is))

      -- its list begins with the present one
      begins_here : (s : State Operation) → IsTold s → (is : IsStateOf k image db old s)
          → (more : List Operation) × ((there_in s is).batch.list ≡ s.ops ++ more)
      begins_here s told is =
          let c = (there_in s is).batch in
          begins_where s c.list c.boundary c.tips (applies s told is ∙ alike)

      sealed_here : (s : State Operation) (told : IsTold s) (is : IsStateOf k image db old s)
          → k.is_sealed (s.ops ++ (begins_here s told is).0) (item_in s is).0.item
      sealed_here s told is = subst (λ (l : List Operation). k.is_sealed l (item_in s is).0.item)
          (begins_here s told is).1 (item_in s is).2.list

      -- with a database of that list it stands for what the apply leaves
      pub apply_state : (tells : Type 0) (after : Image) (made : Db)
          → (tells → (x : S) → item_at old.pool j.id ≡ Some x → (kept : Kept) (more : List Operation)
          → k.is_of kept image db → k.is_sealed (kept.ops ++ more) x
          → k.is_of (with_list kept (kept.ops ++ more)) after made)
          → tells → (s : State Operation) → IsTold s → IsStateOf k image db old s
          → IsStateOf k after made old (apply s b (batch_at s b)).1
      apply_state tells after made goes tell s told is =
          let e = item_in s is in
          let more = begins_here s told is in
          let log : k.is_of (with_list (kept_of s) (s.ops ++ more.0)) after made =
          goes tell e.0.item e.1 (kept_of s) more.0 is.log (sealed_here s told is) in
          subst (λ (o : Outcome). IsStateOf k after made old o.1) (sym (done_here s told is))
          (record {
            log = subst (λ (l : List Operation). k.is_of (with_list (kept_of s) l) after made) (sym more.1) log;
            batches = is.batches;
            marks = is.marks;
          })

      -- what an error says of a batch that may be applied
      pub apply_fails : (tells P : Type 0)
          → (tells → (x : S) → item_at old.pool j.id ≡ Some x → (kept : Kept) (more : List Operation)
          → k.is_of kept image db → k.is_sealed (kept.ops ++ more) x
          → Contains ((k.bounds x).db ∷ (k.bounds x).ancestors) (k.state db) → P)
          → tells → (s : State Operation) → IsTold s → IsStateOf k image db old s → P
      apply_fails tells P fails tell s told is =
          let x = item_in s is in
          let more = begins_here s told is in
          fails tell x.0.item x.1 (kept_of s) more.0 is.log (sealed_here s told is)
          ((stands x.0.item x.1).0 alike)

  -- ---- a side of no batches

  none_of : (like : Likeness S U) → AreBatchesOf like [] [] []
  none_of like = record { count = refl; each = λ b. tt; apart = λ p q j l e f same. absurd (cc); kept = λ id e there. absurd (none-some e there) }

  pub opened_shape : (n : Numbers S U) → n.batches.items ≡ [] → n.pool ≡ [] → n.taken ≡ 0 → IsShaped k n
  opened_shape n items pool taken = shape_from n [] [] 0 [] items pool taken (none_of (any_lists k)) (record { drawn = omega arith; holds = λ id. omega arith })

  pub opened_state : (image : Image) (db : Db) (n : Numbers S U) (s : State Operation) → s.batches ≡ [] → n.batches.items ≡ [] → n.pool ≡ [] → k.is_of (kept_of s) image db → IsStateOf k image db n s
  opened_state image db n s none items pool log = state_from image db n s [] [] items pool log (rw none (none_of (same_lists k))) (marks_none k)

  -- ---- a step is counted

  module _ (old new : Numbers S U) (items : new.batches ≡ old.batches) (pool : new.pool ≡ old.pool) where
    pub counted_shape : IsShaped k old → new.taken ≡ old.taken + 1 → IsShaped k new
    counted_shape sh taken = shape_from new old.batches.items old.pool (old.taken + 1) sh.all (ap (λ v. v.items) items) pool taken sh.batches (record {
      drawn = let few = sh.few.drawn in omega (arith, few);
      holds = λ id. let few = sh.few.holds id in omega (arith, few);
    })

    pub counted_room : IsShaped k old → new.taken ≡ old.taken + 1 → new.taken < 2 ^ 64 → HasRoom new
    counted_room sh taken within = record {
      within = within;
      drawn = let few = sh.few.drawn in let n = ap length pool in omega (arith, few, n, taken);
      holds = λ id. let few = sh.few.holds id in let n : holds_of new.pool id ≡ holds_of old.pool id = ap (λ (p : List (Option (HeldBatch S))). holds_of p id) pool in omega (arith, few, n, taken);
    }

    pub counted_state : (image : Image) (db : Db) (s : State Operation) → IsStateOf k image db old s → IsStateOf k image db new s
    counted_state image db s is = state_from image db new s old.batches.items old.pool (ap (λ v. v.items) items) pool is.log is.batches is.marks
