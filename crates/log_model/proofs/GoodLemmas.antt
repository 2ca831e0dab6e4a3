-- What each kind of step makes of a good state is good.
use Rattle.std.proofs.Common.{◌≡◌, ℕ, zero, suc, ◌+◌, ◌<◌, ◌≤◌, List, [], ◌∷◌, ◌++◌, length, take, get_or, Option, Some, None, refl, sym, ◌∙◌, subst, arith}
use Rattle.std.specs.Prelude.{slice_set, unwrap_or, IsSome, IsNone, IfSome, IsSomeAnd}
use Rattle.std.proofs.Math.Seq.{take-length}
use Rattle.std.proofs.lemmas.List.{length-append, take-append-le}
use Rattle.log_model.specs.Meaning.{Meaning}
use Rattle.log_model.specs.Operations.{floor_of}
use Rattle.log_model.specs.StateBatches.{Batch, Unsealed, Sealed, Gone, UnsealedBatch, SealedBatch, begun_on, size_of, appended, sealed, snapshot_of}
use Rattle.log_model.specs.Machine.{State, max_leaves, batch_at, with_batch, with_new, begun, snapshot_taken}
use Rattle.log_model.specs.Reach.{as_sealed, reach, tips_of, effective_boundary, sealed_here}
use Rattle.log_model.specs.Good.{EndsWithCommit, FloorsRise, ValuesAre, AreAppends, IsGoodList, IsMark, AreMarks, IsGoodBatch, ParentFits, HasParent, IsGood, IsGoodLog}
use Rattle.log_model.proofs.ReachLemmas.{marks_here}

none_is : (o : Option ℕ) → IsNone o → o ≡ None
none_is None h = refl
none_is (Some x) h = absurd cc

same_default : (o : Option ℕ) (a b : ℕ) → IsSome o → unwrap_or o a ≡ unwrap_or o b
same_default None a b h = absurd cc
same_default (Some x) a b h = refl

module _ {Op V : Type 0} (m : Meaning Op V) (among : List Op → Type 0) (allowed : V → Type 0) (first : Op) where
  ends_some : (xs : List Op) → EndsWithCommit m xs → 1 ≤ length xs
  ends_some [] h = absurd h
  ends_some (x ∷ xs) h = omega arith

  ends_append : (xs ys : List Op) → EndsWithCommit m ys → EndsWithCommit m (xs ++ ys)
  ends_append [] ys h = h
  ends_append (x ∷ []) [] h = absurd h
  ends_append (x ∷ []) (y ∷ ys) h = h
  ends_append (x ∷ next ∷ xs) ys h = ends_append (next ∷ xs) ys h

  values_append : (xs ys : List Op) → ValuesAre m allowed xs → ValuesAre m allowed ys → ValuesAre m allowed (xs ++ ys)
  values_append [] ys h k = k
  values_append (x ∷ xs) ys h k = (h.0, values_append xs ys h.1 k)

  appends_append : (xs ys : List Op) → AreAppends m xs → AreAppends m ys → AreAppends m (xs ++ ys)
  appends_append [] ys h k = k
  appends_append (x ∷ xs) ys h k = (h.0, appends_append xs ys h.1 k)

  -- the floor of the last commit of a list, or this one
  abbrev pub floor_from : ℕ → List Op → ℕ
  floor_from low [] = low
  floor_from low (op ∷ ops) = floor_from (unwrap_or (m.floor op) low) ops

  pub rise_append : (low i : ℕ) (xs ys : List Op) → FloorsRise m low i xs → FloorsRise m (floor_from low xs) (i + length xs) ys → FloorsRise m low i (xs ++ ys)
  rise_append low i [] ys h k = let e : i + 0 ≡ i = omega arith in let P : ℕ → Type 0 = λ n. FloorsRise m low n ys in subst P e k
  rise_append low i (x ∷ xs) ys h k =
      let e : i + length (x ∷ xs) ≡ i + 1 + length xs = omega arith in
      let P : ℕ → Type 0 = λ n. FloorsRise m (floor_from low (x ∷ xs)) n ys in
      (h.0, rise_append (unwrap_or (m.floor x) low) (i + 1) xs ys h.1 (subst P e k))

  pub floor_from-ends : (low : ℕ) (xs : List Op) → EndsWithCommit m xs → floor_from low xs ≡ floor_of m xs
  floor_from-ends low [] h = absurd h
  floor_from-ends low (x ∷ []) h = same_default (m.floor x) low 0 h
  floor_from-ends low (x ∷ next ∷ xs) h = floor_from-ends (unwrap_or (m.floor x) low) (next ∷ xs) h

  pub floor_from-appends : (low : ℕ) (xs : List Op) → AreAppends m xs → floor_from low xs ≡ low
  floor_from-appends low [] h = refl
  floor_from-appends low (x ∷ xs) h = let e = none_is (m.floor x) h.0 in rw e (floor_from-appends low xs h.1)

  appends_rise : (low i : ℕ) (xs : List Op) → AreAppends m xs → FloorsRise m low i xs
  appends_rise low i [] h = tt
  appends_rise low i (x ∷ xs) h = let e = none_is (m.floor x) h.0 in rw e (tt, appends_rise low (i + 1) xs h.1)

  pub whole_mark : (list : List Op) → IsGoodList m among allowed first list → IsMark m among list (length list)
  whole_mark list g = (omega arith, rw (take-length list) g.stand)

  pub good_begun_on : (parent : Option ℕ) (list : List Op) → IsGoodList m among allowed first list → IsGoodBatch m among allowed first (Unsealed (begun_on parent list))
  good_begun_on parent list g = (g, refl, tt, tt, omega (arith, g.few))

  pub good_snapshot : (list : List Op) → IsGoodList m among allowed first list → IsGoodBatch m among allowed first (Sealed (snapshot_of list (floor_of m list)))
  good_snapshot list g = (g, whole_mark list g, whole_mark list g, tt, refl)

  pub good_appended : (u : UnsealedBatch Op) (op : Op) → IsGoodBatch m among allowed first (Unsealed u) → IsNone (m.floor op) → IfSome (m.value op) allowed → size_of u < max_leaves
      → IsGoodBatch m among allowed first (Unsealed (appended u op))
  good_appended u op g none value few =
      let l = length-append u.pending (op ∷ []) in
      (g.0, g.1, appends_append u.pending (op ∷ []) g.2 (none, tt), values_append u.pending (op ∷ []) g.3 (value, tt), omega (arith, l, few))

  -- the list that a commit ends is good
  good_ended : (u : UnsealedBatch Op) (commit : Op) (floor : ℕ) → among (u.list ++ (u.pending ++ (commit ∷ []))) → IsGoodBatch m among allowed first (Unsealed u) → m.floor commit ≡ Some floor → IfSome (m.value commit) allowed
      → floor_of m u.list ≤ floor → floor ≤ size_of u → size_of u + 1 ≤ max_leaves → IsGoodList m among allowed first (u.list ++ (u.pending ++ (commit ∷ [])))
  good_ended u commit floor known g is value low high few =
      let more : List Op = u.pending ++ (commit ∷ []) in
      let base = g.1 in
      let l = length-append u.list more in
      let k = length-append u.pending (commit ∷ []) in
      let some = ends_some u.list g.0.stand.0 in
      let ending : EndsWithCommit m (commit ∷ []) = rw is refl in
      let after : floor_from (floor_of m u.list) u.pending ≡ floor_of m u.list = floor_from-appends (floor_of m u.list) u.pending g.2 in
      let last : FloorsRise m (floor_from (floor_of m u.list) u.pending) (length u.list + length u.pending) (commit ∷ []) = rw (after, is) ((low, omega (arith, base, high)), tt) in
      let tail : FloorsRise m (floor_of m u.list) (length u.list) more = rise_append (floor_of m u.list) (length u.list) u.pending (commit ∷ []) (appends_rise _ _ u.pending g.2) last in
      let P : ℕ → Type 0 = λ n. FloorsRise m n (0 + length u.list) more in
      let from : 0 + length u.list ≡ length u.list = omega arith in
      let tail' : FloorsRise m (floor_from 0 u.list) (0 + length u.list) more = rw (floor_from-ends 0 u.list g.0.stand.0, from) tail in
      record {
        begins = take-append-le 1 u.list more some ∙ g.0.begins;
        stand = (ends_append u.list more (ends_append u.pending (commit ∷ []) ending), known);
        few = omega (arith, l, k, base, few);
        values = values_append u.list more g.0.values (values_append u.pending (commit ∷ []) g.3 (value, tt));
        floors = rise_append 0 0 u.list more g.0.floors tail';
      }

  -- a mark of a list is one of a longer list that begins with it
  mark_longer : (xs ys : List Op) (n : ℕ) → IsMark m among xs n → IsMark m among (xs ++ ys) n
  mark_longer xs ys n h = let l = length-append xs ys in (omega (arith, l, h.0), rw (take-append-le n xs ys h.0) h.1)

  marks_longer : (xs ys : List Op) (ns : List ℕ) → AreMarks m among xs ns → AreMarks m among (xs ++ ys) ns
  marks_longer xs ys [] h = tt
  marks_longer xs ys (n ∷ ns) h = (mark_longer xs ys n h.0, marks_longer xs ys ns h.1)

  base_mark : (u : UnsealedBatch Op) → IsGoodBatch m among allowed first (Unsealed u) → IsMark m among u.list u.base
  base_mark u g = (omega (arith, g.1), rw (g.1, take-length u.list) g.0.stand)

  -- the floor of a sealed batch is its commit's
  pub floor-sealed : (u : UnsealedBatch Op) (commit : Op) (floor : ℕ) → m.floor commit ≡ Some floor → floor_of m (u.list ++ (u.pending ++ (commit ∷ []))) ≡ floor
  floor-sealed u commit floor is = ending u.list (u.pending ++ (commit ∷ [])) (some_more u.pending) ∙ ending u.pending (commit ∷ []) (omega arith) ∙ rw is refl
    where
      some_more : (xs : List Op) → 0 < length (xs ++ (commit ∷ []))
      some_more xs = omega (arith, length-append xs (commit ∷ []))

      ending : (xs ys : List Op) → 0 < length ys → floor_of m (xs ++ ys) ≡ floor_of m ys
      ending [] ys lt = refl
      ending (x ∷ []) [] lt = absurd (omega arith)
      ending (x ∷ []) (y ∷ ys) lt = refl
      ending (x ∷ next ∷ xs) ys lt = ending (next ∷ xs) ys lt

  -- so a batch that is sealed with marks of its list is good
  pub good_sealed : (u : UnsealedBatch Op) (boundary : ℕ) (tips : List ℕ) (commit : Op) (floor : ℕ) → among (u.list ++ (u.pending ++ (commit ∷ []))) → IsGoodBatch m among allowed first (Unsealed u) → IsMark m among u.list boundary → AreMarks m among u.list tips
      → m.floor commit ≡ Some floor → IfSome (m.value commit) allowed → floor_of m u.list ≤ floor → floor ≤ size_of u → size_of u + 1 ≤ max_leaves → IsGoodBatch m among allowed first (Sealed (sealed u boundary tips commit floor))
  good_sealed u boundary tips commit floor known g mark marks is value low high few =
      let more : List Op = u.pending ++ (commit ∷ []) in (
        good_ended u commit floor known g is value low high few,
        mark_longer u.list more u.base (base_mark u g),
        mark_longer u.list more boundary mark,
        marks_longer u.list more tips marks,
        sym (floor-sealed u commit floor is),
      )

  -- what holds of each batch and its number holds where one is replaced, or added
  set_good : (P : ℕ → Batch Op → Type 0) (bs : List (Batch Op)) (b : ℕ) (x : Batch Op) → ((q : ℕ) → P q (get_or bs q Gone)) → P b x → (q : ℕ) → P q (get_or (slice_set bs b x) q Gone)
  set_good P [] b x f h q = f q
  set_good P (y ∷ bs) zero x f h zero = h
  set_good P (y ∷ bs) zero x f h (suc q) = f (suc q)
  set_good P (y ∷ bs) (suc b) x f h zero = f zero
  set_good P (y ∷ bs) (suc b) x f h (suc q) = set_good (λ r. P (suc r)) bs b x (λ r. f (suc r)) h q

  push_good : (P : ℕ → Batch Op → Type 0) (bs : List (Batch Op)) (x : Batch Op) → ((q : ℕ) → P q (get_or bs q Gone)) → P (length bs) x → (q : ℕ) → P q (get_or (bs ++ (x ∷ [])) q Gone)
  push_good P [] x f h zero = h
  push_good P [] x f h (suc q) = f (suc q)
  push_good P (y ∷ bs) x f h zero = f zero
  push_good P (y ∷ bs) x f h (suc q) = push_good (λ r. P (suc r)) bs x (λ r. f (suc r)) h q

  -- what was sealed stays sealed, with its list
  abbrev pub Keeps : Batch Op → Batch Op → Type 0
  Keeps old new = IfSome (as_sealed old) (λ c. IsSomeAnd (as_sealed new) (λ d. d.list ≡ c.list))

  pub keeps_self : (x : Batch Op) → Keeps x x
  keeps_self (Unsealed u) = tt
  keeps_self (Sealed c) = refl
  keeps_self Gone = tt

  still_sealed : (list : List Op) (o n : Option (SealedBatch Op)) → IfSome o (λ c. IsSomeAnd n (λ d. d.list ≡ c.list)) → IsSomeAnd o (λ c. c.list ≡ list) → IsSomeAnd n (λ c. c.list ≡ list)
  still_sealed list None n k h = absurd h
  still_sealed list (Some c) None k h = absurd k
  still_sealed list (Some c) (Some d) k h = k ∙ h

  -- so a parent that fits does so in a later state
  still_fits : (s t : State Op) → ((q : ℕ) → Keeps (batch_at s q) (batch_at t q)) → (b : ℕ) (list : List Op) (base : ℕ) (link : Option ℕ) → ParentFits s b list base link → ParentFits t b list base link
  still_fits s t keeps b list base None h = tt
  still_fits s t keeps b list base (Some p) h = (h.0, still_sealed (take base list) (as_sealed (batch_at s p)) (as_sealed (batch_at t p)) (keeps p) h.1)

  pub still_has : (s t : State Op) → ((q : ℕ) → Keeps (batch_at s q) (batch_at t q)) → (b : ℕ) (x : Batch Op) → HasParent s b x → HasParent t b x
  still_has s t keeps b (Unsealed u) h = still_fits s t keeps b u.list u.base u.parent h
  still_has s t keeps b (Sealed c) h = still_fits s t keeps b c.list c.base c.parent h
  still_has s t keeps b Gone h = tt

  set_keeps : (bs : List (Batch Op)) (b : ℕ) (x : Batch Op) → Keeps (get_or bs b Gone) x → (q : ℕ) → Keeps (get_or bs q Gone) (get_or (slice_set bs b x) q Gone)
  set_keeps [] b x h q = keeps_self (get_or [] q Gone)
  set_keeps (y ∷ bs) zero x h zero = h
  set_keeps (y ∷ bs) zero x h (suc q) = keeps_self (get_or bs q Gone)
  set_keeps (y ∷ bs) (suc b) x h zero = keeps_self y
  set_keeps (y ∷ bs) (suc b) x h (suc q) = set_keeps bs b x h q

  push_keeps : (bs : List (Batch Op)) (x : Batch Op) (q : ℕ) → Keeps (get_or bs q Gone) (get_or (bs ++ (x ∷ [])) q Gone)
  push_keeps [] x q = tt
  push_keeps (y ∷ bs) x zero = keeps_self y
  push_keeps (y ∷ bs) x (suc q) = push_keeps bs x q

  -- two states that differ in their batches alone
  same_log : (s t : State Op) → IsGoodLog m s → t.ops ≡ s.ops → t.sizes ≡ s.sizes → t.durable ≡ s.durable → t.node_durable ≡ s.node_durable → t.prune ≡ s.prune → t.start ≡ s.start → t.wstart ≡ s.wstart → IsGoodLog m t
  same_log s t g a b c d e f h = record {
    sizes = rw (a, b) g.sizes;
    commits = rw (a, b) g.commits;
    nodes = rw (c, d) g.nodes;
    within = rw (a, c) g.within;
    durable = rw (b, c) g.durable;
    start = rw (e, f) g.start;
    pruned = rw (d, e) g.pruned;
    floor = rw (a, c, e) g.floor;
    wstart = rw (b, e, h) g.wstart;
  }

  pub good_with : (s : State Op) (b : ℕ) (x : Batch Op) → IsGood m among allowed first s → IsGoodBatch m among allowed first x → HasParent s b x → Keeps (batch_at s b) x → IsGood m among allowed first (with_batch s b x)
  good_with s b x g good has keeps =
      let t : State Op = with_batch s b x in
      let kept : (q : ℕ) → Keeps (batch_at s q) (batch_at t q) = set_keeps s.batches b x keeps in
      record {
        ops = g.ops;
        log = same_log s t g.log refl refl refl refl refl refl refl;
        batches = set_good (λ q. IsGoodBatch m among allowed first) s.batches b x g.batches good;
        parents = set_good (HasParent t) s.batches b x (λ q. still_has s t kept q (batch_at s q) (g.parents q)) (still_has s t kept b x has);
      }

  -- an unsealed batch that is lost, or given up
  pub good_lost : (s : State Op) (b : ℕ) (u : UnsealedBatch Op) → IsGood m among allowed first s → batch_at s b ≡ Unsealed u → IsGood m among allowed first (with_batch s b Gone)
  good_lost s b u g is = good_with s b Gone g tt tt (rw is tt)

  -- an unsealed batch with one more append
  pub good_with_append : (s : State Op) (b : ℕ) (u : UnsealedBatch Op) (op : Op) → IsGood m among allowed first s → batch_at s b ≡ Unsealed u → IsNone (m.floor op) → IfSome (m.value op) allowed → size_of u < max_leaves
      → IsGood m among allowed first (with_batch s b (Unsealed (appended u op)))
  good_with_append s b u op g is none value few =
      let good : IsGoodBatch m among allowed first (Unsealed u) = subst (IsGoodBatch m among allowed first) is (g.batches b) in
      let has : HasParent s b (Unsealed u) = subst (HasParent s b) is (g.parents b) in
      good_with s b (Unsealed (appended u op)) g (good_appended u op good none value few) has (rw is tt)

  -- an unsealed batch that is sealed here
  pub good_with_sealed : (s : State Op) (b : ℕ) (u : UnsealedBatch Op) (commit : Op) (floor : ℕ) → among (u.list ++ (u.pending ++ (commit ∷ []))) → IsGood m among allowed first s → batch_at s b ≡ Unsealed u → m.floor commit ≡ Some floor → IfSome (m.value commit) allowed
      → floor_of m u.list ≤ floor → floor ≤ size_of u → size_of u + 1 ≤ max_leaves → IsGood m among allowed first (with_batch s b (Sealed (sealed_here s u commit floor)))
  good_with_sealed s b u commit floor known g is sets value low high few =
      let good : IsGoodBatch m among allowed first (Unsealed u) = subst (IsGoodBatch m among allowed first) is (g.batches b) in
      let has : HasParent s b (Unsealed u) = subst (HasParent s b) is (g.parents b) in
      let marks = marks_here m among allowed first s g b u is in
      let c : SealedBatch Op = sealed_here s u commit floor in
      let front : take u.base c.list ≡ take u.base u.list = take-append-le u.base u.list (u.pending ++ (commit ∷ [])) (omega (arith, good.1)) in
      let has' : HasParent s b (Sealed c) = on_longer s b u.list c.list u.base u.parent (sym front) has in
      good_with s b (Sealed c) g (good_sealed u (effective_boundary s u) (tips_of (reach s u)) commit floor known good marks.0 marks.1 sets value low high few) has' (rw is tt)
    where
      on_longer : (s : State Op) (b : ℕ) (xs ys : List Op) (base : ℕ) (link : Option ℕ) → take base xs ≡ take base ys → ParentFits s b xs base link → ParentFits s b ys base link
      on_longer s b xs ys base None e h = tt
      on_longer s b xs ys base (Some p) e h = (h.0, rw (← e) h.1)

  -- a sealed batch with other holds
  pub good_with_holds : (s : State Op) (b : ℕ) (c : SealedBatch Op) (holds : ℕ) → IsGood m among allowed first s → batch_at s b ≡ Sealed c → IsGood m among allowed first (with_batch s b (Sealed (record c { holds = holds })))
  good_with_holds s b c holds g is =
      let good : IsGoodBatch m among allowed first (Sealed c) = subst (IsGoodBatch m among allowed first) is (g.batches b) in
      let has : HasParent s b (Sealed c) = subst (HasParent s b) is (g.parents b) in
      good_with s b (Sealed (record c { holds = holds })) g good has (rw is refl)

  pub good_new : (s : State Op) (x : Batch Op) → IsGood m among allowed first s → IsGoodBatch m among allowed first x → HasParent s (length s.batches) x → IsGood m among allowed first (with_new s x)
  good_new s x g good has =
      let t : State Op = with_new s x in
      let kept : (q : ℕ) → Keeps (batch_at s q) (batch_at t q) = push_keeps s.batches x in
      record {
        ops = g.ops;
        log = same_log s t g.log refl refl refl refl refl refl refl;
        batches = push_good (λ q. IsGoodBatch m among allowed first) s.batches x g.batches good;
        parents = push_good (HasParent t) s.batches x (λ q. still_has s t kept q (batch_at s q) (g.parents q)) (still_has s t kept (length s.batches) x has);
      }

  -- a batch on the present list
  pub good_begun : (s : State Op) → IsGood m among allowed first s → IsGood m among allowed first (begun s None s.ops)
  good_begun s g = good_new s (Unsealed (begun_on None s.ops)) g (good_begun_on None s.ops g.ops) tt

  -- a batch on a sealed one
  pub good_begun_after : (s : State Op) (p : ℕ) (c : SealedBatch Op) → IsGood m among allowed first s → batch_at s p ≡ Sealed c → IsGood m among allowed first (begun s (Some p) c.list)
  good_begun_after s p c g is =
      let good : IsGoodBatch m among allowed first (Sealed c) = subst (IsGoodBatch m among allowed first) is (g.batches p) in
      good_new s (Unsealed (begun_on (Some p) c.list)) g (good_begun_on (Some p) c.list good.0) (drawn s.batches p c is, rw is (sym (take-length c.list)))
    where
      never : {c : SealedBatch Op} → Gone ≡ Sealed c → ⊥
      never e = cc

      drawn : (bs : List (Batch Op)) (p : ℕ) (c : SealedBatch Op) → get_or bs p Gone ≡ Sealed c → p < length bs
      drawn [] p c e = absurd (never e)
      drawn (x ∷ bs) zero c e = omega arith
      drawn (x ∷ bs) (suc p) c e = let below = drawn bs p c e in omega (arith, below)

  pub good_snapshot_taken : (s : State Op) → IsGood m among allowed first s → IsGood m among allowed first (snapshot_taken s (floor_of m s.ops))
  good_snapshot_taken s g = good_new s (Sealed (snapshot_of s.ops (floor_of m s.ops))) g (good_snapshot s.ops g.ops) tt
