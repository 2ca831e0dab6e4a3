-- What each kind of step makes of what stands on the volume.
use Rattle.std.proofs.Common.{◌≡◌, ℕ, zero, suc, ◌+◌, ◌<◌, ◌≤◌, List, [], ◌∷◌, ◌++◌, length, take, drop, get_or, inl, inr, refl, ◌∙◌, ap, subst, arith}
use Rattle.std.specs.Prelude.{nat_lt, max}
use Rattle.std.proofs.Math.Seq.{take-length}
use Rattle.std.proofs.Math.Nat.{mul-div-le}
use Rattle.std.proofs.lemmas.List.{length-append, take-append-le, take-append-drop}
use Rattle.log_model.specs.Meaning.{Meaning}
use Rattle.log_model.specs.Operations.{floor_of}
use Rattle.log_model.specs.StateBatches.{Sealed, Gone, SealedBatch}
use Rattle.log_model.specs.Machine.{State, batch_at, by_blobs, sizes_with, applied, committed, synced, pruned}
use Rattle.log_model.specs.AppliedSizes.{RiseTo, AreSizes, first_at_least}
use Rattle.log_model.specs.Good.{EndsWithCommit, FloorsRise, IsGoodList, IsGoodBatch, HasParent, AreCommits, IsDurable, IsGoodLog, IsGood}
use Rattle.log_model.proofs.GoodLemmas.{Keeps, keeps_self, still_has}
use Rattle.log_model.proofs.SizeLemmas.{either, rise_le, last_applied, sizes_grow, has_longer, first_longer, first_higher, lt_is, not_lt}
use Rattle.log_model.proofs.FloorLemmas.{floor_later, floor_within}

blobs_below : (blob n : ℕ) → by_blobs blob n ≤ n
blobs_below blob n = mul-div-le n blob

module _ {Op V : Type 0} (m : Meaning Op V) (among : List Op → Type 0) (allowed : V → Type 0) (first : Op) where
  -- ---- sizes of a longer list

  commits_longer : (low : ℕ) (xs ys : List Op) (ns : List ℕ) → RiseTo low (length xs) ns → AreCommits m xs ns → AreCommits m (xs ++ ys) ns
  commits_longer low xs ys [] r h = tt
  commits_longer low xs ys (n ∷ ns) r h = let le = rise_le n (length xs) ns r.1 in (rw (take-append-le n xs ys le) h.0, commits_longer n xs ys ns r.1 h.1)

  commits_all : (xs ys : List Op) (ns : List ℕ) → AreSizes (length xs) ns → AreCommits m xs ns → AreCommits m (xs ++ ys) ns
  commits_all xs ys [] r h = absurd r
  commits_all xs ys (n ∷ ns) r h =
      let le = rise_le 1 (length xs) ns r.1 in
      let one = r.0 in
      (rw (take-append-le n xs ys (omega (arith, le, one))) h.0, commits_longer 1 xs ys ns r.1 h.1)

  commits_with : (list : List Op) (ns : List ℕ) (n : ℕ) → AreCommits m list ns → EndsWithCommit m (take n list) → AreCommits m list (ns ++ (n ∷ []))
  commits_with list [] n h e = (e, tt)
  commits_with list (k ∷ ns) n h e = (h.0, commits_with list ns n h.1 e)

  pub ends_at : (list : List Op) (ns : List ℕ) (k n : ℕ) (d : ℕ) → AreCommits m list ns → k < length ns → get_or ns k d ≡ n → EndsWithCommit m (take n list)
  ends_at list [] k n d h lt e = absurd (omega (arith, lt))
  ends_at list (x ∷ ns) zero n d h lt e = rw (← e) h.0
  ends_at list (x ∷ ns) (suc k) n d h lt e = ends_at list ns k n d h.1 (omega (arith, lt)) e

  -- the floor at the durable size is at most that of the list
  durable_floor : (s : State Op) → IsGoodList m among allowed first s.ops → IsGoodLog m s → floor_of m (take s.durable s.ops) ≤ floor_of m s.ops
  durable_floor s ops g = by g.durable
    where
      joined : take s.durable s.ops ++ drop s.durable s.ops ≡ s.ops
      joined = take-append-drop s.durable s.ops

      by : IsDurable s.sizes s.durable → floor_of m (take s.durable s.ops) ≤ floor_of m s.ops
      by (inl c) =
          let ends : EndsWithCommit m (take s.durable s.ops) = ends_at s.ops s.sizes c.0 s.durable s.durable g.commits c.1 c.2 in
          let all : EndsWithCommit m (take s.durable s.ops ++ drop s.durable s.ops) = rw joined ops.stand.0 in
          let rise : FloorsRise m 0 0 (take s.durable s.ops ++ drop s.durable s.ops) = rw joined ops.floors in
          subst (λ list. floor_of m (take s.durable s.ops) ≤ floor_of m list) joined (floor_later m among allowed first (take s.durable s.ops) (drop s.durable s.ops) ends all rise)
      by (inr p) = rw p.0 (omega arith)

  -- ---- the same batches

  pub good_moved : (s t : State Op) → IsGood m among allowed first s → IsGoodList m among allowed first t.ops → IsGoodLog m t → s.batches ≡ t.batches → IsGood m among allowed first t
  good_moved s t g ops log e =
      let kept : (q : ℕ) → Keeps m among allowed first (batch_at s q) (batch_at t q) = λ q. subst (λ bs. Keeps m among allowed first (batch_at s q) (get_or bs q Gone)) e (keeps_self m among allowed first (batch_at s q)) in
      record {
        ops = ops;
        log = log;
        batches = λ b. subst (λ bs. IsGoodBatch m among allowed first (get_or bs b Gone)) e (g.batches b);
        parents = λ b. still_has m among allowed first s t kept b (batch_at t b) (subst (λ bs. HasParent s b (get_or bs b Gone)) e (g.parents b));
      }

  -- ---- an apply

  durable_longer : (sizes more : List ℕ) (durable : ℕ) → 1 ≤ durable → IsDurable sizes durable → IsDurable (sizes ++ more) durable
  durable_longer sizes more durable some (inl c) = inl (has_longer sizes more durable c)
  durable_longer sizes more durable some (inr p) = absurd (omega (arith, some, p.0))

  log_grown : (s : State Op) (ys : List Op) → 1 ≤ s.durable → EndsWithCommit m (s.ops ++ ys) → IsGoodLog m s
      → IsGoodLog m (record s { ops = s.ops ++ ys; sizes = sizes_with s.sizes (length s.ops) (length (s.ops ++ ys)) })
  log_grown s ys some ends g = record {
    sizes = either (AreSizes (length (s.ops ++ ys))) (nat_lt (length s.ops) (length (s.ops ++ ys))) _ _
        (λ e. sizes_grow (length s.ops) (length (s.ops ++ ys)) s.sizes g.sizes (lt_is _ _ e))
        (λ e. let ge = not_lt (length s.ops) (length (s.ops ++ ys)) e in let same : length s.ops ≡ length (s.ops ++ ys) = omega (arith, l, ge) in subst (λ n. AreSizes n s.sizes) same g.sizes);
    commits = either (AreCommits m (s.ops ++ ys)) (nat_lt (length s.ops) (length (s.ops ++ ys))) _ _
        (λ e. commits_with (s.ops ++ ys) s.sizes (length (s.ops ++ ys)) (commits_all s.ops ys s.sizes g.sizes g.commits) (rw (take-length (s.ops ++ ys)) ends))
        (λ e. commits_all s.ops ys s.sizes g.sizes g.commits);
    nodes = g.nodes;
    within = omega (arith, l, g.within);
    durable = either (λ sizes. IsDurable sizes s.durable) (nat_lt (length s.ops) (length (s.ops ++ ys))) _ _ (λ e. durable_longer s.sizes (length (s.ops ++ ys) ∷ []) s.durable some g.durable) (λ e. g.durable);
    start = g.start;
    pruned = g.pruned;
    floor = rw (take-append-le s.durable s.ops ys g.within) g.floor;
    wstart = either (λ sizes. s.wstart ≤ first_at_least s.prune sizes) (nat_lt (length s.ops) (length (s.ops ++ ys))) _ _
        (λ e. let more = first_longer s.prune s.sizes (length (s.ops ++ ys) ∷ []) in omega (arith, more, g.wstart)) (λ e. g.wstart);
  }
    where
      l : length (s.ops ++ ys) ≡ length s.ops + length ys
      l = length-append s.ops ys

  pub good_applied : (s : State Op) (b : ℕ) (c : SealedBatch Op) (n : ℕ) → 1 ≤ s.durable → IsGood m among allowed first s → batch_at s b ≡ Sealed c → s.ops ≡ take n c.list
      → IsGood m among allowed first (applied s c)
  good_applied s b c n some g is front =
      let good : IsGoodBatch m among allowed first (Sealed c) = subst (IsGoodBatch m among allowed first) is (g.batches b) in
      let e : s.ops ++ drop n c.list ≡ c.list = ap (λ xs. xs ++ drop n c.list) front ∙ take-append-drop n c.list in
      let log : IsGoodLog m (record s { ops = s.ops ++ drop n c.list; sizes = sizes_with s.sizes (length s.ops) (length (s.ops ++ drop n c.list)) })
      = log_grown s (drop n c.list) some (rw e good.0.stand.0) g.log in
      let P : List Op → Type 0 = λ list. IsGoodLog m (record s { ops = list; sizes = sizes_with s.sizes (length s.ops) (length list) }) in
      good_moved s (applied s c) g good.0 (subst P e log) refl

  -- ---- durability

  log_durable : (s : State Op) (nodes : ℕ) → nodes ≤ length s.ops → s.prune ≤ nodes → IsGoodList m among allowed first s.ops → IsGoodLog m s → IsGoodLog m (record s { durable = length s.ops; node_durable = nodes })
  log_durable s nodes few low ops g = record {
    sizes = g.sizes;
    commits = g.commits;
    nodes = few;
    within = omega arith;
    durable = inl (last_applied (length s.ops) s.sizes g.sizes);
    start = g.start;
    pruned = low;
    floor = let le = durable_floor s ops g in rw (take-length s.ops) (omega (arith, le, g.floor));
    wstart = g.wstart;
  }

  pub good_committed : (s : State Op) → IsGood m among allowed first s → IsGood m among allowed first (committed s)
  good_committed s g = good_moved s (committed s) g g.ops (log_durable s s.node_durable (let a = g.log.nodes in let b = g.log.within in omega (arith, a, b)) g.log.pruned g.ops g.log) refl

  pub good_synced : (s : State Op) → IsGood m among allowed first s → IsGood m among allowed first (synced s)
  good_synced s g = good_moved s (synced s) g g.ops (log_durable s (length s.ops) (omega arith) (let a = g.log.nodes in let b = g.log.within in let c = g.log.pruned in omega (arith, a, b, c)) g.ops g.log) refl

  -- what is pruned to a location that isn't above the floor
  pub good_pruned : (log_blob witness_blob : ℕ) (s : State Op) (l : ℕ) → l ≤ floor_of m s.ops → IsGood m among allowed first s → IsGood m among allowed first (pruned log_blob witness_blob s l)
  good_pruned log_blob witness_blob s l le g = good_moved s (pruned log_blob witness_blob s l) g g.ops log refl
    where
      low : floor_of m s.ops ≤ length s.ops
      low = floor_within m among allowed first s.ops g.ops.stand.0 g.ops.floors

      synced_log : IsGoodLog m (synced s)
      synced_log = (good_synced s g).log

      log : IsGoodLog m (pruned log_blob witness_blob s l)
      log = record {
        sizes = g.log.sizes;
        commits = g.log.commits;
        nodes = omega arith;
        within = omega arith;
        durable = inl (last_applied (length s.ops) s.sizes g.log.sizes);
        start = let by = blobs_below log_blob l in let old = g.log.start in omega (arith, by, old);
        pruned = let old = synced_log.pruned in omega (arith, old, le, low);
        floor = let old : s.prune ≤ floor_of m s.ops = rw (← take-length s.ops) synced_log.floor in rw (take-length s.ops) (omega (arith, old, le));
        wstart =
            let by = blobs_below witness_blob (first_at_least l s.sizes) in
            let here = first_higher l (max s.prune l) s.sizes (omega arith) in
            let there = first_higher s.prune (max s.prune l) s.sizes (omega arith) in
            let old = g.log.wstart in
            omega (arith, by, here, there, old);
      }
