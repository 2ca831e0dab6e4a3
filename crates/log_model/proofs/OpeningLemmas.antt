-- What is opened of an image that stands for a good state.
use Rattle.std.proofs.Common.{◌≡◌, ℕ, zero, suc, ◌+◌, ◌<◌, ◌≤◌, Bool, true, false, cond, ◌&&◌, List, [], ◌∷◌, ◌++◌, length, take, drop, get_or, inl, inr, refl, sym, ◌∙◌, ap, subst, arith, take-take}
use Rattle.std.specs.Prelude.{nat_le, nat_lt, is_some, unwrap_or, Contains}
use Rattle.std.proofs.lemmas.List.{length-take-le, take-append-drop}
use Rattle.std.proofs.lemmas.Bool.Decides.{nat_tests}
use Rattle.tree_shape.specs.Hashing.{Hashing}
use Rattle.tree_shape.specs.Shape.{Shape}
use Rattle.volume_base.specs.Log.{Log, end_of}
use Rattle.volume_base.specs.Moments.{Image}
use Rattle.log_model.specs.Meaning.{Meaning}
use Rattle.log_model.specs.Operations.{floor_of}
use Rattle.log_model.specs.Machine.{State}
use Rattle.log_model.specs.AppliedSizes.{RiseTo, AreSizes, sizes_to, first_at_least}
use Rattle.log_model.specs.Good.{EndsWithCommit, FloorsRise, ValuesAre, IsGoodList, AreCommits, IsDurable, IsGoodLog, IsGood}
use Rattle.log_model.specs.Stored.{DatabaseNames, StandsFor, durable_witnesses}
use Rattle.log_model.specs.Opening.{has, last_kept, opens_at, opened, commit_from, last_commit}
use Rattle.log_model.proofs.LogLemmas.{ends_at}
use Rattle.log_model.proofs.SizeLemmas.{either, le_is, not_le, lt_is, rise_le, last_applied, first_higher}
use Rattle.log_model.proofs.FloorLemmas.{floor_later}

-- ---- sizes up to one of them

-- nothing is left of those past a size
nothing_past : (k high : ℕ) (ns : List ℕ) → RiseTo k high ns → sizes_to k ns ≡ []
nothing_past k high [] r = refl
nothing_past k high (j ∷ ns) r = none (nat_le j k) refl
  where
    none : (b : Bool) → nat_le j k ≡ b → cond b (j ∷ sizes_to k ns) [] ≡ []
    none true e = absurd (let le = le_is j k e in let lt = r.0 in omega (arith, le, lt))
    none false e = refl

at_least : (k high n : ℕ) (ns : List ℕ) → RiseTo k high ns → Contains (k ∷ ns) n → k ≤ n
at_least k high n ns r (zero, lt, is) = omega (arith, is)
at_least k high n [] r (suc i, lt, is) = absurd (omega (arith, lt))
at_least k high n (j ∷ ns) r (suc i, lt, is) = let later = at_least j high n ns r.1 (i, omega (arith, lt), is) in let here = r.0 in omega (arith, later, here)

-- those up to one of them rise to it
rise_cut : (low high n : ℕ) (ns : List ℕ) → RiseTo low high ns → Contains ns n → RiseTo low n (sizes_to n ns)
rise_cut low high n [] r c = absurd (let lt = c.1 in omega (arith, lt))
rise_cut low high n (k ∷ ns) r c = pick (λ d. rise_cut k high n ns r.1 d) (nat_le k n) refl c
  where
    pick : (Contains ns n → RiseTo k n (sizes_to n ns)) → (b : Bool) → nat_le k n ≡ b → Contains (k ∷ ns) n → RiseTo low n (cond b (k ∷ sizes_to n ns) [])
    pick more true e (zero, lt, is) = let same : k ≡ n = is in let base : RiseTo k k (sizes_to k ns) = rw (nothing_past k high ns r.1) refl in (r.0, subst (λ x. RiseTo k x (sizes_to x ns)) same base)
    pick more true e (suc i, lt, is) = (r.0, more (i, omega (arith, lt), is))
    pick more false e c = absurd (let gt = not_le k n e in let ge = at_least k high n ns r.1 c in omega (arith, gt, ge))

pub sizes_cut : (total n : ℕ) (sizes : List ℕ) → AreSizes total sizes → Contains sizes n → AreSizes n (sizes_to n sizes)
sizes_cut total n [] r c = absurd r
sizes_cut total n (k ∷ ns) r c = pick (nat_le k n) refl c
  where
    rises : RiseTo k total ns
    rises = let one = r.0 in rw one r.1

    pick : (b : Bool) → nat_le k n ≡ b → Contains (k ∷ ns) n → AreSizes n (cond b (k ∷ sizes_to n ns) [])
    pick true e (zero, lt, is) = let one : k ≡ 1 = r.0 in let same : k ≡ n = is in let base : RiseTo 1 k (sizes_to k ns) = rw (nothing_past k total ns rises) (sym one) in (one, subst (λ x. RiseTo 1 x (sizes_to x ns)) same base)
    pick true e (suc i, lt, is) = (r.0, rise_cut 1 total n ns r.1 (i, omega (arith, lt), is))
    pick false e c = absurd (let gt = not_le k n e in let ge = at_least k total n ns rises c in omega (arith, gt, ge))

-- what is pruned is looked for below that size alone
first_cut : (l n : ℕ) (ns : List ℕ) → l ≤ n → first_at_least l (sizes_to n ns) ≡ first_at_least l ns
first_cut l n [] le = refl
first_cut l n (k ∷ ns) le = pick (first_cut l n ns le) (nat_le l k) (nat_le k n) refl refl
  where
    pick : first_at_least l (sizes_to n ns) ≡ first_at_least l ns → (a b : Bool) → nat_le l k ≡ a → nat_le k n ≡ b → first_at_least l (cond b (k ∷ sizes_to n ns) []) ≡ cond a zero (suc (first_at_least l ns))
    pick more true true e f = rw e refl
    pick more true false e f = refl
    pick more false true e f = rw (e, more) refl
    pick more false false e f = absurd (let gt = not_le l k e in let out = not_le k n f in omega (arith, gt, out, le))

-- ---- where it is opened

-- what stands at the place of a kept size, or before any, is answered
last_is : (P : ℕ → Type 0) (most : ℕ) (witness : Log) (before i : ℕ) (ns : List ℕ) → P before → ((k : ℕ) → k < length ns → (d : ℕ) → P (get_or ns k d)) → P (last_kept most witness before i ns)
last_is P most witness before i [] h all = h
last_is P most witness before i (n ∷ ns) h all =
    last_is P most witness (cond (nat_le n most && has witness i) n before) (i + 1) ns
    (either P (nat_le n most && has witness i) n before (λ e. all 0 (omega arith) 0) (λ e. h))
    (λ k lt d. all (suc k) (omega (arith, lt)) d)

-- ---- a list and its front

module _ {Op V : Type 0} (m : Meaning Op V) (among : List Op → Type 0) (allowed : V → Type 0) (first : Op) where
  -- what stands of a list and of its front
  values_front : (xs ys : List Op) → ValuesAre m allowed (xs ++ ys) → ValuesAre m allowed xs
  values_front [] ys h = tt
  values_front (x ∷ xs) ys h = (h.0, values_front xs ys h.1)

  floors_front : (low i : ℕ) (xs ys : List Op) → FloorsRise m low i (xs ++ ys) → FloorsRise m low i xs
  floors_front low i [] ys h = tt
  floors_front low i (x ∷ xs) ys h = (h.0, floors_front (unwrap_or (m.floor x) low) (i + 1) xs ys h.1)

  -- a front of a good list that ends with a commit is good
  pub good_front : (others : List Op → Type 0) (list : List Op) (n : ℕ) → 1 ≤ n → n ≤ length list → EndsWithCommit m (take n list) → others (take n list) → IsGoodList m among allowed first list → IsGoodList m others allowed first (take n list)
  good_front others list n some le ends known g =
      let joined : take n list ++ drop n list ≡ list = take-append-drop n list in
      let l : length (take n list) ≡ n = length-take-le n list le in
      record {
        begins = take-take 1 n list some ∙ g.begins;
        stand = (ends, known);
        few = let f = g.few in omega (arith, l, le, f);
        values = values_front (take n list) (drop n list) (rw joined g.values);
        floors = floors_front 0 0 (take n list) (drop n list) (rw joined g.floors);
      }

-- what was found is never given up for less
last_low : (most : ℕ) (witness : Log) (before i low high : ℕ) (ns : List ℕ) → before ≤ low → RiseTo low high ns → before ≤ last_kept most witness before i ns
last_low most witness before i low high [] le r = omega arith
last_low most witness before i low high (n ∷ ns) le r = pick (nat_le n most && has witness i)
    (λ le'. last_low most witness n (i + 1) n high ns le' r.1) (λ le'. last_low most witness before (i + 1) n high ns le' r.1)
  where
    pick : (b : Bool) → (n ≤ n → n ≤ last_kept most witness n (i + 1) ns) → (before ≤ n → before ≤ last_kept most witness before (i + 1) ns) → before ≤ last_kept most witness (cond b n before) (i + 1) ns
    pick true f g = let later = f (omega arith) in let here = r.0 in omega (arith, later, here, le)
    pick false f g = let here = r.0 in g (omega (arith, le, here))

is_kept : (n i most : ℕ) (witness : Log) → n ≤ most → witness.start ≤ i → i < end_of witness → (nat_le n most && has witness i) ≡ true
is_kept n i most witness a b c = all (nat_le n most) (nat_le witness.start i) (nat_lt i (end_of witness)) (le_so n most a) (le_so witness.start i b) (lt_so i (end_of witness) c)
  where
    le_so : (m n : ℕ) → m ≤ n → nat_le m n ≡ true
    le_so m n le = grind (arith, nat_tests)

    lt_so : (m n : ℕ) → m < n → nat_lt m n ≡ true
    lt_so m n lt = grind (arith, nat_tests)

    all : (x y z : Bool) → x ≡ true → y ≡ true → z ≡ true → (x && (y && z)) ≡ true
    all true true true e f g = refl
    all true true false e f g = absurd (cc)
    all true false z e f g = absurd (cc)
    all false y z e f g = absurd (cc)

-- a size that both logs keep is answered, or one past it
last_past : (most : ℕ) (witness : Log) (before i low high : ℕ) (ns : List ℕ) (d : ℕ) → RiseTo low high ns → (k : ℕ) → k < length ns → get_or ns k d ≡ d → d ≤ most → witness.start ≤ i + k → i + k < end_of witness
    → d ≤ last_kept most witness before i ns
last_past most witness before i low high [] d r k lt is a b c = absurd (omega (arith, lt))
last_past most witness before i low high (n ∷ ns) d r zero lt is a b c =
    let same : n ≡ d = is in
    let kept : (nat_le n most && has witness i) ≡ true = is_kept n i most witness (omega (arith, same, a)) (omega (arith, b)) (omega (arith, c)) in
    let found : n ≤ last_kept most witness n (i + 1) ns = last_low most witness n (i + 1) n high ns (omega arith) r.1 in
    let P : Bool → Type 0 = λ t. d ≤ last_kept most witness (cond t n before) (i + 1) ns in
    subst P (sym kept) (omega (arith, found, same))
last_past most witness before i low high (n ∷ ns) d r (suc k) lt is a b c =
    last_past most witness (cond (nat_le n most && has witness i) n before) (i + 1) n high ns d r.1 k (omega (arith, lt)) is a (omega (arith, b)) (omega (arith, c))

-- the first that is at least one of them is that one
first_is : (low high l : ℕ) (ns : List ℕ) → RiseTo low high ns → Contains ns l → (first_at_least l ns < length ns) × (get_or ns (first_at_least l ns) l ≡ l)
first_is low high l [] r c = absurd (let lt = c.1 in omega (arith, lt))
first_is low high l (n ∷ ns) r c = pick (λ d. first_is n high l ns r.1 d) (nat_le l n) refl c
  where
    abbrev_goal : ℕ → Type 0
    abbrev_goal k = (k < length (n ∷ ns)) × (get_or (n ∷ ns) k l ≡ l)

    pick : (Contains ns l → (first_at_least l ns < length ns) × (get_or ns (first_at_least l ns) l ≡ l)) → (b : Bool) → nat_le l n ≡ b → Contains (n ∷ ns) l → abbrev_goal (cond b zero (suc (first_at_least l ns)))
    pick more true e (zero, lt, is) = (omega arith, is)
    pick more true e (suc i, lt, is) =
        let low = le_is l n e in
        let ge = at_least n high l ns r.1 (suc i, lt, is) in
        let same : n ≡ l = omega (arith, low, ge) in
        (omega arith, same)
    pick more false e (zero, lt, is) = absurd (let gt = not_le l n e in let same : n ≡ l = is in omega (arith, gt, same))
    pick more false e (suc i, lt, is) = let d = more (i, omega (arith, lt), is) in let below = d.0 in (omega (arith, below), d.1)

pub rises_from_zero : (total : ℕ) (sizes : List ℕ) → AreSizes total sizes → RiseTo 0 total sizes
rises_from_zero total [] r = absurd r
rises_from_zero total (n ∷ ns) r = let one = r.0 in (omega (arith, one), rw one r.1)

-- an applied size isn't 0
pub applied_some : (total n : ℕ) (sizes : List ℕ) → AreSizes total sizes → Contains sizes n → 1 ≤ n
applied_some total n [] r c = absurd r
applied_some total n (k ∷ ns) r c = let one = r.0 in let le = at_least k total n ns (rw one r.1) c in omega (arith, one, le)

pub rise_all : (low high n : ℕ) (ns : List ℕ) → RiseTo low high ns → Contains ns n → n ≤ high
rise_all low high n [] r c = absurd (let lt = c.1 in omega (arith, lt))
rise_all low high n (k ∷ ns) r (zero, lt, is) = let same : k ≡ n = is in let le = rise_le k high ns r.1 in omega (arith, same, le)
rise_all low high n (k ∷ ns) r (suc i, lt, is) = rise_all k high n ns r.1 (i, omega (arith, lt), is)

module _ {D Op V : Type 0} (s : Shape) (h : Hashing D) (spelling : D → List ℕ) (m : Meaning Op V) (among : List Op → Type 0) (allowed : V → Type 0) (first : Op) (names : DatabaseNames) (state : State Op) (image : Image) where
  has_one : (total : ℕ) (sizes : List ℕ) → AreSizes total sizes → Contains sizes 1
  has_one total [] r = absurd r
  has_one total (n ∷ ns) r = (0, omega arith, r.0)

  same_there : (ns : List ℕ) (k d e : ℕ) → k < length ns → get_or ns k d ≡ get_or ns k e
  same_there [] k d e lt = absurd (omega (arith, lt))
  same_there (n ∷ ns) zero d e lt = refl
  same_there (n ∷ ns) (suc k) d e lt = same_there ns k d e (omega (arith, lt))

  witnesses_there : (durable : ℕ) → 1 ≤ durable → durable_witnesses state.sizes durable ≤ end_of (image.log names.witness) → first_at_least durable state.sizes + 1 ≤ end_of (image.log names.witness)
  witnesses_there zero some le = absurd (omega (arith, some))
  witnesses_there (suc d) some le = le

  commits_cut : (n : ℕ) (ns : List ℕ) → AreCommits m state.ops ns → AreCommits m (take n state.ops) (sizes_to n ns)
  commits_cut n [] h = tt
  commits_cut n (k ∷ ns) h = pick (commits_cut n ns h.1) (nat_le k n) refl
    where
      pick : AreCommits m (take n state.ops) (sizes_to n ns) → (b : Bool) → nat_le k n ≡ b → AreCommits m (take n state.ops) (cond b (k ∷ sizes_to n ns) [])
      pick more true e = (rw (take-take k n state.ops (le_is k n e)) h.0, more)
      pick more false e = tt

  -- it is opened at an applied size
  pub opens_applied : IsGood m among allowed first state → Contains state.sizes (opens_at names state image)
  opens_applied g = last_is (Contains state.sizes) (end_of (image.log names.log)) (image.log names.witness) 1 0 state.sizes (has_one (length state.ops) state.sizes g.log.sizes)
      (λ k lt d. (k, lt, same_there state.sizes k (get_or state.sizes k d) d lt))

  pub opens_some : IsGood m among allowed first state → 1 ≤ opens_at names state image
  opens_some g = applied_some (length state.ops) (opens_at names state image) state.sizes g.log.sizes (opens_applied g)

  -- at or past the durable one
  pub opens_past : IsGood m among allowed first state → StandsFor s h spelling m names state image → state.durable ≤ opens_at names state image
  opens_past g stands = by g.log.durable
    where
      by : IsDurable state.sizes state.durable → state.durable ≤ opens_at names state image
      by (inr p) = let none = p.0 in omega (arith, none)
      by (inl c) =
          let rises = rises_from_zero (length state.ops) state.sizes g.log.sizes in
          let at = first_is 0 (length state.ops) state.durable state.sizes rises c in
          let low = first_higher state.prune state.durable state.sizes (let a = g.log.pruned in let b = g.log.nodes in omega (arith, a, b)) in
          let start = stands.compact.start_high in
          let some = applied_some (length state.ops) state.durable state.sizes g.log.sizes c in
          let end = witnesses_there state.durable some stands.compact.end_low in
          last_past (end_of (image.log names.log)) (image.log names.witness) 1 0 0 (length state.ops) state.sizes state.durable rises (first_at_least state.durable state.sizes) at.0 at.1 stands.full.operations.end_low (omega (arith, low, start)) (omega (arith, end))

  -- the floor at the durable size is at most that where it is opened
  opened_floor : (n : ℕ) → state.durable ≤ n → n ≤ length state.ops → EndsWithCommit m (take n state.ops) → FloorsRise m 0 0 (take n state.ops) → IsGoodLog m state → floor_of m (take state.durable state.ops) ≤ floor_of m (take n state.ops)
  opened_floor n le high ends rise g = by g.durable
    where
      front : take state.durable (take n state.ops) ≡ take state.durable state.ops
      front = take-take state.durable n state.ops le

      joined : take state.durable state.ops ++ drop state.durable (take n state.ops) ≡ take n state.ops
      joined = ap (λ xs. xs ++ drop state.durable (take n state.ops)) (sym front) ∙ take-append-drop state.durable (take n state.ops)

      by : IsDurable state.sizes state.durable → floor_of m (take state.durable state.ops) ≤ floor_of m (take n state.ops)
      by (inr p) = rw p.0 (omega arith)
      by (inl c) =
          let its : EndsWithCommit m (take state.durable state.ops) = ends_at m among allowed first state.ops state.sizes c.0 state.durable state.durable g.commits c.1 c.2 in
          subst (λ list. floor_of m (take state.durable state.ops) ≤ floor_of m list) joined
          (floor_later m among allowed first (take state.durable state.ops) (drop state.durable (take n state.ops)) its (rw joined ends) (rw joined rise))

  pub opens_good : (others : List Op → Type 0) → IsGood m among allowed first state → StandsFor s h spelling m names state image → others (take (opens_at names state image) state.ops) → IsGood m others allowed first (opened names state image)
  opens_good others g stands known = record { ops = ops; log = log; batches = λ b. tt; parents = λ b. tt }
    where
      n : ℕ
      n = opens_at names state image

      c : Contains state.sizes n
      c = opens_applied g

      some : 1 ≤ n
      some = applied_some (length state.ops) n state.sizes g.log.sizes c

      high : n ≤ length state.ops
      high = rise_all 0 (length state.ops) n state.sizes (rises_from_zero (length state.ops) state.sizes g.log.sizes) c

      past : state.durable ≤ n
      past = opens_past g stands

      ops : IsGoodList m others allowed first (take n state.ops)
      ops = good_front m among allowed first others state.ops n some high (ends_at m among allowed first state.ops state.sizes c.0 n n g.log.commits c.1 c.2) known g.ops

      l : length (take n state.ops) ≡ n
      l = length-take-le n state.ops high

      sizes : AreSizes n (sizes_to n state.sizes)
      sizes = sizes_cut (length state.ops) n state.sizes g.log.sizes c

      low : state.prune ≤ n
      low = let a = g.log.pruned in let b = g.log.nodes in omega (arith, a, b, past)

      log : IsGoodLog m (opened names state image)
      log = record {
        sizes = rw l sizes;
        commits = commits_cut n state.sizes g.log.commits;
        nodes = omega arith;
        within = omega (arith, l);
        durable = inl (last_applied n (sizes_to n state.sizes) sizes);
        start = stands.full.operations.start_high;
        pruned = low;
        floor = let here = opened_floor n past high ops.stand.0 ops.floors g.log in let old = g.log.floor in rw (take-take n n state.ops (omega arith)) (omega (arith, here, old));
        wstart = let start = stands.compact.start_high in rw (first_cut state.prune n state.sizes low) start;
      }

-- ---- where both databases open

-- two bounds that agree on the sizes choose one size
same_kept : (most most' : ℕ) (witness : Log) (before i : ℕ) (ns : List ℕ) → ((k : ℕ) → k < length ns → (d : ℕ) → nat_le (get_or ns k d) most ≡ nat_le (get_or ns k d) most') → last_kept most witness before i ns ≡ last_kept most' witness before i ns
same_kept most most' witness before i [] all = refl
same_kept most most' witness before i (n ∷ ns) all =
    ap (λ t. last_kept most witness (cond (t && has witness i) n before) (i + 1) ns) (all 0 (omega arith) 0)
    ∙ same_kept most most' witness (cond (nat_le n most' && has witness i) n before) (i + 1) ns (λ k lt d. all (suc k) (omega (arith, lt)) d)

module _ {Op V : Type 0} (m : Meaning Op V) where
  -- what was found isn't past the bound
  pub commit_below : (most i found : ℕ) (ops : List Op) → found ≤ most → commit_from m most i found ops ≤ most
  commit_below most i found [] le = le
  commit_below most i found (op ∷ ops) le = commit_below most (i + 1) (cond (nat_lt i most && is_some (m.floor op)) (i + 1) found) ops
      (either (λ n. n ≤ most) (nat_lt i most && is_some (m.floor op)) (i + 1) found (λ e. first_of (nat_lt i most) (is_some (m.floor op)) refl e) (λ e. le))
    where
      first_of : (x y : Bool) → nat_lt i most ≡ x → (x && y) ≡ true → i + 1 ≤ most
      first_of true y e f = let lt = lt_is i most e in omega (arith, lt)
      first_of false y e f = absurd (cc)

  -- nor is anything found given up for less
  commit_low : (most i found : ℕ) (ops : List Op) → found ≤ i → found ≤ commit_from m most i found ops
  commit_low most i found [] le = omega arith
  commit_low most i found (op ∷ ops) le = pick (nat_lt i most && is_some (m.floor op)) (λ le'. commit_low most (i + 1) (i + 1) ops le') (λ le'. commit_low most (i + 1) found ops le')
    where
      pick : (b : Bool) → (i + 1 ≤ i + 1 → i + 1 ≤ commit_from m most (i + 1) (i + 1) ops) → (found ≤ i + 1 → found ≤ commit_from m most (i + 1) found ops) → found ≤ commit_from m most (i + 1) (cond b (i + 1) found) ops
      pick true f g = let later = f (omega arith) in omega (arith, later, le)
      pick false f g = g (omega (arith, le))

  -- a front that ends with a commit ends at or below the last
  pub commit_past : (most i found : ℕ) (ops : List Op) (n : ℕ) → 1 ≤ n → n ≤ length ops → i + n ≤ most → EndsWithCommit m (take n ops) → i + n ≤ commit_from m most i found ops
  commit_past most i found [] n some le hi e = absurd (omega (arith, some, le))
  commit_past most i found (op ∷ ops) zero some le hi e = absurd (omega (arith, some))
  commit_past most i found (op ∷ ops) (suc zero) some le hi e = found_here (nat_lt i most) (is_some (m.floor op)) (so_lt i most (omega (arith, hi))) e
    where
      so_lt : (a b : ℕ) → a < b → nat_lt a b ≡ true
      so_lt a b lt = grind (arith, nat_tests)

      found_here : (x y : Bool) → x ≡ true → y ≡ true → i + 1 ≤ commit_from m most (i + 1) (cond (x && y) (i + 1) found) ops
      found_here true true a b = commit_low most (i + 1) (i + 1) ops (omega arith)
      found_here false y a b = absurd (cc)
      found_here true false a b = absurd (cc)
  commit_past most i found (op ∷ []) (suc (suc n)) some le hi e = absurd (omega (arith, le))
  commit_past most i found (op ∷ next ∷ ops) (suc (suc n)) some le hi e =
      let later = commit_past most (i + 1) (cond (nat_lt i most && is_some (m.floor op)) (i + 1) found) (next ∷ ops) (suc n) (omega arith) (omega (arith, le)) (omega (arith, hi)) e in
      omega (arith, later)

  -- an applied size is reached by the log exactly where it isn't past the log's last commit
  pub reaches_same : (ops : List Op) (most n : ℕ) → 1 ≤ n → n ≤ length ops → EndsWithCommit m (take n ops) → nat_le n most ≡ nat_le n (last_commit m most ops)
  reaches_same ops most n some le e = both (nat_le n most) (nat_le n (last_commit m most ops)) refl refl
    where
      both : (x y : Bool) → nat_le n most ≡ x → nat_le n (last_commit m most ops) ≡ y → x ≡ y
      both true true a b = refl
      both false false a b = refl
      both true false a b = absurd (let in_ = le_is n most a in let out = not_le n (last_commit m most ops) b in let past = commit_past most 0 0 ops n some le (omega (arith, in_)) e in omega (arith, out, past))
      both false true a b = absurd (let in_ = le_is n (last_commit m most ops) b in let out = not_le n most a in let low = commit_below most 0 0 ops (omega arith) in omega (arith, in_, out, low))

-- So the compact database, whose cap is the last commit of the log of operations, opens where the image does.
pub opens_at_cap : {Op V : Type 0} (m : Meaning Op V) (first : Op) (names : DatabaseNames) (state : State Op) (image : Image) → IsGoodLog m state
    → opens_at names state image ≡ last_kept (last_commit m (end_of (image.log names.log)) state.ops) (image.log names.witness) 1 0 state.sizes
opens_at_cap m first names state image g =
    same_kept (end_of (image.log names.log)) (last_commit m (end_of (image.log names.log)) state.ops) (image.log names.witness) 1 0 state.sizes (λ k lt d.
    let n : ℕ = get_or state.sizes k d in
    let c : Contains state.sizes n = (k, lt, there state.sizes k n d lt) in
    let some = applied_some (length state.ops) n state.sizes g.sizes c in
    let le = rise_all 0 (length state.ops) n state.sizes (rises_from_zero (length state.ops) state.sizes g.sizes) c in
    reaches_same m state.ops (end_of (image.log names.log)) n some le (ends_at m (λ list. Unit {0}) (λ v. Unit {0}) first state.ops state.sizes k n n g.commits lt (there state.sizes k n d lt)))
  where
    there : (ns : List ℕ) (k d e : ℕ) → k < length ns → get_or ns k d ≡ get_or ns k e
    there [] k d e lt = absurd (omega (arith, lt))
    there (n ∷ ns) zero d e lt = refl
    there (n ∷ ns) (suc k) d e lt = there ns k d e (omega (arith, lt))
