-- A tree that begins in a sync.
use Rattle.std.proofs.Common.{◌≡◌, inl, inr, ℕ, ◌-◌, ◌*◌, ◌<◌, ◌≤◌, List, ◌++◌, length, map, take, drop, Option, Some, None, refl, sym, ◌∙◌, ap, subst, arith}
use Rattle.std.specs.Prelude.{◌^◌, ◌⊎◌, All, slice_get, IsSome, IfSome, unwrap_or}
use Rattle.std.specs.Option.{option_map}
use Rattle.std.specs.FinMap as finmap
use Rattle.std.specs.FinMap.{get-empty}
use Rattle.std.proofs.lemmas.Bool.{cases_lt}
use Rattle.std.proofs.lemmas.List.{length-take, length-map, take-map, take-append-drop, drop_all}
use Rattle.journal_base.specs.Blobs.{blob_start}
use Rattle.journal_base.specs.View.{View, IsHeld}
use Rattle.volume_base.specs.Bounds.{IsRunOf}
use Rattle.volume_base.specs.Log.{Log, IsItemAt, end_of, cut_to, BecomesOneOf}
use Rattle.volume_base.specs.Moments.{Image, PairKeeps}
use Rattle.volume_base.specs.Names.{log_alone, NamesCall}
use Rattle.volume_base.specs.Volume.{State, Map, SameContents, PastStays, OnlyLeft, MapMoves}
use Rattle.volume_base.proofs.BoundLemmas.{run_pruned}
use Rattle.volume_base.proofs.MomentLemmas.{pair_keeps_joins, pair_moves_map}
use Rattle.tree_shape.specs.Hashing.{Hashing}
use Rattle.tree_shape.specs.Pins.{pins}
use Rattle.tree_shape.specs.Shape.{Shape, made, peaks, IsLawful}
use Rattle.tree_shape.specs.Slow.{nodes, node_of}
use Rattle.tree_shape.proofs.NeededLemmas.{made_le}
use Rattle.tree_store.specs.Stored.{size, node_key, IsMapOf}
use Rattle.tree_store.proofs.StoreLemmas.{get-take}
use Rattle.tree_store.proofs.StoredLemmas.{nodes_on}
use Rattle.tree_core.specs.Tree.{IsOf}
use Rattle.merkle_full.specs.Full.{Full, IsSeated}
use Rattle.merkle_full.specs.Lists.{AreDigests, IsFullOf}
use Rattle.merkle_full.specs.Preparing.{contents_of}
use Rattle.merkle_full.specs.Pruning.{pinned_map}
use Rattle.merkle_full.specs.Recovering.{Source, TellsPeaks}
use Rattle.merkle_full.specs.Syncing.{Covers, KeepsOf, log_begun, ArePins, IsMiscounted, IsBegunFrom}
use Rattle.merkle_full.proofs.FullLemmas.{length-nodes}
use Rattle.merkle_full.proofs.ListLemmas.{logged_entry, taken}
use Rattle.merkle_full.proofs.OpeningLemmas.{same_digest}
use Rattle.merkle_full.proofs.PeakLemmas.{pin_below, pin_of_peak, peak_of_pin, pin_count}
use Rattle.merkle_full.proofs.PinnedLemmas.{pinned_is_map}
use Rattle.merkle_full.proofs.SettleLemmas.{blob_below, end_cut, end_pruned, map_of_first, first_nodes, all_front}
use Rattle.merkle_full.proofs.StandLemmas.{pair_idle}

-- ---- the map of the pins alone

size_zero : (s : Shape) → length (made s 0) ≡ 0
unfolding made
size_zero s = refl

pub empty_map : {D : Type 0} (s : Shape) (h : Hashing D) (spelling : D → List ℕ) (all : List D) → IsLawful s → IsMapOf s h spelling all 0 finmap.empty
empty_map s h spelling all w = record {
  stored = inr (get-empty _ _, refl);
  within = omega arith;
  pins = λ p bytes lt is. absurd (let bad : None ≡ Some bytes = sym (get-empty _ _) ∙ is in cc);
  peaks = λ x k peak. absurd (let at = pin_of_peak s 0 x k peak in let low = pin_below s 0 at.0 (s.position x k) w at.1 in omega (arith, low, size_zero s));
}

pub begun_is_map : {D : Type 0} (s : Shape) (h : Hashing D) (spelling : D → List ℕ) (all ds : List D) (start : ℕ) → IsLawful s → size s start ≤ 2 * start → start ≤ 2 ^ 62 → start ≤ length all
    → length (pins s start) ≡ length ds → ds ≡ map (node_of s h all) (peaks s start) → IsMapOf s h spelling all start (pinned_map spelling finmap.empty (pins s start) ds start)
begun_is_map s h spelling all ds start w small few within counted is = pinned_is_map s h spelling all ds 0 start finmap.empty w small few (omega arith) within counted is (empty_map s h spelling all w)

-- ---- what map and log tell is the list's

module _ {D : Type 0} (s : Shape) (h : Hashing D) (w : IsLawful s) (spelling : D → List ℕ) (exact : (a b : D) → spelling a ≡ spelling b → a ≡ b) (all : List D) where
  node_pinned : (b p : ℕ) (m : Map) (bytes : List ℕ) (d : D) → IsMapOf s h spelling all b m → p < 2 ^ 64 → finmap.get m (node_key p) ≡ Some bytes → bytes ≡ spelling d → slice_get (nodes s h all) p ≡ Some d
  node_pinned b p m bytes d of lt is spelled = taken (nodes s h all) (size s b) p d (same_digest spelling (take (size s b) (nodes s h all)) p d bytes exact (of.pins p bytes lt is) spelled)

  node_logged : (end p : ℕ) (log : Log) (d : D) → IsRunOf (take end (map spelling (nodes s h all))) (cut_to log end) → IsItemAt log p (spelling d) → p < end → slice_get (nodes s h all) p ≡ Some d
  node_logged end p log d run item lt =
      let list = map spelling (nodes s h all) in
      let here : slice_get (take (end - log.start) log.items) (p - log.start) ≡ Some (spelling d) = get-take log.items (end - log.start) (p - log.start) (let low = item.low in omega (arith, lt, low)) ∙ item.here in
      let at : slice_get (take end list) p ≡ Some (spelling d) = sym (logged_entry (take end list) (cut_to log end) p run.items item.low) ∙ here in
      same_digest spelling (nodes s h all) p d (spelling d) exact (taken list end p (spelling d) at) refl

  -- at the peaks of `start` it is a pin, and behind them what is kept of the log
  module _ (start end : ℕ) (m : Map) (log : Log) (of : IsMapOf s h spelling all start m) where
    pub tells_kept : (source : Source D) (known : Type 0) → known → source.pins ≡ m → source.items.log ≡ log → source.items.spelling ≡ spelling → (n : ℕ) → n ≤ 2 ^ 62 → size s n ≤ 2 * n → IsRunOf (take (size s n) (map spelling (nodes s h all))) (cut_to log (size s n))
        → TellsPeaks known source s h all n
    tells_kept source known k pins_are log_is spells n few small run i p d at r = by (finmap.get source.pins (node_key p)) refl
      where
        low : p < size s n
        low = pin_below s n i p w at

        by : (o : Option (List ℕ)) → finmap.get source.pins (node_key p) ≡ o → slice_get (nodes s h all) p ≡ Some d
        by (Some bytes) is = node_pinned start p m bytes d of (omega (arith, low, small, few)) (ap (λ (x : Map). finmap.get x (node_key p)) (sym pins_are) ∙ is) (r.pinned bytes is ∙ ap (λ (f : D → List ℕ). f d) spells)
        by None is = node_logged (size s n) p log d run (subst (λ (l : Log). IsItemAt l p (spelling d)) log_is (subst (λ (f : D → List ℕ). IsItemAt source.items.log p (f d)) spells (r.logged is k))) low

    pub tells_pins : (source : Source D) (known : Type 0) → source.pins ≡ m → source.items.spelling ≡ spelling → start ≤ 2 ^ 62 → size s start ≤ 2 * start → TellsPeaks known source s h all start
    tells_pins source known pins_are spells few small i p d at r = by (finmap.get source.pins (node_key p)) refl
      where
        low : p < size s start
        low = pin_below s start i p w at

        by : (o : Option (List ℕ)) → finmap.get source.pins (node_key p) ≡ o → slice_get (nodes s h all) p ≡ Some d
        by (Some bytes) is = node_pinned start p m bytes d of (omega (arith, low, small, few)) (ap (λ (x : Map). finmap.get x (node_key p)) (sym pins_are) ∙ is) (r.pinned bytes is ∙ ap (λ (f : D → List ℕ). f d) spells)
        by None is =
            let peak = peak_of_pin s start i p at in
            let there = of.peaks peak.start peak.height peak.peak in
            let gone : finmap.get m (node_key (s.position peak.start peak.height)) ≡ None = ap (λ (q : ℕ). finmap.get m (node_key q)) (sym peak.position) ∙ ap (λ (x : Map). finmap.get x (node_key p)) (sym pins_are) ∙ is in
            absurd (let bad = subst (λ (o : Option (List ℕ)). IsSome o) gone there in cc)

    pub tells_begun : (source : Source D) (known : Type 0) → known → source.pins ≡ m → source.items.log ≡ log → source.items.spelling ≡ spelling → ((n : ℕ) → size s n ≤ 2 * n) → start ≤ 2 ^ 62 → end ≤ 2 ^ 62 → (kept : Option ℕ) → KeepsOf s start end log kept
        → ((n : ℕ) → Covers s start end log n → IsRunOf (take (size s n) (map spelling (nodes s h all))) (cut_to log (size s n))) → TellsPeaks known source s h all (unwrap_or kept start)
    tells_begun source known k pins_are log_is spells small few long None keeps run = tells_pins source known pins_are spells few (small start)
    tells_begun source known k pins_are log_is spells small few long (Some n) keeps run =
        let high : n ≤ 2 ^ 62 = omega (arith, keeps.most.few, long) in
        tells_kept source known k pins_are log_is spells n high (small n) (run n keeps)

-- ---- what holds of contents that are known

pub pins_known : {D : Type 0} (known : Type 0) (source : Source D) (ps qs : List ℕ) (given : Option (List D)) (ds : List D) → known → ps ≡ qs → ArePins known source ps given ds → ArePins (Unit {0}) source qs given ds
pins_known known source ps qs given ds k same are = record {
  counted = are.counted ∙ ap length same;
  handed = are.handed;
  read = λ none i p d at is. let r = are.read none i p d (ap (λ (l : List ℕ). slice_get l i) same ∙ at) is in record { allowed = r.allowed; pinned = r.pinned; logged = λ gone _. r.logged gone k };
}

pub held_later : {C : Type 0} (view : View C) (a b : State) → SameContents a b → IsHeld view a → IsHeld view b
held_later view a b same held = let log = same.logs view.name in record { start_is = held.start_is ∙ ap (λ (l : Log). l.start) (sym log); end_is = held.end_is ∙ ap end_of (sym log) }

-- a statement on contents holds of equal ones, at equal numbers
pub same_begun : {D : Type 0} (spelling : D → List ℕ) (admits : D → Type 0) (P : Source D → ℕ → ℕ → Type 0) (m n : Map) (log later : Log) (a b c d : ℕ) → m ≡ n → log ≡ later → a ≡ b → c ≡ d
    → P (contents_of spelling admits m log) a c → P (contents_of spelling admits n later) b d
same_begun {D = D} spelling admits P m n log later a b c d one two three four p =
    let of : Map → Log → Source D = contents_of spelling admits in
    subst (λ (k : ℕ). P (of n later) b k) four (subst (λ (k : ℕ). P (of n later) k c) three (subst (λ (l : Log). P (of n l) a c) two (subst (λ (x : Map). P (of x log) a c) one p)))

-- ---- what a crash leaves

module _ (one two : List ℕ) where
  -- the map becomes this one beside a log that stays
  pub map_begun : (made : Map) (a b : State) → MapMoves two (BecomesOneOf made) a b
      → PairKeeps one two (λ log m. (a.log_left a.clock one log × a.map_left a.clock two m) ⊎ (m ≡ made)) a b
  map_begun made a b moves =
      pair_moves_map one two (BecomesOneOf made) (λ log m. a.log_left a.clock one log × a.map_left a.clock two m) (λ log m. (a.log_left a.clock one log × a.map_left a.clock two m) ⊎ (m ≡ made)) a b moves (λ log m left_log left_map. (left_log, left_map))
      (λ log old new both step. elim step [
        | inl same ↦ inl (both.0, subst (λ (m : Map). a.map_left a.clock two m) (sym same) both.1)
        | inr is ↦ inr is
      ])

  -- and then the log moves
  pub log_after : (made : Map) (Q : Log → Map → Type 0) (a b d : State) → PairKeeps one two Q a b → OnlyLeft (b.map_left b.clock two) made → ((log : Log) → Q log made) → NamesCall (log_alone one) b d → PairKeeps one two Q a d
  log_after made Q a b d before only holds call = pair_keeps_joins one two Q a b d before (record {
    past = call.images.past;
    during = λ t log m lo hi left_log left_map. subst (λ (x : Map). Q log x) (sym (only m ((call.images.maps two tt t m lo hi).0 left_map))) (holds log);
  })

  -- behind reads it is as at first
  pub begun_after_reads : (made : Map) (P : Map → Type 0) (a b d : State) → b.clock ≡ a.clock → PastStays a b → P made
      → PairKeeps one two (λ log m. (b.log_left b.clock one log × b.map_left b.clock two m) ⊎ (m ≡ made)) b d
      → PairKeeps one two (λ log m. (a.log_left a.clock one log × a.map_left a.clock two m) ⊎ P m) a d
  begun_after_reads made P a b d clock past has keeps =
      let Q : Log → Map → Type 0 = λ log m. (a.log_left a.clock one log × a.map_left a.clock two m) ⊎ P m in
      pair_keeps_joins one two Q a b d (pair_idle one two Q a b clock past (λ log m left_log left_map. inl (left_log, left_map))) (record {
        past = keeps.past;
        during = λ t log m lo hi left_log left_map. elim (keeps.during t log m lo hi left_log left_map) [
          | inl both ↦ inl ((past.logs a.clock one log (omega arith)).0 (subst (λ (u : ℕ). b.log_left u one log) clock both.0), (past.maps a.clock two m (omega arith)).0 (subst (λ (u : ℕ). b.map_left u two m) clock both.1))
          | inr is ↦ inr (subst P (sym is) has)
        ];
      })

-- ---- the tree that has begun

pub kept_low : (start top : ℕ) (kept : Option ℕ) → IfSome kept (λ n. (start ≤ n) × (n ≤ top)) → start ≤ unwrap_or kept start
kept_low start top None within = omega arith
kept_low start top (Some n) within = within.0

pub kept_high : (start top : ℕ) (kept : Option ℕ) → IfSome kept (λ n. (start ≤ n) × (n ≤ top)) → start ≤ top → unwrap_or kept start ≤ top
kept_high start top None within le = le
kept_high start top (Some n) within le = within.1

-- given pins that aren't miscounted
pub counted_given : {V D : Type 0} (items : V → List D) (s : Shape) (start : ℕ) (given : Option V) (ps : List ℕ) → ps ≡ pins s start → (IsMiscounted s start (option_map items given) → ⊥) → IfSome given (λ v. length (items v) ≡ length ps)
counted_given items s start None ps at not = tt
counted_given items s start (Some v) ps at not = elim (cases_lt (length (items v)) (length (s.heights start))) [
  | inl below ↦ absurd (not (λ is. omega (arith, below, is)))
  | inr le ↦ elim (cases_lt (length (s.heights start)) (length (items v))) [
    | inl above ↦ absurd (not (λ is. omega (arith, above, is)))
    | inr high ↦ omega (arith, le, high, ap length at, pin_count s start)
  ]
]

pub ends_begun : (s : Shape) (blob start top from to : ℕ) (kept : Option ℕ) (log : Log) → from ≡ log.start → to ≡ end_of log → IfSome kept (λ n. (start ≤ n) × (n ≤ top)) → IfSome kept (λ n. from ≤ size s start) → IfSome kept (λ n. size s n ≤ to)
    → end_of (log_begun s blob start kept log) ≡ size s (unwrap_or kept start)
ends_begun s blob start top from to None log from_is to_is within low fits = omega arith
ends_begun s blob start top from to (Some n) log from_is to_is within low fits =
    let less = made_le s start n within.0 in
    let down = blob_below blob (size s start) in
    let ends = end_cut log (size s n) (omega (arith, low, from_is, less)) (omega (arith, fits, to_is)) in
    end_pruned (cut_to log (size s n)) (blob_start blob (size s start)) (omega (arith, ends, down, less)) ∙ ends

low_begun : (s : Shape) (blob start end : ℕ) (kept : Option ℕ) (log : Log) → KeepsOf s start end log kept → (log_begun s blob start kept log).start ≤ size s start
low_begun s blob start end None log keeps = omega arith
low_begun s blob start end (Some n) log keeps = let down = blob_below blob (size s start) in omega (arith, down, keeps.low)

module _ {D : Type 0} (s : Shape) (h : Hashing D) (w : IsLawful s) (all : List D) (start end : ℕ) (given : Option (List D)) (source : Source D) (from : IsBegunFrom s h all start end given source) where
  abbrev list : List (List ℕ)
  list = map source.items.spelling (nodes s h all)

  pub leaves_few : (kept : Option ℕ) → KeepsOf s start end source.items.log kept → unwrap_or kept start ≤ length all
  leaves_few None keeps = from.long
  leaves_few (Some n) keeps = from.few n keeps

  list_long : (n : ℕ) → n ≤ length all → length (take (size s n) list) ≡ size s n
  list_long n few =
      let less = made_le s n (length all) few in
      omega (arith, length-take (size s n) list, length-map (nodes s h all) source.items.spelling, length-nodes s h all, less)

  run_begun : (blob : ℕ) (kept : Option ℕ) → KeepsOf s start end source.items.log kept → IsRunOf (take (size s (unwrap_or kept start)) list) (log_begun s blob start kept source.items.log)
  run_begun blob None keeps = let long = list_long start from.long in record {
    items = sym (drop_all (size s start) (take (size s start) list) (omega (arith, long)));
    within = omega (arith, long);
  }
  run_begun blob (Some n) keeps =
      let long = list_long n (from.few n keeps) in
      let less = made_le s start n (omega (arith, keeps.past)) in
      let down = blob_below blob (size s start) in
      run_pruned (take (size s n) list) (cut_to source.items.log (size s n)) (blob_start blob (size s start)) (omega (arith, long, less, down)) (from.logged n keeps)

  pub begun_full : (admits : D → Type 0) (t : Full D) (image : Image) (kept : Option ℕ) → KeepsOf s start end source.items.log kept → IsSeated s t image → t.tree.boundary ≡ unwrap_or kept start → t.boundary ≡ start
      → IsMapOf s h source.items.spelling all start (image.map t.metadata) → image.log t.log.name ≡ log_begun s t.log.blob start kept source.items.log → AreDigests s h admits all
      → IsOf s h (take (unwrap_or kept start) all) t.tree → IsFullOf s h source.items.spelling admits (take (unwrap_or kept start) all) t image
  begun_full admits t image kept keeps seated boundary pruned pinned log digests of =
      let n = unwrap_or kept start in
      let few = leaves_few kept keeps in
      let le : start ≤ n = start_low kept keeps in
      let on = nodes_on s h (take n all) (drop n all) w in
      let whole : nodes s h all ≡ nodes s h (take n all) ++ on.0 = ap (nodes s h) (sym (take-append-drop n all)) ∙ on.1 in
      let list_is : take (size s n) list ≡ map source.items.spelling (take (size s t.tree.boundary) (nodes s h (take n all))) =
      take-map source.items.spelling (size s n) (nodes s h all) ∙ ap (map source.items.spelling) (sym (first_nodes s h w all n n (omega arith) few) ∙ ap (λ (k : ℕ). take (size s k) (nodes s h (take n all))) (sym boundary)) in
      record {
        digests = all_front admits (nodes s h (take n all)) on.0 (subst (All admits) whole digests);
        tree = of;
        start_is = seated.start_is;
        end_is = seated.end_is;
        nodes = subst (λ (l : List (List ℕ)). IsRunOf l (image.log t.log.name)) list_is (subst (λ (l : Log). IsRunOf (take (size s n) list) l) (sym log) (run_begun t.log.blob kept keeps));
        low = let down = low_begun s t.log.blob start end kept source.items.log keeps in omega (arith, seated.start_is, ap (λ (l : Log). l.start) log, down, ap (size s) pruned);
        pins = subst (λ (k : ℕ). IsMapOf s h source.items.spelling (take n all) k (image.map t.metadata)) (sym pruned) (map_of_first s h w all n source.items.spelling start (image.map t.metadata) le few pinned);
      }
    where
      start_low : (kept : Option ℕ) → KeepsOf s start end source.items.log kept → start ≤ unwrap_or kept start
      start_low None keeps = omega arith
      start_low (Some n) keeps = omega (arith, keeps.past)
