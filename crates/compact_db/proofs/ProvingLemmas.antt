-- The nodes of a sealed batch over a tree.
use Rattle.std.proofs.Common.{◌≡◌, inl, inr, ℕ, zero, suc, ◌+◌, ◌-◌, ◌^◌, ◌<◌, ◌≤◌, List, [], ◌∷◌, ◌++◌, length, map, reverse, Option, Some, None, refl, sym, ◌∙◌, ap, subst, arith}
use Rattle.std.specs.Prelude.{slice_get, IsSome}
use Rattle.std.proofs.lemmas.List.{append-nil, reverse-reverse}
use Rattle.std.proofs.lemmas.Bool.Decides.{leb_tells}
use Rattle.std.proofs.lemmas.Option.{slice_get_within, slice_get_past}
use Rattle.tree_shape.specs.Hashing.{Hashing}
use Rattle.tree_shape.specs.Kept.{PeakIn, KeepsPeaks}
use Rattle.tree_shape.specs.Pins.{pins, position_of}
use Rattle.tree_shape.specs.Shape.{Shape, IsLawful, inactive, made, peaks, peaks_down}
use Rattle.tree_shape.specs.Slow.{nodes, node_of}
use Rattle.tree_shape.proofs.NeededLemmas.{made_le}
use Rattle.tree_shape.proofs.NodeLemmas.{map-reverse}
use Rattle.tree_store.specs.Stores.{IsTreeOf, IsFirstAbsent, IsUnread}
use Rattle.tree_store.specs.declared.error.Error as tree
use Rattle.tree_store.specs.declared.error.Error.TheVariants as tree_error
use Rattle.tree_store.specs.declared.error.Error.TheVariants.{ElementPruned}
use Rattle.tree_proof.specs.Cover.{meets}
use Rattle.tree_proof.specs.SlowProof.{proof_of}
use Rattle.tree_proof.specs.declared.proof.Proof.{Proof}
use Rattle.log_model.specs.Meaning.{Meaning}
use Rattle.log_model.specs.Operations.{leaves_from}
use Rattle.log_model.specs.Witness.{pins_of}
use Rattle.log_model.proofs.OperationLemmas.{leaves_from-append, length-leaves_from}
use Rattle.chain_core.specs.Errors.{from_tree}
use Rattle.chain_core.specs.declared.error.Error.TheVariants.{Memory}
use Rattle.tree_core.specs.Batches.{Sealed, IsSealedOf, IsSoundSealed, sealed_node}
use Rattle.tree_core.specs.Links.{joined_nodes}
use Rattle.tree_core.specs.Overlay.{AreAlike}
use Rattle.tree_core.specs.Pruned.{IsPruned}
use Rattle.tree_core.specs.Tree.{Tree, node_at, IsOf, IsSound}
use Rattle.tree_core.proofs.Later.{get_front, nodes-grow}
use Rattle.tree_core.proofs.OverlayLemmas.{sealed-node, sealed-size, sealed-since}
use Rattle.tree_core.proofs.PrunedLemmas.{peak_stands, pruned_peak, tree_node}
use Rattle.compact_db.specs.Proving.{or_else, node_over}
use Rattle.compact_db.proofs.PinLemmas.{pins_are, later_stands, some_down, not_some}
use Rattle.compact_db.proofs.WitnessLemmas.{pins_whole}

-- ---- reading one position after another

pub one_more : {D : Type 0} (told : ℕ → Option D) (read : List D) (yielded : List ℕ) (p : ℕ) (d : D) → map Some read ≡ map told yielded → told p ≡ Some d
    → map Some (read ++ (d ∷ [])) ≡ map told (yielded ++ (p ∷ []))
one_more told [] [] p d same is = ap (λ o. o ∷ []) (sym is)
one_more told [] (q ∷ yielded) p d same is = absurd cc
one_more told (e ∷ read) [] p d same is = absurd cc
one_more told (e ∷ read) (q ∷ yielded) p d same is =
    let first : Some e ≡ told q = cc in
    let others : map Some read ≡ map told yielded = cc in
    ap (λ o. o ∷ map Some (read ++ (d ∷ []))) first ∙ ap (λ os. told q ∷ os) (one_more told read yielded p d others is)

read_some : {D : Type 0} (told : ℕ → Option D) (read : List D) (front : List ℕ) (j q : ℕ) → map Some read ≡ map told front → slice_get front j ≡ Some q → IsSome (told q)
read_some told read [] j q same at = absurd cc
read_some told [] (p ∷ front) j q same at = absurd cc
read_some told (d ∷ read) (p ∷ front) zero q same at =
    let here : told q ≡ Some d = cc in subst (λ o. IsSome o) (sym here) refl
read_some told (d ∷ read) (p ∷ front) (suc j) q same at =
    let others : map Some read ≡ map told front = cc in read_some told read front j q others at

get_at_end : {X : Type 0} (xs ys : List X) (x : X) → slice_get (xs ++ (x ∷ ys)) (length xs) ≡ Some x
get_at_end [] ys x = refl
get_at_end (y ∷ xs) ys x = get_at_end xs ys x

-- the first position without a node
pub first_absent : {D : Type 0} (told : ℕ → Option D) (read : List D) (front left back ps : List ℕ) (p : ℕ) → map Some read ≡ map told front
    → left ≡ p ∷ back → front ++ left ≡ ps → told p ≡ None → IsFirstAbsent told ps p
first_absent told read front left back ps p same here whole absent =
    let all : front ++ (p ∷ back) ≡ ps = ap (λ qs. front ++ qs) (sym here) ∙ whole in
    record {
      index = length front;
      here = ap (λ qs. slice_get qs (length front)) (sym all) ∙ get_at_end front back p;
      absent = absent;
      before = λ j q lt at. read_some told read front j q same (sym (get_front front (p ∷ back) j lt) ∙ ap (λ qs. slice_get qs j) all ∙ at);
    }

-- all positions were read
pub read_all : {D : Type 0} (told : ℕ → Option D) (read : List D) (yielded left ps : List ℕ) → map Some read ≡ map told yielded → left ≡ [] → yielded ++ left ≡ ps
    → map Some read ≡ map told ps
read_all told read yielded left ps same end whole =
    same ∙ ap (map told) (sym (append-nil yielded) ∙ ap (λ qs. yielded ++ qs) (sym end) ∙ whole)

-- ---- of a list

right_down : {D : Type 0} (told : ℕ × ℕ → Option D) (node : ℕ × ℕ → D) (e : ℕ) (ks : List ℕ) (read : List D) → map Some read ≡ map told (peaks_down e ks)
    → ((x k : ℕ) (d : D) → PeakIn e ks x k → told (x, k) ≡ Some d → d ≡ node (x, k)) → read ≡ map node (peaks_down e ks)
right_down told node e [] [] same right = refl
right_down told node e [] (d ∷ read) same right = absurd cc
right_down told node e (k ∷ ks) [] same right = absurd cc
right_down told node e (k ∷ ks) (d ∷ read) same right =
    let first : told (e - 2 ^ k, k) ≡ Some d = cc in
    let others : map Some read ≡ map told (peaks_down (e - 2 ^ k) ks) = cc in
    ap (λ x. x ∷ read) (right (e - 2 ^ k) k d (inl (refl, refl)) first)
    ∙ ap (λ xs. node (e - 2 ^ k, k) ∷ xs) (right_down told node (e - 2 ^ k) ks read others (λ x j d2 p is. right x j d2 (inr p) is))

-- what is read of a list's tree at the peaks of fewer leaves
pub right_pins : {D : Type 0} (s : Shape) (h : Hashing D) (all : List D) (n m : ℕ) (told : ℕ → Option D) (read : List D) → IsLawful s → m ≤ n
    → IsTreeOf s h all n told → map Some read ≡ map told (pins s m) → read ≡ map (node_of s h all) (peaks s m)
right_pins s h all n m told read w le of same =
    let down : map Some (reverse read) ≡ map (λ c. told (position_of s c)) (peaks_down m (s.heights m)) =
    map-reverse Some read ∙ ap reverse (same ∙ pins_are told s m) ∙ reverse-reverse (map (λ c. told (position_of s c)) (peaks_down m (s.heights m))) in
    let are = right_down (λ c. told (position_of s c)) (node_of s h all) m (s.heights m) (reverse read) down
    (λ x k d peak is. tree_node s h all n (s.position x k) x k told d of
    (later_stands s m n (s.position x k) x k le (peak_stands s (made s m) m (s.heights m) x k (w.peaks m) peak)) (sym is)) in
    sym (reverse-reverse read) ∙ ap reverse are ∙ sym (map-reverse (node_of s h all) (peaks_down m (s.heights m)))

over_is : {D : Type 0} (a b : Option D) (d : D) (P : Type 0) → or_else a b ≡ Some d → ((e : D) → a ≡ Some e → e ≡ d → P) → (b ≡ Some d → P) → P
over_is (Some e) b d P is one other = let same : e ≡ d = cc in one e refl same
over_is None b d P is one other = other is

-- a batch of a list that begins with the tree's, over that tree
pub over_tree : {D : Type 0} (s : Shape) (h : Hashing D) (all more : List D) (b : Sealed D) (t : Tree D) (n : ℕ) → IsLawful s → IsOf s h all t
    → IsSealedOf s h (all ++ more) b → n ≡ length (all ++ more) → IsTreeOf s h (all ++ more) n (node_over s b t)
over_tree s h all more b t n w of made count =
    record {
      count = count;
      right = λ p d is. over_is (sealed_node s b p) (node_at t p) d (slice_get (nodes s h (all ++ more)) p ≡ Some d) is
          (λ e at same. sealed-node s h (all ++ more) b p e made at ∙ ap Some same)
          (λ at.
          let there = of.right p d at in
          ap (λ ns. slice_get ns p) (nodes-grow s h all more w)
          ∙ get_front (nodes s h all) _ p (slice_get_within (nodes s h all) p d there) ∙ there);
    }

-- ---- where no node is wanting

or_first : {D : Type 0} (a b : Option D) → IsSome a → IsSome (or_else a b)
or_first (Some d) b some = refl
or_first None b some = absurd (cc)

or_other : {D : Type 0} (a b : Option D) → IsSome b → IsSome (or_else a b)
or_other (Some d) b some = refl
or_other None b some = some

or_none : {D : Type 0} (a b : Option D) → a ≡ None → b ≡ None → or_else a b ≡ None
or_none (Some d) b p q = absurd cc
or_none None b p q = q

module _ {D : Type 0} (s : Shape) (b : Sealed D) (t : Tree D) (w : IsLawful s) (q : KeepsPeaks s) (sound : IsSoundSealed s b) (base : IsSound s t)
    (reach : b.first ≤ t.leaves) (within : t.leaves ≤ b.leaves) where
  ends : length (made s b.first) + length (joined_nodes b.links) ≡ length (made s b.leaves)
  ends = sealed-size s b sound

  past_none : (p : ℕ) → length (made s b.leaves) ≤ p → sealed_node s b p ≡ None
  past_none p le = elim (leb_tells (length (made s b.first)) p) [
    | inl v ↦ rw v.0 (slice_get_past (joined_nodes b.links) (p - length (made s b.first)) (omega (arith, le, ends)))
    | inr u ↦ absurd (omega (arith, u.1, ends, le))
  ]

  there : (p : ℕ) → p < length (made s b.leaves) → (p < length (made s b.first) → IsSome (node_at t p)) → IsSome (node_over s b t p)
  there p lt low = elim (leb_tells (length (made s b.first)) p) [
    | inl v ↦ or_first (sealed_node s b p) (node_at t p) (sealed-since s b p sound v.1 lt)
    | inr u ↦ or_other (sealed_node s b p) (node_at t p) (low u.1)
  ]

  over_pruned : IsPruned s b.leaves t.boundary (node_over s b t)
  over_pruned = record {
    ended = λ p le. or_none (sealed_node s b p) (node_at t p) (past_none p le)
        (base.held.ended p (let grow = made_le s t.leaves b.leaves within in omega (arith, le, grow)));
    since = λ p le lt. there p lt (λ low. base.held.since p le (let grow = made_le s b.first t.leaves reach in omega (arith, low, grow)));
    peaks = λ x k peak.
        let lt = slice_get_within (made s t.boundary) (s.position x k) (x, k) (peak_stands s (made s t.boundary) t.boundary (s.heights t.boundary) x k (w.peaks t.boundary) peak) in
        let all = base.within in
        there (s.position x k) (let grow = made_le s t.boundary b.leaves (omega (arith, all, within)) in omega (arith, lt, grow)) (λ low. base.held.peaks x k peak);
  }

  -- none of the peaks of so many leaves is wanting
  pub none_absent : (n p : ℕ) → t.leaves ≤ n → n ≤ b.leaves → IsFirstAbsent (node_over s b t) (pins s n) p → ⊥
  none_absent n p low high first =
      let down = some_down (λ c. node_over s b t (position_of s c)) n (s.heights n)
      (λ x k peak. let all = base.within in pruned_peak s b.leaves t.boundary n (node_over s b t) x k w q over_pruned (omega (arith, all, low)) high peak) in
      let whole : map Some (reverse down.0) ≡ map (node_over s b t) (pins s n) =
      map-reverse Some down.0 ∙ ap reverse (sym down.1) ∙ sym (pins_are (node_over s b t) s n) in
      not_some (node_over s b t p) first.absent (read_some (node_over s b t) (reverse down.0) (pins s n) first.index p whole first.here)

-- where no position is without a node, only memory can be wanting
pub memory_unread : {F D : Type 0} (told : ℕ → Option D) (ps : List ℕ) (e : tree.Error F) → ((p : ℕ) → IsFirstAbsent told ps p → ⊥) → IsUnread told ps e → from_tree e ≡ Memory
memory_unread told ps (ElementPruned p) none unread = absurd (none p unread)
memory_unread told ps tree_error.Memory none unread = refl
memory_unread told ps _ none unread = absurd unread

-- ---- of a list of operations

pub proof_is : {F D : Type 0} (s : Shape) (h : Hashing D) (all : List D) (proof : Proof F D) (k first end n below base count floor : ℕ) → proof ≡ proof_of s h all k (meets first end)
    → k ≡ inactive s n below → n ≡ count → below ≡ floor → first ≡ base → end ≡ count → proof ≡ proof_of s h all (inactive s count floor) (meets base count)
proof_is s h all proof k first end n below base count floor is folded leaves under from up =
    is ∙ ap (λ j. proof_of s h all j (meets first end)) (folded ∙ ap (λ i. inactive s i below) leaves ∙ ap (inactive s count) under)
    ∙ ap (λ i. proof_of s h all (inactive s count floor) (meets i end)) from ∙ ap (λ i. proof_of s h all (inactive s count floor) (meets base i)) up

module _ {D Op V : Type 0} (s : Shape) (h : Hashing D) (m : Meaning Op V) where
  -- the leaves of a list go on from those of its front
  pub leaves_alike : (ops more : List Op) → AreAlike (leaves_from s h m 0 ops) (leaves_from s h m 0 (ops ++ more))
  leaves_alike ops more = inl (leaves_from s h m (0 + length ops) more, leaves_from-append s h m 0 ops more)

  -- what is read of them are the list's peaks
  pub own_pins : (ops more : List Op) (b : Sealed D) (t : Tree D) (base : ℕ) (read : List D) → IsLawful s → IsOf s h (leaves_from s h m 0 ops) t
      → IsSealedOf s h (leaves_from s h m 0 (ops ++ more)) b → base ≤ length (ops ++ more) → map Some read ≡ map (node_over s b t) (pins s base)
      → read ≡ pins_of s h m (ops ++ more) base
  own_pins ops more b t base read w of made le same =
      let first = leaves_from s h m 0 ops in
      let rest = leaves_from s h m (0 + length ops) more in
      let parts = leaves_from-append s h m 0 ops more in
      let n = length (leaves_from s h m 0 (ops ++ more)) in
      let told = over_tree s h first rest b t n w of (subst (λ all. IsSealedOf s h all b) parts made) (ap length parts) in
      let enough : base ≤ n = omega (arith, le, length-leaves_from s h m 0 (ops ++ more)) in
      right_pins s h (first ++ rest) n base (node_over s b t) read w enough told same
      ∙ ap (λ all. map (node_of s h all) (peaks s base)) (sym parts) ∙ pins_whole s h m w (ops ++ more) base le
