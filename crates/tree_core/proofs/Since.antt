-- The nodes that appends make after a mark, one after another.
use Rattle.std.proofs.Common.{◌≡◌, ℕ, zero, suc, ◌+◌, ◌-◌, ◌^◌, ◌<◌, ◌≤◌, inl, inr, List, [], ◌∷◌, ◌++◌, length, map, take, drop, get_or, Some, refl, sym, ◌∙◌, ap, subst, arith, add-one, length-append, drop-cons}
use Rattle.std.specs.Prelude.{slice_get, IsSome}
use Rattle.std.proofs.lemmas.List.{map-append}
use Rattle.std.proofs.lemmas.Option.{slice_get_within, same_Some, get_or_from_slice_get}
use Rattle.std.proofs.Math.Seq.{take-length, take-append_seam}
use Rattle.tree_shape.specs.Places.{get-behind}
use Rattle.tree_shape.specs.Hashing.{Hashing, node_input}
use Rattle.tree_shape.specs.Shape.{Shape, made, Stands, ChildrenStand, PeaksStand, IsLawful}
use Rattle.tree_shape.specs.Kept.{PeakIn, PeakOf, IsPeakOrLater, KeepsPeaks}
use Rattle.tree_shape.specs.Slow.{node, node_of}
use Rattle.tree_store.proofs.StoreLemmas.{take-next}
use Rattle.tree_shape.proofs.NodeLemmas.{node-from_halves}
use Rattle.tree_core.specs.Pruned.{made_from, nodes_from, peaks_at, held_at}
use Rattle.tree_shape.proofs.NeededLemmas.{at_hand_back}
use Rattle.tree_core.proofs.Later.{get_past, stands_since, since_stands, length-split}
use Rattle.tree_core.proofs.Held.{is_held, held_right}

pub length-made_from_suc : (s : Shape) (b j : ℕ) → length (made_from s b (j + 1)) ≡ length (made_from s b j) + 1 + length (s.parents (b + j))
unfolding made_from
length-made_from_suc s b j = rw add-one (length-append (made_from s b j) ((b + j, 0) ∷ s.parents (b + j)) ∙ omega arith)

-- the node that is made as the i-th behind leaf b + j
pub parent_since : (s : Shape) (b j i x k len : ℕ) → Some (x, k) ≡ slice_get (s.parents (b + j)) i → len ≡ length (made_from s b j) + 1 + i → slice_get (made_from s b (j + 1)) len ≡ Some (x, k)
unfolding made_from
parent_since s b j i x k len e q =
    let r : length (made_from s b j) + 1 + i ≡ length (made_from s b j) + suc i = omega arith in
    rw (add-one, q, r) (get_past (made_from s b j) ((b + j, 0) ∷ s.parents (b + j)) (suc i) ∙ sym e)

pub record Child (s : Shape) (b j len y c : ℕ) : Type 0 where
  pub hand : IsPeakOrLater s b y c
  pub before : s.position y c < length (made s b) + len
  pub stands : length (made s b) ≤ s.position y c → slice_get (made_from s b (j + 1)) (s.position y c - length (made s b)) ≡ Some (y, c)

pub children_since : (s : Shape) (b j i x k len : ℕ) → IsLawful s → KeepsPeaks s → Some (x, k) ≡ slice_get (s.parents (b + j)) i → len ≡ length (made_from s b j) + 1 + i → 0 < k
    → Child s b j len x (k - 1) × Child s b j len (x + 2 ^ (k - 1)) (k - 1)
children_since s b j i x zero len w q e l lt = absurd (omega arith)
children_since s b j i x (suc k) len w q e l lt =
    let c : ChildrenStand s (made s (b + (j + 1))) (length (made s b) + len) x (suc k) =
    (w.well_made (b + (j + 1))).behind (length (made s b) + len) x (suc k) (stands_since s b (j + 1) len x (suc k) (parent_since s b j i x (suc k) len e l)) in
    let r : suc k - 1 ≡ k = omega arith in
    rw r (
      record {
        hand = at_hand_back s w q b j x k (q.left (b + j) i x k (sym e));
        before = c.2;
        stands = λ le. since_stands s b (j + 1) (s.position x k) x k le c.0;
      },
      record {
        hand = at_hand_back s w q b j (x + 2 ^ k) k (q.right (b + j) i x k (sym e));
        before = c.3;
        stands = λ le. since_stands s b (j + 1) (s.position (x + 2 ^ k) k) (x + 2 ^ k) k le c.1;
      },
    )

pub within_since : (s : Shape) (b j i x k : ℕ) → IsLawful s → Some (x, k) ≡ slice_get (s.parents (b + j)) i → x + 2 ^ k ≤ b + j + 1
within_since s b j i x k w e =
    let p = (w.well_made (b + (j + 1))).within (length (made s b) + (length (made_from s b j) + 1 + i)) x k (stands_since s b (j + 1) (length (made_from s b j) + 1 + i) x k (parent_since s b j i x k (length (made_from s b j) + 1 + i) e refl)) in
    omega (arith, p)

pub child_held : {D : Type 0} (s : Shape) (b j y c : ℕ) (ps since : List D) → IsLawful s → length ps ≡ length (s.heights b) → Child s b j (length since) y c → IsSome (held_at s b ps since y c)
child_held s b j y c ps since w l k = is_held s b ps since y c w l k.hand k.before

child_node : {D : Type 0} (s : Shape) (h : Hashing D) (leaves : List D) (b j y c : ℕ) (ps since : List D) (a : D) → IsLawful s → ps ≡ peaks_at s h leaves b
    → since ≡ map (node_of s h leaves) (take (length since) (made_from s b (j + 1))) → Child s b j (length since) y c → Some a ≡ held_at s b ps since y c → a ≡ node s h leaves y c
child_node s h leaves b j y c ps since a w ep told k e =
    same_Some a (node s h leaves y c) (e ∙ held_right s h leaves b ps since (made_from s b (j + 1)) y c w ep told k.hand k.before k.stands)

-- one more parent
pub next_since : {D : Type 0} (s : Shape) (h : Hashing D) (leaves : List D) (b j i x k half len : ℕ) (ps since : List D) (l r : D) → IsLawful s → KeepsPeaks s
    → Some (x, k) ≡ slice_get (s.parents (b + j)) i → len ≡ length since → len ≡ length (made_from s b j) + 1 + i → 0 < k → half ≡ 2 ^ (k - 1)
    → Some l ≡ held_at s b ps since x (k - 1) → Some r ≡ held_at s b ps since (x + half) (k - 1)
    → ps ≡ peaks_at s h leaves b → since ≡ map (node_of s h leaves) (take (length since) (made_from s b (j + 1)))
    → since ++ (h.digest (node_input h (length (made s b) + len) l r) ∷ []) ≡ map (node_of s h leaves) (take (length (since ++ (h.digest (node_input h (length (made s b) + len) l r) ∷ []))) (made_from s b (j + 1)))
next_since s h leaves b j i x k half len ps since l r w q e el en lt eh hl hr ep told =
    let cs = made_from s b (j + 1) in
    let at : slice_get (made_from s b (j + 1)) len ≡ Some (x, k) = parent_since s b j i x k len e en in
    let at' : slice_get (made_from s b (j + 1)) (length since) ≡ Some (x, k) = ap (slice_get (made_from s b (j + 1))) (sym el) ∙ at in
    let both = children_since s b j i x k (length since) w q e (sym el ∙ en) lt in
    let hr' : Some r ≡ held_at s b ps since (x + 2 ^ (k - 1)) (k - 1) = rw eh at hr in
    let left : l ≡ node s h leaves x (k - 1) = child_node s h leaves b j x (k - 1) ps since l w ep told both.0 hl in
    let right : r ≡ node s h leaves (x + 2 ^ (k - 1)) (k - 1) = child_node s h leaves b j (x + 2 ^ (k - 1)) (k - 1) ps since r w ep told both.1 hr' in
    let place : s.position x k ≡ length (made s b) + len = (w.well_made (b + (j + 1))).placed (length (made s b) + len) x k (stands_since s b (j + 1) len x k at) in
    let new : h.digest (node_input h (length (made s b) + len) l r) ≡ node s h leaves x k = rw (left, right, ← place) (node-from_halves s h leaves x k lt) in
    let longer : length (since ++ (h.digest (node_input h (length (made s b) + len) l r) ∷ [])) ≡ suc (length since) = length-append since _ ∙ omega arith in
    let rest : map (node_of s h leaves) (take (suc (length since)) (made_from s b (j + 1))) ≡ since ++ (node s h leaves x k ∷ []) =
    ap (map (node_of s h leaves)) (take-next (made_from s b (j + 1)) (length since) (x, k) at') ∙ map-append (node_of s h leaves) (take (length since) (made_from s b (j + 1))) _ ∙ ap (λ ys. ys ++ (node s h leaves x k ∷ [])) (sym told) in
    ap (λ d. since ++ (d ∷ [])) new ∙ sym rest ∙ ap (λ m. map (node_of s h leaves) (take m (made_from s b (j + 1)))) (sym longer)

pub all_since : {D : Type 0} (s : Shape) (h : Hashing D) (leaves : List D) (b j : ℕ) (since : List D) → length since ≡ length (made_from s b (j + 1))
    → since ≡ map (node_of s h leaves) (take (length since) (made_from s b (j + 1))) → since ≡ nodes_from s h leaves b (j + 1)
all_since s h leaves b j since l told = told ∙ ap (map (node_of s h leaves)) (ap (λ m. take m (made_from s b (j + 1))) l ∙ take-length (made_from s b (j + 1)))

-- the next leaf
pub leaf_since : {D : Type 0} (s : Shape) (h : Hashing D) (all : List D) (b j : ℕ) (since : List D) (d : D) → length since ≡ length (made_from s b j)
    → slice_get all (b + j) ≡ Some d → since ≡ nodes_from s h all b j
    → since ++ (d ∷ []) ≡ map (node_of s h all) (take (length (since ++ (d ∷ []))) (made_from s b (j + 1)))
unfolding made_from node
leaf_since s h all b j since d l e told =
    let longer : length (since ++ (d ∷ [])) ≡ suc (length (made_from s b j)) = length-append since (d ∷ []) ∙ omega (arith, l) in
    let at : slice_get (made_from s b (suc j)) (length (made_from s b j)) ≡ Some (b + j, 0) = get-behind (made_from s b j) (s.parents (b + j)) (b + j, 0) in
    let front : take (length (made_from s b j)) (made_from s b (suc j)) ≡ made_from s b j = take-append_seam (made_from s b j) _ in
    let first : take (suc (length (made_from s b j))) (made_from s b (suc j)) ≡ made_from s b j ++ ((b + j, 0) ∷ []) =
    take-next (made_from s b (suc j)) (length (made_from s b j)) (b + j, 0) at ∙ ap (λ cs. cs ++ ((b + j, 0) ∷ [])) front in
    let leaf : node_of s h all (b + j, 0) ≡ d = get_or_from_slice_get all (b + j) d (h.digest []) e in
    rw (longer, add-one, first) (ap (λ ns. ns ++ (d ∷ [])) told ∙ ap (λ x. nodes_from s h all b j ++ (x ∷ [])) (sym leaf) ∙ sym (map-append (node_of s h all) (made_from s b j) ((b + j, 0) ∷ [])))

pub nothing_since : {D : Type 0} (s : Shape) (h : Hashing D) (all : List D) (b : ℕ) → ([] ≡ nodes_from s h all b 0) × (0 ≡ length (made_from s b 0))
unfolding made_from
nothing_since s h all b = (refl, refl)

pub peak_here : (s : Shape) (cs : List (ℕ × ℕ)) (e i : ℕ) (hs : List ℕ) → i < length hs → PeaksStand s cs e (drop i hs)
    → Stands cs (s.position (e - 2 ^ get_or hs i 0) (get_or hs i 0)) (e - 2 ^ get_or hs i 0) (get_or hs i 0)
peak_here s cs e i hs lt p = let P : List ℕ → Type 0 = λ js. PeaksStand s cs e js in (subst P (drop-cons hs i 0 lt) p).1

pub in_here : (e i : ℕ) (hs : List ℕ) → i < length hs → PeakIn e (drop i hs) (e - 2 ^ get_or hs i 0) (get_or hs i 0)
in_here e i hs lt = let P : List ℕ → Type 0 = λ js. PeakIn e js (e - 2 ^ get_or hs i 0) (get_or hs i 0) in subst P (sym (drop-cons hs i 0 lt)) (inl (refl, refl))

pub in_later : (e i : ℕ) (hs : List ℕ) (x k : ℕ) → i < length hs → PeakIn (e - 2 ^ get_or hs i 0) (drop (i + 1) hs) x k → PeakIn e (drop i hs) x k
in_later e i hs x k lt p =
    let P : List ℕ → Type 0 = λ js. PeakIn e js x k in
    let Q : ℕ → Type 0 = λ m. PeakIn (e - 2 ^ get_or hs i 0) (drop m hs) x k in
    subst P (sym (drop-cons hs i 0 lt)) (inr (subst Q (add-one i) p))

-- a later peak is held
pub peak_is_held : {D : Type 0} (s : Shape) (b j x k : ℕ) (ps since : List D) → IsLawful s → KeepsPeaks s → length ps ≡ length (s.heights b) → length since ≡ length (made_from s b j)
    → PeakOf s (b + j) x k → Stands (made s (b + j)) (s.position x k) x k → IsSome (held_at s b ps since x k)
peak_is_held s b j x k ps since w q lp ls peak stands =
    is_held s b ps since x k w lp (at_hand_back s w q b j x k (inr peak)) (let l = slice_get_within (made s (b + j)) (s.position x k) (x, k) stands in omega (arith, l, ls, length-split s b j))

pub peak_node : {D : Type 0} (s : Shape) (h : Hashing D) (all : List D) (b j x k : ℕ) (ps since : List D) (d : D) → IsLawful s → KeepsPeaks s → length since ≡ length (made_from s b j)
    → PeakOf s (b + j) x k → Stands (made s (b + j)) (s.position x k) x k → ps ≡ peaks_at s h all b → since ≡ nodes_from s h all b j → Some d ≡ held_at s b ps since x k → d ≡ node s h all x k
peak_node s h all b j x k ps since d w q ls peak stands ep told e =
    let l = slice_get_within (made s (b + j)) (s.position x k) (x, k) stands in
    let t : since ≡ map (node_of s h all) (take (length since) (made_from s b j)) = told ∙ sym (ap (map (node_of s h all)) (ap (λ m. take m (made_from s b j)) ls ∙ take-length (made_from s b j))) in
    same_Some d (node s h all x k) (e ∙ held_right s h all b ps since (made_from s b j) x k w ep t (at_hand_back s w q b j x k (inr peak)) (omega (arith, l, ls, length-split s b j))
    (λ le. since_stands s b j (s.position x k) x k le stands))
