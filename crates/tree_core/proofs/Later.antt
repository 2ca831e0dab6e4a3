-- What is made after a mark is told by the mark and the later leaves.
use Rattle.std.proofs.Common.{◌≡◌, ℕ, zero, suc, ◌+◌, ◌-◌, ◌^◌, ◌<◌, ◌≤◌, ◌⊎◌, inl, inr, List, [], ◌∷◌, ◌++◌, length, map, Some, Option, refl, sym, ◌∙◌, ap, arith, append_assoc, length-append}
use Rattle.std.specs.Prelude.{slice_get}
use Rattle.std.proofs.lemmas.List.{map-append, length-map}
use Rattle.std.proofs.lemmas.Option.{some_pair_parts}
use Rattle.std.proofs.lemmas.Bool.Decides.{eqb_tells}
use Rattle.tree_shape.specs.Hashing.{Hashing, node_input}
use Rattle.tree_shape.specs.Shape.{Shape, made, Stands, ChildrenStand, PeaksStand, IsLawful}
use Rattle.tree_shape.specs.Places.{get-append}
use Rattle.tree_shape.specs.MmrPlaces.{append_nil}
use Rattle.tree_shape.specs.Kept.{PeakIn, PeakOf, IsPeakOrLater, KeepsPeaks}
use Rattle.tree_shape.specs.Slow.{leaf_at, node, node_of, nodes, peak_digests}
use Rattle.tree_shape.proofs.NeededLemmas.{first, second, side_of, leaf_position, at_hand_back}
use Rattle.tree_core.proofs.MemLemmas.{node-append, map-nodes-append}
use Rattle.tree_core.specs.Pruned.{made_from, peaks_at, nodes_from}
use Rattle.tree_store.specs.Stores.{IsTreeOf}

pub get_past : {X : Type 0} (xs ys : List X) (i : ℕ) → slice_get (xs ++ ys) (length xs + i) ≡ slice_get ys i
get_past [] ys i = let e : 0 + i ≡ i = omega arith in rw e refl
get_past (x ∷ xs) ys i = let e : suc (length xs) + i ≡ suc (length xs + i) = omega arith in rw e (get_past xs ys i)

pub get_front : {X : Type 0} (xs ys : List X) (i : ℕ) → i < length xs → slice_get (xs ++ ys) i ≡ slice_get xs i
get_front [] ys i lt = absurd (omega arith)
get_front (x ∷ xs) ys zero lt = refl
get_front (x ∷ xs) ys (suc i) lt = get_front xs ys i (omega arith)

pub made-split : (s : Shape) (b j : ℕ) → made s (b + j) ≡ made s b ++ made_from s b j
unfolding made made_from
made-split s b zero = let e : b + 0 ≡ b = omega arith in rw e (sym (append_nil (made s b)))
made-split s b (suc j) =
    let e : b + suc j ≡ suc (b + j) = omega arith in
    rw e (ap (λ cs. cs ++ ((b + j, 0) ∷ s.parents (b + j))) (made-split s b j) ∙ append_assoc (made s b) (made_from s b j) _)

pub length-split : (s : Shape) (b j : ℕ) → length (made s (b + j)) ≡ length (made s b) + length (made_from s b j)
length-split s b j = ap length (made-split s b j) ∙ length-append (made s b) (made_from s b j)

pub made_from-split : (s : Shape) (b i j : ℕ) → made_from s b (i + j) ≡ made_from s b i ++ made_from s (b + i) j
unfolding made_from
made_from-split s b i zero = let e : i + 0 ≡ i = omega arith in rw e (sym (append_nil (made_from s b i)))
made_from-split s b i (suc j) =
    let e : i + suc j ≡ suc (i + j) = omega arith in
    let f : b + (i + j) ≡ b + i + j = omega arith in
    rw (e, f) (ap (λ cs. cs ++ ((b + i + j, 0) ∷ s.parents (b + i + j))) (made_from-split s b i j) ∙ append_assoc (made_from s b i) (made_from s (b + i) j) _)

-- a node made since stands behind the nodes of b leaves
pub stands_since : (s : Shape) (b j i x k : ℕ) → slice_get (made_from s b j) i ≡ Some (x, k) → Stands (made s (b + j)) (length (made s b) + i) x k
stands_since s b j i x k e = ap (λ cs. slice_get cs (length (made s b) + i)) (made-split s b j) ∙ get_past (made s b) (made_from s b j) i ∙ e

-- and one that stands there was made since
pub since_stands : (s : Shape) (b j p x k : ℕ) → length (made s b) ≤ p → Stands (made s (b + j)) p x k → slice_get (made_from s b j) (p - length (made s b)) ≡ Some (x, k)
since_stands s b j p x k le e =
    let q : length (made s b) + (p - length (made s b)) ≡ p = omega arith in
    sym (get_past (made s b) (made_from s b j) (p - length (made s b))) ∙ ap (slice_get (made s b ++ made_from s b j)) q ∙ ap (λ cs. slice_get cs p) (sym (made-split s b j)) ∙ e

pub made_less : (s : Shape) (b j : ℕ) → 0 < j → length (made s b) < length (made s (b + j))
unfolding made_from
made_less s b zero lt = absurd (omega arith)
made_less s b (suc j) lt = let l = length-split s b (suc j) in let m = length-append (made_from s b j) ((b + j, 0) ∷ s.parents (b + j)) in omega (arith, l, m)

order : (m n : ℕ) → (m ≤ n) ⊎ (n < m)
order m n = elim (eqb_tells (m - n) 0) [
  | inl e ↦ inl (omega (arith, e.1))
  | inr e ↦ inr (omega (arith, e.1))
]

pub leaf_late : (s : Shape) (b x : ℕ) → length (made s b) ≤ length (made s x) → b ≤ x
leaf_late s b x le = elim (order b x) [
  | inl ok ↦ ok
  | inr lt ↦
      let e : x + (b - x) ≡ b = omega arith in
      let m : length (made s (x + (b - x))) ≡ length (made s b) = ap (λ k. length (made s k)) e in
      let l = made_less s x (b - x) (omega arith) in
      absurd (omega (arith, l, m))
]

pub data MadeBy (s : Shape) (b j x k : ℕ) : Type 0 where
  leaf : (t : ℕ) → t < j → x ≡ b + t → k ≡ 0 → MadeBy s b j x k
  parent : (t i : ℕ) → t < j → slice_get (s.parents (b + t)) i ≡ Some (x, k) → MadeBy s b j x k

made_by : (s : Shape) (b j i x k : ℕ) → slice_get (made_from s b j) i ≡ Some (x, k) → MadeBy s b j x k
unfolding made_from
made_by s b zero i x k e = absurd (cc)
made_by s b (suc j) i x k e = elim (side_of (made_from s b j) ((b + j, 0) ∷ s.parents (b + j)) i (x, k) e) [
  | first p ↦ elim (made_by s b j i x k p) [
    | leaf t lt ex ek ↦ leaf t (omega arith) ex ek
    | parent t m lt q ↦ parent t m (omega arith) q
  ]
  | second m p ↦ newest m p
]
  where
    newest : (m : ℕ) → slice_get {X = ℕ × ℕ} ((b + j, 0) ∷ s.parents (b + j)) m ≡ Some (x, k) → MadeBy s b (suc j) x k
    newest zero p = let parts = some_pair_parts (b + j) x 0 k p in leaf j (omega arith) (sym parts.0) (sym parts.1)
    newest (suc m) p = parent j m (omega arith) p

-- two lists with the same peaks at b and the same leaves from there on have the same nodes from there on
pub same_later : {D : Type 0} (s : Shape) (h : Hashing D) (M N : List D) (b j : ℕ) → IsLawful s → KeepsPeaks s
    → ((x : ℕ) → b ≤ x → leaf_at h M x ≡ leaf_at h N x)
    → ((x k : ℕ) → PeakOf s b x k → node s h M x k ≡ node s h N x k)
    → (k x i : ℕ) → slice_get (made_from s b j) i ≡ Some (x, k) → node s h M x k ≡ node s h N x k
unfolding node
same_later s h M N b j w q leaves peaks zero x i e =
    let p : s.position x 0 ≡ length (made s b) + i = (w.well_made (b + j)).placed (length (made s b) + i) x 0 (stands_since s b j i x 0 e) in
    leaves x (leaf_late s b x (let l = leaf_position s w x in omega (arith, p, l)))
same_later s h M N b j w q leaves peaks (suc k) x i e =
    let c : ChildrenStand s (made s (b + j)) (length (made s b) + i) x (suc k) = (w.well_made (b + j)).behind (length (made s b) + i) x (suc k) (stands_since s b j i x (suc k) e) in
    elim (made_by s b j i x (suc k) e) [
      | leaf t lt ex ek ↦ absurd (omega (arith, ek))
      | parent t m lt r ↦
          let left : node s h M x k ≡ node s h N x k = child (λ y m f. same_later s h M N b j w q leaves peaks k y m f) x c.0 (at_hand_back s w q b t x k (q.left (b + t) m x k r)) in
          let right : node s h M (x + 2 ^ k) k ≡ node s h N (x + 2 ^ k) k = child (λ y m f. same_later s h M N b j w q leaves peaks k y m f) (x + 2 ^ k) c.1 (at_hand_back s w q b t (x + 2 ^ k) k (q.right (b + t) m x k r)) in
          ap (λ d. h.digest (node_input h (s.position x (suc k)) d (node s h M (x + 2 ^ k) k))) left ∙ ap (λ d. h.digest (node_input h (s.position x (suc k)) (node s h N x k) d)) right
    ]
  where
    child : ((y m : ℕ) → slice_get (made_from s b j) m ≡ Some (y, k) → node s h M y k ≡ node s h N y k) → (y : ℕ) → Stands (made s (b + j)) (s.position y k) y k → IsPeakOrLater s b y k → node s h M y k ≡ node s h N y k
    child later y stands a = elim a [
      | inl late ↦ later y (s.position y k - length (made s b)) (since_stands s b j (s.position y k) y k (let l = leaf_position s w b in omega (arith, late, l)) stands)
      | inr peak ↦ peaks y k peak
    ]

cons_parts : {X : Type 0} (x y : X) (xs ys : List X) → x ∷ xs ≡ y ∷ ys → (x ≡ y) × (xs ≡ ys)
cons_parts x y xs ys e = (cc, cc)

-- equal digests of the peaks are equal nodes at the peaks
pub peaks_same : {D : Type 0} (s : Shape) (h : Hashing D) (M N : List D) (e : ℕ) (hs : List ℕ) → peak_digests s h M e hs ≡ peak_digests s h N e hs
    → (x k : ℕ) → PeakIn e hs x k → node s h M x k ≡ node s h N x k
peaks_same s h M N e [] q x k p = absurd p
peaks_same s h M N e (c ∷ cs) q x k p =
    let parts = cons_parts (node s h M (e - 2 ^ c) c) (node s h N (e - 2 ^ c) c) (peak_digests s h M (e - 2 ^ c) cs) (peak_digests s h N (e - 2 ^ c) cs) q in
    elim p [
      | inl here ↦ rw (here.0, here.1) parts.0
      | inr there ↦ peaks_same s h M N (e - 2 ^ c) cs parts.1 x k there
    ]

map_same : {X Y : Type 0} (f g : X → Y) (cs : List X) → ((c : X) (i : ℕ) → slice_get cs i ≡ Some c → f c ≡ g c) → map f cs ≡ map g cs
map_same f g [] e = refl
map_same f g (c ∷ cs) e = rw (e c 0 refl, map_same f g cs (λ d i p. e d (suc i) p)) refl

-- the nodes made since, by the digests of the peaks and the later leaves
pub nodes_same : {D : Type 0} (s : Shape) (h : Hashing D) (M N : List D) (b j : ℕ) → IsLawful s → KeepsPeaks s
    → ((x : ℕ) → b ≤ x → leaf_at h M x ≡ leaf_at h N x) → peaks_at s h M b ≡ peaks_at s h N b
    → nodes_from s h M b j ≡ nodes_from s h N b j
nodes_same s h M N b j w q leaves peaks =
    map_same (node_of s h M) (node_of s h N) (made_from s b j) (λ c i e. same_later s h M N b j w q leaves (peaks_same s h M N b (s.heights b) peaks) c.1 c.0 i e)

-- and so the peaks after
pub peaks_after : {D : Type 0} (s : Shape) (h : Hashing D) (M N : List D) (b j : ℕ) → IsLawful s → KeepsPeaks s
    → ((x : ℕ) → b ≤ x → leaf_at h M x ≡ leaf_at h N x) → peaks_at s h M b ≡ peaks_at s h N b
    → peaks_at s h M (b + j) ≡ peaks_at s h N (b + j)
peaks_after s h M N b j w q leaves peaks = along (b + j) (s.heights (b + j)) (w.peaks (b + j)) (λ x k p. at_hand_back s w q b j x k (inr p))
  where
    one : (x k : ℕ) → Stands (made s (b + j)) (s.position x k) x k → IsPeakOrLater s b x k → node s h M x k ≡ node s h N x k
    one x k stands a = elim a [
      | inl late ↦ same_later s h M N b j w q leaves (peaks_same s h M N b (s.heights b) peaks) k x (s.position x k - length (made s b)) (since_stands s b j (s.position x k) x k (let l = leaf_position s w b in omega (arith, late, l)) stands)
      | inr peak ↦ peaks_same s h M N b (s.heights b) peaks x k peak
    ]

    along : (e : ℕ) (hs : List ℕ) → PeaksStand s (made s (b + j)) e hs → ((x k : ℕ) → PeakIn e hs x k → IsPeakOrLater s b x k) → peak_digests s h M e hs ≡ peak_digests s h N e hs
    along e [] p near = refl
    along e (c ∷ cs) p near = rw (one (e - 2 ^ c) c p.1 (near (e - 2 ^ c) c (inl (refl, refl))), along (e - 2 ^ c) cs p.2 (λ x k i. near x k (inr i))) refl

-- all nodes of a longer list
pub nodes-grow : {D : Type 0} (s : Shape) (h : Hashing D) (leaves more : List D) → IsLawful s
    → nodes s h (leaves ++ more) ≡ nodes s h leaves ++ nodes_from s h (leaves ++ more) (length leaves) (length more)
nodes-grow s h leaves more w =
    let l : length (leaves ++ more) ≡ length leaves + length more = length-append leaves more in
    ap (λ m. map (node_of s h (leaves ++ more)) (made s m)) l
    ∙ ap (map (node_of s h (leaves ++ more))) (made-split s (length leaves) (length more))
    ∙ map-append (node_of s h (leaves ++ more)) (made s (length leaves)) (made_from s (length leaves) (length more))
    ∙ ap (λ ns. ns ++ nodes_from s h (leaves ++ more) (length leaves) (length more)) (map-nodes-append s h leaves more (made s (length leaves)) (λ i x k at. (w.well_made (length leaves)).within i x k at))

-- the peaks of the first leaves, in a longer list
pub peaks_at-append : {D : Type 0} (s : Shape) (h : Hashing D) (leaves more : List D) → IsLawful s → peaks_at s h (leaves ++ more) (length leaves) ≡ peaks_at s h leaves (length leaves)
peaks_at-append s h leaves more w = along (length leaves) (s.heights (length leaves)) (w.peaks (length leaves)) (omega arith)
  where
    along : (e : ℕ) (hs : List ℕ) → PeaksStand s (made s (length leaves)) e hs → e ≤ length leaves → peak_digests s h (leaves ++ more) e hs ≡ peak_digests s h leaves e hs
    along e [] p le = refl
    along e (c ∷ cs) p le = rw (node-append s h leaves more (e - 2 ^ c) c (omega (arith, p.0)), along (e - 2 ^ c) cs p.2 (omega arith)) refl

-- the tree of a list, with the nodes that more leaves make
pub tree_grown : {D : Type 0} (s : Shape) (h : Hashing D) (leaves more : List D) (n m : ℕ) (f g : ℕ → Option D) (xs : List D) → IsLawful s
    → IsTreeOf s h leaves n f → m ≡ n + length more → xs ≡ nodes_from s h (leaves ++ more) (length leaves) (length more)
    → ((p : ℕ) → p < length (made s n) → g p ≡ f p) → ((i : ℕ) → g (length (made s n) + i) ≡ slice_get xs i)
    → IsTreeOf s h (leaves ++ more) m g
tree_grown s h leaves more n m f g xs w t em told before since = record {
  count = omega (arith, em, t.count, length-append leaves more);
  right = λ p d e.
      let size : length (nodes s h leaves) ≡ length (made s n) = length-map (made s (length leaves)) (node_of s h leaves) ∙ ap (λ k. length (made s k)) (sym t.count) in
      let grow = nodes-grow s h leaves more w in
      elim (order (length (made s n)) p) [
        | inr lt ↦ ap (λ ns. slice_get ns p) grow ∙ get-append (nodes s h leaves) _ p d (t.right p d (sym (before p lt) ∙ e))
        | inl le ↦
            let q : length (nodes s h leaves) + (p - length (made s n)) ≡ p = omega (arith, size) in
            let r : length (made s n) + (p - length (made s n)) ≡ p = omega arith in
            ap (λ ns. slice_get ns p) grow ∙ ap (slice_get (nodes s h leaves ++ nodes_from s h (leaves ++ more) (length leaves) (length more))) (sym q)
            ∙ get_past (nodes s h leaves) _ (p - length (made s n)) ∙ ap (λ ns. slice_get ns (p - length (made s n))) (sym told)
            ∙ sym (since (p - length (made s n))) ∙ ap g r ∙ e
      ];
}
