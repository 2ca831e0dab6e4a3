-- The nodes of a tree one after another.
use Rattle.std.proofs.Common.{◌≡◌, ℕ, zero, suc, ◌+◌, ◌-◌, ◌*◌, ◌^◌, ◌<◌, ◌≤◌, List, [], ◌∷◌, ◌++◌, length, map, take, get_or, Some, None, refl, sym, ◌∙◌, ap, arith, add-one, length-append}
use Rattle.std.specs.Prelude.{slice_get}
use Rattle.std.specs.Option.{option_map}
use Rattle.std.proofs.Math.Nat.{pow-suc}
use Rattle.std.proofs.Math.Seq.{take-append_seam, get_or-append_seam}
use Rattle.std.proofs.lemmas.List.{length-map}
use Rattle.tree_shape.specs.Places.{get-behind}
use Rattle.std.proofs.lemmas.List.{map-append, get_or_append_left}
use Rattle.std.proofs.lemmas.Option.{slice_get_read, slice_get-map, slice_get_within, same_Some}
use Rattle.tree_shape.specs.Hashing.{Hashing, node_input}
use Rattle.tree_shape.specs.Shape.{Shape, made, Stands, ChildrenStand, IsWellMade, IsLawful}
use Rattle.tree_shape.specs.Slow.{node, node_of, nodes}
use Rattle.tree_shape.proofs.NodeLemmas.{node-from_halves}
use Rattle.tree_store.proofs.StoreLemmas.{take-next}
pub use Rattle.tree_store.proofs.StoreLemmas.{get-take}

-- the node that is made as the i-th behind leaf n
pub parent_stands : (s : Shape) (n i x k : ℕ) → Some (x, k) ≡ slice_get (s.parents n) i → Stands (made s (n + 1)) (length (made s n) + 1 + i) x k
unfolding made
parent_stands s n i x k e = rw add-one (behind (made s n) (n, 0) (s.parents n) i ∙ sym e)
  where
    behind : (cs : List (ℕ × ℕ)) (c : ℕ × ℕ) (ds : List (ℕ × ℕ)) (j : ℕ) → slice_get (cs ++ (c ∷ ds)) (length cs + 1 + j) ≡ slice_get ds j
    behind [] c ds j = let q : 0 + 1 + j ≡ suc j = omega arith in rw q refl
    behind (b ∷ cs) c ds j = let q : suc (length cs) + 1 + j ≡ suc (length cs + 1 + j) = omega arith in rw q (behind cs c ds j)

pub length-made_suc : (s : Shape) (n : ℕ) → length (made s (n + 1)) ≡ length (made s n) + 1 + length (s.parents n)
unfolding made
length-made_suc s n = rw add-one (length-append (made s n) ((n, 0) ∷ s.parents n) ∙ omega arith)

pub none_left : {X : Type 0} (xs : List X) (i : ℕ) → None ≡ slice_get xs i → length xs ≤ i
none_left [] i e = omega arith
none_left (x ∷ xs) zero e = absurd (cc)
none_left (x ∷ xs) (suc i) e = let r = none_left xs i e in omega arith

pub some_left : {X : Type 0} (xs : List X) (i : ℕ) (x : X) → Some x ≡ slice_get xs i → i < length xs
some_left xs i x e = slice_get_within xs i x (sym e)

-- the children of a node of height above 0
pub record Children (s : Shape) (cs : List (ℕ × ℕ)) (j x k : ℕ) : Type 0 where
  pub left : Stands cs (s.position x (k - 1)) x (k - 1)
  pub right : Stands cs (s.position (x + 2 ^ (k - 1)) (k - 1)) (x + 2 ^ (k - 1)) (k - 1)
  pub left_before : s.position x (k - 1) < j
  pub right_before : s.position (x + 2 ^ (k - 1)) (k - 1) < j

pub children_of : (s : Shape) (e : ℕ) (cs : List (ℕ × ℕ)) (j x k : ℕ) → IsWellMade s e cs → Stands cs j x k → 0 < k → Children s cs j x k
children_of s e cs j x zero w at lt = absurd (omega arith)
children_of s e cs j x (suc k) w at lt =
    let c : ChildrenStand s cs j x (suc k) = w.behind j x (suc k) at in
    let q : suc k - 1 ≡ k = omega arith in
    record { left = rw q c.0; right = rw q c.1; left_before = rw q c.2; right_before = rw q c.3 }

-- what is read of the first nodes is the slow node
read_node : {D : Type 0} (s : Shape) (h : Hashing D) (leaves : List D) (cs : List (ℕ × ℕ)) (xs : List D) (p x k : ℕ) (a : D)
    → xs ≡ map (node_of s h leaves) (take (length xs) cs) → Stands cs p x k → p < length xs → a ≡ get_or xs p a → a ≡ node s h leaves x k
read_node s h leaves cs xs p x k a told at lt e =
    let read : slice_get xs p ≡ Some a = slice_get_read xs (length xs) p a refl lt e in
    let slow : slice_get (map (node_of s h leaves) (take (length xs) cs)) p ≡ Some (node s h leaves x k) =
    slice_get-map (node_of s h leaves) (take (length xs) cs) p ∙ ap (option_map (node_of s h leaves)) (get-take cs (length xs) p lt ∙ at) in
    same_Some a (node s h leaves x k) (sym read ∙ ap (λ ys. slice_get ys p) told ∙ slow)

-- one more node: its digest from those of its children
pub next_node : {D : Type 0} (s : Shape) (h : Hashing D) (leaves : List D) (e : ℕ) (cs : List (ℕ × ℕ)) (xs : List D) (x k half : ℕ) (a b : D)
    → IsWellMade s e cs → Stands cs (length xs) x k → 0 < k → half ≡ 2 ^ (k - 1)
    → a ≡ get_or xs (s.position x (k - 1)) a → b ≡ get_or xs (s.position (x + half) (k - 1)) b
    → xs ≡ map (node_of s h leaves) (take (length xs) cs)
    → xs ++ (h.digest (node_input h (length xs) a b) ∷ []) ≡ map (node_of s h leaves) (take (length (xs ++ (h.digest (node_input h (length xs) a b) ∷ []))) cs)
next_node s h leaves e cs xs x k half a b w at lt q ea eb told =
    let c = children_of s e cs (length xs) x k w at lt in
    let ra : a ≡ node s h leaves x (k - 1) = read_node s h leaves cs xs (s.position x (k - 1)) x (k - 1) a told c.left c.left_before ea in
    let rb : b ≡ node s h leaves (x + 2 ^ (k - 1)) (k - 1) = read_node s h leaves cs xs (s.position (x + 2 ^ (k - 1)) (k - 1)) (x + 2 ^ (k - 1)) (k - 1) b told c.right c.right_before (rw q at eb) in
    let new : h.digest (node_input h (length xs) a b) ≡ node s h leaves x k =
    rw (ra, rb, ← w.placed (length xs) x k at) (node-from_halves s h leaves x k lt) in
    let longer : length (xs ++ (h.digest (node_input h (length xs) a b) ∷ [])) ≡ suc (length xs) = length-append xs _ ∙ omega arith in
    let right : map (node_of s h leaves) (take (suc (length xs)) cs) ≡ xs ++ (node s h leaves x k ∷ []) =
    ap (map (node_of s h leaves)) (take-next cs (length xs) (x, k) at) ∙ map-append (node_of s h leaves) (take (length xs) cs) _ ∙ ap (λ ys. ys ++ (node s h leaves x k ∷ [])) (sym told) in
    ap (λ d. xs ++ (d ∷ [])) new ∙ sym right ∙ ap (λ j. map (node_of s h leaves) (take j cs)) (sym longer)

-- where the next node goes, as long as leaf n has a further parent
pub next_place : (s : Shape) (n i x k len : ℕ) → IsLawful s → Some (x, k) ≡ slice_get (s.parents n) i → len ≡ length (made s n) + 1 + i → Stands (made s (n + 1)) len x k
next_place s n i x k len w e q = rw q (parent_stands s n i x k e)

pub next_children : (s : Shape) (n i x k len : ℕ) → IsLawful s → Some (x, k) ≡ slice_get (s.parents n) i → len ≡ length (made s n) + 1 + i → 0 < k → Children s (made s (n + 1)) len x k
next_children s n i x k len w e q lt = children_of s (n + 1) (made s (n + 1)) len x k (w.well_made (n + 1)) (next_place s n i x k len w e q) lt

pub next_within : (s : Shape) (n i x k : ℕ) → IsLawful s → Some (x, k) ≡ slice_get (s.parents n) i → x + 2 ^ k ≤ n + 1
next_within s n i x k w e = (w.well_made (n + 1)).within (length (made s n) + 1 + i) x k (parent_stands s n i x k e)

-- a node over the leaves of a list is that over a longer list
pub node-append : {D : Type 0} (s : Shape) (h : Hashing D) (leaves more : List D) (x k : ℕ) → x + 2 ^ k ≤ length leaves → node s h (leaves ++ more) x k ≡ node s h leaves x k
unfolding node
node-append s h leaves more x zero le = get_or_append_left leaves more (h.digest []) x (omega arith)
node-append s h leaves more x (suc k) le =
    let two : 2 ^ suc k ≡ 2 ^ k * 2 = pow-suc 2 k in
    let left = node-append s h leaves more x k (omega arith) in
    let right = node-append s h leaves more (x + 2 ^ k) k (omega arith) in
    ap (λ d. h.digest (node_input h (s.position x (suc k)) d (node s h (leaves ++ more) (x + 2 ^ k) k))) left ∙ ap (λ d. h.digest (node_input h (s.position x (suc k)) (node s h leaves x k) d)) right

pub map-nodes-append : {D : Type 0} (s : Shape) (h : Hashing D) (leaves more : List D) (cs : List (ℕ × ℕ)) → ((i x k : ℕ) → Stands cs i x k → x + 2 ^ k ≤ length leaves)
    → map (node_of s h (leaves ++ more)) cs ≡ map (node_of s h leaves) cs
map-nodes-append s h leaves more [] w = refl
map-nodes-append s h leaves more (c ∷ cs) w =
    rw (node-append s h leaves more c.0 c.1 (w 0 c.0 c.1 refl), map-nodes-append s h leaves more cs (λ i x k at. w (suc i) x k at)) refl

-- the nodes with one more leaf, before its parents are made
pub leaf_pushed : {D : Type 0} (s : Shape) (h : Hashing D) (leaves : List D) (leaf : D) (n : ℕ) (xs ys : List D) → IsLawful s → n ≡ length leaves → ys ≡ xs ++ (leaf ∷ []) → xs ≡ nodes s h leaves
    → ys ≡ map (node_of s h (leaves ++ (leaf ∷ []))) (take (length ys) (made s (n + 1)))
unfolding made node
leaf_pushed s h leaves leaf n xs ys w q e told =
    let old : xs ≡ map (node_of s h (leaves ++ (leaf ∷ []))) (made s n) =
    told ∙ ap (λ m. map (node_of s h leaves) (made s m)) (sym q) ∙ sym (map-nodes-append s h leaves (leaf ∷ []) (made s n) (λ i x k at. let b = (w.well_made n).within i x k at in omega arith)) in
    let l : length xs ≡ length (made s n) = ap length old ∙ length-map (made s n) (node_of s h (leaves ++ (leaf ∷ []))) in
    let ly : length ys ≡ suc (length (made s n)) = ap length e ∙ length-append xs (leaf ∷ []) ∙ omega arith in
    let first : take (length ys) (made s (n + 1)) ≡ made s n ++ ((n, 0) ∷ []) =
    rw (ly, add-one) (take-next (made s n ++ ((n, 0) ∷ s.parents n)) (length (made s n)) (n, 0) (get-behind (made s n) (s.parents n) (n, 0)) ∙ ap (λ cs. cs ++ ((n, 0) ∷ [])) (take-append_seam (made s n) _)) in
    let new : leaf ≡ node_of s h (leaves ++ (leaf ∷ [])) (n, 0) = rw q (sym (get_or-append_seam leaves leaf [] (h.digest []))) in
    e ∙ ap (λ d. xs ++ (d ∷ [])) new ∙ ap (λ zs. zs ++ (node_of s h (leaves ++ (leaf ∷ [])) (n, 0) ∷ [])) old
    ∙ sym (ap (map (node_of s h (leaves ++ (leaf ∷ [])))) first ∙ map-append (node_of s h (leaves ++ (leaf ∷ []))) (made s n) _)

-- an append as a whole
pub leaf_appended : {D : Type 0} (s : Shape) (h : Hashing D) (leaves : List D) (leaf : D) (n : ℕ) (xs ys zs : List D) → IsLawful s → n ≡ length leaves → xs ≡ nodes s h leaves → ys ≡ xs ++ (leaf ∷ [])
    → ((ls : List D) → ys ≡ map (node_of s h ls) (take (length ys) (made s (n + 1))) → zs ≡ map (node_of s h ls) (made s (n + 1)))
    → zs ≡ nodes s h (leaves ++ (leaf ∷ []))
leaf_appended s h leaves leaf n xs ys zs w q told e push =
    let l : n + 1 ≡ length (leaves ++ (leaf ∷ [])) = omega (arith, length-append leaves (leaf ∷ [])) in
    push (leaves ++ (leaf ∷ [])) (leaf_pushed s h leaves leaf n xs ys w q e told) ∙ ap (λ m. map (node_of s h (leaves ++ (leaf ∷ []))) (made s m)) l
