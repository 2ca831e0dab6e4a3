-- A sealed batch over a tree of the same list.
use Rattle.std.proofs.Common.{◌≡◌, ℕ, ◌+◌, ◌-◌, ◌<◌, ◌≤◌, Bool, true, false, cond, inl, inr, List, [], ◌∷◌, ◌++◌, length, map, Some, None, refl, sym, ◌∙◌, ap, subst, arith}
use Rattle.std.specs.Prelude.{slice_get, nat_le, if◌then◌else◌, Result, Ok, Err, IfOk, IfSome, IsSome, Option}
use Rattle.std.proofs.lemmas.List.{map-append, length-map, append-nil, append_assoc}
use Rattle.std.proofs.lemmas.Bool.Decides.{nat_tests, leb_tells}
use Rattle.tree_shape.specs.Hashing.{Hashing}
use Rattle.tree_shape.specs.Shape.{Shape, made, IsLawful}
use Rattle.tree_shape.specs.Places.{get-append}
use Rattle.tree_shape.specs.Slow.{nodes, node_of}
use Rattle.tree_store.specs.Stores.{IsTreeOf}
use Rattle.tree_core.specs.Pruned.{made_from, nodes_from}
use Rattle.tree_core.specs.Links.{ChainSegment, IsLinked, joined_nodes}
use Rattle.tree_core.specs.Tree.{Tree, node_at, IsOf}
use Rattle.tree_core.specs.Batches.{Sealed, IsSoundSealed, IsSealedOf, sealed_node}
use Rattle.tree_core.specs.Overlay.{overlaid, AreAlike}
use Rattle.tree_shape.proofs.NeededLemmas.{made_le}
use Rattle.tree_core.proofs.Held.{get_is_some}
use Rattle.tree_core.proofs.Later.{get_past, get_front, made-split, length-split, nodes-grow}
use Rattle.tree_core.proofs.LinkLemmas.{joined_of, joined_length, ends_with}

-- the nodes of a list that another begins, or that it begins, as far as both go
nodes-alike : {D : Type 0} (s : Shape) (h : Hashing D) (all other : List D) (p : ℕ) (d : D) → IsLawful s → AreAlike all other → p < length (nodes s h other) → slice_get (nodes s h all) p ≡ Some d → slice_get (nodes s h other) p ≡ Some d
nodes-alike s h all other p d w alike lt e = elim alike [
  | inl longer ↦ subst (λ (ls : List _). slice_get (nodes s h ls) p ≡ Some d) (sym longer.1)
      (ap (λ ns. slice_get ns p) (nodes-grow s h all longer.0 w) ∙ get-append (nodes s h all) _ p d e)
  | inr shorter ↦
      sym (get_front (nodes s h other) _ p lt) ∙ sym (ap (λ ns. slice_get ns p) (nodes-grow s h other shorter.0 w)) ∙ sym (ap (λ ls. slice_get (nodes s h ls) p) shorter.1) ∙ e
]

-- what the segments have is the list's
pub sealed-right : {D : Type 0} (s : Shape) (h : Hashing D) (other : List D) (b : Sealed D) (p : ℕ) (d : D) → IsSealedOf s h other b → length (made s b.first) ≤ p
    → slice_get (joined_nodes b.links) (p - length (made s b.first)) ≡ Some d → slice_get (nodes s h other) p ≡ Some d
sealed-right s h other b p d of le e =
    let j = joined_of s h other b.first b.links of.linked in
    let size = length (made s b.first) in
    let all : b.first + (length other - b.first) ≡ length other = omega (arith, j.0) in
    let at : length (map (node_of s h other) (made s b.first)) + (p - size) ≡ p = let l = length-map (made s b.first) (node_of s h other) in omega (arith, l, le) in
    let split : nodes s h other ≡ map (node_of s h other) (made s b.first) ++ nodes_from s h other b.first (length other - b.first) =
    ap (λ n. map (node_of s h other) (made s n)) (sym all) ∙ ap (map (node_of s h other)) (made-split s b.first (length other - b.first)) ∙ map-append (node_of s h other) (made s b.first) (made_from s b.first (length other - b.first)) in
    ap (λ ns. slice_get ns p) split ∙ ap (λ i. slice_get (map (node_of s h other) (made s b.first) ++ nodes_from s h other b.first (length other - b.first)) i) (sym at)
    ∙ get_past (map (node_of s h other) (made s b.first)) (nodes_from s h other b.first (length other - b.first)) (p - size) ∙ ap (λ ns. slice_get ns (p - size)) (sym j.1) ∙ e

-- the nodes before them and their own are those of the batch's leaves
pub sealed-size : {D : Type 0} (s : Shape) (b : Sealed D) → IsSoundSealed s b → length (made s b.first) + length (joined_nodes b.links) ≡ length (made s b.leaves)
sealed-size s b sound =
    let j = joined_length s b.first b.links b.leaves sound.linked in
    let all : b.first + (b.leaves - b.first) ≡ b.leaves = omega (arith, j.0) in
    let split = length-split s b.first (b.leaves - b.first) in
    let same : length (made s (b.first + (b.leaves - b.first))) ≡ length (made s b.leaves) = ap (λ n. length (made s n)) all in
    omega (arith, j.1, split, same)

-- the nodes of segments with one more
joined_push : {D : Type 0} (gs : List (ChainSegment D)) (g : ChainSegment D) → joined_nodes (gs ++ (g ∷ [])) ≡ joined_nodes gs ++ g.nodes
joined_push [] g = append-nil g.nodes
joined_push (f ∷ fs) g = ap (λ (l : List _). f.nodes ++ l) (joined_push fs g) ∙ sym (append_assoc f.nodes (joined_nodes fs) g.nodes)

-- a node of the last segment stands behind the nodes before the segment
pub own_node : {D X : Type 0} (s : Shape) (f : X → ChainSegment D) (first n k : ℕ) (xs ys : List X) (x : X) (d : D) → ys ≡ xs ++ (x ∷ []) → IsLinked s first (map f xs) n → slice_get (f x).nodes k ≡ Some d
    → (if nat_le (length (made s first)) (length (made s n) + k) then slice_get (joined_nodes (map f ys)) (length (made s n) + k - length (made s first)) else None) ≡ Some d
own_node s f first n k xs ys x d e l is =
    let j = joined_length s first (map f xs) n l in
    let whole : first + (n - first) ≡ n = omega (arith, j.0) in
    let same : length (made s (first + (n - first))) ≡ length (made s n) = ap (λ m. length (made s m)) whole in
    let split = length-split s first (n - first) in
    let size = length (made s first) in
    let place = length (made s n) + k in
    let all : map f ys ≡ map f xs ++ (f x ∷ []) = ap (map f) e ∙ map-append f xs (x ∷ []) in
    let at : place - size ≡ length (joined_nodes (map f xs)) + k = omega (arith, same, split, j.1) in
    let here : slice_get (joined_nodes (map f ys)) (place - size) ≡ Some d =
    ap (λ (gs : List (ChainSegment _)). slice_get (joined_nodes gs) (place - size)) all ∙ ap (λ (ns : List _). slice_get ns (place - size)) (joined_push (map f xs) (f x))
    ∙ ap (slice_get (joined_nodes (map f xs) ++ (f x).nodes)) at ∙ get_past (joined_nodes (map f xs)) (f x).nodes k ∙ is in
    elim (leb_tells size place) [
      | inl t ↦ rw t.0 here
      | inr u ↦ absurd (omega (arith, same, split, u.1))
    ]

-- so from there on each node is there
pub sealed-since : {D : Type 0} (s : Shape) (b : Sealed D) (p : ℕ) → IsSoundSealed s b → length (made s b.first) ≤ p → p < length (made s b.leaves) → IsSome (sealed_node s b p)
sealed-since s b p sound le lt = elim (leb_tells (length (made s b.first)) p) [
  | inl t ↦ rw t.0 (get_is_some (joined_nodes b.links) (p - length (made s b.first)) (omega (arith, le, lt, sealed-size s b sound)))
  | inr u ↦ absurd (omega (arith, le, u.1))
]

-- and before there none is
pub sealed-before : {D : Type 0} (s : Shape) (b : Sealed D) (p : ℕ) → p < length (made s b.first) → sealed_node s b p ≡ None
sealed-before s b p lt = elim (leb_tells (length (made s b.first)) p) [
  | inl t ↦ absurd (omega (arith, lt, t.1))
  | inr u ↦ rw u.0 refl
]

-- a node that it has is the list's
pub sealed-node : {D : Type 0} (s : Shape) (h : Hashing D) (other : List D) (b : Sealed D) (p : ℕ) (d : D) → IsSealedOf s h other b → sealed_node s b p ≡ Some d → slice_get (nodes s h other) p ≡ Some d
sealed-node s h other b p d of is = elim (leb_tells (length (made s b.first)) p) [
  | inl t ↦ sealed-right s h other b p d of t.1 (rw t.0 at is)
  | inr u ↦ absurd (let none = rw u.0 at is in cc)
]

pub sealed-told : {D : Type 0} (s : Shape) (b : Sealed D) (p : ℕ) (o : Option D) → o ≡ sealed_node s b p → IfSome o (λ d. (h : Hashing D) (other : List D) → IsSealedOf s h other b → slice_get (nodes s h other) p ≡ Some d)
sealed-told s b p (Some d) e = λ h other of. sealed-node s h other b p d of (sym e)
sealed-told s b p None e = tt

-- both together are the tree of the batch's list
pub overlay-tree : {D : Type 0} (s : Shape) (h : Hashing D) (all other : List D) (b : Sealed D) (t : Tree D) → IsLawful s → IsSoundSealed s b → IsOf s h all t → IsSealedOf s h other b → AreAlike all other → IsTreeOf s h other b.leaves (overlaid s b t)
overlay-tree s h all other b t w sound tree of alike = record {
  count = ends_with s h other b.first b.links b.leaves sound.linked of.linked;
  right = λ p d e. at p d (nat_le (length (made s b.first)) p) refl e;
}
  where
    at : (p : ℕ) (d : _) (m : Bool) → nat_le (length (made s b.first)) p ≡ m → cond m (sealed_node s b p) (node_at t p) ≡ Some d → slice_get (nodes s h other) p ≡ Some d
    at p d true le e =
        let below : length (made s b.first) ≤ p = grind (arith, nat_tests) in
        sealed-right s h other b p d of below (sym (ap (λ m. cond m (slice_get (joined_nodes b.links) (p - length (made s b.first))) None) le) ∙ e)
    at p d false le e =
        let past : p < length (made s b.first) = grind (arith, nat_tests) in
        let j = joined_of s h other b.first b.links of.linked in
        let grow = made_le s b.first (length other) j.0 in
        let l = length-map (made s (length other)) (node_of s h other) in
        nodes-alike s h all other p d w alike (omega (arith, past, grow, l)) (tree.right p d e)

-- so a proof from both is that of the batch's list
pub overlay-proof : {P E D : Type 0} (s : Shape) (b : Sealed D) (t : Tree D) (n : ℕ) (of : Hashing D → List D → P) (result : Result P E) → IsLawful s → IsSoundSealed s b → n ≡ b.leaves
    → IfOk result (λ proof. (h : Hashing D) (all : List D) → IsTreeOf s h all n (overlaid s b t) → proof ≡ of h all)
    → IfOk result (λ proof. (h : Hashing D) (all other : List D) → IsOf s h all t → IsSealedOf s h other b → AreAlike all other → proof ≡ of h other)
overlay-proof s b t n of (Ok proof) w sound e right =
    λ h all other tree sealed alike. right h other (subst (λ (m : ℕ). IsTreeOf s h other m (overlaid s b t)) (sym e) (overlay-tree s h all other b t w sound tree sealed alike))
overlay-proof s b t n of (Err x) w sound e right = tt
