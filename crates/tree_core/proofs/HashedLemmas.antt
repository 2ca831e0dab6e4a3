-- Nodes that are hashed from their halves, whichever list they are of.
use Rattle.std.proofs.Common.{◌≡◌, inl, inr, ℕ, suc, ◌+◌, ◌-◌, ◌^◌, ◌<◌, List, [], ◌∷◌, ◌++◌, length, map, Some, Option, refl, sym, ◌∙◌, ap, subst, arith, length-append}
use Rattle.std.specs.Prelude.{slice_get}
use Rattle.std.proofs.lemmas.Bool.{cases_lt}
use Rattle.std.proofs.lemmas.Bool.Decides.{eqb_tells, leb_tells}
use Rattle.std.proofs.lemmas.List.{map-append, append-nil}
use Rattle.std.proofs.lemmas.Option.{slice_get_within, same_Some}
use Rattle.tree_shape.specs.Hashing.{Hashing, node_input}
use Rattle.tree_shape.specs.Places.{get-append, get-behind}
use Rattle.tree_shape.specs.Shape.{Shape, made, peaks_down}
use Rattle.tree_core.specs.Batches.{Sealed, sealed_node}
use Rattle.tree_core.specs.Hashed.{IsHashedAt, AreHashed, HasParents}
use Rattle.tree_core.specs.Links.{ChainSegment, joined_nodes}
use Rattle.tree_core.specs.Pruned.{made_from, peak_found, held_at}
use Rattle.tree_core.proofs.Later.{get_front}
use Rattle.tree_core.proofs.Since.{parent_since, nothing_since}

-- ---- as they are made

module _ {D : Type 0} (s : Shape) (h : Hashing D) (b : ℕ) (ps : List D) where
  held_on : (since more : List D) (y c : ℕ) (d : D) → held_at s b ps since y c ≡ Some d → held_at s b ps (since ++ more) y c ≡ Some d
  held_on since more y c d is = elim (leb_tells (length (made s b)) (s.position y c)) [
    | inl t ↦ rw t.0 (get-append since more (s.position y c - length (made s b)) d (rw t.0 at is))
    | inr t ↦ rw t.0 (rw t.0 at is)
  ]

  hashed_on : (since more : List D) (i x k : ℕ) → IsHashedAt s h b ps since i x k → IsHashedAt s h b ps (since ++ more) i x k
  hashed_on since more i x k was = record {
    left = was.left;
    right = was.right;
    left_is = held_on since more x k was.left was.left_is;
    right_is = held_on since more (x + 2 ^ k) k was.right was.right_is;
    node = get-append since more i _ was.node;
  }

  hashed_push : (j : ℕ) (since : List D) (d : D) → AreHashed s h b j ps since → ((x k : ℕ) → slice_get (made_from s b j) (length since) ≡ Some (x, suc k) → IsHashedAt s h b ps (since ++ (d ∷ [])) (length since) x k)
      → AreHashed s h b j ps (since ++ (d ∷ []))
  hashed_push j since d all last i x k lt at = elim (cases_lt i (length since)) [
    | inl before ↦ hashed_on since (d ∷ []) i x k (all i x k before at)
    | inr here ↦
        let same : i ≡ length since = omega (arith, here, lt, length-append since (d ∷ [])) in
        subst (λ (m : ℕ). IsHashedAt s h b ps (since ++ (d ∷ [])) m x k) (sym same) (last x k (ap (slice_get (made_from s b j)) (sym same) ∙ at))
  ]

  pub nothing_hashed : (j : ℕ) (since : List D) → since ≡ [] → AreHashed s h b j ps since
  nothing_hashed j since none i x k lt at = absurd (omega (arith, lt, ap (λ (l : List D). length l) none))

  -- one more parent
  pub parent_hashed : (j i x k half len : ℕ) (since : List D) (l r : D) → Some (x, k) ≡ slice_get (s.parents (b + j)) i → len ≡ length since → len ≡ length (made_from s b j) + 1 + i → half ≡ 2 ^ (k - 1)
      → Some l ≡ held_at s b ps since x (k - 1) → Some r ≡ held_at s b ps since (x + half) (k - 1) → AreHashed s h b (j + 1) ps since
      → AreHashed s h b (j + 1) ps (since ++ (h.digest (node_input h (length (made s b) + len) l r) ∷ []))
  parent_hashed j i x k half len since l r e el en eh hl hr all =
      let more = h.digest (node_input h (length (made s b) + len) l r) ∷ [] in
      hashed_push (j + 1) since (h.digest (node_input h (length (made s b) + len) l r)) all (λ y c at.
      let here : slice_get (made_from s b (j + 1)) len ≡ Some (x, k) = parent_since s b j i x k len e en in
      let same : (x, k) ≡ (y, suc c) = same_Some (x, k) (y, suc c) (sym here ∙ ap (slice_get (made_from s b (j + 1))) el ∙ at) in
      let first : x ≡ y = ap (λ (q : ℕ × ℕ). q.0) same in
      let high : k ≡ suc c = ap (λ (q : ℕ × ℕ). q.1) same in
      let low : k - 1 ≡ c = omega (arith, high) in
      let place : x + half ≡ y + 2 ^ c = ap (λ (z : ℕ). z + half) first ∙ ap (λ (z : ℕ). y + z) (eh ∙ ap (λ (m : ℕ). 2 ^ m) low) in
      record {
        left = l;
        right = r;
        left_is = held_on since more y c l (ap (λ (z : ℕ). held_at s b ps since z c) (sym first) ∙ ap (λ (m : ℕ). held_at s b ps since x m) (sym low) ∙ sym hl);
        right_is = held_on since more (y + 2 ^ c) c r (ap (λ (z : ℕ). held_at s b ps since z c) (sym place) ∙ ap (λ (m : ℕ). held_at s b ps since (x + half) m) (sym low) ∙ sym hr);
        node = get-behind since [] (h.digest (node_input h (length (made s b) + len) l r)) ∙ ap (λ (m : ℕ). Some (h.digest (node_input h (length (made s b) + m) l r))) el;
      })

  made_next : (j : ℕ) → made_from s b (j + 1) ≡ made_from s b j ++ ((b + j, 0) ∷ s.parents (b + j))
  unfolding made_from
  made_next j = let e : j + 1 ≡ suc j = omega arith in rw e refl

  -- the next leaf
  pub leaf_hashed : (j : ℕ) (since : List D) (d : D) → length since ≡ length (made_from s b j) → AreHashed s h b j ps since → AreHashed s h b (j + 1) ps (since ++ (d ∷ []))
  leaf_hashed j since d counted all =
      hashed_push (j + 1) since d
      (λ i x k lt at. all i x k lt (sym (get_front (made_from s b j) _ i (omega (arith, lt, counted))) ∙ sym (ap (λ (l : List (ℕ × ℕ)). slice_get l i) (made_next j)) ∙ at))
      (λ y c at.
      let leaf : slice_get (made_from s b (j + 1)) (length since) ≡ Some (b + j, 0) =
      ap (slice_get (made_from s b (j + 1))) counted ∙ ap (λ (l : List (ℕ × ℕ)). slice_get l (length (made_from s b j))) (made_next j) ∙ get-behind (made_from s b j) (s.parents (b + j)) (b + j, 0) in
      let same : (b + j, 0) ≡ (y, suc c) = same_Some (b + j, 0) (y, suc c) (sym leaf ∙ at) in
      let high : 0 ≡ suc c = ap (λ (q : ℕ × ℕ). q.1) same in
      absurd (omega (arith, high)))

-- the last segment of a batch
pub last_hashed : {D X : Type 0} (s : Shape) (h : Hashing D) (f : X → ChainSegment D) (xs ys : List X) (x : X) (g : ChainSegment D) → ys ≡ xs ++ (x ∷ []) → AreHashed s h (f x).leaves (f x).later (f x).peaks (f x).nodes
    → slice_get (map f ys) (length (map f ys) - 1) ≡ Some g → AreHashed s h g.leaves g.later g.peaks g.nodes
last_hashed s h f xs ys x g e hashed at =
    let all : map f ys ≡ map f xs ++ (f x ∷ []) = ap (map f) e ∙ map-append f xs (x ∷ []) in
    let end : length (map f ys) - 1 ≡ length (map f xs) = omega (arith, ap (λ (l : List (ChainSegment _)). length l) all, length-append (map f xs) (f x ∷ [])) in
    let here : slice_get (map f ys) (length (map f ys) - 1) ≡ Some (f x) = ap (slice_get (map f ys)) end ∙ ap (λ (l : List (ChainSegment _)). slice_get l (length (map f xs))) all ∙ get-behind (map f xs) [] (f x) in
    subst (λ (k : ChainSegment _). AreHashed s h k.leaves k.later k.peaks k.nodes) (same_Some (f x) g (sym here ∙ at)) hashed

-- ---- as a tree tells them

-- a peak that is found is the one that is told
found_is : {D : Type 0} (s : Shape) (f : ℕ → Option D) (e : ℕ) (hs : List ℕ) (ps : List D) (x k : ℕ) (d : D) → map (λ (q : D). Some q) ps ≡ map (λ c. f (s.position c.0 c.1)) (peaks_down e hs) → peak_found e hs ps x k ≡ Some d → f (s.position x k) ≡ Some d
found_is s f e [] ps x k d told is = absurd (cc)
found_is s f e (c ∷ cs) [] x k d told is = absurd (cc)
found_is {D = D} s f e (c ∷ cs) (q ∷ qs) x k d told is =
    let first : Some q ≡ f (s.position (e - 2 ^ c) c) = cc in
    let others : map (λ (y : D). Some y) qs ≡ map (λ c. f (s.position c.0 c.1)) (peaks_down (e - 2 ^ c) cs) = cc in
    elim (eqb_tells (e - 2 ^ c) x) [
      | inl a ↦ elim (eqb_tells c k) [
        | inl b ↦
            let same : Some q ≡ Some d = rw (a.0, b.0) at is in
            ap (λ y. f (s.position y k)) (sym a.1) ∙ ap (λ j. f (s.position (e - 2 ^ c) j)) (sym b.1) ∙ sym first ∙ same
        | inr b ↦ found_is s f (e - 2 ^ c) cs qs x k d others (rw (a.0, b.0) at is)
      ]
      | inr a ↦ found_is s f (e - 2 ^ c) cs qs x k d others (rw a.0 at is)
    ]

-- what one leaf makes over a tree that tells the peaks of a mark
pub has_parents : {D : Type 0} (s : Shape) (h : Hashing D) (f g : ℕ → Option D) (n : ℕ) (ps since : List D) → length since ≡ length (made_from s n 1) → map (λ (q : D). Some q) ps ≡ map (λ c. f (s.position c.0 c.1)) (peaks_down n (s.heights n))
    → ((p : ℕ) → p < length (made s n) → g p ≡ f p) → ((i : ℕ) → g (length (made s n) + i) ≡ slice_get since i) → AreHashed s h n 1 ps since → HasParents s h n g
has_parents {D = D} s h f g n ps since counted peaks before behind hashed i x k at =
    let whole : n + 0 ≡ n = omega arith in
    let there : Some (x, suc k) ≡ slice_get (s.parents (n + 0)) i = sym (ap (λ (m : ℕ). slice_get (s.parents m) i) whole ∙ at) in
    let none = (nothing_since s h [] n).1 in
    let here : slice_get (made_from s n 1) (1 + i) ≡ Some (x, suc k) = parent_since s n 0 i x (suc k) (1 + i) there (omega (arith, none)) in
    let made_i = hashed (1 + i) x k (let lt = slice_get_within (made_from s n 1) (1 + i) (x, suc k) here in omega (arith, lt, counted)) here in
    let place : length (made s n) + 1 + i ≡ length (made s n) + (1 + i) = omega arith in
    record {
      left = made_i.left;
      right = made_i.right;
      left_is = told x k made_i.left made_i.left_is;
      right_is = told (x + 2 ^ k) k made_i.right made_i.right_is;
      node = ap g place ∙ behind (1 + i) ∙ made_i.node ∙ ap (λ (m : ℕ). Some (h.digest (node_input h m made_i.left made_i.right))) (sym place);
    }
  where
    told : (y c : ℕ) (d : D) → held_at s n ps since y c ≡ Some d → g (s.position y c) ≡ Some d
    told y c d is = elim (leb_tells (length (made s n)) (s.position y c)) [
      | inl t ↦
          let at : length (made s n) + (s.position y c - length (made s n)) ≡ s.position y c = omega (arith, t.1) in
          ap g (sym at) ∙ behind (s.position y c - length (made s n)) ∙ (rw t.0 at is)
      | inr t ↦ before (s.position y c) t.1 ∙ found_is s f n (s.heights n) ps y c d peaks (rw t.0 at is)
    ]

-- a batch of one segment has the segment's nodes from its mark on
pub only_segment : {D : Type 0} (s : Shape) (z : Sealed D) (n i : ℕ) (g : ChainSegment D) → z.first ≡ n → z.links ≡ g ∷ [] → sealed_node s z (length (made s n) + i) ≡ slice_get g.nodes i
only_segment s z n i g first links =
    let same : length (made s z.first) ≡ length (made s n) = ap (λ (m : ℕ). length (made s m)) first in
    elim (leb_tells (length (made s z.first)) (length (made s n) + i)) [
      | inl t ↦ rw t.0 (ap (λ (gs : List (ChainSegment _)). slice_get (joined_nodes gs) (length (made s n) + i - length (made s z.first))) links
          ∙ ap (slice_get (g.nodes ++ [])) (omega (arith, same)) ∙ ap (λ (l : List _). slice_get l i) (append-nil g.nodes))
      | inr u ↦ absurd (omega (arith, u.1, same))
    ]
