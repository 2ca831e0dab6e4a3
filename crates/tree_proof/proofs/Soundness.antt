-- What an accepted proof shows: the items are the elements, or two inputs clash.
use Rattle.std.proofs.Common.{◌≡◌, ℕ, zero, suc, ◌+◌, ◌-◌, ◌*◌, ◌^◌, ◌<◌, ◌≤◌, inl, inr, true, false, Bool, cond, List, [], ◌∷◌, ◌++◌, length, map, drop, get_or, Option, Some, refl, sym, ◌∙◌, ap, subst, arith, append_assoc, length-drop}
use Rattle.std.specs.Prelude.{slice_range}
use Rattle.std.specs.List.{flat_map, AllByRecursion}
use Rattle.std.specs.Option.{option_and_then}
use Rattle.std.proofs.lemmas.Bool.{cases_lt}
use Rattle.std.proofs.lemmas.Bool.Decides.{nat_tests}
use Rattle.std.proofs.lemmas.List.{get_or_past, get_or-take, get_or-drop, length-take, length-map, map-append, ext_get_or, reverse-reverse}
use Rattle.std.proofs.Math.Nat.{pow-suc}
use Rattle.std.proofs.lemmas.Nat.{pow_pos}
use Rattle.tree_shape.specs.declared.bagging.Bagging.{Bagging}
use Rattle.tree_shape.specs.Hashing.{Hashing, node_input}
use Rattle.tree_shape.specs.Shape.{Shape, made, PeaksStand, peaks, peaks_down}
use Rattle.tree_shape.specs.Slow.{leaf, leaf_at, leaf_digests, node, node_of}
use Rattle.tree_shape.specs.Root.{root, root_over}
use Rattle.tree_shape.proofs.NodeLemmas.{node-leaf}
use Rattle.tree_proof.specs.declared.proof.Proof.{Proof}
use Rattle.tree_proof.specs.Cover.{Opened, meets, cover_in, cover_over, cover}
use Rattle.tree_proof.specs.Check.{next_of, joined_by, rebuilt, before, rebuilt_over, all_used, wholly_rebuilt, item_leaf, Checks}
use Rattle.tree_proof.specs.Inputs.{input_of, element_of, slow_inputs, tree_inputs, from_some, leaf_by, rebuilt_inputs, rebuilt_over_inputs, item_of, proof_inputs, root_inputs, ShowsElements}
use Rattle.tree_proof.proofs.Complete.{length-leaf_digests, leaf_digests-at}
use Rattle.tree_proof.proofs.CoverCount.{some_bind, some_map}
use Rattle.tree_proof.proofs.RebuildLemmas.{append_nil, meets_leaf, length-wholly_rebuilt}
use Rattle.tree_proof.proofs.Clashes.{Sized, EachSized, AllIn, OrClash, and_then, same_or_clash, in_first, in_rest, in_left, in_right, roots_is}
use Rattle.tree_proof.proofs.InputLemmas.{leaf_input_same, node_input_same}
use Rattle.tree_shape.proofs.PeakLemmas.{all-reverse}

not_both : (t : Bool) → t ≡ true → t ≡ false → ⊥
not_both t a b = absurd (let e : true ≡ false = sym a ∙ b in cc)

module _ {D : Type 0} (s : Shape) (h : Hashing D) (inputs : List (List ℕ)) (size : ℕ) (exact : (a b : D) → h.bytes a ≡ h.bytes b → a ≡ b) (one_size : (m : List ℕ) → length (h.bytes (h.digest m)) ≡ size)
    (elements : List (List ℕ)) (met : Opened) (item : ℕ → List ℕ) (under : (x k y : ℕ) → x ≤ y → y < x + 2 ^ k → met y 0 ≡ true → met x k ≡ true) where
  abbrev leaves : List D
  leaves = leaf_digests s h elements

  sized_leaf : (x : ℕ) → Sized h inputs size exact one_size (leaf_at h leaves x)
  sized_leaf x = elim (cases_lt x (length elements)) [
    | inl lt ↦ subst (Sized h inputs size exact one_size) (leaf_digests-at s h elements x lt) (one_size _)
    | inr le ↦ subst (Sized h inputs size exact one_size) (sym (get_or_past leaves x (h.digest []) (omega (arith, le, length-leaf_digests s h elements)))) (one_size _)
  ]

  pub sized_node : (x k : ℕ) → Sized h inputs size exact one_size (node s h leaves x k)
  unfolding node
  sized_node x zero = sized_leaf x
  sized_node x (suc k) = one_size _

  -- the leaves under a node that are met are the elements
  abbrev pub Shown : ℕ → ℕ → Type 0
  Shown x k = (y : ℕ) → x ≤ y → y < x + 2 ^ k → met y 0 ≡ true → item y ≡ element_of s h elements y

  abbrev SizedResult : Option (D × List D) → Type 0
  SizedResult r = (q : D × List D) → r ≡ Some q → Sized h inputs size exact one_size q.0 × EachSized h inputs size exact one_size q.1

  sized_pair : (d : D) (ds : List D) (q : D × List D) → Some (d, ds) ≡ Some q → Sized h inputs size exact one_size d → EachSized h inputs size exact one_size ds → Sized h inputs size exact one_size q.0 × EachSized h inputs size exact one_size q.1
  sized_pair d ds q e sd ss = let same : (d, ds) ≡ q = cc in subst (λ (p : D × List D). Sized h inputs size exact one_size p.0 × EachSized h inputs size exact one_size p.1) same (sd, ss)

  sized_next : (ds : List D) → EachSized h inputs size exact one_size ds → SizedResult (next_of ds)
  sized_next [] ss q e = absurd (cc)
  sized_next (d ∷ ds) ss q e = sized_pair d ds q e ss.0 ss.1

  abbrev AreSized : ℕ → ℕ → Type 0
  AreSized x k = (ds : List D) → EachSized h inputs size exact one_size ds → SizedResult (rebuilt s h met (leaf_by s h item) x k ds)

  sized_at_leaf : (x : ℕ) (m : Bool) (ds : List D) → EachSized h inputs size exact one_size ds → SizedResult (cond m (Some (leaf_by s h item x, ds)) (next_of ds))
  sized_at_leaf x true ds ss q e = sized_pair (leaf_by s h item x) ds q e (one_size _) ss
  sized_at_leaf x false ds ss q e = sized_next ds ss q e

  sized_at_inner : (x k : ℕ) → AreSized x k → AreSized (x + 2 ^ k) k → (m : Bool) (ds : List D) → EachSized h inputs size exact one_size ds
      → SizedResult (cond m (option_and_then (λ left. option_and_then (λ right. joined_by s h x k left.0 right) (rebuilt s h met (leaf_by s h item) (x + 2 ^ k) k left.1)) (rebuilt s h met (leaf_by s h item) x k ds)) (next_of ds))
  sized_at_inner x k lh rh false ds ss q e = sized_next ds ss q e
  sized_at_inner x k lh rh true ds ss q e =
      let l = some_bind (λ left. option_and_then (λ right. joined_by s h x k left.0 right) (rebuilt s h met (leaf_by s h item) (x + 2 ^ k) k left.1)) (rebuilt s h met (leaf_by s h item) x k ds) q e in
      let r = some_bind (λ right. joined_by s h x k l.0.0 right) (rebuilt s h met (leaf_by s h item) (x + 2 ^ k) k l.0.1) q l.2 in
      sized_pair _ r.0.1 q r.2 (one_size _) (rh l.0.1 (lh ds ss l.0 l.1).1 r.0 r.1).1

  sized : (x k : ℕ) → AreSized x k
  unfolding rebuilt
  sized x zero ds ss = sized_at_leaf x (met x 0) ds ss
  sized x (suc k) ds ss = sized_at_inner x k (sized x k) (sized (x + 2 ^ k) k) (met x (suc k)) ds ss

  pub node_input_is : (position : ℕ) (l r l1 r1 : D) → Sized h inputs size exact one_size l → Sized h inputs size exact one_size l1 → node_input h position l r ≡ node_input h position l1 r1 → (l ≡ l1) × (r ≡ r1)
  node_input_is position l r l1 r1 sl sl1 e = node_input_same h exact position l r l1 r1 (sl ∙ sym sl1) e

  -- the digests that a node took are the slow nodes of its cover
  abbrev Took : ℕ → ℕ → List D → List D → Type 0
  Took x k ds rest = ds ≡ map (node_of s h leaves) (cover_in met x k) ++ rest

  -- what is rebuilt as the slow node shows its leaves, and took slow nodes
  abbrev NodeShown : ℕ → ℕ → Type 0
  NodeShown x k = (ds : List D) (q : D × List D) → x + 2 ^ k ≤ length elements → EachSized h inputs size exact one_size ds
      → AllIn h inputs size exact one_size (slow_inputs s h elements x k) → AllIn h inputs size exact one_size (rebuilt_inputs s h met item x k ds)
      → rebuilt s h met (leaf_by s h item) x k ds ≡ Some q → q.0 ≡ node s h leaves x k → OrClash h inputs size exact one_size (Shown x k × Took x k ds q.1)

  one_leaf : (x y : ℕ) → x ≤ y → y < x + 2 ^ 0 → x ≡ y
  one_leaf x y le lt = omega arith

  first_is : (d : D) (ds : List D) (q : D × List D) → Some (d, ds) ≡ Some q → d ≡ q.0
  first_is d ds q e = let same : (d, ds) ≡ q = cc in ap (λ (p : D × List D). p.0) same

  rest_is : (d : D) (ds : List D) (q : D × List D) → Some (d, ds) ≡ Some q → ds ≡ q.1
  rest_is d ds q e = let same : (d, ds) ≡ q = cc in ap (λ (p : D × List D). p.1) same

  -- the next digest is what was taken
  next_is : (ds : List D) (q : D × List D) (d : D) → next_of ds ≡ Some q → q.0 ≡ d → ds ≡ d ∷ q.1
  next_is [] q d e f = absurd (cc)
  next_is (c ∷ ds) q d e f = ap (λ b. b ∷ ds) (first_is c ds q e ∙ f) ∙ ap (λ bs. d ∷ bs) (rest_is c ds q e)

  at_leaf : (x : ℕ) (m : Bool) → met x 0 ≡ m → (ds : List D) (q : D × List D) → x + 2 ^ 0 ≤ length elements
      → AllIn h inputs size exact one_size (input_of s h (element_of s h elements) x ∷ []) → AllIn h inputs size exact one_size (cond m (input_of s h item x ∷ []) [])
      → cond m (Some (leaf_by s h item x, ds)) (next_of ds) ≡ Some q → q.0 ≡ leaf_at h leaves x → OrClash h inputs size exact one_size (Shown x 0 × (ds ≡ map (node_of s h leaves) (cond m [] ((x, 0) ∷ [])) ++ q.1))
  at_leaf x false m ds q le i j e d =
      inl (λ y le lt my. absurd (let same = one_leaf x y le lt in not_both (met x 0) (ap (λ z. met z 0) same ∙ my) m), next_is ds q (node s h leaves x 0) e (d ∙ node-leaf s h leaves x 0 refl))
  at_leaf x true m ds q le i j e d =
      let both : leaf s h x (item x) ≡ leaf s h x (element_of s h elements x) = first_is (leaf_by s h item x) ds q e ∙ d ∙ sym (leaf_digests-at s h elements x (omega (arith, le))) in
      and_then h inputs size exact one_size
      (same_or_clash h inputs size exact one_size (input_of s h item x) (input_of s h (element_of s h elements) x) (in_first h inputs size exact one_size (input_of s h item x) [] j) (in_first h inputs size exact one_size (input_of s h (element_of s h elements) x) [] i) both)
      (λ t. let here = leaf_input_same (s.position x 0) (item x) (element_of s h elements x) t in
      inl (λ y le lt my. let same = one_leaf x y le lt in ap item (sym same) ∙ here ∙ ap (element_of s h elements) same, rest_is (leaf_by s h item x) ds q e))

  both_took : (x k : ℕ) (ds es fs rest : List D) → Took x k ds es → Took (x + 2 ^ k) k es fs → fs ≡ rest → ds ≡ map (node_of s h leaves) (cover_in met x k ++ cover_in met (x + 2 ^ k) k) ++ rest
  both_took x k ds es fs rest l r e =
      let ls = map (node_of s h leaves) (cover_in met x k) in
      let rs = map (node_of s h leaves) (cover_in met (x + 2 ^ k) k) in
      l ∙ ap (λ t. ls ++ t) (r ∙ ap (λ t. rs ++ t) e) ∙ sym (append_assoc ls rs rest) ∙ ap (λ t. t ++ rest) (sym (map-append (node_of s h leaves) (cover_in met x k) (cover_in met (x + 2 ^ k) k)))

  node-both : (x k : ℕ) → h.digest (node_input h (s.position x (suc k)) (node s h leaves x k) (node s h leaves (x + 2 ^ k) k)) ≡ node s h leaves x (suc k)
  unfolding node
  node-both x k = refl

  pub both_shown : (x k : ℕ) → Shown x k → Shown (x + 2 ^ k) k → Shown x (suc k)
  both_shown x k l r y le lt my =
      let two : 2 ^ suc k ≡ 2 ^ k * 2 = pow-suc 2 k in
      elim (cases_lt y (x + 2 ^ k)) [
        | inl below ↦ l y le below my
        | inr past ↦ r y past (omega arith) my
      ]

  inner_shown : (x k : ℕ) → NodeShown x k → NodeShown (x + 2 ^ k) k → (m : Bool) → met x (suc k) ≡ m → (ds : List D) (q : D × List D) → x + 2 ^ suc k ≤ length elements → EachSized h inputs size exact one_size ds
      → AllIn h inputs size exact one_size (node_input h (s.position x (suc k)) (node s h leaves x k) (node s h leaves (x + 2 ^ k) k) ∷ (slow_inputs s h elements x k ++ slow_inputs s h elements (x + 2 ^ k) k))
      → AllIn h inputs size exact one_size (cond m (rebuilt_inputs s h met item x k ds
      ++ from_some s h (λ left. rebuilt_inputs s h met item (x + 2 ^ k) k left.1 ++ from_some s h (λ right. node_input h (s.position x (suc k)) left.0 right.0 ∷ []) (rebuilt s h met (leaf_by s h item) (x + 2 ^ k) k left.1)) (rebuilt s h met (leaf_by s h item) x k ds)) [])
      → cond m (option_and_then (λ left. option_and_then (λ right. joined_by s h x k left.0 right) (rebuilt s h met (leaf_by s h item) (x + 2 ^ k) k left.1)) (rebuilt s h met (leaf_by s h item) x k ds)) (next_of ds) ≡ Some q
      → q.0 ≡ h.digest (node_input h (s.position x (suc k)) (node s h leaves x k) (node s h leaves (x + 2 ^ k) k))
      → OrClash h inputs size exact one_size (Shown x (suc k) × (ds ≡ map (node_of s h leaves) (cond m (cover_in met x k ++ cover_in met (x + 2 ^ k) k) ((x, suc k) ∷ [])) ++ q.1))
  inner_shown x k lh rh false m ds q le ss i j e d = inl (λ y ly lt my. absurd (not_both (met x (suc k)) (under x (suc k) y ly lt my) m), next_is ds q (node s h leaves x (suc k)) e (d ∙ node-both x k))
  inner_shown x k lh rh true m ds q le ss i j e d =
      let two : 2 ^ suc k ≡ 2 ^ k * 2 = pow-suc 2 k in
      let In = AllIn h inputs size exact one_size in
      let right_inputs : D × List D → List (List ℕ) = λ left. rebuilt_inputs s h met item (x + 2 ^ k) k left.1 ++ from_some s h (λ right. node_input h (s.position x (suc k)) left.0 right.0 ∷ []) (rebuilt s h met (leaf_by s h item) (x + 2 ^ k) k left.1) in
      let l = some_bind (λ left. option_and_then (λ right. joined_by s h x k left.0 right) (rebuilt s h met (leaf_by s h item) (x + 2 ^ k) k left.1)) (rebuilt s h met (leaf_by s h item) x k ds) q e in
      let r = some_bind (λ right. joined_by s h x k l.0.0 right) (rebuilt s h met (leaf_by s h item) (x + 2 ^ k) k l.0.1) q l.2 in
      let j_left : In (rebuilt_inputs s h met item x k ds) = in_left h inputs size exact one_size _ _ j in
      let j_rest : In (right_inputs l.0) = subst (λ (o : Option (D × List D)). In (from_some s h right_inputs o)) l.1 (in_right h inputs size exact one_size (rebuilt_inputs s h met item x k ds) _ j) in
      let j_right : In (rebuilt_inputs s h met item (x + 2 ^ k) k l.0.1) = in_left h inputs size exact one_size _ _ j_rest in
      let j_node : In (node_input h (s.position x (suc k)) l.0.0 r.0.0 ∷ []) = subst (λ (o : Option (D × List D)). In (from_some s h (λ right. node_input h (s.position x (suc k)) l.0.0 right.0 ∷ []) o)) r.1 (in_right h inputs size exact one_size (rebuilt_inputs s h met item (x + 2 ^ k) k l.0.1) _ j_rest) in
      let i_rest = in_rest h inputs size exact one_size _ _ i in
      let sl = sized x k ds ss l.0 l.1 in
      let made : h.digest (node_input h (s.position x (suc k)) l.0.0 r.0.0) ≡ q.0 = first_is (h.digest (node_input h (s.position x (suc k)) l.0.0 r.0.0)) r.0.1 q r.2 in
      and_then h inputs size exact one_size
      (same_or_clash h inputs size exact one_size (node_input h (s.position x (suc k)) l.0.0 r.0.0) (node_input h (s.position x (suc k)) (node s h leaves x k) (node s h leaves (x + 2 ^ k) k))
      (in_first h inputs size exact one_size _ [] j_node) (in_first h inputs size exact one_size _ (slow_inputs s h elements x k ++ slow_inputs s h elements (x + 2 ^ k) k) i) (made ∙ d))
      (λ t. let same = node_input_is (s.position x (suc k)) l.0.0 r.0.0 (node s h leaves x k) (node s h leaves (x + 2 ^ k) k) sl.0 (sized_node x k) t in
      and_then h inputs size exact one_size
      (lh ds l.0 (omega arith) ss (in_left h inputs size exact one_size _ _ i_rest) j_left l.1 same.0)
      (λ shown_left. and_then h inputs size exact one_size
      (rh l.0.1 r.0 (omega arith) sl.1 (in_right h inputs size exact one_size (slow_inputs s h elements x k) _ i_rest) j_right r.1 same.1)
      (λ shown_right.
      let rest : r.0.1 ≡ q.1 = rest_is (h.digest (node_input h (s.position x (suc k)) l.0.0 r.0.0)) r.0.1 q r.2 in
      inl (both_shown x k shown_left.0 shown_right.0, both_took x k ds l.0.1 r.0.1 q.1 shown_left.1 shown_right.1 rest))))

  node_shown : (x k : ℕ) → NodeShown x k
  unfolding rebuilt rebuilt_inputs slow_inputs node cover_in
  node_shown x zero ds q le ss i j e d = at_leaf x (met x 0) refl ds q le i j e d
  node_shown x (suc k) ds q le ss i j e d = inner_shown x k (node_shown x k) (node_shown (x + 2 ^ k) k) (met x (suc k)) refl ds q le ss i j e d

  -- ---- node behind node

  abbrev pub Within : ℕ × ℕ → Type 0
  Within p = p.0 + 2 ^ p.1 ≤ length elements

  abbrev ShownAt : ℕ × ℕ → Type 0
  ShownAt p = Shown p.0 p.1

  cons_is : (x : D) (q r : List D × List D) (y : D) (ys : List D) → before x q ≡ Some r → r.0 ≡ y ∷ ys → (x ≡ y) × (q.0 ≡ ys)
  cons_is x q r y ys e f =
      let same : (x ∷ q.0, q.1) ≡ r = cc in
      let all : x ∷ q.0 ≡ y ∷ ys = ap (λ (p : List D × List D). p.0) same ∙ f in
      (ap (λ (zs : List D). get_or zs 0 x) all, ap (drop 1) all)

  before_rest : (x : D) (q r : List D × List D) → before x q ≡ Some r → q.1 ≡ r.1
  before_rest x q r e = let same : (x ∷ q.0, q.1) ≡ r = cc in ap (λ (p : List D × List D). p.1) same

  pub over_shown : (ps : List (ℕ × ℕ)) (ds : List D) (rs : List D × List D) → AllByRecursion Within ps → EachSized h inputs size exact one_size ds
      → AllIn h inputs size exact one_size (flat_map (λ p. slow_inputs s h elements p.0 p.1) ps) → AllIn h inputs size exact one_size (rebuilt_over_inputs s h met item ps ds)
      → rebuilt_over s h met (leaf_by s h item) ps ds ≡ Some rs → rs.0 ≡ map (node_of s h leaves) ps → OrClash h inputs size exact one_size (AllByRecursion ShownAt ps × (ds ≡ map (node_of s h leaves) (cover_over met ps) ++ rs.1))
  unfolding rebuilt_over rebuilt_over_inputs
  over_shown [] ds rs w ss i j e d = inl (tt, let same : ([], ds) ≡ rs = cc in ap (λ (p : List D × List D). p.1) same)
  over_shown (p ∷ ps) ds rs w ss i j e d =
      let In = AllIn h inputs size exact one_size in
      let l = some_bind (λ first. option_and_then (before first.0) (rebuilt_over s h met (leaf_by s h item) ps first.1)) (rebuilt s h met (leaf_by s h item) p.0 p.1 ds) rs e in
      let r = some_bind (before l.0.0) (rebuilt_over s h met (leaf_by s h item) ps l.0.1) rs l.2 in
      let same = cons_is l.0.0 r.0 rs (node_of s h leaves p) (map (node_of s h leaves) ps) r.2 d in
      let j_rest : In (rebuilt_over_inputs s h met item ps l.0.1) =
      subst (λ (o : Option (D × List D)). In (from_some s h (λ first. rebuilt_over_inputs s h met item ps first.1) o)) l.1 (in_right h inputs size exact one_size (rebuilt_inputs s h met item p.0 p.1 ds) _ j) in
      and_then h inputs size exact one_size
      (node_shown p.0 p.1 ds l.0 w.0 ss (in_left h inputs size exact one_size _ _ i) (in_left h inputs size exact one_size _ _ j) l.1 same.0)
      (λ shown. and_then h inputs size exact one_size
      (over_shown ps l.0.1 r.0 w.1 (sized p.0 p.1 ds ss l.0 l.1).1 (in_right h inputs size exact one_size (slow_inputs s h elements p.0 p.1) _ i) j_rest r.1 same.1)
      (λ rest.
      let last : r.0.1 ≡ rs.1 = before_rest l.0.0 r.0 rs r.2 in
      let ls = map (node_of s h leaves) (cover_in met p.0 p.1) in
      let qs = map (node_of s h leaves) (cover_over met ps) in
      inl ((shown.0, rest.0), shown.1 ∙ ap (λ t. ls ++ t) (rest.1 ∙ ap (λ t. qs ++ t) last) ∙ sym (append_assoc ls qs rs.1) ∙ ap (λ t. t ++ rs.1) (sym (map-append (node_of s h leaves) (cover_in met p.0 p.1) (cover_over met ps))))))

  pub sized_nodes : (ps : List (ℕ × ℕ)) → EachSized h inputs size exact one_size (map (node_of s h leaves) ps)
  sized_nodes [] = tt
  sized_nodes (p ∷ ps) = (sized_node p.0 p.1, sized_nodes ps)

  sized_over : (ps : List (ℕ × ℕ)) (ds : List D) (rs : List D × List D) → EachSized h inputs size exact one_size ds → rebuilt_over s h met (leaf_by s h item) ps ds ≡ Some rs → EachSized h inputs size exact one_size rs.0
  unfolding rebuilt_over
  sized_over [] ds rs ss e = let same : ([], ds) ≡ rs = cc in subst (λ (p : List D × List D). EachSized h inputs size exact one_size p.0) same tt
  sized_over (p ∷ ps) ds rs ss e =
      let l = some_bind (λ first. option_and_then (before first.0) (rebuilt_over s h met (leaf_by s h item) ps first.1)) (rebuilt s h met (leaf_by s h item) p.0 p.1 ds) rs e in
      let r = some_bind (before l.0.0) (rebuilt_over s h met (leaf_by s h item) ps l.0.1) rs l.2 in
      let sl = sized p.0 p.1 ds ss l.0 l.1 in
      let same : (l.0.0 ∷ r.0.0, r.0.1) ≡ rs = cc in
      subst (λ (p : List D × List D). EachSized h inputs size exact one_size p.0) same (sl.0, sized_over ps l.0.1 r.0 sl.1 r.1)

  -- the peaks cover the leaves
  pub covered : (cs : List (ℕ × ℕ)) (e : ℕ) (hs : List ℕ) → PeaksStand s cs e hs → AllByRecursion ShownAt (peaks_down e hs) → (y : ℕ) → y < e → met y 0 ≡ true → item y ≡ element_of s h elements y
  covered cs e [] p shown y lt my = absurd (omega (arith, p))
  covered cs e (k ∷ ks) p shown y lt my = elim (cases_lt y (e - 2 ^ k)) [
    | inl below ↦ covered cs (e - 2 ^ k) ks p.2 shown.1 y below my
    | inr past ↦ shown.0 y past (omega (arith, p.0)) my
  ]

  pub peaks_within : (cs : List (ℕ × ℕ)) (e : ℕ) (hs : List ℕ) → e ≤ length elements → PeaksStand s cs e hs → AllByRecursion Within (peaks_down e hs)
  peaks_within cs e [] le p = tt
  peaks_within cs e (k ∷ ks) le p = (omega (arith, p.0), peaks_within cs (e - 2 ^ k) ks (omega arith) p.2)

-- ---- the whole check

pub few_peaks : (s : Shape) (cs : List (ℕ × ℕ)) (e : ℕ) (hs : List ℕ) → PeaksStand s cs e hs → length hs ≤ e
few_peaks s cs e [] p = omega arith
few_peaks s cs e (k ∷ ks) p = omega (arith, few_peaks s cs (e - 2 ^ k) ks p.2, pow_pos k, p.0)

meets_under : (a b x k y : ℕ) → x ≤ y → y < x + 2 ^ k → meets a b y 0 ≡ true → meets a b x k ≡ true
meets_under a b x k y le lt m = let here = meets_leaf a b y 0 refl m in grind (arith, nat_tests)

met_here : (a b y : ℕ) → a ≤ y → y < b → meets a b y 0 ≡ true
met_here a b y le lt = grind (arith, nat_tests)

pub used_is : {D : Type 0} (xs ys rs : List D) → all_used xs ys ≡ Some rs → xs ≡ rs
used_is xs [] rs e = cc
used_is xs (y ∷ ys) rs e = absurd (cc)

pub none_left : {D : Type 0} (xs ys rs : List D) → all_used xs ys ≡ Some rs → ys ≡ []
none_left xs [] rs e = refl
none_left xs (y ∷ ys) rs e = absurd (cc)

module _ {D : Type 0} (s : Shape) (h : Hashing D) (size : ℕ) (exact : (a b : D) → h.bytes a ≡ h.bytes b → a ≡ b) (one_size : (m : List ℕ) → length (h.bytes (h.digest m)) ≡ size) (stand : (n : ℕ) → PeaksStand s (made s n) n (s.heights n)) where
  pub each_sized : (inputs : List (List ℕ)) (ds : List D) → AllByRecursion (λ d. length (h.bytes d) ≡ size) ds → EachSized h inputs size exact one_size ds
  each_sized inputs [] a = tt
  each_sized inputs (d ∷ ds) a = (a.0, each_sized inputs ds a.1)

  items_are : (elements items : List (List ℕ)) (a : ℕ) → a + length items ≤ length elements
      → ((y : ℕ) → y < length elements → meets a (a + length items) y 0 ≡ true → item_of s h a items y ≡ element_of s h elements y) → items ≡ slice_range elements a (a + length items)
  items_are elements items a le f =
      let b = a + length items in
      let wide : b - a ≡ length items = omega arith in
      let l : length (slice_range elements a b) ≡ length items = length-take (b - a) (drop a elements) ∙ omega (arith, length-drop a elements) in
      ext_get_or [] items (slice_range elements a b) (sym l)
      (λ i lt. let back : a + i - a ≡ i = omega arith in
      let e = f (a + i) (omega arith) (met_here a b (a + i) (omega arith) (omega arith)) in
      let there : get_or (slice_range elements a b) i [] ≡ get_or elements (a + i) [] = get_or-take (b - a) (drop a elements) i [] (omega arith) ∙ get_or-drop a elements i [] in
      ap (λ j. get_or items j []) (sym back) ∙ e ∙ sym there)

  -- the items are those of the elements, the leaves as many as these, and the digests the slow nodes of the cover
  pub record IsShown {F : Type 0} (elements : List (List ℕ)) (proof : Proof F D) (a : ℕ) (items : List (List ℕ)) : Type 0 where
    pub items_are : items ≡ slice_range elements a (a + length items)
    pub leaves : proof.leaves ≡ length elements
    pub digests : proof.digests ≡ map (node_of s h (leaf_digests s h elements)) (cover s (meets a (a + length items)) (length elements))

  -- for all inputs that have those of the tree and of the check
  pub shown_in : {F : Type 0} (inputs : List (List ℕ)) (b : Bagging) (elements : List (List ℕ)) (k : ℕ) (proof : Proof F D) (a : ℕ) (items : List (List ℕ)) → length elements ≤ 2 ^ 62 → k ≤ length (s.heights (length elements))
      → AllByRecursion (λ d. length (h.bytes d) ≡ size) proof.digests → Checks s h b proof a items (root s h (leaf_digests s h elements) k b)
      → AllIn h inputs size exact one_size (tree_inputs s h elements k b) → AllIn h inputs size exact one_size (proof_inputs s h b proof a items) → OrClash h inputs size exact one_size (IsShown elements proof a items)
  shown_in inputs b elements k proof a items few le_k whole c in_tree in_proof =
      let n = length elements in
      let met = meets a (a + length items) in
      let item = item_of s h a items in
      let lf = item_leaf s h a items in
      let ds_of_tree = map (node_of s h (leaf_digests s h elements)) (peaks s n) in
      let In = AllIn h inputs size exact one_size in
      let under = meets_under a (a + length items) in
      let m = some_map (λ ds. root_over h proof.leaves ds proof.inactive_peaks b) (wholly_rebuilt s h met lf (peaks s proof.leaves) proof.digests) _ c.same_root in
      let w = some_bind (λ q. all_used q.0 q.1) (rebuilt_over s h met lf (peaks s proof.leaves) proof.digests) m.0 m.1 in
      let used = used_is w.0.0 w.0.1 m.0 w.2 in
      let none = none_left w.0.0 w.0.1 m.0 w.2 in
      let ss = each_sized inputs proof.digests whole in
      let in_rebuilt = in_left h inputs size exact one_size _ _ in_proof in
      let in_proof_root : In (root_inputs h proof.leaves proof.inactive_peaks b m.0) = subst (λ (o : Option (List D)). In (from_some s h (root_inputs h proof.leaves proof.inactive_peaks b) o)) m.1 (in_right h inputs size exact one_size (rebuilt_over_inputs s h met item (peaks s proof.leaves) proof.digests) _ in_proof) in
      let in_root = in_right h inputs size exact one_size (flat_map (λ p. slow_inputs s h elements p.0 p.1) (peaks s n)) _ in_tree in
      let same_root : root_over h proof.leaves m.0 proof.inactive_peaks b ≡ root_over h n ds_of_tree k b =
      m.2 ∙ ap (λ l. root_over h l (map (node_of s h (leaf_digests s h elements)) (peaks s l)) k b) (length-leaf_digests s h elements) in
      let f1 = few_peaks s (made s n) n (s.heights n) (stand n) in
      let f2 = few_peaks s (made s proof.leaves) proof.leaves (s.heights proof.leaves) (stand proof.leaves) in
      let counted = length-wholly_rebuilt s h met lf (peaks s proof.leaves) proof.digests m.0 m.1 in
      let sized_peaks = subst (EachSized h inputs size exact one_size) used (sized_over s h inputs size exact one_size elements met item under (peaks s proof.leaves) proof.digests w.0 ss w.1) in
      and_then h inputs size exact one_size
      (roots_is h inputs size exact one_size proof.leaves n proof.inactive_peaks k b m.0 ds_of_tree (omega (arith, c.bounds.few)) (omega arith) (omega (arith, c.bounds.few, c.bounds.inactive, f2)) (omega arith)
      (λ q. counted ∙ ap (λ l. length (peaks s l)) q ∙ sym (length-map (peaks s n) (node_of s h (leaf_digests s h elements))))
      sized_peaks (sized_nodes s h inputs size exact one_size elements met item under (peaks s n)) in_proof_root in_root same_root)
      (λ r. and_then h inputs size exact one_size
      (over_shown s h inputs size exact one_size elements met item under (peaks s n) proof.digests w.0
      (all-reverse _ (peaks_down n (s.heights n)) (peaks_within s h inputs size exact one_size elements met item under (made s n) n (s.heights n) (omega arith) (stand n)))
      ss (in_left h inputs size exact one_size _ _ in_tree)
      (subst (λ l. In (rebuilt_over_inputs s h met item (peaks s l) proof.digests)) r.0 in_rebuilt)
      (ap (λ l. rebuilt_over s h met lf (peaks s l) proof.digests) (sym r.0) ∙ w.1)
      (used ∙ r.2))
      (λ shown. let down = subst (AllByRecursion _) (reverse-reverse (peaks_down n (s.heights n))) (all-reverse _ (peaks s n) shown.0) in
      inl (record {
        items_are = items_are elements items a (omega (arith, c.bounds.within, r.0)) (covered s h inputs size exact one_size elements met item under (made s n) n (s.heights n) (stand n) down);
        leaves = r.0;
        digests = shown.1 ∙ ap (λ ds. map (node_of s h (leaf_digests s h elements)) (cover s met n) ++ ds) none ∙ append_nil _;
      })))

  pub sound : {F : Type 0} (b : Bagging) (elements : List (List ℕ)) (k : ℕ) (proof : Proof F D) (a : ℕ) (items : List (List ℕ)) → length elements ≤ 2 ^ 62 → k ≤ length (s.heights (length elements))
      → AllByRecursion (λ d. length (h.bytes d) ≡ size) proof.digests → Checks s h b proof a items (root s h (leaf_digests s h elements) k b) → ShowsElements s h b elements k proof a items
  sound b elements k proof a items few le_k whole c =
      let tree = tree_inputs s h elements k b in
      let check = proof_inputs s h b proof a items in
      elim (shown_in (tree ++ check) b elements k proof a items few le_k whole c (in_left h (tree ++ check) size exact one_size tree check (λ x i. i)) (in_right h (tree ++ check) size exact one_size tree check (λ x i. i))) [
        | inl r ↦ inl r.items_are
        | inr clash ↦ inr clash
      ]
