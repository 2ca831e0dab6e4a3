-- What a cover's slow nodes rebuild are slow nodes.
use Rattle.std.proofs.Common.{◌≡◌, ℕ, zero, suc, ◌+◌, ◌-◌, ◌^◌, ◌<◌, ◌≤◌, Bool, true, false, cond, List, [], ◌∷◌, ◌++◌, length, map, drop, get_or, Some, refl, sym, ◌∙◌, ap, arith, append_assoc, length-drop}
use Rattle.std.specs.Prelude.{slice_range}
use Rattle.std.specs.List.{enumerate_from}
use Rattle.std.specs.Option.{option_and_then}
use Rattle.std.proofs.lemmas.List.{map-append, get_or-map, get_or-take, get_or-drop, length-take, length-map}
use Rattle.std.proofs.lemmas.List.FromFn.{length-enumerate_from, get_or-enumerate_from}
use Rattle.tree_shape.specs.declared.bagging.Bagging.{Bagging}
use Rattle.tree_shape.specs.Hashing.{Hashing, node_input}
use Rattle.tree_shape.specs.Shape.{Shape, peaks}
use Rattle.tree_shape.specs.Slow.{leaf, leaf_at, leaf_digests, node, node_of}
use Rattle.tree_shape.specs.Root.{root}
use Rattle.tree_proof.specs.Cover.{Opened, meets, cover_in, cover_over}
use Rattle.tree_proof.specs.Check.{next_of, joined_by, rebuilt, rebuilt_over, all_used, wholly_rebuilt, item_leaf, Checks}
use Rattle.tree_proof.specs.SlowProof.{IsRange, slow_proof}
use Rattle.tree_proof.proofs.RebuildLemmas.{meets_leaf, append_nil}

-- of a tree that has the leaves that are met and hashes each node that is met from its halves
module _ {D : Type 0} (s : Shape) (h : Hashing D) (met : Opened) (leaf_of : ℕ → D) (tree : ℕ → ℕ → D) (right : (x : ℕ) → met x 0 ≡ true → leaf_of x ≡ tree x 0)
    (joins : (x k : ℕ) → met x (suc k) ≡ true → h.digest (node_input h (s.position x (suc k)) (tree x k) (tree (x + 2 ^ k) k)) ≡ tree x (suc k)) where
  abbrev at_node : ℕ × ℕ → D
  at_node p = tree p.0 p.1

  -- the digests of a node's cover rebuild it, whatever stands behind them
  abbrev IsRebuilt : ℕ → ℕ → Type 0
  IsRebuilt x k = (rest : List D) → rebuilt s h met leaf_of x k (map at_node (cover_in met x k) ++ rest) ≡ Some (tree x k, rest)

  inner_node : (x k : ℕ) → IsRebuilt x k → IsRebuilt (x + 2 ^ k) k → IsRebuilt x (suc k)
  unfolding rebuilt cover_in
  inner_node x k lh rh rest = inner (met x (suc k)) refl
    where
      split : map at_node (cover_in met x k ++ cover_in met (x + 2 ^ k) k) ++ rest ≡ map at_node (cover_in met x k) ++ (map at_node (cover_in met (x + 2 ^ k) k) ++ rest)
      split = ap (λ ds. ds ++ rest) (map-append at_node (cover_in met x k) (cover_in met (x + 2 ^ k) k)) ∙ append_assoc (map at_node (cover_in met x k)) _ rest

      left : rebuilt s h met leaf_of x k (map at_node (cover_in met x k ++ cover_in met (x + 2 ^ k) k) ++ rest) ≡ Some (tree x k, map at_node (cover_in met (x + 2 ^ k) k) ++ rest)
      left = ap (rebuilt s h met leaf_of x k) split ∙ lh (map at_node (cover_in met (x + 2 ^ k) k) ++ rest)

      inner : (m : Bool) → met x (suc k) ≡ m →
          cond m (option_and_then (λ l. option_and_then (λ r. joined_by s h x k l.0 r) (rebuilt s h met leaf_of (x + 2 ^ k) k l.1))
          (rebuilt s h met leaf_of x k (map at_node (cond m (cover_in met x k ++ cover_in met (x + 2 ^ k) k) ((x, suc k) ∷ [])) ++ rest)))
          (next_of (map at_node (cond m (cover_in met x k ++ cover_in met (x + 2 ^ k) k) ((x, suc k) ∷ [])) ++ rest))
          ≡ Some (tree x (suc k), rest)
      inner true e =
          ap (option_and_then (λ l. option_and_then (λ r. joined_by s h x k l.0 r) (rebuilt s h met leaf_of (x + 2 ^ k) k l.1))) left ∙ ap (option_and_then (λ r. joined_by s h x k (tree x k) r)) (rh rest)
          ∙ ap (λ d. Some (d, rest)) (joins x k e)
      inner false e = refl

  leaf_node : (x : ℕ) → IsRebuilt x 0
  unfolding rebuilt cover_in
  leaf_node x rest = at_leaf (met x 0) refl
    where
      at_leaf : (m : Bool) → met x 0 ≡ m → cond m (Some (leaf_of x, map at_node (cond m [] ((x, 0) ∷ [])) ++ rest)) (next_of (map at_node (cond m [] ((x, 0) ∷ [])) ++ rest)) ≡ Some (tree x 0, rest)
      at_leaf true e = ap (λ d. Some (d, rest)) (right x e)
      at_leaf false e = refl

  rebuilt-cover_in : (x k : ℕ) → IsRebuilt x k
  rebuilt-cover_in x zero = leaf_node x
  rebuilt-cover_in x (suc k) = inner_node x k (rebuilt-cover_in x k) (rebuilt-cover_in (x + 2 ^ k) k)

  one_over : (p : ℕ × ℕ) (ps : List (ℕ × ℕ)) (ds more rest : List D) → rebuilt s h met leaf_of p.0 p.1 ds ≡ Some (at_node p, more) → rebuilt_over s h met leaf_of ps more ≡ Some (map at_node ps, rest)
      → rebuilt_over s h met leaf_of (p ∷ ps) ds ≡ Some (map at_node (p ∷ ps), rest)
  unfolding rebuilt_over
  one_over p ps ds more rest e f = rw e (rw f refl)

  rebuilt_over-cover : (ps : List (ℕ × ℕ)) (rest : List D) → rebuilt_over s h met leaf_of ps (map at_node (cover_over met ps) ++ rest) ≡ Some (map at_node ps, rest)
  unfolding rebuilt_over
  rebuilt_over-cover [] rest = refl
  rebuilt_over-cover (p ∷ ps) rest =
      let behind = map at_node (cover_over met ps) ++ rest in
      let split : map at_node (cover_in met p.0 p.1 ++ cover_over met ps) ++ rest ≡ map at_node (cover_in met p.0 p.1) ++ behind =
      ap (λ ds. ds ++ rest) (map-append at_node (cover_in met p.0 p.1) (cover_over met ps)) ∙ append_assoc (map at_node (cover_in met p.0 p.1)) _ rest in
      one_over p ps _ behind rest (ap (rebuilt s h met leaf_of p.0 p.1) split ∙ rebuilt-cover_in p.0 p.1 behind) (rebuilt_over-cover ps rest)

  pub tree_rebuilt : (ps : List (ℕ × ℕ)) → wholly_rebuilt s h met leaf_of ps (map at_node (cover_over met ps)) ≡ Some (map at_node ps)
  tree_rebuilt ps =
      let e = rebuilt_over-cover ps [] in
      let f : rebuilt_over s h met leaf_of ps (map at_node (cover_over met ps)) ≡ Some (map at_node ps, []) = ap (rebuilt_over s h met leaf_of ps) (sym (append_nil _)) ∙ e in
      ap (option_and_then (λ q. all_used q.0 q.1)) f

-- such a tree is that of a list
pub wholly_rebuilt-cover : {D : Type 0} (s : Shape) (h : Hashing D) (leaves : List D) (met : Opened) (leaf_of : ℕ → D) → ((x : ℕ) → met x 0 ≡ true → leaf_of x ≡ leaf_at h leaves x)
    → (ps : List (ℕ × ℕ)) → wholly_rebuilt s h met leaf_of ps (map (node_of s h leaves) (cover_over met ps)) ≡ Some (map (node_of s h leaves) ps)
unfolding node
wholly_rebuilt-cover s h leaves met leaf_of right ps = tree_rebuilt s h met leaf_of (node s h leaves) right (λ x k m. refl) ps

module _ {D : Type 0} (s : Shape) (h : Hashing D) (elements : List (List ℕ)) where
  pub length-leaf_digests : length (leaf_digests s h elements) ≡ length elements
  length-leaf_digests = length-map (enumerate_from 0 elements) (λ p. leaf s h p.0 p.1) ∙ length-enumerate_from 0 elements

  pub leaf_digests-at : (x : ℕ) → x < length elements → leaf s h x (get_or elements x []) ≡ leaf_at h (leaf_digests s h elements) x
  leaf_digests-at x lt =
      let zero_more : 0 + x ≡ x = omega arith in
      let l = length-enumerate_from 0 elements in
      let e = get_or-enumerate_from 0 elements x (0, []) lt in
      sym (get_or-map (λ p. leaf s h p.0 p.1) (enumerate_from 0 elements) x (0, []) (h.digest []) (omega arith) ∙ rw e (rw zero_more refl))

  range_item : (a b x : ℕ) → a ≤ x → x < b → get_or (slice_range elements a b) (x - a) [] ≡ get_or elements x []
  range_item a b x le lt =
      let at : a + (x - a) ≡ x = omega arith in
      get_or-take (b - a) (drop a elements) (x - a) [] (omega arith) ∙ get_or-drop a elements (x - a) [] ∙ rw at refl

  pub range_leaf : (a b x : ℕ) → b ≤ length elements → meets a b x 0 ≡ true → item_leaf s h a (slice_range elements a b) x ≡ leaf_at h (leaf_digests s h elements) x
  range_leaf a b x le met =
      let here = meets_leaf a b x 0 refl met in
      ap (leaf s h x) (range_item a b x here.0 here.1) ∙ leaf_digests-at x (omega (arith, here.1))

  pub slow_proof_checks : {F : Type 0} (bagging : Bagging) (inactive a b : ℕ) → IsRange s elements inactive a b → Checks {F = F} s h bagging (slow_proof s h elements inactive a b) a (slice_range elements a b) (root s h (leaf_digests s h elements) inactive bagging)
  slow_proof_checks {F} bagging inactive a b r =
      let n = length elements in
      let l : length (slice_range elements a b) ≡ b - a = length-take (b - a) (drop a elements) ∙ omega (arith, length-drop a elements, r.some, r.within) in
      let end : a + length (slice_range elements a b) ≡ b = omega (arith, l, r.some) in
      let all = wholly_rebuilt-cover s h (leaf_digests s h elements) (meets a b) (item_leaf s h a (slice_range elements a b)) (λ x m. range_leaf a b x r.within m) (peaks s n) in
      record {
        bounds = record { some = omega (arith, l, r.some); few = r.few; within = omega (arith, end, r.within); inactive = r.peaks };
        same_root = rw end (rw all (rw length-leaf_digests refl));
      }
