-- Each proof with as many digests as its cover has nodes tells a tree.
use Rattle.std.proofs.Common.{◌≡◌, ℕ, zero, suc, ◌+◌, ◌^◌, ◌<◌, Bool, inl, inr, true, false, cond, List, [], ◌∷◌, ◌++◌, length, map, Some, refl, sym, ◌∙◌, ap, arith}
use Rattle.std.specs.Prelude.{◌==◌}
use Rattle.std.proofs.lemmas.Bool.Decides.{eqb_tells}
use Rattle.std.proofs.lemmas.List.{map-append}
use Rattle.std.proofs.lemmas.Nat.{pow_pos}
use Rattle.tree_shape.specs.Hashing.{Hashing, node_input}
use Rattle.tree_shape.specs.Shape.{Shape, made, peaks, PeaksStand}
use Rattle.tree_proof.specs.declared.proof.Proof.{Proof}
use Rattle.tree_proof.specs.Cover.{Opened, meets, cover_in, cover_over, cover}
use Rattle.tree_proof.specs.Check.{wholly_rebuilt, item_leaf}
use Rattle.tree_proof.proofs.Complete.{tree_rebuilt}
use Rattle.tree_proof.proofs.Rises.{RisesFrom, cover-rises}
use Rattle.tree_verification.specs.Told.{in_tree, IsHashed, IsTold}

-- the digest of the node that begins at leaf x, of these nodes
abbrev cover_digest : {D : Type 0} → D → List (ℕ × ℕ) → List D → ℕ → D
cover_digest none [] ds x = none
cover_digest none (p ∷ ps) [] x = none
cover_digest none (p ∷ ps) (d ∷ ds) x = cond (p.0 == x) d (cover_digest none ps ds x)

same-test : {D : Type 0} (x : ℕ) (d e : D) → cond (x == x) d e ≡ d
same-test x d e = elim (eqb_tells x x) [
  | inl t ↦ rw t.0 refl
  | inr t ↦ absurd (t.1 refl)
]

other-test : {D : Type 0} (x y : ℕ) (d e : D) → x < y → cond (x == y) d e ≡ e
other-test x y d e lt = elim (eqb_tells x y) [
  | inl t ↦ absurd (omega (arith, lt, t.1))
  | inr t ↦ rw t.0 refl
]

skipped : {D : Type 0} (x e : ℕ) (d : D) (f : ℕ → D) (ps : List (ℕ × ℕ)) → x < e → RisesFrom e ps → map (λ (q : ℕ × ℕ). cond (x == q.0) d (f q.0)) ps ≡ map (λ q. f q.0) ps
skipped x e d f [] lt r = refl
skipped x e d f (p ∷ ps) lt r =
    let from = r.0 in
    ap (λ c. c ∷ map (λ (q : ℕ × ℕ). cond (x == q.0) d (f q.0)) ps) (other-test x p.0 d (f p.0) (omega (arith, from, lt))) ∙ ap (λ ds. f p.0 ∷ ds) (skipped x (p.0 + 2 ^ p.1) d f ps (omega (arith, from, lt)) r.1)

cover-digests : {D : Type 0} (none : D) (e : ℕ) (ps : List (ℕ × ℕ)) (ds : List D) → RisesFrom e ps → length ds ≡ length ps → map (λ (p : ℕ × ℕ). cover_digest none ps ds p.0) ps ≡ ds
cover-digests none e [] [] r l = refl
cover-digests none e [] (d ∷ ds) r l = absurd (omega (arith, l))
cover-digests none e (p ∷ ps) [] r l = absurd (omega (arith, l))
cover-digests none e (p ∷ ps) (d ∷ ds) r l =
    ap (λ c. c ∷ map (λ (q : ℕ × ℕ). cond (p.0 == q.0) d (cover_digest none ps ds q.0)) ps) (same-test p.0 d (cover_digest none ps ds p.0))
    ∙ ap (λ cs. d ∷ cs) (skipped p.0 (p.0 + 2 ^ p.1) d (cover_digest none ps ds) ps (omega (arith, pow_pos p.1)) r.1 ∙ cover-digests none (p.0 + 2 ^ p.1) ps ds r.1 (omega (arith, l)))

module _ {D : Type 0} (s : Shape) (h : Hashing D) (met : Opened) (leaf_of other : ℕ → D) where
  -- a leaf that is met, or what two halves give, or else the other digest that begins there
  abbrev given : ℕ → ℕ → D
  given x zero = cond (met x 0) (leaf_of x) (other x)
  given x (suc k) = cond (met x (suc k)) (h.digest (node_input h (s.position x (suc k)) (given x k) (given (x + 2 ^ k) k))) (other x)

  given-hashed : IsHashed s h met leaf_of given
  given-hashed = record { leaves = λ x m. rw m refl; parents = λ x k m. rw m refl }

  abbrev AreOther : List (ℕ × ℕ) → Type 0
  AreOther ps = map (in_tree given) ps ≡ map (λ (p : ℕ × ℕ). other p.0) ps

  both-other : (ps qs : List (ℕ × ℕ)) → AreOther ps → AreOther qs → AreOther (ps ++ qs)
  both-other ps qs l r =
      map-append (in_tree given) ps qs ∙ ap (λ ds. ds ++ map (in_tree given) qs) l ∙ ap (λ ds. map (λ (p : ℕ × ℕ). other p.0) ps ++ ds) r ∙ sym (map-append (λ (p : ℕ × ℕ). other p.0) ps qs)

  leaf-other : (x : ℕ) (m : Bool) → met x 0 ≡ m → AreOther (cond m [] ((x, 0) ∷ []))
  leaf-other x true e = refl
  leaf-other x false e = ap (λ b. cond b (leaf_of x) (other x) ∷ []) e

  halves-other : (x k : ℕ) → AreOther (cover_in met x k) → AreOther (cover_in met (x + 2 ^ k) k) → (m : Bool) → met x (suc k) ≡ m → AreOther (cond m (cover_in met x k ++ cover_in met (x + 2 ^ k) k) ((x, suc k) ∷ []))
  halves-other x k l r true e = both-other (cover_in met x k) (cover_in met (x + 2 ^ k) k) l r
  halves-other x k l r false e = ap (λ b. cond b (h.digest (node_input h (s.position x (suc k)) (given x k) (given (x + 2 ^ k) k))) (other x) ∷ []) e

  inside-other : (x k : ℕ) → AreOther (cover_in met x k)
  unfolding cover_in
  inside-other x zero = leaf-other x (met x 0) refl
  inside-other x (suc k) = halves-other x k (inside-other x k) (inside-other (x + 2 ^ k) k) (met x (suc k)) refl

  over-other : (ps : List (ℕ × ℕ)) → AreOther (cover_over met ps)
  over-other [] = refl
  over-other (p ∷ ps) = both-other (cover_in met p.0 p.1) (cover_over met ps) (inside-other p.0 p.1) (over-other ps)

module _ {F D : Type 0} (s : Shape) (h : Hashing D) (proof : Proof F D) (a : ℕ) (items : List (List ℕ)) where
  pub told-tree : PeaksStand s (made s proof.leaves) proof.leaves (s.heights proof.leaves) → length proof.digests ≡ length (cover s (meets a (a + length items)) proof.leaves) → (tree : ℕ → ℕ → D) × IsTold s h proof a items tree
  told-tree stand count =
      let met = meets a (a + length items) in
      let ps = cover s met proof.leaves in
      let other = cover_digest (h.digest []) ps proof.digests in
      let tree = given s h met (item_leaf s h a items) other in
      let digests = sym (over-other s h met (item_leaf s h a items) other (peaks s proof.leaves) ∙ cover-digests (h.digest []) 0 ps proof.digests (cover-rises met s proof.leaves stand) count) in
      (tree, record { hashed = given-hashed s h met (item_leaf s h a items) other; digests = digests })

  pub told-rebuilt : (tree : ℕ → ℕ → D) → IsTold s h proof a items tree
      → wholly_rebuilt s h (meets a (a + length items)) (item_leaf s h a items) (peaks s proof.leaves) proof.digests ≡ Some (map (in_tree tree) (peaks s proof.leaves))
  told-rebuilt tree t =
      let met = meets a (a + length items) in
      ap (wholly_rebuilt s h met (item_leaf s h a items) (peaks s proof.leaves)) t.digests
      ∙ tree_rebuilt s h met (item_leaf s h a items) tree (λ x m. sym (t.hashed.leaves x m)) (λ x k m. sym (t.hashed.parents x k m)) (peaks s proof.leaves)
