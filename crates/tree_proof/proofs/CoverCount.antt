-- A proof that shows something has as many digests as the cover has nodes.
use Rattle.std.proofs.Common.{◌≡◌, ℕ, zero, suc, ◌+◌, ◌^◌, Bool, true, false, cond, List, [], ◌∷◌, ◌++◌, length, Option, Some, None, refl, ap, arith, length-append}
use Rattle.std.specs.Option.{option_and_then, option_map}
use Rattle.tree_shape.specs.declared.bagging.Bagging.{Bagging}
use Rattle.tree_shape.specs.Hashing.{Hashing}
use Rattle.tree_shape.specs.Shape.{Shape, peaks}
use Rattle.tree_shape.specs.Root.{root_over}
use Rattle.tree_proof.specs.declared.proof.Proof.{Proof}
use Rattle.tree_proof.specs.Cover.{Opened, meets, cover_in, cover_over, cover}
use Rattle.tree_proof.specs.Check.{next_of, joined_by, rebuilt, before, rebuilt_over, all_used, wholly_rebuilt, item_leaf, Checks}

-- the value of a step that gave one
pub some_bind : {A B : Type 0} (f : A → Option B) (r : Option A) (y : B) → option_and_then f r ≡ Some y → (x : A) × (r ≡ Some x) × (f x ≡ Some y)
some_bind f None y e = absurd (cc)
some_bind f (Some x) y e = (x, refl, e)

pub some_map : {A B : Type 0} (f : A → B) (r : Option A) (y : B) → option_map f r ≡ Some y → (x : A) × (r ≡ Some x) × (f x ≡ y)
some_map f None y e = absurd (cc)
some_map f (Some x) y e = (x, refl, cc)

module _ {D : Type 0} (s : Shape) (h : Hashing D) (met : Opened) (leaf_of : ℕ → D) where
  abbrev some_pair : D → List D → Option (D × List D)
  some_pair d ds = Some (d, ds)

  next_length : (ds : List D) (r : D × List D) → next_of ds ≡ Some r → length ds ≡ 1 + length r.1
  next_length [] r e = absurd (cc)
  next_length (d ∷ ds) r e = let same : (d, ds) ≡ r = cc in omega (arith, ap (λ q. length q.1) same)

  at_leaf : (x : ℕ) (m : Bool) (ds : List D) (r : D × List D) → cond m (some_pair (leaf_of x) ds) (next_of ds) ≡ Some r → length ds ≡ length {A = ℕ × ℕ} (cond m [] ((x, 0) ∷ [])) + length r.1
  at_leaf x true ds r e = let same : (leaf_of x, ds) ≡ r = cc in omega (arith, ap (λ q. length q.1) same)
  at_leaf x false ds r e = next_length ds r e

  abbrev Counts : ℕ → ℕ → Type 0
  Counts x k = (ds : List D) (r : D × List D) → rebuilt s h met leaf_of x k ds ≡ Some r → length ds ≡ length (cover_in met x k) + length r.1

  at_inner : (x k : ℕ) → Counts x k → Counts (x + 2 ^ k) k → (m : Bool) (ds : List D) (r : D × List D)
      → cond m (option_and_then (λ left. option_and_then (λ right. joined_by s h x k left.0 right) (rebuilt s h met leaf_of (x + 2 ^ k) k left.1)) (rebuilt s h met leaf_of x k ds)) (next_of ds) ≡ Some r
      → length ds ≡ length (cond m (cover_in met x k ++ cover_in met (x + 2 ^ k) k) ((x, suc k) ∷ [])) + length r.1
  at_inner x k lh rh false ds r e = next_length ds r e
  at_inner x k lh rh true ds r e =
      let l = some_bind (λ left. option_and_then (λ right. joined_by s h x k left.0 right) (rebuilt s h met leaf_of (x + 2 ^ k) k left.1)) (rebuilt s h met leaf_of x k ds) r e in
      let q = some_bind (λ right. joined_by s h x k l.0.0 right) (rebuilt s h met leaf_of (x + 2 ^ k) k l.0.1) r l.2 in
      let a = lh ds l.0 l.1 in
      let b = rh l.0.1 q.0 q.1 in
      let same = some_is q.2 in
      omega (arith, a, b, ap (λ p. length p.1) same, length-append (cover_in met x k) (cover_in met (x + 2 ^ k) k))
    where
      some_is : {p t : D × List D} → Some p ≡ Some t → p ≡ t
      some_is e = cc

  counts : (x k : ℕ) → Counts x k
  unfolding rebuilt cover_in
  counts x zero ds r e = at_leaf x (met x 0) ds r e
  counts x (suc k) ds r e = at_inner x k (counts x k) (counts (x + 2 ^ k) k) (met x (suc k)) ds r e

  pair_is : (d : D) (qs rs : List D × List D) → before d qs ≡ Some rs → length qs.1 ≡ length rs.1
  pair_is d qs rs e = let same : (d ∷ qs.0, qs.1) ≡ rs = cc in ap (λ p. length p.1) same

  counts_over : (ps : List (ℕ × ℕ)) (ds : List D) (rs : List D × List D) → rebuilt_over s h met leaf_of ps ds ≡ Some rs → length ds ≡ length (cover_over met ps) + length rs.1
  unfolding rebuilt_over
  counts_over [] ds rs e = let same : ([], ds) ≡ rs = cc in omega (arith, ap (λ p. length p.1) same)
  counts_over (p ∷ ps) ds rs e =
      let l = some_bind (λ first. option_and_then (before first.0) (rebuilt_over s h met leaf_of ps first.1)) (rebuilt s h met leaf_of p.0 p.1 ds) rs e in
      let q = some_bind (before l.0.0) (rebuilt_over s h met leaf_of ps l.0.1) rs l.2 in
      omega (arith, counts p.0 p.1 ds l.0 l.1, counts_over ps l.0.1 q.0 q.1, pair_is l.0.0 q.0 rs q.2, length-append (cover_in met p.0 p.1) (cover_over met ps))

  none_left : (qs rs : List D) (u : List D) → all_used qs u ≡ Some rs → length u ≡ 0
  none_left qs rs [] e = refl
  none_left qs rs (d ∷ u) e = absurd (cc)

  counts_wholly : (ps : List (ℕ × ℕ)) (ds rs : List D) → wholly_rebuilt s h met leaf_of ps ds ≡ Some rs → length ds ≡ length (cover_over met ps)
  counts_wholly ps ds rs e =
      let q = some_bind (λ q. all_used q.0 q.1) (rebuilt_over s h met leaf_of ps ds) rs e in
      omega (arith, counts_over ps ds q.0 q.1, none_left q.0.0 rs q.0.1 q.2)

pub checks_count : {F D : Type 0} (s : Shape) (h : Hashing D) (b : Bagging) (proof : Proof F D) (a : ℕ) (items : List (List ℕ)) (r : D) → Checks s h b proof a items r → length proof.digests ≡ length (cover s (meets a (a + length items)) proof.leaves)
checks_count s h b proof a items r c =
    let m = some_map (λ ds. root_over h proof.leaves ds proof.inactive_peaks b) _ r c.same_root in
    counts_wholly s h (meets a (a + length items)) (item_leaf s h a items) (peaks s proof.leaves) proof.digests m.0 m.1
