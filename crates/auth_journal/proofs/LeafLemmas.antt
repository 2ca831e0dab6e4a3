-- Leaf digests of lists that go on from one another.
use Rattle.std.proofs.Common.{◌≡◌, ℕ, zero, suc, ◌+◌, List, [], ◌∷◌, ◌++◌, length, map, drop, refl, sym, ◌∙◌, ap, arith}
use Rattle.std.specs.Prelude.{slice_index_or}
use Rattle.std.specs.List.{enumerate_from}
use Rattle.std.proofs.lemmas.List.{map-append, length-map, drop-map}
use Rattle.std.proofs.lemmas.List.Elements.{All-map}
use Rattle.std.proofs.lemmas.List.FromFn.{length-enumerate_from}
use Rattle.tree_shape.specs.Hashing.{Hashing}
use Rattle.tree_shape.specs.Shape.{Shape, made}
use Rattle.tree_shape.specs.Slow.{leaf, leaf_at, leaf_digests, node, node_of}
use Rattle.merkle_full.specs.Lists.{AreDigests}
use Rattle.auth_journal.specs.Batched.{leaves_from}
use Rattle.auth_journal.specs.Joined.{leaves_of}

module _ {D : Type 0} (f : ℕ × List ℕ → D) where
  from_join : (k : ℕ) (xs ys : List (List ℕ)) → map f (enumerate_from k (xs ++ ys)) ≡ map f (enumerate_from k xs) ++ map f (enumerate_from (k + length xs) ys)
  from_join k [] ys = let e : k ≡ k + 0 = omega arith in ap (λ (n : ℕ). map f (enumerate_from n ys)) e
  from_join k (x ∷ xs) ys =
      let e : k + 1 + length xs ≡ k + suc (length xs) = omega arith in
      ap (λ (r : List D). f (k, x) ∷ r) (from_join (k + 1) xs ys ∙ ap (λ (n : ℕ). map f (enumerate_from (k + 1) xs) ++ map f (enumerate_from n ys)) e)

  from_drop : (n k : ℕ) (ms : List (List ℕ)) → drop n (map f (enumerate_from k ms)) ≡ map f (enumerate_from (k + n) (drop n ms))
  from_drop zero k ms = let e : k ≡ k + 0 = omega arith in ap (λ (n : ℕ). map f (enumerate_from n ms)) e
  from_drop (suc n) k [] = refl
  from_drop (suc n) k (m ∷ ms) =
      let e : k + 1 + n ≡ k + suc n = omega arith in
      from_drop n (k + 1) ms ∙ ap (λ (j : ℕ). map f (enumerate_from j (drop n ms))) e

pub length-leaves : {D : Type 0} (s : Shape) (h : Hashing D) (xs : List (List ℕ)) → length (leaf_digests s h xs) ≡ length xs
length-leaves s h xs = length-map (enumerate_from 0 xs) (λ p. leaf s h p.0 p.1) ∙ length-enumerate_from 0 xs

pub length-leaves_from : {D : Type 0} (s : Shape) (h : Hashing D) (n : ℕ) (xs : List (List ℕ)) → length (leaves_from s h n xs) ≡ length xs
length-leaves_from s h n xs = length-map (enumerate_from n xs) (λ p. leaf s h p.0 p.1) ∙ length-enumerate_from n xs

pub length-leaves_of : {D Item : Type 0} (s : Shape) (h : Hashing D) (spelling : Item → List ℕ) (list : List Item) → length (leaves_of s h spelling list) ≡ length list
length-leaves_of s h spelling list = length-leaves s h (map spelling list) ∙ length-map list spelling

-- one leaf more
pub leaves_push : {D : Type 0} (s : Shape) (h : Hashing D) (n : ℕ) (xs : List (List ℕ)) (x : List ℕ) → leaves_from s h n (xs ++ x ∷ []) ≡ leaves_from s h n xs ++ leaf s h (n + length xs) x ∷ []
leaves_push s h n xs x = from_join (λ p. leaf s h p.0 p.1) n xs (x ∷ [])

-- the leaves of some elements and of others behind them
pub digests_more : {D : Type 0} (s : Shape) (h : Hashing D) (xs ys : List (List ℕ)) → leaf_digests s h (xs ++ ys) ≡ leaf_digests s h xs ++ leaves_from s h (length xs) ys
digests_more {D = D} s h xs ys =
    from_join (λ p. leaf s h p.0 p.1) 0 xs ys
    ∙ ap (λ (n : ℕ). leaf_digests s h xs ++ leaves_from s h n ys) (let e : 0 + length xs ≡ length xs = omega arith in e)

-- the leaves of a list and of items behind it
pub leaves_more : {D Item : Type 0} (s : Shape) (h : Hashing D) (spelling : Item → List ℕ) (list items : List Item)
    → leaves_of s h spelling (list ++ items) ≡ leaves_of s h spelling list ++ leaves_from s h (length list) (map spelling items)
leaves_more {D = D} s h spelling list items =
    ap (leaf_digests s h) (map-append spelling list items) ∙ digests_more s h (map spelling list) (map spelling items)
    ∙ ap (λ (n : ℕ). leaves_of s h spelling list ++ leaves_from s h n (map spelling items)) (length-map list spelling)

pub leaves_join : {D : Type 0} (s : Shape) (h : Hashing D) (xs ms : List (List ℕ)) → leaf_digests s h xs ++ drop (length (leaf_digests s h xs)) (leaf_digests s h ms) ≡ leaf_digests s h (xs ++ drop (length xs) ms)
leaves_join {D = D} s h xs ms =
    let f : ℕ × List ℕ → D = λ p. leaf s h p.0 p.1 in
    ap (λ (n : ℕ). leaf_digests s h xs ++ drop n (leaf_digests s h ms)) (length-leaves s h xs)
    ∙ ap (λ (r : List D). leaf_digests s h xs ++ r) (from_drop f (length xs) 0 ms)
    ∙ sym (from_join f 0 xs (drop (length xs) ms))

-- the leaves of a list and of what another has past its end
pub leaves_rest : {D Item : Type 0} (s : Shape) (h : Hashing D) (spelling : Item → List ℕ) (list more : List Item)
    → leaves_of s h spelling list ++ drop (length (leaves_of s h spelling list)) (leaves_of s h spelling more) ≡ leaves_of s h spelling (list ++ drop (length list) more)
leaves_rest s h spelling list more =
    leaves_join s h (map spelling list) (map spelling more)
    ∙ ap (leaf_digests s h) (
    ap (λ (n : ℕ). map spelling list ++ drop n (map spelling more)) (length-map list spelling)
    ∙ ap (λ (r : List (List ℕ)). map spelling list ++ r) (drop-map spelling (length list) more)
    ∙ sym (map-append spelling list (drop (length list) more)))

-- ---- each node is a digest

index_admits : {D X : Type 0} (admits : D → Type 0) (f : X → D) (es : List X) (d : D) → ((e : X) → admits (f e)) → admits d → (x : ℕ) → admits (slice_index_or (map f es) x d)
index_admits admits f [] d each last x = last
index_admits admits f (e ∷ es) d each last zero = each e
index_admits admits f (e ∷ es) d each last (suc x) = index_admits admits f es d each last x

node_admits : {D : Type 0} (s : Shape) (h : Hashing D) (admits : D → Type 0) (all : List D) → ((m : List ℕ) → admits (h.digest m)) → ((x : ℕ) → admits (leaf_at h all x)) → (x k : ℕ) → admits (node s h all x k)
unfolding node
node_admits s h admits all each leaves x zero = leaves x
node_admits s h admits all each leaves x (suc k) = each _

pub all_digests : {D : Type 0} (s : Shape) (h : Hashing D) (admits : D → Type 0) (elements : List (List ℕ)) → ((m : List ℕ) → admits (h.digest m)) → AreDigests s h admits (leaf_digests s h elements)
all_digests {D = D} s h admits elements each =
    let leaves : (x : ℕ) → admits (leaf_at h (leaf_digests s h elements) x) = index_admits admits (λ p. leaf s h p.0 p.1) (enumerate_from 0 elements) (h.digest []) (λ e. each _) (each []) in
    All-map admits (node_of s h (leaf_digests s h elements)) (made s (length (leaf_digests s h elements))) (λ i d lt. node_admits s h admits (leaf_digests s h elements) each leaves _ _)
