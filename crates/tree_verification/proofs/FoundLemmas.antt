-- What stands at a position behind the nodes of a tree.
use Rattle.std.proofs.Common.{◌≡◌, ◌⊎◌, ℕ, inl, inr, Bool, true, false, cond, List, [], ◌∷◌, ◌++◌, length, Option, Some, None, refl, sym, ◌∙◌, ap, arith}
use Rattle.std.specs.Prelude.{slice_get, All}
use Rattle.std.specs.List.{AllByRecursion, Contains}
use Rattle.std.specs.BTreeMap.{is_at}
use Rattle.std.specs.Ordering.{nat_cmp}
use Rattle.std.specs.Option.{option_map}
use Rattle.std.proofs.lemmas.List.Elements.{All-contains, Contains-append_right}
use Rattle.std.proofs.lemmas.Option.{same_Some, some_pair_parts, slice_get-map}
use Rattle.tree_shape.specs.Hashing.{Hashing}
use Rattle.tree_shape.specs.Shape.{Shape, made, IsLawful}
use Rattle.tree_shape.specs.Slow.{node, node_of, nodes}
use Rattle.tree_store.specs.Stores.{IsTreeOf}
use Rattle.tree_proof.specs.Cover.{Opened}
use Rattle.tree_verification.specs.Told.{told_nodes, entries, TellsExactly, found}
use Rattle.tree_verification.proofs.KeyLemmas.{key_same, key_itself}
use Rattle.tree_verification.proofs.CoverLemmas.{IsPlaced, ArePlaced, all-gives}
use Rattle.tree_verification.proofs.ToldPlaced.{told-placed}

pub found-append : {D : Type 0} (p : ℕ) (o : Option D) (xs ys : List (ℕ × D)) → found p o (xs ++ ys) ≡ found p (found p o xs) ys
found-append p o [] ys = refl
found-append p o (e ∷ es) ys = found-append p (cond (is_at (nat_cmp e.0) p) (Some e.1) o) es ys

pair-is : {A B : Type 0} (e : A × B) (a : A) (b : B) → e.0 ≡ a → e.1 ≡ b → e ≡ (a, b)
pair-is (x, y) a b p q = λ i. (p i, q i)

-- what is found stood there, or is one of the entries
found-only : {D : Type 0} (p : ℕ) (o : Option D) (es : List (ℕ × D)) (d : D) → found p o es ≡ Some d → (o ≡ Some d) ⊎ Contains es (p, d)
found-only p o [] d f = inl f
found-only {D} p o (e ∷ es) d f = by (is_at (nat_cmp e.0) p) refl (found-only p (cond (is_at (nat_cmp e.0) p) (Some e.1) o) es d f)
  where
    by : (b : Bool) → is_at (nat_cmp e.0) p ≡ b → (cond b (Some e.1) o ≡ Some d) ⊎ Contains es (p, d) → (o ≡ Some d) ⊎ Contains (e ∷ es) (p, d)
    by true t (inl q) = inr (0, omega arith, pair-is e p d (key_same e.0 p t) (same_Some e.1 d q))
    by false t (inl q) = inl q
    by true t (inr c) = inr (Contains-append_right (e ∷ []) es (p, d) c)
    by false t (inr c) = inr (Contains-append_right (e ∷ []) es (p, d) c)

module _ {D : Type 0} (s : Shape) (cs : List (ℕ × ℕ)) (tree : ℕ → ℕ → D) where
  -- one node stands at a position
  same-node : (q r : ℕ × ℕ) → IsPlaced s cs q → IsPlaced s cs r → s.position r.0 r.1 ≡ s.position q.0 q.1 → tree r.0 r.1 ≡ tree q.0 q.1
  same-node q r pq pr e =
      let both : Some (r.0, r.1) ≡ Some (q.0, q.1) = sym pr ∙ ap (slice_get cs) e ∙ pq in
      let parts = some_pair_parts r.0 q.0 r.1 q.1 both in
      ap (λ x. tree x r.1) parts.0 ∙ ap (tree q.0) parts.1

  -- a node that was found stays
  found-keeps : (q : ℕ × ℕ) → IsPlaced s cs q → (qs : List (ℕ × ℕ)) → ArePlaced s cs qs → found (s.position q.0 q.1) (Some (tree q.0 q.1)) (entries s tree qs) ≡ Some (tree q.0 q.1)
  found-keeps q pq [] a = refl
  found-keeps q pq (r ∷ rs) a = by (is_at (nat_cmp (s.position r.0 r.1)) (s.position q.0 q.1)) refl (found-keeps q pq rs a.1)
    where
      by : (b : Bool) → is_at (nat_cmp (s.position r.0 r.1)) (s.position q.0 q.1) ≡ b → found (s.position q.0 q.1) (Some (tree q.0 q.1)) (entries s tree rs) ≡ Some (tree q.0 q.1)
          → found (s.position q.0 q.1) (cond b (Some (tree r.0 r.1)) (Some (tree q.0 q.1))) (entries s tree rs) ≡ Some (tree q.0 q.1)
      by true t k = ap (λ d. found (s.position q.0 q.1) (Some d) (entries s tree rs)) (same-node q r pq a.0 (key_same (s.position r.0 r.1) (s.position q.0 q.1) t)) ∙ k
      by false t k = k

  abbrev IsFound : (ℕ → Option D) → List (ℕ × ℕ) → ℕ × ℕ → Type 0
  IsFound f qs q = found (s.position q.0 q.1) (f (s.position q.0 q.1)) (entries s tree qs) ≡ Some (tree q.0 q.1)

  -- each node is found
  found-each : (f : ℕ → Option D) (qs : List (ℕ × ℕ)) → ArePlaced s cs qs → AllByRecursion (IsFound f qs) qs
  found-each f [] a = tt
  found-each f (q ∷ qs) a = (
    ap (λ b. found (s.position q.0 q.1) (cond b (Some (tree q.0 q.1)) (f (s.position q.0 q.1))) (entries s tree qs)) (key_itself (s.position q.0 q.1)) ∙ found-keeps q a.0 qs a.1,
    found-each (λ p. cond (is_at (nat_cmp (s.position q.0 q.1)) p) (Some (tree q.0 q.1)) (f p)) qs a.1,
  )

  each-told : (told : ℕ → Option D) (qs all : List (ℕ × ℕ)) → ((p : ℕ) → told p ≡ found p None (entries s tree all)) → AllByRecursion (IsFound (λ p. None) all) qs → AllByRecursion (λ q. told (s.position q.0 q.1) ≡ Some (tree q.0 q.1)) qs
  each-told told [] all e a = tt
  each-told told (q ∷ qs) all e a = (e (s.position q.0 q.1) ∙ a.0, each-told told qs all e a.1)

  pub tells-exactly : (told : ℕ → Option D) (qs : List (ℕ × ℕ)) → ArePlaced s cs qs → ((p : ℕ) → told p ≡ found p None (entries s tree qs)) → TellsExactly told (entries s tree qs)
  tells-exactly told qs a e = record {
    each = all-gives (λ q. told (s.position q.0 q.1) ≡ Some (tree q.0 q.1)) (λ e. told e.0 ≡ Some e.1) (λ q. (s.position q.0 q.1, tree q.0 q.1)) (λ q t. t) qs (each-told told qs qs e (found-each (λ p. None) qs a));
    only = λ p d t. one p d (found-only p None (entries s tree qs) d (sym (e p) ∙ t));
  }
    where
      one : (p : ℕ) (d : D) → (◌≡◌ {A = Option D} None (Some d)) ⊎ Contains (entries s tree qs) (p, d) → Contains (entries s tree qs) (p, d)
      one p d (inl n) = absurd (cc)
      one p d (inr c) = c

-- where they are slow nodes of a list, the tree is the list's
pub tree-of-told : {D : Type 0} (s : Shape) (h : Hashing D) (all : List D) (met : Opened) (n : ℕ) (told : ℕ → Option D) → IsLawful s → length all ≡ n
    → TellsExactly told (entries s (node s h all) (told_nodes s met n)) → IsTreeOf s h all n told
tree-of-told {D} s h all met n told w l t = record {
  count = sym l;
  right = λ p d e. All-contains (λ (e : ℕ × D). slice_get (nodes s h all) e.0 ≡ Some e.1) (entries s (node s h all) (told_nodes s met n)) (p, d) slow (t.only p d e);
}
  where
    stands : (q : ℕ × ℕ) → IsPlaced s (made s n) q → slice_get (nodes s h all) (s.position q.0 q.1) ≡ Some (node s h all q.0 q.1)
    stands q st =
        slice_get-map (node_of s h all) (made s (length all)) (s.position q.0 q.1) ∙ ap (λ i. option_map (node_of s h all) (slice_get (made s i) (s.position q.0 q.1))) l ∙ ap (option_map (node_of s h all)) st

    slow : All (λ (e : ℕ × D). slice_get (nodes s h all) e.0 ≡ Some e.1) (entries s (node s h all) (told_nodes s met n))
    slow = all-gives (IsPlaced s (made s n)) (λ e. slice_get (nodes s h all) e.0 ≡ Some e.1) (λ q. (s.position q.0 q.1, node s h all q.0 q.1)) stands (told_nodes s met n) (told-placed s met n w)

pub same-tree : {D : Type 0} (s : Shape) (h : Hashing D) (all : List D) (told : ℕ → Option D) (m n : ℕ) → m ≡ n → IsTreeOf s h all n told → IsTreeOf s h all m told
same-tree s h all told m n e t = record { count = e ∙ t.count; right = t.right }
