-- Which items stand beside which segments.
use Rattle.std.proofs.Common.{◌≡◌, ℕ, zero, suc, ◌+◌, ◌-◌, ◌≤◌, List, [], ◌∷◌, ◌++◌, length, map, drop, Some, refl, sym, ◌∙◌, ap, subst, arith, length-append, append_assoc, take}
use Rattle.std.specs.Prelude.{slice_get}
use Rattle.std.proofs.Math.Seq.{drop-append-add}
use Rattle.std.proofs.lemmas.List.{map-append, length-map, drop-map, drop-drop, drop-append-le}
use Rattle.tree_shape.specs.Hashing.{Hashing}
use Rattle.tree_shape.specs.Shape.{Shape}
use Rattle.tree_shape.specs.Slow.{leaf, node_of}
use Rattle.tree_core.specs.Pruned.{made_from}
use Rattle.tree_core.specs.Links.{ChainSegment, IsLinked, IsLinkedOf, first_leaves}
use Rattle.tree_store.specs.declared.error.Error.{Error}
use Rattle.tree_store.specs.declared.error.Error.TheVariants.{StaleBatch, AncestorDropped, Memory}
use Rattle.tree_core.specs.Applied.{IsMarkOf, FitsTree, RefusedByTree}
use Rattle.tree_core.specs.Batches.{Sealed, Unsealed, IsSoundSealed, IsSealedOf, IsUnsealedOf, IsSealedFrom, leaf_count, with_digests}
use Rattle.tree_core.specs.Tree.{Tree}
use Rattle.tree_core.proofs.LinkLemmas.{ends_with}
use Rattle.tree_store.proofs.StoreLemmas.{take-next}
use Rattle.auth_journal.specs.Appending.{unapplied}
use Rattle.auth_journal.specs.Batched.{SealedItems, UnsealedItems, joined_items, AreCounted, leaves_from, IsSoundUnsealedItems, IsSealedOfItems, IsUnsealedOfItems, AreSealedFrom, with_item}
use Rattle.auth_journal.specs.Joined.{leaves_of}
use Rattle.auth_journal.proofs.LeafLemmas.{length-leaves_of, length-leaves_from, leaves_push, leaves_more}
use Rattle.auth_journal.proofs.ListLemmas.{joined_push}

-- ---- segments from one of them on

pub linked_of : {D : Type 0} (s : Shape) (h : Hashing D) (all : List D) (n : ℕ) (gs : List (ChainSegment D)) → IsLinkedOf s h all n gs → IsLinked s n gs (length all)
linked_of s h all n [] l = l
linked_of s h all n (g ∷ gs) l = (record { starts = l.0; counted = ap length l.2 ∙ length-map (made_from s n g.later) (node_of s h all) }, linked_of s h all (n + g.later) gs l.3)

head_is : {X : Type 0} (x y : X) (xs ys : List X) → (x ∷ xs) ≡ (y ∷ ys) → x ≡ y
head_is x y xs ys e = cc

tail_is : {X : Type 0} (x y : X) (xs ys : List X) → (x ∷ xs) ≡ (y ∷ ys) → xs ≡ ys
tail_is x y xs ys e = cc

pub joined_count : {D Item : Type 0} (s : Shape) (n : ℕ) (gs : List (ChainSegment D)) (m : ℕ) (lists : List (List Item)) → IsLinked s n gs m → AreCounted gs lists → length (joined_items lists) + n ≡ m
joined_count s n [] m [] l c = omega (arith, l)
joined_count s n [] m (x ∷ lists) l c = absurd (cc)
joined_count s n (g ∷ gs) m [] l c = absurd (cc)
joined_count s n (g ∷ gs) m (x ∷ lists) l c =
    let r = joined_count s (n + g.later) gs m lists l.1 (tail_is _ _ _ _ c) in
    omega (arith, r, length-append x (joined_items lists), head_is _ _ _ _ c)

-- the items that stand beside the segments from one of them on, before which x leaves stand
pub record IsRest {Item : Type 0} (n m x : ℕ) (lists rest : List (List Item)) : Type 0 where
  pub past : n ≤ x
  pub items : joined_items rest ≡ drop (x - n) (joined_items lists)
  pub counted : length (joined_items rest) + x ≡ m

pub joined_rest : {D Item : Type 0} (s : Shape) (n : ℕ) (gs : List (ChainSegment D)) (m : ℕ) (lists : List (List Item)) (p : ℕ) → IsLinked s n gs m → AreCounted gs lists
    → IsRest n m (first_leaves (drop p gs) m) lists (drop p lists)
joined_rest s n [] m (x ∷ lists) p l c = absurd (cc)
joined_rest s n (g ∷ gs) m [] p l c = absurd (cc)
joined_rest s n [] m [] zero l c = record { past = omega (arith, l); items = (let e : m - n ≡ 0 = omega (arith, l) in rw e refl); counted = omega arith }
joined_rest s n [] m [] (suc p) l c = record { past = omega (arith, l); items = (let e : m - n ≡ 0 = omega (arith, l) in rw e refl); counted = omega arith }
joined_rest s n (g ∷ gs) m (x ∷ lists) zero l c = record {
  past = omega (arith, l.0.starts);
  items = (let e : g.leaves - n ≡ 0 = omega (arith, l.0.starts) in rw e refl);
  counted = omega (arith, l.0.starts, joined_count s n (g ∷ gs) m (x ∷ lists) l c);
}
joined_rest s n (g ∷ gs) m (x ∷ lists) (suc p) l c =
    let r = joined_rest s (n + g.later) gs m lists p l.1 (tail_is _ _ _ _ c) in
    let f = first_leaves (drop p gs) m in
    let e : length x + (f - (n + g.later)) ≡ f - n = omega (arith, head_is _ _ _ _ c, r.past) in
    record {
      past = omega (arith, r.past);
      items = r.items ∙ sym (drop-append-add x (joined_items lists) (f - (n + g.later))) ∙ ap (λ k. drop k (x ++ joined_items lists)) e;
      counted = r.counted;
    }

first_at : {D : Type 0} (s : Shape) (t : Tree D) (gs : List (ChainSegment D)) (m i : ℕ) (b : Sealed D) → b.links ≡ gs → FitsTree s t b i → first_leaves (drop i gs) m ≡ t.leaves
first_at {D = D} s t gs m i b e fits = by gs i (subst (λ (links : List (ChainSegment D)). FitsTree s t (record b { links = links }) i) e fits)
  where
    by : (gs : List (ChainSegment D)) (i : ℕ) → FitsTree s t (record b { links = gs }) i → first_leaves (drop i gs) m ≡ t.leaves
    by [] i k = absurd k
    by (g ∷ gs) zero k = k.0
    by (g ∷ gs) (suc i) k = by gs i k

-- from the segment on that fits a tree stand the items that the tree's journal lacks
pub rest_fits : {D Item : Type 0} (s : Shape) (t : Tree D) (b : SealedItems D Item) (i : ℕ) → IsSoundSealed s b.nodes → AreCounted b.nodes.links b.items → FitsTree s t b.nodes i
    → IsRest b.nodes.first b.nodes.leaves t.leaves b.items (drop i b.items)
rest_fits s t b i sound counted fits =
    subst (λ x. IsRest b.nodes.first b.nodes.leaves x b.items (drop i b.items)) (first_at s t b.nodes.links b.nodes.leaves i b.nodes refl fits)
    (joined_rest s b.nodes.first b.nodes.links b.nodes.leaves b.items i sound.linked counted)

-- of a batch of a list they are the list's
pub unapplied_of : {D Item : Type 0} (s : Shape) (h : Hashing D) (spelling : Item → List ℕ) (made : List Item) (b : SealedItems D Item) (n : ℕ)
    → IsSealedOfItems s h spelling made b → b.nodes.first ≤ n → unapplied b n ≡ drop n made
unapplied_of s h spelling made b n of le =
    let e : b.nodes.first + (n - b.nodes.first) ≡ n = omega (arith, le) in
    ap (drop (n - b.nodes.first)) of.items ∙ drop-drop (n - b.nodes.first) b.nodes.first made ∙ ap (λ k. drop k made) e

-- the items of d that a tree u lacks are those of b from segment i on
pub record IsUnapplied {D Item : Type 0} (b : SealedItems D Item) (i : ℕ) (u : Tree D) (d : SealedItems D Item) : Type 0 where
  pub items : joined_items (drop i b.items) ≡ unapplied d u.leaves
  pub counted : length (unapplied d u.leaves) + u.leaves ≡ d.nodes.leaves
  pub past : d.nodes.first ≤ u.leaves

pub unapplied_from : {D Item : Type 0} (s : Shape) (t u : Tree D) (b d : SealedItems D Item) (i : ℕ) → IsSoundSealed s b.nodes → AreCounted b.nodes.links b.items → FitsTree s t b.nodes i → t ≡ u → b ≡ d → IsUnapplied b i u d
unapplied_from {D = D} {Item = Item} s t u b d i sound counted fits tree batch =
    let rest = rest_fits s t b i sound counted fits in
    let here : IsUnapplied b i t b = record { items = rest.items; counted = omega (arith, rest.counted, ap length rest.items); past = rest.past } in
    subst (λ (e : SealedItems D Item). IsUnapplied b i u e) batch (subst (λ (v : Tree D). IsUnapplied b i v b) tree here)

-- ---- batches that are sealed

-- the kept lists and one more are as long as the kept segments and one more
pub counted_push : {D Item : Type 0} (gs : List (ChainSegment D)) (lists : List (List Item)) (p : ℕ) (g : ChainSegment D) (own : List Item)
    → AreCounted gs lists → length own ≡ g.later → AreCounted (drop p gs ++ g ∷ []) (drop p lists ++ own ∷ [])
counted_push gs lists p g own counted same =
    map-append length (drop p lists) (own ∷ []) ∙ ap (λ (r : List ℕ). r ++ length own ∷ []) (sym (drop-map length p lists) ∙ ap (drop p) counted ∙ drop-map (λ g. g.later) p gs)
    ∙ ap (λ (n : ℕ). map (λ g. g.later) (drop p gs) ++ n ∷ []) same ∙ sym (map-append (λ g. g.later) (drop p gs) (g ∷ []))

pub counted_length : {D Item : Type 0} (gs : List (ChainSegment D)) (lists : List (List Item)) → AreCounted gs lists → length lists ≡ length gs
counted_length gs lists counted = sym (length-map lists length) ∙ ap length counted ∙ length-map gs (λ g. g.later)

-- the list that a sealed batch is of, where its nodes are those of what it went on from and of its items
pub sealed_items : {D Item : Type 0} (s : Shape) (h : Hashing D) (spelling : Item → List ℕ) (list : List Item) (b : UnsealedItems D Item) (reached : ℕ) (c : SealedItems D Item)
    → IsSoundUnsealedItems s h spelling b → IsSoundSealed s c.nodes → AreSealedFrom b reached c → IsUnsealedOfItems s h spelling list b
    → IsSealedOf s h (leaves_of s h spelling list ++ b.nodes.digests) c.nodes → IsSealedOfItems s h spelling (list ++ b.items) c
sealed_items {D = D} {Item = Item} s h spelling list b reached c sound seals from of nodes =
    let count : length (leaves_of s h spelling list) ≡ length list = length-leaves_of s h spelling list in
    let more : length b.nodes.digests ≡ length b.items = ap length sound.digests ∙ length-leaves_from s h b.nodes.base (map spelling b.items) ∙ length-map b.items spelling in
    let end : c.nodes.leaves ≡ length (leaves_of s h spelling list ++ b.nodes.digests) = ends_with s h (leaves_of s h spelling list ++ b.nodes.digests) c.nodes.first c.nodes.links c.nodes.leaves seals.linked nodes.linked in
    let base : b.nodes.base ≡ length list = omega (arith, end, from.nodes.leaves, length-append (leaves_of s h spelling list) b.nodes.digests, count) in
    let digests : leaves_of s h spelling list ++ b.nodes.digests ≡ leaves_of s h spelling (list ++ b.items) =
    ap (λ (r : List D). leaves_of s h spelling list ++ r) (sound.digests ∙ ap (λ (n : ℕ). leaves_from s h n (map spelling b.items)) base) ∙ sym (leaves_more s h spelling list b.items) in
    let all : ℕ = length (leaves_of s h spelling list) in
    let p : ℕ = length b.kept - reached in
    let same : length b.nodes.links - reached ≡ p = ap (λ (n : ℕ). n - reached) (sym (counted_length b.nodes.links b.kept sound.counted)) in
    let rest = joined_rest s b.nodes.first b.nodes.links all b.kept p (linked_of s h (leaves_of s h spelling list) b.nodes.first b.nodes.links of.nodes.batch.linked) sound.counted in
    let first : c.nodes.first ≡ first_leaves (drop p b.nodes.links) all =
    from.nodes.first ∙ ap (λ (k : ℕ). first_leaves (drop k b.nodes.links) b.nodes.base) same ∙ ap (first_leaves (drop p b.nodes.links)) (base ∙ sym count) in
    let f : ℕ = first_leaves (drop p b.nodes.links) all in
    let e : b.nodes.first + (f - b.nodes.first) ≡ f = omega (arith, rest.past) in
    record {
      nodes = subst (λ (l : List D). IsSealedOf s h l c.nodes) digests nodes;
      items = ap (joined_items {Item = Item}) from.items ∙ joined_push (drop p b.kept) b.items
          ∙ ap (λ (r : List Item). r ++ b.items) (rest.items ∙ ap (drop (f - b.nodes.first)) of.items ∙ drop-drop (f - b.nodes.first) b.nodes.first list ∙ ap (λ k. drop k list) e)
          ∙ sym (drop-append-le f list b.items (omega (arith, rest.counted, count))) ∙ ap (λ k. drop k (list ++ b.items)) (sym first);
    }

pub sealed_counted : {D Item : Type 0} (s : Shape) (h : Hashing D) (spelling : Item → List ℕ) (b : UnsealedItems D Item) (reached : ℕ) (c : Sealed D) (lists : List (List Item))
    → IsSoundUnsealedItems s h spelling b → IsSealedFrom b.nodes reached c → lists ≡ drop (length b.kept - reached) b.kept ++ (b.items ∷ []) → AreCounted c.links lists
sealed_counted {Item = Item} s h spelling b reached c lists sound from are =
    let more : length b.items ≡ length b.nodes.digests = sym (ap length sound.digests ∙ length-leaves_from s h b.nodes.base (map spelling b.items) ∙ length-map b.items spelling) in
    let p : ℕ = length b.nodes.links - reached in
    let same : length b.kept - reached ≡ p = ap (λ (n : ℕ). n - reached) (counted_length b.nodes.links b.kept sound.counted) in
    let g : ChainSegment _ = record { leaves = b.nodes.base; peaks = b.nodes.base_peaks; later = length b.nodes.digests; nodes = from.nodes } in
    ap (map length) (are ∙ ap (λ (k : ℕ). drop k b.kept ++ (b.items ∷ [])) same) ∙ counted_push b.nodes.links b.kept p g b.items sound.counted more ∙ ap (map (λ g. g.later)) (sym from.links)

-- a tree's own empty batch has one list, of nothing
pub one_counted : {D : Type 0} (s : Shape) (n m : ℕ) (gs : List (ChainSegment D)) (Item : Type 0) → length gs ≡ 1 → n ≡ m → IsLinked s n gs m → AreCounted {Item = Item} gs ([] ∷ [])
one_counted s n m [] Item one same l = absurd (omega (arith, one))
one_counted s n m (g ∷ []) Item one same l = let e : 0 ≡ g.later = omega (arith, l.1, same) in ap (λ (k : ℕ). k ∷ []) e
one_counted s n m (g ∷ f ∷ gs) Item one same l = absurd (omega (arith, one))

-- one more item keeps them sound
pub sound_with : {D Item : Type 0} (s : Shape) (h : Hashing D) (spelling : Item → List ℕ) (b : UnsealedItems D Item) (item : Item) → IsSoundUnsealedItems s h spelling b
    → IsSoundUnsealedItems s h spelling (with_item s h spelling b item)
sound_with {D = D} s h spelling b item sound =
    let elements = map spelling b.items in
    let count : length b.nodes.digests ≡ length elements = ap length sound.digests ∙ length-leaves_from s h b.nodes.base elements in
    let at : leaf_count b.nodes ≡ b.nodes.base + length elements = ap (λ n. b.nodes.base + n) count in
    record {
      counted = sound.counted;
      digests = ap (λ (r : List D). r ++ leaf s h (leaf_count b.nodes) (spelling item) ∷ []) sound.digests
          ∙ ap (λ (n : ℕ). leaves_from s h b.nodes.base elements ++ leaf s h n (spelling item) ∷ []) at
          ∙ sym (leaves_push s h b.nodes.base elements (spelling item)) ∙ ap (leaves_from s h b.nodes.base) (sym (map-append spelling b.items (item ∷ [])));
    }

-- ---- batches that fit a tree

-- a batch that stands on the tree's mark, without ancestors, fits it where it is sealed
pub fits_first : {D : Type 0} (s : Shape) (t : Tree D) (b : Unsealed D) (c : Sealed D) → b.links ≡ [] → IsMarkOf s t b.base b.base_peaks → IsSealedFrom b 0 c → FitsTree s t c 0
fits_first s t b c none mark from =
    let links : c.links ≡ record { leaves = b.base; peaks = b.base_peaks; later = length b.digests; nodes = from.nodes } ∷ [] =
    from.links ∙ ap (λ (gs : List (ChainSegment _)). drop (length gs - 0) gs ++ (record { leaves = b.base; peaks = b.base_peaks; later = length b.digests; nodes = from.nodes } ∷ [])) none in
    subst (λ (gs : List (ChainSegment _)). FitsTree s t (record c { links = gs }) 0) (sym links) mark

-- a batch that fits is refused for want of memory alone
pub only_memory : {F D : Type 0} (s : Shape) (t : Tree D) (c : Sealed D) (i : ℕ) (e : Error F) → FitsTree s t c i → RefusedByTree s t c e → e ≡ Memory
only_memory s t c i StaleBatch fits why = absurd (why.0 i fits)
only_memory s t c i (AncestorDropped x y) fits why = absurd (why.3 i fits)
only_memory s t c i Memory fits why = refl
only_memory s t c i _ fits why = absurd why

-- leaves are added behind the same mark
pub added : {D : Type 0} (s : Shape) (h : Hashing D) (all : List D) (b : Unsealed D) (more : List D) → IsUnsealedOf s h all b → IsUnsealedOf s h all (with_digests b more)
added s h all b more of = record { batch = record { linked = of.batch.linked; before = of.batch.before; boundary = of.batch.boundary }; base = of.base }

-- one leaf more
pub added_next : {D : Type 0} (s : Shape) (h : Hashing D) (b now next : Unsealed D) (xs : List (List ℕ)) (i : ℕ) (x : List ℕ)
    → now ≡ with_digests b (leaves_from s h (leaf_count b) (take i xs)) → slice_get xs i ≡ Some x → next ≡ with_digests now (leaf s h (leaf_count now) x ∷ [])
    → next ≡ with_digests b (leaves_from s h (leaf_count b) (take (suc i) xs))
added_next {D = D} s h b now next xs i x so_far at is =
    let front = take i xs in
    let ds : List D = leaves_from s h (leaf_count b) front in
    let count : leaf_count now ≡ leaf_count b + length front = ap leaf_count so_far ∙ omega (arith, length-append b.digests ds, length-leaves_from s h (leaf_count b) front) in
    let last : ds ++ leaf s h (leaf_count now) x ∷ [] ≡ leaves_from s h (leaf_count b) (take (suc i) xs) =
    ap (λ (n : ℕ). ds ++ leaf s h n x ∷ []) count ∙ sym (leaves_push s h (leaf_count b) front x) ∙ ap (leaves_from s h (leaf_count b)) (sym (take-next xs i x at)) in
    is ∙ ap (λ (u : Unsealed D). with_digests u (leaf s h (leaf_count now) x ∷ [])) so_far
    ∙ ap (λ (es : List D). record b { digests = es }) (append_assoc b.digests ds (leaf s h (leaf_count now) x ∷ [])) ∙ ap (with_digests b) last
