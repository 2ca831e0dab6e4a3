-- The marks of a batch's segments: one behind each state of its chain, and where a tree takes the batch.
use Rattle.std.proofs.Common.{◌≡◌, ℕ, zero, suc, ◌+◌, ◌-◌, ◌≤◌, List, [], ◌∷◌, ◌++◌, length, drop, map, Some, refl, sym, ◌∙◌, ap, subst, arith}
use Rattle.std.specs.Prelude.{Option, Contains, min, reverse, slice_get}
use Rattle.std.specs.List.{AllByRecursion}
use Rattle.std.specs.Option.{ForSome, option_map}
use Rattle.std.proofs.lemmas.List.{length-map, length-append, length-drop, map-append, drop-map, reverse-append}
use Rattle.std.proofs.lemmas.Option.{slice_get-map, slice_get-get_or}
use Rattle.tree_shape.specs.Hashing.{Hashing}
use Rattle.tree_shape.specs.Shape.{Shape, IsLawful}
use Rattle.tree_store.specs.declared.error.Error as tree_error
use Rattle.tree_store.specs.declared.error.Error.TheVariants as tree
use Rattle.tree_core.specs.Applied.{Fits, FitsTree, Refused}
use Rattle.tree_core.specs.Batches.{Sealed, Unsealed, StandsAt, IsSealedFrom, with_digests}
use Rattle.tree_core.specs.Links.{ChainSegment, HasMark, IsLinkedOf}
use Rattle.tree_core.specs.Pruned.{peaks_at}
use Rattle.tree_core.specs.Tree.{Tree}
use Rattle.tree_core.proofs.Later.{peaks_at-append}
use Rattle.auth_journal.specs.Batched.{SealedItems, UnsealedItems, AreSealedFrom, leaves_from, with_item}
use Rattle.auth_journal.specs.Errors.{IsLifted}
use Rattle.auth_journal.specs.Joined.{leaves_of}
use Rattle.auth_journal.specs.declared.error.Error.TheVariants as joined
use Rattle.auth_journal.proofs.LeafLemmas.{leaves_more, length-leaves_of}
use Rattle.log_model.specs.Meaning.{Meaning}
use Rattle.chain_core.specs.Marks.{marks_of, IsMarkedOn}
use Rattle.chain_core.specs.Reached.{IsPlaceOf, linked_item}
use Rattle.chain_core.specs.Slots.{IsAlive}
use Rattle.chain_core.specs.States.{sizes}
use Rattle.chain_core.specs.declared.bounds.Bounds.{Bounds}
use Rattle.chain_core.specs.declared.commitment.Commitment.{Commitment}
use Rattle.chain_core.specs.declared.place.Place.{Place}
use Rattle.chain_core.specs.declared.pool.HeldBatch.{HeldBatch}
use Rattle.chain_core.proofs.MarkLemmas.{marks_sealed}
use Rattle.keyless_db.specs.Batches.{UnmerkleizedView, MerkleizedView, IsUnmerkleizedOf, IsMerkleizedOf, HasMarks, bounds_of, link_marks}

-- ---- segments of a list

all_weaker : (P Q : ℕ → Type 0) (xs : List ℕ) → ((x : ℕ) → P x → Q x) → AllByRecursion P xs → AllByRecursion Q xs
all_weaker P Q [] give all = tt
all_weaker P Q (x ∷ xs) give all = (give x all.0, all_weaker P Q xs give all.1)

module _ {D : Type 0} (s : Shape) (h : Hashing D) (all : List D) where
  links_low : (n : ℕ) (links : List (ChainSegment D)) → IsLinkedOf s h all n links → AllByRecursion (λ k. n ≤ k) (link_marks links)
  links_low n [] of = tt
  links_low n (g ∷ gs) of =
      let at = of.0 in
      (omega (arith, at), all_weaker (λ k. n + g.later ≤ k) (λ k. n ≤ k) (link_marks gs) (λ k le. omega (arith, le)) (links_low (n + g.later) gs of.3))

  -- the first mark is the least
  marks_low : (n d : ℕ) (rest : List ℕ) (links : List (ChainSegment D)) → IsLinkedOf s h all n links → link_marks links ≡ d ∷ rest → AllByRecursion (λ k. d ≤ k) (link_marks links)
  marks_low n d rest [] of is = absurd cc
  marks_low n d rest (g ∷ gs) of is =
      let first : g.leaves ≡ d = cc in
      let same : n ≡ d = sym of.0 ∙ first in
      subst (λ e. AllByRecursion (λ k. e ≤ k) (link_marks (g ∷ gs))) same (links_low n (g ∷ gs) of)

-- ---- what stands somewhere in a list

abbrev Stands : {X : Type 0} → List X → X → Type 0
Stands xs x = (i : ℕ) × (slice_get xs i ≡ Some x)

stands_before : {X : Type 0} (xs ys : List X) (i : ℕ) (x : X) → slice_get xs i ≡ Some x → Stands (xs ++ ys) x
stands_before [] ys i x is = absurd cc
stands_before (y ∷ xs) ys zero x is = (0, is)
stands_before (y ∷ xs) ys (suc i) x is = let there = stands_before xs ys i x is in (suc there.0, there.1)

stands_last : {X : Type 0} (xs : List X) (x : X) → Stands (xs ++ (x ∷ [])) x
stands_last [] x = (0, refl)
stands_last (y ∷ xs) x = let there = stands_last xs x in (suc there.0, there.1)

stands_turned : {X : Type 0} (xs : List X) (i : ℕ) (x : X) → slice_get xs i ≡ Some x → Stands (reverse xs) x
stands_turned [] i x is = absurd cc
stands_turned (y ∷ xs) zero x is =
    let e : y ≡ x = cc in
    subst (λ ys. Stands ys x) (ap (λ z. reverse xs ++ (z ∷ [])) (sym e) ∙ sym (reverse-append (y ∷ []) xs)) (stands_last (reverse xs) x)
stands_turned (y ∷ xs) (suc i) x is =
    let there = stands_turned xs i x is in
    subst (λ ys. Stands ys x) (sym (reverse-append (y ∷ []) xs)) (stands_before (reverse xs) (y ∷ []) there.0 x there.1)

-- at each state of a chain there is a mark
mark_there : {F D : Type 0} (b : Bounds F D) (c : Commitment F D) → Contains (b.db ∷ b.ancestors) c → Stands (marks_of b) c.size
mark_there b c (zero, within, is) = (0, ap (λ (x : Commitment _ _). Some x.size) is)
mark_there {F} {D} b c (suc k, within, is) =
    let here : slice_get b.ancestors k ≡ Some c = slice_get-get_or b.ancestors k c (omega (arith, within)) ∙ ap Some is in
    let size : slice_get (sizes b.ancestors) k ≡ Some c.size = slice_get-map (λ (x : Commitment F D). x.size) b.ancestors k ∙ ap (option_map (λ (x : Commitment F D). x.size)) here in
    let there = stands_turned (sizes b.ancestors) k c.size size in
    (suc there.0, there.1)

-- what stands at a mark has the list's peaks before it
mark_at : {D : Type 0} (s : Shape) (h : Hashing D) (all : List D) (n i k : ℕ) (links : List (ChainSegment D)) → IsLinkedOf s h all n links → slice_get (link_marks links) i ≡ Some k → HasMark links i k (peaks_at s h all k)
mark_at s h all n i k [] of is = absurd cc
mark_at s h all n zero k (g ∷ gs) of is =
    let here : g.leaves ≡ k = cc in
    (here, of.1 ∙ ap (peaks_at s h all) (sym of.0 ∙ here))
mark_at s h all n (suc i) k (g ∷ gs) of is = mark_at s h all (n + g.later) i k gs of.3 is

-- the marks of a batch that is sealed are those that are kept, and its own
kept_marks : {D : Type 0} (t : Unsealed D) (ds : List D) (reached : ℕ) (b : Sealed D) → IsSealedFrom (with_digests t ds) reached b
    → link_marks b.links ≡ drop (length (link_marks t.links) - reached) (link_marks t.links) ++ (t.base ∷ [])
kept_marks {D} t ds reached b from =
    let place = length t.links - reached in
    let count : length (link_marks t.links) ≡ length t.links = length-map t.links (λ (g : ChainSegment D). g.leaves) in
    ap link_marks from.links ∙ map-append (λ (g : ChainSegment D). g.leaves) (drop place t.links) _
    ∙ ap (λ ns. ns ++ (t.base ∷ [])) (sym (drop-map (λ (g : ChainSegment D). g.leaves) place t.links) ∙ ap (λ n. drop (n - reached) (link_marks t.links)) (sym count))

-- ---- batches of a database

-- a sealed batch has a mark at each state of its chain
pub sealed_marks : {F D Op V : Type 0} (s : Shape) (h : Hashing D) (m : Meaning Op V) (spelling : Op → List ℕ) (list : List Op) (pool : List (Option (HeldBatch (MerkleizedView F D Op))))
    (v : UnmerkleizedView F D Op) (below : ℕ) (place : Place F D) (ds : List D) (t : Sealed D) → IsPlaceOf bounds_of pool v.parent v.base below place → ForSome v.parent (IsAlive pool)
    → IsUnmerkleizedOf s h m spelling list v → IsMarkedOn bounds_of pool v.parent v.base (link_marks v.tree.nodes.links)
    → IsSealedFrom (with_digests v.tree.nodes ds) (min (length place.ancestors) (length v.tree.kept)) t → length v.tree.kept ≡ length v.tree.nodes.links → v.tree.nodes.base ≡ v.base.size
    → link_marks t.links ≡ place.boundary.size ∷ reverse (sizes place.ancestors)
sealed_marks {F} {D} {Op} s h m spelling list pool v below place ds t at alive of on from counted base =
    let u = v.tree.nodes in
    let marks = link_marks u.links in
    let count : length v.tree.kept ≡ length marks = counted ∙ sym (length-map u.links (λ (g : ChainSegment D). g.leaves)) in
    let low = λ (p : MerkleizedView F D Op) (is : linked_item pool v.parent ≡ Some p).
    marks_low s h (leaves_of s h spelling list) u.first p.bounds.db.size (reverse (sizes p.bounds.ancestors)) u.links of.tree.nodes.batch.linked (on.own p is) in
    kept_marks u ds (min (length place.ancestors) (length v.tree.kept)) t from
    ∙ ap (λ n. drop (length marks - min (length place.ancestors) n) marks ++ (u.base ∷ [])) count
    ∙ ap (λ n. drop (length marks - min (length place.ancestors) (length marks)) marks ++ (n ∷ [])) base
    ∙ marks_sealed bounds_of pool v.parent v.base below place marks at alive on low

-- a batch of a tree's own state has one mark, the tree's leaves
one_mark : {D : Type 0} (s : Shape) (t : Tree D) (b : Sealed D) (links : List (ChainSegment D)) → links ≡ b.links → length links ≡ 1 → FitsTree s t b 0 → link_marks links ≡ t.leaves ∷ []
one_mark s t b [] is one fits = absurd (omega (arith, one))
one_mark {D} s t b (g ∷ f ∷ links) is one fits = absurd (omega (arith, one))
one_mark {D} s t b (g ∷ []) is one fits =
    let here : FitsTree s t (record b { links = g ∷ [] }) 0 = subst (λ (gs : List (ChainSegment D)). FitsTree s t (record b { links = gs }) 0) (sym is) fits in
    ap (λ n. n ∷ []) here.0

pub snapshot_marks : {F D : Type 0} (s : Shape) (t : Tree D) (b : Sealed D) (bounds : Bounds F D) → StandsAt t.leaves b → FitsTree s t b 0 → t.leaves ≡ bounds.db.size → bounds.ancestors ≡ []
    → link_marks b.links ≡ marks_of bounds
snapshot_marks {F} {D} s t b bounds stands fits size none =
    one_mark s t b b.links refl stands.one fits ∙ ap (λ n. n ∷ []) size ∙ ap (λ (cs : List (Commitment F D)). bounds.db.size ∷ reverse (sizes cs)) (sym none)

-- ---- lists beside segments

-- what is sealed has a list for each segment
pub sealed_counted : {D Op : Type 0} (s : Shape) (h : Hashing D) (spelling : Op → List ℕ) (u : UnsealedItems D Op) (op : Op) (reached : ℕ) (t : SealedItems D Op)
    → AreSealedFrom (with_item s h spelling u op) reached t
    → length u.kept ≡ length u.nodes.links → length t.items ≡ length t.nodes.links
sealed_counted {D} s h spelling u op reached t from counted =
    let grown = with_item s h spelling u op in
    let own : ChainSegment D = record { leaves = grown.nodes.base; peaks = grown.nodes.base_peaks; later = length grown.nodes.digests; nodes = from.nodes.nodes } in
    let lists = drop (length u.kept - reached) u.kept in
    let links = drop (length u.nodes.links - reached) u.nodes.links in
    omega (
      arith,
      ap length from.items,
      ap length from.nodes.links,
      counted,
      length-append lists (grown.items ∷ []),
      length-append links (own ∷ []),
      length-drop (length u.kept - reached) u.kept,
      length-drop (length u.nodes.links - reached) u.nodes.links,
    )

-- ---- where a tree takes a batch

-- the tree of a list takes a batch of a longer list, where the list's state is one of the batch's chain
pub marked_fits : {F D Op V : Type 0} (s : Shape) (h : Hashing D) (m : Meaning Op V) (spelling : Op → List ℕ) → IsLawful s → (ops more : List Op) (b : MerkleizedView F D Op) (c : Commitment F D)
    → IsMerkleizedOf s h m spelling (ops ++ more) b → HasMarks b → c.size ≡ length ops → Contains (b.bounds.db ∷ b.bounds.ancestors) c
    → (i : ℕ) × Fits s h (leaves_of s h spelling ops) (length ops) b.tree.nodes i
marked_fits s h m spelling w ops more b c of marks size here =
    let all = leaves_of s h spelling (ops ++ more) in
    let front = leaves_of s h spelling ops in
    let behind = leaves_from s h (length ops) (map spelling more) in
    let there = mark_there b.bounds c here in
    let mark : slice_get (link_marks b.tree.nodes.links) there.0 ≡ Some (length ops) = ap (λ ns. slice_get ns there.0) marks ∙ there.1 ∙ ap Some size in
    let found = mark_at s h all b.tree.nodes.first there.0 (length ops) b.tree.nodes.links of.tree.nodes.linked mark in
    let count : length ops ≡ length front = sym (length-leaves_of s h spelling ops) in
    let peaks : peaks_at s h all (length ops) ≡ peaks_at s h front (length ops) =
    ap (λ ds. peaks_at s h ds (length ops)) (leaves_more s h spelling ops more) ∙ ap (peaks_at s h (front ++ behind)) count
    ∙ peaks_at-append s h front behind w ∙ ap (peaks_at s h front) (sym count) in
    (there.0, subst (HasMark b.tree.nodes.links there.0 (length ops)) peaks found)

-- a tree that refuses a batch has none of its marks
pub refused_misfit : {F D : Type 0} (s : Shape) (h : Hashing D) (all : List D) (n : ℕ) (b : Sealed D) (e : tree_error.Error F) → Refused s h all n b e → IsLifted (joined.Merkle e)
    → (i : ℕ) → Fits s h all n b i → ⊥
refused_misfit s h all n b tree.StaleBatch why lifted i fits = why.0 i fits
refused_misfit s h all n b (tree.AncestorDropped x y) why lifted i fits = why.3 i fits
refused_misfit s h all n b tree.Memory why lifted i fits = lifted
refused_misfit s h all n b e why lifted i fits = absurd why
