-- From its boundary on a tree has each node that a proof needs.
use Rattle.std.proofs.Common.{◌≡◌, ℕ, zero, suc, ◌+◌, ◌-◌, ◌^◌, ◌<◌, ◌≤◌, inl, inr, List, [], ◌∷◌, length, map, Some, None, Option, Result, Ok, Err, refl, sym, ap, subst, arith}
use Rattle.std.specs.Prelude.{All, IsSome, IfErr, IsOkUnless, slice_get}
use Rattle.std.proofs.lemmas.Bool.Decides.{leb_tells}
use Rattle.std.proofs.lemmas.Option.{same_Some, slice_get_past, slice_get_within}
use Rattle.tree_shape.specs.Shape.{Shape, made, IsLawful}
use Rattle.tree_shape.specs.Kept.{KeepsPeaks}
use Rattle.tree_shape.specs.Needed.{IsNeeded}
use Rattle.tree_shape.specs.Pins.{position_of}
use Rattle.tree_shape.proofs.NeededLemmas.{made_le, needed_from}
use Rattle.tree_store.specs.declared.error.Error.{Error}
use Rattle.tree_store.specs.declared.error.Error.TheVariants.{Memory, ElementPruned}
use Rattle.tree_proof.specs.declared.proof.Proof.{Proof}
use Rattle.tree_proof.specs.Cover.{meets, cover}
use Rattle.tree_store.specs.Stores.{IsUnread}
use Rattle.tree_verification.specs.Ranges.{cover_positions, range_answer, leaf_answer, Proves}
use Rattle.tree_verification.proofs.CoverLemmas.{cover-below}
use Rattle.tree_verification.proofs.NeededLemmas.{cover-needed}
use Rattle.tree_core.specs.Pruned.{IsPruned}
use Rattle.tree_core.specs.Links.{joined_nodes}
use Rattle.tree_core.specs.Tree.{Tree, node_at, IsSound}
use Rattle.tree_core.specs.Batches.{Sealed, IsSoundSealed}
use Rattle.tree_core.specs.Overlay.{overlaid}
use Rattle.tree_core.specs.Reading.{OnlyRefusedBy}
use Rattle.tree_core.proofs.Held.{get_is_some}
use Rattle.tree_core.proofs.LinkLemmas.{joined_length}
use Rattle.tree_core.proofs.OverlayLemmas.{sealed-size}
use Rattle.tree_core.proofs.PrunedLemmas.{peak_stands}

-- what is told where each of these stands, is told at each of their positions
each-told : {X D : Type 0} (told : ℕ → Option D) (f : X → ℕ) (P : X → Type 0) (size : ℕ) → ((x : X) → P x → f x < size → IsSome (told (f x)))
    → (xs : List X) → All P xs → All (λ p. p < size) (map f xs) → (i p : ℕ) → slice_get (map f xs) i ≡ Some p → IsSome (told p)
each-told told f P size g [] a b i p e = absurd (cc)
each-told told f P size g (x ∷ xs) a b zero p e = subst (λ (q : ℕ). IsSome (told q)) (same_Some (f x) p e) (g x (a zero x (omega arith)) (b zero (f x) (omega arith)))
each-told told f P size g (x ∷ xs) a b (suc i) p e = each-told told f P size g xs (λ k d lt. a (suc k) d (omega arith)) (λ k d lt. b (suc k) d (omega arith)) i p e

-- the cover of a range from the boundary on
covered : {D : Type 0} (s : Shape) (n b x y : ℕ) (g : ℕ → Option D) → IsLawful s → KeepsPeaks s → IsPruned s n b g → b ≤ n → b ≤ x → (i p : ℕ) → slice_get (cover_positions s (meets x y) n) i ≡ Some p → IsSome (g p)
covered s n b x y g w q held bn bx =
    each-told g (position_of s) (λ c. IsNeeded s n b c.0 c.1) (length (made s n))
    (λ c need lt. elim (needed_from s w q n b c.0 c.1 bn need) [
      | inl late ↦ held.since (s.position c.0 c.1) late lt
      | inr peak ↦ held.peaks c.0 c.1 peak
    ])
    (cover s (meets x y) n) (cover-needed s w n b x y bx) (cover-below s (meets x y) n n w (omega arith))

some-none : {D : Type 0} (o : Option D) → o ≡ None → IsSome o → ⊥
some-none None e i = absurd (cc)
some-none (Some d) e i = absurd (cc)

-- where each is told, only memory can be wanting
all-told : {F P D : Type 0} (told : ℕ → Option D) (ps : List ℕ) (result : Result P (Error F)) → ((i p : ℕ) → slice_get ps i ≡ Some p → IsSome (told p)) → IfErr result (IsUnread told ps) → IsOkUnless result Memory
all-told told ps (Ok x) f u = tt
all-told {F = F} told ps (Err e) f u = why e u
  where
    why : (e : Error F) → IsUnread told ps e → e ≡ Memory
    why (ElementPruned p) u = absurd (some-none (told p) u.absent (f u.index p u.here))
    why Memory u = refl
    why _ u = absurd u

only-refused : {F P : Type 0} (answer : Result (Unit {0}) (Error F)) (result : Result P (Error F)) → ((e : Error F) → answer ≡ Err e → result ≡ Err e) → (answer ≡ Ok tt → IsOkUnless result Memory) → OnlyRefusedBy answer result
only-refused answer (Ok x) r k = tt
only-refused (Ok u) (Err e) r k = inr (k refl)
only-refused {F = F} (Err a) (Err e) r k = let back = r a refl in let same : a ≡ e = cc in inl (ap (λ (x : Error F). Err x) same)

-- from the boundary on a proof is refused only by the tests of its range
kept : {F D : Type 0} (s : Shape) (n b inactive x y : ℕ) (g : ℕ → Option D) (answer : Result (Unit {0}) (Error F)) (result : Result (Proof F D) (Error F)) → IsLawful s → KeepsPeaks s
    → (answer ≡ Ok tt → IsPruned s n b g × (b ≤ n)) → b ≤ x → Proves s answer n inactive (meets x y) g result → OnlyRefusedBy answer result
kept s n b inactive x y g answer result w q held bx proves =
    only-refused answer result proves.refused
    (λ ok. all-told g (cover_positions s (meets x y) n) result (covered s n b x y g w q (held ok).0 (held ok).1 bx) (proves.unread ok))

-- ---- a tree

pub kept-in : {F D : Type 0} (s : Shape) (t : Tree D) (n inactive x y : ℕ) (answer : Result (Unit {0}) (Error F)) (result : Result (Proof F D) (Error F)) → IsLawful s → KeepsPeaks s
    → IsSound s t → n ≡ t.leaves → t.boundary ≤ x → Proves s answer n inactive (meets x y) (node_at t) result → OnlyRefusedBy answer result
kept-in s t n inactive x y answer result w q sound e bx proves =
    kept s n t.boundary inactive x y (node_at t) answer result w q
    (λ ok. let bn = sound.within in (subst (λ (m : ℕ). IsPruned s m t.boundary (node_at t)) (sym e) sound.held, omega (arith, bn, e)))
    bx proves

-- ---- a sealed batch over a tree

-- both together have each node from the tree's boundary on
overlay-pruned : {D : Type 0} (s : Shape) (b : Sealed D) (t : Tree D) → IsLawful s → IsSoundSealed s b → IsSound s t → b.first ≤ t.leaves → t.boundary ≤ b.leaves → IsPruned s b.leaves t.boundary (overlaid s b t)
overlay-pruned {D = D} s b t w sound base reach bn = record {
  ended = λ p le. elim (leb_tells (length (made s b.first)) p) [
    | inl t ↦ rw t.0 (slice_get_past (joined_nodes b.links) (p - length (made s b.first)) (omega (arith, le, size)))
    | inr u ↦ absurd (let grow = made_le s b.first b.leaves j in omega (arith, u.1, grow, le))
  ];
  since = λ p le lt. there p lt (λ low. base.held.since p le (let grow = made_le s b.first t.leaves reach in omega (arith, low, grow)));
  peaks = λ x k peak.
      let lt = slice_get_within (made s t.boundary) (s.position x k) (x, k) (peak_stands s (made s t.boundary) t.boundary (s.heights t.boundary) x k (w.peaks t.boundary) peak) in
      there (s.position x k) (let grow = made_le s t.boundary b.leaves bn in omega (arith, lt, grow)) (λ low. base.held.peaks x k peak);
}
  where
    j : b.first ≤ b.leaves
    j = (joined_length s b.first b.links b.leaves sound.linked).0

    size : length (made s b.first) + length (joined_nodes b.links) ≡ length (made s b.leaves)
    size = sealed-size s b sound

    there : (p : ℕ) → p < length (made s b.leaves) → (p < length (made s b.first) → IsSome (node_at t p)) → IsSome (overlaid s b t p)
    there p lt low = elim (leb_tells (length (made s b.first)) p) [
      | inl v ↦ rw v.0 (get_is_some (joined_nodes b.links) (p - length (made s b.first)) (omega (arith, v.1, lt, size)))
      | inr u ↦ rw u.0 (low u.1)
    ]

-- a range that is answered ends within the leaves
pub range-within : {F : Type 0} (n a b : ℕ) → range_answer {F = F} n n a b ≡ Ok tt → a ≤ n
range-within n a b e = elim (leb_tells b a) [
  | inl t ↦ absurd (let f = rw t.0 at e in cc)
  | inr u ↦ elim (leb_tells b (2 ^ 62)) [
    | inl few ↦ elim (leb_tells b n) [
      | inl le ↦ omega (arith, u.1, le.1)
      | inr past ↦ elim (leb_tells n n) [
        | inl same ↦ absurd (let f = rw (u.0, few.0, same.0, past.0) at e in cc)
        | inr less ↦ absurd (omega (arith, less.1))
      ]
    ]
    | inr many ↦ absurd (let f = rw (u.0, many.0) at e in cc)
  ]
]

pub leaf-within : {F : Type 0} (n l : ℕ) → leaf_answer {F = F} n l ≡ Ok tt → l ≤ n
leaf-within n l e = elim (leb_tells (suc l) (2 ^ 62)) [
  | inl few ↦ range-within n l (l + 1) (rw few.0 at e)
  | inr many ↦ absurd (let f = rw many.0 at e in cc)
]

pub kept-over : {F D : Type 0} (s : Shape) (b : Sealed D) (t : Tree D) (n inactive x y : ℕ) (answer : Result (Unit {0}) (Error F)) (result : Result (Proof F D) (Error F)) → IsLawful s → KeepsPeaks s
    → IsSoundSealed s b → IsSound s t → n ≡ b.leaves → (answer ≡ Ok tt → x ≤ n) → t.boundary ≤ x → b.first ≤ t.leaves → Proves s answer n inactive (meets x y) (overlaid s b t) result → OnlyRefusedBy answer result
kept-over s b t n inactive x y answer result w q sound base e within bx reach proves =
    kept s n t.boundary inactive x y (overlaid s b t) answer result w q
    (λ ok. let bn : t.boundary ≤ n = (let a = within ok in omega (arith, a, bx)) in
    (subst (λ (m : ℕ). IsPruned s m t.boundary (overlaid s b t)) (sym e) (overlay-pruned s b t w sound base reach (omega (arith, bn, e))), bn))
    bx proves
