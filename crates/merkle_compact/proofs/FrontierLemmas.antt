-- Trees that keep their peaks alone.
use Rattle.std.proofs.Common.{◌≡◌, ℕ, ◌+◌, ◌<◌, inl, inr, Bool, true, false, cond, List, [], length, Option, Some, None, refl, sym, ◌∙◌, ap, subst, arith}
use Rattle.std.specs.Prelude.{◌||◌, nat_le, is_some, IsSome}
use Rattle.std.proofs.lemmas.Bool.Decides.{leb_tells}
use Rattle.tree_shape.specs.Hashing.{Hashing}
use Rattle.tree_shape.specs.Shape.{Shape, made}
use Rattle.tree_shape.specs.Kept.{PeakOf}
use Rattle.tree_shape.proofs.NeededLemmas.{made_le}
use Rattle.tree_core.specs.Pruned.{is_peak_at, keeps, made_from, nodes_from}
use Rattle.tree_core.specs.Tree.{Tree, node_at, IsSound, IsPrunedTo, IsBuilt}
use Rattle.tree_core.specs.Applied.{IsLonger}
use Rattle.tree_core.proofs.BuiltLemmas.{peak_at_from, sizes_apart}
use Rattle.tree_core.proofs.PrunedLemmas.{peak_at_true}
use Rattle.merkle_compact.specs.Frontier.{IsFrontier, HasNoPins}

-- what isn't kept stands before the boundary's nodes
pub gone_before : (s : Shape) (b p : ℕ) → keeps s b p ≡ false → p < length (made s b)
gone_before s b p gone = elim (leb_tells (length (made s b)) p) [
  | inl past ↦ absurd (let kept : keeps s b p ≡ true = rw past.0 refl in let both : true ≡ false = sym kept ∙ gone in cc)
  | inr low ↦ omega (arith, low.1)
]

-- what is appended is no pin
pub grown_no_pins : {D : Type 0} (s : Shape) (n : ℕ) (t u : Tree D) → IsSound s t → HasNoPins s t → IsLonger s n t u → HasNoPins s u
grown_no_pins s n t u sound none longer = record {
  none = λ p gone.
      let gone_too : keeps s t.boundary p ≡ false = subst (λ b. keeps s b p ≡ false) longer.boundary gone in
      let before = gone_before s t.boundary p gone_too in
      let within = made_le s t.boundary t.leaves sound.within in
      longer.nodes p (omega (arith, before, within)) ∙ none.none p gone_too;
}

-- nor is what a prune keeps
pub pruned_no_pins : {D : Type 0} (s : Shape) (n : ℕ) (t u : Tree D) → IsPrunedTo s n t u → HasNoPins s u
pruned_no_pins s n t u to = record {
  none = λ p gone. let gone_too : keeps s n p ≡ false = subst (λ b. keeps s b p ≡ false) to.boundary gone in to.nodes p ∙ (rw gone_too refl);
}

-- what is built keeps no other pin
pub built_no_pins : {D : Type 0} (s : Shape) (b : ℕ) (more pinned : List D) (t : Tree D) → IsBuilt s b more pinned t → HasNoPins s t
built_no_pins s b more pinned t built = record { none = λ p gone. built.others p (subst (λ n. keeps s n p ≡ false) built.boundary gone) }

some_true : {D : Type 0} (o : Option D) → IsSome o → is_some o ≡ true
some_true (Some d) h = refl
some_true None h = absurd (cc)

-- a tree without pins that ends at its boundary keeps its peaks alone
pub is_frontier : {D : Type 0} (s : Shape) (t : Tree D) → IsSound s t → HasNoPins s t → t.boundary ≡ t.leaves → IsFrontier s t
is_frontier {D} s t sound none end p = by_peak (is_peak_at s t.leaves (s.heights t.leaves) p) refl
  where
    gone : keeps s t.leaves p ≡ false → is_some (node_at t p) ≡ false
    gone not_kept = ap is_some (none.none p (ap (λ b. keeps s b p) end ∙ not_kept))

    by_peak : (b : Bool) → is_peak_at s t.leaves (s.heights t.leaves) p ≡ b → is_some (node_at t p) ≡ is_peak_at s t.leaves (s.heights t.leaves) p
    by_peak true is =
        let peak = peak_at_from s t.leaves (s.heights t.leaves) p is in
        let of_end : PeakOf s t.boundary peak.first peak.height = subst (λ b. PeakOf s b peak.first peak.height) (sym end) peak.peak in
        let here : IsSome (node_at t p) = subst (λ q. IsSome (node_at t q)) peak.at (sound.held.peaks peak.first peak.height of_end) in
        some_true (node_at t p) here ∙ sym is
    by_peak false isnt = elim (leb_tells (length (made s t.leaves)) p) [
      | inl past ↦ ap is_some (sound.held.ended p (omega (arith, past.1))) ∙ sym isnt
      | inr low ↦ gone (rw (low.0, isnt) refl) ∙ sym isnt
    ]

-- a prune keeps each peak
pub peak_kept : {D : Type 0} (s : Shape) (n : ℕ) (t u : Tree D) (x k : ℕ) → IsPrunedTo s n t u → PeakOf s n x k → node_at u (s.position x k) ≡ node_at t (s.position x k)
peak_kept s n t u x k to peak =
    let is = peak_at_true s n (s.heights n) x k peak in
    to.nodes (s.position x k) ∙ kept (nat_le (length (made s n)) (s.position x k)) (is_peak_at s n (s.heights n) (s.position x k)) (node_at t (s.position x k)) is
  where
    kept : {D : Type 0} (a b : Bool) (o : Option D) → b ≡ true → cond (a || b) o None ≡ o
    kept true b o e = refl
    kept false true o e = refl
    kept false false o e = absurd (cc)

pub built_leaves : {D : Type 0} (s : Shape) (b : ℕ) (more pinned : List D) (t : Tree D) → IsBuilt s b more pinned t → more ≡ [] → t.leaves ≡ b
built_leaves s b more pinned t built none =
    let size = built.leaves.1 in
    let no_more : length more ≡ 0 = ap length none in
    let back : length (made s b) ≡ length (made s t.leaves) + 0 = omega (arith, size, no_more) in
    omega (arith, built.within, sizes_apart s b t.leaves 0 back)

pub nothing_from : {D : Type 0} (s : Shape) (h : Hashing D) (all : List D) (b : ℕ) → nodes_from s h all b 0 ≡ []
unfolding made_from
nothing_from s h all b = refl
