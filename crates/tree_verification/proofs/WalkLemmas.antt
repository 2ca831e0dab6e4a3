-- The positions that the walk has found so far.
use Rattle.std.proofs.Common.{◌≡◌, ℕ, ◌+◌, ◌-◌, ◌^◌, ◌<◌, true, List, [], ◌∷◌, ◌++◌, map, sym, ◌∙◌, ap, append_assoc}
use Rattle.std.proofs.lemmas.List.{map-append}
use Rattle.tree_shape.specs.Shape.{Shape}
use Rattle.tree_shape.specs.Pins.{position_of}
use Rattle.tree_proof.specs.Cover.{Opened, cover_in, cover_over}
use Rattle.tree_proof.proofs.RebuildLemmas.{append_nil}
use Rattle.tree_proof.proofs.CoverSteps.{cover_in-halves}
use Rattle.tree_verification.specs.Ranges.{cover_positions}

module _ (s : Shape) (met : Opened) where
  pub found_both : (acc mid more : List ℕ) (x k half : ℕ) → met x k ≡ true → 0 < k → half ≡ 2 ^ (k - 1)
      → mid ≡ acc ++ map (position_of s) (cover_in met x (k - 1)) → more ≡ mid ++ map (position_of s) (cover_in met (x + half) (k - 1)) → more ≡ acc ++ map (position_of s) (cover_in met x k)
  found_both acc mid more x k half e lt he l r =
      r ∙ ap (λ xs. xs ++ map (position_of s) (cover_in met (x + half) (k - 1))) l ∙ append_assoc acc _ _
      ∙ ap (λ xs. acc ++ xs) (sym (ap (map (position_of s)) (cover_in-halves met x k half e lt he) ∙ map-append (position_of s) (cover_in met x (k - 1)) (cover_in met (x + half) (k - 1))))

  -- the positions so far, and those inside the peaks that are left, are all
  abbrev pub Found : ℕ → List ℕ → List (ℕ × ℕ) → Type 0
  Found n acc left = acc ++ map (position_of s) (cover_over met left) ≡ cover_positions s met n

  pub found_next : (n : ℕ) (acc more : List ℕ) (left later : List (ℕ × ℕ)) (x k : ℕ) → Found n acc left → left ≡ (x, k) ∷ later
      → more ≡ acc ++ map (position_of s) (cover_in met x k) → Found n more later
  found_next n acc more left later x k f are m =
      let rest = map (position_of s) (cover_over met later) in
      ap (λ xs. xs ++ rest) m ∙ append_assoc acc (map (position_of s) (cover_in met x k)) rest
      ∙ ap (λ xs. acc ++ xs) (sym (map-append (position_of s) (cover_in met x k) (cover_over met later)))
      ∙ ap (λ ps. acc ++ map (position_of s) (cover_over met ps)) (sym are) ∙ f

  pub found_all : (n : ℕ) (acc : List ℕ) (left : List (ℕ × ℕ)) → Found n acc left → left ≡ [] → acc ≡ cover_positions s met n
  found_all n acc left f z = sym (ap (λ l. acc ++ map (position_of s) (cover_over met l)) z ∙ append_nil acc) ∙ f
