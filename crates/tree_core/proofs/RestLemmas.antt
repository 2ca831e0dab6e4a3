-- A tree at rest.
use Rattle.std.proofs.Common.{◌≡◌, ℕ, ◌≤◌, Bool, true, false, cond, List, Some, None, Option, refl, sym, ◌∙◌, arith}
use Rattle.std.specs.Prelude.{◌||◌, IsSome}
use Rattle.tree_shape.specs.Hashing.{Hashing}
use Rattle.tree_shape.specs.Shape.{Shape, IsLawful}
use Rattle.tree_shape.specs.Kept.{KeepsPeaks}
use Rattle.tree_store.specs.Stores.{IsTreeOf}
use Rattle.tree_core.specs.Pruned.{IsPruned, is_peak_at}
use Rattle.tree_core.specs.Tree.{rests}
use Rattle.tree_core.proofs.PrunedLemmas.{pruned_peak, peak_at_true}

or_first : (a b : Bool) → a ≡ true → (a || b) ≡ true
or_first true b e = refl
or_first false b e = absurd (cc)

pub rested_pruned : {D : Type 0} (s : Shape) (n b c : ℕ) (f g : ℕ → Option D) → IsLawful s → KeepsPeaks s → IsPruned s n b f → b ≤ n → ((p : ℕ) → g p ≡ cond (rests s n c p) (f p) None) → IsPruned s n n g
rested_pruned {D = D} s n b c f g w q i bn e = record {
  ended = λ p le. e p ∙ none (rests s n c p) (f p) (i.ended p le);
  since = λ p le lt. absurd (omega arith);
  peaks = λ x k peak. kept (s.position x k) (or_first (is_peak_at s n (s.heights n) (s.position x k)) (is_peak_at s c (s.heights c) (s.position x k)) (peak_at_true s n (s.heights n) x k peak)) (pruned_peak s n b n f x k w q i bn (omega arith) peak);
}
  where
    none : (t : Bool) (o : Option D) → o ≡ None → cond t o None ≡ None
    none true o z = z
    none false o z = refl

    kept : (p : ℕ) → rests s n c p ≡ true → IsSome (f p) → IsSome (g p)
    kept p t have = rw (e p, t) have

pub rested_tree : {D : Type 0} (s : Shape) (h : Hashing D) (all : List D) (n : ℕ) (keep : ℕ → Bool) (f g : ℕ → Option D) → ((p : ℕ) → g p ≡ cond (keep p) (f p) None) → IsTreeOf s h all n f → IsTreeOf s h all n g
rested_tree {D = D} s h all n keep f g e t = record {
  count = t.count;
  right = λ p d is. t.right p d (there (keep p) (f p) d (sym (e p) ∙ is));
}
  where
    there : (c : Bool) (o : Option D) (d : D) → cond c o None ≡ Some d → o ≡ Some d
    there true o d is = is
    there false o d is = absurd (cc)
