-- The nodes that are told stand in the tree.
use Rattle.std.proofs.Common.{ℕ, zero, suc, ◌+◌, ◌^◌, Bool, true, false, cond, List, [], ◌∷◌, ◌++◌}
use Rattle.tree_shape.specs.Shape.{Shape, made, peaks, peaks_down, Stands, IsWellMade, IsLawful}
use Rattle.tree_proof.specs.Cover.{Opened}
use Rattle.tree_verification.specs.Told.{told_in, told_over, told_nodes}
use Rattle.tree_shape.proofs.PeakLemmas.{all-append, all-reverse}
use Rattle.tree_verification.proofs.CoverLemmas.{IsPlaced, ArePlaced, peaks-placed}

module _ (s : Shape) (cs : List (ℕ × ℕ)) (met : Opened) where
  halves-placed : (x k : ℕ) → Stands cs (s.position x (suc k)) x (suc k) → ArePlaced s cs (told_in met x k) → ArePlaced s cs (told_in met (x + 2 ^ k) k)
      → (m : Bool) → ArePlaced s cs (cond m ((told_in met x k ++ told_in met (x + 2 ^ k) k) ++ ((x, suc k) ∷ [])) ((x, suc k) ∷ []))
  halves-placed x k st l r true = all-append (IsPlaced s cs) (told_in met x k ++ told_in met (x + 2 ^ k) k) ((x, suc k) ∷ []) (all-append (IsPlaced s cs) (told_in met x k) (told_in met (x + 2 ^ k) k) l r) (st, tt)
  halves-placed x k st l r false = (st, tt)

  inside-placed : (e : ℕ) → IsWellMade s e cs → (x k : ℕ) → Stands cs (s.position x k) x k → ArePlaced s cs (told_in met x k)
  unfolding told_in
  inside-placed e w x zero st = (st, tt)
  inside-placed e w x (suc k) st =
      let c = w.behind (s.position x (suc k)) x (suc k) st in
      halves-placed x k st (inside-placed e w x k c.0) (inside-placed e w (x + 2 ^ k) k c.1) (met x (suc k))

  over-placed : (e : ℕ) → IsWellMade s e cs → (ps : List (ℕ × ℕ)) → ArePlaced s cs ps → ArePlaced s cs (told_over met ps)
  over-placed e w [] a = tt
  over-placed e w (p ∷ ps) a = all-append (IsPlaced s cs) (told_in met p.0 p.1) (told_over met ps) (inside-placed e w p.0 p.1 a.0) (over-placed e w ps a.1)

pub told-placed : (s : Shape) (met : Opened) (n : ℕ) → IsLawful s → ArePlaced s (made s n) (told_nodes s met n)
told-placed s met n w =
    over-placed s (made s n) met n (w.well_made n) (peaks s n) (all-reverse (IsPlaced s (made s n)) (peaks_down n (s.heights n)) (peaks-placed s (made s n) n (s.heights n) (w.peaks n)))
