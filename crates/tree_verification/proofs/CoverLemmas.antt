-- The nodes of a cover stand in the tree.
use Rattle.std.proofs.Common.{ℕ, zero, suc, ◌+◌, ◌-◌, ◌^◌, ◌<◌, ◌≤◌, Bool, true, false, cond, List, [], ◌∷◌, ◌++◌, length, map, arith}
use Rattle.std.specs.Prelude.{All}
use Rattle.std.specs.List.{AllByRecursion}
use Rattle.std.proofs.lemmas.Option.{slice_get_within}
use Rattle.tree_shape.specs.Shape.{Shape, made, peaks, peaks_down, Stands, PeaksStand, IsWellMade, IsLawful}
use Rattle.tree_shape.specs.Pins.{position_of}
use Rattle.tree_shape.proofs.SizeLemmas.{size_grow}
use Rattle.tree_shape.proofs.PeakLemmas.{all-append, all-reverse}
use Rattle.tree_proof.specs.Cover.{Opened, cover_in, cover_over, cover}

pub all-gives : {X Y : Type 0} (P : X → Type 0) (Q : Y → Type 0) (f : X → Y) → ((x : X) → P x → Q (f x)) → (xs : List X) → AllByRecursion P xs → All Q (map f xs)
all-gives P Q f g [] a k d lt = absurd (omega arith)
all-gives P Q f g (x ∷ xs) a zero d lt = g x a.0
all-gives P Q f g (x ∷ xs) a (suc k) d lt = all-gives P Q f g xs a.1 k d (omega arith)

-- it stands where its position says
abbrev pub IsPlaced : Shape → List (ℕ × ℕ) → ℕ × ℕ → Type 0
IsPlaced s cs p = Stands cs (s.position p.0 p.1) p.0 p.1

abbrev pub ArePlaced : Shape → List (ℕ × ℕ) → List (ℕ × ℕ) → Type 0
ArePlaced s cs ps = AllByRecursion (IsPlaced s cs) ps

module _ (s : Shape) (cs : List (ℕ × ℕ)) (met : Opened) where
  leaf-placed : (x : ℕ) → Stands cs (s.position x 0) x 0 → (m : Bool) → ArePlaced s cs (cond m [] ((x, 0) ∷ []))
  leaf-placed x st true = tt
  leaf-placed x st false = (st, tt)

  node-placed : (x k : ℕ) → Stands cs (s.position x (suc k)) x (suc k) → ArePlaced s cs (cover_in met x k) → ArePlaced s cs (cover_in met (x + 2 ^ k) k)
      → (m : Bool) → ArePlaced s cs (cond m (cover_in met x k ++ cover_in met (x + 2 ^ k) k) ((x, suc k) ∷ []))
  node-placed x k st l r true = all-append (IsPlaced s cs) (cover_in met x k) (cover_in met (x + 2 ^ k) k) l r
  node-placed x k st l r false = (st, tt)

  pub inside-placed : (e : ℕ) → IsWellMade s e cs → (x k : ℕ) → Stands cs (s.position x k) x k → ArePlaced s cs (cover_in met x k)
  unfolding cover_in
  inside-placed e w x zero st = leaf-placed x st (met x 0)
  inside-placed e w x (suc k) st =
      let c = w.behind (s.position x (suc k)) x (suc k) st in
      node-placed x k st (inside-placed e w x k c.0) (inside-placed e w (x + 2 ^ k) k c.1) (met x (suc k))

  over-placed : (e : ℕ) → IsWellMade s e cs → (ps : List (ℕ × ℕ)) → ArePlaced s cs ps → ArePlaced s cs (cover_over met ps)
  over-placed e w [] a = tt
  over-placed e w (p ∷ ps) a = all-append (IsPlaced s cs) (cover_in met p.0 p.1) (cover_over met ps) (inside-placed e w p.0 p.1 a.0) (over-placed e w ps a.1)

pub peaks-placed : (s : Shape) (cs : List (ℕ × ℕ)) (e : ℕ) (hs : List ℕ) → PeaksStand s cs e hs → ArePlaced s cs (peaks_down e hs)
peaks-placed s cs e [] p = tt
peaks-placed s cs e (k ∷ ks) p = (p.1, peaks-placed s cs (e - 2 ^ k) ks p.2)

pub cover-placed : (s : Shape) (met : Opened) (n : ℕ) → IsLawful s → ArePlaced s (made s n) (cover s met n)
cover-placed s met n w =
    over-placed s (made s n) met n (w.well_made n) (peaks s n) (all-reverse (IsPlaced s (made s n)) (peaks_down n (s.heights n)) (peaks-placed s (made s n) n (s.heights n) (w.peaks n)))

-- the positions are below the size of a tree that has these leaves
pub cover-below : (s : Shape) (met : Opened) (n m : ℕ) → IsLawful s → n ≤ m → All (λ p. p < length (made s m)) (map (position_of s) (cover s met n))
cover-below s met n m w le =
    let grow = size_grow s n m le in
    all-gives (IsPlaced s (made s n)) (λ p. p < length (made s m)) (position_of s)
    (λ p st. let lt : s.position p.0 p.1 < length (made s n) = slice_get_within (made s n) (s.position p.0 p.1) p st in omega (arith, lt, grow)) (cover s met n) (cover-placed s met n w)
