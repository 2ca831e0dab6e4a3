-- The peaks of fewer leaves, read from a tree.
use Rattle.std.proofs.Common.{◌≡◌, ℕ, ◌+◌, ◌-◌, ◌^◌, ◌≤◌, inl, inr, List, [], ◌∷◌, ◌++◌, length, map, reverse, Option, Some, None, refl, sym, ◌∙◌, ap, subst, arith}
use Rattle.std.specs.Prelude.{slice_get, IsSome}
use Rattle.std.proofs.lemmas.List.{append-nil}
use Rattle.std.proofs.lemmas.Option.{slice_get_within}
use Rattle.tree_shape.specs.Hashing.{Hashing}
use Rattle.tree_shape.specs.Shape.{Shape, made, peaks, peaks_down, Stands, IsLawful, inactive}
use Rattle.tree_shape.specs.Kept.{PeakIn, KeepsPeaks}
use Rattle.tree_shape.specs.Pins.{pins, position_of}
use Rattle.tree_shape.specs.Slow.{node_of}
use Rattle.tree_shape.proofs.InactiveLemmas.{inactive-within}
use Rattle.tree_shape.proofs.NodeLemmas.{map-reverse}
use Rattle.tree_core.specs.Tree.{Tree, node_at, IsSound, IsOf}
use Rattle.tree_core.proofs.Later.{made-split, get_front}
use Rattle.tree_core.proofs.PrunedLemmas.{pruned_peak, tree_node, peak_stands}
use Rattle.tree_core.proofs.TreeLemmas.{some_of}

map_map : {A B C : Type 0} (f : B → C) (g : A → B) (xs : List A) → map f (map g xs) ≡ map (λ x. f (g x)) xs
map_map f g [] = refl
map_map f g (x ∷ xs) = ap (λ t. f (g x) ∷ t) (map_map f g xs)

read_down : {D : Type 0} (f : ℕ × ℕ → Option D) (g : ℕ × ℕ → D) (e : ℕ) (ks : List ℕ)
    → ((x k : ℕ) → PeakIn e ks x k → f (x, k) ≡ Some (g (x, k)))
    → map f (peaks_down e ks) ≡ map Some (map g (peaks_down e ks))
read_down f g e [] told = refl
read_down f g e (k ∷ ks) told =
    ap (λ o. o ∷ map f (peaks_down (e - 2 ^ k) ks)) (told (e - 2 ^ k) k (inl (refl, refl)))
    ∙ ap (λ t. Some (g (e - 2 ^ k, k)) ∷ t) (read_down f g (e - 2 ^ k) ks (λ x j p. told x j (inr p)))

pub some_down : {D : Type 0} (f : ℕ × ℕ → Option D) (e : ℕ) (ks : List ℕ)
    → ((x k : ℕ) → PeakIn e ks x k → IsSome (f (x, k))) → (ds : List D) × (map f (peaks_down e ks) ≡ map Some ds)
some_down f e [] told = ([], refl)
some_down f e (k ∷ ks) told =
    let first = some_of (f (e - 2 ^ k, k)) (told (e - 2 ^ k) k (inl (refl, refl))) in
    let rest = some_down f (e - 2 ^ k) ks (λ x j p. told x j (inr p)) in (
      first.0 ∷ rest.0,
      ap (λ o. o ∷ map f (peaks_down (e - 2 ^ k) ks)) first.1 ∙ ap (λ t. Some first.0 ∷ t) rest.1,
    )

some_same : {D : Type 0} (xs ys : List D) → map Some xs ≡ map Some ys → xs ≡ ys
some_same [] [] e = refl
some_same [] (y ∷ ys) e = absurd cc
some_same (x ∷ xs) [] e = absurd cc
some_same (x ∷ xs) (y ∷ ys) e =
    let a : x ≡ y = cc in
    let b : map Some xs ≡ map Some ys = cc in
    ap (λ z. z ∷ xs) a ∙ ap (λ t. y ∷ t) (some_same xs ys b)

pub later_stands : (s : Shape) (m n p x k : ℕ) → m ≤ n → Stands (made s m) p x k → Stands (made s n) p x k
later_stands s m n p x k le at =
    let e : m + (n - m) ≡ n = omega (arith, le) in
    ap (λ j. slice_get (made s j) p) (sym e)
    ∙ ap (λ cs. slice_get cs p) (made-split s m (n - m))
    ∙ get_front (made s m) _ p (slice_get_within (made s m) p (x, k) at)
    ∙ at

pub not_some : {D : Type 0} (o : Option D) → o ≡ None → IsSome o → ⊥
not_some (Some d) is some = absurd cc
not_some None is some = absurd cc

-- the pins are what the tree tells there
pub pins_are : {D : Type 0} (g : ℕ → Option D) (s : Shape) (n : ℕ)
    → map g (pins s n) ≡ reverse (map (λ c. g (position_of s c)) (peaks_down n (s.heights n)))
pins_are g s n =
    map_map g (position_of s) (peaks s n) ∙ map-reverse (λ c. g (position_of s c)) (peaks_down n (s.heights n))

module _ {D : Type 0} (s : Shape) (t : Tree D) (m : ℕ) (w : IsLawful s) (q : KeepsPeaks s) (sound : IsSound s t)
    (kept : t.boundary ≤ m) (within : m ≤ t.leaves) where
  pub each_kept : (ds : List D) × (map (node_at t) (pins s m) ≡ map Some ds)
  each_kept =
      let down = some_down (λ c. node_at t (position_of s c)) m (s.heights m)
      (λ x k peak. pruned_peak s t.leaves t.boundary m (node_at t) x k w q sound.held kept within peak) in
      (reverse down.0, pins_are (node_at t) s m ∙ ap reverse down.1 ∙ sym (map-reverse Some down.0))

  -- each pin is kept, wherever it stands among them
  pub one_kept : (front left back : List ℕ) (p : ℕ) → left ≡ p ∷ back → front ++ left ≡ pins s m → IsSome (node_at t p)
  one_kept front left back p here is =
      at_front front each_kept.0 (ap (map (node_at t)) (ap (λ ps. front ++ ps) (sym here) ∙ is) ∙ each_kept.1)
    where
      at_front : (front : List ℕ) (ds : List D) → map (node_at t) (front ++ (p ∷ back)) ≡ map Some ds → IsSome (node_at t p)
      at_front [] [] e = absurd cc
      at_front [] (d ∷ ds) e = let here : node_at t p ≡ Some d = cc in subst (λ o. IsSome o) (sym here) refl
      at_front (x ∷ xs) [] e = absurd cc
      at_front (x ∷ xs) (d ∷ ds) e =
          let rest : map (node_at t) (xs ++ (p ∷ back)) ≡ map Some ds = cc in at_front xs ds rest

  -- so what stands at one is not nothing
  pub not_none : (front left back : List ℕ) (p : ℕ) → left ≡ p ∷ back → front ++ left ≡ pins s m → node_at t p ≡ None → ⊥
  not_none front left back p here is none = not_some (node_at t p) none (one_kept front left back p here is)

  -- what is read at the pins are the slow nodes there
  pub all_right : (h : Hashing D) (all read : List D) (yielded left : List ℕ) → IsOf s h all t
      → map Some read ≡ map (node_at t) yielded → left ≡ [] → yielded ++ left ≡ pins s m
      → read ≡ map (node_of s h all) (peaks s m)
  all_right h all read yielded left of told end whole =
      let is : map Some read ≡ map (node_at t) (pins s m) =
      told ∙ ap (map (node_at t)) (sym (append-nil yielded) ∙ ap (λ ps. yielded ++ ps) (sym end) ∙ whole) in
      let down = read_down (λ c. node_at t (position_of s c)) (node_of s h all) m (s.heights m) (λ x k peak.
      let here = some_of (node_at t (s.position x k))
      (pruned_peak s t.leaves t.boundary m (node_at t) x k w q sound.held kept within peak) in
      let stands = later_stands s m t.leaves (s.position x k) x k within
      (peak_stands s (made s m) m (s.heights m) x k (w.peaks m) peak) in
      here.1 ∙ ap Some
      (tree_node s h all t.leaves (s.position x k) x k (node_at t) here.0 of stands (sym here.1))) in
      some_same read (map (node_of s h all) (peaks s m))
      (is ∙ pins_are (node_at t) s m ∙ ap reverse down
      ∙ sym (map-reverse Some (map (node_of s h all) (peaks_down m (s.heights m))))
      ∙ ap (map Some) (sym (map-reverse (node_of s h all) (peaks_down m (s.heights m)))))

-- there are no more inactive peaks than peaks
pub inactive_fits : (s : Shape) (leaves n floor k : ℕ) → n ≡ leaves → k ≡ inactive s n floor → k ≤ length (s.heights leaves)
inactive_fits s leaves n floor k at is = rw (is, at) (inactive-within s leaves floor)
