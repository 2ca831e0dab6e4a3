-- From the start of a range on, the nodes of its cover are needed.
use Rattle.std.proofs.Common.{◌≡◌, ℕ, zero, suc, ◌+◌, ◌-◌, ◌^◌, ◌≤◌, inl, inr, ◌⊎◌, Bool, true, false, cond, List, [], ◌∷◌, ◌++◌, refl, arith}
use Rattle.std.specs.Prelude.{All}
use Rattle.std.specs.List.{AllByRecursion}
use Rattle.std.proofs.lemmas.Bool.Decides.{nat_tests}
use Rattle.tree_shape.specs.Shape.{Shape, made, peaks, peaks_down, Stands, PeaksStand, IsLawful}
use Rattle.tree_shape.specs.Kept.{PeakIn}
use Rattle.tree_shape.specs.Needed.{IsNeeded}
use Rattle.tree_proof.specs.Cover.{meets, cover_in, cover_over, cover}
use Rattle.tree_shape.proofs.PeakLemmas.{all-append, all-reverse}
use Rattle.tree_verification.proofs.CoverLemmas.{IsPlaced}

every : {X : Type 0} (P : X → Type 0) (xs : List X) → AllByRecursion P xs → All P xs
every P [] a k d lt = absurd (omega arith)
every P (x ∷ xs) a zero d lt = a.0
every P (x ∷ xs) a (suc k) d lt = every P xs a.1 k d (omega arith)

module _ (s : Shape) (w : IsLawful s) (n loc a b : ℕ) (le : loc ≤ a) where
  abbrev IsWanted : ℕ × ℕ → Type 0
  IsWanted p = IsNeeded s n loc p.0 p.1

  abbrev AreWanted : List (ℕ × ℕ) → Type 0
  AreWanted ps = AllByRecursion IsWanted ps

  abbrev IsFound : ℕ × ℕ → Type 0
  IsFound p = IsPlaced s (made s n) p × IsWanted p

  child-wanted : (x k y : ℕ) → Stands (made s n) (s.position x (suc k)) x (suc k) → (y ≡ x) ⊎ (y ≡ x + 2 ^ k) → meets a b x (suc k) ≡ true → IsNeeded s n loc y k
  child-wanted x k y st side met = inr (record { place = s.position x (suc k); start = x; parent = st; past = grind (arith, nat_tests); side = side })

  leaf-wanted : (x : ℕ) → IsNeeded s n loc x 0 → (m : Bool) → AreWanted (cond m [] ((x, 0) ∷ []))
  leaf-wanted x need true = tt
  leaf-wanted x need false = (need, tt)

  node-wanted : (x k : ℕ) → IsNeeded s n loc x (suc k) → (m : Bool) → meets a b x (suc k) ≡ m
      → (meets a b x (suc k) ≡ true → AreWanted (cover_in (meets a b) x k)) → (meets a b x (suc k) ≡ true → AreWanted (cover_in (meets a b) (x + 2 ^ k) k))
      → AreWanted (cond m (cover_in (meets a b) x k ++ cover_in (meets a b) (x + 2 ^ k) k) ((x, suc k) ∷ []))
  node-wanted x k need true e l r = all-append IsWanted (cover_in (meets a b) x k) (cover_in (meets a b) (x + 2 ^ k) k) (l e) (r e)
  node-wanted x k need false e l r = (need, tt)

  inside-wanted : (x k : ℕ) → Stands (made s n) (s.position x k) x k → IsNeeded s n loc x k → AreWanted (cover_in (meets a b) x k)
  unfolding cover_in
  inside-wanted x zero st need = leaf-wanted x need (meets a b x 0)
  inside-wanted x (suc k) st need =
      let c = (w.well_made n).behind (s.position x (suc k)) x (suc k) st in
      node-wanted x k need (meets a b x (suc k)) refl (λ e. inside-wanted x k c.0 (child-wanted x k x st (inl refl) e)) (λ e. inside-wanted (x + 2 ^ k) k c.1 (child-wanted x k (x + 2 ^ k) st (inr refl) e))

  over-wanted : (ps : List (ℕ × ℕ)) → AllByRecursion IsFound ps → AreWanted (cover_over (meets a b) ps)
  over-wanted [] f = tt
  over-wanted (p ∷ ps) f = all-append IsWanted (cover_in (meets a b) p.0 p.1) (cover_over (meets a b) ps) (inside-wanted p.0 p.1 f.0.0 f.0.1) (over-wanted ps f.1)

  peaks-found : (e : ℕ) (hs : List ℕ) → PeaksStand s (made s n) e hs → ((x h : ℕ) → PeakIn e hs x h → IsNeeded s n loc x h) → AllByRecursion IsFound (peaks_down e hs)
  peaks-found e [] p up = tt
  peaks-found e (k ∷ ks) p up = ((p.1, up (e - 2 ^ k) k (inl (refl, refl))), peaks-found (e - 2 ^ k) ks p.2 (λ x h q. up x h (inr q)))

  pub cover-needed : All (λ p. IsNeeded s n loc p.0 p.1) (cover s (meets a b) n)
  cover-needed =
      every IsWanted (cover s (meets a b) n)
      (over-wanted (peaks s n) (all-reverse IsFound (peaks_down n (s.heights n)) (peaks-found n (s.heights n) (w.peaks n) (λ x h q. inl q))))
