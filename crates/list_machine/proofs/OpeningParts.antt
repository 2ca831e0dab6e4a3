-- What is opened of a list of which a log has the first operations.
use Rattle.std.proofs.Common.{◌≡◌, ℕ, zero, suc, ◌+◌, ◌<◌, ◌≤◌, Bool, true, false, cond, ◌&&◌, List, [], ◌∷◌, length, map, take, drop, Option, Some, None, refl, sym, ◌∙◌, ap, arith}
use Rattle.std.specs.Prelude.{nat_lt, is_some, unwrap_or}
use Rattle.std.proofs.lemmas.List.{length-take, take-map, drop-take}
use Rattle.volume_base.specs.Bounds.{IsRunOf, IsPartOf}
use Rattle.volume_base.specs.Log.{Log, end_of}
use Rattle.log_model.specs.Good.{EndsWithCommit, FloorFits, FloorsRise}
use Rattle.log_model.specs.Meaning.{Meaning}
use Rattle.log_model.specs.Opening.{commit_from, last_commit}
use Rattle.log_model.specs.Operations.{floor_of}
use Rattle.log_model.proofs.OpeningLemmas.{commit_below, commit_past}
use Rattle.log_model.proofs.SizeLemmas.{either, lt_is}

-- ---- a log with a part of a list has a run of the list's front up to its end

pub part_run : {A : Type 0} (f : A → List ℕ) (xs : List A) (greatest least : ℕ) (log : Log)
    → IsPartOf (map f xs) greatest least log → IsRunOf (map f (take (end_of log) xs)) log
part_run f xs greatest least log part =
    let here : map f (take (end_of log) xs) ≡ take (end_of log) (map f xs) = sym (take-map f (end_of log) xs) in
    record {
      items = part.items ∙ sym (drop-take log.start (length log.items) (map f xs)) ∙ ap (drop log.start) (sym here);
      within = (let count = ap length here in omega (arith, count, length-take (end_of log) (map f xs), part.within));
    }

-- ---- the last commit within a bound

first_so : (x y : Bool) → (x && y) ≡ true → x ≡ true
first_so true y e = refl
first_so false y e = absurd cc

module _ {Op V : Type 0} (m : Meaning Op V) where
  -- past the bound none is found
  none_past : (most i found : ℕ) (ops : List Op) → most ≤ i → commit_from m most i found ops ≡ found
  none_past most i found [] le = refl
  none_past most i found (op ∷ ops) le =
      none_past most (i + 1) (cond (nat_lt i most && is_some (m.floor op)) (i + 1) found) ops (omega (arith, le))
      ∙ either (λ (n : ℕ). n ≡ found) (nat_lt i most && is_some (m.floor op)) (i + 1) found
      (λ e. absurd (let lt = lt_is i most (first_so (nat_lt i most) (is_some (m.floor op)) e) in omega (arith, lt, le)))
      (λ e. refl)

  commit_taken : (most i found k : ℕ) (ops : List Op) → most ≤ i + k
      → commit_from m most i found (take k ops) ≡ commit_from m most i found ops
  commit_taken most i found zero ops le = sym (none_past most i found ops (omega (arith, le)))
  commit_taken most i found (suc k) [] le = refl
  commit_taken most i found (suc k) (op ∷ ops) le =
      commit_taken most (i + 1) (cond (nat_lt i most && is_some (m.floor op)) (i + 1) found) k ops (omega (arith, le))

  -- it is found in a front that reaches the bound
  pub last_taken : (most k : ℕ) (ops : List Op) → most ≤ k → last_commit m most (take k ops) ≡ last_commit m most ops
  last_taken most k ops le = commit_taken most 0 0 k ops (omega (arith, le))

  -- where a commit ends the bound, it is that one
  pub last_here : (n : ℕ) (ops : List Op) → 1 ≤ n → n ≤ length ops → EndsWithCommit m (take n ops)
      → last_commit m n ops ≡ n
  last_here n ops some le ends =
      let low = commit_past m n 0 0 ops n some le (omega arith) ends in
      let high = commit_below m n 0 0 ops (omega arith) in
      omega (arith, low, high)

  -- ---- the floor of a list lies before its end

  fits_below : (low i : ℕ) (floor : Option ℕ) → FloorFits low i floor → unwrap_or floor 0 < i + 1
  fits_below low i None fits = omega arith
  fits_below low i (Some floor) fits = (let le = fits.1 in omega (arith, le))

  floor_from_below : (low i : ℕ) (ops : List Op) → 0 < length ops → FloorsRise m low i ops
      → floor_of m ops < i + length ops
  floor_from_below low i [] some rise = absurd (omega (arith, some))
  floor_from_below low i (op ∷ []) some rise = (let lt = fits_below low i (m.floor op) rise.0 in omega (arith, lt))
  floor_from_below low i (op ∷ next ∷ ops) some rise =
      let later = floor_from_below (unwrap_or (m.floor op) low) (i + 1) (next ∷ ops) (omega arith) rise.1 in
      omega (arith, later)

  pub floor_below : (ops : List Op) → 0 < length ops → FloorsRise m 0 0 ops → floor_of m ops < length ops
  floor_below ops some rise = (let lt = floor_from_below 0 0 ops some rise in omega (arith, lt))
