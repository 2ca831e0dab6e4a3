-- Floors of lists and of their fronts.
use Rattle.std.proofs.Common.{◌≡◌, ℕ, ◌+◌, ◌≤◌, List, [], ◌∷◌, ◌++◌, length, Option, Some, None, refl, subst, arith}
use Rattle.std.specs.Prelude.{unwrap_or}
use Rattle.log_model.specs.Meaning.{Meaning}
use Rattle.log_model.specs.Operations.{floor_of}
use Rattle.log_model.specs.Good.{EndsWithCommit, FloorFits, FloorsRise}
use Rattle.log_model.proofs.GoodLemmas.{floor_from, floor_from-ends}

module _ {Op V : Type 0} (m : Meaning Op V) (among : List Op → Type 0) (allowed : V → Type 0) (first : Op) where
  floors_stay : (low i : ℕ) (ops : List Op) → FloorsRise m low i ops → low ≤ floor_from m among allowed first low ops
  floors_stay low i [] h = omega arith
  floors_stay low i (op ∷ ops) h = let next = floors_stay (unwrap_or (m.floor op) low) (i + 1) ops h.1 in let here = fits (m.floor op) h.0 in omega (arith, next, here)
    where
      fits : (o : Option ℕ) → FloorFits low i o → low ≤ unwrap_or o low
      fits None h = omega arith
      fits (Some floor) h = h.0

  from_joined : (low : ℕ) (xs ys : List Op) → floor_from m among allowed first low (xs ++ ys) ≡ floor_from m among allowed first (floor_from m among allowed first low xs) ys
  from_joined low [] ys = refl
  from_joined low (x ∷ xs) ys = from_joined (unwrap_or (m.floor x) low) xs ys

  rise_later : (low i : ℕ) (xs ys : List Op) → FloorsRise m low i (xs ++ ys) → FloorsRise m (floor_from m among allowed first low xs) (i + length xs) ys
  rise_later low i [] ys h = let e : i ≡ i + 0 = omega arith in subst (λ n. FloorsRise m low n ys) e h
  rise_later low i (x ∷ xs) ys h =
      let e : i + 1 + length xs ≡ i + length (x ∷ xs) = omega arith in
      subst (λ n. FloorsRise m (floor_from m among allowed first (unwrap_or (m.floor x) low) xs) n ys) e (rise_later (unwrap_or (m.floor x) low) (i + 1) xs ys h.1)

  -- the floor of a front that ends with a commit is at most that of the whole
  pub floor_later : (xs ys : List Op) → EndsWithCommit m xs → EndsWithCommit m (xs ++ ys) → FloorsRise m 0 0 (xs ++ ys) → floor_of m xs ≤ floor_of m (xs ++ ys)
  floor_later xs ys a b rise =
      let e : floor_from m among allowed first 0 xs ≡ floor_of m xs = floor_from-ends m among allowed first 0 xs a in
      let f : floor_from m among allowed first 0 (xs ++ ys) ≡ floor_of m (xs ++ ys) = floor_from-ends m among allowed first 0 (xs ++ ys) b in
      let j = from_joined 0 xs ys in
      let stay = floors_stay (floor_from m among allowed first 0 xs) (0 + length xs) ys (rise_later 0 0 xs ys rise) in
      omega (arith, e, f, j, stay)

  -- a floor is below the length of its list
  floor_below_length : (low i : ℕ) (ops : List Op) → FloorsRise m low i ops → low ≤ i → floor_from m among allowed first low ops ≤ i + length ops
  floor_below_length low i [] h le = omega (arith, le)
  floor_below_length low i (op ∷ ops) h le = let more = floor_below_length (unwrap_or (m.floor op) low) (i + 1) ops h.1 (fits (m.floor op) h.0) in omega (arith, more)
    where
      fits : (o : Option ℕ) → FloorFits low i o → unwrap_or o low ≤ i + 1
      fits None h = omega (arith, le)
      fits (Some floor) h = omega (arith, h.1)

  pub floor_within : (ops : List Op) → EndsWithCommit m ops → FloorsRise m 0 0 ops → floor_of m ops ≤ length ops
  floor_within ops a rise = let e : floor_from m among allowed first 0 ops ≡ floor_of m ops = floor_from-ends m among allowed first 0 ops a in let le = floor_below_length 0 0 ops rise (omega arith) in omega (arith, e, le)
