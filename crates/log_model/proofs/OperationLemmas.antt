-- Lists of operations, operation by operation.
use Rattle.std.proofs.Common.{◌≡◌, ℕ, suc, ◌+◌, ◌-◌, ◌^◌, ◌<◌, ◌≤◌, List, [], ◌∷◌, ◌++◌, length, get_or, refl, ap, arith}
use Rattle.std.specs.Prelude.{unwrap_or}
use Rattle.std.proofs.lemmas.List.Sums.{count_by-le-length}
use Rattle.tree_shape.specs.Hashing.{Hashing, leaf_input}
use Rattle.tree_shape.specs.Shape.{Shape, ends_by, peaks_down, inactive}
use Rattle.tree_shape.specs.Root.{root}
use Rattle.tree_shape.specs.declared.bagging.Bagging.TheVariants.{ForwardFold}
use Rattle.log_model.specs.Meaning.{Meaning}
use Rattle.log_model.specs.Operations.{floor_of, leaves_from, root_of}

-- the floor is that of the last operation
pub floor_of-last : {Op V : Type 0} (m : Meaning Op V) (ops : List Op) (d : Op) → 0 < length ops → floor_of m ops ≡ unwrap_or (m.floor (get_or ops (length ops - 1) d)) 0
floor_of-last m [] d lt = absurd (omega arith)
floor_of-last m (op ∷ []) d lt = refl
floor_of-last m (op ∷ next ∷ ops) d lt =
    let e : length (op ∷ next ∷ ops) - 1 ≡ suc (length (next ∷ ops) - 1) = omega arith in
    rw e (floor_of-last m (next ∷ ops) d (omega arith))

-- the floor of two lists joined is that of the second, unless it is empty
pub floor_of_append : {Op V : Type 0} (m : Meaning Op V) (xs ys : List Op) → 0 < length ys → floor_of m (xs ++ ys) ≡ floor_of m ys
floor_of_append m [] ys lt = refl
floor_of_append m (x ∷ []) [] lt = absurd (omega arith)
floor_of_append m (x ∷ []) (y ∷ ys) lt = refl
floor_of_append m (x ∷ next ∷ xs) ys lt = floor_of_append m (next ∷ xs) ys lt

-- the leaves of two lists joined
pub leaves_from-append : {D Op V : Type 0} (s : Shape) (h : Hashing D) (m : Meaning Op V) (i : ℕ) (xs ys : List Op)
    → leaves_from s h m i (xs ++ ys) ≡ leaves_from s h m i xs ++ leaves_from s h m (i + length xs) ys
leaves_from-append s h m i [] ys = let e : i + 0 ≡ i = omega arith in rw e refl
leaves_from-append s h m i (x ∷ xs) ys =
    let e : i + length (x ∷ xs) ≡ i + 1 + length xs = omega arith in
    rw e (ap (λ ds. h.digest (leaf_input (s.position i 0) (m.encoding x)) ∷ ds) (leaves_from-append s h m (i + 1) xs ys))

-- there are as many leaves as operations
pub length-leaves_from : {D Op V : Type 0} (s : Shape) (h : Hashing D) (m : Meaning Op V) (i : ℕ) (ops : List Op) → length (leaves_from s h m i ops) ≡ length ops
length-leaves_from s h m i [] = refl
length-leaves_from s h m i (op ∷ ops) = ap suc (length-leaves_from s h m (i + 1) ops)

-- there are no more inactive peaks than peaks
pub inactive-within : (s : Shape) (n floor : ℕ) → inactive s n floor ≤ length (s.heights n)
inactive-within s n floor =
    let few : inactive s n floor ≤ length (peaks_down n (s.heights n)) = count_by-le-length (ends_by floor) (peaks_down n (s.heights n)) in
    omega (arith, few, length-peaks_down n (s.heights n))
  where
    length-peaks_down : (e : ℕ) (hs : List ℕ) → length (peaks_down e hs) ≡ length hs
    length-peaks_down e [] = refl
    length-peaks_down e (k ∷ ks) = ap suc (length-peaks_down (e - 2 ^ k) ks)

-- the root by its parts
pub root_of-parts : {D Op V : Type 0} (s : Shape) (h : Hashing D) (m : Meaning Op V) (ops : List Op) (leaves : List D) (n floor k : ℕ)
    → leaves ≡ leaves_from s h m 0 ops → n ≡ length ops → floor ≡ floor_of m ops → k ≡ inactive s n floor → root s h leaves k ForwardFold ≡ root_of s h m ops
unfolding root_of
root_of-parts s h m ops leaves n floor k e f g i = rw (e, i, f, g) refl
