-- The root of a tree over a list of leaf digests.
use Rattle.std.specs.Prelude.{ℕ, zero, suc, List, [], ◌∷◌, ◌++◌, length, map, take, drop}
use Rattle.tree_shape.specs.Hashing.{Hashing, fold_input, number}
use Rattle.tree_shape.specs.Shape.{Shape, peaks}
use Rattle.tree_shape.specs.declared.bagging.Bagging.{Bagging}
use Rattle.tree_shape.specs.declared.bagging.Bagging.TheVariants.{ForwardFold, BackwardFold}
use Rattle.tree_shape.specs.Slow.{node_of}

-- from the left: fold(fold(p, q), r)
abbrev pub fold_forward : {D : Type 0} → Hashing D → D → List D → D
fold_forward h p [] = p
fold_forward h p (q ∷ qs) = fold_forward h (h.digest (fold_input h p q)) qs

-- from the right: fold(p, fold(q, r))
abbrev pub fold_backward : {D : Type 0} → Hashing D → D → List D → D
fold_backward h p [] = p
fold_backward h p (q ∷ qs) = h.digest (fold_input h p (fold_backward h q qs))

abbrev pub bagged : {D : Type 0} → Hashing D → Bagging → D → List D → D
bagged h ForwardFold p ps = fold_forward h p ps
bagged h BackwardFold p ps = fold_backward h p ps

abbrev pub bagging_byte : Bagging → ℕ
bagging_byte ForwardFold = 0
bagging_byte BackwardFold = 1

-- the bytes of the peaks folded to one, the first k of them first, from the left; nothing where there are no peaks
abbrev pub folded_bytes : {D : Type 0} → Hashing D → Bagging → ℕ → List D → List ℕ
folded_bytes h b k [] = []
folded_bytes h b zero (p ∷ ps) = h.bytes (bagged h b p ps)
folded_bytes h b (suc k) (p ∷ ps) = h.bytes (bagged h b (fold_forward h p (take k ps)) (drop k ps))

abbrev pub root_input : ℕ → ℕ → Bagging → List ℕ → List ℕ
root_input n k b bytes = (((3 ∷ number n) ++ number k) ++ (bagging_byte b ∷ [])) ++ bytes

-- the root over these peaks of n leaves, the oldest first, of which the first k are inactive
abbrev pub root_over : {D : Type 0} → Hashing D → ℕ → List D → ℕ → Bagging → D
root_over h n ps k b = h.digest (root_input n k b (folded_bytes h b k ps))

-- the root of a list of leaf digests with k inactive peaks
abbrev pub root : {D : Type 0} → Shape → Hashing D → List D → ℕ → Bagging → D
root s h leaves k b = root_over h (length leaves) (map (node_of s h leaves) (peaks s (length leaves))) k b
