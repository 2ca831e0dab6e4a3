-- Bytes taken and added in several pieces.
use Rattle.std.proofs.Common.{◌≡◌, ℕ, zero, suc, ◌+◌, ◌≤◌, List, [], ◌∷◌, ◌++◌, ◌-◌, length, take, drop, Some, None, Option, refl, sym, ◌∙◌, ap, arith, append_assoc, length-drop}
use Rattle.std.proofs.Math.Seq.{take-length}
use Rattle.std.proofs.lemmas.List.{take-append-drop, drop-drop}
use Rattle.stream_base.specs.Streams.{ReadsFront}
use Rattle.std.specs.Io.KnownBytes.{Keeps, Appends, Consumes}

pub Appends-then_keeps : (a b c : Option (List ℕ)) (xs : List ℕ) → Appends a b xs → Keeps b c → Appends a c xs
Appends-then_keeps None b c xs p q = tt
Appends-then_keeps (Some xs0) None c xs p q = absurd p
Appends-then_keeps (Some xs0) (Some bs) None xs p q = absurd q
Appends-then_keeps (Some xs0) (Some bs) (Some cs) xs p q = q ∙ p

pub take-then : (n m : ℕ) (xs : List ℕ) → take (n + m) xs ≡ take n xs ++ take m (drop n xs)
take-then zero m xs = let e : 0 + m ≡ m = omega arith in rw e refl
take-then (suc n) m [] = let e : suc n + m ≡ suc (n + m) = omega arith in rw e (sym (nothing m))
  where
    nothing : (k : ℕ) → take {A = ℕ} k [] ≡ []
    nothing zero = refl
    nothing (suc k) = refl
take-then (suc n) m (x ∷ xs) = let e : suc n + m ≡ suc (n + m) = omega arith in rw e (ap (λ ys. x ∷ ys) (take-then n m xs))

-- the value of `&xs[n..]`
pub take-rest : (n : ℕ) (xs : List ℕ) → take (length xs - n) (drop n xs) ≡ drop n xs
take-rest n xs = ap (λ k. take k (drop n xs)) (sym (length-drop n xs)) ∙ take-length (drop n xs)

-- what a reader took, and then more
pub front_read : (a b c : Option (List ℕ)) (xs ys : List ℕ) → Consumes a b xs → Consumes b c ys → ReadsFront a c
front_read None b c xs ys p q = record { bytes = []; read = tt }
front_read (Some zs) None c xs ys p q = absurd p
front_read (Some zs) (Some bs) None xs ys p q = absurd q
front_read (Some zs) (Some bs) (Some cs) xs ys p q = record { bytes = xs ++ ys; read = p ∙ ap (λ r. xs ++ r) q ∙ sym (append_assoc xs ys cs) }

-- what is left from a place on, and what was taken of it
pub left_taken : (at count : ℕ) (bytes taken : List ℕ) → taken ≡ take count (drop at bytes) → drop at bytes ≡ taken ++ drop (at + count) bytes
left_taken at count bytes taken e = sym (take-append-drop count (drop at bytes)) ∙ ap (λ t. t ++ drop count (drop at bytes)) (sym e) ∙ ap (λ t. taken ++ t) (drop-drop count at bytes)

-- from the end on nothing is left
pub drop_past : (n : ℕ) (xs : List ℕ) → length xs ≤ n → drop n xs ≡ []
drop_past zero [] le = refl
drop_past zero (x ∷ xs) le = absurd (omega (arith, le))
drop_past (suc n) [] le = refl
drop_past (suc n) (x ∷ xs) le = drop_past n xs (omega arith)
