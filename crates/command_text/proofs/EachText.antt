-- The texts of the members of a list, put one after another.
use Rattle.std.proofs.Common.{◌≡◌, ℕ, suc, ◌+◌, ◌-◌, ◌<◌, ◌≤◌, List, [], ◌∷◌, ◌++◌, length, take, drop, get_or, Result, Option, Some, None, refl, sym, ◌∙◌, ap, subst, arith, drop-cons}
use Rattle.std.specs.Prelude.{codes}
use Rattle.std.specs.List.{flat_map}
use Rattle.std.proofs.lemmas.List.{take-append-drop, take_all, take_more, append-nil}
use Rattle.std.proofs.lemmas.List.Concat.{flat_map-append}
use Rattle.stream_base.specs.Writing.{WritesFront, text_then}
use Rattle.line_text.specs.Pending.{IsSent, Puts, puts_front_first, puts_front_then, sent_then}
use Rattle.command_text.specs.Text.{digest_text, listed}
use Rattle.line_text.specs.Text.{titled}
use Rattle.tree_shape.specs.declared.sha256.Sha256Digest.{Sha256Digest}

-- nothing was sent, and what waited waits
pub nothing_sent : (a : Option (List ℕ)) (p : List ℕ) → IsSent a p a p []
nothing_sent None p = record { sent = []; parts = append-nil p; wrote = tt }
nothing_sent (Some ws) p = record { sent = []; parts = append-nil p; wrote = sym (append-nil ws) }

-- the text of digests, by the first and the others
pub listed_digests : (xs : List Sha256Digest) (x : Sha256Digest) → 0 < length xs → text_then (titled (codes "") (get_or xs 0 x)) (flat_map (titled (codes ",")) (take (length xs - 1) (drop 1 xs))) ≡ listed digest_text xs
unfolding text_then
listed_digests [] x lt = absurd (omega (arith, lt))
listed_digests (y ∷ xs) x lt = let others : take (length (y ∷ xs) - 1) xs ≡ xs = take_all (length (y ∷ xs) - 1) xs (omega arith) in rw others refl

-- what puts a text puts another that is the same
pub puts_same : {T E : Type 0} (a : Option (List ℕ)) (p : List ℕ) (b : Option (List ℕ)) (q : List ℕ) (r : Result T E) (t u : List ℕ) → t ≡ u → Puts a p b q r t → Puts a p b q r u
puts_same a p b q r t u e puts = subst (Puts a p b q r) e puts

module _ {A : Type 0} (f : A → List ℕ) where
  -- the texts of all, parted at member i
  parted : (xs : List A) (i : ℕ) (x : A) → i < length xs → text_then (flat_map f (take i xs)) (text_then (f (get_or xs i x)) (flat_map f (drop (suc i) xs))) ≡ flat_map f xs
  unfolding text_then
  parted xs i x lt =
      ap (λ ds. flat_map f (take i xs) ++ flat_map f ds) (sym (drop-cons xs i x lt))
      ∙ sym (flat_map-append f (take i xs) (drop i xs)) ∙ ap (flat_map f) (take-append-drop i xs)

  -- a front of the texts of some is one of the texts of all
  pub each_front : (a : Option (List ℕ)) (p : List ℕ) (b : Option (List ℕ)) (q : List ℕ) (c : Option (List ℕ)) (xs : List A) (i : ℕ) (x : A) → i < length xs
      → IsSent a p b q (flat_map f (take i xs)) → WritesFront b c (q ++ f (get_or xs i x)) → WritesFront a c (p ++ flat_map f xs)
  each_front a p b q c xs i x lt sent front =
      let P : List ℕ → Type 0 = λ t. WritesFront a c (p ++ t) in
      subst P (parted xs i x lt)
      (puts_front_then a p b q c (flat_map f (take i xs)) (text_then (f (get_or xs i x)) (flat_map f (drop (suc i) xs))) sent
      (puts_front_first b c q (f (get_or xs i x)) (flat_map f (drop (suc i) xs)) front))

  pub each_more : (a : Option (List ℕ)) (p : List ℕ) (b : Option (List ℕ)) (q : List ℕ) (c : Option (List ℕ)) (s : List ℕ) (xs : List A) (i : ℕ) (x : A) → i < length xs
      → IsSent a p b q (flat_map f (take i xs)) → IsSent b q c s (f (get_or xs i x)) → IsSent a p c s (flat_map f (take (i + 1) xs))
  each_more a p b q c s xs i x lt sent next =
      let whole : flat_map f (take (i + 1) xs) ≡ flat_map f (take i xs) ++ f (get_or xs i x) = ap (flat_map f) (take_more xs i x lt) ∙ flat_map-append f (take i xs) (get_or xs i x ∷ []) ∙ ap (λ ts. flat_map f (take i xs) ++ ts) (append-nil (f (get_or xs i x))) in
      let P : List ℕ → Type 0 = λ t. IsSent a p c s t in
      subst P (sym whole) (sent_then a p b q c s (flat_map f (take i xs)) (f (get_or xs i x)) sent next)

  pub each_end : (a : Option (List ℕ)) (p : List ℕ) (b : Option (List ℕ)) (q : List ℕ) (xs : List A) (i : ℕ) → length xs ≤ i → IsSent a p b q (flat_map f (take i xs)) → IsSent a p b q (flat_map f xs)
  each_end a p b q xs i le sent = let P : List A → Type 0 = λ ds. IsSent a p b q (flat_map f ds) in subst P (take_all i xs le) sent
