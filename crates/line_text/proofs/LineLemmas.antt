-- Where lines and words end.
use Rattle.std.proofs.Common.{◌≡◌, ℕ, suc, ◌+◌, ◌-◌, ◌<◌, ◌≤◌, inl, inr, Bool, true, false, cond, eqb, ltb, List, [], ◌∷◌, length, take, drop, Option, Some, None, refl, ◌∙◌, ap, arith, add-one, Bor}
use Rattle.std.specs.List.{position_or_len, position, onto_first}
use Rattle.std.proofs.lemmas.Bool.{cases_lt, lt-ltb, le-ltb}
use Rattle.std.proofs.lemmas.Bool.Decides.{eqb_tells}
use Rattle.std.proofs.lemmas.List.{take_rest}
use Rattle.std.proofs.lemmas.List.Splits.{slice_split_first}
use Rattle.std.specs.Prelude.{IsTrue, is_some, not}
use Rattle.std.specs.Option.{option_copied}
use Rattle.line_text.specs.Lines.{lines_of, words_of, words_left}

suc_is : (n : ℕ) → 1 + n ≡ suc n
suc_is n = omega arith

place_found : (p n i : ℕ) → Some i ≡ cond (ltb p n) (Some p) None → (p < n) × (i ≡ p)
place_found p n i e = elim (cases_lt p n) [
  | inl lt ↦ let t : ltb p n ≡ true = lt-ltb _ _ lt in let q : Some i ≡ Some p = rw t at e in (lt, (cc))
  | inr le ↦ let t : ltb p n ≡ false = le-ltb _ _ le in let q : Some i ≡ None = rw t at e in absurd (cc)
]

place_missed : (p n : ℕ) → None ≡ cond (ltb p n) (Some p) None → n ≤ p
place_missed p n e = elim (cases_lt p n) [
  | inl lt ↦ let t : ltb p n ≡ true = lt-ltb _ _ lt in let q : None ≡ Some p = rw t at e in absurd (cc)
  | inr le ↦ le
]

-- the first line, where it has its end
ended : (xs : List ℕ) → position_or_len (λ b. eqb b 10) xs < length xs → lines_of xs ≡ take (position_or_len (λ b. eqb b 10) xs) xs ∷ lines_of (drop (position_or_len (λ b. eqb b 10) xs + 1) xs)
ended [] lt = absurd (omega arith)
ended (b ∷ xs) lt = elim (eqb_tells b 10) [
  | inl t ↦ rw t.0 refl
  | inr t ↦
      let more : position_or_len (λ b. eqb b 10) xs < length xs = (let h = rw t.0 at lt in omega arith) in
      let next = suc_is (position_or_len (λ b. eqb b 10) xs) in
      rw (t.0, next, add-one) (ap (onto_first b) (ended xs more) ∙ rw add-one refl)
]

-- the last line, which lacks its end
open_ended : (xs : List ℕ) → length xs ≤ position_or_len (λ b. eqb b 10) xs → 0 < length xs → lines_of xs ≡ xs ∷ []
open_ended [] le lt = absurd (omega arith)
open_ended (b ∷ []) le lt = elim (eqb_tells b 10) [
  | inl t ↦ let h = rw t.0 at le in absurd (omega arith)
  | inr t ↦ rw t.0 refl
]
open_ended (b ∷ c ∷ xs) le lt = elim (eqb_tells b 10) [
  | inl t ↦ let h = rw t.0 at le in absurd (omega arith)
  | inr t ↦
      let more : length (c ∷ xs) ≤ position_or_len (λ b. eqb b 10) (c ∷ xs) = (let h = rw t.0 at le in omega arith) in
      rw t.0 (ap (onto_first b) (open_ended (c ∷ xs) more (omega arith)))
]

pub line_found : (xs : List ℕ) (i : ℕ) → Some i ≡ position (λ b. eqb b 10) xs → lines_of xs ≡ take i xs ∷ lines_of (take (length xs - (i + 1)) (drop (i + 1) xs))
line_found xs i e =
    let p = place_found _ _ i e in
    rw (p.1, take_rest xs) (ended xs p.0)

pub line_last : (xs : List ℕ) → None ≡ position (λ b. eqb b 10) xs → 0 < length xs → lines_of xs ≡ xs ∷ []
line_last xs e lt = open_ended xs (place_missed _ _ e) lt

pub word_found : (xs : List ℕ) (i : ℕ) → Some i ≡ position (λ b. eqb b 32) xs → words_of xs ≡ take i xs ∷ words_of (take (length xs - (i + 1)) (drop (i + 1) xs))
word_found xs i e =
    let p = place_found _ _ i e in
    rw (p.1, take_rest xs) (slice_split_first (λ b. eqb b 32) xs 0 p.0)

one_word : (xs : List ℕ) → length xs ≤ position_or_len (λ b. eqb b 32) xs → words_of xs ≡ xs ∷ []
one_word [] le = refl
one_word (b ∷ xs) le = elim (eqb_tells b 32) [
  | inl t ↦ let h = rw t.0 at le in absurd (omega arith)
  | inr t ↦
      let more : length xs ≤ position_or_len (λ b. eqb b 32) xs = (let h = rw t.0 at le in omega arith) in
      rw t.0 (ap (onto_first b) (one_word xs more))
]

pub word_last : (xs : List ℕ) → None ≡ position (λ b. eqb b 32) xs → words_of xs ≡ xs ∷ []
word_last xs e = one_word xs (place_missed _ _ e)

-- a byte makes at most one line more
one_longer : (t : Bool) (b : ℕ) (lines : List (List ℕ)) → length (cond t ([] ∷ lines) (onto_first b lines)) ≤ suc (length lines)
one_longer true b lines = omega arith
one_longer false b [] = omega arith
one_longer false b (line ∷ lines) = omega arith

pub few_lines : (xs : List ℕ) → length (lines_of xs) ≤ length xs
few_lines [] = omega arith
few_lines (b ∷ xs) = let here = one_longer (eqb b 10) b (lines_of xs) in let rest = few_lines xs in omega (arith, here, rest)

-- a line has a word
some_word : (xs : List ℕ) → words_of xs ≡ [] → ⊥
some_word [] e = cc
some_word (b ∷ xs) e = elim (eqb_tells b 32) [
  | inl t ↦ let h : [] ∷ words_of xs ≡ [] = rw t.0 at e in cc
  | inr t ↦ onto (words_of xs) (rw t.0 at e)
]
  where
    onto : (words : List (List ℕ)) → onto_first b words ≡ [] → ⊥
    onto [] h = cc
    onto (word ∷ words) h = cc

pub no_words : (r : Option (Bor (List ℕ))) (none : Bool) → is_some r ≡ not none → (IsTrue none → words_left (option_copied r) ≡ []) × (words_left (option_copied r) ≡ [] → IsTrue none)
no_words None true e = (λ h. refl, λ h. refl)
no_words None false e = absurd (let never : false ≡ true = e in cc)
no_words (Some xs) true e = absurd (let never : true ≡ false = e in cc)
no_words (Some xs) false e = (λ h. absurd (let never : false ≡ true = h in cc), λ h. absurd (some_word xs.now h))
