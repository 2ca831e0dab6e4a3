-- Words that are numbers, read one after another.
use Rattle.std.proofs.Common.{◌≡◌, ℕ, List, [], ◌∷◌, ◌++◌, refl, sym, ◌∙◌, subst, append_assoc}
use Rattle.std.proofs.lemmas.List.{append-nil}
use Rattle.line_text.specs.Said.{IsNumberWord}
use Rattle.command_text.specs.Grammar.{AreNumberWords}

-- of these words, all but those left are these numbers
pub record AreReadSoFar (words : List (List ℕ)) (numbers : List ℕ) (left : List (List ℕ)) : Type 0 where
  pub before : List (List ℕ)
  pub parts : words ≡ before ++ left
  pub are : AreNumberWords before numbers

pub none_read : (words : List (List ℕ)) → AreReadSoFar words [] words
none_read words = record { before = []; parts = refl; are = tt }

are_more : (before : List (List ℕ)) (numbers : List ℕ) (word : List ℕ) (n : ℕ) → AreNumberWords before numbers → IsNumberWord word n → AreNumberWords (before ++ (word ∷ [])) (numbers ++ (n ∷ []))
are_more [] [] word n are is = (is, tt)
are_more [] (m ∷ numbers) word n are is = absurd are
are_more (w ∷ before) [] word n are is = absurd are
are_more (w ∷ before) (m ∷ numbers) word n are is = (are.0, are_more before numbers word n are.1 is)

pub one_more_read : (words : List (List ℕ)) (numbers more : List ℕ) (word : List ℕ) (n : ℕ) (left : List (List ℕ)) → AreReadSoFar words numbers (word ∷ left) → IsNumberWord word n
    → more ≡ numbers ++ (n ∷ []) → AreReadSoFar words more left
one_more_read words numbers more word n left so_far is e = record {
  before = so_far.before ++ (word ∷ []);
  parts = so_far.parts ∙ sym (append_assoc so_far.before (word ∷ []) left);
  are = subst (AreNumberWords (so_far.before ++ (word ∷ []))) (sym e) (are_more so_far.before numbers word n so_far.are is);
}

pub all_read : (words : List (List ℕ)) (numbers : List ℕ) → AreReadSoFar words numbers [] → AreNumberWords words numbers
all_read words numbers so_far =
    let P : List (List ℕ) → Type 0 = λ ws. AreNumberWords ws numbers in
    subst P (sym (so_far.parts ∙ append-nil so_far.before)) so_far.are

-- words with one among them that is no number are no numbers
one_is_none : (before : List (List ℕ)) (word : List ℕ) (left : List (List ℕ)) (numbers : List ℕ) → ((n : ℕ) → IsNumberWord word n → ⊥) → AreNumberWords (before ++ (word ∷ left)) numbers → ⊥
one_is_none [] word left [] none are = are
one_is_none [] word left (n ∷ numbers) none are = none n are.0
one_is_none (w ∷ before) word left [] none are = are
one_is_none (w ∷ before) word left (n ∷ numbers) none are = one_is_none before word left numbers none are.1

pub not_read : (words : List (List ℕ)) (so : List ℕ) (word : List ℕ) (left : List (List ℕ)) → AreReadSoFar words so (word ∷ left) → ((n : ℕ) → IsNumberWord word n → ⊥)
    → (numbers : List ℕ) → AreNumberWords words numbers → ⊥
not_read words so word left so_far none numbers are =
    let P : List (List ℕ) → Type 0 = λ ws. AreNumberWords ws numbers in
    one_is_none so_far.before word left numbers none (subst P so_far.parts are)
