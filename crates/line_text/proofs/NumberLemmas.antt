-- Which words are numbers.
use Rattle.std.proofs.Common.{◌≡◌, ◌≢◌, ℕ, zero, suc, List, [], ◌∷◌, length, get_or, Result, Ok, Err, sym, ◌∙◌, ap, subst, arith}
use Rattle.std.specs.Prelude.{decimal}
use Rattle.std.specs.Str.{IsUtf8}
use Rattle.std.specs.Str.Parse.{AllDigits, digits_value, ParsesUnsigned}
use Rattle.std.proofs.lemmas.Fmt.{decimal_nonempty, decimal_digit, first_decimal, decimal_is_IsNumeral, IsAscii-decimal, parse-decimal, decimal-digits_value}
use Rattle.std.proofs.lemmas.Str.{IsUtf8-from_ascii}
use Rattle.std.proofs.lemmas.Str.Parse.{IsNumeralModel, numerals_by_value, tells_digits, digit_at, parse_plain}
use Rattle.line_text.specs.Said.{IsNumberWord}

pub number_empty : (xs : List ℕ) → length xs ≡ 0 → (n : ℕ) → IsNumberWord xs n → ⊥
number_empty xs e n w =
    let some = decimal_nonempty n w.fits in
    let same = ap length w.digits in
    omega arith

-- no sign
pub number_plus : (xs : List ℕ) → get_or xs 0 0 ≡ 43 → (n : ℕ) → IsNumberWord xs n → ⊥
number_plus xs e n w =
    let some = decimal_nonempty n w.fits in
    let digit = digit_at (decimal n) 0 (decimal_is_IsNumeral n w.fits).0.1 some in
    let same = ap (λ ds. get_or ds 0 0) w.digits in
    omega (arith, digit)

pub number_zero : (xs : List ℕ) → get_or xs 0 0 ≡ 48 → length xs ≡ 1 → IsNumberWord xs 0
number_zero [] e l = absurd (omega arith)
number_zero (x ∷ []) e l = record { digits = ap (λ y. y ∷ []) e ∙ sym (decimal_digit 0 (omega arith)); fits = omega arith }
number_zero (x ∷ y ∷ xs) e l = absurd (omega arith)

-- no zero in front of a digit
pub number_zeros : (xs : List ℕ) → get_or xs 0 0 ≡ 48 → length xs ≢ 1 → (n : ℕ) → IsNumberWord xs n → ⊥
number_zeros xs e l zero w = l (ap length w.digits ∙ ap length (decimal_digit 0 (omega arith)))
number_zeros xs e l (suc n) w =
    let first = first_decimal (suc n) (omega arith) w.fits in
    let same = ap (λ ds. get_or ds 0 0) w.digits in
    omega arith

pub number_no_text : (xs : List ℕ) → (IsUtf8 xs → ⊥) → (n : ℕ) → IsNumberWord xs n → ⊥
number_no_text xs h n w = h (rw w.digits (IsUtf8-from_ascii (decimal n) (IsAscii-decimal n w.fits)))

pub number_unread : {E : Type 0} (xs : List ℕ) (r : Result ℕ E) (e : E) → ParsesUnsigned 64 10 xs r → r ≡ Err e → (n : ℕ) → IsNumberWord xs n → ⊥
number_unread xs r e parsed failed n w =
    let read = parse-decimal 64 n xs r w.fits w.fits w.digits parsed in
    let never : Ok n ≡ Err e = sym read ∙ failed in
    cc

own : IsNumeralModel (AllDigits 10) (digits_value 10)
own = numerals_by_value (AllDigits 10) tells_digits

pub number_read : {E : Type 0} (xs : List ℕ) (r : Result ℕ E) (n : ℕ) → ParsesUnsigned 64 10 xs r → r ≡ Ok n → get_or xs 0 0 ≢ 43 → get_or xs 0 0 ≢ 48 → IsNumberWord xs n
number_read {E} xs r n parsed read no_plus no_zero =
    let P : Result ℕ E → Type 0 = λ s. ParsesUnsigned 64 10 xs s in
    let ok : Result ℕ E = Ok n in
    let h = parse_plain own 64 xs ok (subst P read parsed) no_plus in
    let whole = decimal-digits_value own xs h.0.0 h.0.1 (λ e. absurd (no_zero e)) h.0.2 in
    let same : n ≡ digits_value 10 xs = h.1 in
    record { digits = sym whole ∙ ap decimal (sym same); fits = omega (arith, h.0.2) }
