-- Which words are bytes in hexadecimal.
use Rattle.std.proofs.Common.{◌≡◌, ◌≢◌, ℕ, ◌+◌, ◌*◌, ◌/◌, ◌%◌, ◌<◌, Bool, true, false, cond, List, [], ◌∷◌, length, Option, Some, None, Result, Ok, Err, refl, sym, ◌∙◌, ap, arith, eqb}
use Rattle.std.specs.Prelude.{codes}
use Rattle.std.proofs.lemmas.Bool.{ne_eqb}
use Rattle.hex.specs.Hex.{hex_digit_value, digit_or_error, decode_pairs, decode_of, ◌>>=◌}
use Rattle.hex.specs.declared.error.FromHexError.{FromHexError}
use Rattle.hex.specs.declared.error.FromHexError.TheVariants.{OddLength}
use Rattle.line_text.specs.Said.{IsHex, IsBytesWord}

-- a digit and what is read of it
digit_small : (c v : ℕ) → hex_digit_value c ≡ Some v → v < 16
digit_small c v e = grind arith

-- what a pair and the rest are, where both are read
pair_parts : (h l : Option ℕ) (high low i : ℕ) (r : Result (List ℕ) FromHexError) (bytes : List ℕ)
    → ((digit_or_error high i h >>= λ x. digit_or_error low (i + 1) l >>= λ y. Ok (x * 16 + y)) >>= λ b. r >>= λ bs. Ok (b ∷ bs)) ≡ Ok bytes
    → (x : ℕ) × (y : ℕ) × (bs : List ℕ) × (h ≡ Some x) × (l ≡ Some y) × (r ≡ Ok bs) × (bytes ≡ (x * 16 + y) ∷ bs)
pair_parts (Some x) (Some y) high low i (Ok bs) bytes e = (x, y, bs, refl, refl, refl, cc)
pair_parts (Some x) (Some y) high low i (Err f) bytes e = absurd (cc)
pair_parts (Some x) None high low i r bytes e = absurd (cc)
pair_parts None l high low i r bytes e = absurd (cc)

pub hex_read : (i : ℕ) (text bytes : List ℕ) → decode_pairs i text ≡ Ok bytes → IsHex text bytes
unfolding decode_pairs
hex_read i [] [] e = tt
hex_read i [] (b ∷ bytes) e = absurd (let never : Ok [] ≡ Ok (b ∷ bytes) = e in cc)
hex_read i (digit ∷ []) bytes e = absurd (let never : Err OddLength ≡ Ok bytes = e in cc)
hex_read i (high ∷ low ∷ text) bytes e =
    let p = pair_parts (hex_digit_value high) (hex_digit_value low) high low i (decode_pairs (i + 2) text) bytes e in
    let rest = hex_read (i + 2) text p.2 p.5 in
    let small = digit_small low p.1 p.4 in
    let upper : p.0 ≡ (p.0 * 16 + p.1) / 16 = omega arith in
    let lower : p.1 ≡ (p.0 * 16 + p.1) % 16 = omega arith in
    rw p.6 (p.3 ∙ ap Some upper, p.4 ∙ ap Some lower, rest)

read_again : (h l : Option ℕ) (high low i b : ℕ) (r : Result (List ℕ) FromHexError) (bytes : List ℕ)
    → h ≡ Some (b / 16) → l ≡ Some (b % 16) → r ≡ Ok bytes
    → ((digit_or_error high i h >>= λ x. digit_or_error low (i + 1) l >>= λ y. Ok (x * 16 + y)) >>= λ b. r >>= λ bs. Ok (b ∷ bs)) ≡ Ok (b ∷ bytes)
read_again h l high low i b r bytes eh el er =
    let whole : b / 16 * 16 + b % 16 ≡ b = omega arith in
    rw (eh, el, er) (ap (λ x. Ok (x ∷ bytes)) whole)

pub hex_again : (i : ℕ) (text bytes : List ℕ) → IsHex text bytes → decode_pairs i text ≡ Ok bytes
unfolding decode_pairs
hex_again i [] [] h = refl
hex_again i [] (b ∷ bytes) h = absurd h
hex_again i (digit ∷ []) bytes h = absurd h
hex_again i (high ∷ low ∷ text) [] h = absurd h
hex_again i (high ∷ low ∷ text) (b ∷ bytes) h =
    read_again (hex_digit_value high) (hex_digit_value low) high low i b (decode_pairs (i + 2) text) bytes h.0 h.1 (hex_again (i + 2) text bytes h.2)

pub hex_even : (text bytes : List ℕ) → IsHex text bytes → length text % 2 ≡ 0
hex_even [] [] h = refl
hex_even [] (b ∷ bytes) h = absurd h
hex_even (digit ∷ []) bytes h = absurd h
hex_even (high ∷ low ∷ text) [] h = absurd h
hex_even (high ∷ low ∷ text) (b ∷ bytes) h = let e = hex_even text bytes h.2 in omega arith

-- what is in the grammar is decoded
pub decodes : (text bytes : List ℕ) → IsHex text bytes → decode_of text ≡ Ok bytes
decodes text bytes h =
    let even : eqb (length text % 2) 1 ≡ false = ne_eqb _ 1 (λ e. omega (arith, hex_even text bytes h, e)) in
    rw even (hex_again 0 text bytes h)

-- what is decoded is in the grammar
pub decoded : (text bytes : List ℕ) → decode_of text ≡ Ok bytes → IsHex text bytes
decoded text bytes e = go (eqb (length text % 2) 1) e
  where
    go : (odd : Bool) → cond odd (Err OddLength) (decode_pairs 0 text) ≡ Ok bytes → IsHex text bytes
    go true h = absurd (cc)
    go false h = hex_read 0 text bytes h

-- a word that isn't empty and isn't a full stop
pub word_read : (text bytes : List ℕ) → length text ≢ 0 → decode_of text ≡ Ok bytes → IsBytesWord text bytes
word_read [] bytes some e = absurd (some refl)
word_read (digit ∷ []) [] some e = absurd (decoded (digit ∷ []) [] e)
word_read (high ∷ low ∷ text) [] some e = absurd (decoded (high ∷ low ∷ text) [] e)
word_read text (b ∷ bytes) some e = decoded text (b ∷ bytes) e

pub word_unread : (text : List ℕ) (e : FromHexError) → text ≢ codes "." → decode_of text ≡ Err e → (value : List ℕ) → IsBytesWord text value → ⊥
word_unread text e other failed [] h = other h
word_unread text e other failed (b ∷ bytes) h = let never : Ok (b ∷ bytes) ≡ Err e = sym (decodes text (b ∷ bytes) h) ∙ failed in cc

pub word_empty : (text : List ℕ) → length text ≡ 0 → (value : List ℕ) → IsBytesWord text value → ⊥
word_empty [] e [] h = cc
word_empty [] e (b ∷ bytes) h = h
word_empty (d ∷ text) e value h = absurd (omega arith)
