-- Bytes in hexadecimal, put one after another.
use Rattle.std.proofs.Common.{◌≡◌, ℕ, suc, ◌+◌, ◌<◌, List, [], ◌∷◌, ◌++◌, length, take, drop, get_or, Option, Some, None, refl, sym, ◌∙◌, ap, subst, drop-cons}
use Rattle.std.proofs.lemmas.List.{append-nil, take_more, take-append-drop}
use Rattle.hex.specs.Hex.{encode_with, encode_lower}
use Rattle.stream_base.specs.Writing.{WritesFront, text_then}
use Rattle.line_text.specs.Pending.{IsSent, sent_then, puts_front_first, puts_front_then}

lower_append : (xs ys : List ℕ) → encode_lower (xs ++ ys) ≡ encode_lower xs ++ encode_lower ys
unfolding encode_with
lower_append [] ys = refl
lower_append (x ∷ xs) ys = rw (lower_append xs ys) refl

hex_more : (bytes : List ℕ) (i d : ℕ) → i < length bytes → encode_lower (take (i + 1) bytes) ≡ encode_lower (take i bytes) ++ encode_lower (get_or bytes i d ∷ [])
hex_more bytes i d lt = ap encode_lower (take_more bytes i d lt) ∙ lower_append (take i bytes) (get_or bytes i d ∷ [])

-- the text of all bytes, parted at byte i
parted : (bytes : List ℕ) (i d : ℕ) → i < length bytes
    → text_then (encode_lower (take i bytes)) (text_then (encode_lower (get_or bytes i d ∷ [])) (encode_lower (drop (suc i) bytes))) ≡ encode_lower bytes
unfolding text_then
parted bytes i d lt =
    ap (λ t. encode_lower (take i bytes) ++ t) (sym (lower_append (get_or bytes i d ∷ []) (drop (suc i) bytes)))
    ∙ ap (λ bs. encode_lower (take i bytes) ++ encode_lower bs) (sym (drop-cons bytes i d lt))
    ∙ sym (lower_append (take i bytes) (drop i bytes)) ∙ ap encode_lower (take-append-drop i bytes)

-- a front of the text of some bytes is one of that of all
pub hex_front : (a : Option (List ℕ)) (p : List ℕ) (b : Option (List ℕ)) (q : List ℕ) (c : Option (List ℕ)) (bytes : List ℕ) (i d : ℕ) (pair : List ℕ) → i < length bytes → pair ≡ encode_lower (get_or bytes i d ∷ [])
    → IsSent a p b q (encode_lower (take i bytes)) → WritesFront b c (q ++ pair) → WritesFront a c (p ++ encode_lower bytes)
hex_front a p b q c bytes i d pair lt e sent front =
    let P : List ℕ → Type 0 = λ t. WritesFront a c (p ++ t) in
    let Q : List ℕ → Type 0 = λ t. WritesFront b c (q ++ t) in
    subst P (parted bytes i d lt)
    (puts_front_then a p b q c (encode_lower (take i bytes)) (text_then (encode_lower (get_or bytes i d ∷ [])) (encode_lower (drop (suc i) bytes))) sent
    (puts_front_first b c q (encode_lower (get_or bytes i d ∷ [])) (encode_lower (drop (suc i) bytes)) (subst Q e front)))

-- nothing was sent, and what waited waits
pub sent_nothing : (a : Option (List ℕ)) (p : List ℕ) → IsSent a p a p (encode_lower [])
unfolding encode_with
sent_nothing None p = record { sent = []; parts = append-nil p; wrote = tt }
sent_nothing (Some ws) p = record { sent = []; parts = append-nil p; wrote = sym (append-nil ws) }

pub hex_sent : (a : Option (List ℕ)) (p : List ℕ) (b : Option (List ℕ)) (q : List ℕ) (c : Option (List ℕ)) (s bytes : List ℕ) (i d : ℕ) (pair : List ℕ) → i < length bytes → pair ≡ encode_lower (get_or bytes i d ∷ [])
    → IsSent a p b q (encode_lower (take i bytes)) → IsSent b q c s pair → IsSent a p c s (encode_lower (take (i + 1) bytes))
hex_sent a p b q c s bytes i d pair lt e sent next =
    let P : List ℕ → Type 0 = λ t. IsSent a p c s t in
    subst P (ap (λ t. encode_lower (take i bytes) ++ t) e ∙ sym (hex_more bytes i d lt)) (sent_then a p b q c s (encode_lower (take i bytes)) pair sent next)
