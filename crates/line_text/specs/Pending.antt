-- What is sent of a text that waits in a piece before it goes out.
use Rattle.std.specs.Prelude.{◌≡◌, ℕ, List, [], ◌++◌, Option, Result, MatchResult, IsErr}
use Rattle.std.proofs.Common.{sym, ◌∙◌, ap, subst, append_assoc}
use Rattle.std.proofs.lemmas.Result.{MatchResult-from_err, MatchResult-weaker}
use Rattle.std.proofs.lemmas.List.{append-nil}
use Rattle.std.specs.Io.KnownBytes.{Appends}
use Rattle.stream_base.specs.Writing.{Writes, WritesFront, Appends-then, front_then, front_first, text_then}

-- of the waiting bytes and the text behind them a front was sent, and the rest waits
pub record IsSent (old : Option (List ℕ)) (waiting : List ℕ) (new : Option (List ℕ)) (left : List ℕ) (text : List ℕ) : Type 0 where
  pub sent : List ℕ
  pub parts : waiting ++ text ≡ sent ++ left
  pub wrote : Appends old new sent

-- at Err a front of the waiting bytes and the text was written
abbrev pub Puts : {T E : Type 0} → Option (List ℕ) → List ℕ → Option (List ℕ) → List ℕ → Result T E → List ℕ → Type 0
Puts old waiting new left result text = MatchResult result (λ _. IsSent old waiting new left text) (λ _. WritesFront old new (waiting ++ text))

-- ---- laws, for callers to name in `using`

pub puts_err : {T E : Type 0} (a : Option (List ℕ)) (p : List ℕ) (b : Option (List ℕ)) (q : List ℕ) (r : Result T E) (t : List ℕ) → IsErr r → WritesFront a b (p ++ t) → Puts a p b q r t
puts_err a p b q r t e front = MatchResult-from_err r _ _ e (λ _. front)

pub puts_front_first : (a b : Option (List ℕ)) (p t u : List ℕ) → WritesFront a b (p ++ t) → WritesFront a b (p ++ text_then t u)
unfolding text_then
puts_front_first a b p t u front =
    let P : List ℕ → Type 0 = λ x. WritesFront a b x in
    subst P (append_assoc p t u) (front_first a b (p ++ t) u front)

-- the waiting bytes, and both texts
joined : (p t u sent q : List ℕ) → p ++ t ≡ sent ++ q → sent ++ (q ++ u) ≡ p ++ (t ++ u)
joined p t u sent q parts = sym (append_assoc sent q u) ∙ ap (λ x. x ++ u) (sym parts) ∙ append_assoc p t u

pub sent_then : (a : Option (List ℕ)) (p : List ℕ) (b : Option (List ℕ)) (q : List ℕ) (c : Option (List ℕ)) (s t u : List ℕ) → IsSent a p b q t → IsSent b q c s u → IsSent a p c s (t ++ u)
sent_then a p b q c s t u first rest = record {
  sent = first.sent ++ rest.sent;
  parts = sym (joined p t u first.sent q first.parts) ∙ ap (λ x. first.sent ++ x) rest.parts ∙ sym (append_assoc first.sent rest.sent s);
  wrote = Appends-then a b c first.sent rest.sent first.wrote rest.wrote;
}

pub puts_front_then : (a : Option (List ℕ)) (p : List ℕ) (b : Option (List ℕ)) (q : List ℕ) (c : Option (List ℕ)) (t u : List ℕ) → IsSent a p b q t → WritesFront b c (q ++ u) → WritesFront a c (p ++ text_then t u)
unfolding text_then
puts_front_then a p b q c t u first front =
    let P : List ℕ → Type 0 = λ x. WritesFront a c x in
    subst P (joined p t u first.sent q first.parts) (front_then a b c first.sent (q ++ u) first.wrote front)

pub puts_then : {T E : Type 0} (a : Option (List ℕ)) (p : List ℕ) (b : Option (List ℕ)) (q : List ℕ) (c : Option (List ℕ)) (s : List ℕ) (r : Result T E) (t u : List ℕ)
    → IsSent a p b q t → Puts b q c s r u → Puts a p c s r (text_then t u)
unfolding text_then
puts_then a p b q c s r t u first puts = MatchResult-weaker r puts (λ _ rest. sent_then a p b q c s t u first rest) (λ _ front. puts_front_then a p b q c t u first front)

-- the laws for a text that is put piece by piece
pub ruleset putting = (puts_err, puts_front_first, puts_front_then, puts_then)

-- what waits is written, and then a text
pub puts_whole : {T E : Type 0} (a : Option (List ℕ)) (p : List ℕ) (b : Option (List ℕ)) (q : List ℕ) (c : Option (List ℕ)) (r : Result T E) (t : List ℕ)
    → Appends a b p → q ≡ [] → Writes b c r t → Puts a p c q r t
puts_whole a p b q c r t wrote none writes = MatchResult-weaker r writes
    (λ _ done. record { sent = p ++ t; parts = sym (append-nil (p ++ t)) ∙ ap (λ x. (p ++ t) ++ x) (sym none); wrote = Appends-then a b c p t wrote done })
    (λ _ front. front_then a b c p t wrote front)

-- what waits is written in the end
pub puts_end : {T E : Type 0} (a : Option (List ℕ)) (b : Option (List ℕ)) (q : List ℕ) (c : Option (List ℕ)) (r : Result T E) (t : List ℕ)
    → IsSent a [] b q t → Writes b c r q → Writes a c r t
puts_end a b q c r t sent writes =
    let P : List ℕ → Type 0 = λ x. Writes a c r x in
    subst P (sym sent.parts) (MatchResult-weaker r writes (λ _ done. Appends-then a b c sent.sent q sent.wrote done) (λ _ front. front_then a b c sent.sent q sent.wrote front))
