-- What a lawful reader's answer tells.
use Rattle.std.proofs.Common.{◌≡◌, ℕ, List, [], ◌++◌, Result, Ok, Err, refl, sym, ap, subst, ◌∙◌}
use Rattle.std.specs.Prelude.{IfOk, IsErrOf}
use Rattle.codec_base.specs.declared.error.CodecError.{CodecError}
use Rattle.codec_base.specs.declared.error.CodecError.TheVariants.{EndOfBuffer, InvalidEnum, Invalid, Memory}
use Rattle.codec_base.specs.Codec.{Reading, IsBytes, IsLawful, Gives, Fails}
use Rattle.codec_base.specs.Parts.{whole}
use Rattle.codec_base.specs.Laws.{done, ok_is}
use Rattle.std.proofs.lemmas.List.{append-nil}
use Rattle.codec_base.specs.PartsLaws.{whole_exact, whole_again}

-- a step that failed, with the type of its value known
abbrev failed : {A : Type 0} → CodecError → Result A CodecError
failed e = Err e

err_is : (A : Type 0) (e d : CodecError) → failed {A = A} e ≡ failed {A = A} d → e ≡ d
err_is A e d h = cc

by_error : {A : Type 0} (x : A) (d : CodecError) → Fails d (done x) → (d ≡ Memory → ⊥) → ⊥
by_error x Memory h other = other refl
by_error x EndOfBuffer h other = absurd cc
by_error x (InvalidEnum tag) h other = absurd cc
by_error x (Invalid what) h other = absurd cc

module _ {A : Type 0} (spelling : A → List ℕ) (admits : A → Type 0) (reads : List ℕ → Reading A)
    (lawful : IsLawful spelling admits reads) where
  -- what is decoded is spelled so, and allowed
  pub found_from : (bytes : List ℕ) (r : Result A CodecError) → IsBytes bytes → Gives r (whole (reads bytes))
      → IfOk r (λ x. (bytes ≡ spelling x) × admits x)
  found_from bytes (Ok x) fits h = whole_exact spelling admits reads lawful bytes x fits h
  found_from bytes (Err e) fits h = tt

  -- what is spelled so and allowed is decoded
  pub only_from : (bytes : List ℕ) (r : Result A CodecError) → Gives r (whole (reads bytes)) → (x : A) → admits x
      → bytes ≡ spelling x → Gives r (Ok x)
  only_from bytes r h x allowed e =
      let w : whole (reads bytes) ≡ Ok x =
      ap (λ (b : List ℕ). whole (reads b)) e ∙ whole_again spelling admits reads lawful x allowed in
      rw w at h

  -- ---- the laws of spellings

  -- no byte string is the spelling of two values
  pub one_value : (x y : A) → admits x → admits y → spelling x ≡ spelling y → x ≡ y
  one_value x y hx hy e =
      let a = whole_again spelling admits reads lawful x hx in
      let b = whole_again spelling admits reads lawful y hy in
      let c = ap (λ (s : List ℕ). whole (reads s)) e in
      let d : Ok x ≡ whole (reads (spelling y)) = sym a ∙ c in
      cc

  -- no spelling begins another
  pub no_front : (x y : A) (more : List ℕ) → admits x → admits y → spelling y ≡ spelling x ++ more
      → (x ≡ y) × (more ≡ [])
  no_front x y more hx hy e =
      let a = lawful.again x more hx in
      let b = rw append-nil at (lawful.again y [] hy) in
      let c = ap reads e in
      let d : done (x, more) ≡ done (y, []) = sym a ∙ sym c ∙ b in
      let p = ok_is (x, more) (y, []) d in
      (ap (λ (q : A × List ℕ). q.0) p, ap (λ (q : A × List ℕ). q.1) p)

  -- another refusal than want of memory comes only where nothing allowed is spelled so
  pub refused_from : (bytes : List ℕ) (r : Result A CodecError) → Gives r (whole (reads bytes)) → (e : CodecError)
      → IsErrOf r e → (e ≡ Memory → ⊥) → (x : A) → admits x → bytes ≡ spelling x → ⊥
  refused_from bytes (Ok y) h e is other x allowed there = absurd cc
  refused_from bytes (Err d) h e is other x allowed there =
      by_error x d (only_from bytes (Err d) h x allowed there)
      (subst (λ (f : CodecError). f ≡ Memory → ⊥) (err_is A e d (sym is)) other)
