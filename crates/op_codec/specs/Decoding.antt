-- What decoding whole byte strings comes to, under a codec and what it allows.
use Rattle.std.specs.Prelude.{◌≡◌, ℕ, List, [], ◌++◌, Ok, IsErr}
use Rattle.codec_base.specs.Codec.{Reading, IsBytes}
use Rattle.codec_base.specs.Parts.{whole}

pub record IsExact {A : Type 0} (allows : A → Type 0) (spelling : A → List ℕ)
    (reads : List ℕ → Reading A) : Type 0 where
  -- what is allowed is decoded from its spelling
  pub back : (x : A) → allows x → whole (reads (spelling x)) ≡ Ok x
  -- what is decoded is allowed, and the byte string is its spelling
  pub only : (bytes : List ℕ) (x : A) → IsBytes bytes → whole (reads bytes) ≡ Ok x → allows x × (bytes ≡ spelling x)
  -- a byte string that is the spelling of nothing allowed is refused
  pub refused : (bytes : List ℕ) → IsBytes bytes → ((x : A) → allows x → bytes ≡ spelling x → ⊥)
      → IsErr (whole (reads bytes))
  -- no spelling of what is allowed begins another
  pub no_front : (x y : A) (more : List ℕ) → allows x → allows y → spelling y ≡ spelling x ++ more
      → (x ≡ y) × (more ≡ [])
