-- Decoding is exact where the codec is lawful, and allows what it admits.
use Rattle.std.proofs.Common.{◌≡◌, ℕ, ◌≤◌, List, Some, None, Option, Ok, Err, Result, refl, arith}
use Rattle.std.specs.Prelude.{IsErr}
use Rattle.codec_base.specs.declared.error.CodecError.{CodecError}
use Rattle.codec_base.specs.Codec.{Reading, IsBytes, IsLawful}
use Rattle.codec_base.specs.Parts.{whole, admits_optional}
use Rattle.codec_base.specs.PartsLaws.{whole_exact, whole_again}
use Rattle.codec_base.specs.Reads.{no_front}
use Rattle.log_model.specs.Machine.{max_leaves}
use Rattle.op_codec.specs.Commits.{admits_filled, IsFloor}
use Rattle.op_codec.specs.Decoding.{IsExact}

module _ {A : Type 0} (allows admits : A → Type 0) (spelling : A → List ℕ) (reads : List ℕ → Reading A) (lawful : IsLawful spelling admits reads)
    (to : (x : A) → allows x → admits x) (from : (x : A) → admits x → allows x) where
  others : (bytes : List ℕ) (r : Result A CodecError) → IsBytes bytes → whole (reads bytes) ≡ r → ((x : A) → allows x → bytes ≡ spelling x → ⊥) → IsErr r
  others bytes (Err e) fits w none = refl
  others bytes (Ok x) fits w none = let f = whole_exact spelling admits reads lawful bytes x fits w in absurd (none x (from x f.1) f.0)

  pub exact_where : IsExact allows spelling reads
  exact_where = record {
    back = λ x h. whole_again spelling admits reads lawful x (to x h);
    only = λ bytes x fits w. let f = whole_exact spelling admits reads lawful bytes x fits w in (from x f.1, f.0);
    refused = λ bytes fits none. others bytes (whole (reads bytes)) fits refl none;
    no_front = λ x y more hx hy e. no_front spelling admits reads lawful x y more (to x hx) (to y hy) e;
  }

pub floor_to : (f : ℕ) → f ≤ max_leaves → IsFloor f
floor_to f le = (omega arith, le)

module _ {A : Type 0} (admits : A → Type 0) where
  pub filled_to : (m : Option A) → admits_optional admits m → admits_filled admits m
  filled_to None h = tt
  filled_to (Some x) h = h

  pub filled_from : (m : Option A) → admits_filled admits m → admits_optional admits m
  filled_from None h = tt
  filled_from (Some x) h = h
