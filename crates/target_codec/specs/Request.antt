-- What a request asks for, and when two are equal.
use Rattle.std.specs.Prelude.{◌≡◌, ℕ, Bool, false, ◌&&◌, nat_eq}
use Rattle.std.specs.Int.NonZero.{non_zero_u64_get}
use Rattle.std.specs.declared.num.NonZeroU64.{NonZeroU64}
use Rattle.target_codec.specs.declared.request.Request.{Request}
use Rattle.target_codec.specs.declared.request.Request.TheVariants.{Operations, Boundary}

-- the numbers of two requests of one kind are equal
abbrev pub same_numbers : ℕ → ℕ → NonZeroU64 → ℕ → ℕ → NonZeroU64 → Bool
same_numbers n a k m b l = nat_eq n m && (nat_eq a b && nat_eq (non_zero_u64_get k) (non_zero_u64_get l))

module _ {F : Type 0} where
  -- the size of the tree that proves it
  abbrev pub size_of : Request F → ℕ
  size_of (Operations size start max_ops) = size
  size_of (Boundary size start max_ops) = size

  -- the first operation
  abbrev pub start_of : Request F → ℕ
  start_of (Operations size start max_ops) = start
  start_of (Boundary size start max_ops) = start

  -- the most operations
  abbrev pub max_ops_of : Request F → NonZeroU64
  max_ops_of (Operations size start max_ops) = max_ops
  max_ops_of (Boundary size start max_ops) = max_ops

  -- a test of two requests goes by their kind, and then by their numbers
  pub record IsFieldwise (same : Request F → Request F → Bool) : Type 0 where
    pub operations : (n a m b : ℕ) (k l : NonZeroU64) →
        same (Operations n a k) (Operations m b l) ≡ same_numbers n a k m b l
    pub boundaries : (n a m b : ℕ) (k l : NonZeroU64) →
        same (Boundary n a k) (Boundary m b l) ≡ same_numbers n a k m b l
    pub operations_first : (n a m b : ℕ) (k l : NonZeroU64) → same (Operations n a k) (Boundary m b l) ≡ false
    pub boundary_first : (n a m b : ℕ) (k l : NonZeroU64) → same (Boundary n a k) (Operations m b l) ≡ false
