-- How operations are ordered and hashed: by the variant, and then by the fields.
use Rattle.std.proofs.Common.{◌≡◌, ℕ, ◌++◌, Option, pos, Ordering, Less, Greater, nat_cmp}
use Rattle.std.specs.Ordering.{ordering_then}
use Rattle.std.specs.Option.{option_cmp}
use Rattle.std.specs.Hash.{HashWrites}
use Rattle.std.specs.Hash as fed
use Rattle.op_codec.specs.declared.keyless.Operation.{Operation}
use Rattle.op_codec.specs.declared.keyless.Operation.TheVariants as keyless
use Rattle.op_codec.specs.declared.immutable.Operation as keyed
use Rattle.op_codec.specs.declared.immutable.Operation.TheVariants as immutable

-- commits by their metadata, none first, and then by their floors
abbrev pub commit_cmp : {A : Type 0} → (A → A → Ordering) → Option A → ℕ → Option A → ℕ → Ordering
commit_cmp cmp m f n g = ordering_then (option_cmp cmp m n) (nat_cmp f g)

-- appends before commits, and appends by their values
pub record IsOrderedKeyless {F V A C : Type 0} (cmp : A → A → Ordering)
    (order : Operation F V A C → Operation F V A C → Ordering) : Type 0 where
  pub appends : (v w : A) → order (keyless.Append v) (keyless.Append w) ≡ cmp v w
  pub commits : (m n : Option A) (f g : ℕ) → order (keyless.Commit m f) (keyless.Commit n g) ≡ commit_cmp cmp m f n g
  pub append_first : (v : A) (n : Option A) (g : ℕ) → order (keyless.Append v) (keyless.Commit n g) ≡ Less
  pub commit_last : (m : Option A) (f : ℕ) (w : A) → order (keyless.Commit m f) (keyless.Append w) ≡ Greater

-- sets before commits, and sets by their keys and then by their values
pub record IsOrderedImmutable {F K V D A C : Type 0} (cmp_key : K → K → Ordering) (cmp : A → A → Ordering)
    (order : keyed.Operation F K V D A C → keyed.Operation F K V D A C → Ordering) : Type 0 where
  pub sets : (k l : K) (v w : A) → order (immutable.Set k v) (immutable.Set l w) ≡ ordering_then (cmp_key k l) (cmp v w)
  pub commits : (m n : Option A) (f g : ℕ)
      → order (immutable.Commit m f) (immutable.Commit n g) ≡ commit_cmp cmp m f n g
  pub set_first : (k : K) (v : A) (n : Option A) (g : ℕ) → order (immutable.Set k v) (immutable.Commit n g) ≡ Less
  pub commit_last : (m : Option A) (f : ℕ) (l : K) (w : A) → order (immutable.Commit m f) (immutable.Set l w) ≡ Greater

-- the variant's place is hashed, and then each field, from the left
pub record IsHashedKeyless {F V A C : Type 0} (value : A → HashWrites)
    (hash : Operation F V A C → HashWrites) : Type 0 where
  pub append : (v : A) → hash (keyless.Append v) ≡ fed.isize (pos 0) ++ value v
  pub commit : (m : Option A) (f : ℕ)
      → hash (keyless.Commit m f) ≡ fed.isize (pos 1) ++ (fed.option value m ++ fed.u64 f)

pub record IsHashedImmutable {F K V D A C : Type 0} (key : K → HashWrites) (value : A → HashWrites)
    (hash : keyed.Operation F K V D A C → HashWrites) : Type 0 where
  pub set : (k : K) (v : A) → hash (immutable.Set k v) ≡ fed.isize (pos 0) ++ (key k ++ value v)
  pub commit : (m : Option A) (f : ℕ)
      → hash (immutable.Commit m f) ≡ fed.isize (pos 1) ++ (fed.option value m ++ fed.u64 f)
