-- Proofs of the leaves of a list, and why one isn't made.
use Rattle.std.specs.Prelude.{◌≡◌, ℕ, ◌+◌, ◌^◌, nat_le, nat_lt, List, length, map, take, Option, Some, Result, Ok, Err, IfOk, IfErr, if◌then◌else◌}
use Rattle.tree_shape.specs.Hashing.{Hashing}
use Rattle.tree_shape.specs.Shape.{Shape}
use Rattle.tree_shape.specs.Pins.{position_of}
use Rattle.tree_proof.specs.declared.proof.Proof.{Proof}
use Rattle.tree_proof.specs.Cover.{Opened, cover}
use Rattle.tree_proof.specs.SlowProof.{proof_of}
use Rattle.tree_store.specs.Stores.{IsTreeOf, IsUnread}
use Rattle.tree_store.specs.declared.error.Error.{Error}
use Rattle.tree_store.specs.declared.error.Error.TheVariants.{Empty, LocationOverflow, RangeOutOfBounds}

-- where the nodes of the cover stand, in its order
abbrev pub cover_positions : Shape → Opened → ℕ → List ℕ
cover_positions s met n = map (position_of s) (cover s met n)

-- of so many leaves and inactive peaks, with as many digests as the cover has nodes
pub record HasForm {F D : Type 0} (s : Shape) (n inactive : ℕ) (met : Opened) (proof : Proof F D) : Type 0 where
  pub leaves : proof.leaves ≡ n
  pub folded : proof.inactive_peaks ≡ inactive
  pub counted : length proof.digests ≡ length (cover s met n)

-- whether the leaves a .. b can be proved in the tree of n leaves, where so many are stored; the first test that fails
-- answers
abbrev pub range_answer : {F : Type 0} → ℕ → ℕ → ℕ → ℕ → Result (Unit {0}) (Error F)
range_answer stored n a b =
    if nat_le b a then Err Empty
    else (if nat_le b (2 ^ 62) then
    (if nat_le n stored then (if nat_le b n then Ok tt else Err (RangeOutOfBounds b)) else Err (RangeOutOfBounds n))
    else Err (LocationOverflow b))

-- the same for one leaf of a tree of n
abbrev pub leaf_answer : {F : Type 0} → ℕ → ℕ → Result (Unit {0}) (Error F)
leaf_answer n l = if nat_lt l (2 ^ 62) then range_answer n n l (l + 1) else Err (LocationOverflow l)

-- the proof of what is met in the tree of n leaves that has these nodes, whichever list it is of
abbrev pub IsProofIn : {F D : Type 0} → Shape → (ℕ → Option D) → ℕ → ℕ → Opened → Proof F D → Type 0
IsProofIn {D = D} s told n inactive met proof =
    (h : Hashing D) (all : List D) → IsTreeOf s h all n told → proof ≡ proof_of s h all inactive met

-- the same in the tree of the first n of its m leaves
abbrev pub IsProofAt : {F D : Type 0} → Shape → (ℕ → Option D) → ℕ → ℕ → ℕ → Opened → Proof F D → Type 0
IsProofAt {D = D} s told m n inactive met proof =
    (h : Hashing D) (all : List D) → IsTreeOf s h all m told → proof ≡ proof_of s h (take n all) inactive met

-- its digests are what is told where the nodes of the cover stand
abbrev pub TakesFrom : {F D : Type 0} → Shape → (ℕ → Option D) → ℕ → Opened → Proof F D → Type 0
TakesFrom s told n met proof = map Some proof.digests ≡ map told (cover_positions s met n)

-- what a proof from memory that tells these nodes of a tree of n leaves answers: the refusal that no read decides, or
-- else the proof, or the first node of the cover that isn't there
pub record Proves {F D : Type 0} (s : Shape) (answer : Result (Unit {0}) (Error F)) (n inactive : ℕ) (met : Opened)
    (told : ℕ → Option D) (result : Result (Proof F D) (Error F)) : Type 0 where
  pub refused : (e : Error F) → answer ≡ Err e → result ≡ Err e
  pub within : IfOk result (λ proof. answer ≡ Ok tt)
  pub form : IfOk result (HasForm s n inactive met)
  pub proof : IfOk result (IsProofIn s told n inactive met)
  pub unread : answer ≡ Ok tt → IfErr result (IsUnread told (cover_positions s met n))
