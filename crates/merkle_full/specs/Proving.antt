-- Proofs of the leaves of a tree, at its leaves or at fewer.
use Rattle.std.specs.Prelude.{◌≡◌, ℕ, ◌+◌, ◌^◌, ◌≤◌, nat_le, nat_lt, List, take, Result, Ok, Err, OnOk, IfOk, IfErr, if◌then◌else◌}
use Rattle.codec_base.specs.Codec.{Reading}
use Rattle.volume_base.specs.Moments.{Image}
use Rattle.tree_shape.specs.Hashing.{Hashing}
use Rattle.tree_shape.specs.Shape.{Shape}
use Rattle.tree_proof.specs.declared.proof.Proof.{Proof}
use Rattle.tree_proof.specs.Cover.{meets}
use Rattle.tree_proof.specs.SlowProof.{proof_of}
use Rattle.tree_store.specs.Stores.{IsOutside, IsOutsideOr, IsReadRefusal}
use Rattle.tree_store.specs.declared.error.Error.{Error}
use Rattle.tree_store.specs.declared.error.Error.TheVariants.{LocationOverflow, RangeOutOfBounds}
use Rattle.tree_verification.specs.Ranges.{cover_positions, range_answer, HasForm, TakesFrom}
use Rattle.merkle_full.specs.Full.{Full, IsHeld, told_at}
use Rattle.merkle_full.specs.Lists.{IsFullOf}

-- whether the leaves a .. b can be proved in the tree of the first n leaves, of so many; the first test that fails
-- answers
abbrev pub history_answer : {F : Type 0} → ℕ → ℕ → ℕ → ℕ → Result (Unit {0}) (Error F)
history_answer stored n a b = if nat_le n stored then range_answer stored n a b else Err (RangeOutOfBounds n)

-- the same for one leaf
abbrev pub leaf_history : {F : Type 0} → ℕ → ℕ → ℕ → Result (Unit {0}) (Error F)
leaf_history stored n l = if nat_lt l (2 ^ 62) then history_answer stored n l (l + 1) else Err (LocationOverflow l)

-- What a proof of the leaves a .. b in the tree of the first n leaves answers: the refusal that no read decides; or
-- else the proof that is the list's; or the first node of the cover that isn't there, which never comes from the
-- boundary on; or the outside refuses. Its digests are those that memory and log have there, so beside a proof each
-- node of the cover is there, whichever list the tree is of.
pub record IsProved {F D : Type 0} (tells : Type 0) (s : Shape) (spelling : D → List ℕ) (admits : D → Type 0)
    (reads : List ℕ → Reading D) (t : Full D) (image : Image)
    (answer : Result (Unit {0}) (Error F)) (n inactive a b : ℕ) (result : Result (Proof F D) (Error F)) : Type 0 where
  pub refused : (e : Error F) → answer ≡ Err e → result ≡ Err e
  pub within : OnOk result (answer ≡ Ok tt)
  pub form : IfOk result (HasForm s n inactive (meets a b))
  pub told : IfOk result (λ proof. tells → IsHeld s spelling admits t image
      → TakesFrom s (told_at reads t image) n (meets a b) proof)
  pub list : IfOk result (λ proof. tells → (h : Hashing D) (all : List D) → IsFullOf s h spelling admits all t image
      → proof ≡ proof_of s h (take n all) inactive (meets a b))
  pub kept : answer ≡ Ok tt → t.boundary ≤ a → tells → (h : Hashing D) (all : List D)
      → IsFullOf s h spelling admits all t image → IfErr result IsOutside
  pub first : answer ≡ Ok tt → tells → IsHeld s spelling admits t image
      → IfErr result (IsOutsideOr (told_at reads t image) (cover_positions s (meets a b) n))
  pub fault : answer ≡ Ok tt → IfErr result IsReadRefusal
