-- Lists that a commit ends, and their leaves.
use Rattle.std.proofs.Common.{◌≡◌, suc, ◌+◌, ◌-◌, List, [], ◌∷◌, ◌++◌, length, take, Some, refl, ◌∙◌, ap, arith}
use Rattle.std.specs.Prelude.{slice_get, IsSome}
use Rattle.tree_shape.specs.Hashing.{Hashing}
use Rattle.tree_shape.specs.Shape.{Shape}
use Rattle.tree_shape.specs.Slow.{leaf}
use Rattle.log_model.specs.Meaning.{Meaning}
use Rattle.log_model.specs.Operations.{floor_of, leaves_from}
use Rattle.log_model.specs.Good.{EndsWithCommit}
use Rattle.log_model.specs.Witness.{last_bytes}
use Rattle.log_model.proofs.OperationLemmas.{leaves_from-append, length-leaves_from}

-- the last operation of a list, and those before it
pub record Parted {D Op V : Type 0} (s : Shape) (h : Hashing D) (m : Meaning Op V) (admits : Op → Type 0) (ops : List Op) : Type 0 where
  pub last : Op
  pub parted : ops ≡ take (length ops - 1) ops ++ (last ∷ [])
  pub here : slice_get ops (length ops - 1) ≡ Some last
  pub bytes : last_bytes s h m ops (length ops) ≡ m.encoding last
  pub floor : floor_of m ops ≡ floor_of m (last ∷ [])
  pub allowed : admits last
  pub commits : IsSome (m.floor last)

-- the last of a list stays the last behind another
last_behind : {X : Type 0} (x y : X) (xs : List X) (z : X) → slice_get (y ∷ xs) (length (y ∷ xs) - 1) ≡ Some z
    → slice_get (x ∷ y ∷ xs) (length (x ∷ y ∷ xs) - 1) ≡ Some z
last_behind x y xs z at =
    let n : length (x ∷ y ∷ xs) - 1 ≡ suc (length (y ∷ xs) - 1) = omega arith in
    rw n at

module _ {D Op V : Type 0} (s : Shape) (h : Hashing D) (m : Meaning Op V) where
  -- the leaves of a list and one more operation
  pub leaves_ended : (before : List Op) (op : Op)
      → leaves_from s h m 0 (before ++ (op ∷ [])) ≡ leaves_from s h m 0 before ++ (leaf s h (length (leaves_from s h m 0 before)) (m.encoding op) ∷ [])
  leaves_ended before op =
      let count : 0 + length before ≡ length (leaves_from s h m 0 before) = omega (arith, length-leaves_from s h m 0 before) in
      leaves_from-append s h m 0 before (op ∷ [])
      ∙ ap (λ n. leaves_from s h m 0 before ++ (leaf s h n (m.encoding op) ∷ [])) count

  module _ (admits : Op → Type 0) where
    pub part : (ops : List Op) → EndsWithCommit m ops → ((op : Op) → slice_get ops (length ops - 1) ≡ Some op → admits op) → Parted s h m admits ops
    part [] ends all = absurd ends
    part (op ∷ []) ends all = record {
      last = op;
      parted = refl;
      here = refl;
      bytes = refl;
      floor = refl;
      allowed = all op refl;
      commits = ends;
    }
    part (op ∷ next ∷ ops) ends all =
        let rest = part (next ∷ ops) ends (λ x at. all x (last_behind op next ops x at)) in
        let n : length (op ∷ next ∷ ops) - 1 ≡ suc (length (next ∷ ops) - 1) = omega arith in
        record {
          last = rest.last;
          parted = rw n (ap (λ os. op ∷ os) rest.parted);
          here = rw n rest.here;
          bytes = rw n rest.bytes;
          floor = rest.floor;
          allowed = rest.allowed;
          commits = rest.commits;
        }
