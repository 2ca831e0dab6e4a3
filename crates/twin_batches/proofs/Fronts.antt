-- Tests of numbers, and states of fronts of the run's lists.
use Rattle.std.proofs.Common.{◌≡◌, ℕ, ◌<◌, ◌≤◌, true, false, List, ◌∷◌, ap, arith}
use Rattle.std.specs.Prelude.{nat_lt, nat_le, Contains}
use Rattle.std.specs.Bool.{Decides}
use Rattle.std.proofs.lemmas.Bool.Decides.{nat_tests}
use Rattle.chain_core.proofs.StateLemmas as chain
use Rattle.chain_core.specs.States.{sizes}
use Rattle.chain_core.specs.declared.commitment.Commitment.{Commitment}
use Rattle.tree_shape.specs.Mmr.{mmr}
use Rattle.tree_shape.specs.Sha256Codec.{bytes_of}
use Rattle.tree_shape.specs.declared.mmr.Mmr.{Mmr}
use Rattle.tree_shape.specs.declared.sha256.Sha256Digest.{Sha256Digest}
use Rattle.log_model.specs.Machine.{State}
use Rattle.log_model.specs.Reach.{stands_on}
use Rattle.list_machine.specs.Operation.{Operation, meaning, sha}
use Rattle.list_machine.specs.Commitments.{commitment_of, same_state, IsStateIn, AreStatesIn}

pub lt_false : (m n : ℕ) → n ≤ m → nat_lt m n ≡ false
lt_false m n le = grind (arith, nat_tests)

pub lt_true : (m n : ℕ) → m < n → nat_lt m n ≡ true
lt_true m n lt = grind (arith, nat_tests)

pub le_true : (m n : ℕ) → m ≤ n → nat_le m n ≡ true
le_true m n le = grind (arith, nat_tests)

pub le_false : (m n : ℕ) → n < m → nat_le m n ≡ false
le_false m n lt = grind (arith, nat_tests)

exact : (a b : Sha256Digest) → bytes_of a ≡ bytes_of b → a ≡ b
exact a b e = ap (λ xs. record { bytes = xs }) e

-- the present list stands there where its state is the boundary or a tip
pub stands_decides : (s : State Operation) (list : List Operation) (db : Commitment Mmr Sha256Digest) (tips : List (Commitment Mmr Sha256Digest)) → IsStateIn list db → AreStatesIn list tips
    → Decides (stands_on same_state s list db.size (sizes tips)) (Contains (db ∷ tips) (commitment_of s.ops))
stands_decides s list db tips k ks = chain.stands_decides mmr sha meaning exact s list db tips k ks
