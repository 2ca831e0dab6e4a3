-- A database of a list, and batches of it.
use Rattle.std.proofs.Common.{◌≡◌, ℕ, ◌-◌, List, [], ◌∷◌, length, drop, sym, ◌∙◌, ap, subst}
use Rattle.std.specs.Prelude.{slice_index_or}
use Rattle.std.proofs.Math.Seq.{drop-length}
use Rattle.tree_shape.specs.Hashing.{Hashing}
use Rattle.tree_shape.specs.Shape.{Shape}
use Rattle.auth_journal.specs.Batched.{IsSealedOfItems}
use Rattle.log_model.specs.Meaning.{Meaning}
use Rattle.log_model.specs.Operations.{floor_of}
use Rattle.chain_core.specs.States.{IsStateIn, AreStatesIn}
use Rattle.chain_core.specs.declared.bounds.Bounds.{Bounds}
use Rattle.chain_core.specs.declared.commitment.Commitment.{Commitment}
use Rattle.chain_core.proofs.ChainLemmas.{floor_by_last}
use Rattle.chain_core.proofs.StateLemmas.{whole, state_of_front}
use Rattle.keyless_db.specs.Batches.{MerkleizedView, IsMerkleizedOf}
use Rattle.keyless_db.specs.DbView.{DbView, IsDbOf, snapshot_of}

module _ {F D Op V Cfg : Type 0} (s : Shape) (h : Hashing D) (m : Meaning Op V) (spelling : Op → List ℕ) (list : List Op) (db : DbView F D Op Cfg) (is : IsDbOf s h m list db) where
  pub size_of_list : db.state.size ≡ length list
  size_of_list = ap (λ (c : Commitment F D). c.size) is.state_is

  pub floor_of_list : floor_of m (db.commit ∷ []) ≡ floor_of m list
  floor_of_list = floor_by_last m list db.commit is.commit_is

  here : IsStateIn s h m list db.state
  here = subst (λ (x : Commitment F D). IsStateIn s h m list x) (sym is.state_is) (state_of_front s h m list list (whole list))

  -- a batch of this state without operations
  pub snapshot_is : (b : MerkleizedView F D Op) → b.tree.items ≡ [] ∷ [] → b.bounds ≡ snapshot_of m db → IsSealedOfItems s h spelling list b.tree
      → IsMerkleizedOf s h m spelling list b
  snapshot_is b none bounds of = record {
    ends = is.ends;
    few = is.few;
    batch = record {
      bounds = record {
        base = subst (λ (x : Commitment F D). IsStateIn s h m list x) (sym (ap (λ (x : Bounds F D). x.base) bounds)) here;
        db = subst (λ (x : Commitment F D). IsStateIn s h m list x) (sym (ap (λ (x : Bounds F D). x.db) bounds)) here;
        ancestors = subst (λ (xs : List (Commitment F D)). AreStatesIn s h m list xs) (sym (ap (λ (x : Bounds F D). x.ancestors) bounds)) tt;
        tip = ap (λ (x : Bounds F D). x.tip) bounds ∙ is.state_is;
      };
      floor = ap (λ (x : Bounds F D). x.inactivity_floor) bounds ∙ floor_of_list;
      own = ap (λ (lists : List (List Op)). slice_index_or lists (length lists - 1) []) none
          ∙ sym (ap (λ (c : Commitment F D). drop c.size list) (ap (λ (x : Bounds F D). x.base) bounds ∙ is.state_is) ∙ drop-length list);
    };
    tree = of;
  }
