-- The state of a database of a list, and batches of it.
use Rattle.std.proofs.Common.{◌≡◌, ℕ, suc, ◌-◌, ◌<◌, List, [], ◌∷◌, ◌++◌, length, drop, Option, Some, refl, sym, ◌∙◌, ap, subst, arith}
use Rattle.std.specs.Prelude.{slice_get, Result, Ok}
use Rattle.std.specs.Option.{ForSome}
use Rattle.std.proofs.Math.Seq.{drop-length}
use Rattle.tree_shape.specs.Hashing.{Hashing}
use Rattle.tree_shape.specs.Shape.{Shape}
use Rattle.tree_core.specs.Tree.{Tree}
use Rattle.tree_core.specs.Batches.{IsSealedOf}
use Rattle.log_model.specs.Meaning.{Meaning}
use Rattle.log_model.specs.Operations.{floor_of, leaves_from, root_of}
use Rattle.log_model.proofs.OperationLemmas.{length-leaves_from, root_of-parts}
use Rattle.chain_core.specs.Slots.{IsAlive, link_released, slot_at}
use Rattle.chain_core.specs.States.{commitment_of, IsStateIn, AreStatesIn}
use Rattle.chain_core.specs.declared.bounds.Bounds.{Bounds}
use Rattle.chain_core.specs.declared.commitment.Commitment.{Commitment}
use Rattle.chain_core.specs.declared.pool.HeldBatch.{HeldBatch}
use Rattle.chain_core.proofs.PoolLemmas.{alive_held, alive_drawn, released_length}
use Rattle.chain_core.proofs.StateLemmas.{whole, state_of_front}
use Rattle.compact_db.specs.Batches.{MerkleizedView, IsMerkleizedOf}
use Rattle.compact_db.specs.StateOf.{IsStateOf}
use Rattle.compact_db.specs.Verified.{root_under}
use Rattle.compact_db.specs.declared.verified.VerifiedWitness.{VerifiedWitness}

pub state_by : {F D : Type 0} (c : Commitment F D) (n : ℕ) (r : D) → c.size ≡ n → c.root ≡ r → c ≡ record { size = n; root = r }
state_by c n r p q i = record { size = p i; root = q i }

-- the floor of a list is that of its last operation
pub floor_by_last : {Op V : Type 0} (m : Meaning Op V) (ops : List Op) (op : Op) → slice_get ops (length ops - 1) ≡ Some op → floor_of m (op ∷ []) ≡ floor_of m ops
floor_by_last m [] op at = absurd cc
floor_by_last m (x ∷ []) op at = let e : x ≡ op = cc in ap (λ o. floor_of m (o ∷ [])) (sym e)
floor_by_last m (x ∷ y ∷ ops) op at =
    let n : length (x ∷ y ∷ ops) - 1 ≡ suc (length (y ∷ ops) - 1) = omega arith in
    floor_by_last m (y ∷ ops) op (rw n at at)

-- the root at the tip of a batch of a list
pub root_of_batch : {F D Op V : Type 0} (s : Shape) (h : Hashing D) (m : Meaning Op V) (list : List Op) (x b : MerkleizedView F D Op) → x ≡ b
    → IsMerkleizedOf s h m list b → x.bounds.tip.root ≡ root_of s h m list
root_of_batch {F} {D} {Op} s h m list x b same of =
    ap (λ (y : MerkleizedView F D Op). y.bounds.tip.root) same ∙ ap (λ (c : Commitment F D). c.root) of.batch.bounds.tip

-- the root of a list is that of its leaves under the floor of its last operation
pub root_under_last : {D Op V : Type 0} (s : Shape) (h : Hashing D) (m : Meaning Op V) (ops : List Op) (op : Op) (leaves : List D) (r : D)
    → slice_get ops (length ops - 1) ≡ Some op → leaves_from s h m 0 ops ≡ leaves → r ≡ root_of s h m ops → r ≡ root_under s h leaves (floor_of m (op ∷ []))
root_under_last s h m ops op leaves r at are is =
    is ∙ sym (root_of-parts s h m ops leaves (length leaves) (floor_of m (op ∷ [])) _ (sym are) (ap length (sym are) ∙ length-leaves_from s h m 0 ops) (floor_by_last m ops op at) refl)

module _ {F D Op V : Type 0} (s : Shape) (h : Hashing D) (m : Meaning Op V) (list : List Op) (tip : VerifiedWitness F D) (tree : Tree D) (commit : Op)
    (is : IsStateOf s h m list tip tree commit) where
  pub size_of_list : tip.witness.size ≡ length list
  size_of_list = ap (λ (v : VerifiedWitness F D). v.witness.size) is.tip_is ∙ length-leaves_from s h m 0 list

  pub root_of_list : tip.root ≡ root_of s h m list
  root_of_list =
      ap (λ (v : VerifiedWitness F D). v.root) is.tip_is
      ∙ root_of-parts s h m list (leaves_from s h m 0 list) (length (leaves_from s h m 0 list)) (floor_of m list) _ refl
      (length-leaves_from s h m 0 list) refl refl

  pub state_of_list : (c : Commitment F D) → c.size ≡ tip.witness.size → c.root ≡ tip.root → c ≡ commitment_of s h m list
  state_of_list c p q = state_by c (length list) (root_of s h m list) (p ∙ size_of_list) (q ∙ root_of_list)

  pub floor_of_list : floor_of m (commit ∷ []) ≡ floor_of m list
  floor_of_list = floor_by_last m list commit is.commit_is

  -- a batch of this state without operations
  pub snapshot_is : (b : MerkleizedView F D Op) (c : Commitment F D) → c.size ≡ tip.witness.size → c.root ≡ tip.root → b.operations ≡ []
      → b.bounds ≡ record { base = c; db = c; tip = c; ancestors = []; inactivity_floor = floor_of m (commit ∷ []) }
      → IsSealedOf s h (leaves_from s h m 0 list) b.tree → IsMerkleizedOf s h m list b
  snapshot_is b c p q none bounds of =
      let here = state_of_list c p q in
      let front = subst (λ (x : Commitment F D). IsStateIn s h m list x) (sym here) (state_of_front s h m list list (whole list)) in
      let base : b.bounds.base ≡ c = ap (λ (x : Bounds F D). x.base) bounds in
      let db : b.bounds.db ≡ c = ap (λ (x : Bounds F D). x.db) bounds in
      let tips : b.bounds.ancestors ≡ [] = ap (λ (x : Bounds F D). x.ancestors) bounds in
      record {
        ends = is.ends;
        few = is.few;
        batch = record {
          bounds = record {
            base = subst (λ (x : Commitment F D). IsStateIn s h m list x) (sym base) front;
            db = subst (λ (x : Commitment F D). IsStateIn s h m list x) (sym db) front;
            ancestors = subst (λ (xs : List (Commitment F D)). AreStatesIn s h m list xs) (sym tips) tt;
            tip = ap (λ (x : Bounds F D). x.tip) bounds ∙ here;
          };
          floor = ap (λ (x : Bounds F D). x.inactivity_floor) bounds ∙ floor_of_list;
          own = none ∙ sym (ap (λ (x : Commitment F D). drop x.size list) (base ∙ here) ∙ drop-length list);
        };
        tree = of;
      }

-- ---- links in a pool

module _ {T : Type 0} (pool : List (Option (HeldBatch T))) where
  pub link_below : (parent link : Option ℕ) → link ≡ parent → ForSome parent (IsAlive pool) → (x : ℕ) → link ≡ Some x → x < length (link_released pool link)
  link_below parent link same alive x is =
      let e = alive_held (slot_at pool x) (alive x (sym same ∙ is)) in
      subst (λ n. x < n) (sym (released_length pool link)) (alive_drawn pool x e.0 e.1)

  -- what is put behind the slots when a link was released
  pub put_is : (new released : List (Option (HeldBatch T))) (link parent : Option ℕ) (item : T)
      → new ≡ released ++ (Some (record { item = item; parent = link; holds = 1 }) ∷ []) → released ≡ link_released pool link → link ≡ parent
      → new ≡ link_released pool parent ++ (Some (record { item = item; parent = parent; holds = 1 }) ∷ [])
  put_is new released link parent item is was same = is ∙ rw (was, same) refl

  pub released_count : (link : Option ℕ) → length (link_released pool link) ≡ length pool
  released_count link = released_length pool link

-- ---- the states of a batch of a database's own state

pub bounds_by : {F D : Type 0} (E : Type 0) (b : Bounds F D) (c d : Commitment F D) (f k : ℕ)
    → (let r : Result (Bounds F D) E = Ok b in r) ≡ Ok (record { base = c; db = c; tip = c; ancestors = []; inactivity_floor = f }) → c ≡ d → f ≡ k
    → b ≡ record { base = d; db = d; tip = d; ancestors = []; inactivity_floor = k }
bounds_by E b c d f k is p q =
    let e : b ≡ record { base = c; db = c; tip = c; ancestors = []; inactivity_floor = f } = cc in e ∙ rw (p, q) refl
