-- What holds of each batch of a pool, and of each proof of operations.
use Rattle.std.proofs.Common.{◌≡◌, ℕ, zero, suc, ◌+◌, ◌≤◌, List, [], ◌∷◌, map, Some, None, Option, refl, sym, ◌∙◌, ap, subst, arith}
use Rattle.std.specs.Prelude.{Contains, slice_get}
use Rattle.std.specs.List.{AllByRecursion}
use Rattle.std.specs.Option.{option_map}
use Rattle.std.proofs.lemmas.Option.{slice_get-map, slice_get-get_or}
use Rattle.chain_core.specs.MarkedPool.{NeverRise, IsMarkedAt, AreMarked, sizes_behind}
use Rattle.chain_core.specs.Reached.{item_at}
use Rattle.chain_core.specs.Slots.{slot_at}
use Rattle.chain_core.specs.States.{sizes}
use Rattle.chain_core.specs.declared.bounds.Bounds.{Bounds}
use Rattle.chain_core.specs.declared.commitment.Commitment.{Commitment}
use Rattle.chain_core.specs.declared.pool.HeldBatch.{HeldBatch}
use Rattle.keyless_db.proofs.KeptLemmas.{get_earlier}
use Rattle.keyless_db.proofs.ReadLemmas.{all_at}

-- each operation's bytes are its spelling
pub spelled_all : {Op : Type 0} (encoding spelling : Op → List ℕ) → ((op : Op) → encoding op ≡ spelling op) → (ops : List Op) → map encoding ops ≡ map spelling ops
spelled_all encoding spelling law [] = refl
spelled_all encoding spelling law (op ∷ ops) =
    ap (λ (bytes : List ℕ). bytes ∷ map encoding ops) (law op) ∙ ap (λ (all : List (List ℕ)). spelling op ∷ all) (spelled_all encoding spelling law ops)

-- what is alive under a number stands there
slot_of : {T : Type 0} (o : Option (HeldBatch T)) (x : T) → option_map (λ e. e.item) o ≡ Some x → (e : HeldBatch T) × (o ≡ Some e) × (e.item ≡ x)
slot_of (Some e) x is = (e, refl, cc)
slot_of None x is = absurd cc

module _ {T F D : Type 0} (bounds : T → Bounds F D) (pool : List (Option (HeldBatch T))) where
  own_tip : (b : Bounds F D) (n : ℕ) (parent : Option ℕ) → b.tip.size ≡ b.base.size + n → (n ≡ 0 → b.db ≡ b.tip) → IsMarkedAt bounds pool parent b → Contains (b.db ∷ b.ancestors) b.tip → b.db ≡ b.tip
  own_tip b n parent own none marked (zero, within, is) = is
  own_tip b zero parent own none marked (suc k, within, is) = none refl
  own_tip b (suc n) parent own none marked (suc k, within, is) =
      let here : slice_get b.ancestors k ≡ Some b.tip = slice_get-get_or b.ancestors k b.tip (omega (arith, within)) ∙ ap Some is in
      let size : slice_get (sizes b.ancestors) k ≡ Some b.tip.size =
      slice_get-map (λ (x : Commitment F D). x.size) b.ancestors k ∙ ap (option_map (λ (x : Commitment F D). x.size)) here in
      let row = marked.row [] tt in
      let fall : NeverRise (b.base.size ∷ row.0) = subst NeverRise row.1 marked.back.1 in
      let all : AllByRecursion (λ m. m ≤ b.base.size) (b.base.size ∷ row.0) = (omega arith, fall.0) in
      let behind : AllByRecursion (λ m. m ≤ b.base.size) (sizes_behind b) = subst (λ ns. AllByRecursion (λ m. m ≤ b.base.size) ns) (sym row.1) all in
      let low = all_at (λ m. m ≤ b.base.size) (sizes_behind b) k b.tip.size behind (get_earlier (sizes b.ancestors) (b.db.size ∷ []) k b.tip.size size) in
      absurd (omega (arith, low, own))

  -- at its own tip a batch that has its marks doesn't stand, unless the tip is its boundary
  pub never_at_tip : (id : ℕ) (x : T) (n : ℕ) → item_at pool id ≡ Some x → AreMarked bounds pool → (bounds x).tip.size ≡ (bounds x).base.size + n → (n ≡ 0 → (bounds x).db ≡ (bounds x).tip)
      → Contains ((bounds x).db ∷ (bounds x).ancestors) (bounds x).tip → (bounds x).db ≡ (bounds x).tip
  never_at_tip id x n at marked own none here =
      let slot = slot_of (slot_at pool id) x at in
      own_tip (bounds x) n slot.0.parent own none (subst (λ (y : T). IsMarkedAt bounds pool slot.0.parent (bounds y)) slot.2 (marked id slot.0 slot.1)) here
