-- What is alive under numbers, one more, by what it carries.
use Rattle.std.proofs.Common.{◌≡◌, ℕ, ◌+◌, ◌<◌, List, [], ◌∷◌, ◌++◌, length, map, take, get_or, Option, Some, refl, sym, ◌∙◌, ap, append-nil, append_assoc}
use Rattle.std.proofs.lemmas.List.{map-append, take_more}
use Rattle.chain_core.specs.Reached.{item_at, one_or_none, items_at, oldest_in}
use Rattle.chain_core.specs.declared.bounds.Bounds.{Bounds}
use Rattle.chain_core.specs.declared.pool.HeldBatch.{HeldBatch}

module _ {T F D : Type 0} (bounds : T → Bounds F D) (pool : List (Option (HeldBatch T))) where
  items_more : (ids : List ℕ) (id : ℕ) → items_at pool (ids ++ (id ∷ [])) ≡ items_at pool ids ++ one_or_none (item_at pool id)
  items_more [] id = append-nil (one_or_none (item_at pool id))
  items_more (i ∷ ids) id = ap (λ cs. one_or_none (item_at pool i) ++ cs) (items_more ids id) ∙ sym (append_assoc (one_or_none (item_at pool i)) (items_at pool ids) (one_or_none (item_at pool id)))

  items_step : (ids : List ℕ) (k d : ℕ) (c : T) → k < length ids → item_at pool (get_or ids k d) ≡ Some c → items_at pool (take (k + 1) ids) ≡ items_at pool (take k ids) ++ (c ∷ [])
  items_step ids k d c lt is = ap (items_at pool) (take_more ids k d lt) ∙ items_more (take k ids) (get_or ids k d) ∙ ap (λ o. items_at pool (take k ids) ++ one_or_none o) is

  pub tips_step : (ids : List ℕ) (k d : ℕ) (c : T) → k < length ids → item_at pool (get_or ids k d) ≡ Some c
      → map (λ x. (bounds x).tip) (items_at pool (take (k + 1) ids)) ≡ map (λ x. (bounds x).tip) (items_at pool (take k ids)) ++ ((bounds c).tip ∷ [])
  tips_step ids k d c lt is = ap (map (λ x. (bounds x).tip)) (items_step ids k d c lt is) ∙ map-append (λ x. (bounds x).tip) (items_at pool (take k ids)) (c ∷ [])

  oldest_last : (cs : List T) (c : T) → oldest_in bounds (cs ++ (c ∷ [])) ≡ Some (bounds c).base
  oldest_last [] c = refl
  oldest_last (x ∷ []) c = refl
  oldest_last (x ∷ y ∷ cs) c = oldest_last (y ∷ cs) c

  pub oldest_step : (ids : List ℕ) (k d : ℕ) (c : T) → k < length ids → item_at pool (get_or ids k d) ≡ Some c → oldest_in bounds (items_at pool (take (k + 1) ids)) ≡ Some (bounds c).base
  oldest_step ids k d c lt is = ap (oldest_in bounds) (items_step ids k d c lt is) ∙ oldest_last (items_at pool (take k ids)) c
