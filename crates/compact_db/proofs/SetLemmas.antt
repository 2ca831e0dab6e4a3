-- The sets of a batch with keys, beside the map's entries.
use Rattle.std.proofs.Common.{◌≡◌, ℕ, suc, ◌+◌, ◌^◌, ◌≤◌, ◌<◌, ◌⊎◌, inl, inr, arith, List, [], ◌∷◌, length, true, false, cond, Some, Ordering, Less, Equal, Greater, refl, ap, ◌∙◌}
use Rattle.std.specs.Prelude.{◌||◌}
use Rattle.std.specs.Ordering.{is_eq, match_ordering}
use Rattle.std.specs.Option.{is_some}
use Rattle.std.specs.BTreeMap.{insert_entry, is_at}
use Rattle.std.specs.Map.{lookup, keys_of}
use Rattle.op_codec.specs.declared.immutable.Operation.{Operation}
use Rattle.op_codec.specs.declared.immutable.Operation.TheVariants.{Set}
use Rattle.compact_db.specs.Immutable.{sets_of, keys_in, sets_key, set_among}

module _ (F V K A D C : Type 0) where
  abbrev ops : List (K × A) → List (Operation F K V D A C)
  ops es = sets_of es

  pub sets_length : (es : List (K × A)) → length (ops es) ≡ length es
  sets_length [] = refl
  sets_length (e ∷ es) = ap suc (sets_length es)

  -- the keys of the sets are the map's
  pub sets_keys : (es : List (K × A)) → keys_of es ≡ keys_in (ops es)
  sets_keys [] = refl
  sets_keys (e ∷ es) = ap (e.0 ∷◌) (sets_keys es)

  module _ (cmp : K → K → Ordering) where
    -- an entry that is put among others is a set among theirs
    pub sets_insert : (es : List (K × A)) (k : K) (v : A) → ops (insert_entry cmp es k v) ≡ set_among cmp k v (ops es)
    sets_insert [] k v = refl
    sets_insert (e ∷ es) k v =
        elim (cmp k e.0) as (λ o. ops (match_ordering o ((k, v) ∷ e ∷ es) ((e.0, v) ∷ es) (e ∷ insert_entry cmp es k v))
        ≡ match_ordering o (Set k v ∷ ops (e ∷ es)) (Set e.0 v ∷ ops es) (Set e.0 e.1 ∷ set_among cmp k v (ops es))) [
          | Less ↦ refl
          | Equal ↦ refl
          | Greater ↦ ap (Set e.0 e.1 ∷◌) (sets_insert es k v)
        ]

    -- a key is set where the map has it
    pub sets_lookup : (es : List (K × A)) (k : K) → is_some (lookup (is_at (cmp k)) es) ≡ sets_key cmp k (ops es)
    sets_lookup [] k = refl
    sets_lookup (e ∷ es) k =
        elim (is_eq (cmp k e.0)) as (λ b. is_some (cond b (Some e.1) (lookup (is_at (cmp k)) es)) ≡ (b || sets_key cmp k (ops es))) [
          | true ↦ refl
          | false ↦ sets_lookup es k
        ]

    -- a batch with room, or with the key, has no more than it may have
    pub set_few : (base : ℕ) (old new : List (K × A)) (k : K) → length new ≤ length old + 1
        → (is_some (lookup (is_at (cmp k)) old) ≡ true → length new ≤ length old)
        → base + length (ops old) ≤ 2 ^ 62 → (sets_key cmp k (ops old) ≡ true) ⊎ (base + length (ops old) < 2 ^ 62)
        → base + length (ops new) ≤ 2 ^ 62
    set_few base old new k more again few (inl has) =
        let same : length new ≤ length old = again (sets_lookup old k ∙ has) in
        let before : length (ops old) ≡ length old = sets_length old in
        let after : length (ops new) ≡ length new = sets_length new in
        omega (arith, same, before, after, few)
    set_few base old new k more again few (inr room) =
        let before : length (ops old) ≡ length old = sets_length old in
        let after : length (ops new) ≡ length new = sets_length new in
        omega (arith, more, before, after, room)
