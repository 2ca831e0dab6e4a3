-- The marks of a batch that is sealed in its place.
use Rattle.std.proofs.Common.{◌≡◌, ℕ, ◌+◌, ◌-◌, ◌≤◌, List, [], ◌∷◌, ◌++◌, length, map, drop, Option, Some, None, refl, sym, ◌∙◌, ap, subst, arith, append_assoc}
use Rattle.std.specs.Prelude.{min, reverse}
use Rattle.std.specs.List.{AllByRecursion}
use Rattle.std.specs.Option.{ForSome, option_map}
use Rattle.std.proofs.Math.Seq.{drop-append_seam}
use Rattle.std.proofs.lemmas.Bool.Decides.{nat_tests}
use Rattle.std.proofs.lemmas.List.{length-append, length-map, length-reverse, reverse-append}
use Rattle.log_model.specs.Reach.{later}
use Rattle.chain_core.specs.Commitments.{later_state}
use Rattle.chain_core.specs.Marks.{IsMarkedOn}
use Rattle.chain_core.specs.Reached.{item_at, linked_item, one_or_none, items_at, oldest_in, inherited_state, IsPlaceOf}
use Rattle.chain_core.specs.Slots.{slot_at, IsAlive, IsReach}
use Rattle.chain_core.specs.States.{sizes}
use Rattle.chain_core.specs.declared.bounds.Bounds.{Bounds}
use Rattle.chain_core.specs.declared.commitment.Commitment.{Commitment}
use Rattle.chain_core.specs.declared.place.Place.{Place}
use Rattle.chain_core.specs.declared.pool.HeldBatch.{HeldBatch}
use Rattle.chain_core.proofs.PoolLemmas.{alive_held}
use Rattle.chain_core.proofs.StateLemmas.{later_size}

-- ---- lists of sizes

behind_one : (n : ℕ) (ns : List ℕ) → reverse (n ∷ ns) ≡ reverse ns ++ (n ∷ [])
behind_one n ns = reverse-append (n ∷ []) ns

-- the sizes back from a tip, the oldest first
turned : (o d : ℕ) (tips older tail : List ℕ) → tail ++ (d ∷ []) ≡ tips ++ (o ∷ older) → d ∷ reverse tail ≡ reverse older ++ (o ∷ reverse tips)
turned o d tips older tail split =
    sym (reverse-append tail (d ∷ [])) ∙ ap reverse split ∙ reverse-append tips (o ∷ older)
    ∙ ap (λ ns. ns ++ reverse tips) (behind_one o older) ∙ append_assoc (reverse older) (o ∷ []) (reverse tips)

-- the newest of them are kept, and one more behind
cut_marks : (t o d : ℕ) (tips older tail : List ℕ) → tail ++ (d ∷ []) ≡ tips ++ (o ∷ older)
    → let marks = d ∷ reverse tail in drop (length marks - min (length (t ∷ tips)) (length marks)) marks ++ (t ∷ []) ≡ o ∷ reverse (t ∷ tips)
cut_marks t o d tips older tail split =
    let marks : d ∷ reverse tail ≡ reverse older ++ (o ∷ reverse tips) = turned o d tips older tail split in
    let whole : length (d ∷ reverse tail) ≡ length older + (1 + length tips) =
    ap length marks ∙ omega (arith, length-append (reverse older) (o ∷ reverse tips), length-reverse older, length-reverse tips) in
    let count : length (d ∷ reverse tail) - min (length (t ∷ tips)) (length (d ∷ reverse tail)) ≡ length (reverse older) =
    omega (arith, whole, length-reverse older) in
    let kept : drop (length (d ∷ reverse tail) - min (length (t ∷ tips)) (length (d ∷ reverse tail))) (d ∷ reverse tail) ≡ o ∷ reverse tips =
    ap (λ k. drop k (d ∷ reverse tail)) count ∙ ap (drop (length (reverse older))) marks ∙ drop-append_seam (reverse older) (o ∷ reverse tips) in
    ap (λ ns. ns ++ (t ∷ [])) kept ∙ ap (λ ns. o ∷ ns) (sym (behind_one t tips))

pub at_seam : (P : ℕ → Type 0) (xs ys : List ℕ) (o : ℕ) → AllByRecursion P (xs ++ (o ∷ ys)) → P o
at_seam P [] ys o all = all.0
at_seam P (x ∷ xs) ys o all = at_seam P xs ys o all.1

pub later_than : (d o : ℕ) → d ≤ o → later d (Some o) ≡ o
later_than d o le = grind (arith, nat_tests)

-- ---- what is reached

module _ {T F D : Type 0} (bounds : T → Bounds F D) where
  oldest_some : (b : T) (items : List T) → (o : Commitment F D) × (oldest_in bounds (b ∷ items) ≡ Some o)
  oldest_some b [] = ((bounds b).base, refl)
  oldest_some b (c ∷ items) = oldest_some c items

  module _ (pool : List (Option (HeldBatch T))) (id : ℕ) (b : T) (is : item_at pool id ≡ Some b) where
    reached_some : (ids : List ℕ) → IsReach (slot_at pool) (Some id) ids → (items : List T) × (items_at pool ids ≡ b ∷ items)
    reached_some [] dead = let none : item_at pool id ≡ None = ap (option_map (λ (h : HeldBatch T). h.item)) dead in absurd cc
    reached_some (first ∷ ids) reach = (items_at pool ids, ap (λ o. one_or_none o ++ items_at pool ids) (ap (item_at pool) reach.0 ∙ is))

-- the marks of a batch that is sealed in its place are those that its states say
pub marks_sealed : {T F D : Type 0} (bounds : T → Bounds F D) (pool : List (Option (HeldBatch T))) (parent : Option ℕ) (base : Commitment F D) (floor : ℕ) (place : Place F D)
    (marks : List ℕ) → IsPlaceOf bounds pool parent base floor place → ForSome parent (IsAlive pool) → IsMarkedOn bounds pool parent base marks
    → ((b : T) → linked_item pool parent ≡ Some b → AllByRecursion (λ n. (bounds b).db.size ≤ n) marks)
    → drop (length marks - min (length place.ancestors) (length marks)) marks ++ (base.size ∷ []) ≡ place.boundary.size ∷ reverse (sizes place.ancestors)
marks_sealed {T} {F} {D} bounds pool None base floor place marks at alive on low =
    let ids : items_at pool at.reach.ids ≡ [] = ap (items_at pool) at.reach.reach in
    let tips : place.ancestors ≡ [] = at.reach.tips_are ∙ ap (map (λ (c : T). (bounds c).tip)) ids in
    let oldest : at.oldest ≡ None = at.reach.oldest_is ∙ ap (oldest_in bounds) ids in
    let boundary : place.boundary ≡ base = at.boundary ∙ ap (later_state base) oldest in
    let none : marks ≡ [] = on.none refl in
    rw (none, tips, boundary) refl
marks_sealed {T} {F} {D} bounds pool (Some id) base floor place marks at alive on low =
    let held = alive_held (slot_at pool id) (alive id refl) in
    let b : T = held.0.item in
    let is : item_at pool id ≡ Some b = ap (option_map (λ (h : HeldBatch T). h.item)) held.1 in
    let items = reached_some bounds pool id b is at.reach.ids at.reach.reach in
    let tips : place.ancestors ≡ (bounds b).tip ∷ map (λ (c : T). (bounds c).tip) items.0 = at.reach.tips_are ∙ ap (map (λ (c : T). (bounds c).tip)) items.1 in
    let some = oldest_some bounds b items.0 in
    let oldest : at.oldest ≡ Some some.0 = at.reach.oldest_is ∙ ap (oldest_in bounds) items.1 ∙ some.1 in
    let newest = on.reached b is place.ancestors at.oldest at.reach in
    let n = (bounds b).tip.size in
    let d = (bounds b).db.size in
    let behind = sizes (map (λ (c : T). (bounds c).tip) items.0) in
    let back : n ∷ (sizes (bounds b).ancestors ++ (d ∷ [])) ≡ n ∷ (behind ++ (some.0.size ∷ newest.older)) =
    newest.split ∙ ap (λ cs. sizes cs ++ (sizes (one_or_none at.oldest) ++ newest.older)) tips
    ∙ ap (λ o. sizes ((bounds b).tip ∷ map (λ (c : T). (bounds c).tip) items.0) ++ (sizes (one_or_none o) ++ newest.older)) oldest in
    let split : sizes (bounds b).ancestors ++ (d ∷ []) ≡ behind ++ (some.0.size ∷ newest.older) = cc in
    let own : marks ≡ d ∷ reverse (sizes (bounds b).ancestors) = on.own b is in
    let parted = turned some.0.size d behind newest.older (sizes (bounds b).ancestors) split in
    let later_one : d ≤ some.0.size = at_seam (λ k. d ≤ k) (reverse newest.older) (reverse behind) some.0.size (subst (AllByRecursion (λ k. d ≤ k)) (own ∙ parted) (low b is)) in
    let inherited : inherited_state bounds pool (Some id) base ≡ (bounds b).db = rw is refl in
    let boundary : place.boundary.size ≡ some.0.size =
    ap (λ (c : Commitment F D). c.size) (at.boundary ∙ ap (λ c. later_state c at.oldest) inherited ∙ ap (later_state (bounds b).db) oldest)
    ∙ later_size (bounds b).db (Some some.0) ∙ later_than d some.0.size later_one in
    let whole : sizes place.ancestors ≡ n ∷ behind = ap sizes tips in
    let count : length place.ancestors ≡ length (n ∷ behind) = sym (length-map place.ancestors (λ (c : Commitment F D). c.size)) ∙ ap length whole in
    rw (own, on.base_is b is, boundary, count, whole) (cut_marks n some.0.size d behind newest.older (sizes (bounds b).ancestors) split)
