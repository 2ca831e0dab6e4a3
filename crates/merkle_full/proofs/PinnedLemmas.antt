-- The map of a boundary that moves.
use Rattle.std.proofs.Common.{◌≡◌, Ordering, Less, Equal, Greater, inl, inr, ℕ, zero, suc, ◌*◌, ◌<◌, ◌≤◌, Bool, true, false, cond, List, [], ◌∷◌, length, map, take, Some, refl, sym, ◌∙◌, ap, subst, arith}
use Rattle.std.specs.Prelude.{◌≢◌, ◌⊎◌, ◌^◌, slice_get, IsSome, is_some}
use Rattle.std.specs.Int.{w64, from_be_bytes, to_be_bytes}
use Rattle.std.specs.Option.{option_map}
use Rattle.std.specs.Ordering.{nat_cmp, eq_by_cmp, is_eq}
use Rattle.std.specs.Cmp.{eq_by_cmp_equiv}
use Rattle.std.specs.Cmp.Lexicographic.{slice_cmp, nat_list_cmp_total}
use Rattle.std.specs.FinMap as finmap
use Rattle.std.specs.FinMap.{get-insert, slice_cmp-IsAntisymmetric, nat_cmp-IsAntisymmetric}
use Rattle.std.proofs.lemmas.List.{length-take}
use Rattle.std.proofs.lemmas.Nat.{from_be_bytes-to_be_bytes_8}
use Rattle.std.proofs.lemmas.Option.{slice_get-map, slice_get_within, same_Some}
use Rattle.codec_base.specs.Laws.{eight_bytes}
use Rattle.volume_base.specs.Volume.{Map}
use Rattle.tree_shape.specs.Hashing.{Hashing}
use Rattle.tree_shape.specs.Shape.{Shape, made, peaks, IsLawful}
use Rattle.tree_shape.specs.Pins.{pins}
use Rattle.tree_shape.specs.Slow.{nodes, node_of}
use Rattle.tree_shape.proofs.NeededLemmas.{made_le}
use Rattle.tree_store.specs.Stored.{node_key, boundary_key, IsMapOf}
use Rattle.tree_store.proofs.StoreLemmas.{get-take}
use Rattle.merkle_full.specs.Pinning.{IsPinAt}
use Rattle.merkle_full.specs.Pruning.{with_pins, pinned_map, KeepsPins, KeepsOthers}
use Rattle.merkle_full.proofs.PeakLemmas.{pin_below, pin_of_peak}
use Rattle.merkle_full.proofs.RepinLemmas.{pin_node}
use Rattle.merkle_full.proofs.ListLemmas.{mapped_some, taken}

abbrev same_key : List ℕ → List ℕ → Bool
same_key = eq_by_cmp (slice_cmp nat_cmp)

is_equal : (o : Ordering) → is_eq o ≡ true → o ≡ Equal
is_equal Less t = absurd cc
is_equal Equal t = refl
is_equal Greater t = absurd cc

key_is : (q k : List ℕ) → same_key q k ≡ true → q ≡ k
key_is q k t = slice_cmp-IsAntisymmetric nat_cmp-IsAntisymmetric q k (is_equal (slice_cmp nat_cmp q k) t)

key_self : (k : List ℕ) → same_key k k ≡ true
key_self k = (eq_by_cmp_equiv nat_list_cmp_total).refl k

put_get : (m : Map) (k v q : List ℕ) → finmap.get (finmap.insert m k v) q ≡ cond (same_key q k) (Some v) (finmap.get m q)
put_get m k v q = get-insert nat_list_cmp_total m k v q

pub put_has : (m : Map) (k v q : List ℕ) → IsSome (finmap.get m q) → IsSome (finmap.get (finmap.insert m k v) q)
put_has m k v q has = ap is_some (put_get m k v q) ∙ by (same_key q k)
  where
    by : (t : Bool) → is_some (cond t (Some v) (finmap.get m q)) ≡ true
    by true = refl
    by false = has

-- ---- keys

heads : (a b : ℕ) (xs ys : List ℕ) → a ∷ xs ≡ b ∷ ys → a ≡ b
heads a b xs ys e = same_Some a b (ap (λ l. slice_get l 0) e)

pub keys_apart : (p : ℕ) → node_key p ≡ boundary_key → ⊥
unfolding node_key boundary_key
keys_apart p e = absurd (let bad = heads 0 1 (eight_bytes p) (eight_bytes 0) e in omega (arith, bad))

tails : (a b : ℕ) (xs ys : List ℕ) → a ∷ xs ≡ b ∷ ys → xs ≡ ys
tails a b xs ys e = ap rest e
  where
    rest : List ℕ → List ℕ
    rest [] = []
    rest (z ∷ zs) = zs

pub same_place : (p q : ℕ) → p < 2 ^ 64 → q < 2 ^ 64 → node_key p ≡ node_key q → p ≡ q
unfolding node_key
same_place p q lp lq e =
    let bytes : to_be_bytes w64 p ≡ to_be_bytes w64 q = tails 0 0 (eight_bytes p) (eight_bytes q) e in
    sym (from_be_bytes-to_be_bytes_8 p lp) ∙ ap (from_be_bytes w64) bytes ∙ from_be_bytes-to_be_bytes_8 q lq

-- ---- pins put one after another

pub record IsPut {D : Type 0} (spelling : D → List ℕ) (ps : List ℕ) (ds : List D) (key bytes : List ℕ) : Type 0 where
  pub position : ℕ
  pub digest : D
  pub at : IsPinAt ps ds position digest
  pub key_is : key ≡ node_key position
  pub bytes_are : bytes ≡ spelling digest

pub put_among : {D : Type 0} (spelling : D → List ℕ) (m : Map) (ps : List ℕ) (ds : List D) (key bytes : List ℕ) → finmap.get (with_pins spelling m ps ds) key ≡ Some bytes → IsPut spelling ps ds key bytes ⊎ (finmap.get m key ≡ Some bytes)
put_among spelling m [] ds key bytes is = inr is
put_among spelling m (p ∷ ps) [] key bytes is = inr is
put_among {D = D} spelling m (p ∷ ps) (d ∷ ds) key bytes is = elim (put_among spelling (finmap.insert m (node_key p) (spelling d)) ps ds key bytes is) [
  | inl later ↦ inl (record { position = later.position; digest = later.digest; at = (let a = later.at in record { index = suc a.index; position = a.position; digest = a.digest }); key_is = later.key_is; bytes_are = later.bytes_are })
  | inr here ↦ by (same_key key (node_key p)) refl (sym (put_get m (node_key p) (spelling d) key) ∙ here)
]
  where
    by : (t : Bool) → same_key key (node_key p) ≡ t → cond t (Some (spelling d)) (finmap.get m key) ≡ Some bytes → IsPut spelling (p ∷ ps) (d ∷ ds) key bytes ⊎ (finmap.get m key ≡ Some bytes)
    by true hit e = inl (record { position = p; digest = d; at = record { index = 0; position = refl; digest = refl }; key_is = key_is key (node_key p) hit; bytes_are = sym (same_Some (spelling d) bytes e) })
    by false miss e = inr e

pub pins_have : {D : Type 0} (spelling : D → List ℕ) (m : Map) (ps : List ℕ) (ds : List D) (key : List ℕ) → IsSome (finmap.get m key) → IsSome (finmap.get (with_pins spelling m ps ds) key)
pins_have spelling m [] ds key has = has
pins_have spelling m (p ∷ ps) [] key has = has
pins_have spelling m (p ∷ ps) (d ∷ ds) key has = pins_have spelling (finmap.insert m (node_key p) (spelling d)) ps ds key (put_has m (node_key p) (spelling d) key has)

pub pinned_keeps : {D : Type 0} (spelling : D → List ℕ) (m : Map) (ps : List ℕ) (ds : List D) (boundary : ℕ) → KeepsPins m (pinned_map spelling m ps ds boundary)
pinned_keeps spelling m ps ds boundary p has = put_has (with_pins spelling m ps ds) boundary_key (eight_bytes boundary) (node_key p) (pins_have spelling m ps ds (node_key p) has)

-- of another key there stays what was there
other_stays : (m : Map) (k v q : List ℕ) → q ≢ k → finmap.get (finmap.insert m k v) q ≡ finmap.get m q
other_stays m k v q not = put_get m k v q ∙ by (same_key q k) refl
  where
    by : (t : Bool) → same_key q k ≡ t → cond t (Some v) (finmap.get m q) ≡ finmap.get m q
    by true is = absurd (not (key_is q k is))
    by false is = refl

others_stay : {D : Type 0} (spelling : D → List ℕ) (m : Map) (ps : List ℕ) (ds : List D) (key : List ℕ) → ((i p : ℕ) → slice_get ps i ≡ Some p → key ≢ node_key p) → finmap.get (with_pins spelling m ps ds) key ≡ finmap.get m key
others_stay spelling m [] ds key not = refl
others_stay spelling m (p ∷ ps) [] key not = refl
others_stay spelling m (p ∷ ps) (d ∷ ds) key not =
    others_stay spelling (finmap.insert m (node_key p) (spelling d)) ps ds key (λ i q at. not (suc i) q at) ∙ other_stays m (node_key p) (spelling d) key (not 0 p refl)

pub pinned_others : {D : Type 0} (spelling : D → List ℕ) (m : Map) (ps : List ℕ) (ds : List D) (boundary : ℕ) → KeepsOthers ps m (pinned_map spelling m ps ds boundary)
pinned_others spelling m ps ds boundary key apart not = other_stays (with_pins spelling m ps ds) boundary_key (eight_bytes boundary) key apart ∙ others_stay spelling m ps ds key not

pub pins_all : {D : Type 0} (spelling : D → List ℕ) (m : Map) (ps : List ℕ) (ds : List D) (i p : ℕ) → length ps ≡ length ds → slice_get ps i ≡ Some p → IsSome (finmap.get (with_pins spelling m ps ds) (node_key p))
pins_all spelling m [] ds i p l at = absurd cc
pins_all spelling m (q ∷ ps) [] i p l at = absurd (omega (arith, l))
pins_all spelling m (q ∷ ps) (d ∷ ds) zero p l at =
    let same : q ≡ p = same_Some q p at in
    let here : IsSome (finmap.get (finmap.insert m (node_key q) (spelling d)) (node_key q)) = ap is_some (put_get m (node_key q) (spelling d) (node_key q) ∙ ap (λ t. cond t (Some (spelling d)) (finmap.get m (node_key q))) (key_self (node_key q))) in
    pins_have spelling (finmap.insert m (node_key q) (spelling d)) ps ds (node_key p) (subst (λ (r : ℕ). IsSome (finmap.get (finmap.insert m (node_key q) (spelling d)) (node_key r))) same here)
pins_all spelling m (q ∷ ps) (d ∷ ds) (suc i) p l at = pins_all spelling (finmap.insert m (node_key q) (spelling d)) ps ds i p (omega (arith, l)) at

-- ---- the map of the next boundary

entry : {D : Type 0} (spelling : D → List ℕ) (xs : List D) (e p : ℕ) (d : D) → p < e → slice_get xs p ≡ Some d → slice_get (map spelling (take e xs)) p ≡ Some (spelling d)
entry spelling xs e p d lt at = slice_get-map spelling (take e xs) p ∙ ap (option_map spelling) (get-take xs e p lt ∙ at)

pub pinned_is_map : {D : Type 0} (s : Shape) (h : Hashing D) (spelling : D → List ℕ) (all ds : List D) (b c : ℕ) (m : Map) → IsLawful s → length (made s c) ≤ 2 * c → c ≤ 2 ^ 62 → b ≤ c → c ≤ length all
    → length (pins s c) ≡ length ds → ds ≡ map (node_of s h all) (peaks s c) → IsMapOf s h spelling all b m → IsMapOf s h spelling all c (pinned_map spelling m (pins s c) ds c)
pinned_is_map {D = D} s h spelling all ds b c m w small few le within counted is old = record {
  stored = inl (put_get X boundary_key (eight_bytes c) boundary_key ∙ ap (λ t. cond t (Some (eight_bytes c)) (finmap.get X boundary_key)) (key_self boundary_key));
  within = within;
  pins = pin;
  peaks = λ x k peak.
      let at = pin_of_peak s c x k peak in
      put_has X boundary_key (eight_bytes c) (node_key (s.position x k)) (pins_all spelling m (pins s c) ds at.0 (s.position x k) counted at.1);
}
  where
    X : Map
    X = with_pins spelling m (pins s c) ds

    beneath : (p : ℕ) (bytes : List ℕ) (t : Bool) → same_key (node_key p) boundary_key ≡ t → cond t (Some (eight_bytes c)) (finmap.get X (node_key p)) ≡ Some bytes → finmap.get X (node_key p) ≡ Some bytes
    beneath p bytes true hit e = absurd (keys_apart p (key_is (node_key p) boundary_key hit))
    beneath p bytes false miss e = e

    pin : (p : ℕ) (bytes : List ℕ) → p < 2 ^ 64 → finmap.get (finmap.insert X boundary_key (eight_bytes c)) (node_key p) ≡ Some bytes → slice_get (map spelling (take (length (made s c)) (nodes s h all))) p ≡ Some bytes
    pin p bytes lt at = elim (put_among spelling m (pins s c) ds (node_key p) bytes (beneath p bytes (same_key (node_key p) boundary_key) refl (sym (put_get X boundary_key (eight_bytes c) (node_key p)) ∙ at))) [
      | inl put ↦
          let below = let a = put.at in pin_below s c a.index put.position w a.position in
          let same : p ≡ put.position = same_place p put.position lt (omega (arith, below, small, few)) put.key_is in
          let node = pin_node s h all ds c put.position put.digest w within is put.at in
          ap (slice_get (map spelling (take (length (made s c)) (nodes s h all)))) same ∙ entry spelling (nodes s h all) (length (made s c)) put.position put.digest below node ∙ ap Some (sym put.bytes_are)
      | inr before ↦
          let there = old.pins p bytes lt before in
          let x = mapped_some spelling (slice_get (take (length (made s b)) (nodes s h all)) p) bytes (sym (slice_get-map spelling (take (length (made s b)) (nodes s h all)) p) ∙ there) in
          let place : p < length (made s c) = omega (arith, slice_get_within (take (length (made s b)) (nodes s h all)) p x.0 x.1, length-take (length (made s b)) (nodes s h all), made_le s b c le) in
          entry spelling (nodes s h all) (length (made s c)) p x.0 place (taken (nodes s h all) (length (made s b)) p x.0 x.1) ∙ ap Some (sym x.2)
    ]
