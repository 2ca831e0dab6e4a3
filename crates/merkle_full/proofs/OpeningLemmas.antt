-- Opening a tree.
use Rattle.std.proofs.Common.{◌≡◌, ⊎_elim, inl, inr, ℕ, ◌+◌, ◌-◌, ◌<◌, ◌≤◌, min, List, length, map, take, drop, Some, None, Option, refl, sym, ◌∙◌, ap, arith}
use Rattle.std.specs.Prelude.{◌^◌, slice_get}
use Rattle.std.specs.FinMap as fin
use Rattle.std.proofs.lemmas.Bool.{cases_lt}
use Rattle.std.proofs.lemmas.Option.{slice_get-map}
use Rattle.volume_base.specs.Log.{Log, IsItemAt}
use Rattle.volume_base.specs.Volume.{Map}
use Rattle.tree_shape.specs.Hashing.{Hashing}
use Rattle.tree_shape.specs.Shape.{Shape, made}
use Rattle.tree_shape.specs.Slow.{nodes}
use Rattle.tree_shape.specs.Sizes.{IsNearest, HasSize}
use Rattle.tree_shape.proofs.NeededLemmas.{made_le}
use Rattle.tree_core.proofs.BuiltLemmas.{sizes_apart}
use Rattle.merkle_full.specs.Opening.{IsMost, IsLeast}
use Rattle.tree_store.specs.Stored.{node_key, TreeStands}
use Rattle.merkle_full.proofs.ListLemmas.{get_behind, mapped_some, taken}

pub fewer : (s : Shape) (m n : ℕ) → length (made s m) ≤ length (made s n) → m ≤ n
fewer s m n le = sizes_apart s n m (length (made s n) - length (made s m)) (omega (arith, le))

pub nearest_most : (s : Shape) (p size n : ℕ) → IsNearest s p size → HasSize s n size → IsMost s (2 ^ 62) p n
nearest_most s p size n near has = record {
  few = has.0;
  fits = omega (arith, has.1, near.below);
  most = λ m few fits. fewer s m n (let le = near.greatest m few fits in omega (arith, le, has.1));
}

pub most_under : (s : Shape) (cap end n : ℕ) → cap ≤ 2 ^ 62 → IsMost s (2 ^ 62) (min end (length (made s cap))) n → IsMost s cap end n
most_under s cap end n few most = record {
  few = fewer s n cap (omega (arith, most.fits));
  fits = omega (arith, most.fits);
  most = λ m le fits. most.most m (omega (arith, le, few)) (omega (arith, fits, made_le s m cap le));
}

pub least_here : (s : Shape) (start n : ℕ) → length (made s n) ≡ start → IsLeast s start n
least_here s start n is = record { past = omega (arith, is); least = λ m le. fewer s n m (omega (arith, is, le)) }

pub least_next : (s : Shape) (start n : ℕ) → start ≤ length (made s (2 ^ 62)) → IsMost s (2 ^ 62) start n → (length (made s n) ≡ start → ⊥) → IsLeast s start (n + 1)
least_next s start n within most not = record {
  past = ⊎_elim
      (λ lt. omega (arith, lt))
      (λ le. absurd (elim (cases_lt n (2 ^ 62)) [
        | inl room ↦ let bad = most.most (n + 1) (omega (arith, room)) le in omega (arith, bad)
        | inr full ↦ not (let same : n ≡ 2 ^ 62 = omega (arith, full, most.few) in omega (arith, most.fits, within, ap (λ k. length (made s k)) same))
      ]))
      (cases_lt start (length (made s (n + 1))));
  least = λ m le. ⊎_elim
      (λ lt. omega (arith, lt))
      (λ low. absurd (not (let under = made_le s m n (omega (arith, low)) in omega (arith, most.fits, le, under))))
      (cases_lt n m);
}

-- ---- a node in the map or the log

pub same_digest : {D : Type 0} (spelling : D → List ℕ) (xs : List D) (p : ℕ) (d : D) (bytes : List ℕ) → ((a b : D) → spelling a ≡ spelling b → a ≡ b) → slice_get (map spelling xs) p ≡ Some bytes → bytes ≡ spelling d → slice_get xs p ≡ Some d
same_digest spelling xs p d bytes exact is spelled =
    let m = mapped_some spelling (slice_get xs p) bytes (sym (slice_get-map spelling xs p) ∙ is) in
    m.1 ∙ ap Some (exact m.0 d (sym m.2 ∙ spelled))

pub node_in_map : {D : Type 0} (s : Shape) (h : Hashing D) (spelling : D → List ℕ) (all : List D) (durable top p : ℕ) (log : Log) (m : Map) (d : D) → ((a b : D) → spelling a ≡ spelling b → a ≡ b) → p < 2 ^ 64
    → TreeStands s h spelling all durable top log m
    → ((bytes : List ℕ) → fin.get m (node_key p) ≡ Some bytes → (x : D) × (Some d ≡ Some x) × (bytes ≡ spelling x)) → (fin.get m (node_key p) ≡ None → Some d ≡ None) → slice_get (nodes s h all) p ≡ Some d
node_in_map {D = D} s h spelling all durable top p log m d exact fits stands pin none = by (fin.get m (node_key p)) refl
  where
    b : ℕ
    b = length (made s stands.boundary)

    by : (o : Option (List ℕ)) → fin.get m (node_key p) ≡ o → slice_get (nodes s h all) p ≡ Some d
    by (Some bytes) is =
        let x = pin bytes is in
        let here = same_digest spelling (take b (nodes s h all)) p x.0 bytes exact (stands.pins.pins p bytes fits is) x.2 in
        taken (nodes s h all) b p x.0 here ∙ sym x.1
    by None is = absurd (let bad = none is in cc)

pub node_in_log : {D : Type 0} (s : Shape) (h : Hashing D) (spelling : D → List ℕ) (all : List D) (durable top p : ℕ) (log : Log) (m : Map) (d : D) → ((a b : D) → spelling a ≡ spelling b → a ≡ b)
    → TreeStands s h spelling all durable top log m → IsItemAt log p (spelling d) → slice_get (nodes s h all) p ≡ Some d
node_in_log s h spelling all durable top p log m d exact stands item =
    let place : log.start + (p - log.start) ≡ p = omega (arith, item.low) in
    let part : slice_get (take (length log.items) (drop log.start (map spelling (nodes s h all)))) (p - log.start) ≡ Some (spelling d) = ap (λ l. slice_get l (p - log.start)) (sym stands.nodes.items) ∙ item.here in
    let there : slice_get (map spelling (nodes s h all)) (log.start + (p - log.start)) ≡ Some (spelling d) = sym (get_behind (map spelling (nodes s h all)) log.start (p - log.start)) ∙ taken (drop log.start (map spelling (nodes s h all))) (length log.items) (p - log.start) (spelling d) part in
    same_digest spelling (nodes s h all) p d (spelling d) exact (ap (slice_get (map spelling (nodes s h all))) (sym place) ∙ there) refl
