-- The witnesses of lists.
use Rattle.std.proofs.Common.{◌≡◌, ℕ, zero, suc, ◌+◌, ◌-◌, ◌^◌, ◌<◌, ◌≤◌, List, [], ◌∷◌, ◌++◌, length, map, take, drop, reverse, get_or, refl, sym, ◌∙◌, ap, arith}
use Rattle.std.specs.List.{AllByRecursion}
use Rattle.std.proofs.lemmas.List.{map-append, length-map, take-append-drop, take-append-le, length-take, get_or_append_left}
use Rattle.tree_shape.specs.Hashing.{Hashing}
use Rattle.tree_shape.specs.Shape.{Shape, IsLawful, peaks, peaks_down}
use Rattle.tree_shape.specs.Slow.{node, node_of}
use Rattle.tree_shape.proofs.NodeLemmas.{map-reverse, length-peaks}
use Rattle.tree_core.proofs.Later.{peaks_at-append}
use Rattle.log_model.specs.Meaning.{Meaning}
use Rattle.log_model.specs.Operations.{leaves_from}
use Rattle.log_model.specs.Witness.{pins_of, last_bytes}
use Rattle.log_model.proofs.OperationLemmas.{leaves_from-append, length-leaves_from}
use Rattle.witness_store.specs.Witness.{IsAllowed}
use Rattle.witness_store.specs.declared.witness.Witness.{Witness}
use Rattle.compact_db.specs.WitnessOf.{witness_of}

witness_is : {F D : Type 0} (bytes bytes' : List ℕ) (n : ℕ) (pins pins' : List D) → bytes ≡ bytes' → pins ≡ pins'
    → (let one : Witness F D = record { op_bytes = bytes; size = n; pinned_nodes = pins } in one)
    ≡ record { op_bytes = bytes'; size = n; pinned_nodes = pins' }
witness_is bytes bytes' n pins pins' p q = rw (p, q) refl

module _ {D Op V : Type 0} (s : Shape) (h : Hashing D) (m : Meaning Op V) where
  pub longer : {F : Type 0} (ops more : List Op) (n : ℕ) → 0 < n → n ≤ length ops
      → witness_of {F = F} s h m (ops ++ more) n ≡ witness_of s h m ops n
  longer ops more n some le =
      let bytes : last_bytes s h m (ops ++ more) n ≡ last_bytes s h m ops n =
      ap (λ es. get_or es (n - 1) []) (map-append m.encoding ops more)
      ∙ get_or_append_left (map m.encoding ops) (map m.encoding more) [] (n - 1)
      (omega (arith, some, le, length-map ops m.encoding)) in
      let front : take (n - 1) (ops ++ more) ≡ take (n - 1) ops = take-append-le (n - 1) ops more (omega (arith, le)) in
      let pins : pins_of s h m (ops ++ more) (n - 1) ≡ pins_of s h m ops (n - 1) =
      ap (λ os. map (node_of s h (leaves_from s h m 0 os)) (peaks s (n - 1))) front in
      witness_is _ _ n _ _ bytes pins

  -- the peaks of a front are the same in the whole list
  pub pins_whole : IsLawful s → (ops : List Op) (n : ℕ) → n ≤ length ops
      → map (node_of s h (leaves_from s h m 0 ops)) (peaks s n) ≡ pins_of s h m ops n
  pins_whole w ops n le =
      let xs = leaves_from s h m 0 (take n ops) in
      let ys = leaves_from s h m (0 + length (take n ops)) (drop n ops) in
      let whole : leaves_from s h m 0 ops
      ≡ leaves_from s h m 0 (take n ops) ++ leaves_from s h m (0 + length (take n ops)) (drop n ops) =
      ap (leaves_from s h m 0) (sym (take-append-drop n ops))
      ∙ leaves_from-append s h m 0 (take n ops) (drop n ops) in
      let count : length (leaves_from s h m 0 (take n ops)) ≡ n =
      length-leaves_from s h m 0 (take n ops) ∙ omega (arith, le, length-take n ops) in
      let same = rw count at (peaks_at-append s h (leaves_from s h m 0 (take n ops))
      (leaves_from s h m (0 + length (take n ops)) (drop n ops)) w) in
      ap (λ ds. map (node_of s h ds) (peaks s n)) whole
      ∙ map-reverse (node_of s h _) (peaks_down n (s.heights n)) ∙ ap reverse same
      ∙ sym (map-reverse (node_of s h (leaves_from s h m 0 (take n ops))) (peaks_down n (s.heights n)))

  pub made_is : IsLawful s → {F : Type 0} (ops : List Op) → (let one : Witness F D = record {
    op_bytes = last_bytes s h m ops (length ops);
    size = length (leaves_from s h m 0 ops);
    pinned_nodes = map (node_of s h (leaves_from s h m 0 ops)) (peaks s (length (leaves_from s h m 0 ops) - 1));
  } in one) ≡ witness_of s h m ops (length ops)
  made_is w ops =
      let count = length-leaves_from s h m 0 ops in
      rw count (witness_is _ _ (length ops) _ _ refl (pins_whole w ops (length ops - 1) (omega arith)))

  -- ---- what is hashed is allowed as a digest, so each node is

  module _ (admits : D → Type 0) (hashed : (bytes : List ℕ) → admits (h.digest bytes)) where
    leaf_allowed : (i : ℕ) (ops : List Op) (x : ℕ) → admits (get_or (leaves_from s h m i ops) x (h.digest []))
    leaf_allowed i [] x = hashed []
    leaf_allowed i (op ∷ ops) zero = hashed _
    leaf_allowed i (op ∷ ops) (suc x) = leaf_allowed (i + 1) ops x

    node_allowed : (ops : List Op) (x k : ℕ) → admits (node s h (leaves_from s h m 0 ops) x k)
    unfolding node
    node_allowed ops x zero = leaf_allowed 0 ops x
    node_allowed ops x (suc k) = hashed _

    nodes_allowed : (ops : List Op) (cs : List (ℕ × ℕ)) → AllByRecursion admits (map (node_of s h (leaves_from s h m 0 ops)) cs)
    nodes_allowed ops [] = tt
    nodes_allowed ops (c ∷ cs) = (node_allowed ops c.0 c.1, nodes_allowed ops cs)

    pub witness_allowed : (F : Type 0) → ((n : ℕ) → n ≤ 2 ^ 62 → length (s.heights n) ≤ 64) → (ops : List Op) (size : ℕ)
        → size ≤ 2 ^ 62 → length (last_bytes s h m ops size) < 2 ^ 64 → IsAllowed {F = F} admits (witness_of s h m ops size)
    witness_allowed F few ops size le short =
        let counted = length-peaks s h (leaves_from s h m 0 (take (size - 1) ops)) (size - 1) in
        let peaks_few = few (size - 1) (omega (arith, le)) in (
          (omega (arith, short), short),
          ((omega (arith, le), le), (omega (arith, counted, peaks_few), omega (arith, counted, peaks_few), nodes_allowed (take (size - 1) ops) (peaks s (size - 1)))),
        )
