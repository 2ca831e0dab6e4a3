-- What stands for a state goes on to do so.
use Rattle.std.proofs.Common.{◌≡◌, inr, ℕ, zero, suc, ◌+◌, ◌-◌, ◌<◌, ◌≤◌, Bool, true, false, cond, List, [], ◌∷◌, ◌++◌, length, map, take, Some, refl, sym, ◌∙◌, ap, subst, arith}
use Rattle.std.specs.Prelude.{nat_le, slice_index_or, IfSome}
use Rattle.std.specs.FinMap as finmap
use Rattle.std.proofs.lemmas.List.{map-append, length-map, take-append-le, get_or_append_left}
use Rattle.tree_shape.specs.Hashing.{Hashing}
use Rattle.tree_shape.specs.Shape.{Shape, IsLawful, peaks}
use Rattle.tree_shape.specs.Slow.{node_of}
use Rattle.volume_base.specs.Log.{Log, no_log}
use Rattle.volume_base.specs.Volume.{Map}
use Rattle.volume_base.specs.Bounds.{IsPartOf}
use Rattle.volume_base.specs.Moments.{Image}
use Rattle.volume_base.proofs.BoundLemmas.{part_wider, part_of_longer}
use Rattle.tree_store.specs.Stored as tree
use Rattle.tree_store.proofs.StoredLemmas.{stands_wider, stands_longer, stands_empty}
use Rattle.log_model.specs.Meaning.{Meaning}
use Rattle.log_model.specs.Operations.{leaves_from}
use Rattle.log_model.specs.Machine.{fresh}
use Rattle.log_model.specs.AppliedSizes.{RiseTo, AreSizes, first_at_least}
use Rattle.log_model.specs.Good.{IsGood}
use Rattle.log_model.specs.Witness.{pins_of, last_bytes, witness_text}
use Rattle.log_model.specs.Stored.{DatabaseNames, FullStands, CompactStands, StandsFor, IsEmpty, durable_witnesses}
use Rattle.log_model.proofs.OperationLemmas.{leaves_from-append}
use Rattle.log_model.proofs.SizeLemmas.{first_higher, first_longer, not_le, rise_le}

-- ---- how many witnesses are durable

witnesses_less : (sizes : List ℕ) (durable less : ℕ) → less ≤ durable → durable_witnesses sizes less ≤ durable_witnesses sizes durable
witnesses_less sizes durable zero le = omega arith
witnesses_less sizes zero (suc less) le = absurd (omega (arith, le))
witnesses_less sizes (suc durable) (suc less) le = let more = first_higher (suc less) (suc durable) sizes le in omega (arith, more)

-- the first that is at least a number is the same among more sizes, where the last of them is
first_same : (low high l : ℕ) (ns more : List ℕ) → RiseTo low high ns → low < l → l ≤ high → first_at_least l (ns ++ more) ≡ first_at_least l ns
first_same low high l [] more r lt le = absurd (omega (arith, r, lt, le))
first_same low high l (n ∷ ns) more r lt le = pick (λ past. first_same n high l ns more r.1 past le) (nat_le l n) refl
  where
    pick : (n < l → first_at_least l (ns ++ more) ≡ first_at_least l ns) → (b : Bool) → nat_le l n ≡ b → cond b zero (suc (first_at_least l (ns ++ more))) ≡ cond b zero (suc (first_at_least l ns))
    pick later true e = refl
    pick later false e = ap suc (later (not_le l n e))

pub witnesses_same : (total durable : ℕ) (sizes more : List ℕ) → AreSizes total sizes → durable ≤ total → durable_witnesses (sizes ++ more) durable ≡ durable_witnesses sizes durable
witnesses_same total zero sizes more r le = refl
witnesses_same total (suc durable) sizes more r le = ap (λ n. n + 1) (first_same 0 total (suc durable) sizes more (from_zero sizes r) (omega arith) le)
  where
    from_zero : (ns : List ℕ) → AreSizes total ns → RiseTo 0 total ns
    from_zero [] r = absurd r
    from_zero (n ∷ ns) r = let one = r.0 in (omega (arith, one), rw one r.1)

module _ {D Op V : Type 0} (s : Shape) (h : Hashing D) (spelling : D → List ℕ) (m : Meaning Op V) where
  -- ---- operations and nodes

  pub full_wider : (ops : List Op) (prune prune' durable durable' node_durable node_durable' : ℕ) (log node_log : Log) (metadata : Map) → prune ≤ prune' → durable' ≤ durable → node_durable' ≤ node_durable
      → FullStands s h spelling m ops prune durable node_durable log node_log metadata → FullStands s h spelling m ops prune' durable' node_durable' log node_log metadata
  full_wider ops prune prune' durable durable' node_durable node_durable' log node_log metadata higher less fewer stands = record {
    operations = part_wider (map m.encoding ops) prune prune' durable durable' log higher less stands.operations;
    tree = stands_wider s h spelling (leaves_from s h m 0 ops) node_durable node_durable' log.start log.start node_log metadata fewer (omega arith) stands.tree;
  }

  pub full_longer : IsLawful s → (ops more : List Op) (prune durable node_durable : ℕ) (log node_log : Log) (metadata : Map)
      → FullStands s h spelling m ops prune durable node_durable log node_log metadata → FullStands s h spelling m (ops ++ more) prune durable node_durable log node_log metadata
  full_longer w ops more prune durable node_durable log node_log metadata stands =
      let later : List D = leaves_from s h m (0 + length ops) more in
      record {
        operations = subst (λ (items : List (List ℕ)). IsPartOf items prune durable log) (sym (map-append m.encoding ops more)) (part_of_longer (map m.encoding ops) (map m.encoding more) prune durable log stands.operations);
        tree = subst (λ (all : List D). tree.TreeStands s h spelling all node_durable log.start node_log metadata) (sym (leaves_from-append s h m 0 ops more)) (stands_longer s h spelling (leaves_from s h m 0 ops) later node_durable log.start node_log metadata w stands.tree);
      }

  -- ---- witnesses

  -- a witness is the same in a longer list
  pub witness_longer : (ops more : List Op) (n : ℕ) → 0 < n → n ≤ length ops → witness_text s h m spelling (ops ++ more) n ≡ witness_text s h m spelling ops n
  witness_longer ops more n some le =
      let bytes : last_bytes s h m (ops ++ more) n ≡ last_bytes s h m ops n =
      ap (λ es. slice_index_or es (n - 1) []) (map-append m.encoding ops more) ∙ get_or_append_left (map m.encoding ops) (map m.encoding more) [] (n - 1) (omega (arith, some, le, length-map ops m.encoding)) in
      let front : take (n - 1) (ops ++ more) ≡ take (n - 1) ops = take-append-le (n - 1) ops more (omega (arith, le)) in
      let pins : pins_of s h m (ops ++ more) (n - 1) ≡ pins_of s h m ops (n - 1) = ap (λ os. map (node_of s h (leaves_from s h m 0 os)) (peaks s (n - 1))) front in
      rw (bytes, pins) refl

  pub witnesses_longer : (ops more : List Op) (low : ℕ) (ns : List ℕ) → RiseTo low (length ops) ns → map (witness_text s h m spelling (ops ++ more)) ns ≡ map (witness_text s h m spelling ops) ns
  witnesses_longer ops more low [] r = refl
  witnesses_longer ops more low (n ∷ ns) r =
      let lt = r.0 in
      let le = rise_le n (length ops) ns r.1 in
      rw (witness_longer ops more n (omega (arith, lt)) le, witnesses_longer ops more n ns r.1) refl

  pub compact_wider : (ops : List Op) (sizes : List ℕ) (prune prune' durable durable' : ℕ) (log : Log) → prune ≤ prune' → durable' ≤ durable
      → CompactStands s h spelling m ops sizes prune durable log → CompactStands s h spelling m ops sizes prune' durable' log
  compact_wider ops sizes prune prune' durable durable' log higher less stands =
      part_wider (map (witness_text s h m spelling ops) sizes) (first_at_least prune sizes) (first_at_least prune' sizes) (durable_witnesses sizes durable) (durable_witnesses sizes durable') log
      (first_higher prune prune' sizes higher) (witnesses_less sizes durable durable' less) stands

  pub compact_longer : (ops more : List Op) (sizes later : List ℕ) (prune durable : ℕ) (log : Log) → AreSizes (length ops) sizes → durable ≤ length ops
      → CompactStands s h spelling m ops sizes prune durable log → CompactStands s h spelling m (ops ++ more) (sizes ++ later) prune durable log
  compact_longer ops more sizes later prune durable log are few stands =
      let text = witness_text s h m spelling in
      let same : map (text (ops ++ more)) sizes ≡ map (text ops) sizes = along sizes are in
      let e : map (text (ops ++ more)) (sizes ++ later) ≡ map (text ops) sizes ++ map (text (ops ++ more)) later = map-append (text (ops ++ more)) sizes later ∙ ap (λ ws. ws ++ map (text (ops ++ more)) later) same in
      let counted : durable_witnesses (sizes ++ later) durable ≡ durable_witnesses sizes durable = witnesses_same (length ops) durable sizes later are few in
      let old = part_of_longer (map (text ops) sizes) (map (text (ops ++ more)) later) (first_at_least prune sizes) (durable_witnesses sizes durable) log stands in
      let new : IsPartOf (map (text (ops ++ more)) (sizes ++ later)) (first_at_least prune sizes) (durable_witnesses sizes durable) log = subst (λ (ws : List (List ℕ)). IsPartOf ws (first_at_least prune sizes) (durable_witnesses sizes durable) log) (sym e) old in
      part_wider (map (text (ops ++ more)) (sizes ++ later)) (first_at_least prune sizes) (first_at_least prune (sizes ++ later)) (durable_witnesses sizes durable) (durable_witnesses (sizes ++ later) durable) log
      (first_longer prune sizes later) (omega (arith, counted)) new
    where
      along : (ns : List ℕ) → AreSizes (length ops) ns → map (witness_text s h m spelling (ops ++ more)) ns ≡ map (witness_text s h m spelling ops) ns
      along [] r = absurd r
      along (n ∷ ns) r = let one = r.0 in witnesses_longer ops more 0 (n ∷ ns) (omega (arith, one), rw one r.1)

  -- ---- a fresh volume

  nothing_of : (list : List (List ℕ)) (start : ℕ) → IsPartOf list start 0 no_log
  nothing_of list start = record { items = refl; within = omega arith; start_high = omega arith; end_low = omega arith }

  pub fresh_stands : IsLawful s → (names : DatabaseNames) (commit : Op) (image : Image) → IsEmpty names image → StandsFor s h spelling m names (fresh commit) image
  fresh_stands w names commit image empty = record {
    full = rw (empty.log, empty.nodes, empty.metadata) (let full : FullStands s h spelling m (commit ∷ []) 0 0 0 no_log no_log finmap.empty =
        record { operations = nothing_of (map m.encoding (commit ∷ [])) 0; tree = stands_empty s h spelling (leaves_from s h m 0 (commit ∷ [])) 0 w } in full);
    compact = rw empty.witness (nothing_of (map (witness_text s h m spelling (commit ∷ [])) (1 ∷ [])) 0);
  }

-- its state is good
pub good_fresh : {Op V : Type 0} (m : Meaning Op V) (among : List Op → Type 0) (allowed : V → Type 0) (commit : Op) → among (commit ∷ []) → m.floor commit ≡ Some 0 → IfSome (m.value commit) allowed → IsGood m among allowed commit (fresh commit)
good_fresh m among allowed commit known is value = record {
  ops = record { begins = refl; stand = (rw is refl, known); few = omega arith; values = (value, tt); floors = rw is ((omega arith, omega arith), tt) };
  log = record { sizes = (refl, refl); commits = (rw is refl, tt); nodes = omega arith; within = omega arith; durable = inr (refl, refl); start = omega arith; pruned = omega arith; floor = omega arith; wstart = omega arith };
  batches = λ b. tt;
  parents = λ b. tt;
}
