-- What stands for a list of leaf digests goes on to do so.
use Rattle.std.proofs.Common.{◌≡◌, inr, ℕ, zero, suc, ◌+◌, ◌*◌, ◌^◌, ◌≤◌, List, [], ◌∷◌, ◌++◌, length, map, take, refl, sym, ◌∙◌, ap, subst, arith, append_assoc, length-append}
use Rattle.std.proofs.Math.Nat.{pow-suc}
use Rattle.std.specs.Prelude.{slice_get}
use Rattle.std.specs.FinMap as finmap
use Rattle.std.specs.Ordering.{nat_cmp}
use Rattle.std.specs.Cmp.Lexicographic.{slice_cmp}
use Rattle.std.proofs.lemmas.List.{map-append, length-map, take-append-le, get_or_append_left, append-nil}
use Rattle.std.proofs.lemmas.Nat.{pow_pos}
use Rattle.std.proofs.lemmas.Option.{none-some}
use Rattle.volume_base.specs.Log.{Log, no_log}
use Rattle.volume_base.specs.Volume.{Map}
use Rattle.volume_base.specs.Bounds.{IsPartOf}
use Rattle.volume_base.proofs.BoundLemmas.{part_wider, part_of_longer}
use Rattle.tree_shape.specs.Hashing.{Hashing, node_input}
use Rattle.tree_shape.specs.Shape.{Shape, made, Stands, PeaksStand, IsLawful}
use Rattle.tree_shape.specs.Kept.{PeakIn}
use Rattle.tree_shape.specs.Slow.{node, node_of, nodes}
use Rattle.tree_shape.proofs.NeededLemmas.{made_le}
use Rattle.tree_store.specs.Stored.{node_key, boundary_key, size, IsMapOf, TreeStands}

-- ---- the nodes of the first leaves are those of each longer list

pub node-append : {D : Type 0} (s : Shape) (h : Hashing D) (leaves more : List D) (x k : ℕ) → x + 2 ^ k ≤ length leaves → node s h (leaves ++ more) x k ≡ node s h leaves x k
unfolding node
node-append s h leaves more x zero le = get_or_append_left leaves more (h.digest []) x (omega arith)
node-append s h leaves more x (suc k) le =
    let two : 2 ^ suc k ≡ 2 ^ k * 2 = pow-suc 2 k in
    let left = node-append s h leaves more x k (omega arith) in
    let right = node-append s h leaves more (x + 2 ^ k) k (omega arith) in
    ap (λ d. h.digest (node_input h (s.position x (suc k)) d (node s h (leaves ++ more) (x + 2 ^ k) k))) left ∙ ap (λ d. h.digest (node_input h (s.position x (suc k)) (node s h leaves x k) d)) right

pub map-nodes-append : {D : Type 0} (s : Shape) (h : Hashing D) (leaves more : List D) (cs : List (ℕ × ℕ)) → ((i x k : ℕ) → Stands cs i x k → x + 2 ^ k ≤ length leaves)
    → map (node_of s h (leaves ++ more)) cs ≡ map (node_of s h leaves) cs
map-nodes-append s h leaves more [] w = refl
map-nodes-append s h leaves more (c ∷ cs) w =
    rw (node-append s h leaves more c.0 c.1 (w 0 c.0 c.1 refl), map-nodes-append s h leaves more cs (λ i x k at. w (suc i) x k at)) refl

-- what was made before stands in front
pub made_on : (s : Shape) (b t : ℕ) → (rest : List (ℕ × ℕ)) × (made s (b + t) ≡ made s b ++ rest)
unfolding made
made_on s b zero = ([], let e : b + 0 ≡ b = omega arith in rw e (sym (append-nil (made s b))))
made_on s b (suc t) =
    let before = made_on s b t in
    let e : b + suc t ≡ suc (b + t) = omega arith in
    (before.0 ++ ((b + t, 0) ∷ s.parents (b + t)), rw e (ap (λ cs. cs ++ ((b + t, 0) ∷ s.parents (b + t))) before.1 ∙ append_assoc (made s b) before.0 _))

pub nodes_on : {D : Type 0} (s : Shape) (h : Hashing D) (all more : List D) → IsLawful s → (rest : List D) × (nodes s h (all ++ more) ≡ nodes s h all ++ rest)
nodes_on s h all more w =
    let on = made_on s (length all) (length more) in
    let f = node_of s h (all ++ more) in (
      map f on.0,
      ap (λ n. map f (made s n)) (length-append all more) ∙ ap (map f) on.1 ∙ map-append f (made s (length all)) on.0
          ∙ ap (λ ns. ns ++ map f on.0) (map-nodes-append s h all more (made s (length all)) (λ i x k at. (w.well_made (length all)).within i x k at)),
    )

pub front_nodes : {D : Type 0} (s : Shape) (h : Hashing D) (all more : List D) (b : ℕ) → IsLawful s → b ≤ length all → take (size s b) (nodes s h (all ++ more)) ≡ take (size s b) (nodes s h all)
front_nodes s h all more b w le =
    let on = nodes_on s h all more w in
    ap (take (size s b)) on.1 ∙ take-append-le (size s b) (nodes s h all) on.0 (omega (arith, made_le s b (length all) le, length-map (made s (length all)) (node_of s h all)))

-- ---- what stands for a list

module _ {D : Type 0} (s : Shape) (h : Hashing D) (spelling : D → List ℕ) where
  pub map_of_longer : (all more : List D) (b : ℕ) (m : Map) → IsLawful s → IsMapOf s h spelling all b m → IsMapOf s h spelling (all ++ more) b m
  map_of_longer all more b m w of = record {
    stored = of.stored;
    within = omega (arith, of.within, length-append all more);
    pins = λ p bytes lt is. ap (λ (l : List D). slice_get (map spelling l) p) (front_nodes s h all more b w of.within) ∙ of.pins p bytes lt is;
    peaks = of.peaks;
  }

  -- so does what is asked to have less durable, or may be pruned further
  pub stands_wider : (all : List D) (durable durable' top top' : ℕ) (log : Log) (m : Map) → durable' ≤ durable → top ≤ top' → TreeStands s h spelling all durable top log m → TreeStands s h spelling all durable' top' log m
  stands_wider all durable durable' top top' log m less higher stands = record {
    boundary = stands.boundary;
    high = omega (arith, stands.high, higher);
    pins = stands.pins;
    nodes = part_wider (map spelling (nodes s h all)) (size s stands.boundary) (size s stands.boundary) (size s durable) (size s durable') log (omega arith) (made_le s durable' durable less) stands.nodes;
  }

  -- and the list may be longer
  pub stands_longer : (all more : List D) (durable top : ℕ) (log : Log) (m : Map) → IsLawful s → TreeStands s h spelling all durable top log m → TreeStands s h spelling (all ++ more) durable top log m
  stands_longer all more durable top log m w stands =
      let on = nodes_on s h all more w in
      let e : map spelling (nodes s h (all ++ more)) ≡ map spelling (nodes s h all) ++ map spelling on.0 = ap (map spelling) on.1 ∙ map-append spelling (nodes s h all) on.0 in
      record {
        boundary = stands.boundary;
        high = stands.high;
        pins = map_of_longer all more stands.boundary m w stands.pins;
        nodes = subst (λ (ns : List (List ℕ)). IsPartOf ns (size s stands.boundary) (size s durable) log) (sym e) (part_of_longer (map spelling (nodes s h all)) (map spelling on.0) (size s stands.boundary) (size s durable) log stands.nodes);
      }

  -- nothing stands for each list of which nothing is durable
  no_peak : (x k : ℕ) (hs : List ℕ) → PeaksStand s (made s 0) 0 hs → PeakIn 0 hs x k → ⊥
  no_peak x k [] p in_ = in_
  no_peak x k (j ∷ hs) p in_ = absurd (let some = pow_pos j in let none = p.0 in omega (arith, some, none))

  pub stands_empty : (all : List D) (top : ℕ) → IsLawful s → TreeStands s h spelling all 0 top no_log finmap.empty
  unfolding made
  stands_empty all top w = record {
    boundary = 0;
    high = omega arith;
    pins = record {
      stored = inr (finmap.get-empty (slice_cmp nat_cmp) boundary_key, refl);
      within = omega arith;
      pins = λ p bytes lt e. absurd (none-some bytes (sym (finmap.get-empty (slice_cmp nat_cmp) (node_key p)) ∙ e));
      peaks = λ x k peak. absurd (no_peak x k (s.heights 0) (w.peaks 0) peak);
    };
    nodes = record { items = refl; within = omega arith; start_high = omega arith; end_low = omega arith };
  }
