-- The tail of the nodes that memory lends.
use Rattle.std.proofs.Common.{◌≡◌, ℕ, ◌+◌, ◌-◌, ◌<◌, ◌≤◌, min, List, length, take, drop, Some, Result, Ok, Err, sym, ◌∙◌, ap, subst, arith}
use Rattle.std.specs.Prelude.{slice_get, IfOk}
use Rattle.std.proofs.lemmas.List.{length-drop, take_all}
use Rattle.std.proofs.lemmas.Option.{slice_get_within}
use Rattle.tree_shape.specs.Hashing.{Hashing}
use Rattle.tree_shape.specs.Shape.{Shape, made}
use Rattle.tree_shape.specs.Slow.{nodes}
use Rattle.tree_core.specs.Tree.{Tree, IsOf, node_at}
use Rattle.merkle_full.specs.Flushing.{IsTail}
use Rattle.merkle_full.proofs.FullLemmas.{length-nodes}
use Rattle.merkle_full.proofs.ListLemmas.{get_behind, list_from}

pub lent_tail : {D : Type 0} (s : Shape) (t : Tree D) (lent : List D) (b first past : ℕ) → b ≤ first → past ≡ min (first - b) (length lent) → b + length lent ≡ length (made s t.leaves)
    → ((i : ℕ) → node_at t (b + i) ≡ slice_get lent i) → IsTail s t first (take (length lent - past) (drop past lent))
lent_tail s t lent b first past le is ends told =
    let long = length-drop past lent in
    let whole : take (length lent - past) (drop past lent) ≡ drop past lent = take_all (length lent - past) (drop past lent) (omega (arith, long)) in
    subst (IsTail s t first) (sym whole) (record {
      counted = omega (arith, long, is, ends, le);
      nodes = λ i d at.
          let here : slice_get lent (past + i) ≡ _ = sym (get_behind lent past i) ∙ at in
          let lt = slice_get_within lent (past + i) d here in
          let place : b + (past + i) ≡ first + i = omega (arith, lt, is, le) in
          ap (node_at t) (sym place) ∙ told (past + i) ∙ here;
    })

-- of a tree of a list they are the list's
pub tail_listed : {D : Type 0} (s : Shape) (h : Hashing D) (all : List D) (t : Tree D) (first : ℕ) (tail : List D) → IsTail s t first tail → IsOf s h all t → tail ≡ drop first (nodes s h all)
tail_listed s h all t first tail is of =
    let counted = is.counted in
    let count = of.count in
    list_from tail (nodes s h all) first (omega (arith, counted, length-nodes s h all, ap (λ n. length (made s n)) count))
    (λ i d e. of.right (first + i) d (is.nodes i d e))

-- what was read from a position on
pub read_tail : {V D E : Type 0} (s : Shape) (t : Tree D) (first : ℕ) (items : V → List D) (r : Result V E) → IfOk r (λ v. length (items v) ≡ length (made s t.leaves) - first)
    → IfOk r (λ v. (i : ℕ) (d : D) → slice_get (items v) i ≡ Some d → node_at t (first + i) ≡ Some d) → IfOk r (λ v. first < length (made s t.boundary) → IsTail s t first (items v))
read_tail s t first items (Ok v) counted told = λ _. record { counted = counted; nodes = told }
read_tail s t first items (Err e) counted told = tt
