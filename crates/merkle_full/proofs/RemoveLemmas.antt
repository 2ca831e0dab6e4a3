-- What a crash leaves of a tree that is taken away, at each moment.
use Rattle.std.proofs.Common.{◌≡◌, inl, inr, ℕ, List, Bool, max, None, refl, sym, ◌∙◌, ap, subst, arith}
use Rattle.std.specs.Prelude.{if◌then◌else◌}
use Rattle.std.specs.FinMap as finmap
use Rattle.std.specs.FinMap.{get-empty}
use Rattle.std.proofs.lemmas.Bool.{cases_lt, lt-ltb}
use Rattle.volume_base.specs.Log.{Log, end_of, cleared_at, pruned_to, Vanishes, BecomesOneOf}
use Rattle.volume_base.specs.Moments.{PairHas, PairKeeps}
use Rattle.volume_base.specs.Volume.{State, Map, LogMoves, MapMoves, OnlyLeft}
use Rattle.volume_base.proofs.MomentLemmas.{pair_moves_log, pair_moves_map, pair_keeps_joins}
use Rattle.journal_base.proofs.StepLemmas.{pruned_below}
use Rattle.tree_shape.specs.Hashing.{Hashing}
use Rattle.tree_shape.specs.Shape.{Shape, IsLawful}
use Rattle.tree_store.specs.Stored.{boundary_key, TreeStands}
use Rattle.merkle_full.specs.Preparing.{log_kept}
use Rattle.merkle_full.specs.Removing.{IsRemnant, StandsOrEmpty}
use Rattle.merkle_full.proofs.BeginLemmas.{empty_map}

vanishes_not : (log : Log) → Vanishes log log
vanishes_not log = inl (0, omega arith, sym (pruned_below log 0 (omega arith)))

module _ (one two : List ℕ) (a b d : State) (removed : MapMoves two (BecomesOneOf finmap.empty) a b) where
  pub map_goes : PairKeeps one two (IsRemnant a one two) a b
  map_goes = pair_moves_map one two (BecomesOneOf finmap.empty) (λ log m. a.log_left a.clock one log × a.map_left a.clock two m) (IsRemnant a one two) a b removed (λ log m at_log at_map. (at_log, at_map)) goes
    where
      goes : (log : Log) (old new : Map) → a.log_left a.clock one log × a.map_left a.clock two old → BecomesOneOf finmap.empty old new → IsRemnant a one two log new
      goes log old new at (inl same) = record { was = log; was_left = at.0; had = old; had_left = at.1; now = inl (refl, same) }
      goes log old new at (inr is) = record { was = log; was_left = at.0; had = old; had_left = at.1; now = inr (is, vanishes_not log) }

  -- a map of before is known by what is left now
  pub log_goes : (had : Map) → a.map_left a.clock two had → OnlyLeft (b.map_left b.clock two) finmap.empty → LogMoves one Vanishes b d → PairKeeps one two (IsRemnant a one two) a d
  log_goes had had_left only moves =
      pair_keeps_joins one two (IsRemnant a one two) a b d map_goes
      (pair_moves_log one two Vanishes (λ log m. a.log_left a.clock one log × (m ≡ finmap.empty)) (IsRemnant a one two) b d moves
      (λ log m at_log at_map. ((removed.logs b.clock one log removed.past.later (omega arith)).0 at_log, only m at_map)) goes)
    where
      goes : (old new : Log) (m : Map) → a.log_left a.clock one old × (m ≡ finmap.empty) → Vanishes old new → IsRemnant a one two new m
      goes old new m at step = record { was = old; was_left = at.0; had = had; had_left = had_left; now = inr (at.1, step) }

-- ---- what an opening makes of it

module _ {D : Type 0} (s : Shape) (h : Hashing D) (spelling : D → List ℕ) (all : List D) (durable top : ℕ) (w : IsLawful s) (old : State) (one two : List ℕ) where
  -- a log that begins at 0 stands for its list beside no map
  alone : (log : Log) (had : Map) → log.start ≡ 0 → TreeStands s h spelling all durable top log had → TreeStands s h spelling all durable top log finmap.empty
  alone log had zero stands = record {
    boundary = 0;
    high = omega arith;
    pins = empty_map s h spelling all w;
    nodes = record { items = stands.nodes.items; within = stands.nodes.within; start_high = omega (arith, zero); end_low = stands.nodes.end_low };
  }

  -- and of one that begins later an opening beside no map keeps no node
  cut : (log was : Log) (had m : Map) (to : ℕ) → old.log_left old.clock one was → TreeStands s h spelling all durable top was had → m ≡ finmap.empty → log ≡ pruned_to was to → StandsOrEmpty s h spelling all durable top old one log m
  cut log was had m to left stands none is = elim (cases_lt 0 log.start) [
    | inl past ↦ inr (ap (λ (x : Map). finmap.get x boundary_key) none ∙ get-empty _ _, ap (λ (b : Bool). end_of (if b then cleared_at 0 else log)) (lt-ltb 0 log.start past))
    | inr zero ↦
        let at : log.start ≡ max was.start to = ap (λ (l : Log). l.start) is in
        let same : log ≡ was = is ∙ pruned_below was to (omega (arith, at, zero)) in
        let stays = alone was had (omega (arith, at, zero)) stands in
        inl (subst (λ (l : Log). old.log_left old.clock one l) (sym same) left, subst (λ (l : Log). TreeStands s h spelling all durable top l m) (sym same) (subst (λ (x : Map). TreeStands s h spelling all durable top was x) (sym none) stays))
  ]

  remnant : PairHas old one two (TreeStands s h spelling all durable top) → (log : Log) (m : Map) → IsRemnant old one two log m → StandsOrEmpty s h spelling all durable top old one log m
  remnant has log m r =
      let stands = has r.was r.had r.was_left r.had_left in
      elim r.now [
        | inl same ↦ inl (subst (λ (l : Log). old.log_left old.clock one l) (sym same.0) r.was_left, subst (λ (l : Log). TreeStands s h spelling all durable top l m) (sym same.0) (subst (λ (x : Map). TreeStands s h spelling all durable top r.was x) (sym same.1) stands))
        | inr gone ↦ elim gone.1 [
          | inl less ↦ cut log r.was r.had m less.0 r.was_left stands gone.0 less.2
          | inr none ↦ inr (ap (λ (x : Map). finmap.get x boundary_key) gone.0 ∙ get-empty _ _, ap (λ (l : Log). end_of (log_kept None l)) none)
        ]
      ]

  pub remnant_stands : (new : State) → PairHas old one two (TreeStands s h spelling all durable top) → PairKeeps one two (IsRemnant old one two) old new → PairKeeps one two (StandsOrEmpty s h spelling all durable top old one) old new
  remnant_stands new has keeps = record {
    past = keeps.past;
    during = λ t log m from to at_log at_map. remnant has log m (keeps.during t log m from to at_log at_map);
  }
