-- A prune, call after call: a sync, reads, a replaced map, and a log that begins later.
use Rattle.std.proofs.Common.{◌≡◌, ℕ, ◌≤◌, max, min, Bool, List, length, Ok, inl, inr, refl, sym, ◌∙◌, ap, subst, arith}
use Rattle.std.specs.Prelude.{◌⊎◌, is_some, IsSome}
use Rattle.std.specs.FinMap as finmap
use Rattle.std.proofs.lemmas.Bool.Decides.{leb_tells}
use Rattle.volume_base.specs.Log.{Log, end_of}
use Rattle.volume_base.specs.Moments.{present, PairHas, PairKeeps}
use Rattle.volume_base.specs.Names.{log_alone, log_and_map, NamesCall}
use Rattle.volume_base.specs.Volume.{State, Map, PastStays, SameContents, OnlyLeft}
use Rattle.volume_base.proofs.CallLemmas.{names_call_idle, names_call_joins}
use Rattle.volume_base.proofs.MomentLemmas.{pair_has_after, pair_keeps_joins}
use Rattle.journal_base.specs.Blobs.{blob_start}
use Rattle.journal_base.specs.Items.{items_of}
use Rattle.journal_base.specs.View.{View, IsDurable, prune_point}
use Rattle.tree_shape.specs.Hashing.{Hashing}
use Rattle.tree_shape.specs.Shape.{Shape, made}
use Rattle.tree_shape.proofs.NeededLemmas.{made_le}
use Rattle.tree_store.specs.Stored.{TreeStands, node_key}
use Rattle.tree_store.specs.declared.error.Error.{Error}
use Rattle.tree_core.specs.Tree.{node_at, rests, prune_answer}
use Rattle.merkle_full.specs.Flushing.{IsSameTree, AllStand, AllKeepStanding}
use Rattle.merkle_full.specs.Full.{Full, Rests}
use Rattle.merkle_full.specs.Lists.{IsFullOf}
use Rattle.merkle_full.specs.Pruning.{IsMovedTo, KeepsPins, KeepsOthers, StandsWhilePruned}
use Rattle.merkle_full.specs.Reading.{IsUnreadAmong}
use Rattle.merkle_full.proofs.ReadLemmas.{unread_same}
use Rattle.merkle_full.proofs.FullLemmas.{full_end}
use Rattle.merkle_full.proofs.StandLemmas.{pair_none, pair_idle}

pub names_wider : (name pins : List ℕ) (a b : State) → NamesCall (log_alone name) a b → NamesCall (log_and_map name pins) a b
names_wider name pins a b call = record {
  others = record { logs = λ other none. call.others.logs other none; maps = λ other none. call.others.maps other tt };
  images = record { past = call.images.past; logs = λ other none. call.images.logs other none; maps = λ other none. call.images.maps other tt };
}

pair_weaker : (one two : List ℕ) (P Q : Log → Map → Type 0) (a b : State) → ((log : Log) (m : Map) → P log m → Q log m) → PairKeeps one two P a b → PairKeeps one two Q a b
pair_weaker one two P Q a b weaker keeps = record { past = keeps.past; during = λ t log m lo hi at_log at_map. weaker log m (keeps.during t log m lo hi at_log at_map) }

stands_wider : {D : Type 0} (s : Shape) (h : Hashing D) (spelling : D → List ℕ) (all : List D) (durable top wide : ℕ) (log : Log) (m : Map) → top ≤ wide → TreeStands s h spelling all durable top log m → TreeStands s h spelling all durable wide log m
stands_wider s h spelling all durable top wide log m le stands = record { boundary = stands.boundary; high = omega (arith, le, stands.high); pins = stands.pins; nodes = stands.nodes }

-- the same at no lower boundary
pub keep_wider : {D : Type 0} (s : Shape) (h : Hashing D) (spelling : D → List ℕ) (all : List D) (durable top wide : ℕ) (t : Full D) (a b : State) → top ≤ wide → AllKeepStanding s h spelling all durable top t a b → AllKeepStanding s h spelling all durable wide t a b
keep_wider s h spelling all durable top wide t a b le = pair_weaker t.log.name t.metadata (TreeStands s h spelling all durable top) (TreeStands s h spelling all durable wide) a b (λ log m stands. stands_wider s h spelling all durable top wide log m le stands)

-- reads behind a sync
module _ {D : Type 0} (t : Full D) (a b d : State) (clock : d.clock ≡ b.clock) (past : PastStays b d) where
  pub names_read : SameContents b d → NamesCall (log_alone t.log.name) a b → NamesCall (log_and_map t.log.name t.metadata) a d
  names_read contents ab = names_call_joins (log_and_map t.log.name t.metadata) a b d (names_wider t.log.name t.metadata a b ab) (names_call_idle (log_and_map t.log.name t.metadata) b d clock past contents)

  pub stands_read : (s : Shape) (h : Hashing D) (spelling : D → List ℕ) (all : List D) (durable top : ℕ) → AllKeepStanding s h spelling all durable top t a b → AllKeepStanding s h spelling all durable top t a d
  stands_read s h spelling all durable top ab =
      let Q : Log → Map → Type 0 = TreeStands s h spelling all durable top in
      pair_keeps_joins t.log.name t.metadata Q a b d ab (pair_idle t.log.name t.metadata Q b d clock past (pair_has_after t.log.name t.metadata Q a b ab))

-- the synced tree, that as it will be pruned, and the pruned one
module _ {D : Type 0} (to : ℕ) (t one two three : Full D) (synced : IsSameTree t one) (moved : IsMovedTo to one two) where
  pub run_rests : (s : Shape) → IsSameTree two three → three.tree ≡ two.tree → Rests s two → Rests s three
  run_rests s stored tree rests_two = record {
    boundary = ap (λ x. x.boundary) tree ∙ rests_two.boundary ∙ sym stored.leaves;
    exact = λ p. subst (λ x. (q : ℕ) → is_some (node_at x q) ≡ rests s x.leaves three.boundary q) (sym tree) (λ q. rests_two.exact q ∙ ap (λ b. rests s two.tree.leaves b q) (sym stored.boundary)) p;
  }

  name_is : two.log.name ≡ t.log.name
  name_is = ap (λ v. v.name) moved.log ∙ ap (λ v. v.name) synced.log

  pins_is : two.metadata ≡ t.metadata
  pins_is = moved.metadata ∙ synced.metadata

  pub unfailed : (failed : Bool) → t.log.failed ≡ failed → two.log.failed ≡ failed
  unfailed failed is = ap (λ v. v.failed) moved.log ∙ ap (λ v. v.failed) synced.log ∙ is

  -- no pin goes
  pub run_pins : (a b e : State) (m : Map) → b.map t.metadata ≡ a.map t.metadata → KeepsPins (b.map one.metadata) m → e.map two.metadata ≡ m → KeepsPins (a.map t.metadata) (e.map t.metadata)
  run_pins a b e m stays keeps stored p has =
      let kept : IsSome (finmap.get (e.map two.metadata) (node_key p)) =
      subst (λ (x : Map). IsSome (finmap.get x (node_key p))) (sym stored) (keeps p (subst (λ (x : Map). IsSome (finmap.get x (node_key p))) (sym (ap b.map synced.metadata ∙ stays)) has)) in
      subst (λ (n : List ℕ). IsSome (finmap.get (e.map n) (node_key p))) pins_is kept

  -- and no other key changes
  pub run_others : (ps : List ℕ) (a b e : State) (m : Map) → b.map t.metadata ≡ a.map t.metadata → KeepsOthers ps (b.map one.metadata) m → e.map two.metadata ≡ m → KeepsOthers ps (a.map t.metadata) (e.map t.metadata)
  run_others ps a b e m stays keeps stored key apart not =
      ap (λ (x : Map). finmap.get x key) (ap e.map (sym pins_is) ∙ stored) ∙ keeps key apart not ∙ ap (λ (x : Map). finmap.get x key) (ap b.map synced.metadata ∙ stays)

  module _ (a b d e : State) (clock : d.clock ≡ b.clock) (past : PastStays b d) (contents : SameContents b d) where
    pub run_names : NamesCall (log_alone t.log.name) a b → NamesCall (log_and_map two.log.name two.metadata) d e → NamesCall (log_and_map t.log.name t.metadata) a e
    run_names ab de = names_call_joins (log_and_map t.log.name t.metadata) a d e (names_read t a b d clock past contents ab)
        (subst (λ (n : List ℕ). NamesCall (log_and_map n t.metadata) d e) name_is (subst (λ (n : List ℕ). NamesCall (log_and_map two.log.name n) d e) pins_is de))

    -- what was durable stays so over reads
    pub run_durable : IsDurable t.log b → IsDurable two.log d
    run_durable only = subst (λ (n : List ℕ). OnlyLeft (d.log_left d.clock n) (d.log n)) (sym name_is)
        (λ image left. only image ((past.logs b.clock t.log.name image (omega arith)).0 (subst (λ (u : ℕ). d.log_left u t.log.name image) clock left)) ∙ sym (contents.logs t.log.name))

    module _ (s : Shape) (h : Hashing D) (spelling : D → List ℕ) (all : List D) (top : ℕ) where
      -- all leaves are durable behind the sync, also after the reads
      pub run_stand : AllStand s h spelling all (length all) top t b → AllStand s h spelling all (length all) top two d
      run_stand has =
          let Q : Log → Map → Type 0 = TreeStands s h spelling all (length all) top in
          subst (λ (n : List ℕ). PairHas d n two.metadata Q) (sym name_is) (subst (λ (n : List ℕ). PairHas d t.log.name n Q) (sym pins_is) (pair_has_after t.log.name t.metadata Q b d (pair_idle t.log.name t.metadata Q b d clock past has)))

      -- and then they stay durable
      run_stored : AllKeepStanding s h spelling all (length all) (max top two.boundary) two d e → AllKeepStanding s h spelling all (length all) (max top to) t d e
      run_stored de =
          let Q : Log → Map → Type 0 = TreeStands s h spelling all (length all) (max top to) in
          subst (λ (n : List ℕ). PairKeeps n t.metadata Q d e) name_is (subst (λ (n : List ℕ). PairKeeps two.log.name n Q d e) pins_is (keep_wider s h spelling all (length all) (max top two.boundary) (max top to) two d e (omega (arith, moved.boundary)) de))

      pub run_settles : AllKeepStanding s h spelling all (length all) (max top two.boundary) two d e → AllStand s h spelling all (length all) (max top to) t e
      run_settles de = pair_has_after t.log.name t.metadata (TreeStands s h spelling all (length all) (max top to)) d e (run_stored de)

      pub run_stands : (durable : ℕ) → AllKeepStanding s h spelling all durable top t a b → AllKeepStanding s h spelling all (length all) (max top two.boundary) two d e → StandsWhilePruned s h spelling all durable top to t a e
      run_stands durable ab de =
          let Before : Log → Map → Type 0 = TreeStands s h spelling all durable top in
          let After : Log → Map → Type 0 = TreeStands s h spelling all (length all) (max top to) in
          let Q : Log → Map → Type 0 = λ log m. Before log m ⊎ After log m in
          pair_keeps_joins t.log.name t.metadata Q a d e
          (pair_weaker t.log.name t.metadata Before Q a d (λ log m stands. inl stands) (stands_read t a b d clock past s h spelling all durable top ab))
          (pair_weaker t.log.name t.metadata After Q d e (λ log m stands. inr stands) (run_stored de))

    -- where the log begins
    pub run_start : (s : Shape) (h : Hashing D) (spelling : D → List ℕ) (admits : D → Type 0) (all : List D) → IsFullOf s h spelling admits all one (present b) → one.tree.boundary ≡ one.tree.leaves → to ≤ one.tree.leaves
        → one.log.start ≡ t.log.start → three.log.start ≡ max (d.log two.log.name).start (prune_point two.log (length (made s two.boundary)) d)
        → three.log.start ≡ max t.log.start (blob_start t.log.blob (length (made s to)))
    run_start s h spelling admits all full flushed low same start =
        let log_is : d.log two.log.name ≡ b.log one.log.name = ap d.log (ap (λ v. v.name) moved.log) ∙ contents.logs one.log.name in
        let begins : (d.log two.log.name).start ≡ t.log.start = ap (λ (l : Log). l.start) log_is ∙ sym full.start_is ∙ same in
        let ends : end_of (d.log two.log.name) ≡ length (made s one.tree.boundary) = ap end_of log_is ∙ sym full.end_is ∙ full_end s h spelling admits all one (present b) full (omega (arith, flushed)) in
        let least : min (length (made s two.boundary)) (end_of (d.log two.log.name)) ≡ length (made s to) = omega (arith, ends, ap (λ k. length (made s k)) moved.boundary, ap (λ k. length (made s k)) flushed, made_le s to one.tree.leaves low) in
        let blob : two.log.blob ≡ t.log.blob = ap (λ v. v.blob) moved.log ∙ ap (λ v. v.blob) synced.log in
        start ∙ ap (λ k. max k (prune_point two.log (length (made s two.boundary)) d)) begins ∙ ap (λ k. max t.log.start (blob_start two.log.blob k)) least ∙ ap (λ k. max t.log.start (blob_start k (length (made s to)))) blob

-- where the map isn't replaced
pub keeps_before : {D : Type 0} (s : Shape) (h : Hashing D) (spelling : D → List ℕ) (all : List D) (durable top to : ℕ) (t : Full D) (a b : State) → AllKeepStanding s h spelling all durable top t a b → StandsWhilePruned s h spelling all durable top to t a b
keeps_before s h spelling all durable top to t a b keeps =
    let Before : Log → Map → Type 0 = TreeStands s h spelling all durable top in
    pair_weaker t.log.name t.metadata Before (λ log m. Before log m ⊎ TreeStands s h spelling all (length all) (max top to) log m) a b (λ log m stands. inl stands) keeps

-- a log that is as before refuses the same
pub among_same : {F D C : Type 0} (tells : Type 0) (spelling : D → List ℕ) (admits : C → D → Type 0) (view : View C) (old new : State) (ps : List ℕ) (e : Error F) → (tells → SameContents old new) → IsUnreadAmong tells (items_of spelling admits view old) ps e → IsUnreadAmong tells (items_of spelling admits view new) ps e
among_same tells spelling admits view old new ps e same (inl out) = inl out
among_same tells spelling admits view old new ps e same (inr (i, p, at, inl is)) = inr (i, p, at, inl is)
among_same tells spelling admits view old new ps e same (inr (i, p, at, inr why)) =
    inr (i, p, at, inr (unread_same tells spelling admits view new old p e (λ told. record { logs = λ name. sym ((same told).logs name); maps = λ name. sym ((same told).maps name) }) why))

-- where nothing is called
pub stays_before : {D : Type 0} (s : Shape) (h : Hashing D) (spelling : D → List ℕ) (all : List D) (durable top to : ℕ) (t : Full D) (a : State) → AllStand s h spelling all durable top t a → StandsWhilePruned s h spelling all durable top to t a a
stays_before s h spelling all durable top to t a stand = keeps_before s h spelling all durable top to t a a (pair_none t.log.name t.metadata (TreeStands s h spelling all durable top) a stand)

pub can_prune : {F : Type 0} (n to : ℕ) → to ≤ n → prune_answer {F = F} n to ≡ Ok tt
can_prune n to le = elim (leb_tells to n) [
  | inl low ↦ rw low.0 refl
  | inr past ↦ absurd (omega (arith, le, past.1))
]
