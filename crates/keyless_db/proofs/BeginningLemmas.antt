-- What a crash leaves while a log gets its first commit.
use Rattle.std.proofs.Common.{◌≡◌, ◌≤◌, ℕ, List, [], ◌∷◌, map, take, Ok, sym, subst, arith}
use Rattle.std.specs.Prelude.{Result, OnOk}
use Rattle.volume_base.specs.Moments.{Image, Keeps, NamesLeft, Now, Steps}
use Rattle.volume_base.specs.Names.{two_logs_and_map}
use Rattle.volume_base.specs.Volume.{State}
use Rattle.volume_base.proofs.BoundLemmas.{part_of_longer, part_wider}
use Rattle.volume_base.proofs.TurnLemmas.{names_back, now_after, steps_after, steps_of_keeps, steps_of_turns}
use Rattle.tree_shape.specs.Hashing.{Hashing}
use Rattle.tree_shape.specs.Shape.{Shape, IsLawful}
use Rattle.tree_store.specs.Stored.{TreeStands}
use Rattle.tree_store.proofs.StoredLemmas.{stands_longer, stands_wider}
use Rattle.auth_journal.specs.Batched.{leaves_from}
use Rattle.auth_journal.specs.Joined.{Joined, leaves_of}
use Rattle.auth_journal.specs.Standing.{Marks, NamesStand, StepsStanding, KeepsStanding, all_synced}
use Rattle.auth_journal.proofs.LeafLemmas.{leaves_more}
use Rattle.keyless_db.specs.Opening.{BeginsStanding}
use Rattle.keyless_db.proofs.LiftLemmas.{AreLike, steps_like}

module _ {D Op : Type 0} (s : Shape) (h : Hashing D) (digest : D → List ℕ) (spelling : Op → List ℕ) (first : Op) (marks : Marks) where
  abbrev Empty : List ℕ → List ℕ → List ℕ → Image → Type 0
  Empty x y z = NamesStand s h digest spelling [] marks x y z

  abbrev One : List ℕ → List ℕ → List ℕ → Image → Type 0
  One x y z = NamesStand s h digest spelling (first ∷ []) marks x y z

  abbrev Settled : List ℕ → List ℕ → List ℕ → Image → Type 0
  Settled x y z = NamesStand s h digest spelling (first ∷ []) (all_synced 1 marks) x y z

  -- what stands for no operation stands for one
  pub one_stands : IsLawful s → (x y z : List ℕ) (image : Image) → Empty x y z image → One x y z image
  one_stands w x y z image stands = record {
    items = part_of_longer [] (spelling first ∷ []) marks.prune marks.durable (image.log x) stands.items;
    tree = subst (λ (all : List D). TreeStands s h digest all marks.node_durable (image.log x).start (image.log y) (image.map z)) (sym (leaves_more s h spelling [] (first ∷ [])))
        (stands_longer s h digest (leaves_of s h spelling []) (leaves_from s h 0 (map spelling (first ∷ []))) marks.node_durable (image.log x).start (image.log y) (image.map z) w stands.tree);
  }

  -- the same by other names
  pub steps_named : {T E Codec : Type 0} (j k : Joined D Codec) (a b : State) (result : Result T E) → k.items.name ≡ j.items.name → k.tree.log.name ≡ j.tree.log.name → k.tree.metadata ≡ j.tree.metadata
      → StepsStanding s h digest spelling (first ∷ []) marks (all_synced 1 marks) k a b result → StepsStanding s h digest spelling (first ∷ []) marks (all_synced 1 marks) j a b result
  steps_named {T = T} {E = E} j k a b result items nodes pins did =
      let S : List ℕ → List ℕ → List ℕ → Type 0 = λ x y z. Now (NamesLeft (two_logs_and_map x y z)) (One x y z) a → Steps (NamesLeft (two_logs_and_map x y z)) (One x y z) (Settled x y z) a b result in
      subst (λ (x : List ℕ). S x j.tree.log.name j.tree.metadata) items (subst (λ (y : List ℕ). S k.items.name y j.tree.metadata) nodes (subst (λ (z : List ℕ). S k.items.name k.tree.log.name z) pins did))

  module _ {T E Codec : Type 0} (j : Joined D Codec) (a b c : State) (result : Result T E) where
    -- the commit isn't put
    pub begins_not : OnOk result ⊥ → KeepsStanding s h digest spelling [] (first ∷ []) marks j a b → BeginsStanding s h digest spelling first marks j.items.name j.tree.log.name j.tree.metadata a b result
    begins_not failed keeps has =
        let names = two_logs_and_map j.items.name j.tree.log.name j.tree.metadata in
        steps_of_keeps (NamesLeft names) (One j.items.name j.tree.log.name j.tree.metadata) (Settled j.items.name j.tree.log.name j.tree.metadata) a b result failed (keeps has)

    -- it is put, and then it is made durable, or not
    pub begins_synced : {S C : Type 0} (k : Joined D Codec) (below : Result S C) → AreLike below result → k.items.name ≡ j.items.name → k.tree.log.name ≡ j.tree.log.name → k.tree.metadata ≡ j.tree.metadata
        → KeepsStanding s h digest spelling [] (first ∷ []) marks j a b → StepsStanding s h digest spelling (first ∷ []) marks (all_synced 1 marks) k b c below
        → BeginsStanding s h digest spelling first marks j.items.name j.tree.log.name j.tree.metadata a c result
    begins_synced {S = S} {C = C} k below like items nodes pins keeps steps has =
        let names = two_logs_and_map j.items.name j.tree.log.name j.tree.metadata in
        let P = One j.items.name j.tree.log.name j.tree.metadata in
        let Q = Settled j.items.name j.tree.log.name j.tree.metadata in
        let ab = keeps has in
        steps_after (NamesLeft names) (names_back names) P Q a b c result ab
        (steps_like (NamesLeft names) P Q b c below result like (steps_named j k b c below items nodes pins steps (now_after (NamesLeft names) P a b ab)))

  -- once it is durable it stays so, whatever is answered
  pub begins_done : {S T E C : Type 0} (x y z : List ℕ) (a b : State) (made : S) (result : Result T E) → BeginsStanding s h digest spelling first marks x y z {T = S} {E = C} a b (Ok made) → BeginsStanding s h digest spelling first marks x y z a b result
  begins_done x y z a b made result did has =
      let steps = did has in
      steps_of_turns (NamesLeft (two_logs_and_map x y z)) (One x y z) (Settled x y z) a b result steps.past steps.ok

  -- an error is another's
  pub begins_like : {S T E C : Type 0} (x y z : List ℕ) (a b : State) (below : Result S C) (result : Result T E) → AreLike below result → BeginsStanding s h digest spelling first marks x y z a b below
      → BeginsStanding s h digest spelling first marks x y z a b result
  begins_like x y z a b below result like did has = steps_like (NamesLeft (two_logs_and_map x y z)) (One x y z) (Settled x y z) a b below result like (did has)

  -- what stands for no operation, of which nothing is durable, does so whatever the marks
  pub emptied : (n : ℕ) (x y z : List ℕ) (b : State) → n ≡ 0 → marks.durable ≤ n → marks.node_durable ≤ n
      → Now (NamesLeft (two_logs_and_map x y z)) (NamesStand s h digest spelling (take n (first ∷ [])) (all_synced n marks) x y z) b
      → Now (NamesLeft (two_logs_and_map x y z)) (Empty x y z) b
  emptied n x y z b none durable nodes has image at =
      let is = subst (λ (k : ℕ). NamesStand s h digest spelling (take k (first ∷ [])) (all_synced k marks) x y z image) none (has image at) in
      record {
        items = part_wider [] marks.prune marks.prune 0 marks.durable (image.log x) (omega arith) (omega (arith, durable, none)) is.items;
        tree = stands_wider s h digest (leaves_of s h spelling (let nil : List Op = [] in nil)) 0 marks.node_durable (image.log x).start (image.log x).start (image.log y) (image.map z) (omega (arith, nodes, none)) (omega arith) is.tree;
      }

  -- behind a call over which it stands for the commit, and which leaves what stands for no operation
  pub begins_behind : {T E : Type 0} (x y z x' y' z' : List ℕ) (a b c : State) (result : Result T E) → x' ≡ x → y' ≡ y → z' ≡ z
      → Keeps (NamesLeft (two_logs_and_map x y z)) (One x y z) a b → Now (NamesLeft (two_logs_and_map x y z)) (Empty x y z) b
      → BeginsStanding s h digest spelling first marks x' y' z' b c result
      → Steps (NamesLeft (two_logs_and_map x y z)) (One x y z) (Settled x y z) a c result
  begins_behind {T = T} {E = E} x y z x' y' z' a b c result one two three ab has did =
      let S : List ℕ → List ℕ → List ℕ → Type 0 = λ m n p. BeginsStanding s h digest spelling first marks m n p b c result in
      let here = subst (λ (m : List ℕ). S m y z) one (subst (λ (n : List ℕ). S x' n z) two (subst (λ (p : List ℕ). S x' y' p) three did)) in
      let names = two_logs_and_map x y z in
      steps_after (NamesLeft names) (names_back names) (One x y z) (Settled x y z) a b c result ab (here has)

  -- nothing is called
  pub begins_none : {T E : Type 0} (x y z : List ℕ) (a b : State) (result : Result T E) → OnOk result ⊥ → Keeps (NamesLeft (two_logs_and_map x y z)) (One x y z) a b
      → Steps (NamesLeft (two_logs_and_map x y z)) (One x y z) (Settled x y z) a b result
  begins_none x y z a b result failed ab =
      steps_of_keeps (NamesLeft (two_logs_and_map x y z)) (One x y z) (Settled x y z) a b result failed ab
