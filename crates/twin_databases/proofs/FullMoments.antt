-- What a crash leaves of the full database over a call, said of its journal's list, as the list machine's states.
use Rattle.std.proofs.Common.{◌≡◌, ⊎_elim, ℕ, zero, suc, ◌+◌, ◌<◌, ◌≤◌, List, [], ◌∷◌, ◌++◌, length, drop, Ok, Err, refl, sym, ◌∙◌, ap, subst, arith}
use Rattle.std.specs.Prelude.{Result, IsErrOf, IsSomeAnd, slice_get}
use Rattle.std.proofs.lemmas.Bool.{cases_lt}
use Rattle.std.proofs.lemmas.List.{append-nil}
use Rattle.volume_base.specs.Moments.{Image, NamesLeft, Steps, present}
use Rattle.volume_base.specs.Volume as volume
use Rattle.volume_base.proofs.TurnLemmas.{keeps_weaker, steps_weaker}
use Rattle.tree_shape.specs.Mmr.{mmr}
use Rattle.tree_shape.specs.MmrPlaces.{mmr_lawful}
use Rattle.tree_shape.specs.Sha256Codec.{bytes_of}
use Rattle.tree_shape.specs.declared.mmr.Mmr.{Mmr}
use Rattle.auth_journal.specs.Appending.{unapplied}
use Rattle.auth_journal.specs.Batched.{IsSealedOfItems}
use Rattle.auth_journal.specs.Standing.{Marks, all_synced, pruned_below, names_of, ImageStands, StepsStanding, KeepsStanding}
use Rattle.auth_journal.proofs.BatchLemmas.{unapplied_of}
use Rattle.auth_journal.proofs.LeafLemmas.{length-leaves_of}
use Rattle.log_model.specs.Machine.{State, pruned}
use Rattle.chain_core.specs.declared.error.Error.{Error}
use Rattle.chain_core.specs.declared.error.Error.TheVariants as error
use Rattle.keyless_db.proofs.ApplyLemmas.{behind_front, still_standing}
use Rattle.keyless_db.proofs.DbLemmas.{size_of_list}
use Rattle.keyless_db.proofs.MarkLemmas.{marked_fits}
use Rattle.list_machine.specs.Operation.{Operation, meaning, sha}
use Rattle.twin_batches.specs.Kind.{kept_of}
use Rattle.twin_batches.specs.Standing.{with_ops, StepsTo, KeepsTo}
use Rattle.twin_databases.specs.FullKind.{FullView, SealedView, IsHeldIn, full_kind}
use Rattle.twin_databases.proofs.FullLemmas.{StandsHere}

-- ---- a state is a list and its marks

-- how much of a state is durable, and where it is pruned at most
abbrev pub marks_in : State Operation → Marks
marks_in s = record { durable = s.durable; node_durable = s.node_durable; prune = s.prune }

-- what an image has of its names stands for a list with these marks
abbrev ListStands : List Operation → Marks → FullView → Image → Type 0
ListStands ops marks db image = ImageStands mmr sha bytes_of meaning.encoding ops marks db.journal image

of_list : (s : State Operation) (db : FullView) (image : Image) → ListStands s.ops (marks_in s) db image
    → full_kind.stands s db image
of_list s db image stands = record { operations = stands.items; tree = stands.tree }

as_list : (s : State Operation) (db : FullView) (image : Image) → full_kind.stands s db image
    → ListStands s.ops (marks_in s) db image
as_list s db image stands = record { items = stands.operations; tree = stands.tree }

-- ---- calls

-- where both are answered, or both refused, the same moments turn
step_made : {A S T E F : Type 0} (left : volume.State → ℕ → A → Type 0) (P Q : A → Type 0) (a b : volume.State) (x : S) (y : T)
    → Steps {T = S} {E = E} left P Q a b (Ok x) → Steps {T = T} {E = F} left P Q a b (Ok y)
step_made left P Q a b x y steps = record { past = steps.past; ok = steps.ok; err = tt }

step_failed : {A S T E F : Type 0} (left : volume.State → ℕ → A → Type 0) (P Q : A → Type 0) (a b : volume.State) (x : E) (y : F)
    → Steps {T = S} {E = E} left P Q a b (Err x) → Steps {T = T} {E = F} left P Q a b (Err y)
step_failed left P Q a b x y steps = record { past = steps.past; ok = tt; err = steps.err }

module _ (db : FullView) (a b : volume.State) (s : State Operation) where
  abbrev Left : volume.State → ℕ → Image → Type 0
  Left = NamesLeft (names_of db.journal)

  -- what a call says of the state's list, for the marks of another state
  abbrev pub ListSteps : {T E : Type 0} → Marks → Result T E → Type 0
  ListSteps after result =
      StepsStanding mmr sha bytes_of meaning.encoding s.ops (marks_in s) after db.journal a b result

  -- what takes the one list's marks to those of a state takes the state to that one
  pub steps_to : {T E : Type 0} (t : State Operation) (result : Result T E) → t.ops ≡ s.ops
      → ListSteps (marks_in t) result → StepsTo full_kind s t db a b result
  steps_to t result same steps has =
      steps_weaker Left (ListStands s.ops (marks_in s) db) (full_kind.stands s db) (ListStands s.ops (marks_in t) db)
      (full_kind.stands t db) a b result (of_list s db)
      (λ image stands. of_list t db image
      (subst (λ (ops : List Operation). ListStands ops (marks_in t) db image) (sym same) stands))
      (steps (λ image at. as_list s db image (has image at)))

  -- what a sync has come to, as the answer: where it is done, a database, and else the failure
  pub done_to : (t : State Operation) (came_to : Result (Unit {0}) (Error Mmr)) (made : FullView) → came_to ≡ Ok tt
      → t.ops ≡ s.ops → ListSteps (marks_in t) came_to
      → StepsTo full_kind {T = FullView} {E = Error Mmr} s t db a b (Ok made)
  done_to t came_to made is same steps has =
      step_made Left (full_kind.stands s db) (full_kind.stands t db) a b tt made
      (subst (λ (r : Result (Unit {0}) (Error Mmr)). Steps Left (full_kind.stands s db) (full_kind.stands t db) a b r) is
      (steps_to t came_to same steps has))

  pub failed_to : (t : State Operation) (came_to : Result (Unit {0}) (Error Mmr)) (e : Error Mmr) → came_to ≡ Err e
      → t.ops ≡ s.ops → ListSteps (marks_in t) came_to
      → StepsTo full_kind {T = FullView} {E = Error Mmr} s t db a b (Err e)
  failed_to t came_to e is same steps has =
      step_failed Left (full_kind.stands s db) (full_kind.stands t db) a b e e
      (subst (λ (r : Result (Unit {0}) (Error Mmr)). Steps Left (full_kind.stands s db) (full_kind.stands t db) a b r) is
      (steps_to t came_to same steps has))

  -- the location is the number
  pub prunes_to : {T E : Type 0} (log_blob witness_blob l to : ℕ) (result : Result T E) → l ≡ to
      → ListSteps (pruned_below l (all_synced (length s.ops) (marks_in s))) result
      → StepsTo full_kind s (pruned log_blob witness_blob s to) db a b result
  prunes_to log_blob witness_blob l to result same steps =
      steps_to (pruned log_blob witness_blob s to) result refl
      (subst (λ (n : ℕ). ListSteps (pruned_below n (all_synced (length s.ops) (marks_in s))) result) same steps)

  -- what an apply says of a longer list, which has the marks of before
  abbrev pub ListKeeps : List Operation → Type 0
  ListKeeps list = KeepsStanding mmr sha bytes_of meaning.encoding s.ops list (marks_in s) db.journal a b

  pub keeps_to : (list : List Operation) → ListKeeps list → KeepsTo full_kind s (with_ops s list) db a b
  keeps_to list keeps has =
      keeps_weaker Left (ListStands list (marks_in s) db) (full_kind.stands (with_ops s list) db) a b
      (of_list (with_ops s list) db) (keeps (λ image at. as_list s db image (has image at)))

-- ---- an apply

-- Of segments that follow one another from some leaves on, none begins before these.
begins_past : {G : Type 0} (gs : List G) (starts later : G → ℕ) (Follow : ℕ → List G → Type 0)
    → ((n : ℕ) (g : G) (rest : List G) → Follow n (g ∷ rest) → (starts g ≡ n) × Follow (n + later g) rest)
    → (Q : G → Type 0) (n first i : ℕ) → Follow first gs → IsSomeAnd (slice_get gs i) (λ g. (starts g ≡ n) × Q g) → first ≤ n
begins_past [] starts later Follow next Q n first i runs has = absurd has
begins_past (g ∷ gs) starts later Follow next Q n first zero runs has =
    let at = (next first g gs runs).0 in
    let is = has.0 in
    omega (arith, at, is)
begins_past (g ∷ gs) starts later Follow next Q n first (suc i) runs has =
    let behind = begins_past gs starts later Follow next Q n (first + later g) i (next first g gs runs).1 has in
    omega (arith, behind)

module _ (db : FullView) (image : Image) (x : SealedView) (ops more : List Operation) (held : IsHeldIn ops db image)
    (sealed : full_kind.is_sealed (ops ++ more) x) where
  leaves_are : db.journal.tree.tree.leaves ≡ length ops
  leaves_are = held.journal.tree.tree.count ∙ length-leaves_of mmr sha meaning.encoding ops

  -- where the database's state is of the batch's chain, the batch keeps all that the database lacks
  kept_whole : StandsHere db x → x.tree.nodes.first ≤ length ops
  kept_whole here =
      let fits = marked_fits mmr sha meaning meaning.encoding mmr_lawful ops more x db.state sealed.0 sealed.1
      (size_of_list mmr sha meaning meaning.encoding ops db held.db_of) here in
      begins_past x.tree.nodes.links (λ g. g.leaves) (λ g. g.later)
      (λ n gs. IsSealedOfItems mmr sha meaning.encoding (ops ++ more)
      (record x.tree { nodes = record x.tree.nodes { first = n; links = gs }; items = drop n (ops ++ more) ∷ [] }))
      (λ n g rest of. (
        of.nodes.linked.0,
        record {
          nodes = record {
            linked = of.nodes.linked.3;
            before = (let low = of.nodes.before in omega (arith, low));
            boundary = of.nodes.boundary;
          };
          items = append-nil (drop (n + g.later) (ops ++ more));
        },
      ))
      _ (length ops) x.tree.nodes.first fits.0
      (record { nodes = sealed.0.tree.nodes; items = append-nil (drop x.tree.nodes.first (ops ++ more)) }) fits.1

  -- what the database lacks of such a batch is what stands behind its list
  lacking : x.tree.nodes.first ≤ length ops → unapplied x.tree db.journal.tree.tree.leaves ≡ more
  lacking low =
      let at = leaves_are in
      unapplied_of mmr sha meaning.encoding (ops ++ more) x.tree db.journal.tree.tree.leaves sealed.0.tree
      (omega (arith, low, at))
      ∙ ap (λ n. drop n (ops ++ more)) leaves_are ∙ behind_front ops more

module _ (tells : Type 0) (db : FullView) (old new : volume.State) (at : SealedView → Type 0)
    (result : Result FullView (Error Mmr)) where
  -- what an apply says of images, for the state's list and what stands behind it
  pub applied_images : ((x : SealedView) → at x → (StandsHere db x → ⊥) → IsErrOf result error.StaleBatch)
      → (IsErrOf result error.StaleBatch → new ≡ old)
      → (tells → (ops : List Operation) (marks : Marks) (x : SealedView) → at x → IsHeldIn ops db (present old)
      → KeepsStanding mmr sha bytes_of meaning.encoding ops (ops ++ unapplied x.tree db.journal.tree.tree.leaves) marks
      db.journal old new)
      → tells → (x : SealedView) → at x → (s : State Operation) (more : List Operation)
      → full_kind.is_of (kept_of s) (present old) db → full_kind.is_sealed (s.ops ++ more) x
      → KeepsTo full_kind s (with_ops s (s.ops ++ more)) db old new
  applied_images stale unwritten keeps told x there s more is sealed =
      keeps_to db old new s (s.ops ++ more) (⊎_elim dropped whole (cases_lt (length s.ops) x.tree.nodes.first))
    where
      -- a batch that has dropped some of what is lacking is stale, and then nothing is written
      dropped : length s.ops < x.tree.nodes.first → ListKeeps db old new s (s.ops ++ more)
      dropped lt =
          let same = unwritten (stale x there (λ here.
          let low = kept_whole db (present old) x s.ops more is.held sealed here in omega (arith, lt, low))) in
          subst (λ (state : volume.State). ListKeeps db old state s (s.ops ++ more)) (sym same)
          (still_standing mmr sha bytes_of meaning.encoding s.ops (marks_in s) mmr_lawful more db.journal old)

      whole : x.tree.nodes.first ≤ length s.ops → ListKeeps db old new s (s.ops ++ more)
      whole low =
          subst (λ (list : List Operation). ListKeeps db old new s (s.ops ++ list))
          (lacking db (present old) x s.ops more is.held sealed low)
          (keeps told s.ops (marks_in s) x there is.held)
