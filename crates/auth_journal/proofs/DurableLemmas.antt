-- A call on the log of items, and then one on the tree.
use Rattle.std.proofs.Common.{◌≡◌, ℕ, List, length, Ok, Err, refl, sym, ◌∙◌, ap, subst}
use Rattle.std.specs.Prelude.{Result, OnOk, IfErr, IsErrOf}
use Rattle.std.specs.Result.{IsErrAnd}
use Rattle.volume_base.specs.Log.{Log, Stays}
use Rattle.volume_base.specs.Moments.{Image, LeftAt, NamesLeft, Now, Keeps, present}
use Rattle.volume_base.specs.Names.{Names, log_alone, NamesCall}
use Rattle.volume_base.specs.Volume.{State, OnlyLog, LogCall, Writes}
use Rattle.volume_base.specs.declared.error.JournalError.{JournalError}
use Rattle.volume_base.specs.declared.error.JournalError.TheVariants as journal
use Rattle.volume_base.proofs.JoinLemmas.{on_ok, writes_joins}
use Rattle.volume_base.proofs.MomentLemmas.{past_joins}
use Rattle.volume_base.proofs.NameLemmas.{durable_after}
use Rattle.volume_base.proofs.TurnLemmas.{names_back, now_after, keeps_none, keeps_joins, steps_of_keeps, steps_of_turns, steps_at_end, turns_at}
use Rattle.journal_base.specs.Answers.{IsOfVolume}
use Rattle.journal_base.specs.Items.{Spells}
use Rattle.journal_base.specs.View.{SameLog, IsDurable}
use Rattle.tree_shape.specs.Hashing.{Hashing}
use Rattle.tree_shape.specs.Shape.{Shape}
use Rattle.tree_store.specs.declared.error.Error as tree_error
use Rattle.tree_store.specs.declared.error.Error.TheVariants as tree
use Rattle.merkle_full.specs.Flushing.{AllStand, AllKeepStanding}
use Rattle.merkle_full.specs.Lists.{IsFullOf}
use Rattle.merkle_full.proofs.FullLemmas.{full_later}
use Rattle.auth_journal.specs.Durable.{IsFromTree}
use Rattle.auth_journal.specs.Errors.{from_journal}
use Rattle.auth_journal.specs.Joined.{Joined, IsSoundJoin, IsJoinedOf, leaves_of}
use Rattle.auth_journal.specs.Standing.{Marks, items_synced, all_synced, names_of, ImageStands, StepsStanding}
use Rattle.auth_journal.proofs.JoinedLemmas.{joined_later}
use Rattle.auth_journal.proofs.StandingLemmas.{items_keep, items_settle, tree_keeps, tree_settles}

-- ---- answers

-- the error that is answered
pub err_and : {T E : Type 0} (result : Result T E) (e : E) (P : E → Type 0) → IsErrAnd result (λ d. d ≡ e) → P e → IfErr result P
err_and (Ok x) e P is has = absurd is
err_and (Err d) e P is has = subst P (sym is) has

pub err_not_ok : {T E : Type 0} (result : Result T E) (P : E → Type 0) (Q : Type 0) → IsErrAnd result P → OnOk result Q
err_not_ok (Ok x) P Q is = absurd is
err_not_ok (Err d) P Q is = tt

-- the volume's failure, as that of the call below
pub fault_below : {S T D E : Type 0} (lift : D → E) (fault : E) (first : D) (result : Result T E) (e : D) → ((d : D) → lift d ≡ fault → d ≡ first)
    → IsErrAnd result (λ x. x ≡ lift e) → IsErrOf result fault → IsErrOf {T = S} (Err e) first
fault_below lift fault first (Ok x) e back is at = absurd is
fault_below lift fault first (Err d) e back is at = ap Err (back e (sym is ∙ same d fault at))
  where
    same : {T E : Type 0} (d fault : E) → IsErrOf {T = T} (Err d) fault → d ≡ fault
    same d fault at = cc

-- what a log of items is refused by, a tree is
pub log_fails : {F : Type 0} (P : tree_error.Error F → Type 0) (e : JournalError) → IsOfVolume e → P tree.Volume → P tree.Memory → IsFromTree P (from_journal e)
log_fails P journal.Volume of volume memory = (tree.Volume, refl, volume)
log_fails P journal.Memory of volume memory = (tree.Memory, refl, memory)
log_fails P (journal.ItemPruned p) of volume memory = absurd cc
log_fails P (journal.ItemOutOfRange p) of volume memory = absurd cc
log_fails P (journal.Corruption p) of volume memory = absurd cc
log_fails P journal.SizeOverflow of volume memory = absurd cc
log_fails P journal.EmptyAppend of volume memory = absurd cc
log_fails P (journal.Tree cause) of volume memory = absurd cc

-- two calls that write were done
pub writes_done : {R S T D E F : Type 0} (tells : Type 0) (first : D) (last : E) (fault : F) (a b c : State) (one : R) (two : S) (made : T) → Writes tells first a b (Ok one) → Writes tells last b c (Ok two) → Writes tells fault a c (Ok made)
writes_done {S = S} {T = T} {E = E} {F = F} tells first last fault a b c one two made ab bc = writes_joins tells first last fault a b c one done (Ok made) ab bc (λ is. absurd (never made fault is)) (λ kept. kept)
  where
    done : Result S E
    done = Ok two

    never : {T F : Type 0} (made : T) (fault : F) → IsErrOf (Ok made) fault → ⊥
    never made fault is = cc

-- ---- contents and moments

-- a log that is as before is a run of the same list
pub run_synced : {D Codec Item : Type 0} (spelling : Item → List ℕ) (list : List Item) (j : Joined D Codec) (a b : State) → SameLog j.items a b → Spells spelling list (a.log j.items.name) → Spells spelling list (b.log j.items.name)
run_synced spelling list j a b same run = subst (λ (l : Log). Spells spelling list l) (sym same) run

-- over a call on the tree what was durable of the log of items stays so
pub items_durable : {D Codec : Type 0} (j : Joined D Codec) → IsSoundJoin j → (b c : State) → NamesCall (log_alone j.tree.log.name) b c → IsDurable j.items b → IsDurable j.items c
items_durable j sound b c call only = durable_after (log_alone j.tree.log.name) j.items.name b c call.images (sound.apart, tt) (call.others.logs j.items.name (sound.apart, tt)) only

module _ {D Codec Item : Type 0} (s : Shape) (h : Hashing D) (digest : D → List ℕ) (spelling : Item → List ℕ) (list : List Item) (j : Joined D Codec) (sound : IsSoundJoin j) where
  abbrev names : Names
  names = names_of j

  abbrev Left : State → ℕ → Image → Type 0
  Left = NamesLeft names

  abbrev Stands : Marks → Image → Type 0
  Stands marks = ImageStands s h digest spelling list marks j

  abbrev leaves : List D
  leaves = leaves_of s h spelling list

  -- over a call on the log of items the tree stays
  pub tree_still : (admits : D → Type 0) (a b : State) → OnlyLog j.items.name a b → IsFullOf s h digest admits leaves j.tree (present a) → IsFullOf s h digest admits leaves j.tree (present b)
  tree_still admits a b only full =
      full_later s h digest admits leaves j.tree (present a) (present b) (only.logs j.tree.log.name (λ e. sound.apart (sym e))) (only.maps j.tree.metadata) full

  module _ (a b c : State) (synced : LogCall j.items.name Stays a b) (call : NamesCall (log_alone j.tree.log.name) b c) where
    pub joined_behind : (admits : D → Type 0) (k : Joined D Codec) → IsJoinedOf s h digest admits spelling list j (present a) → k.items ≡ j.items → SameLog j.items a b
        → IsFullOf s h digest admits leaves k.tree (present c) → IsJoinedOf s h digest admits spelling list k (present c)
    joined_behind admits k was items same full = joined_later s h digest admits spelling list j k (present a) (present c) was items (call.others.logs j.items.name (sound.apart, tt) ∙ same) full

    module _ (marks : Marks) (now : LeftAt b b.clock (present b))
        (keeps : (top : ℕ) → AllStand s h digest leaves marks.node_durable top j.tree b → AllKeepStanding s h digest leaves marks.node_durable top j.tree b c) where
      kept : Now Left (Stands marks) a → Keeps Left (Stands marks) a c
      kept has =
          let ab = items_keep s h digest spelling list j sound.apart marks a b synced.images has in
          keeps_joins Left (names_back names) (Stands marks) a b c ab
          (tree_keeps s h digest spelling list j sound.apart marks b c call.images.past (call.images.logs j.items.name (sound.apart, tt)) now keeps (now_after Left (Stands marks) a b ab))

      -- no sync of both was done
      pub images_kept : {T E : Type 0} (after : Marks) (result : Result T E) → OnOk result ⊥ → StepsStanding s h digest spelling list marks after j a c result
      images_kept after result failed has = steps_of_keeps Left (Stands marks) (Stands after) a c result failed (kept has)

      module _ (run : Spells spelling list (b.log j.items.name)) (only : IsDurable j.items b) where
        settled : Now Left (Stands marks) a → Now Left (Stands (items_synced (length list) marks)) b
        settled has = items_settle s h digest spelling list j sound.apart marks b run only (now_after Left (Stands marks) a b (items_keep s h digest spelling list j sound.apart marks a b synced.images has))

        behind : Now Left (Stands marks) a → Keeps Left (Stands (items_synced (length list) marks)) b c
        behind has = tree_keeps s h digest spelling list j sound.apart (items_synced (length list) marks) b c call.images.past (call.images.logs j.items.name (sound.apart, tt)) now keeps (settled has)

        -- the log of items was synced
        pub images_committed : {T E : Type 0} (result : Result T E) → StepsStanding s h digest spelling list marks (items_synced (length list) marks) j a c result
        images_committed result has =
            let ab = items_keep s h digest spelling list j sound.apart marks a b synced.images has in
            let bc = behind has in
            steps_of_turns Left (Stands marks) (Stands (items_synced (length list) marks)) a c result (past_joins a b c ab.past bc.past)
            (turns_at Left (names_back names) (Stands marks) (Stands (items_synced (length list) marks)) a b c ab bc)

        -- and so was the tree, where the call is done
        pub images_synced : {T E : Type 0} (result : Result T E)
            → OnOk result ((top : ℕ) → AllStand s h digest leaves marks.node_durable top j.tree b → AllStand s h digest leaves (length leaves) top j.tree c)
            → StepsStanding s h digest spelling list marks (all_synced (length list) marks) j a c result
        images_synced result settle has =
            steps_at_end Left (Stands marks) (Stands (all_synced (length list) marks)) a c result (kept has)
            (on_ok result _ _
            (λ settles. tree_settles s h digest spelling list j sound.apart (items_synced (length list) marks) b c (call.images.logs j.items.name (sound.apart, tt)) call.images.past.later settles
            (settled has) (now_after Left (Stands (items_synced (length list) marks)) b c (behind has)) refl)
            settle)

  -- the sync of the log of items has failed
  pub images_unsynced : {T E : Type 0} (marks after : Marks) (a b : State) (result : Result T E) → LogCall j.items.name Stays a b → OnOk result ⊥ → StepsStanding s h digest spelling list marks after j a b result
  images_unsynced marks after a b result synced failed has =
      steps_of_keeps Left (Stands marks) (Stands after) a b result failed (items_keep s h digest spelling list j sound.apart marks a b synced.images has)

  -- where nothing is called
  pub images_none : {T E : Type 0} (marks after : Marks) (a : State) (result : Result T E) → OnOk result ⊥ → StepsStanding s h digest spelling list marks after j a a result
  images_none marks after a result failed has = steps_of_keeps Left (Stands marks) (Stands after) a a result failed (keeps_none Left (Stands marks) a has)
