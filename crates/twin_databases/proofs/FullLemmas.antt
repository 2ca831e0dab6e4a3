-- The full database as a database of the run: what its calls say, in the run's words.
use Rattle.std.proofs.Common.{◌≡◌, inl, inr, ℕ, List, [], ◌∷◌, ◌++◌, Option, Some, None, Ok, Err, refl, sym, ◌∙◌, ap, subst, arith}
use Rattle.std.specs.Prelude.{Result, IfOk, IfErr, OnOk, IsErrOf, IsSome, Contains}
use Rattle.std.specs.Option.{option_map}
use Rattle.volume_base.specs.Log.{Log, appended, end_of}
use Rattle.volume_base.specs.Moments.{Image, present}
use Rattle.volume_base.specs.Names.{log_alone, two_logs_and_map, NamesCall}
use Rattle.volume_base.specs.Volume.{State}
use Rattle.volume_base.specs.declared.error.JournalError.TheVariants.{SizeOverflow}
use Rattle.journal_base.specs.Items.{Spells}
use Rattle.journal_base.specs.View.{View, log_of, SameButBounds}
use Rattle.codec_base.specs.declared.parts.LengthCfg.{LengthCfg}
use Rattle.tree_shape.specs.Mmr.{mmr}
use Rattle.tree_shape.specs.Sha256Codec.{bytes_of}
use Rattle.tree_shape.specs.declared.mmr.Mmr.{Mmr}
use Rattle.tree_shape.specs.declared.sha256.Sha256Digest.{Sha256Digest}
use Rattle.auth_journal.specs.Joined.{Joined, IsSameJoin}
use Rattle.auth_journal.specs.Standing.{names_of}
use Rattle.op_codec.specs.declared.keyless.Operation.TheVariants.{Commit}
use Rattle.chain_core.specs.Answers.{IsOutside}
use Rattle.chain_core.specs.Chains as chains
use Rattle.chain_core.specs.Marks.{IsMarkedOn}
use Rattle.chain_core.specs.Reached.{item_at}
use Rattle.chain_core.specs.Slots.{slot_at, IsAlive}
use Rattle.chain_core.specs.declared.bounds.Bounds.{Bounds}
use Rattle.chain_core.specs.declared.commitment.Commitment.{Commitment}
use Rattle.chain_core.specs.declared.error.Error.{Error}
use Rattle.chain_core.specs.declared.error.Error.TheVariants as error
use Rattle.chain_core.specs.declared.pool.HeldBatch.{HeldBatch}
use Rattle.keyless_db.specs.Batches.{HasMarks, bounds_of, link_marks}
use Rattle.keyless_db.specs.Errors.{IsOfApply}
use Rattle.list_machine.specs.Operation.{Operation, meaning, sha}
use Rattle.twin_batches.specs.Kind.{Kept, with_list, sealing_of}
use Rattle.twin_databases.specs.FullKind.{FullView, SealedView, UnsealedView, IsHeldIn, IsSealedBatchOf, IsUnsealedBatchOf, IsFullDbOf, full_kind}
use Rattle.twin_databases.proofs.NodeReach.{reach_later}

-- ---- what is alive

some_item : {T : Type 0} (slot : Option (HeldBatch T)) → IsSome slot → (x : T) × (option_map (λ b. b.item) slot ≡ Some x)
some_item None is = absurd cc
some_item (Some b) is = (b.item, refl)

-- a number that is alive has a batch
pub alive_item : {T : Type 0} (pool : List (Option (HeldBatch T))) (id : ℕ) → IsAlive pool id → (x : T) × (item_at pool id ≡ Some x)
alive_item pool id alive = some_item (slot_at pool id) alive

-- ---- a seal

module _ (pool : List (Option (HeldBatch SealedView))) (u : UnsealedView) (k floor : ℕ) (same : k ≡ floor) where
  pub sealed_at : (current : Commitment Mmr Sha256Digest) (below : ℕ) (made : Bounds Mmr Sha256Digest)
      → chains.IsSealedAt full_kind.bounds bytes_of pool (sealing_of full_kind u) current below k made
      → chains.IsSealedAt full_kind.bounds bytes_of pool (sealing_of full_kind u) current below floor made
  sealed_at current below made is = subst (λ n. chains.IsSealedAt full_kind.bounds bytes_of pool (sealing_of full_kind u) current below n made) same is

  -- of a list, with the marks of its chain, it is sealed with its own
  pub sealed_of : (metadata : Option (List ℕ)) (x : SealedView)
      → ((list : List Operation) → IsUnsealedBatchOf list u → chains.IsPoolOf bounds_of mmr sha meaning pool u.parent list
      → IsSealedBatchOf (list ++ (u.tree.items ++ (Commit metadata k ∷ []))) x)
      → ((list : List Operation) → IsUnsealedBatchOf list u → IsMarkedOn bounds_of pool u.parent u.base (link_marks u.tree.nodes.links) → HasMarks x)
      → (list : List Operation) (marks : List ℕ) → full_kind.is_unsealed list u → full_kind.is_marked marks u
      → chains.IsPoolOf full_kind.bounds mmr sha meaning pool (full_kind.parent u) list
      → IsMarkedOn full_kind.bounds pool (full_kind.parent u) (full_kind.base u) marks
      → full_kind.is_sealed (list ++ (u.tree.items ++ (Commit metadata floor ∷ []))) x
  sealed_of metadata x of marked list marks is has chain on = (
    subst (λ n. IsSealedBatchOf (list ++ (u.tree.items ++ (Commit metadata n ∷ []))) x) same (of list is chain),
    marked list is (subst (λ (ms : List ℕ). IsMarkedOn full_kind.bounds pool u.parent u.base ms) (sym has) on),
  )

-- ---- names

-- a call on the first log of a store is one on the store
pub names_wider : (one two pins : List ℕ) (a b : State) → NamesCall (log_alone one) a b → NamesCall (two_logs_and_map one two pins) a b
names_wider one two pins a b call = record {
  others = record {
    logs = λ other none. call.others.logs other (none.0, tt);
    maps = λ other none. call.others.maps other tt;
  };
  images = record {
    past = call.images.past;
    logs = λ other none. call.images.logs other (none.0, tt);
    maps = λ other none. call.images.maps other tt;
  };
}

log_name : {Codec : Type 0} (was is : View Codec) → SameButBounds was is → is.name ≡ was.name
log_name {Codec} was is same = ap (λ (v : View Codec). v.name) same

pub same_names : (j k : Joined Sha256Digest LengthCfg) → IsSameJoin j k → names_of k ≡ names_of j
same_names j k same =
    ap (λ (name : List ℕ). two_logs_and_map name k.tree.log.name k.tree.metadata) (log_name j.items k.items same.items)
    ∙ ap (λ (name : List ℕ). two_logs_and_map j.items.name name k.tree.metadata) (log_name j.tree.log k.tree.log same.log)
    ∙ ap (λ (name : List ℕ). two_logs_and_map j.items.name j.tree.log.name name) same.metadata

-- ---- an apply

module _ (tells : Type 0) (db : FullView) (old new : State) (at : SealedView → Type 0) where
  -- what an apply says of the database that it makes: of a longer list it is held
  abbrev pub HoldsList : FullView → Type 0
  HoldsList made =
      tells → (b : SealedView) → at b → (ops more : List Operation) → IsHeldIn ops db (present old) → IsSealedBatchOf (ops ++ more) b
      → IsHeldIn (ops ++ more) made (present new)

  -- and its log begins where it did
  abbrev pub BeginsStill : Type 0
  BeginsStill = tells → (b : SealedView) → at b → (log_of db.journal.items new).start ≡ (log_of db.journal.items old).start

  applied_one : (made : FullView) → HoldsList made → IsSameJoin db.journal made.journal → BeginsStill
      → (tells → NamesCall (log_alone db.journal.items.name) old new) → tells → (x : SealedView) → at x
      → (kept : Kept) (more : List Operation) → IsFullDbOf kept (present old) db → full_kind.is_sealed (kept.ops ++ more) x
      → IsFullDbOf (with_list kept (kept.ops ++ more)) (present new) made
  applied_one made holds same begins call told x there kept more is sealed =
      let held = holds told x there kept.ops more is.held sealed.0 in
      let items = log_name db.journal.items made.journal.items same.items in
      let spelled = subst (λ (name : List ℕ). Spells meaning.encoding (kept.ops ++ more) (new.log name)) items
      held.journal.items in
      let before = is.reaches in
      let later = reach_later db.journal.items.name db.journal.tree.log.name old new kept.ops more (call told)
      is.held.journal.items spelled in
      let nodes = ap (λ (name : List ℕ). end_of (new.log name))
      (log_name db.journal.tree.log made.journal.tree.log same.log) in
      record {
        held = held;
        begins = ap (λ (name : List ℕ). (new.log name).start) items ∙ begins told x there ∙ is.begins;
        reaches = omega (arith, before, later, nodes);
      }

  pub applied_list : (r : Result FullView (Error Mmr)) → IfOk r HoldsList → IfOk r (λ made. IsSameJoin db.journal made.journal) → OnOk r BeginsStill
      → (tells → NamesCall (log_alone db.journal.items.name) old new)
      → IfOk r (λ made. tells → (x : SealedView) → at x → (kept : Kept) (more : List Operation)
      → full_kind.is_of kept (present old) db → full_kind.is_sealed (kept.ops ++ more) x → full_kind.is_of (with_list kept (kept.ops ++ more)) (present new) made)
  applied_list (Ok made) holds same begins call = applied_one made holds same begins call
  applied_list (Err e) holds same begins call = tt

-- what is put behind a log leaves its start
pub appended_begins : {A E : Type 0} (tells : Type 0) (db : FullView) (old new : State) (at : SealedView → Type 0) (r : Result A E) (items : SealedView → List (List ℕ))
    → ((b : SealedView) → at b → OnOk r (tells → log_of db.journal.items new ≡ appended (log_of db.journal.items old) (items b)))
    → OnOk r (BeginsStill tells db old new at)
appended_begins tells db old new at (Ok made) items is = λ told b there. ap (λ (l : Log). l.start) (is b there told)
appended_begins tells db old new at (Err e) items is = tt

-- where the batch may be applied
abbrev pub StandsHere : FullView → SealedView → Type 0
StandsHere db x = Contains (x.bounds.db ∷ x.bounds.ancestors) db.state

module _ (db : FullView) (at : SealedView → Type 0) (e : Error Mmr) (cause : IsOfApply e)
    (fits : e ≡ error.StaleBatch → (b : SealedView) → at b → (ops more : List Operation) (image : Image) → IsHeldIn ops db image → IsSealedBatchOf (ops ++ more) b
    → HasMarks b → StandsHere db b → ⊥) where
  failed_outside : (tells : Type 0) (old : State)
      → (e ≡ error.Journal SizeOverflow → tells → (b : SealedView) → at b → (ops more : List Operation) → IsHeldIn ops db (present old) → IsSealedBatchOf (ops ++ more) b → ⊥)
      → tells → (x : SealedView) → at x → (kept : Kept) (more : List Operation) → IsFullDbOf kept (present old) db
      → full_kind.is_sealed (kept.ops ++ more) x → StandsHere db x → IsOutside e
  failed_outside tells old room told x there kept more is sealed stands = by cause
    where
      by : IsOfApply e → IsOutside e
      by (inl stale) = absurd (fits stale x there kept.ops more (present old) is.held sealed.0 sealed.1 stands)
      by (inr (inl outside)) = outside
      by (inr (inr over)) = absurd (room over told x there kept.ops more is.held sealed.0)

module _ (db : FullView) (at : SealedView → Type 0) where
  -- of a batch of a longer list with its marks it is never stale where it stands
  abbrev pub FitsWhere : Result FullView (Error Mmr) → Type 0
  FitsWhere r =
      IsErrOf r error.StaleBatch → (b : SealedView) → at b → (ops more : List Operation) (image : Image) → IsHeldIn ops db image → IsSealedBatchOf (ops ++ more) b
      → HasMarks b → StandsHere db b → ⊥

  pub applied_errors : (tells : Type 0) (old : State) (r : Result FullView (Error Mmr)) → IfErr r IsOfApply → FitsWhere r
      → (IsErrOf r (error.Journal SizeOverflow) → tells → (b : SealedView) → at b → (ops more : List Operation) → IsHeldIn ops db (present old) → IsSealedBatchOf (ops ++ more) b → ⊥)
      → IfErr r (λ e. tells → (x : SealedView) → at x → (kept : Kept) (more : List Operation) → full_kind.is_of kept (present old) db
      → full_kind.is_sealed (kept.ops ++ more) x → StandsHere db x → IsOutside e)
  applied_errors tells old (Ok made) cause fits room = tt
  applied_errors tells old (Err e) cause fits room = failed_outside db at e cause (λ stale. fits (ap Err stale)) tells old (λ over. room (ap Err over))
