-- What reads of the full side stand on: a good state's list and its batches' lists, and what is kept of them.
use Rattle.std.proofs.Common.{◌≡◌, ◌⊎◌, inl, inr, ℕ, zero, suc, ◌+◌, ◌<◌, ◌≤◌, ◌^◌, Bool, true, false, ◌||◌, List, [], ◌∷◌, ◌++◌, length, take, drop, Option, Some, None, refl, sym, ◌∙◌, ap, subst, arith}
use Rattle.std.specs.Prelude.{IfSome, IsSomeAnd, Contains, min, slice_get, slice_index_or, unwrap_or, reverse}
use Rattle.std.specs.Bool.{Decides}
use Rattle.std.specs.List.{AllByRecursion}
use Rattle.std.specs.Option.{option_map, option_map_or, ForSome}
use Rattle.std.proofs.lemmas.List.{take-append-drop, append_assoc, append-nil}
use Rattle.std.proofs.Math.Seq.{take-length}
use Rattle.std.proofs.lemmas.Option.{none-some, same_Some}
use Rattle.volume_base.specs.Moments.{Image}
use Rattle.codec_base.specs.Parts.{admits_bytes, admits_optional}
use Rattle.codec_base.specs.declared.parts.LengthCfg.{LengthCfg}
use Rattle.tree_shape.specs.Mmr.{mmr}
use Rattle.tree_shape.specs.Sha256Codec.{bytes_of}
use Rattle.tree_shape.specs.declared.mmr.Mmr.{Mmr}
use Rattle.tree_shape.specs.declared.sha256.Sha256Digest.{Sha256Digest}
use Rattle.auth_journal.specs.Batched.{IsSealedOfItems}
use Rattle.op_codec.specs.Keyless.{parts, variable_admits}
use Rattle.op_codec.specs.declared.keyless.Operation.TheVariants.{Append, Commit}
use Rattle.log_model.specs.Good.{AnyList, EndsWithCommit, FloorFits, FloorsRise, ValuesAre, IsDurable, IsGoodList, IsGoodBatch, ParentFits, HasParent}
use Rattle.log_model.specs.Machine.{State, batch_at, max_leaves}
use Rattle.log_model.specs.Operations.{floor_of}
use Rattle.log_model.specs.Reach.{as_sealed, linked, floor_below, stands_on, may_read_sealed, may_read_unsealed}
use Rattle.log_model.specs.StateBatches as batches
use Rattle.log_model.proofs.FloorLemmas.{floor_later, floor_within}
use Rattle.log_model.proofs.LogLemmas.{ends_at}
use Rattle.log_model.proofs.ReachLemmas.{lists_decide}
use Rattle.chain_core.specs.Commitments.{is_same_equivalence, is_same-exact}
use Rattle.chain_core.specs.MarkedPool.{NeverRise}
use Rattle.chain_core.specs.Marks.{sizes_back}
use Rattle.chain_core.specs.Reached.{linked_item}
use Rattle.chain_core.specs.Slots.{slot_at, IsAlive}
use Rattle.chain_core.specs.States.{sizes}
use Rattle.chain_core.specs.declared.commitment.Commitment.{Commitment}
use Rattle.chain_core.specs.declared.pool.HeldBatch.{HeldBatch}
use Rattle.chain_core.proofs.Among.{list_any-Decides}
use Rattle.chain_core.proofs.PoolLemmas.{alive_held}
use Rattle.chain_core.proofs.StateLemmas.{whole, state_of_front}
use Rattle.keyless_db.specs.Batches.{bounds_of, link_marks}
use Rattle.keyless_db.specs.DbView.{floor_in}
use Rattle.keyless_db.specs.Reading.{IsInChain, read_states, read_floor, chain_start}
use Rattle.list_machine.specs.Commitments.{commitment_of, same_state, IsStateIn, AreBounds}
use Rattle.list_machine.specs.Config.{Config}
use Rattle.list_machine.specs.Operation.{Operation, meaning, sha, one_list, same_operation, operation_decide}
use Rattle.list_machine.specs.Step.{plain_commit}
use Rattle.list_machine.specs.Told.{IsTold}
use Rattle.twin_batches.specs.StateOf.{LinkIs, IsSealedAs, IsUnsealedAs, StandsGood}
use Rattle.twin_batches.specs.declared.numbers.Numbers.{Numbers}
use Rattle.twin_batches.proofs.Fronts.{stands_decides}
use Rattle.twin_batches.proofs.Handlers.{stands_same, begins_where}
use Rattle.twin_batches.proofs.Reaching.{alive_there}
use Rattle.twin_databases.specs.FullKind.{FullView, SealedView, UnsealedView, IsHeldIn, full_kind}

-- ---- whether the log stands at one of several states

exact : (a b : Sha256Digest) → bytes_of a ≡ bytes_of b → a ≡ b
exact a b e = ap (λ xs. record { bytes = xs }) e

pub stands_or_not : (states : List (Commitment Mmr Sha256Digest)) (at : Commitment Mmr Sha256Digest) → Contains states at ⊎ (Contains states at → ⊥)
stands_or_not states at = by _ (list_any-Decides (is_same_equivalence bytes_of) (is_same-exact bytes_of exact) at states)
  where
    by : (b : Bool) → Decides b (Contains states at) → Contains states at ⊎ (Contains states at → ⊥)
    by true d = inl (d.0 refl)
    by false d = inr (λ here. let never = d.1 here in cc)

-- ---- values of a good state are short enough to be read

-- which operations a log may have
abbrev pub Admits : ℕ → Operation → Type 0
Admits limit op = variable_admits (admits_bytes limit) (parts op)

module _ (limit : ℕ) (few : limit < 2 ^ 64) where
  abbrev Short : List ℕ → Type 0
  Short v = length v ≤ limit

  metadata_fits : (m : Option (List ℕ)) → IfSome m Short → admits_optional (admits_bytes limit) m
  metadata_fits None short = tt
  metadata_fits (Some v) short = (short, omega (arith, short, few))

  operation_fits : (low i : ℕ) (op : Operation) → i < max_leaves → IfSome (meaning.value op) Short → FloorFits low i (meaning.floor op) → Admits limit op
  operation_fits low i (Append v) within short floor = (short, omega (arith, short, few))
  operation_fits low i (Commit m f) within short floor = let at = floor.1 in (metadata_fits m short, (omega (arith, at, within), omega (arith, at, within)))

  pub operations_fit : (low i : ℕ) (ops : List Operation) → i + length ops ≤ max_leaves → ValuesAre meaning Short ops → FloorsRise meaning low i ops → (k : ℕ) (op : Operation) → slice_get ops k ≡ Some op → Admits limit op
  operations_fit low i [] within values floors k op at = absurd cc
  operations_fit low i (x ∷ ops) within values floors zero op at = let e : x ≡ op = cc in subst (Admits limit) e (operation_fits low i x (omega (arith, within)) values.0 floors.0)
  operations_fit low i (x ∷ ops) within values floors (suc k) op at =
      operations_fit (unwrap_or (meaning.floor x) low) (i + 1) ops (omega (arith, within)) values.1 floors.1 k op at

-- ---- where a chain begins

first_mark : (x : SealedView) (list : List Operation) (d : ℕ) (rest : List ℕ) → IsSealedOfItems mmr sha meaning.encoding list x.tree → link_marks x.tree.nodes.links ≡ d ∷ rest → x.tree.nodes.first ≡ d
first_mark x list d rest of is = (elim (x.tree.nodes.links) as (λ links. IsSealedOfItems mmr sha meaning.encoding list (record x.tree { nodes = record x.tree.nodes { links = links } }) → link_marks links ≡ d ∷ rest → x.tree.nodes.first ≡ d) [
  | [] ↦ λ of is. absurd (cc)
  | g ∷ gs ↦ λ of is. let first : g.leaves ≡ d = cc in sym of.nodes.linked.0 ∙ first
]) of is

last_holds : (P : ℕ → Type 0) (xs : List ℕ) (d : ℕ) → AllByRecursion P (xs ++ (d ∷ [])) → P d
last_holds P [] d all = all.0
last_holds P (x ∷ xs) d all = last_holds P xs d all.1

-- no state of a chain lies before it
low_at : (cs : List (Commitment Mmr Sha256Digest)) (d : ℕ) → NeverRise (sizes cs ++ (d ∷ [])) → (k : ℕ) (c : Commitment Mmr Sha256Digest) → k < length cs → slice_index_or cs k c ≡ c → d ≤ c.size
low_at [] d back k c within is = absurd (omega (arith, within))
low_at (x ∷ cs) d back zero c within is = subst (λ (y : Commitment Mmr Sha256Digest). d ≤ y.size) is (last_holds (λ m. m ≤ x.size) (sizes cs) d back.0)
low_at (x ∷ cs) d back (suc k) c within is = low_at cs d back.1 k c (omega (arith, within)) is

pub chain_low : (x : SealedView) (at : Commitment Mmr Sha256Digest) → NeverRise (sizes_back x.bounds) → Contains (x.bounds.tip ∷ x.bounds.db ∷ x.bounds.ancestors) at → x.bounds.db.size ≤ at.size
chain_low x at back (zero, within, is) =
    subst (λ (y : Commitment Mmr Sha256Digest). x.bounds.db.size ≤ y.size) is (last_holds (λ m. m ≤ x.bounds.tip.size) (sizes x.bounds.ancestors) x.bounds.db.size back.0)
chain_low x at back (suc zero, within, is) = subst (λ (y : Commitment Mmr Sha256Digest). x.bounds.db.size ≤ y.size) is (omega arith)
chain_low x at back (suc (suc k), within, is) = low_at x.bounds.ancestors x.bounds.db.size back.1 k at (omega (arith, within)) is

swapped : {X : Type 0} (a b : X) (xs : List X) (x : X) → Contains (a ∷ b ∷ xs) x → Contains (b ∷ a ∷ xs) x
swapped a b xs x (zero, within, is) = (suc zero, omega arith, is)
swapped a b xs x (suc zero, within, is) = (zero, omega arith, is)
swapped a b xs x (suc (suc k), within, is) = (suc (suc k), within, is)

begins_front : (xs list more : List Operation) → list ≡ xs ++ more → xs ≡ take (length xs) list
begins_front xs list more is = sym (ap (take (length xs)) is ∙ front xs more)
  where
    front : (ys zs : List Operation) → take (length ys) (ys ++ zs) ≡ ys
    front [] zs = take-zero zs
      where
        take-zero : (ws : List Operation) → take 0 ws ≡ []
        take-zero [] = refl
        take-zero (w ∷ ws) = refl
    front (y ∷ ys) zs = ap (λ (ws : List Operation). y ∷ ws) (front ys zs)

or_none : (b : Bool) → (b || false) ≡ b
or_none true = refl
or_none false = refl

-- ---- a good state

module _ (c : Config) (image : Image) (db : FullView) (n : Numbers SealedView UnsealedView) (s : State Operation) (stands : StandsGood full_kind c image db n s) where
  pub held : IsHeldIn s.ops db image
  held = stands.is.log.held

  pub size_here : db.state.size ≡ length s.ops
  size_here = ap (λ (k : Commitment Mmr Sha256Digest). k.size) held.db_of.state_is

  pub start_here : db.journal.items.start ≡ s.start
  start_here = held.journal.start_is ∙ stands.is.log.begins

  pub admitted : (k : ℕ) (op : Operation) → slice_get s.ops k ≡ Some op → Admits db.journal.items.codec.max op
  admitted k op at =
      let within = stands.good.good.ops.few in
      subst (λ (cfg : LengthCfg). Admits cfg.max op) (sym stands.under.codec)
      (operations_fit c.value_limit stands.few 0 0 s.ops (omega (arith, within)) stands.good.good.ops.values stands.good.good.ops.floors k op at)

  abbrev GoodList : List Operation → Type 0
  GoodList list = IsGoodList meaning AnyList (λ (v : List ℕ). length v ≤ c.value_limit) plain_commit list

  -- what is given up lies below the floor of each list that goes on from the log's
  pub low : (list more : List Operation) → list ≡ s.ops ++ more → GoodList list → s.start ≤ floor_of meaning list
  low list more is good = by stands.good.good.log.durable
    where
      joined : take s.durable s.ops ++ (drop s.durable s.ops ++ more) ≡ list
      joined = sym (append_assoc (take s.durable s.ops) (drop s.durable s.ops) more) ∙ ap (λ (xs : List Operation). xs ++ more) (take-append-drop s.durable s.ops) ∙ sym is

      by : IsDurable s.sizes s.durable → s.start ≤ floor_of meaning list
      by (inl at) =
          let front : List Operation = take s.durable s.ops in
          let rest : List Operation = drop s.durable s.ops ++ more in
          let ends : EndsWithCommit meaning front = ends_at meaning AnyList (λ (v : List ℕ). length v ≤ c.value_limit) plain_commit s.ops s.sizes at.0 s.durable s.durable stands.good.good.log.commits at.1 at.2 in
          let all : EndsWithCommit meaning (front ++ rest) = subst (EndsWithCommit meaning) (sym joined) good.stand.0 in
          let rise : FloorsRise meaning 0 0 (front ++ rest) = subst (FloorsRise meaning 0 0) (sym joined) good.floors in
          let later = floor_later meaning AnyList (λ (v : List ℕ). length v ≤ c.value_limit) plain_commit front rest ends all rise in
          let same = ap (floor_of meaning) joined in
          let kept = stands.good.good.log.start in
          let floor = stands.good.good.log.floor in
          omega (arith, later, same, kept, floor)
      by (inr none) = let some = stands.good.some in absurd (omega (arith, none.0, some))

  floor_fits : (list : List Operation) → GoodList list → floor_of meaning list ≤ length list
  floor_fits list good = floor_within meaning AnyList (λ (v : List ℕ). length v ≤ c.value_limit) plain_commit list good.stand.0 good.floors

  good_at : (b : ℕ) (y : batches.Batch Operation) → batch_at s b ≡ y → IsGoodBatch meaning AnyList (λ (v : List ℕ). length v ≤ c.value_limit) plain_commit y
  good_at b y at = subst (IsGoodBatch meaning AnyList (λ (v : List ℕ). length v ≤ c.value_limit) plain_commit) at (stands.good.good.batches b)

  -- ---- a sealed batch

  module _ (x : SealedView) (d : batches.SealedBatch Operation) (like : IsSealedAs full_kind x d) where
    sealed_bounds : AreBounds d.list x.bounds
    sealed_bounds = like.list.0.batch.bounds

    tip_size : x.bounds.tip.size ≡ length d.list
    tip_size = ap (λ (k : Commitment Mmr Sha256Digest). k.size) sealed_bounds.tip

    tip_in : IsStateIn d.list x.bounds.tip
    tip_in = subst (IsStateIn d.list) (sym sealed_bounds.tip) (state_of_front mmr sha meaning d.list d.list (whole d.list))

    -- by size and root, it may be read where the database stands at a state of its chain
    pub sealed_decides : Decides (may_read_sealed same_state s d) (IsInChain x db)
    sealed_decides =
        let places : stands_on same_state s d.list d.boundary (length d.list ∷ d.tips) ≡ stands_on same_state s d.list x.bounds.db.size (sizes (x.bounds.tip ∷ x.bounds.ancestors))
        = stands_same same_state s d.list d.list d.boundary x.bounds.db.size (length d.list ∷ d.tips) (sizes (x.bounds.tip ∷ x.bounds.ancestors)) refl like.boundary
        (ap (λ (k : ℕ). k ∷ d.tips) (sym tip_size) ∙ ap (λ (ks : List ℕ). x.bounds.tip.size ∷ ks) like.tips) in
        let tells = stands_decides s d.list x.bounds.db (x.bounds.tip ∷ x.bounds.ancestors) sealed_bounds.db (tip_in, sealed_bounds.ancestors) in (
          λ may. subst (λ (k : Commitment Mmr Sha256Digest). Contains (x.bounds.tip ∷ x.bounds.db ∷ x.bounds.ancestors) k) (sym held.db_of.state_is)
              (swapped x.bounds.db x.bounds.tip x.bounds.ancestors (commitment_of s.ops) (tells.0 (sym places ∙ may))),
          λ here. places ∙ tells.1 (swapped x.bounds.tip x.bounds.db x.bounds.ancestors (commitment_of s.ops)
              (subst (λ (k : Commitment Mmr Sha256Digest). Contains (x.bounds.tip ∷ x.bounds.db ∷ x.bounds.ancestors) k) held.db_of.state_is here)),
        )

    -- its chain begins nowhere behind such a state
    pub sealed_few : NeverRise (sizes_back x.bounds) → IsInChain x db → x.tree.nodes.first ≤ db.state.size
    sealed_few back here =
        let first : x.tree.nodes.first ≡ x.bounds.db.size
        = first_mark x d.list x.bounds.db.size (reverse (sizes x.bounds.ancestors)) like.list.0.tree like.list.1 in
        let le = chain_low x db.state back here in
        omega (arith, first, le)

  -- its list goes on from the log's, where it may be read
  pub sealed_begins : (d : batches.SealedBatch Operation) → may_read_sealed one_list s d ≡ true → (more : List Operation) × (d.list ≡ s.ops ++ more)
  sealed_begins d may = begins_where s d.list d.boundary (length d.list ∷ d.tips) may

  module _ (b : ℕ) (d : batches.SealedBatch Operation) (at : batch_at s b ≡ batches.Sealed d) where
    sealed_good : IsGoodBatch meaning AnyList (λ (v : List ℕ). length v ≤ c.value_limit) plain_commit (batches.Sealed d)
    sealed_good = good_at b (batches.Sealed d) at

    pub sealed_low : may_read_sealed one_list s d ≡ true → s.start ≤ d.floor
    sealed_low may =
        let more = sealed_begins d may in
        let le = low d.list more.0 more.1 sealed_good.0 in
        let floor = sealed_good.4 in
        omega (arith, le, floor)

    pub sealed_told : IsTold s → may_read_sealed same_state s d ≡ may_read_sealed one_list s d
    sealed_told told = told.sealed_reads b d at

  -- What a read of a batch stands on: whether it may be read here, from which floor on, and that its chain keeps what
  -- the database hasn't.
  pub record CanRead (may : Bool) (Here : Type 0) (list : List Operation) (floor own_floor chain : ℕ) : Type 0 where
    pub decides : Decides may Here
    pub front : Here → s.ops ≡ take (length s.ops) list
    pub floor_is : Here → own_floor ≡ floor
    pub low : Here → db.journal.items.start ≤ floor
    pub few : Here → chain ≤ db.state.size

  told_decides : (p q : Bool) (Here : Type 0) → p ≡ q → Decides p Here → Decides q Here
  told_decides p q Here same d = subst (λ t. Decides t Here) same d

  pub reads_sealed : IsTold s → (b : ℕ) (x : SealedView) (d : batches.SealedBatch Operation) → batch_at s b ≡ batches.Sealed d → IsSealedAs full_kind x d → NeverRise (sizes_back x.bounds)
      → CanRead (may_read_sealed one_list s d) (IsInChain x db) d.list d.floor x.bounds.inactivity_floor x.tree.nodes.first
  reads_sealed told b x d at like back = record {
    decides = decides;
    front = λ here. let more = sealed_begins d (decides.1 here) in begins_front s.ops d.list more.0 more.1;
    floor_is = λ here. sym like.floor;
    low = λ here. let le = sealed_low b d at (decides.1 here) in omega (arith, le, start_here);
    few = sealed_few x d like back;
  }
    where
      decides : Decides (may_read_sealed one_list s d) (IsInChain x db)
      decides = told_decides (may_read_sealed same_state s d) (may_read_sealed one_list s d) (IsInChain x db) (sealed_told b d at told) (sealed_decides x d like)

  -- ---- an unsealed batch

  -- on which it stands: the log alone, or a sealed batch of its own list that is alive
  pub record OnParent (pool : List (Option (HeldBatch SealedView))) (u : UnsealedView) (w : batches.UnsealedBatch Operation) : Type 0 where
    pub p : ℕ
    pub item : SealedView
    pub batch : batches.SealedBatch Operation
    pub there : batch_at s p ≡ batches.Sealed batch
    pub item_is : linked_item pool u.parent ≡ Some item
    pub batch_is : linked s w.parent ≡ Some batch
    pub like : IsSealedAs full_kind item batch
    pub back : NeverRise (sizes_back item.bounds)
    pub same : batch.list ≡ w.list

  pub record OnLog (pool : List (Option (HeldBatch SealedView))) (u : UnsealedView) (w : batches.UnsealedBatch Operation) : Type 0 where
    pub item_is : linked_item pool u.parent ≡ None
    pub alone : w.parent ≡ None

  module _ (lists : IsTold s) (b : ℕ) (u : UnsealedView) (w : batches.UnsealedBatch Operation) (at : batch_at s b ≡ batches.Unsealed w) (like : IsUnsealedAs full_kind u w) where
    abbrev Pool : List (Option (HeldBatch SealedView))
    Pool = n.pool

    unsealed_good : IsGoodBatch meaning AnyList (λ (v : List ℕ). length v ≤ c.value_limit) plain_commit (batches.Unsealed w)
    unsealed_good = good_at b (batches.Unsealed w) at

    base_size : u.base.size ≡ length w.list
    base_size = ap (λ (k : Commitment Mmr Sha256Digest). k.size) like.list.base

    parent_list : (p : ℕ) (d : batches.SealedBatch Operation) → w.parent ≡ Some p → batch_at s p ≡ batches.Sealed d → d.list ≡ w.list
    parent_list p d link there =
        let has : HasParent s b (batches.Unsealed w) = subst (HasParent s b) at (stands.good.good.parents b) in
        let fits = subst (λ (l : Option ℕ). ParentFits s b w.list w.base l) link has in
        let front : d.list ≡ take w.base w.list = subst (λ (y : batches.Batch Operation). IsSomeAnd (as_sealed y) (λ e. e.list ≡ take w.base w.list)) there fits.1 in
        front ∙ ap (λ k. take k w.list) like.base ∙ take-length w.list

    on_link : (link p : Option ℕ) → u.parent ≡ link → w.parent ≡ p → LinkIs n.batches.items b link p → ForSome link (IsAlive Pool) → OnLog Pool u w ⊎ OnParent Pool u w
    on_link None None own model is alive = inl (record { item_is = ap (linked_item Pool) own; alone = model })
    on_link (Some id) (Some p) own model is alive =
        let e = alive_held (slot_at Pool id) (alive id refl) in
        let d = alive_there full_kind n.batches.items Pool s stands.is.batches p id e.0 is.1 e.1 in
        inr (record {
          p = p;
          item = e.0.item;
          batch = d.0;
          there = d.1;
          item_is = ap (linked_item Pool) own ∙ ap (option_map (λ (h : HeldBatch SealedView). h.item)) e.1;
          batch_is = ap (linked s) model ∙ ap as_sealed d.1;
          like = d.3.is;
          back = (stands.is.marks.sealed id e.0 e.1).back;
          same = parent_list p d.0 model d.1;
        })
    on_link None (Some p) own model is alive = absurd is
    on_link (Some id) None own model is alive = absurd is

    -- ---- on the log

    module _ (on : OnLog Pool u w) where
      log_states : read_states Pool u ≡ u.base ∷ []
      log_states = ap (λ o. option_map_or (λ (p : SealedView). p.bounds.tip ∷ p.bounds.db ∷ p.bounds.ancestors) o (u.base ∷ [])) on.item_is

      log_may : (same : batches.SealedBatch Operation → Bool) (t : Bool) → option_map_or same (linked s w.parent) t ≡ t
      log_may same t = ap (λ l. option_map_or same (linked s l) t) on.alone

      base_in : IsStateIn w.list u.base
      base_in = subst (IsStateIn w.list) (sym like.list.base) (state_of_front mmr sha meaning w.list w.list (whole w.list))

      log_stands : stands_on same_state s w.list u.base.size [] ≡ same_state s.ops w.list
      log_stands = or_none (same_state s.ops (take u.base.size w.list)) ∙ ap (same_state s.ops) (ap (λ k. take k w.list) base_size ∙ take-length w.list)

      log_decides : Decides (may_read_unsealed same_state s w) (Contains (read_states Pool u) db.state)
      log_decides =
          let tells = stands_decides s w.list u.base [] base_in tt in (
            λ may. subst (λ (cs : List (Commitment Mmr Sha256Digest)). Contains cs db.state) (sym log_states)
                (subst (λ (k : Commitment Mmr Sha256Digest). Contains (u.base ∷ []) k) (sym held.db_of.state_is)
                (tells.0 (log_stands ∙ sym (log_may (may_read_sealed same_state s) (same_state s.ops w.list)) ∙ may))),
            λ here. log_may (may_read_sealed same_state s) (same_state s.ops w.list) ∙ sym log_stands
                ∙ tells.1 (subst (λ (k : Commitment Mmr Sha256Digest). Contains (u.base ∷ []) k) held.db_of.state_is
                (subst (λ (cs : List (Commitment Mmr Sha256Digest)). Contains cs db.state) log_states here)),
          )

      log_list : may_read_unsealed one_list s w ≡ true → s.ops ≡ w.list
      log_list may = (lists_decide same_operation operation_decide s.ops w.list).0 (sym (log_may (may_read_sealed one_list s) (one_list s.ops w.list)) ∙ may)

      log_floor : s.ops ≡ w.list → read_floor Pool u (floor_in meaning db) ≡ floor_below meaning s w
      log_floor same =
          let own : read_floor Pool u (floor_in meaning db) ≡ min u.base.size (floor_in meaning db)
          = ap (λ o. min u.base.size (option_map_or (λ (p : SealedView). (bounds_of p).inactivity_floor) o (floor_in meaning db))) on.item_is in
          let model : floor_below meaning s w ≡ floor_of meaning s.ops = ap (λ l. option_map_or (λ (e : batches.SealedBatch Operation). e.floor) (linked s l) (floor_of meaning s.ops)) on.alone in
          let floor = full_kind.floor_is _ image db stands.is.log in
          let fits = floor_fits s.ops stands.good.good.ops in
          let size = ap length same in
          omega (arith, own, model, floor, fits, size, base_size)

      log_chain : s.ops ≡ w.list → chain_start Pool u ≤ db.state.size
      log_chain same =
          let own : chain_start Pool u ≡ min u.base.size u.base.size = ap (λ o. min u.base.size (option_map_or (λ (p : SealedView). p.tree.nodes.first) o u.base.size)) on.item_is in
          let size = ap length same in
          omega (arith, own, size, base_size, size_here)

    -- ---- on a parent

    module _ (on : OnParent Pool u w) where
      parent_states : read_states Pool u ≡ on.item.bounds.tip ∷ on.item.bounds.db ∷ on.item.bounds.ancestors
      parent_states = ap (λ o. option_map_or (λ (p : SealedView). p.bounds.tip ∷ p.bounds.db ∷ p.bounds.ancestors) o (u.base ∷ [])) on.item_is

      parent_may : (same : batches.SealedBatch Operation → Bool) (t : Bool) → option_map_or same (linked s w.parent) t ≡ same on.batch
      parent_may same t = ap (λ o. option_map_or same o t) on.batch_is

      parent_decides : Decides (may_read_unsealed same_state s w) (Contains (read_states Pool u) db.state)
      parent_decides =
          let tells = sealed_decides on.item on.batch on.like in
          let may = parent_may (may_read_sealed same_state s) (same_state s.ops w.list) in (
            λ t. subst (λ (cs : List (Commitment Mmr Sha256Digest)). Contains cs db.state) (sym parent_states) (tells.0 (sym may ∙ t)),
            λ here. may ∙ tells.1 (subst (λ (cs : List (Commitment Mmr Sha256Digest)). Contains cs db.state) parent_states here),
          )

      parent_reads : may_read_unsealed one_list s w ≡ true → may_read_sealed one_list s on.batch ≡ true
      parent_reads may = sym (parent_may (may_read_sealed one_list s) (one_list s.ops w.list)) ∙ may

      parent_floor_is : read_floor Pool u (floor_in meaning db) ≡ floor_below meaning s w
      parent_floor_is =
          let own : read_floor Pool u (floor_in meaning db) ≡ min u.base.size on.item.bounds.inactivity_floor
          = ap (λ o. min u.base.size (option_map_or (λ (p : SealedView). (bounds_of p).inactivity_floor) o (floor_in meaning db))) on.item_is in
          let model : floor_below meaning s w ≡ on.batch.floor = ap (λ o. option_map_or (λ (e : batches.SealedBatch Operation). e.floor) o (floor_of meaning s.ops)) on.batch_is in
          let good = sealed_good on.p on.batch on.there in
          let floor = good.4 in
          let fits = floor_fits on.batch.list good.0 in
          let size = ap length on.same in
          let as_floor = on.like.floor in
          omega (arith, own, model, floor, fits, size, as_floor, base_size)

      parent_low : may_read_unsealed one_list s w ≡ true → s.start ≤ floor_below meaning s w
      parent_low may =
          let model : floor_below meaning s w ≡ on.batch.floor = ap (λ o. option_map_or (λ (e : batches.SealedBatch Operation). e.floor) o (floor_of meaning s.ops)) on.batch_is in
          let le = sealed_low on.p on.batch on.there (parent_reads may) in
          omega (arith, model, le)

      parent_chain : Contains (read_states Pool u) db.state → chain_start Pool u ≤ db.state.size
      parent_chain here =
          let own : chain_start Pool u ≡ min u.base.size on.item.tree.nodes.first = ap (λ o. min u.base.size (option_map_or (λ (p : SealedView). p.tree.nodes.first) o u.base.size)) on.item_is in
          let le = sealed_few on.item on.batch on.like on.back (subst (λ (cs : List (Commitment Mmr Sha256Digest)). Contains cs db.state) parent_states here) in
          omega (arith, own, le)

    -- ---- either

    decides_told : Decides (may_read_unsealed same_state s w) (Contains (read_states Pool u) db.state) → Decides (may_read_unsealed one_list s w) (Contains (read_states Pool u) db.state)
    decides_told told = told_decides (may_read_unsealed same_state s w) (may_read_unsealed one_list s w) (Contains (read_states Pool u) db.state) (lists.unsealed_reads b w at) told

    abbrev pub CanReadHere : Type 0
    CanReadHere = CanRead (may_read_unsealed one_list s w) (Contains (read_states Pool u) db.state) w.list (floor_below meaning s w) (read_floor Pool u (floor_in meaning db)) (chain_start Pool u)

    reads_on_log : OnLog Pool u w → CanReadHere
    reads_on_log on = record {
      decides = told;
      front = λ here. let same = log_list on (told.1 here) in same ∙ sym (ap (λ k. take k w.list) (ap length same) ∙ take-length w.list);
      floor_is = λ here. log_floor on (log_list on (told.1 here));
      low = λ here.
          let same = log_list on (told.1 here) in
          let model : floor_below meaning s w ≡ floor_of meaning s.ops = ap (λ l. option_map_or (λ (e : batches.SealedBatch Operation). e.floor) (linked s l) (floor_of meaning s.ops)) on.alone in
          let le = low s.ops [] (sym (append-nil s.ops)) stands.good.good.ops in
          omega (arith, model, le, start_here);
      few = λ here. log_chain on (log_list on (told.1 here));
    }
      where
        told : Decides (may_read_unsealed one_list s w) (Contains (read_states Pool u) db.state)
        told = decides_told (log_decides on)

    reads_on_parent : OnParent Pool u w → CanReadHere
    reads_on_parent on = record {
      decides = told;
      front = λ here. let more = sealed_begins on.batch (parent_reads on (told.1 here)) in begins_front s.ops w.list more.0 (sym on.same ∙ more.1);
      floor_is = λ here. parent_floor_is on;
      low = λ here. let le = parent_low on (told.1 here) in omega (arith, le, start_here);
      few = parent_chain on;
    }
      where
        told : Decides (may_read_unsealed one_list s w) (Contains (read_states Pool u) db.state)
        told = decides_told (parent_decides on)

    items_of : OnLog Pool u w ⊎ OnParent Pool u w → (p : SealedView) → linked_item Pool u.parent ≡ Some p → IsSealedOfItems mmr sha meaning.encoding w.list p.tree
    items_of (inl on) p is = absurd (none-some p (sym on.item_is ∙ is))
    items_of (inr on) p is =
        subst (λ (x : SealedView). IsSealedOfItems mmr sha meaning.encoding w.list x.tree) (same_Some on.item p (sym on.item_is ∙ is))
        (subst (λ (list : List Operation). IsSealedOfItems mmr sha meaning.encoding list on.item.tree) on.same on.like.list.0.tree)

    reads_on : OnLog Pool u w ⊎ OnParent Pool u w → CanReadHere
    reads_on (inl on) = reads_on_log on
    reads_on (inr on) = reads_on_parent on

    -- a batch whose parent is alive, if it has one
    module _ (link : LinkIs n.batches.items b u.parent w.parent) (alive : ForSome u.parent (IsAlive Pool)) where
      on : OnLog Pool u w ⊎ OnParent Pool u w
      on = on_link u.parent w.parent refl refl link alive

      pub reads_unsealed : CanReadHere
      reads_unsealed = reads_on on

      pub parent_items : (p : SealedView) → linked_item Pool u.parent ≡ Some p → IsSealedOfItems mmr sha meaning.encoding w.list p.tree
      parent_items = items_of on
