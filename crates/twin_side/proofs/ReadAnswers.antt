-- What the reads of the full side answer.
use Rattle.std.proofs.Common.{◌≡◌, ℕ, ◌+◌, ◌≤◌, Bool, true, false, List, [], ◌∷◌, ◌++◌, length, take, get_or, Option, Some, None, Ok, Err, refl, sym, ◌∙◌, ap, subst, arith}
use Rattle.std.specs.Prelude.{◌↔◌, Result, IfOk, IfErr, Contains, nat_lt, slice_get, if◌then◌else◌}
use Rattle.std.specs.List.{AllByRecursion}
use Rattle.std.specs.Option.{ForSome, option_map}
use Rattle.std.proofs.lemmas.List.{get_or_past, length-append}
use Rattle.std.proofs.lemmas.Option.{none-some, same_Some}
use Rattle.volume_base.specs.Moments.{Image, present}
use Rattle.volume_base.specs.Volume as volume
use Rattle.volume_base.specs.Volume.{Reads}
use Rattle.volume_base.proofs.ReadLemmas.{only_read_none, reads_joins, reads_of}
use Rattle.journal_base.specs.Items.{Items}
use Rattle.tree_shape.specs.Mmr.{mmr}
use Rattle.tree_shape.specs.declared.mmr.Mmr.{Mmr}
use Rattle.tree_shape.specs.declared.sha256.Sha256Digest.{Sha256Digest}
use Rattle.auth_journal.specs.Batched.{IsSealedOfItems}
use Rattle.auth_journal.specs.Kept.{kept_item}
use Rattle.log_model.specs.Machine.{State, batch_at}
use Rattle.log_model.specs.Reads as log
use Rattle.log_model.specs.Reads.{many_answer, many_refusal, read_answer, read_refusal, sealed_reading, unsealed_reading, value_at}
use Rattle.log_model.specs.StateBatches as batches
use Rattle.log_model.specs.StateBatches.{is_held}
use Rattle.log_model.specs.declared.refusal.Refusal.{Refusal}
use Rattle.log_model.specs.declared.refusal.Refusal.TheVariants.{ItemPruned, NoBatch}
use Rattle.chain_core.specs.Answers.{IsOutside, IsRefusedFor}
use Rattle.chain_core.specs.MarkedPool.{NeverRise}
use Rattle.chain_core.specs.Marks.{sizes_back}
use Rattle.chain_core.specs.Reached.{item_at, linked_item}
use Rattle.chain_core.specs.Slots.{IsAlive}
use Rattle.chain_core.specs.declared.commitment.Commitment.{Commitment}
use Rattle.chain_core.specs.declared.error.Error.{Error}
use Rattle.chain_core.specs.declared.error.Error.TheVariants.{StaleRead, Volume}
use Rattle.command_text.specs.declared.command.Answer.{Answer}
use Rattle.command_text.specs.declared.command.Answer.TheVariants as answer
use Rattle.keyless_db.specs.DbView.{floor_in}
use Rattle.keyless_db.specs.Reading.{AnswersAs, IsChainFault, IsInChain, IsReadable, batch_answer, batch_many_answer, chain_start, floored_refusal, kept_over, location_refusal, pending_item, read_floor, read_states}
use Rattle.list_machine.specs.Config.{Config}
use Rattle.list_machine.specs.Operation.{Operation, meaning, sha, one_list}
use Rattle.list_machine.specs.Step as step
use Rattle.list_machine.specs.Step.{Outcome, answered, refused}
use Rattle.list_machine.specs.Told.{IsTold}
use Rattle.twin_batches.specs.StateOf.{IsSealedAs, IsShaped, StandsGood, any_lists, held_in, if_held, same_lists}
use Rattle.twin_batches.specs.declared.numbers.Batch.{Batch}
use Rattle.twin_batches.specs.declared.numbers.Batch.TheVariants.{Unsealed, Sealed, Gone}
use Rattle.twin_batches.specs.declared.numbers.Holding.{Holding}
use Rattle.twin_batches.specs.declared.numbers.Numbers.{Numbers}
use Rattle.twin_batches.proofs.Fronts.{lt_true}
use Rattle.twin_batches.proofs.Handlers.{IsUnheld, entry_sealed, gone_past, held_alive, held_some, held_there, unheld_there}
use Rattle.twin_batches.proofs.Matching.{alive_where, parent_held, unsealed_there}
use Rattle.twin_batches.proofs.Reaching.{item_some}
use Rattle.twin_databases.specs.FullKind.{FullView, SealedView, UnsealedView, IsHeldIn, IsSealedBatchOf, IsUnsealedBatchOf, full_kind}
use Rattle.twin_side.specs.ReadRefusals.{batch_read, kept_refusal, kept_refusals}
use Rattle.twin_side.specs.Unread.{IsReadRefused, IsReadRefusedBy, IsReadRefusedAt, AreReadsRefusedAt, ReadBounds, bounds_at, of_sealed, of_unsealed, read_bounds}
use Rattle.twin_side.proofs.BatchReads.{AnswersEach, Ends, Meets, RefusedFor, RefusesSo, chain_faults, chain_faults_at, ends, location_of, locations_of, read_answers, read_known, read_reads, read_refused}
use Rattle.twin_side.proofs.FullReads.{Admits, admitted, held, parent_items, reads_sealed, reads_unsealed, size_here, stands_or_not, start_here}
use Rattle.twin_side.proofs.KeptReads.{answers_err, answers_ok, answers_why, many_by_length, meets_many, meets_one}

abbrev pub Batches : Type 0
Batches = Numbers SealedView UnsealedView

-- ---- what a read answers

module _ (tells : Type 0) (image : Image) (db : FullView) (n : Batches) where
  -- a good state for which the side stands, where the volume tells it, and size and root tell its lists
  pub record IsGiven : Type 0 where
    pub told : tells
    pub config : Config
    pub state : State Operation
    pub lists : IsTold state
    pub stands : StandsGood full_kind config image db n state

  module _ (target : State Operation → Answer) where
    abbrev pub AnswersGood : Result Answer (Error Mmr) → Type 0
    AnswersGood q = IfOk q (λ a. tells → (c : Config) (s : State Operation) → IsTold s → StandsGood full_kind c image db n s → a ≡ target s)

    abbrev pub FailsOutside : Result Answer (Error Mmr) → Type 0
    FailsOutside q = IfErr q (λ e. tells → (c : Config) (s : State Operation) → IsTold s → StandsGood full_kind c image db n s → IsOutside e)

    -- what is said of a read: of a good state, of what memory tells, and of the volume
    pub record IsRead (Same : Type 0) (Unread : Refusal → Type 0) (old new : volume.State) (q : Result Answer (Error Mmr)) : Type 0 where
      pub ok : AnswersGood q
      pub errors : FailsOutside q
      pub known : RefusesSo Unread q
      pub refused : IfOk q (λ a. (why : Refusal) → a ≡ answer.Refused why → Same)
      pub reads : Reads tells Volume old new q

    each_good : (q : Result Answer (Error Mmr)) → AnswersEach (λ (g : IsGiven). target g.state) q → AnswersGood q × FailsOutside q
    each_good (Ok a) is = ((λ told c s lists stands. is.0 (record { told = told; config = c; state = s; lists = lists; stands = stands })), tt)
    each_good (Err e) is = (tt, (λ told c s lists stands. is.1 (record { told = told; config = c; state = s; lists = lists; stands = stands })))

    module _ {T : Type 0} (shown : T → Answer) (never : (x : T) (why : Refusal) → shown x ≡ answer.Refused why → ⊥) (old new : volume.State) (r : Result T (Error Mmr)) (Here Same : Type 0)
        (still : Same → new ≡ old) (fit : Option Refusal) (ended : Ends r Here Same fit) (reads : Reads tells Volume old new r) where
      pub batch_is_read : ((g : IsGiven) → Meets shown r Here fit (target g.state)) → IsRead Same (λ why. IsReadRefusedBy Here fit why) old new (batch_read shown r)
      batch_is_read good =
          let each = each_good (batch_read shown r) (read_answers shown (λ (g : IsGiven). target g.state) r Here Same fit good ended) in
          record {
            ok = each.0;
            errors = each.1;
            known = read_known shown never r Here Same fit ended;
            refused = read_refused shown never Same r Here fit ended;
            reads = read_reads shown tells old new r Here Same fit still ended reads;
          }

never_value : (x : Option (List ℕ)) (why : Refusal) → answer.Value x ≡ answer.Refused why → ⊥
never_value x why is = cc

never_values : {T : Type 0} (shown : T → List (Option (List ℕ))) (x : T) (why : Refusal) → answer.Values (shown x) ≡ answer.Refused why → ⊥
never_values shown x why is = cc

-- ---- the log's list

module _ (c : Config) (image : Image) (db : FullView) (n : Batches) (s : State Operation) (stands : StandsGood full_kind c image db n s) where
  one_refusal : (l : ℕ) → kept_refusal db.state.size db.journal.items.start l ≡ read_refusal s.ops db.journal.items.start ItemPruned l
  one_refusal l = ap (λ k. kept_refusal k db.journal.items.start l) (size_here c image db n s stands)

  many_refusals : (ls : List ℕ) → kept_refusals db.state.size db.journal.items.start ls ≡ many_refusal s.ops db.journal.items.start ItemPruned ls
  many_refusals ls = ap (λ k. kept_refusals k db.journal.items.start ls) (size_here c image db n s stands) ∙ sym (many_by_length s.ops db.journal.items.start ItemPruned ls)

  pub get_why : (l : ℕ) (why : Refusal) → Some why ≡ kept_refusal db.state.size db.journal.items.start l → answer.Refused why ≡ (step.get s l).0
  get_why l why is =
      sym (answers_why s answer.Value (read_refusal s.ops s.start ItemPruned l) (value_at meaning s.ops l) why
      (ap (λ k. read_refusal s.ops k ItemPruned l) (sym (start_here c image db n s stands)) ∙ sym (one_refusal l) ∙ sym is))

  pub get_many_why : (ls : List ℕ) (why : Refusal) → Some why ≡ kept_refusals db.state.size db.journal.items.start ls → answer.Refused why ≡ (step.get_many s ls).0
  get_many_why ls why is =
      sym (answers_why s answer.Values (many_refusal s.ops s.start ItemPruned ls) _ why
      (ap (λ k. many_refusal s.ops k ItemPruned ls) (sym (start_here c image db n s stands)) ∙ sym (many_refusals ls) ∙ sym is))

  module _ {T : Type 0} (shown : T → Option (List ℕ)) (r : Result T (Error Mmr)) (l : ℕ)
      (answers : (ops : List Operation) → IsHeldIn ops db image → ((op : Operation) → slice_get ops l ≡ Some op → Admits db.journal.items.codec.max op) → AnswersAs shown (read_answer meaning ops db.journal.items.start ItemPruned l) r) where
    one_here : AnswersAs shown (read_answer meaning s.ops db.journal.items.start ItemPruned l) r
    one_here = answers s.ops (held c image db n s stands) (admitted c image db n s stands l)

    pub get_ok : IfOk r (λ x. answer.Value (shown x) ≡ (step.get s l).0)
    get_ok =
        subst (λ (k : ℕ). IfOk r (λ x. answer.Value (shown x) ≡ (answered s answer.Value (read_answer meaning s.ops k ItemPruned l)).0)) (start_here c image db n s stands)
        (answers_ok s answer.Value shown (read_answer meaning s.ops db.journal.items.start ItemPruned l) r one_here)

    pub get_err : None ≡ kept_refusal db.state.size db.journal.items.start l → IfErr r (λ e. IsOutside e)
    get_err none = answers_err s answer.Value shown (read_refusal s.ops db.journal.items.start ItemPruned l) (value_at meaning s.ops l) r (sym (one_refusal l) ∙ sym none) one_here

  module _ {T : Type 0} (shown : T → List (Option (List ℕ))) (r : Result T (Error Mmr)) (ls : List ℕ)
      (answers : (ops : List Operation) → IsHeldIn ops db image → AllByRecursion (λ l. (op : Operation) → slice_get ops l ≡ Some op → Admits db.journal.items.codec.max op) ls
      → AnswersAs shown (many_answer meaning ops db.journal.items.start ItemPruned ls) r) where
    all_admitted : (ks : List ℕ) → AllByRecursion (λ l. (op : Operation) → slice_get s.ops l ≡ Some op → Admits db.journal.items.codec.max op) ks
    all_admitted [] = tt
    all_admitted (k ∷ ks) = (admitted c image db n s stands k, all_admitted ks)

    many_here : AnswersAs shown (many_answer meaning s.ops db.journal.items.start ItemPruned ls) r
    many_here = answers s.ops (held c image db n s stands) (all_admitted ls)

    pub get_many_ok : IfOk r (λ x. answer.Values (shown x) ≡ (step.get_many s ls).0)
    get_many_ok =
        subst (λ (k : ℕ). IfOk r (λ x. answer.Values (shown x) ≡ (answered s answer.Values (many_answer meaning s.ops k ItemPruned ls)).0)) (start_here c image db n s stands)
        (answers_ok s answer.Values shown (many_answer meaning s.ops db.journal.items.start ItemPruned ls) r many_here)

    pub get_many_err : None ≡ kept_refusals db.state.size db.journal.items.start ls → IfErr r (λ e. IsOutside e)
    get_many_err none = answers_err s answer.Values shown (many_refusal s.ops db.journal.items.start ItemPruned ls) _ r (sym (many_refusals ls) ∙ sym none) many_here

  -- ---- what a batch's chain doesn't keep may be read

  readable : (kept : Option Operation) (l : ℕ) → IsReadable (Admits db.journal.items.codec.max) s.ops kept l
  readable kept l = λ none op at. admitted c image db n s stands l op at

  all_readable : (kept : ℕ → Option Operation) (ls : List ℕ) → AllByRecursion (λ l. IsReadable (Admits db.journal.items.codec.max) s.ops (kept l) l) ls
  all_readable kept [] = tt
  all_readable kept (l ∷ ls) = (readable (kept l) l, all_readable kept ls)

  -- ---- a sealed batch

  module _ (b : ℕ) (j : Holding) (x : SealedView) (found : held_in n.batches.items b ≡ Some j) (item : item_at n.pool j.id ≡ Some x) where
    pub record IsFound : Type 0 where
      pub batch : batches.SealedBatch Operation
      pub machine : batch_at s b ≡ batches.Sealed batch
      pub held : is_held batch ≡ true
      pub like : IsSealedAs full_kind x batch
      pub back : NeverRise (sizes_back x.bounds)

    pub sealed_found : IsFound
    sealed_found =
        let t = held_there (same_lists full_kind) n.batches.items n.pool s.batches stands.is.batches b j found in
        let e = item_some n.pool j.id x item in
        let is = t.is.item e.0 e.1 in
        record {
          batch = t.batch;
          machine = t.machine;
          held = t.held;
          like = subst (λ (y : SealedView). IsSealedAs full_kind y t.batch) e.2 is.is;
          back = subst (λ (y : SealedView). NeverRise (sizes_back y.bounds)) e.2 (stands.is.marks.sealed j.id e.0 e.1).back;
        }

    here_or : (o : Outcome) (t : IsFound) → (if is_held t.batch then o else refused s (NoBatch b)) ≡ o
    here_or o t = ap (λ (h : Bool). if h then o else refused s (NoBatch b)) t.held

    module _ {T : Type 0} (r : Result T (Error Mmr)) where
      pub sealed_one : IsTold s → (shown : T → Option (List ℕ)) (l : ℕ)
          → (IsInChain x db → (ops list : List Operation) → IsHeldIn ops db image → IsReadable (Admits db.journal.items.codec.max) ops (kept_item x.tree l) l → ops ≡ take (length ops) list → IsSealedBatchOf list x
          → AnswersAs shown (batch_answer meaning list x.bounds.inactivity_floor (kept_over x.tree.nodes.first db) l) r)
          → Meets (λ v. answer.Value (shown v)) r (IsInChain x db) (location_refusal x.bounds.tip.size x.bounds.inactivity_floor l) (step.batch_get s b l (batch_at s b)).0
      sealed_one lists shown l answers =
          let t = sealed_found in
          let can = reads_sealed c image db n s stands lists b x t.batch t.machine t.like t.back in
          let target = ap (λ (y : batches.Batch Operation). (step.batch_get s b l y).0) t.machine
          ∙ ap (λ (o : Outcome). o.0) (here_or (answered s answer.Value (log.batch_answer meaning (sealed_reading one_list s t.batch) l)) t) in
          subst (Meets (λ v. answer.Value (shown v)) r (IsInChain x db) (location_refusal x.bounds.tip.size x.bounds.inactivity_floor l)) (sym target)
          (meets_one s (sealed_reading one_list s t.batch) (IsInChain x db) can.decides (kept_over x.tree.nodes.first db) x.bounds.tip.size x.bounds.inactivity_floor
          (ap (λ (k : Commitment Mmr Sha256Digest). k.size) t.like.list.0.batch.bounds.tip) can.floor_is can.low can.few shown r l
          (λ here. answers here s.ops t.batch.list (held c image db n s stands) (readable (kept_item x.tree l) l) (can.front here) t.like.list.0))

      pub sealed_many : IsTold s → (shown : T → List (Option (List ℕ))) (ls : List ℕ)
          → (IsInChain x db → (ops list : List Operation) → IsHeldIn ops db image → AllByRecursion (λ l. IsReadable (Admits db.journal.items.codec.max) ops (kept_item x.tree l) l) ls → ops ≡ take (length ops) list
          → IsSealedBatchOf list x → AnswersAs shown (batch_many_answer meaning list x.bounds.inactivity_floor (kept_over x.tree.nodes.first db) ls) r)
          → Meets (λ v. answer.Values (shown v)) r (IsInChain x db) (floored_refusal x.bounds.tip.size x.bounds.inactivity_floor ls) (step.batch_get_many s b ls (batch_at s b)).0
      sealed_many lists shown ls answers =
          let t = sealed_found in
          let can = reads_sealed c image db n s stands lists b x t.batch t.machine t.like t.back in
          let target = ap (λ (y : batches.Batch Operation). (step.batch_get_many s b ls y).0) t.machine
          ∙ ap (λ (o : Outcome). o.0) (here_or (answered s answer.Values (log.batch_many_answer meaning (sealed_reading one_list s t.batch) ls)) t) in
          subst (Meets (λ v. answer.Values (shown v)) r (IsInChain x db) (floored_refusal x.bounds.tip.size x.bounds.inactivity_floor ls)) (sym target)
          (meets_many s (sealed_reading one_list s t.batch) (IsInChain x db) can.decides (kept_over x.tree.nodes.first db) x.bounds.tip.size x.bounds.inactivity_floor
          (ap (λ (k : Commitment Mmr Sha256Digest). k.size) t.like.list.0.batch.bounds.tip) can.floor_is can.low can.few shown r ls
          (λ here. answers here s.ops t.batch.list (held c image db n s stands) (all_readable (λ l. kept_item x.tree l) ls) (can.front here) t.like.list.0))

  -- ---- an unsealed batch

  module _ (b : ℕ) (u : UnsealedView) (entry : get_or n.batches.items b Gone ≡ Unsealed u) where
    abbrev Here : Type 0
    Here = Contains (read_states n.pool u) db.state

    abbrev Floor : ℕ
    Floor = read_floor n.pool u (floor_in meaning db)

    abbrev Size : ℕ
    Size = u.base.size + length u.tree.items

    abbrev OfParent : List Operation → Type 0
    OfParent list = (p : SealedView) → linked_item n.pool u.parent ≡ Some p → IsSealedOfItems mmr sha meaning.encoding list p.tree

    alive : ForSome u.parent (IsAlive n.pool)
    alive = alive_where n.pool u.parent (parent_held (same_lists full_kind) n.batches.items n.pool s.batches stands.is.batches b u entry)

    module _ {T : Type 0} (r : Result T (Error Mmr)) where
      pub unsealed_one : IsTold s → (shown : T → Option (List ℕ)) (l : ℕ)
          → (Here → (ops list : List Operation) → IsHeldIn ops db image → IsReadable (Admits db.journal.items.codec.max) ops (pending_item n.pool u l) l → ops ≡ take (length ops) list → IsUnsealedBatchOf list u → OfParent list
          → AnswersAs shown (batch_answer meaning (list ++ u.tree.items) Floor (kept_over (chain_start n.pool u) db) l) r)
          → Meets (λ v. answer.Value (shown v)) r Here (location_refusal Size Floor l) (step.batch_get s b l (batch_at s b)).0
      unsealed_one lists shown l answers =
          let t = unsealed_there (same_lists full_kind) n.batches.items n.pool s.batches stands.is.batches b u entry in
          let w = t.0 in
          let like = t.2.is in
          let can = reads_unsealed c image db n s stands lists b u w t.1 like t.2.link alive in
          let target = ap (λ (y : batches.Batch Operation). (step.batch_get s b l y).0) t.1 in
          let list : w.list ++ u.tree.items ≡ w.list ++ w.pending = ap (λ (xs : List Operation). w.list ++ xs) (sym like.pending) in
          let size : Size ≡ length (w.list ++ w.pending)
          = let base = ap (λ (k : Commitment Mmr Sha256Digest). k.size) like.list.base in let own = ap length like.pending in let all = length-append w.list w.pending in omega (arith, base, own, all) in
          subst (Meets (λ v. answer.Value (shown v)) r Here (location_refusal Size Floor l)) (sym target)
          (meets_one s (unsealed_reading one_list meaning s w) Here can.decides (kept_over (chain_start n.pool u) db) Size Floor size can.floor_is can.low can.few shown r l
          (λ here. subst (λ (xs : List Operation). AnswersAs shown (batch_answer meaning xs Floor (kept_over (chain_start n.pool u) db) l) r) list
          (answers here s.ops w.list (held c image db n s stands) (readable (pending_item n.pool u l) l) (can.front here) like.list
          (parent_items c image db n s stands lists b u w t.1 like t.2.link alive))))

      pub unsealed_many : IsTold s → (shown : T → List (Option (List ℕ))) (ls : List ℕ)
          → (Here → (ops list : List Operation) → IsHeldIn ops db image → AllByRecursion (λ l. IsReadable (Admits db.journal.items.codec.max) ops (pending_item n.pool u l) l) ls → ops ≡ take (length ops) list → IsUnsealedBatchOf list u
          → OfParent list → AnswersAs shown (batch_many_answer meaning (list ++ u.tree.items) Floor (kept_over (chain_start n.pool u) db) ls) r)
          → Meets (λ v. answer.Values (shown v)) r Here (floored_refusal Size Floor ls) (step.batch_get_many s b ls (batch_at s b)).0
      unsealed_many lists shown ls answers =
          let t = unsealed_there (same_lists full_kind) n.batches.items n.pool s.batches stands.is.batches b u entry in
          let w = t.0 in
          let like = t.2.is in
          let can = reads_unsealed c image db n s stands lists b u w t.1 like t.2.link alive in
          let target = ap (λ (y : batches.Batch Operation). (step.batch_get_many s b ls y).0) t.1 in
          let list : w.list ++ u.tree.items ≡ w.list ++ w.pending = ap (λ (xs : List Operation). w.list ++ xs) (sym like.pending) in
          let size : Size ≡ length (w.list ++ w.pending)
          = let base = ap (λ (k : Commitment Mmr Sha256Digest). k.size) like.list.base in let own = ap length like.pending in let all = length-append w.list w.pending in omega (arith, base, own, all) in
          subst (Meets (λ v. answer.Values (shown v)) r Here (floored_refusal Size Floor ls)) (sym target)
          (meets_many s (unsealed_reading one_list meaning s w) Here can.decides (kept_over (chain_start n.pool u) db) Size Floor size can.floor_is can.low can.few shown r ls
          (λ here. subst (λ (xs : List Operation). AnswersAs shown (batch_many_answer meaning xs Floor (kept_over (chain_start n.pool u) db) ls) r) list
          (answers here s.ops w.list (held c image db n s stands) (all_readable (λ l. pending_item n.pool u l) ls) (can.front here) like.list
          (parent_items c image db n s stands lists b u w t.1 like t.2.link alive))))

-- ---- what memory tells of a batch

module _ (db : FullView) (n : Batches) (b : ℕ) where
  pub sealed_bounds : (j : Holding) (x : SealedView) → held_in n.batches.items b ≡ Some j → item_at n.pool j.id ≡ Some x → read_bounds db n b ≡ Some (of_sealed x)
  sealed_bounds j x found item =
      let t = held_some (get_or n.batches.items b Gone) j found in
      ap (λ (y : Batch UnsealedView). bounds_at db n.pool y) t.0
      ∙ ap (λ (h : Bool). if h then option_map of_sealed (item_at n.pool j.id) else None) (lt_true 0 j.holds t.1)
      ∙ ap (option_map of_sealed) item

  pub unsealed_bounds : (u : UnsealedView) → get_or n.batches.items b Gone ≡ Unsealed u → read_bounds db n b ≡ Some (of_unsealed db n.pool u)
  unsealed_bounds u entry = ap (λ (y : Batch UnsealedView). bounds_at db n.pool y) entry

  pub past_bounds : length n.batches.items ≤ b → read_bounds db n b ≡ None
  past_bounds past = ap (λ (y : Batch UnsealedView). bounds_at db n.pool y) (get_or_past n.batches.items b Gone past)

  pub other_bounds : held_in n.batches.items b ≡ None → ((u : UnsealedView) → get_or n.batches.items b Gone ≡ Unsealed u → ⊥) → read_bounds db n b ≡ None
  other_bounds unheld not = by (get_or n.batches.items b Gone) unheld not
    where
      cut : (h : Bool) (k : Holding) (o : Option ReadBounds) → (if h then Some k else None) ≡ None → (if h then o else None) ≡ None
      cut true k o is = absurd (cc)
      cut false k o is = refl

      by : (y : Batch UnsealedView) → if_held y ≡ None → ((u : UnsealedView) → y ≡ Unsealed u → ⊥) → bounds_at db n.pool y ≡ None
      by (Unsealed u) e other = absurd (other u refl)
      by (Sealed k) e other = cut (nat_lt 0 k.holds) k (option_map of_sealed (item_at n.pool k.id)) e
      by Gone e other = refl

  module _ (asked : ReadBounds → Option Refusal) where
    abbrev IsReadRefusedHere : Refusal → Type 0
    IsReadRefusedHere why = IsReadRefused db b asked (read_bounds db n b) why

    none_so : (why : Refusal) → (RefusedFor (NoBatch b) ≡ RefusedFor why) ↔ (why ≡ NoBatch b)
    none_so why = (λ e. let same : NoBatch b ≡ why = cc in sym same, λ e. ap RefusedFor (sym e))

    pub no_batch : read_bounds db n b ≡ None → RefusesSo (λ why. IsReadRefusedHere why) (RefusedFor (NoBatch b))
    no_batch none = subst (λ (o : Option ReadBounds). RefusesSo (λ why. IsReadRefused db b asked o why) (RefusedFor (NoBatch b))) (sym none) none_so

    -- by the bounds of the batch that there is
    pub read_by : (tells : Type 0) (image : Image) (target : State Operation → Answer) (Same : Type 0) (old new : volume.State) (q : Result Answer (Error Mmr)) (r : ReadBounds) → read_bounds db n b ≡ Some r
        → IsRead tells image db n target Same (λ why. IsReadRefusedBy (Contains r.states db.state) (asked r) why) old new q → IsRead tells image db n target Same (λ why. IsReadRefusedHere why) old new q
    read_by tells image target Same old new q r there is = record {
      ok = is.ok;
      errors = is.errors;
      known = subst (λ (o : Option ReadBounds). RefusesSo (λ why. IsReadRefused db b asked o why) q) (sym there) is.known;
      refused = is.refused;
      reads = is.reads;
    }

-- a location's refusal, and that of several
abbrev pub asked_at : ℕ → ReadBounds → Option Refusal
asked_at l r = location_refusal r.size r.floor l

abbrev pub asked_for : List ℕ → ReadBounds → Option Refusal
asked_for ls r = floored_refusal r.size r.floor ls

-- ---- no batch

module _ (s : State Operation) (b : ℕ) where
  abbrev NotUnsealed : batches.Batch Operation → Type 0
  NotUnsealed y = (w : batches.UnsealedBatch Operation) → y ≡ batches.Unsealed w → ⊥

  pub unread_one : (l : ℕ) (y : batches.Batch Operation) → IsUnheld y → NotUnsealed y → step.batch_get s b l y ≡ refused s (NoBatch b)
  unread_one l (batches.Unsealed w) unheld not = absurd (not w refl)
  unread_one l (batches.Sealed d) unheld not = rw unheld refl
  unread_one l batches.Gone unheld not = refl

  pub unread_many : (ls : List ℕ) (y : batches.Batch Operation) → IsUnheld y → NotUnsealed y → step.batch_get_many s b ls y ≡ refused s (NoBatch b)
  unread_many ls (batches.Unsealed w) unheld not = absurd (not w refl)
  unread_many ls (batches.Sealed d) unheld not = rw unheld refl
  unread_many ls batches.Gone unheld not = refl

module _ (tells : Type 0) (image : Image) (db : FullView) (n : Batches) (b : ℕ) where
  abbrev IsAnswered : (State Operation → Answer) → Answer → Type 0
  IsAnswered target a = tells → (c : Config) (s : State Operation) → IsTold s → StandsGood full_kind c image db n s → a ≡ target s

  pub past_one : (l : ℕ) → length n.batches.items ≤ b → IsAnswered (λ s. (step.batch_get s b l (batch_at s b)).0) (answer.Refused (NoBatch b))
  past_one l past told c s lists stands = sym (ap (λ (y : batches.Batch Operation). (step.batch_get s b l y).0) (gone_past (same_lists full_kind) n.batches.items n.pool s.batches stands.is.batches b past))

  pub past_many : (ls : List ℕ) → length n.batches.items ≤ b → IsAnswered (λ s. (step.batch_get_many s b ls (batch_at s b)).0) (answer.Refused (NoBatch b))
  past_many ls past told c s lists stands = sym (ap (λ (y : batches.Batch Operation). (step.batch_get_many s b ls y).0) (gone_past (same_lists full_kind) n.batches.items n.pool s.batches stands.is.batches b past))

  module _ (unheld : held_in n.batches.items b ≡ None) (not : (u : UnsealedView) → get_or n.batches.items b Gone ≡ Unsealed u → ⊥) where
    pub other_one : (l : ℕ) → IsAnswered (λ s. (step.batch_get s b l (batch_at s b)).0) (answer.Refused (NoBatch b))
    other_one l told c s lists stands =
        sym (ap (λ (o : Outcome). o.0) (unread_one s b l (batch_at s b) (unheld_there (same_lists full_kind) n.batches.items n.pool s.batches stands.is.batches b unheld)
        (entry_sealed (same_lists full_kind) n.batches.items n.pool s.batches b (get_or n.batches.items b Gone) (batch_at s b) (stands.is.batches.each b) not)))

    pub other_many : (ls : List ℕ) → IsAnswered (λ s. (step.batch_get_many s b ls (batch_at s b)).0) (answer.Refused (NoBatch b))
    other_many ls told c s lists stands =
        sym (ap (λ (o : Outcome). o.0) (unread_many s b ls (batch_at s b) (unheld_there (same_lists full_kind) n.batches.items n.pool s.batches stands.is.batches b unheld)
        (entry_sealed (same_lists full_kind) n.batches.items n.pool s.batches b (get_or n.batches.items b Gone) (batch_at s b) (stands.is.batches.each b) not)))

-- where the volume isn't called
pub reads_nothing : {T : Type 0} (tells : Type 0) (old : volume.State) (r : Result T (Error Mmr)) → (r ≡ Err Volume → ⊥) → Reads tells Volume old old r
reads_nothing tells old r never = reads_of tells Volume old old r (only_read_none tells old) never

-- what a call of the database read, its answer's read has
pub reads_ok : {T : Type 0} (tells : Type 0) (old new : volume.State) (x : T) (a : Answer) → Reads {E = Error Mmr} tells Volume old new (Ok x) → Reads {E = Error Mmr} tells Volume old new (Ok a)
reads_ok {T} tells old new x a reads = reads_joins tells Volume old old new (Ok x) (Ok a) (only_read_none tells old) reads (λ at. absurd (cc)) reads.kept

pub reads_err : {T : Type 0} (tells : Type 0) (old new : volume.State) (e : Error Mmr) → Reads {T = T} tells Volume old new (Err e) → Reads {T = Answer} tells Volume old new (Err e)
reads_err {T} tells old new e reads = reads_joins tells Volume old old new (Err e) (Err e) (only_read_none tells old) reads (λ at. let same : e ≡ Volume = cc in ap Err same) tt

-- what is known to be refused is what is answered so
pub known_some : (k : Option Refusal) (r : Refusal) → Some r ≡ k → (why : Refusal) → (RefusedFor r ≡ RefusedFor why) ↔ (k ≡ Some why)
known_some k r is why = (
  λ e. let same : r ≡ why = cc in sym is ∙ ap Some same,
  λ e. ap RefusedFor (same_Some r why (is ∙ e)),
)

pub known_none : (k : Option Refusal) (a : Result Answer (Error Mmr)) → None ≡ k → ((why : Refusal) → a ≡ Ok (answer.Refused why) → ⊥) → (why : Refusal) → (a ≡ Ok (answer.Refused why)) ↔ (k ≡ Some why)
known_none k a is never why = (λ e. absurd (never why e), λ e. absurd (none-some why (is ∙ e)))

-- an error that a call handed on
pub err_of : {T : Type 0} (r : Result T (Error Mmr)) (e : Error Mmr) → r ≡ Err e → IfErr r (λ d. IsOutside d) → IsOutside e
err_of (Ok x) e is outside = absurd (cc)
err_of (Err d) e is outside = let same : d ≡ e = cc in subst IsOutside same outside

-- ---- reads of batches

module _ (tells : Type 0) (old new : volume.State) (db : FullView) (n : Batches) (b : ℕ) (Same : Type 0) (still : Same → new ≡ old) (items : Items Operation) where
  module _ (j : Holding) (x : SealedView) (found : held_in n.batches.items b ≡ Some j) (item : item_at n.pool j.id ≡ Some x) where
    pub sealed_value : {T : Type 0} (shown : T → Option (List ℕ)) (r : Result T (Error Mmr)) (k l : ℕ) → k ≡ l → ((IsInChain x db → ⊥) → (r ≡ Err StaleRead) × Same)
        → (IsInChain x db → (why : Refusal) → location_refusal x.bounds.tip.size x.bounds.inactivity_floor k ≡ Some why → IsRefusedFor why r × Same)
        → (tells → IsInChain x db → (ops list : List Operation) → IsHeldIn ops db (present old) → IsReadable (Admits db.journal.items.codec.max) ops (kept_item x.tree k) k → ops ≡ take (length ops) list → IsSealedBatchOf list x
        → AnswersAs shown (batch_answer meaning list x.bounds.inactivity_floor (kept_over x.tree.nodes.first db) k) r)
        → (IsInChain x db → location_refusal x.bounds.tip.size x.bounds.inactivity_floor k ≡ None → IfErr r (IsChainFault tells items db.state.size (kept_item x.tree k) k))
        → Reads tells Volume old new r → IsRead tells (present old) db n (λ s. (step.batch_get s b l (batch_at s b)).0) Same (λ why. IsReadRefusedAt db n b l why) old new (batch_read (λ v. answer.Value (shown v)) r)
    sealed_value shown r k l same stale unfit answers fault reads =
        subst (λ (m : ℕ). IsRead tells (present old) db n (λ s. (step.batch_get s b m (batch_at s b)).0) Same (λ why. IsReadRefusedAt db n b m why) old new (batch_read (λ v. answer.Value (shown v)) r)) same
        (read_by db n b (asked_at k) tells (present old) (λ s. (step.batch_get s b k (batch_at s b)).0) Same old new (batch_read (λ v. answer.Value (shown v)) r) (of_sealed x) (sealed_bounds db n b j x found item)
        (batch_is_read tells (present old) db n (λ s. (step.batch_get s b k (batch_at s b)).0) (λ v. answer.Value (shown v)) (λ v. never_value (shown v)) old new r (IsInChain x db) Same still
        (location_refusal x.bounds.tip.size x.bounds.inactivity_floor k)
        (ends r (IsInChain x db) Same (location_refusal x.bounds.tip.size x.bounds.inactivity_floor k) (stands_or_not (x.bounds.tip ∷ x.bounds.db ∷ x.bounds.ancestors) db.state) stale
        (λ why is. location_of why x.bounds.tip.size x.bounds.inactivity_floor k is) unfit (λ here fits. chain_faults tells items db.state.size (kept_item x.tree k) k r (fault here fits))) reads
        (λ g. sealed_one g.config (present old) db n g.state g.stands b j x found item r g.lists shown k (answers g.told))))

    pub sealed_values : {T : Type 0} (shown : T → List (Option (List ℕ))) (r : Result T (Error Mmr)) (ks ls : List ℕ) → ks ≡ ls → ((IsInChain x db → ⊥) → (r ≡ Err StaleRead) × Same)
        → (IsInChain x db → (why : Refusal) → floored_refusal x.bounds.tip.size x.bounds.inactivity_floor ks ≡ Some why → IsRefusedFor why r × Same)
        → (tells → IsInChain x db → (ops list : List Operation) → IsHeldIn ops db (present old) → AllByRecursion (λ k. IsReadable (Admits db.journal.items.codec.max) ops (kept_item x.tree k) k) ks → ops ≡ take (length ops) list
        → IsSealedBatchOf list x → AnswersAs shown (batch_many_answer meaning list x.bounds.inactivity_floor (kept_over x.tree.nodes.first db) ks) r)
        → (IsInChain x db → floored_refusal x.bounds.tip.size x.bounds.inactivity_floor ks ≡ None → IfErr r (λ e. (k : ℕ) × Contains ks k × IsChainFault tells items db.state.size (kept_item x.tree k) k e))
        → Reads tells Volume old new r → IsRead tells (present old) db n (λ s. (step.batch_get_many s b ls (batch_at s b)).0) Same (λ why. AreReadsRefusedAt db n b ls why) old new (batch_read (λ v. answer.Values (shown v)) r)
    sealed_values shown r ks ls same stale unfit answers fault reads =
        subst (λ (ms : List ℕ). IsRead tells (present old) db n (λ s. (step.batch_get_many s b ms (batch_at s b)).0) Same (λ why. AreReadsRefusedAt db n b ms why) old new (batch_read (λ v. answer.Values (shown v)) r)) same
        (read_by db n b (asked_for ks) tells (present old) (λ s. (step.batch_get_many s b ks (batch_at s b)).0) Same old new (batch_read (λ v. answer.Values (shown v)) r) (of_sealed x) (sealed_bounds db n b j x found item)
        (batch_is_read tells (present old) db n (λ s. (step.batch_get_many s b ks (batch_at s b)).0) (λ v. answer.Values (shown v)) (never_values shown) old new r (IsInChain x db) Same still
        (floored_refusal x.bounds.tip.size x.bounds.inactivity_floor ks)
        (ends r (IsInChain x db) Same (floored_refusal x.bounds.tip.size x.bounds.inactivity_floor ks) (stands_or_not (x.bounds.tip ∷ x.bounds.db ∷ x.bounds.ancestors) db.state) stale
        (λ why is. locations_of why x.bounds.tip.size x.bounds.inactivity_floor ks is) unfit (λ here fits. chain_faults_at tells items db.state.size (λ k. kept_item x.tree k) ks r (fault here fits))) reads
        (λ g. sealed_many g.config (present old) db n g.state g.stands b j x found item r g.lists shown ks (answers g.told))))

  module _ (u : UnsealedView) (entry : get_or n.batches.items b Gone ≡ Unsealed u) where
    abbrev HereOf : Type 0
    HereOf = Contains (read_states n.pool u) db.state

    abbrev FloorOf : ℕ
    FloorOf = read_floor n.pool u (floor_in meaning db)

    abbrev SizeOf : ℕ
    SizeOf = u.base.size + length u.tree.items

    abbrev OfItsParent : List Operation → Type 0
    OfItsParent list = (p : SealedView) → linked_item n.pool u.parent ≡ Some p → IsSealedOfItems mmr sha meaning.encoding list p.tree

    pub unsealed_value : {T : Type 0} (shown : T → Option (List ℕ)) (r : Result T (Error Mmr)) (k l : ℕ) → k ≡ l → ((HereOf → ⊥) → (r ≡ Err StaleRead) × Same)
        → (HereOf → (why : Refusal) → location_refusal SizeOf FloorOf k ≡ Some why → IsRefusedFor why r × Same)
        → (tells → HereOf → (ops list : List Operation) → IsHeldIn ops db (present old) → IsReadable (Admits db.journal.items.codec.max) ops (pending_item n.pool u k) k → ops ≡ take (length ops) list → IsUnsealedBatchOf list u
        → OfItsParent list → AnswersAs shown (batch_answer meaning (list ++ u.tree.items) FloorOf (kept_over (chain_start n.pool u) db) k) r)
        → (HereOf → location_refusal SizeOf FloorOf k ≡ None → IfErr r (IsChainFault tells items db.state.size (pending_item n.pool u k) k))
        → Reads tells Volume old new r → IsRead tells (present old) db n (λ s. (step.batch_get s b l (batch_at s b)).0) Same (λ why. IsReadRefusedAt db n b l why) old new (batch_read (λ v. answer.Value (shown v)) r)
    unsealed_value shown r k l same stale unfit answers fault reads =
        subst (λ (m : ℕ). IsRead tells (present old) db n (λ s. (step.batch_get s b m (batch_at s b)).0) Same (λ why. IsReadRefusedAt db n b m why) old new (batch_read (λ v. answer.Value (shown v)) r)) same
        (read_by db n b (asked_at k) tells (present old) (λ s. (step.batch_get s b k (batch_at s b)).0) Same old new (batch_read (λ v. answer.Value (shown v)) r) (of_unsealed db n.pool u) (unsealed_bounds db n b u entry)
        (batch_is_read tells (present old) db n (λ s. (step.batch_get s b k (batch_at s b)).0) (λ v. answer.Value (shown v)) (λ v. never_value (shown v)) old new r HereOf Same still (location_refusal SizeOf FloorOf k)
        (ends r HereOf Same (location_refusal SizeOf FloorOf k) (stands_or_not (read_states n.pool u) db.state) stale
        (λ why is. location_of why SizeOf FloorOf k is) unfit (λ here fits. chain_faults tells items db.state.size (pending_item n.pool u k) k r (fault here fits))) reads
        (λ g. unsealed_one g.config (present old) db n g.state g.stands b u entry r g.lists shown k (answers g.told))))

    pub unsealed_values : {T : Type 0} (shown : T → List (Option (List ℕ))) (r : Result T (Error Mmr)) (ks ls : List ℕ) → ks ≡ ls → ((HereOf → ⊥) → (r ≡ Err StaleRead) × Same)
        → (HereOf → (why : Refusal) → floored_refusal SizeOf FloorOf ks ≡ Some why → IsRefusedFor why r × Same)
        → (tells → HereOf → (ops list : List Operation) → IsHeldIn ops db (present old) → AllByRecursion (λ k. IsReadable (Admits db.journal.items.codec.max) ops (pending_item n.pool u k) k) ks → ops ≡ take (length ops) list
        → IsUnsealedBatchOf list u → OfItsParent list → AnswersAs shown (batch_many_answer meaning (list ++ u.tree.items) FloorOf (kept_over (chain_start n.pool u) db) ks) r)
        → (HereOf → floored_refusal SizeOf FloorOf ks ≡ None → IfErr r (λ e. (k : ℕ) × Contains ks k × IsChainFault tells items db.state.size (pending_item n.pool u k) k e))
        → Reads tells Volume old new r → IsRead tells (present old) db n (λ s. (step.batch_get_many s b ls (batch_at s b)).0) Same (λ why. AreReadsRefusedAt db n b ls why) old new (batch_read (λ v. answer.Values (shown v)) r)
    unsealed_values shown r ks ls same stale unfit answers fault reads =
        subst (λ (ms : List ℕ). IsRead tells (present old) db n (λ s. (step.batch_get_many s b ms (batch_at s b)).0) Same (λ why. AreReadsRefusedAt db n b ms why) old new (batch_read (λ v. answer.Values (shown v)) r)) same
        (read_by db n b (asked_for ks) tells (present old) (λ s. (step.batch_get_many s b ks (batch_at s b)).0) Same old new (batch_read (λ v. answer.Values (shown v)) r) (of_unsealed db n.pool u) (unsealed_bounds db n b u entry)
        (batch_is_read tells (present old) db n (λ s. (step.batch_get_many s b ks (batch_at s b)).0) (λ v. answer.Values (shown v)) (never_values shown) old new r HereOf Same still (floored_refusal SizeOf FloorOf ks)
        (ends r HereOf Same (floored_refusal SizeOf FloorOf ks) (stands_or_not (read_states n.pool u) db.state) stale
        (λ why is. locations_of why SizeOf FloorOf ks is) unfit (λ here fits. chain_faults_at tells items db.state.size (λ k. pending_item n.pool u k) ks r (fault here fits))) reads
        (λ g. unsealed_many g.config (present old) db n g.state g.stands b u entry r g.lists shown ks (answers g.told))))

-- ---- what is alive

module _ (n : Batches) (sh : IsShaped full_kind n) (b : ℕ) where
  pub held_lives : (j : Holding) → held_in n.batches.items b ≡ Some j → IsAlive n.pool j.id
  held_lives j found = held_alive (any_lists full_kind) n.batches.items n.pool sh.all sh.batches b j (held_there (any_lists full_kind) n.batches.items n.pool sh.all sh.batches b j found)

  pub parent_alive : (u : UnsealedView) → get_or n.batches.items b Gone ≡ Unsealed u → ForSome u.parent (IsAlive n.pool)
  parent_alive u entry = alive_where n.pool u.parent (parent_held (any_lists full_kind) n.batches.items n.pool sh.all sh.batches b u entry)
