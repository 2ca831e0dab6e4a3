-- How a database is opened of a list.
use Rattle.std.proofs.Common.{◌≡◌, ◌⊎◌, inl, inr, ℕ, zero, suc, ◌+◌, ◌-◌, ◌^◌, ◌<◌, ◌≤◌, Bool, true, false, List, [], ◌∷◌, length, take, Some, None, Option, Ok, Err, refl, sym, ◌∙◌, ap, subst, arith}
use Rattle.std.specs.Prelude.{◌≢◌, Result, IfOk, IfErr, IsErrOf, IsSome, slice_get, is_some, unwrap_or}
use Rattle.tree_shape.specs.Hashing.{Hashing}
use Rattle.tree_shape.specs.Root.{root}
use Rattle.tree_shape.specs.Shape.{Shape, inactive}
use Rattle.tree_shape.specs.declared.bagging.Bagging.{Bagging}
use Rattle.tree_shape.specs.declared.bagging.Bagging.TheVariants.{ForwardFold}
use Rattle.tree_core.specs.Tree.{IsOf}
use Rattle.tree_store.specs.Stored.{TreeStands, size}
use Rattle.tree_store.specs.declared.error.Error as tree_error
use Rattle.tree_store.specs.declared.error.Error.TheVariants.{LocationOverflow}
use Rattle.tree_store.proofs.StoreLemmas.{get-take}
use Rattle.volume_base.specs.Log.{Log, end_of, cut_to}
use Rattle.volume_base.specs.declared.error.JournalError.{JournalError}
use Rattle.volume_base.specs.declared.error.JournalError.TheVariants as journal
use Rattle.volume_base.specs.Moments.{Image, Keeps, NamesLeft, Now}
use Rattle.volume_base.specs.Names.{Names, NamesCall, two_logs_and_map}
use Rattle.volume_base.specs.Volume.{Map, State, PastStays, SameContents}
use Rattle.journal_base.specs.View.{View, IsDurable, SameButBounds, capped}
use Rattle.volume_base.proofs.CallLemmas.{names_call_idle}
use Rattle.volume_base.proofs.MomentLemmas.{past_joins, past_same}
use Rattle.volume_base.proofs.TurnLemmas.{names_back}
use Rattle.journal_base.specs.Items.{Items, Holds}
use Rattle.journal_base.specs.Matches.{IsAnswered}
use Rattle.journal_base.proofs.ItemLemmas.{same_item}
use Rattle.merkle_full.specs.Flushing.{IsOfFlush}
use Rattle.merkle_full.specs.Full.{Full}
use Rattle.merkle_full.specs.Preparing.{log_kept}
use Rattle.merkle_full.proofs.PrepareLemmas.{kept_standing}
use Rattle.merkle_full.proofs.ReadLemmas.{ReadRefused}
use Rattle.merkle_full.proofs.SettleLemmas.{stored_read, pruned_stored}
use Rattle.auth_journal.specs.Durable.{IsFromTree}
use Rattle.auth_journal.specs.Errors.{IsLifted}
use Rattle.auth_journal.specs.Joined.{Joined, IsJoinedOf, leaves_of}
use Rattle.auth_journal.specs.Opening.{OpensAt, NotOpened}
use Rattle.auth_journal.specs.Searching.{EndsAt, NotFound}
use Rattle.auth_journal.specs.declared.error.Error as joined_error
use Rattle.auth_journal.specs.declared.error.Error.TheVariants as joined
use Rattle.auth_journal.proofs.LeafLemmas.{length-leaves_of}
use Rattle.auth_journal.proofs.OpenedLemmas.{flush_lifted}
use Rattle.log_model.specs.Good.{EndsWithCommit}
use Rattle.log_model.specs.Meaning.{Meaning}
use Rattle.log_model.specs.Operations.{floor_of, root_of}
use Rattle.log_model.proofs.OperationLemmas.{root_of-parts}
use Rattle.chain_core.specs.Answers.{IsOutside}
use Rattle.chain_core.specs.Errors.{from_journal}
use Rattle.chain_core.specs.declared.error.Error.{Error}
use Rattle.chain_core.specs.declared.error.Error.TheVariants.{Merkle, Journal, DataCorrupted}
use Rattle.chain_core.specs.declared.error.DataFault.TheVariants.{NotACommit}
use Rattle.keyless_db.specs.DbView.{DbView, IsHeldFor}
use Rattle.keyless_db.specs.Errors.{from_joined}
use Rattle.keyless_db.specs.Opening.{EndsHere, IsBuiltAt, IsHeldFrom, IsInitOf, IsOfOpening, IsSaidCommit, NotBuilt, NotListed}
use Rattle.keyless_db.proofs.ProofLemmas.{floor_at}
use Rattle.keyless_db.proofs.SealLemmas.{leaves_are}
use Rattle.keyless_db.proofs.SeveralLemmas.{taken_all}

-- ---- answers

pub if_ok : {T E : Type 0} (P Q : T → Type 0) (r : Result T E) → ((x : T) → P x → Q x) → IfOk r P → IfOk r Q
if_ok P Q (Ok x) then is = then x is
if_ok P Q (Err e) then is = tt

pub if_ok_both : {T E : Type 0} (P Q R : T → Type 0) (r : Result T E) → ((x : T) → P x → Q x → R x) → IfOk r P → IfOk r Q → IfOk r R
if_ok_both P Q R (Ok x) then one two = then x one two
if_ok_both P Q R (Err e) then one two = tt

-- ---- ends

answered_as : {A : Type 0} (items : Items A) (says tells : A → Bool → Type 0) → ((x : A) (b : Bool) → says x b → tells x b) → (p : ℕ) (b : Bool) → IsAnswered items says p b → IsAnswered items tells p b
answered_as items says tells then p b is = record { item = is.item; here = is.here; allowed = is.allowed; answered = then is.item b is.answered }

-- what a predicate says, in other words
pub ends_as : {A : Type 0} (items : Items A) (says tells : A → Bool → Type 0) (cap : Option ℕ) (end : ℕ) → ((x : A) (b : Bool) → says x b → tells x b) → EndsAt items says cap end → EndsAt items tells cap end
ends_as items says tells cap end then (inl last) =
    inl (last.0, last.1, answered_as items says tells then (end - 1) true last.2, λ p low high. answered_as items says tells then p false (last.3 p low high))
ends_as items says tells cap end then (inr (inl none)) = inr (inl (none.0, none.1, λ p low high. answered_as items says tells then p false (none.2 p low high)))
ends_as items says tells cap end then (inr (inr empty)) = inr (inr empty)

-- a log with an end begins at or before it
pub ends_behind : {A : Type 0} (items : Items A) (says : A → Bool → Type 0) (cap : Option ℕ) (end : ℕ) → EndsAt items says cap end → items.log.start ≤ end
ends_behind items says cap end (inl last) = let lt = last.0 in omega (arith, lt)
ends_behind items says cap end (inr (inl none)) = let e = none.1 in omega (arith, e)
ends_behind items says cap end (inr (inr empty)) = let e = empty.1 in let f = empty.2 in omega (arith, e, f)

-- ---- the boundary

-- a tree that is opened of a map and a log that stand for a list is pruned at the boundary that is stored
pub opened_low : {D : Type 0} (F : Type 0) (s : Shape) (h : Hashing D) (spelling : D → List ℕ) (admits : D → Type 0) (all : List D) (m : Map) (log : Log) (durable top cap pruned leaves : ℕ) → length all ≤ 2 ^ 62
    → TreeStands s h spelling all durable top log m → OpensAt F spelling admits s m log cap pruned leaves → pruned ≤ top
opened_low F s h spelling admits all m log durable top cap pruned leaves few stands opens =
    let at = opens.opens in
    let kept = kept_standing {F = F} s h spelling all durable top log m at.stored stands at.stored_is in
    let here : opens.boundary ≡ stands.boundary =
    at.boundary_is ∙ sym (stored_read {F = F} m at.stored stands.boundary at.stored_is stands.pins.stored (omega (arith, stands.pins.within, few))) in
    let low : (log_kept at.stored log).start ≤ size s opens.boundary =
    subst (λ (l : Log). l.start ≤ size s opens.boundary) (sym kept) (subst (λ n. log.start ≤ size s n) (sym here) stands.nodes.start_high) in
    let is = pruned_stored s opens.boundary _ _ cap opens.complete pruned at.selects low in
    omega (arith, is, here, stands.high)

-- ---- a list whose last operation is a commit

pub ends_by_last : {Op V : Type 0} (m : Meaning Op V) (ops : List Op) (op : Op) (floor : ℕ) → slice_get ops (length ops - 1) ≡ Some op → m.floor op ≡ Some floor → EndsWithCommit m ops
ends_by_last m [] op floor at is = absurd cc
ends_by_last m (x ∷ []) op floor at is =
    let e : x ≡ op = cc in
    let here : m.floor x ≡ Some floor = ap m.floor e ∙ is in
    subst (λ (o : Option ℕ). IsSome o) (sym here) refl
ends_by_last {Op = Op} m (x ∷ y ∷ ops) op floor at is =
    let e : length (x ∷ y ∷ ops) - 1 ≡ suc (length (y ∷ ops) - 1) = omega arith in
    ends_by_last m (y ∷ ops) op floor (ap (slice_get (x ∷ y ∷ ops)) (sym e) ∙ at) is

within_at : {X : Type 0} (xs : List X) (i : ℕ) (x : X) → slice_get xs i ≡ Some x → i < length xs
within_at [] i x is = absurd cc
within_at (y ∷ xs) zero x is = omega arith
within_at (y ∷ xs) (suc i) x is = let lt = within_at xs i x is in omega (arith, lt)

module _ {D Op V Cfg : Type 0} (s : Shape) (h : Hashing D) (m : Meaning Op V) (digest : D → List ℕ) (admits : D → Type 0) (spelling : Op → List ℕ) (law : (op : Op) → m.encoding op ≡ spelling op)
    (list : List Op) (j : Joined D Cfg) (image : Image) (joined : IsJoinedOf s h digest admits spelling list j image) (low : j.tree.boundary ≤ j.items.start)
    (n : ℕ) (whole : j.tree.tree.leaves ≡ n) (few : n ≤ 2 ^ 62) (op : Op) (at : slice_get list (n - 1) ≡ Some op) (floor : ℕ) (floored : m.floor op ≡ Some floor) where
  count : n ≡ length list
  count = sym whole ∙ joined.tree.tree.count ∙ length-leaves_of s h spelling list

  last : slice_get list (length list - 1) ≡ Some op
  last = ap (λ k. slice_get list (k - 1)) (sym count) ∙ at

  floor_is : floor ≡ floor_of m list
  floor_is =
      let some = within_at list (length list - 1) op last in
      let e : suc (length list - 1) ≡ length list = omega (arith, some) in
      sym (ap (λ (xs : List Op). floor_of m xs) (sym (taken_all list (length list) (omega arith))) ∙ ap (λ k. floor_of m (take k list)) (sym e) ∙ floor_at m list (length list - 1) op last ∙ ap (λ o. unwrap_or o 0) floored)

  -- with this root it is the list's database
  pub built_held : {F : Type 0} (db : DbView F D Op Cfg) (k : ℕ) (d : D) → db.journal ≡ j → db.state.size ≡ n → db.state.root ≡ d → db.commit ≡ op → k ≡ inactive s n floor → j.bagging ≡ ForwardFold
      → ((all : List D) → IsOf s h all j.tree.tree → d ≡ root s h all k j.bagging) → IsHeldFor s h m digest admits spelling list db image
  built_held db k d journal_is size_is root_is commit_is k_is folded told =
      let leaves = leaves_of s h spelling list in
      let rooted : db.state.root ≡ root_of s h m list =
      root_is ∙ told leaves joined.tree.tree ∙ ap (λ (b : Bagging). root s h leaves k b) folded
      ∙ root_of-parts s h m list leaves n floor k (leaves_are s h m spelling law list) count floor_is k_is in
      record {
        db_of = record {
          ends = ends_by_last m list op floor last floored;
          few = omega (arith, count, few);
          state_is = ap (λ x. record { size = x; root = db.state.root }) (size_is ∙ count) ∙ ap (λ (r : D). record { size = length list; root = r }) rooted;
          commit_is = last ∙ ap Some (sym commit_is);
        };
        journal = subst (λ (x : Joined D Cfg). IsJoinedOf s h digest admits spelling list x image) (sym journal_is) joined;
        low = subst (λ (x : Joined D Cfg). x.tree.boundary ≤ x.items.start) (sym journal_is) low;
      }

-- ---- an opening

-- the database of a journal that was opened
pub init_of : {F D Op V Cfg : Type 0} (s : Shape) (h : Hashing D) (m : Meaning Op V) (digest : D → List ℕ) (admits : D → Type 0) (spelling : Op → List ℕ) (items : Items Op) (most : Option ℕ) (list : List Op) (end : ℕ)
    (db : DbView F D Op Cfg) (image : Image) → EndsAt items (IsSaidCommit m) most end → IsHeldFrom s h m digest admits spelling list end db image → IsInitOf s h m digest admits spelling items most list db image
init_of {F = F} s h m digest admits spelling items most list end db image found (inl (some, sized, held)) =
    inl (subst (λ n. EndsAt items (IsSaidCommit m) most n) (sym sized) found, subst (λ n. IsHeldFor {F = F} s h m digest admits spelling (take n list) db image) (sym sized) held)
init_of s h m digest admits spelling items most list end db image found (inr (none, first, held)) = inr (subst (λ n. EndsAt items (IsSaidCommit m) most n) none found, first, held)

-- ---- names

-- a call on two logs is one on these and a map
pub logs_call : (one two map : List ℕ) (names : Names) (a b : State) → names ≡ record { logs = one ∷ two ∷ []; maps = [] } → NamesCall names a b → NamesCall (two_logs_and_map one two map) a b
logs_call one two map names a b same call =
    let at = subst (λ (n : Names). NamesCall n a b) same call in
    record {
      others = record { logs = at.others.logs; maps = λ other none. at.others.maps other tt };
      images = record { past = at.images.past; logs = at.images.logs; maps = λ other none. at.images.maps other tt };
    }

pub names_none : (names : Names) (s : State) → NamesCall names s s
names_none names s = names_call_idle names s s refl (past_same s) (record { logs = λ name. refl; maps = λ name. refl })

-- ---- what is left

-- over a call that only reads it stays
module _ (names : Names) (P : Image → Type 0) (a b c : State) (clock : c.clock ≡ b.clock) (past : PastStays b c) where
  pub keeps_still : Keeps (NamesLeft names) P a b → Keeps (NamesLeft names) P a c
  keeps_still ab = record {
    past = past_joins a b c ab.past past;
    during = λ t image lo hi at. ab.during t image lo (omega (arith, hi, clock)) (names_back names b c past t image (omega (arith, hi, clock)) at);
  }

  pub now_still : Now (NamesLeft names) P b → Now (NamesLeft names) P c
  now_still has image at = has image (subst (λ (t : ℕ). NamesLeft names b t image) clock (names_back names b c past c.clock image (omega (arith, clock)) at))

-- ---- what is durable

-- over a call that only reads
pub durable_still : {Cfg : Type 0} (view : View Cfg) (a b : State) → b.clock ≡ a.clock → PastStays a b → SameContents a b → IsDurable view a → IsDurable view b
durable_still view a b clock past contents durable image left =
    let now : b.log_left a.clock view.name image = subst (λ t. b.log_left t view.name image) clock left in
    durable image ((past.logs a.clock view.name image (omega arith)).0 now) ∙ sym (contents.logs view.name)

-- of a journal that has the logs of another
pub durable_same : {Cfg : Type 0} (old new : View Cfg) (state : State) → SameButBounds old new → IsDurable old state → IsDurable new state
durable_same {Cfg = Cfg} old new state same durable = subst (λ (v : View Cfg). IsDurable v state) (sym same) durable

pub capped_within : (most : Option ℕ) (end : ℕ) → capped most end ≤ end
capped_within None end = omega arith
capped_within (Some n) end = omega arith

-- a log that ends where it begins is opened at 0, or where it stands
pub empty_at : {A : Type 0} (items : Items A) (says : A → Bool → Type 0) (most : Option ℕ) (end : ℕ) → EndsAt items says most end → items.log.start ≡ end_of items.log → (0 < end → items.log.start < end) → items.log.start ≡ 0
empty_at items says most end (inl last) empty some =
    let lt = last.0 in
    let le = last.1 in
    let high = capped_within most (end_of items.log) in
    absurd (omega (arith, lt, le, high, empty))
empty_at items says most end (inr (inl none)) empty some = none.1
empty_at items says most end (inr (inr there)) empty some =
    let is = there.2 in
    by end is some
  where
    by : (n : ℕ) → n ≡ end_of items.log → (0 < n → items.log.start < n) → items.log.start ≡ 0
    by zero is some = omega (arith, is, empty)
    by (suc n) is some = let lt = some (omega arith) in absurd (omega (arith, lt, is, empty))

-- ---- refusals

pub if_err : {T E : Type 0} (P Q : E → Type 0) (r : Result T E) → ((e : E) → P e → Q e) → IfErr r P → IfErr r Q
if_err P Q (Ok x) then is = tt
if_err P Q (Err e) then is = then e is

-- an error that never comes
pub never_err : {T E : Type 0} (x : E) (P : Type 0) (r : Result T E) → IfErr r (λ e. e ≢ x) → IsErrOf r x → P
never_err x P (Ok y) other is = absurd cc
never_err x P (Err e) other is = let same : e ≡ x = cc in absurd (other same)

-- why no end is found, in other words of what a predicate says
pub not_found_as : {A : Type 0} (items : Items A) (says tells : A → Bool → Type 0) (cap : Option ℕ) (e : JournalError) → ((x : A) (b : Bool) → says x b → tells x b) → NotFound items says cap e → NotFound items tells cap e
not_found_as items says tells cap e then (inl out) = inl out
not_found_as items says tells cap e then (inr (inl low)) = inr (inl low)
not_found_as items says tells cap e then (inr (inr (inl none))) =
    let why = none.0 in
    inr (inr (inl (record { past = why.past; reached = why.reached; some = why.some; none = λ p low high. answered_as items says tells then p false (why.none p low high) }, none.1)))
not_found_as items says tells cap e then (inr (inr (inr there))) =
    let why = there.1 in
    inr (inr (inr (there.0, record { low = why.low; high = why.high; corrupt = why.corrupt; none = λ p low high. answered_as items says tells then p false (why.none p low high) }, there.2)))

-- why no journal is opened, likewise
pub not_opened_as : {F D A : Type 0} (known : Type 0) (spelling : D → List ℕ) (admits : D → Type 0) (s : Shape) (m : Map) (log : Log) (items : Items A) (says tells : A → Bool → Type 0) (cap : Option ℕ) (e : joined_error.Error F)
    → ((x : A) (b : Bool) → says x b → tells x b) → NotOpened known spelling admits s m log items says cap e → NotOpened known spelling admits s m log items tells cap e
not_opened_as known spelling admits s m log items says tells cap e then (inl (inl none)) = inl (inl (none.0, not_found_as items says tells cap none.0 then none.1, none.2))
not_opened_as known spelling admits s m log items says tells cap e then (inl (inr found)) = inl (inr (found.0, ends_as items says tells cap found.0 then found.1, found.2))
not_opened_as known spelling admits s m log items says tells cap e then (inr found) = inr (found.0, found.1, found.2, ends_as items says tells cap found.0 then found.3, found.4, found.5, found.6, found.7)

-- an append that neither the tree nor the log refuses fails by the outside
pub append_outside : {F : Type 0} (e : joined_error.Error F) (d : Error F) → d ≡ from_joined e → ((x : tree_error.Error F) → e ≡ joined.Merkle x → ⊥) → ((x : JournalError) → e ≡ joined.Journal x → ⊥) → IsOutside d
append_outside (joined.Merkle x) d is tree log = absurd (tree x refl)
append_outside (joined.Journal x) d is tree log = absurd (log x refl)
append_outside joined.Volume d is tree log = subst IsOutside (sym is) tt
append_outside joined.Memory d is tree log = subst IsOutside (sym is) tt

-- a first commit is one, and it isn't too many
pub first_refused : {F : Type 0} (start end : ℕ) (floor : Option ℕ) (at : ℕ) (e : Error F) → floor ≡ Some at
    → ((2 ^ 62 < 1) × (e ≡ Merkle (LocationOverflow 1))) ⊎ ((floor ≡ None) × (e ≡ DataCorrupted NotACommit)) → NotBuilt start end e
first_refused start end floor at e is (inl high) = let lt = high.0 in absurd (omega (arith, lt))
first_refused start end floor at e is (inr none) = let not = none.0 in absurd cc

pub built_refused : {F : Type 0} (start size end : ℕ) (floor : Option ℕ) (e : Error F) → size ≡ end → (floor ≡ None → ⊥)
    → ((2 ^ 62 < size) × (e ≡ Merkle (LocationOverflow size))) ⊎ ((floor ≡ None) × (e ≡ DataCorrupted NotACommit)) → NotBuilt start end e
built_refused start size end floor e same some (inl high) =
    let lt = high.0 in
    inr (inl (omega (arith, lt, same), high.1 ∙ ap (λ n. Merkle (LocationOverflow n)) same))
built_refused start size end floor e same some (inr none) = absurd (some none.0)

-- the item that is read before an end is a commit
pub commit_there : {Op V : Type 0} (m : Meaning Op V) (items : Items Op) (end : ℕ) (op : Op) → ((x y : Op) → items.admits x → items.admits y → items.spelling x ≡ items.spelling y → x ≡ y)
    → Holds items (end - 1) op → items.admits op → 0 < end → EndsHere m items end → m.floor op ≡ None → ⊥
commit_there {Op = Op} m items end op one here may some (inl at) none =
    let spelled = same_item items.log (end - 1) (items.spelling at.item) (items.spelling op) at.here here in
    let same : at.item ≡ op = one at.item op at.allowed may spelled in
    let is : true ≡ is_some (m.floor op) = at.answered ∙ ap (λ (x : Op). is_some (m.floor x)) same in
    let not : is_some (m.floor op) ≡ false = ap (λ (o : Option ℕ). is_some o) none in
    let no : true ≡ false = is ∙ not in
    cc
commit_there m items end op one here may some (inr empty) none = let low = here.low in omega (arith, low, empty, some)

-- a read before an end that fails
pub read_refused : {F Op V : Type 0} (m : Meaning Op V) (tells : Type 0) (told : tells) (items : Items Op) (end : ℕ) (e : JournalError) (d : Error F) → d ≡ from_journal e → end ≡ end_of items.log
    → 0 < end → EndsHere m items end → ReadRefused tells items (end - 1) e → NotBuilt items.log.start end d
read_refused m tells told items end journal.Volume d is reached some ends why = inl (subst IsOutside (sym is) tt)
read_refused m tells told items end journal.Memory d is reached some ends why = inl (subst IsOutside (sym is) tt)
read_refused m tells told items end (journal.ItemPruned q) d is reached some (inl at) why =
    let y = (why.pruned q refl).1 told in
    let low = at.here.low in
    absurd (omega (arith, y, low))
read_refused m tells told items end (journal.ItemPruned q) d is reached some (inr empty) why =
    inr (inr (empty, some, is ∙ ap (λ n. Journal (journal.ItemPruned n)) (why.pruned q refl).0))
read_refused m tells told items end (journal.ItemOutOfRange q) d is reached some ends why = let y = (why.past q refl).1 told in absurd (omega (arith, y, reached, some))
read_refused m tells told items end (journal.Corruption q) d is reached some (inl at) why =
    let y = (why.corrupt q refl).1 told in
    absurd (y.unspelled at.item at.allowed (same_item items.log (end - 1) y.bytes (items.spelling at.item) y.here at.here))
read_refused m tells told items end (journal.Corruption q) d is reached some (inr empty) why =
    let low = ((why.corrupt q refl).1 told).here.low in
    absurd (omega (arith, low, empty, some))
read_refused m tells told items end journal.SizeOverflow d is reached some ends why = absurd (let bad = why.errors in cc)
read_refused m tells told items end journal.EmptyAppend d is reached some ends why = absurd (let bad = why.errors in cc)
read_refused m tells told items end (journal.Tree cause) d is reached some ends why = absurd (let bad = why.errors in cc)

-- what stands before an end stands there still in the log that is cut to it
pub ends_here : {Op V : Type 0} (m : Meaning Op V) (items : Items Op) (later : Log) (cap : Option ℕ) (end : ℕ) → later ≡ cut_to items.log end → EndsAt items (IsSaidCommit m) cap end → 0 < end
    → EndsHere m (record { log = later; spelling = items.spelling; admits = items.admits }) end
ends_here m items later cap end is found some =
    subst (λ (l : Log). EndsHere m (record { log = l; spelling = items.spelling; admits = items.admits }) end) (sym is) (by found)
  where
    by : EndsAt items (IsSaidCommit m) cap end → EndsHere m (record { log = cut_to items.log end; spelling = items.spelling; admits = items.admits }) end
    by (inl last) =
        let at = last.2 in
        let lt = last.0 in
        let low = at.here.low in
        inl (record {
          item = at.item;
          here = record { low = low; here = get-take items.log.items (end - items.log.start) (end - 1 - items.log.start) (omega (arith, lt, low, some)) ∙ at.here.here };
          allowed = at.allowed;
          answered = at.answered;
        })
    by (inr (inl none)) = let zero = none.0 in absurd (omega (arith, zero, some))
    by (inr (inr empty)) = inr (empty.1 ∙ sym empty.2)

-- a database that is built has an operation
pub built_some : {F D Op Cfg : Type 0} (first : Op) (end : ℕ) (db : DbView F D Op Cfg) → IsBuiltAt first end db → 0 < db.state.size
built_some first end db (inl past) = let some = past.0 in let is = past.1 in omega (arith, some, is)
built_some first end db (inr begun) = let is = begun.1 in omega (arith, is)

-- and of a journal with operations it has as many
pub built_at : {F D Op Cfg : Type 0} (first : Op) (end : ℕ) (db : DbView F D Op Cfg) → 0 < end → IsBuiltAt first end db → db.state.size ≡ end
built_at first end db some (inl past) = past.1
built_at first end db some (inr begun) = absurd (let zero = begun.0 in omega (arith, some, zero))

-- why there is no database of a journal that was opened of these items
module _ {F D Op V : Type 0} (known : Type 0) (spelling : D → List ℕ) (admits : D → Type 0) (s : Shape) (map : Map) (log : Log) (items : Items Op) (m : Meaning Op V) (cap : Option ℕ) (start end : ℕ)
    (begins : start ≡ items.log.start) (found : EndsAt items (IsSaidCommit m) cap end) where
  empty_refused : (e : Error F) → start ≡ end → 0 < end → e ≡ Journal (journal.ItemPruned (end - 1)) → EndsAt items (IsSaidCommit m) cap end → NotListed known spelling admits s map log items m cap e
  empty_refused e is some why (inl last) = let lt = last.0 in absurd (omega (arith, lt, is, begins))
  empty_refused e is some why (inr (inl none)) = let zero = none.0 in absurd (omega (arith, zero, some))
  empty_refused e is some why (inr (inr at)) =
      let there = at.2 in
      inr (inr (at.0, at.1, omega (arith, some, there), why ∙ ap (λ n. Journal (journal.ItemPruned (n - 1))) there))

  pub init_refused : (e : Error F) → NotBuilt start end e → NotListed known spelling admits s map log items m cap e
  init_refused e (inl out) = inl out
  init_refused e (inr (inl high)) = inr (inl (joined.Merkle (LocationOverflow end), high.1, inl (inr (end, found, inl (high.0, refl)))))
  init_refused e (inr (inr empty)) = empty_refused e empty.0 empty.1 empty.2 found

-- ---- errors, whatever the volume tells

pub built_errors : {F : Type 0} (size : ℕ) (floor : Option ℕ) (e : Error F) → ((2 ^ 62 < size) × (e ≡ Merkle (LocationOverflow size))) ⊎ ((floor ≡ None) × (e ≡ DataCorrupted NotACommit)) → IsOfOpening e
built_errors size floor e (inl high) = inr (joined.Merkle (LocationOverflow size), high.1, tt)
built_errors size floor e (inr none) = inl none.1

-- what an append of one item fails by is wrapped well
pub append_lifted : {F T : Type 0} (full : Type 0) (e : joined_error.Error F) → ((x : tree_error.Error F) → IsErrOf {T = T} (Err e) (joined.Merkle x) → full)
    → (full → IsErrOf {T = T} (Err e) (joined.Merkle (LocationOverflow (2 ^ 62 + 1))))
    → ((x : JournalError) → IsErrOf {T = T} (Err e) (joined.Journal x) → x ≡ journal.SizeOverflow) → IsLifted e
append_lifted {F = F} full (joined.Merkle x) tree is log =
    let past = is (tree x refl) in
    let same : x ≡ LocationOverflow (2 ^ 62 + 1) = cc in
    subst (λ (d : tree_error.Error F). IsLifted (joined.Merkle d)) (sym same) tt
append_lifted {F = F} full (joined.Journal x) tree is log = subst (λ (d : JournalError). IsLifted {F = F} (joined.Journal d)) (sym (log x refl)) refl
append_lifted full joined.Volume tree is log = tt
append_lifted full joined.Memory tree is log = tt

-- and so is what a flush fails by
pub flush_wraps : {F D : Type 0} (s : Shape) (t : Full D) (e : joined_error.Error F) → IsFromTree (IsOfFlush s t) e → IsLifted e
flush_wraps s t e why = subst IsLifted (sym why.1) (flush_lifted s t why.0 why.2)

pub read_errors : {F : Type 0} (d : JournalError) (e : Error F) → e ≡ from_journal d → IsOfOpening e
read_errors journal.Volume e is = inr (joined.Volume, is, tt)
read_errors journal.Memory e is = inr (joined.Memory, is, tt)
read_errors (journal.ItemPruned p) e is = inr (joined.Journal (journal.ItemPruned p), is, refl)
read_errors (journal.ItemOutOfRange p) e is = inr (joined.Journal (journal.ItemOutOfRange p), is, refl)
read_errors (journal.Corruption p) e is = inr (joined.Journal (journal.Corruption p), is, refl)
read_errors journal.SizeOverflow e is = inr (joined.Journal journal.SizeOverflow, is, refl)
read_errors journal.EmptyAppend e is = inr (joined.Journal journal.EmptyAppend, is, refl)
read_errors (journal.Tree cause) e is = inr (joined.Journal (journal.Tree cause), is, refl)
