-- What the opening of a journal reads, and what it leaves of its logs and its map at each moment.
use Rattle.std.proofs.Common.{◌≡◌, ⊎_elim, inl, inr, ℕ, zero, suc, ◌+◌, ◌-◌, ◌<◌, ◌≤◌, max, min, List, [], ◌∷◌, ◌++◌, length, map, take, drop, refl, sym, ◌∙◌, ap, subst, false, arith}
use Rattle.std.specs.List.{range_with_len}
use Rattle.std.proofs.lemmas.Bool.{cases_lt}
use Rattle.std.proofs.lemmas.List.{take_all, length-take, take-append-drop}
use Rattle.volume_base.specs.Bounds.{IsPartOf}
use Rattle.volume_base.specs.Log.{Log, end_of, Shrinks}
use Rattle.volume_base.specs.Moments.{Image, LeftAt, NamesLeft, Now, Keeps, PairHas, PairKeeps, present}
use Rattle.volume_base.specs.Names.{Names, log_alone, log_and_map, NamesCall}
use Rattle.volume_base.specs.Volume.{State, Map, PastStays, LogMoves}
use Rattle.volume_base.specs.declared.error.JournalError.{JournalError}
use Rattle.volume_base.specs.declared.error.JournalError.TheVariants as journal
use Rattle.volume_base.proofs.BoundLemmas.{part_wider, part_shrinks}
use Rattle.volume_base.proofs.ImageLemmas.{with_log, with_log_here, with_log_other}
use Rattle.volume_base.proofs.MomentLemmas.{pair_has_after}
use Rattle.volume_base.proofs.NameLemmas.{names_move_log}
use Rattle.volume_base.proofs.TurnLemmas.{names_back, now_after, keeps_joins}
use Rattle.journal_base.specs.Items.{Items, Holds, Spells}
use Rattle.journal_base.specs.Reads.{AreItemsAt}
use Rattle.journal_base.specs.View.{View, log_of}
use Rattle.tree_shape.specs.Hashing.{Hashing}
use Rattle.tree_shape.specs.Shape.{Shape}
use Rattle.tree_store.specs.Stored.{TreeStands}
use Rattle.tree_store.specs.declared.error.Error as tree_error
use Rattle.tree_store.specs.declared.error.Error.TheVariants as tree
use Rattle.merkle_full.specs.Flushing.{AllStand, AllKeepStanding, IsOfFlush}
use Rattle.merkle_full.specs.Full.{Full, IsBeside}
use Rattle.merkle_full.specs.Lifted as nodes
use Rattle.merkle_full.specs.Lists.{IsFullOf}
use Rattle.merkle_full.proofs.StandLemmas.{pair_idle}
use Rattle.auth_journal.specs.Aligning.{NotAligned}
use Rattle.auth_journal.specs.Errors.{from_journal, from_tree, IsOutside, IsLifted}
use Rattle.auth_journal.specs.Joined.{Joined, leaves_of}
use Rattle.auth_journal.specs.Opening.{Readied, IsSoundReady, IsReadyIn}
use Rattle.auth_journal.specs.Reading.{positions, AreReadable, IsUnreadAt}
use Rattle.auth_journal.specs.Standing.{Marks, names_of, ImageStands}
use Rattle.auth_journal.specs.declared.error.Error.{Error}
use Rattle.auth_journal.specs.declared.error.Error.TheVariants as joined
use Rattle.auth_journal.proofs.ErrorLemmas.{tree_outside}
use Rattle.auth_journal.proofs.OpeningLemmas.{leaves_take, leaves_ahead, take_twice}
use Rattle.auth_journal.proofs.ReadingLemmas.{run_end}
use Rattle.auth_journal.proofs.StandingLemmas.{tree_keeps}

-- ---- items that were read can be read

readable_run : {Item : Type 0} (items : Items Item) (n from : ℕ) (xs : List Item) → AreItemsAt items (range_with_len from n) xs → (p : ℕ) → from ≤ p → p < from + n → (x : Item) × Holds items p x × items.admits x
readable_run items zero from xs there p low high = absurd (omega (arith, low, high))
readable_run items (suc n) from [] there p low high = absurd there
readable_run items (suc n) from (x ∷ xs) there p low high = ⊎_elim
    (λ above. readable_run items n (from + 1) xs there.2 p (omega (arith, above)) (omega (arith, high)))
    (λ here. let same : from ≡ p = omega (arith, low, here) in (x, subst (λ q. Holds items q x) same there.0, there.1))
    (cases_lt from p)

pub readable_from : {Item : Type 0} (items : Items Item) (from to end : ℕ) (xs : List Item) → end ≤ to → AreItemsAt items (positions from to) xs → AreReadable items from end
readable_from items from to end xs few there p low high = readable_run items (to - from) from xs there p low (omega (arith, low, high, few))

-- ---- errors

pub log_lifted : (F : Type 0) (e : JournalError) → IsLifted (from_journal {F = F} e)
log_lifted F journal.Volume = tt
log_lifted F journal.Memory = tt
log_lifted F (journal.ItemPruned p) = refl
log_lifted F (journal.ItemOutOfRange p) = refl
log_lifted F (journal.Corruption p) = refl
log_lifted F journal.SizeOverflow = refl
log_lifted F journal.EmptyAppend = refl
log_lifted F (journal.Tree cause) = refl

unread_lifted : (F : Type 0) {Item : Type 0} (tells : Type 0) (items : Items Item) (p : ℕ) (d : JournalError) → IsUnreadAt tells items p d → IsLifted {F = F} (joined.Journal d)
unread_lifted F tells items p d (inl why) = subst (λ (e : JournalError). IsLifted {F = F} (joined.Journal e)) (sym why.0) refl
unread_lifted F tells items p d (inr (inl why)) = subst (λ (e : JournalError). IsLifted {F = F} (joined.Journal e)) (sym why.0) refl
unread_lifted F tells items p d (inr (inr why)) = subst (λ (e : JournalError). IsLifted {F = F} (joined.Journal e)) (sym why.0) refl

outside_lifted : {F : Type 0} (e : Error F) → IsOutside e → IsLifted e
outside_lifted joined.Volume out = tt
outside_lifted joined.Memory out = tt
outside_lifted _ out = absurd out

pub aligned_lifted : {F Item : Type 0} (tells : Type 0) (items : Items Item) (from to : ℕ) (e : Error F) → NotAligned tells items from to e → IsLifted e
aligned_lifted tells items from to e (inl out) = outside_lifted e out
aligned_lifted {F = F} tells items from to e (inr why) = subst IsLifted (sym why.1) (unread_lifted F tells items why.2.position why.0 why.2.why)

pub flush_lifted : {F D : Type 0} (s : Shape) (t : Full D) (e : tree_error.Error F) → IsOfFlush s t e → IsLifted (from_tree e)
flush_lifted s t e (inl out) = outside_lifted (from_tree e) (tree_outside e out)
flush_lifted s t e (inr (inl why)) = subst (λ (d : tree_error.Error _). IsLifted (from_tree d)) (sym why.4) tt
flush_lifted s t e (inr (inr is)) = subst (λ (d : tree_error.Error _). IsLifted (from_tree d)) (sym is) refl

pub tree_lifted : {F : Type 0} (e : tree_error.Error F) → nodes.IsLifted e → IsLifted (from_tree e)
tree_lifted tree.Volume o = tt
tree_lifted tree.Memory o = tt
tree_lifted (tree.Journal journal.Volume) o = absurd o
tree_lifted (tree.Journal journal.Memory) o = absurd o
tree_lifted (tree.Journal (journal.ItemPruned p)) o = refl
tree_lifted (tree.Journal (journal.ItemOutOfRange p)) o = refl
tree_lifted (tree.Journal (journal.Corruption p)) o = refl
tree_lifted (tree.Journal journal.SizeOverflow) o = refl
tree_lifted (tree.Journal journal.EmptyAppend) o = refl
tree_lifted (tree.Journal (journal.Tree cause)) o = refl
tree_lifted _ o = tt

-- ---- a tree that is brought to the end of its log

-- after the sync of a tree that stands for more leaves all of them are durable
pub settle_joined : {D : Type 0} (s : Shape) (h : Hashing D) (spelling : D → List ℕ) (front : ℕ → List D) (durable top : ℕ) (t u : Full D) (n : ℕ) (a b c : State) → IsBeside t u → u.tree.leaves ≡ n
    → b.clock ≡ a.clock → PastStays a b → AllStand s h spelling (front n) durable top t a
    → (AllStand s h spelling (front u.tree.leaves) durable top u b → AllStand s h spelling (front u.tree.leaves) (length (front u.tree.leaves)) top u c)
    → AllStand s h spelling (front n) (length (front n)) top t c
settle_joined {D = D} s h spelling front durable top t u n a b c beside leaves clock past has step =
    let Q : ℕ → Log → Map → Type 0 = λ m. TreeStands s h spelling (front m) durable top in
    let R : ℕ → Log → Map → Type 0 = λ m. TreeStands s h spelling (front m) (length (front m)) top in
    let one = pair_idle t.log.name t.metadata (Q n) a b clock past has in
    let now = pair_has_after t.log.name t.metadata (Q n) a b one in
    let name = ap (λ (v : View (Unit {0})). v.name) beside.log in
    let named = subst (λ m. PairHas b u.log.name m (Q n)) (sym beside.metadata) (subst (λ k. PairHas b k t.metadata (Q n)) (sym name) now) in
    let two = subst (λ m. PairHas c u.log.name u.metadata (R m)) leaves (step (subst (λ m. PairHas b u.log.name u.metadata (Q m)) (sym leaves) named)) in
    subst (λ k. PairHas c k t.metadata (R n)) name (subst (λ m. PairHas c u.log.name m (R n)) beside.metadata two)

-- the leaves of a list's front, and those behind it of the list and of more items
pub leaves_split : {D Item : Type 0} (s : Shape) (h : Hashing D) (spelling : Item → List ℕ) (list rest : List Item) (n end : ℕ) → n ≤ end → end ≤ length list
    → leaves_of s h spelling (take (max n end) (take end list)) ++ drop end (leaves_of s h spelling (list ++ rest)) ≡ leaves_of s h spelling (list ++ rest)
leaves_split {D = D} s h spelling list rest n end few long =
    let cuts = length-take end list in
    let all = leaves_of s h spelling (list ++ rest) in
    let whole : take (max n end) (take end list) ≡ take end list = take_all (max n end) (take end list) (omega (arith, cuts, few, long)) in
    ap (λ (l : List D). l ++ drop end all) (ap (leaves_of s h spelling) whole ∙ sym (leaves_take s h spelling end list) ∙ sym (leaves_ahead s h spelling end list rest long))
    ∙ take-append-drop end all

-- ---- images

-- the journal that will be opened, as far as its names go
abbrev pub opened_as : {D Codec : Type 0} → Readied D Codec → Joined D Codec
opened_as r = record {
  items = r.items;
  tree = record { tree = r.tree.tree; boundary = r.tree.pruned; log = r.tree.log; metadata = r.tree.metadata };
  bagging = r.bagging;
  failed = false;
}

-- a call on a tree of other names that are the same
pub named_keeps : {D : Type 0} (s : Shape) (h : Hashing D) (spelling : D → List ℕ) (all : List D) (durable top : ℕ) (t u : Full D) (a b : State) → u.log.name ≡ t.log.name → u.metadata ≡ t.metadata
    → (AllStand s h spelling all durable top u a → AllKeepStanding s h spelling all durable top u a b) → AllStand s h spelling all durable top t a → AllKeepStanding s h spelling all durable top t a b
named_keeps s h spelling all durable top t u a b name metadata step has =
    let Q : Log → Map → Type 0 = TreeStands s h spelling all durable top in
    let here = subst (λ m. PairHas a u.log.name m Q) (sym metadata) (subst (λ k. PairHas a k t.metadata Q) (sym name) has) in
    subst (λ k. PairKeeps k t.metadata Q a b) name (subst (λ m. PairKeeps u.log.name m Q a b) metadata (step here))

module _ {D Codec Item : Type 0} (s : Shape) (h : Hashing D) (digest : D → List ℕ) (spelling : Item → List ℕ) (list : List Item) (marks : Marks) (r : Readied D Codec) (sound : IsSoundReady r) where
  abbrev pub j : Joined D Codec
  j = opened_as r

  abbrev pub names : Names
  names = names_of j

  abbrev pub Left : State → ℕ → Image → Type 0
  Left = NamesLeft names

  abbrev pub Stands : Image → Type 0
  Stands = ImageStands s h digest spelling list marks j

  -- the log of items is cut at or past what is durable
  shrunk : (end : ℕ) (image : Image) (was : Log) → marks.durable ≤ end → Stands (with_log r.items.name was image) → Shrinks end was (image.log r.items.name) → Stands image
  shrunk end image was low stands step =
      let before : Image = with_log r.items.name was image in
      let here : before.log r.items.name ≡ was = with_log_here r.items.name was image in
      let there : before.log r.tree.log.name ≡ image.log r.tree.log.name = with_log_other r.items.name r.tree.log.name was image sound.apart in
      let log = image.log r.items.name in
      let all = leaves_of s h spelling list in
      let part : IsPartOf (map spelling list) marks.prune marks.durable was = subst (λ (l : Log). IsPartOf (map spelling list) marks.prune marks.durable l) here stands.items in
      let tree : TreeStands s h digest all marks.node_durable was.start (image.log r.tree.log.name) (image.map r.tree.metadata) =
      subst (λ (l : Log). TreeStands s h digest all marks.node_durable was.start l (image.map r.tree.metadata)) there
      (subst (λ (l : Log). TreeStands s h digest all marks.node_durable l.start (before.log r.tree.log.name) (image.map r.tree.metadata)) here stands.tree) in
      let start : log.start ≡ was.start = ap (λ (l : Log). l.start) step.2 in
      record {
        items = part_wider (map spelling list) marks.prune marks.prune (min marks.durable end) marks.durable log (omega arith) (omega (arith, low)) (part_shrinks (map spelling list) was log marks.prune marks.durable end step part);
        tree = subst (λ n. TreeStands s h digest all marks.node_durable n (image.log r.tree.log.name) (image.map r.tree.metadata)) (sym start) tree;
      }

  pub cut_keeps : (a b : State) → IsReadyIn r a → marks.durable ≤ r.end → LogMoves r.items.name (Shrinks (min r.end (end_of (log_of r.items a)))) a b → Now Left Stands a → Keeps Left Stands a b
  cut_keeps a b ready low moves has =
      let top = min r.end (end_of (log_of r.items a)) in
      let high : r.end ≤ end_of (log_of r.items a) = omega (arith, sound.within, ready.items.end_is) in
      let few : marks.durable ≤ top = omega (arith, low, high) in
      names_move_log names r.items.name Stands Stands a b (Shrinks top) (inl refl) moves has (λ image was stands step. shrunk top image was few stands step)

  -- then the tree is opened
  pub opened_keeps : (a b c : State) → Keeps Left Stands a b → NamesCall (log_and_map r.tree.log.name r.tree.metadata) b c → LeftAt b b.clock (present b)
      → ((top : ℕ) → AllStand s h digest (leaves_of s h spelling list) marks.node_durable top j.tree b → AllKeepStanding s h digest (leaves_of s h spelling list) marks.node_durable top j.tree b c)
      → Keeps Left Stands a c
  opened_keeps a b c ab call now keeps =
      keeps_joins Left (names_back names) Stands a b c ab
      (tree_keeps s h digest spelling list j sound.apart marks b c call.images.past (call.images.logs r.items.name (sound.apart, tt)) now keeps (now_after Left Stands a b ab))

  -- and brought to the end of the log
  pub caught_keeps : (a b c : State) (nodes : List ℕ) → r.tree.log.name ≡ nodes → Keeps Left Stands a b → NamesCall (log_alone nodes) b c → LeftAt b b.clock (present b)
      → ((top : ℕ) → AllStand s h digest (leaves_of s h spelling list) marks.node_durable top j.tree b → AllKeepStanding s h digest (leaves_of s h spelling list) marks.node_durable top j.tree b c)
      → Keeps Left Stands a c
  caught_keeps a b c nodes is ab call now keeps =
      keeps_joins Left (names_back names) Stands a b c ab
      (tree_keeps s h digest spelling list j sound.apart marks b c call.images.past (call.images.logs r.items.name ((λ e. sound.apart (e ∙ sym is)), tt)) now keeps (now_after Left Stands a b ab))

-- The log is cut, and the tree is opened beside it: it has the front of the list's leaves, and the log is a run of the list's front.
pub record IsCutAt {D Codec Item : Type 0} (s : Shape) (h : Hashing D) (digest : D → List ℕ) (admits : D → Type 0) (spelling : Item → List ℕ) (list : List Item) (r : Readied D Codec) (items : View Codec) (t : Full D) (state : State) : Type 0 where
  pub run : Spells spelling (take r.end list) (log_of items state)
  pub long : r.end ≤ length (take r.end list)
  pub full : IsFullOf s h digest admits (leaves_of s h spelling (take t.tree.leaves (take r.end list))) t (present state)

pub cut_at : {D Codec Item : Type 0} (s : Shape) (h : Hashing D) (digest : D → List ℕ) (admits : D → Type 0) (spelling : Item → List ℕ) (list : List Item) (r : Readied D Codec) (items : View Codec) (t : Full D) (a b c : State)
    → IsSoundReady r → IsReadyIn r a → Spells spelling list (log_of r.items a) → items.name ≡ r.items.name → Spells spelling (take r.end list) (log_of r.items b) → c.log items.name ≡ b.log items.name
    → t.tree.leaves ≡ r.tree.tree.leaves → IsFullOf s h digest admits (take r.tree.tree.leaves (leaves_of s h spelling list)) t (present c)
    → IsCutAt s h digest admits spelling list r items t c
cut_at {D = D} s h digest admits spelling list r items t a b c sound ready run name cut same leaves full =
    let ends = run_end spelling list (log_of r.items a) run in
    let cuts = length-take r.end list in
    let is : take r.tree.tree.leaves (leaves_of s h spelling list) ≡ leaves_of s h spelling (take t.tree.leaves (take r.end list)) =
    leaves_take s h spelling r.tree.tree.leaves list
    ∙ ap (leaves_of s h spelling) (sym (take_twice r.tree.tree.leaves r.end list ready.high) ∙ ap (λ n. take n (take r.end list)) (sym leaves)) in
    record {
      run = subst (λ (l : Log). Spells spelling (take r.end list) l) (sym (same ∙ ap b.log name)) cut;
      long = omega (arith, cuts, ends, sound.within, ready.items.end_is);
      full = subst (λ (all : List D). IsFullOf s h digest admits all t (present c)) is full;
    }
