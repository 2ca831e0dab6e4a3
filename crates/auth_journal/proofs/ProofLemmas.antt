-- Answers of the tree as the journal's, and proofs of items.
use Rattle.std.proofs.Common.{◌≡◌, inl, inr, ℕ, suc, ◌-◌, ◌^◌, ◌<◌, ◌≤◌, List, [], ◌∷◌, length, take, drop, Option, Ok, Err, refl, sym, ◌∙◌, ap, subst, arith}
use Rattle.std.specs.Prelude.{Result}
use Rattle.std.specs.Global.{Vec}
use Rattle.std.specs.List.{range_with_len}
use Rattle.std.specs.Result.{IsErrAnd}
use Rattle.codec_base.specs.Codec.{Reading}
use Rattle.volume_base.specs.Log.{Log}
use Rattle.volume_base.specs.Moments.{Image}
use Rattle.volume_base.specs.declared.error.JournalError.{JournalError}
use Rattle.journal_base.specs.Answers.{IsOfVolume}
use Rattle.journal_base.specs.Items.{Items, Spells}
use Rattle.journal_base.specs.Reads.{AreItemsAt}
use Rattle.journal_base.specs.View.{View}
use Rattle.tree_shape.specs.Hashing.{Hashing}
use Rattle.tree_shape.specs.Shape.{Shape}
use Rattle.tree_proof.specs.declared.proof.Proof.{Proof}
use Rattle.tree_proof.specs.Cover.{meets}
use Rattle.tree_store.specs.Stores as stores
use Rattle.tree_verification.specs.Ranges.{cover_positions}
use Rattle.tree_core.specs.Tree.{IsSound}
use Rattle.merkle_full.specs.Full.{told_at}
use Rattle.merkle_full.specs.Proving.{history_answer, IsProved}
use Rattle.merkle_full.proofs.FullLemmas.{held_of_full}
use Rattle.merkle_full.proofs.ProvedLemmas.{history_within, taken_there}
use Rattle.auth_journal.specs.Joined.{Joined, IsJoinedOf, leaves_of}
use Rattle.auth_journal.specs.Proving.{items_answer, range_end, AreThere, WhyUnproved, IsItemsProof}
use Rattle.auth_journal.specs.Reading.{positions, IsUnreadAt, AreUnread, AreAdmitted}
use Rattle.auth_journal.proofs.ErrorLemmas.{volume_from_tree, tree_outside, log_outside}
use Rattle.auth_journal.proofs.LeafLemmas.{length-leaves_of}
use Rattle.auth_journal.proofs.ReadingLemmas.{run_end}
use Rattle.std.proofs.lemmas.Bool.Decides.{leb_tells}
use Rattle.volume_base.specs.Volume.{State, Reads}
use Rattle.tree_store.specs.declared.error.Error as tree_error
use Rattle.tree_store.specs.declared.error.Error.TheVariants as tree
use Rattle.auth_journal.specs.Errors.{from_journal, from_tree, lifted}
use Rattle.auth_journal.specs.declared.error.Error.{Error}
use Rattle.auth_journal.specs.declared.error.Error.TheVariants as joined

pub reads_lifted : {F T : Type 0} (tells : Type 0) (a b : State) (r : Result T (tree_error.Error F)) → Reads tells tree.Volume a b r → Reads tells joined.Volume a b (lifted r)
reads_lifted tells a b (Ok x) did = record { clock = did.clock; past = did.past; contents = did.contents; faults = did.faults; failed = λ is. absurd cc; kept = did.kept; reads = did.reads; steady = did.steady }
reads_lifted tells a b (Err e) did = record {
  clock = did.clock;
  past = did.past;
  contents = did.contents;
  faults = did.faults;
  failed = λ is. let same : from_tree e ≡ joined.Volume = cc in did.failed (ap Err (volume_from_tree e same));
  kept = tt;
  reads = did.reads;
  steady = did.steady;
}

-- ---- answers that no read decides

pub answer_ok : {F : Type 0} (end n a : ℕ) → n ≤ end → a < n → items_answer {F = F} end n a ≡ Ok tt
answer_ok end n a le lt = elim (leb_tells n end) [
  | inl t ↦ elim (leb_tells n a) [
    | inl u ↦ absurd (let v = u.1 in omega (arith, v, lt))
    | inr u ↦ rw (t.0, u.0) refl
  ]
  | inr t ↦ absurd (let v = t.1 in omega (arith, v, le))
]

history_ok : {F : Type 0} (stored n a b : ℕ) → n ≤ stored → stored ≤ 2 ^ 62 → a < b → b ≤ n → history_answer {F = F} stored n a b ≡ Ok tt
history_ok stored n a b le few lt within = history_within stored n a b le ∙ (elim (leb_tells b a) [
  | inl t ↦ absurd (let v = t.1 in omega (arith, v, lt))
  | inr t ↦ elim (leb_tells b (2 ^ 62)) [
    | inl u ↦ elim (leb_tells n stored) [
      | inl w ↦ elim (leb_tells b n) [
        | inl y ↦ rw (t.0, u.0, w.0, y.0) refl
        | inr y ↦ absurd (let v = y.1 in omega (arith, v, within))
      ]
      | inr w ↦ absurd (let v = w.1 in omega (arith, v, le))
    ]
    | inr u ↦ absurd (let v = u.1 in omega (arith, v, few, le, within))
  ]
])

-- ---- refusals of tree and log

tree_because : {F D Item : Type 0} (told : ℕ → Option D) (ps : List ℕ) (items : Items Item) (a b : ℕ) (e : tree_error.Error F) → stores.IsOutsideOr told ps e → WhyUnproved told ps items a b (from_tree e)
tree_because told ps items a b tree.Volume o = inl tt
tree_because told ps items a b tree.Memory o = inl tt
tree_because told ps items a b (tree.ElementPruned p) o = inr (inl (p, refl, o))
tree_because told ps items a b _ o = absurd o

log_because : {F D Item : Type 0} (told : ℕ → Option D) (ps : List ℕ) (tells : Type 0) (items : Items Item) (a b : ℕ) (e : JournalError) → tells → AreThere told ps → AreUnread tells items a b e → WhyUnproved {F = F} told ps items a b (from_journal e)
log_because {F = F} told ps tells items a b e t there (inl o) = inl (log_outside F e o)
log_because {F = F} told ps tells items a b e t there (inr first) = inr (inr (e, named first.why, there, record { position = first.position; low = first.low; high = first.high; first = λ u. first.first t; why = known first.why }))
  where
    named : IsUnreadAt tells items first.position e → from_journal {F = F} e ≡ joined.Journal e
    named (inl y) = ap from_journal y.0 ∙ sym (ap joined.Journal y.0)
    named (inr (inl y)) = ap from_journal y.0 ∙ sym (ap joined.Journal y.0)
    named (inr (inr y)) = ap from_journal y.0 ∙ sym (ap joined.Journal y.0)

    known : IsUnreadAt tells items first.position e → IsUnreadAt (Unit {0}) items first.position e
    known (inl y) = inl (y.0, λ u. y.1 t)
    known (inr (inl y)) = inr (inl (y.0, λ u. y.1 t))
    known (inr (inr y)) = inr (inr (y.0, λ u. y.1 t))

low_of : {Item : Type 0} (items : Items Item) (x k : ℕ) (xs : List Item) → AreItemsAt items (range_with_len x (suc k)) xs → items.log.start ≤ x
low_of items x k [] there = absurd there
low_of items x k (y ∷ ys) there = there.0.low

-- what a read says of the log, where the log has stayed
pub moved : {D Codec : Type 0} (Q : View Codec → Log → ℕ → ℕ → Type 0) (i j : Joined D Codec) (old new : State) (x a y b : ℕ) → i ≡ j → new.log i.items.name ≡ old.log i.items.name → x ≡ a → y ≡ b
    → Q i.items (new.log i.items.name) x y → Q j.items (old.log j.items.name) a b
moved {D = D} {Codec = Codec} Q i j old new x a y b same log ex ey q =
    subst (λ (k : Joined D Codec). Q k.items (old.log k.items.name) a b) same
    (subst (λ (z : ℕ). Q i.items (old.log i.items.name) a z) ey (subst (λ (z : ℕ). Q i.items (old.log i.items.name) z y) ex (subst (λ (l : Log). Q i.items l x y) log q)))

-- ---- proofs of items

module _ (F : Type 0) {D Codec Item : Type 0} (tells : Type 0) (s : Shape) (h : Hashing D) (digest : D → List ℕ) (admits : D → Type 0) (reads : List ℕ → Reading D) (spelling : Item → List ℕ) (allowed : Codec → Item → Type 0)
    (j : Joined D Codec) (image : Image) (n inactive a count : ℕ) (le : n ≤ j.items.end) (lt : a < n) (some : 0 < count) (sound : IsSound s j.tree.tree) where
  abbrev b : ℕ
  b = range_end n a count

  abbrev items : Items Item
  items = record { log = image.log j.items.name; spelling = spelling; admits = allowed j.items.codec }

  abbrev Says : Result (Proof F D × Vec Item) (Error F) → Type 0
  Says result = IsItemsProof tells s h digest admits reads spelling allowed j image n inactive a count result

  hist : (list : List Item) → IsJoinedOf s h digest admits spelling list j image → history_answer {F = F} j.tree.tree.leaves n a b ≡ Ok tt
  hist list jn = history_ok j.tree.tree.leaves n a b (omega (arith, le, jn.end_is, run_end spelling list (image.log j.items.name) jn.items, jn.tree.tree.count, length-leaves_of s h spelling list)) sound.few (omega (arith, lt, some)) (omega arith)

  within_list : (list : List Item) → IsJoinedOf s h digest admits spelling list j image → b ≤ length list
  within_list list jn = omega (arith, le, jn.end_is, run_end spelling list (image.log j.items.name) jn.items)

  never : (d : tree_error.Error F) → items_answer j.items.end n a ≡ Err d → ⊥
  never d bad = let same : Ok tt ≡ Err d = sym (answer_ok j.items.end n a le lt) ∙ bad in cc

  pub tree_refused : (e : tree_error.Error F) (result : Result (Proof F D × Vec Item) (Error F)) → IsErrAnd result (λ d. d ≡ from_tree e)
      → IsProved tells s digest admits reads j.tree image (history_answer j.tree.tree.leaves n a b) n inactive a b (Err e) → Says result
  tree_refused e (Ok y) is did = absurd is
  tree_refused e (Err d) is did = subst (λ (x : Error F). Says (Err x)) (sym is) (record {
    refused = λ d bad. absurd (never d bad);
    within = tt;
    counted = tt;
    read = tt;
    told = tt;
    proof = tt;
    list = tt;
    kept = λ ok low start told list jn al. tree_outside e (did.kept (hist list jn) low told h (leaves_of s h spelling list) jn.tree);
    why = λ ok told list jn. tree_because (told_at reads j.tree image) (cover_positions s (meets a b) n) items a b e
        (did.first (hist list jn) told (held_of_full s h digest admits (leaves_of s h spelling list) j.tree image jn.tree sound.within));
  })

  pub log_refused : (e : JournalError) (result : Result (Proof F D × Vec Item) (Error F)) → IsErrAnd result (λ d. d ≡ from_journal e)
      → (proof : Proof F D) → IsProved tells s digest admits reads j.tree image (history_answer j.tree.tree.leaves n a b) n inactive a b (Ok proof) → (tells → AreUnread tells items a b e)
      → (tells → (list : List Item) → Spells spelling list (image.log j.items.name) → (image.log j.items.name).start ≤ a → b ≤ length list → AreAdmitted (allowed j.items.codec) list a b → IsOfVolume e) → Says result
  log_refused e (Ok y) is proof did unread outside = absurd is
  log_refused e (Err d) is proof did unread outside = subst (λ (x : Error F). Says (Err x)) (sym is) (record {
    refused = λ d bad. absurd (never d bad);
    within = tt;
    counted = tt;
    read = tt;
    told = tt;
    proof = tt;
    list = tt;
    kept = λ ok low start told list jn al. log_outside F e (outside told list jn.items (omega (arith, start, jn.start_is)) (within_list list jn) al);
    why = λ ok told list jn. log_because (told_at reads j.tree image) (cover_positions s (meets a b) n) tells items a b e told
        (taken_there s (told_at reads j.tree image) n (meets a b) proof (did.told told (held_of_full s h digest admits (leaves_of s h spelling list) j.tree image jn.tree sound.within)))
        (unread told);
  })

  pub both_made : (proof : Proof F D) (made : Vec Item) → IsProved tells s digest admits reads j.tree image (history_answer j.tree.tree.leaves n a b) n inactive a b (Ok proof)
      → length made.items ≡ b - a
      → (tells → AreItemsAt items (positions a b) made.items)
      → (tells → (list : List Item) → Spells spelling list (image.log j.items.name) → (image.log j.items.name).start ≤ a → b ≤ length list → AreAdmitted (allowed j.items.codec) list a b → made.items ≡ take (b - a) (drop a list))
      → Says (Ok (proof, made))
  both_made proof made did counted there listed = record {
    refused = λ d bad. absurd (never d bad);
    within = answer_ok j.items.end n a le lt;
    counted = counted;
    read = there;
    told = did.told;
    proof = λ told list jn. did.list told h (leaves_of s h spelling list) jn.tree;
    list = λ told list jn al.
        let k : suc (b - a - 1) ≡ b - a = omega (arith, lt, some) in
        let low = low_of items a (b - a - 1) made.items (subst (λ (m : ℕ). AreItemsAt items (range_with_len a m) made.items) (sym k) (there told)) in
        (did.list told h (leaves_of s h spelling list) jn.tree, listed told list jn.items low (within_list list jn) al);
    kept = λ ok low start told list jn al. tt;
    why = λ ok told list jn. tt;
  }
