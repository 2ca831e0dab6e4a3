-- What holds of a tree of a list that a volume holds.
use Rattle.std.proofs.Common.{◌≡◌, inl, inr, ℕ, ◌+◌, ◌-◌, ◌<◌, ◌≤◌, Bool, true, false, List, length, map, take, Some, None, Option, refl, sym, ◌∙◌, ap, subst, arith}
use Rattle.std.specs.Prelude.{◌||◌, slice_get, is_some}
use Rattle.std.specs.Option.{option_map}
use Rattle.std.proofs.lemmas.Bool.{cases_lt}
use Rattle.std.proofs.lemmas.Bool.Decides.{leb_tells}
use Rattle.std.proofs.lemmas.List.{length-map, length-take-le, length-drop}
use Rattle.std.proofs.lemmas.Option.{slice_get-map}
use Rattle.codec_base.specs.Codec.{Reading, IsLawful}
use Rattle.codec_base.specs.PartsLaws.{whole_again}
use Rattle.volume_base.specs.Log.{Log, end_of}
use Rattle.volume_base.specs.Moments.{Image}
use Rattle.volume_base.specs.Volume.{Map}
use Rattle.journal_base.specs.Items.{Spells}
use Rattle.tree_shape.specs.Hashing.{Hashing}
use Rattle.tree_shape.specs.Shape.{Shape, made}
use Rattle.tree_shape.specs.Slow.{nodes, node_of}
use Rattle.tree_shape.proofs.NeededLemmas.{made_le}
use Rattle.tree_store.specs.Stored.{IsMapOf}
use Rattle.tree_store.specs.Stores.{IsTreeOf}
use Rattle.tree_core.specs.Pruned.{is_peak_at, keeps}
use Rattle.tree_core.specs.Tree.{node_at, either}
use Rattle.merkle_full.specs.Full.{Full, IsKept, IsHeld, found, read_at, logged, told_at}
use Rattle.merkle_full.specs.Lists.{IsFullOf, IsNodeOf}
use Rattle.merkle_full.proofs.ListLemmas.{there_is, all_at, taken, entry_of, logged_entry}

pub length-nodes : {D : Type 0} (s : Shape) (h : Hashing D) (all : List D) → length (nodes s h all) ≡ length (made s (length all))
length-nodes s h all = length-map (made s (length all)) (node_of s h all)

module _ {D : Type 0} (s : Shape) (h : Hashing D) (spelling : D → List ℕ) (admits : D → Type 0) (all : List D) (t : Full D) (image : Image) where
  abbrev log : Log
  log = image.log t.log.name

  abbrev end : ℕ
  end = length (made s t.tree.boundary)

  -- the log of a held tree ends where memory's own boundary stands
  pub full_end : IsFullOf s h spelling admits all t image → t.tree.boundary ≤ t.tree.leaves → t.log.end ≡ length (made s t.tree.boundary)
  full_end full le =
      let list = map spelling (take end (nodes s h all)) in
      let count : t.tree.leaves ≡ length all = full.tree.count in
      let fits : end ≤ length (nodes s h all) = omega (arith, made_le s t.tree.boundary t.tree.leaves le, ap (λ n. length (made s n)) count, length-nodes s h all) in
      let long : length list ≡ end = length-map (take end (nodes s h all)) spelling ∙ length-take-le end (nodes s h all) fits in
      omega (arith, full.end_is, ap length full.nodes.items, length-drop log.start list, full.nodes.within, long)

  pub held_of_full : IsFullOf s h spelling admits all t image → t.tree.boundary ≤ t.tree.leaves → IsHeld s spelling admits t image
  held_of_full full le = record {
    start_is = full.start_is;
    end_is = sym full.end_is ∙ full_end full le;
    digests = λ i bytes is.
        let entry = entry_of spelling (take end (nodes s h all)) log i bytes full.nodes is in
        record {
          digest = entry.digest;
          allowed = all_at admits (nodes s h all) (log.start + i) entry.digest full.digests (taken (nodes s h all) end (log.start + i) entry.digest entry.here);
          spelled = entry.spelled;
        };
  }

  -- the contents of log and map stay
  pub full_later : (later : Image) → later.log t.log.name ≡ image.log t.log.name → later.map t.metadata ≡ image.map t.metadata → IsFullOf s h spelling admits all t image → IsFullOf s h spelling admits all t later
  full_later later same pins full = record {
    digests = full.digests;
    tree = full.tree;
    start_is = full.start_is ∙ ap (λ (l : Log). l.start) (sym same);
    end_is = full.end_is ∙ ap end_of (sym same);
    nodes = subst (λ (l : Log). Spells spelling (take end (nodes s h all)) l) (sym same) full.nodes;
    low = full.low;
    pins = subst (λ (m : Map). IsMapOf s h spelling all t.boundary m) (sym pins) full.pins;
  }

  module _ (reads : List ℕ → Reading D) (lawful : IsLawful spelling admits reads) where
    -- what the log has at a position where it holds the list's nodes
    read_entry : IsFullOf s h spelling admits all t image → (p : ℕ) (d : D) → slice_get (nodes s h all) p ≡ Some d → read_at reads (Some (spelling d)) ≡ Some d
    read_entry full p d here = ap found (whole_again spelling admits reads lawful d (all_at admits (nodes s h all) p d full.digests here))

    entry : IsFullOf s h spelling admits all t image → (p : ℕ) (d : D) (o : Option (List ℕ)) → log.start ≤ p → slice_get log.items (p - log.start) ≡ o → read_at reads o ≡ Some d → slice_get (nodes s h all) p ≡ Some d
    entry full p d None low at is = absurd cc
    entry full p d (Some bytes) low at is =
        let en = entry_of spelling (take end (nodes s h all)) log (p - log.start) bytes full.nodes at in
        let place : log.start + (p - log.start) ≡ p = omega (arith, low) in
        let here : slice_get (nodes s h all) p ≡ Some en.digest = ap (slice_get (nodes s h all)) (sym place) ∙ taken (nodes s h all) end (log.start + (p - log.start)) en.digest en.here in
        here ∙ sym (ap (λ (b : List ℕ). read_at reads (Some b)) en.spelled ∙ read_entry full p en.digest here) ∙ is

    in_log : IsFullOf s h spelling admits all t image → (p : ℕ) (d : D) → logged reads log p ≡ Some d → slice_get (nodes s h all) p ≡ Some d
    in_log full p d is = elim (leb_tells log.start p) [
      | inl low ↦ entry full p d (slice_get log.items (p - log.start)) low.1 refl (rw low.0 at is)
      | inr past ↦ absurd (let bad : logged reads log p ≡ None = rw past.0 refl in cc)
    ]

    in_either : IsFullOf s h spelling admits all t image → (p : ℕ) (d : D) (o : Option D) → node_at t.tree p ≡ o → told_at reads t image p ≡ Some d → slice_get (nodes s h all) p ≡ Some d
    in_either full p d (Some x) at is = full.tree.right p d (at ∙ sym (ap (λ a. either a (logged reads log p)) at) ∙ is)
    in_either full p d None at is = in_log full p d (sym (ap (λ a. either a (logged reads log p)) at) ∙ is)

    pub told_tree : IsFullOf s h spelling admits all t image → IsTreeOf s h all t.tree.leaves (told_at reads t image)
    told_tree full = record { count = full.tree.count; right = λ p d is. in_either full p d (node_at t.tree p) refl is }

    -- ---- each node that is needed is there

    left_some : (a b : Option D) → is_some a ≡ true → is_some (either a b) ≡ true
    left_some (Some x) b is = refl
    left_some None b is = absurd cc

    right_some : (a b : Option D) → is_some b ≡ true → is_some (either a b) ≡ true
    right_some (Some x) b is = refl
    right_some None b is = is

    log_has : IsFullOf s h spelling admits all t image → (p : ℕ) → log.start ≤ p → p < end → end ≤ length (nodes s h all) → is_some (logged reads log p) ≡ true
    log_has full p low lt within =
        let list = take end (nodes s h all) in
        let counted : length list ≡ end = length-take-le end (nodes s h all) within in
        let x = there_is list p (omega (arith, counted, lt)) in
        let here : slice_get (nodes s h all) p ≡ Some x.0 = taken (nodes s h all) end p x.0 x.1 in
        let bytes : slice_get log.items (p - log.start) ≡ Some (spelling x.0) = logged_entry (map spelling list) log p full.nodes.items low ∙ slice_get-map spelling list p ∙ ap (option_map spelling) x.1 in
        elim (leb_tells log.start p) [
          | inl ok ↦ rw ok.0 (ap (λ (o : Option (List ℕ)). is_some (read_at reads o)) bytes ∙ ap is_some (read_entry full p x.0 here))
          | inr past ↦ absurd (omega (arith, low, past.1))
        ]

    pub needed_told : IsFullOf s h spelling admits all t image → IsKept s t → (p : ℕ) → p < length (made s t.tree.leaves) → keeps s t.boundary p ≡ true → is_some (told_at reads t image p) ≡ true
    needed_told full kept p lt is = elim (cases_lt p end) [
      | inr past ↦ left_some (node_at t.tree p) (logged reads log p) (kept.sound.held.since p past lt)
      | inl low ↦ elim (leb_tells (length (made s t.boundary)) p) [
        | inl from ↦ right_some (node_at t.tree p) (logged reads log p) (log_has full p (omega (arith, full.start_is, full.low, from.1)) low (omega (arith, made_le s t.tree.boundary t.tree.leaves kept.sound.within, ap (λ n. length (made s n)) full.tree.count, length-nodes s h all)))
        | inr below ↦
            let peak : is_peak_at s t.boundary (s.heights t.boundary) p ≡ true = rw below.0 at is in
            left_some (node_at t.tree p) (logged reads log p) (kept.exact p low ∙ or_second (is_peak_at s t.tree.boundary (s.heights t.tree.boundary) p) (is_peak_at s t.boundary (s.heights t.boundary) p) peak)
      ]
    ]
      where
        or_second : (a b : Bool) → b ≡ true → (a || b) ≡ true
        or_second true b e = refl
        or_second false b e = e

    pub node_of_list : IsFullOf s h spelling admits all t image → IsKept s t → (p : ℕ) → p < length (made s t.tree.leaves) → (o : Option D) → o ≡ told_at reads t image p → IsNodeOf s h all t.boundary p o
    node_of_list full kept p lt (Some d) is = (told_tree full).right p d (sym is)
    node_of_list full kept p lt None is = by (keeps s t.boundary p) refl
      where
        by : (b : Bool) → keeps s t.boundary p ≡ b → keeps s t.boundary p ≡ false
        by true at = absurd (let there = needed_told full kept p lt at in let none : is_some (told_at reads t image p) ≡ false = ap is_some (sym is) in cc)
        by false at = at
