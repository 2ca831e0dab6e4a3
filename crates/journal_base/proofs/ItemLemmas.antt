-- A log as a run of a list of items.
use Rattle.std.proofs.Common.{◌≡◌, ℕ, zero, suc, ◌+◌, ◌-◌, ◌≤◌, List, [], ◌∷◌, ◌++◌, length, map, take, drop, refl, sym, ◌∙◌, ap, subst, arith}
use Rattle.std.specs.Prelude.{slice_get, Some}
use Rattle.std.specs.Option.{option_map}
use Rattle.std.proofs.lemmas.List.{map-append, take-map, length-map, drop-take, drop-drop, length-take}
use Rattle.std.proofs.lemmas.Option.{slice_get-map}
use Rattle.volume_base.specs.Log.{Log, IsItemAt, appended, cut_to, pruned_to}
use Rattle.volume_base.specs.Bounds.{IsRunOf}
use Rattle.volume_base.proofs.BoundLemmas.{run_appended}
use Rattle.journal_base.specs.Items.{Spells, items_of, Holds, IsCorrupt}
use Rattle.journal_base.specs.View.{View, log_of}
use Rattle.volume_base.specs.Volume.{State}

pub spells_appended : {A : Type 0} (spelling : A → List ℕ) (list items : List A) (log : Log) → Spells spelling list log → Spells spelling (list ++ items) (appended log (map spelling items))
spells_appended spelling list items log run =
    subst (λ (l : List (List ℕ)). IsRunOf l (appended log (map spelling items))) (sym (map-append spelling list items)) (run_appended (map spelling list) (map spelling items) log run)

-- the same where the encodings of the items are at hand
pub spells_encoded : {A : Type 0} (spelling : A → List ℕ) (list items : List A) (texts : List (List ℕ)) (log : Log) → map spelling items ≡ texts → Spells spelling list log → Spells spelling (list ++ items) (appended log texts)
spells_encoded spelling list items texts log same run =
    subst (λ (ts : List (List ℕ)). Spells spelling (list ++ items) (appended log ts)) same (spells_appended spelling list items log run)

pub spells_pruned : {A : Type 0} (spelling : A → List ℕ) (list : List A) (log : Log) (to : ℕ) → to ≤ length list → Spells spelling list log → Spells spelling list (pruned_to log to)
spells_pruned spelling list log to le run = record {
  items = ap (drop (to - log.start)) run.items ∙ drop-drop (to - log.start) log.start (map spelling list) ∙ ap (λ (n : ℕ). drop n (map spelling list)) (omega arith);
  within = omega (arith, run.within, length-map list spelling);
}

pub spells_cut : {A : Type 0} (spelling : A → List ℕ) (list : List A) (log : Log) (to : ℕ) → log.start ≤ to → Spells spelling list log → Spells spelling (take to list) (cut_to log to)
spells_cut spelling list log to le run =
    let whole : log.start + (to - log.start) ≡ to = omega (arith, le) in
    let part : take (to - log.start) log.items ≡ drop log.start (take to (map spelling list)) =
    ap (take (to - log.start)) run.items ∙ sym (drop-take log.start (to - log.start) (map spelling list)) ∙ ap (λ (n : ℕ). drop log.start (take n (map spelling list))) whole in
    record {
      items = part ∙ ap (drop log.start) (take-map spelling to list);
      within = omega (arith, run.within, length-map list spelling, length-map (take to list) spelling, length-take to list);
    }

get_drop : (xs : List (List ℕ)) (s n : ℕ) → slice_get (drop s xs) n ≡ slice_get xs (s + n)
get_drop xs zero n = ap (slice_get xs) (omega arith)
get_drop [] (suc s) n = refl
get_drop (x ∷ xs) (suc s) n =
    let next : suc (s + n) ≡ suc s + n = omega arith in
    get_drop xs s n ∙ ap (slice_get (x ∷ xs)) next

pub spells_item : {A : Type 0} (spelling : A → List ℕ) (list : List A) (log : Log) (position : ℕ) (x : A) → Spells spelling list log → log.start ≤ position → slice_get list position ≡ Some x → IsItemAt log position (spelling x)
spells_item spelling list log position x run low there = record {
  low = low;
  here =
      ap (λ (l : List (List ℕ)). slice_get l (position - log.start)) run.items
      ∙ get_drop (map spelling list) log.start (position - log.start)
      ∙ ap (slice_get (map spelling list)) (omega (arith, low))
      ∙ slice_get-map spelling list position
      ∙ ap (option_map spelling) there;
}

pub same_item : (log : Log) (position : ℕ) (one two : List ℕ) → IsItemAt log position one → IsItemAt log position two → one ≡ two
same_item log position one two a b = let both : Some one ≡ Some two = sym a.here ∙ b.here in cc

-- What stood in the log at another moment stands there now, where the log is the same.

pub holds_here : {A C : Type 0} (spelling : A → List ℕ) (admits : C → A → Type 0) (view : View C) (a b : State) (position : ℕ) (x : A) → log_of view b ≡ log_of view a → Holds (items_of spelling admits view b) position x → Holds (items_of spelling admits view a) position x
holds_here spelling admits view a b position x same there = subst (λ (log : Log). IsItemAt log position (spelling x)) same there

pub corrupt_here : {A C : Type 0} (spelling : A → List ℕ) (admits : C → A → Type 0) (view : View C) (a b : State) (p q : ℕ) → log_of view b ≡ log_of view a → p ≡ q → IsCorrupt (items_of spelling admits view b) q → IsCorrupt (items_of spelling admits view a) p
corrupt_here spelling admits view a b p q same is there = record {
  bytes = there.bytes;
  here = subst (λ (r : ℕ). IsItemAt (log_of view a) r there.bytes) (sym is) (subst (λ (log : Log). IsItemAt log q there.bytes) same there.here);
  unspelled = there.unspelled;
}
