-- Lists read entry by entry, and logs that are a run of a list.
use Rattle.std.proofs.Common.{◌≡◌, inl, inr, ℕ, zero, suc, ◌+◌, ◌-◌, ◌<◌, ◌≤◌, List, [], ◌∷◌, length, map, take, drop, Some, None, Option, refl, sym, ◌∙◌, ap, subst, arith}
use Rattle.std.specs.Prelude.{All, slice_get}
use Rattle.std.specs.Option.{option_map}
use Rattle.std.proofs.lemmas.List.{length-drop, length-take}
use Rattle.std.proofs.lemmas.Option.{slice_get-map, slice_get_cases, slice_get_within, same_Some, get_or_from_slice_get}
use Rattle.volume_base.specs.Log.{Log}
use Rattle.journal_base.specs.Items.{Spells}
use Rattle.tree_store.proofs.StoreLemmas.{get-take}

pub same_lists : {D : Type 0} (xs ys : List D) → length xs ≡ length ys → ((i : ℕ) (d : D) → slice_get xs i ≡ Some d → slice_get ys i ≡ Some d) → xs ≡ ys
same_lists [] [] l g = refl
same_lists [] (y ∷ ys) l g = absurd (omega (arith, l))
same_lists (x ∷ xs) [] l g = absurd (omega (arith, l))
same_lists {D = D} (x ∷ xs) (y ∷ ys) l g =
    let head : y ≡ x = same_Some y x (g 0 x refl) in
    let rest : xs ≡ ys = same_lists xs ys (omega (arith, l)) (λ i d e. g (suc i) d e) in
    ap (λ (z : D). z ∷ xs) (sym head) ∙ ap (λ (zs : List D). y ∷ zs) rest

pub get_behind : {D : Type 0} (xs : List D) (s n : ℕ) → slice_get (drop s xs) n ≡ slice_get xs (s + n)
get_behind xs zero n = ap (slice_get xs) (omega arith)
get_behind [] (suc s) n = refl
get_behind (x ∷ xs) (suc s) n =
    let next : suc (s + n) ≡ suc s + n = omega arith in
    get_behind xs s n ∙ ap (slice_get (x ∷ xs)) next

pub list_from : {D : Type 0} (xs ys : List D) (first : ℕ) → length xs ≡ length ys - first → ((i : ℕ) (d : D) → slice_get xs i ≡ Some d → slice_get ys (first + i) ≡ Some d) → xs ≡ drop first ys
list_from xs ys first l g = same_lists xs (drop first ys) (omega (arith, l, length-drop first ys)) (λ i d e. get_behind ys first i ∙ g i d e)

pub there_is : {D : Type 0} (xs : List D) (i : ℕ) → i < length xs → (x : D) × (slice_get xs i ≡ Some x)
there_is xs i lt = elim (slice_get_cases xs i).1 [
  | inl here ↦ (here.0, here.2)
  | inr past ↦ absurd (omega (arith, lt, past.0))
]

pub all_at : {D : Type 0} (P : D → Type 0) (xs : List D) (p : ℕ) (d : D) → All P xs → slice_get xs p ≡ Some d → P d
all_at P xs p d all is = subst P (get_or_from_slice_get xs p d d is) (all p d (slice_get_within xs p d is))

pub taken : {D : Type 0} (xs : List D) (e p : ℕ) (d : D) → slice_get (take e xs) p ≡ Some d → slice_get xs p ≡ Some d
taken xs e p d is = sym (get-take xs e p (omega (arith, slice_get_within (take e xs) p d is, length-take e xs))) ∙ is

pub mapped_some : {X Y : Type 0} (f : X → Y) (o : Option X) (y : Y) → option_map f o ≡ Some y → (x : X) × (o ≡ Some x) × (y ≡ f x)
mapped_some f (Some x) y is = (x, refl, sym (same_Some (f x) y is))
mapped_some f None y is = absurd cc

-- what stands in a log at a position
pub logged_entry : (list : List (List ℕ)) (log : Log) (p : ℕ) → log.items ≡ drop log.start list → log.start ≤ p → slice_get log.items (p - log.start) ≡ slice_get list p
logged_entry list log p is low = ap (λ (l : List (List ℕ)). slice_get l (p - log.start)) is ∙ get_behind list log.start (p - log.start) ∙ ap (slice_get list) (omega (arith, low))

-- the entry whose spelling stands at a place of a run
pub record EntryOf {D : Type 0} (spelling : D → List ℕ) (list : List D) (p : ℕ) (bytes : List ℕ) : Type 0 where
  pub digest : D
  pub here : slice_get list p ≡ Some digest
  pub spelled : bytes ≡ spelling digest

pub entry_of : {D : Type 0} (spelling : D → List ℕ) (list : List D) (log : Log) (i : ℕ) (bytes : List ℕ) → Spells spelling list log → slice_get log.items i ≡ Some bytes → EntryOf spelling list (log.start + i) bytes
entry_of spelling list log i bytes run is =
    let at : option_map spelling (slice_get list (log.start + i)) ≡ Some bytes =
    sym (slice_get-map spelling list (log.start + i)) ∙ sym (get_behind (map spelling list) log.start i) ∙ ap (λ (l : List (List ℕ)). slice_get l i) (sym run.items) ∙ is in
    let entry = mapped_some spelling (slice_get list (log.start + i)) bytes at in
    record { digest = entry.0; here = entry.1; spelled = entry.2 }
