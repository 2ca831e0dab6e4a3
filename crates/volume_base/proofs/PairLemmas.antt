-- The entries of an ordered map as a finite map.
use Rattle.std.proofs.Common.{◌≡◌, ℕ, List, [], ◌∷◌, ◌++◌, length, refl, sym, ◌∙◌, ap, subst, T, Bool, true, false, cond, ◌&&◌, ◌↔◌, Option, Some, None, Ordering, Less, Equal, Greater, arith, Bor}
use Rattle.std.specs.Global.{Vec}
use Rattle.std.specs.Cmp.{tied_itself}
use Rattle.std.specs.Ordering.{nat_cmp, is_eq, is_lt, match_ordering}
use Rattle.std.specs.Cmp.Lexicographic.{slice_cmp, nat_list_cmp_total}
use Rattle.std.specs.List.Sorted.{IsStrictlySortedBy}
use Rattle.std.specs.List.{AllByRecursion}
use Rattle.std.specs.Map.{keys_of, lookup}
use Rattle.std.specs.Map.Iter.{TakesLast, deref_pair}
use Rattle.std.specs.BTreeMap.{insert_entry}
use Rattle.std.specs.FinMap.{find, put, is_sorted, same_map, get-from_entries, get-from_sorted, get-insert, entries-from_sorted, from_sorted, from_entries, slice_cmp-IsAntisymmetric, nat_cmp-IsAntisymmetric, IsAntisymmetric, entries, insert, empty, get, get-empty, FinMap}
use Rattle.std.specs.FinMap.Entries.{find-put, by_order, below_all}
use Rattle.volume_base.specs.Pairs.{Entry, pair_of, pairs_of}

abbrev pub Pair : Type 0
Pair = List ℕ × List ℕ

abbrev pub by_bytes : Vec ℕ → Vec ℕ → Ordering
by_bytes a b = slice_cmp nat_cmp a.items b.items

abbrev pub is_key : List ℕ → Vec ℕ → Bool
is_key q k = is_eq (slice_cmp nat_cmp q k.items)

find_entry : (es : List Entry) (q : List ℕ) → lookup (is_key q) es ≡ find (slice_cmp nat_cmp) q (pairs_of es)
find_entry [] q = refl
find_entry (e ∷ es) q = ap (cond (is_key q e.0) (Some e.1)) (find_entry es q)

put_entry : (es : List Entry) (k : Vec ℕ) (v : List ℕ) → pairs_of (insert_entry by_bytes es k v) ≡ put (slice_cmp nat_cmp) k.items v (pairs_of es)
put_entry [] k v = refl
put_entry (e ∷ es) k v =
    elim (by_bytes k e.0) as (λ o. pairs_of (match_ordering o ((k, v) ∷ e ∷ es) ((e.0, v) ∷ es) (e ∷ insert_entry by_bytes es k v)) ≡ by_order o ((k.items, v) ∷ pairs_of (e ∷ es)) ((e.0.items, v) ∷ pairs_of es) (pair_of e ∷ put (slice_cmp nat_cmp) k.items v (pairs_of es))) [
      | Less ↦ refl
      | Equal ↦ refl
      | Greater ↦ ap (pair_of e ∷◌) (put_entry es k v)
    ]

bytes_apart : IsAntisymmetric (slice_cmp nat_cmp)
bytes_apart = slice_cmp-IsAntisymmetric nat_cmp-IsAntisymmetric

-- the value that a look-up finds
pub get_entry : (es : List Entry) (q : List ℕ) → get {R = slice_cmp nat_cmp} (from_entries (pairs_of es)) q ≡ lookup (is_key q) es
get_entry es q = get-from_entries nat_list_cmp_total (pairs_of es) q ∙ sym (find_entry es q)

-- what an insertion makes of the map
pub insert_pair : (es : List Entry) (k : Vec ℕ) (v : List ℕ) → from_entries {R = slice_cmp nat_cmp} (pairs_of (insert_entry by_bytes es k v)) ≡ insert (from_entries (pairs_of es)) k.items v
insert_pair es k v = same_map nat_list_cmp_total bytes_apart _ _ (λ q.
    get-from_entries nat_list_cmp_total _ q
    ∙ ap (find (slice_cmp nat_cmp) q) (put_entry es k v)
    ∙ find-put (slice_cmp nat_cmp) nat_list_cmp_total q k.items v (pairs_of es)
    ∙ sym (get-insert nat_list_cmp_total (from_entries (pairs_of es)) k.items v q ∙ ap (cond (is_eq (slice_cmp nat_cmp q k.items)) (Some v)) (get-from_entries nat_list_cmp_total (pairs_of es) q)))

both : (a b : Bool) → T a → T b → T (a && b)
both true b p q = q
both false b p q = absurd p

below_keys : (k : Vec ℕ) (es : List Entry) → AllByRecursion (λ y. by_bytes k y ≡ Less) (keys_of es) → T (below_all (slice_cmp nat_cmp) k.items (pairs_of es))
below_keys k [] h = tt
below_keys k (e ∷ es) h = both _ _ (subst (λ o. T (is_lt o)) (sym h.0) tt) (below_keys k es h.1)

-- keys that ascend
sorted_pairs : (es : List Entry) → IsStrictlySortedBy by_bytes (keys_of es) → T (is_sorted (slice_cmp nat_cmp) (pairs_of es))
unfolding IsStrictlySortedBy
sorted_pairs [] h = tt
sorted_pairs (e ∷ es) h = both _ _ (below_keys e.0 es h.0) (sorted_pairs es h.1)

-- the entries of the map of pairs in order are these pairs
pub entries_in_order : (es : List Entry) → IsStrictlySortedBy by_bytes (keys_of es) → pairs_of es ≡ entries (from_entries {R = slice_cmp nat_cmp} (pairs_of es))
entries_in_order es ordered =
    let sorted = sorted_pairs es ordered in
    sym (entries-from_sorted (slice_cmp nat_cmp) (pairs_of es) sorted)
    ∙ ap entries (same_map nat_list_cmp_total bytes_apart (from_sorted (pairs_of es)) (from_entries (pairs_of es)) (λ q.
    get-from_sorted (slice_cmp nat_cmp) (pairs_of es) q sorted ∙ sym (get-from_entries nat_list_cmp_total (pairs_of es) q)))

first_found : (e : Entry) (es : List Entry) → get {R = slice_cmp nat_cmp} (from_entries (pairs_of (e ∷ es))) e.0.items ≡ Some e.1
first_found e es = get_entry (e ∷ es) e.0.items ∙ ap (λ o. cond (is_eq o) (Some e.1) (lookup (is_key e.0.items) es)) (tied_itself nat_list_cmp_total e.0.items)

-- the map is empty only where there are no entries
pub no_entries : (es : List Entry) → (length es ≡ 0) ↔ (from_entries {R = slice_cmp nat_cmp} (pairs_of es) ≡ empty)
no_entries [] = (λ _. refl, λ _. refl)
no_entries (e ∷ es) = (λ h. absurd (omega (arith, h)), λ h. let found = sym (first_found e es) ∙ ap (λ m. get m e.0.items) h ∙ get-empty (slice_cmp nat_cmp) e.0.items in absurd cc)

abbrev pub Map : Type 0
Map = FinMap (slice_cmp nat_cmp) (List ℕ)

-- a map with more pairs, put in from the last on
pub filled : List Pair → Map → Map
filled [] m = m
filled (pair ∷ pairs) m = insert (filled pairs m) pair.0 pair.1

pub filled_empty : (pairs : List Pair) → filled pairs empty ≡ from_entries pairs
unfolding filled
filled_empty [] = refl
filled_empty (pair ∷ pairs) = ap (λ m. insert m pair.0 pair.1) (filled_empty pairs)

pub filled_none : (m : Map) → filled [] m ≡ m
unfolding filled
filled_none m = refl

filled_last : (front : List Entry) (e : Entry) (m : Map) → filled (pairs_of (front ++ e ∷ [])) m ≡ filled (pairs_of front) (insert m e.0.items e.1)
unfolding filled
filled_last [] e m = refl
filled_last (x ∷ front) e m = ap (λ n. insert n x.0.items x.1) (filled_last front e m)

-- the last pair that was left is put in
pub filled_more : (left front : List Entry) (e : Entry) (values more : List Entry) (k : Vec ℕ) (v : List ℕ) (m : Map) → left ≡ front ++ e ∷ [] → k.items ≡ e.0.items → v ≡ e.1 → more ≡ insert_entry by_bytes values k v → filled (pairs_of left) (from_entries (pairs_of values)) ≡ m → filled (pairs_of front) (from_entries (pairs_of more)) ≡ m
filled_more left front e values more k v m last key value put all =
    ap (λ es. filled (pairs_of front) (from_entries (pairs_of es))) put
    ∙ ap (filled (pairs_of front)) (insert_pair values k v ∙ ap (λ q. insert (from_entries (pairs_of values)) q v) key ∙ ap (insert (from_entries (pairs_of values)) e.0.items) value)
    ∙ sym (filled_last front e (from_entries (pairs_of values)))
    ∙ ap (λ es. filled (pairs_of es) (from_entries (pairs_of values))) (sym last)
    ∙ all

-- what a call of `next_back` leaves
pub took_last : (s t : List Entry) (r : Option (Bor (Vec ℕ) × Bor (List ℕ))) (key : Bor (Vec ℕ)) (value : Bor (List ℕ)) → r ≡ Some (key, value) → TakesLast deref_pair s r t → s ≡ t ++ (key.now, value.now) ∷ []
took_last s t r key value is step = subst (λ o. TakesLast deref_pair s o t) is step

pub took_all : (s t : List Entry) (r : Option (Bor (Vec ℕ) × Bor (List ℕ))) → r ≡ None → TakesLast deref_pair s r t → s ≡ []
took_all s t r is step = (subst (λ o. TakesLast deref_pair s o t) is step).0
