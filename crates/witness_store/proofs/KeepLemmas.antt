-- A log that keeps the witnesses of a list, from call to call.
use Rattle.std.proofs.Common.{◌≡◌, ℕ, zero, suc, ◌+◌, ◌-◌, ◌<◌, ◌≤◌, max, List, [], ◌∷◌, ◌++◌, length, map, take, drop, Option, Some, None, refl, sym, ◌∙◌, ap, subst, arith}
use Rattle.std.specs.Prelude.{slice_get, IfSome}
use Rattle.std.specs.List.{AllByRecursion}
use Rattle.std.specs.Option.{option_map}
use Rattle.std.proofs.lemmas.Option.{slice_get-map}
use Rattle.std.proofs.lemmas.List.{length-map, length-drop, map-append, take-map, drop-map, drop-append-le, drop-drop, drop-take, drop_all}
use Rattle.journal_base.specs.Items.{Items}
use Rattle.journal_base.proofs.ItemLemmas.{spells_appended, spells_pruned, spells_cut}
use Rattle.volume_base.specs.Log.{Log, cleared_at, appended, cut_to, pruned_to}
use Rattle.witness_store.specs.declared.witness.Witness.{Witness}
use Rattle.witness_store.specs.Witnesses.{Rises, sizes_of, Keeps, LastIsBelow}
use Rattle.witness_store.proofs.PlaceLemmas.{rises_tail, get_drop}

-- ---- parts of lists

module _ {A : Type 0} (P : A → Type 0) where
  all_more : (xs : List A) (x : A) → AllByRecursion P xs → P x → AllByRecursion P (xs ++ x ∷ [])
  all_more [] x all here = (here, tt)
  all_more (y ∷ ys) x all here = (all.0, all_more ys x all.1 here)

  all_behind : (n : ℕ) (xs : List A) → AllByRecursion P xs → AllByRecursion P (drop n xs)
  all_behind zero xs all = all
  all_behind (suc n) [] all = tt
  all_behind (suc n) (x ∷ xs) all = all_behind n xs all.1

  all_before : (n : ℕ) (xs : List A) → AllByRecursion P xs → AllByRecursion P (take n xs)
  all_before zero xs all = tt
  all_before (suc n) [] all = tt
  all_before (suc n) (x ∷ xs) all = (all.0, all_before n xs all.1)

rises_more : (ns : List ℕ) (n : ℕ) → Rises ns → ((i m : ℕ) → suc i ≡ length ns → slice_get ns i ≡ Some m → m < n) → Rises (ns ++ n ∷ [])
rises_more [] n rises last = tt
rises_more (m ∷ []) n rises last = (last 0 m refl refl, tt)
rises_more (m ∷ k ∷ ks) n rises last = (rises.0, rises_more (k ∷ ks) n rises.1 (λ i x end is. last (suc i) x (ap suc end) is))

rises_behind : (n : ℕ) (ns : List ℕ) → Rises ns → Rises (drop n ns)
rises_behind zero ns rises = rises
rises_behind (suc n) [] rises = tt
rises_behind (suc n) (m ∷ ms) rises = rises_behind n ms (rises_tail m ms rises)

rises_before : (n : ℕ) (ns : List ℕ) → Rises ns → Rises (take n ns)
rises_before zero ns rises = tt
rises_before (suc n) [] rises = tt
rises_before (suc zero) (m ∷ ms) rises = tt
rises_before (suc (suc n)) (m ∷ []) rises = tt
rises_before (suc (suc n)) (m ∷ k ∷ ks) rises = (rises.0, rises_before (suc n) (k ∷ ks) rises.1)

-- ---- calls

less_than : {F D : Type 0} (n m : ℕ) (o : Option (Witness F D)) → IfSome o (λ v. v.size < n) → option_map (λ (v : Witness F D). v.size) o ≡ Some m → m < n
less_than n m None less is = absurd cc
less_than n m (Some v) less is = let e : v.size ≡ m = cc in omega (arith, e, less)

module _ {F D : Type 0} (spelling : Witness F D → List ℕ) (admits : Witness F D → Type 0) where
  abbrev pub kept_in : Log → Items (Witness F D)
  kept_in log = record { log = log; spelling = spelling; admits = admits }

  module _ (ws : List (Witness F D)) (old : Log) (keeps : Keeps (kept_in old) ws) where
    low : old.start ≤ length ws
    low = omega (arith, keeps.spelled.within, length-map ws spelling)

    -- one more, of more operations
    pub keeps_more : (w : Witness F D) → admits w → LastIsBelow ws old.start w.size → Keeps (kept_in (appended old (spelling w ∷ []))) (ws ++ w ∷ [])
    keeps_more w ok more =
        let split : drop old.start (ws ++ w ∷ []) ≡ drop old.start ws ++ w ∷ [] = drop-append-le old.start ws (w ∷ []) low in
        let sizes : sizes_of (drop old.start ws ++ w ∷ []) ≡ sizes_of (drop old.start ws) ++ w.size ∷ [] = map-append (λ (v : Witness F D). v.size) (drop old.start ws) (w ∷ []) in
        record {
          spelled = spells_appended spelling ws (w ∷ []) old keeps.spelled;
          allowed = subst (AllByRecursion admits) (sym split) (all_more admits (drop old.start ws) w keeps.allowed ok);
          rising = subst (λ (l : List (Witness F D)). Rises (sizes_of l)) (sym split) (subst Rises (sym sizes) (rises_more (sizes_of (drop old.start ws)) w.size keeps.rising last));
        }
      where
        last : (i m : ℕ) → suc i ≡ length (sizes_of (drop old.start ws)) → slice_get (sizes_of (drop old.start ws)) i ≡ Some m → m < w.size
        last i m end is =
            let count : length (sizes_of (drop old.start ws)) ≡ length ws - old.start = length-map (drop old.start ws) (λ (v : Witness F D). v.size) ∙ length-drop old.start ws in
            let place : old.start + i ≡ length ws - 1 = omega (arith, end, count) in
            let there : slice_get (drop old.start ws) i ≡ slice_get ws (length ws - 1) = get_drop ws old.start i ∙ ap (slice_get ws) place in
            less_than w.size m (slice_get ws (length ws - 1)) (more (omega (arith, end, count)))
            (sym (slice_get-map (λ (v : Witness F D). v.size) (drop old.start ws) i ∙ ap (option_map (λ (v : Witness F D). v.size)) there) ∙ is)

    pub keeps_pruned : (to : ℕ) → to ≤ length ws → Keeps (kept_in (pruned_to old to)) ws
    keeps_pruned to le =
        let behind : drop (to - old.start) (drop old.start ws) ≡ drop (max old.start to) ws = drop-drop (to - old.start) old.start ws ∙ ap (λ (n : ℕ). drop n ws) (omega arith) in
        record {
          spelled = spells_pruned spelling ws old to le keeps.spelled;
          allowed = subst (AllByRecursion admits) behind (all_behind admits (to - old.start) (drop old.start ws) keeps.allowed);
          rising = subst (λ (l : List (Witness F D)). Rises (sizes_of l)) behind (subst Rises (drop-map (λ (v : Witness F D). v.size) (to - old.start) (drop old.start ws)) (rises_behind (to - old.start) (sizes_of (drop old.start ws)) keeps.rising));
        }

    pub keeps_cut : (end : ℕ) → old.start ≤ end → Keeps (kept_in (cut_to old end)) (take end ws)
    keeps_cut end le =
        let whole : old.start + (end - old.start) ≡ end = omega (arith, le) in
        let front : take (end - old.start) (drop old.start ws) ≡ drop old.start (take end ws) = sym (drop-take old.start (end - old.start) ws) ∙ ap (λ (n : ℕ). drop old.start (take n ws)) whole in
        record {
          spelled = spells_cut spelling ws old end le keeps.spelled;
          allowed = subst (AllByRecursion admits) front (all_before admits (end - old.start) (drop old.start ws) keeps.allowed);
          rising = subst (λ (l : List (Witness F D)). Rises (sizes_of l)) front (subst Rises (take-map (λ (v : Witness F D). v.size) (end - old.start) (drop old.start ws)) (rises_before (end - old.start) (sizes_of (drop old.start ws)) keeps.rising));
        }

  -- an empty log behind any witnesses
  pub keeps_cleared : (ws : List (Witness F D)) (place : ℕ) → length ws ≡ place → Keeps (kept_in (cleared_at place)) ws
  keeps_cleared ws place is =
      let none : drop place ws ≡ [] = drop_all place ws (omega (arith, is)) in
      record {
        spelled = record { items = sym (drop_all place (map spelling ws) (omega (arith, is, length-map ws spelling))); within = omega (arith, is, length-map ws spelling) };
        allowed = subst (AllByRecursion admits) (sym none) tt;
        rising = subst (λ (l : List (Witness F D)). Rises (sizes_of l)) (sym none) tt;
      }
