-- Which of the applied sizes an opening of a log of witnesses finds.
use Rattle.std.proofs.Common.{◌≡◌, ◌⊎◌, inl, inr, ℕ, zero, suc, ◌+◌, ◌<◌, ◌≤◌, Bool, true, false, cond, ◌&&◌, List, [], ◌∷◌, length, take, drop, Some, refl, sym, ap, subst, arith}
use Rattle.std.specs.Prelude.{slice_get, nat_le}
use Rattle.std.specs.List.{AllByRecursion}
use Rattle.volume_base.specs.Log.{Log}
use Rattle.log_model.specs.AppliedSizes.{RiseTo, sizes_to, first_at_least}
use Rattle.log_model.specs.Good.{AreCommits}
use Rattle.log_model.specs.Opening.{has, last_kept}
use Rattle.log_model.proofs.SizeLemmas.{either, le_is, not_le, rise_le}
use Rattle.witness_store.specs.Witnesses.{Rises}
use Rattle.compact_db.specs.Held.{IsSizeOf}
use Rattle.list_machine.proofs.LogPlaces.{both_so}
use Rattle.list_machine.specs.Operation.{Operation, meaning}

-- ---- sizes that rise

-- a size is above where they begin, by its place
pub rise_get : (low high j n : ℕ) (ns : List ℕ) → RiseTo low high ns → slice_get ns j ≡ Some n → low + j < n
rise_get low high j n [] r at = absurd cc
rise_get low high zero n (k ∷ ns) r at = let e : k ≡ n = cc in let lt = r.0 in omega (arith, e, lt)
rise_get low high (suc j) n (k ∷ ns) r at = let more = rise_get k high j n ns r.1 at in let lt = r.0 in omega (arith, more, lt)

pub rise_high : (low high j n : ℕ) (ns : List ℕ) → RiseTo low high ns → slice_get ns j ≡ Some n → n ≤ high
rise_high low high j n [] r at = absurd cc
rise_high low high zero n (k ∷ ns) r at = let e : k ≡ n = cc in let le = rise_le k high ns r.1 in omega (arith, e, le)
rise_high low high (suc j) n (k ∷ ns) r at = rise_high k high j n ns r.1 at

pub rises_of : (low high : ℕ) (ns : List ℕ) → RiseTo low high ns → Rises ns
rises_of low high [] r = tt
rises_of low high (n ∷ []) r = tt
rises_of low high (n ∷ k ∷ ns) r = (r.1.0, rises_of n high (k ∷ ns) r.1)

rises_rest : (n : ℕ) (ns : List ℕ) → Rises (n ∷ ns) → Rises ns
rises_rest n [] r = tt
rises_rest n (k ∷ ns) r = r.1

pub rises_behind : (k : ℕ) (ns : List ℕ) → Rises ns → Rises (drop k ns)
rises_behind zero ns r = r
rises_behind (suc k) [] r = tt
rises_behind (suc k) (n ∷ ns) r = rises_behind k ns (rises_rest n ns r)

pub rises_before : (k : ℕ) (ns : List ℕ) → Rises ns → Rises (take k ns)
rises_before zero ns r = tt
rises_before (suc k) [] r = tt
rises_before (suc k) (n ∷ []) r = subst Rises (one k) tt
  where
    one : (k : ℕ) → n ∷ [] ≡ n ∷ take k []
    one zero = refl
    one (suc k) = refl
rises_before (suc zero) (n ∷ k ∷ ns) r = tt
rises_before (suc (suc j)) (n ∷ k ∷ ns) r = (r.0, rises_before (suc j) (k ∷ ns) r.1)

-- the place of a size is that of the first that is at least it
pub first_here : (low high d k : ℕ) (ns : List ℕ) → RiseTo low high ns → slice_get ns k ≡ Some d → first_at_least d ns ≡ k
first_here low high d k [] r at = absurd cc
first_here low high d zero (n ∷ ns) r at =
    let e : n ≡ d = cc in
    either (λ (i : ℕ). i ≡ 0) (nat_le d n) _ _ (λ t. refl) (λ t. absurd (let gt = not_le d n t in omega (arith, e, gt)))
first_here low high d (suc k) (n ∷ ns) r at =
    let above = rise_get n high k d ns r.1 at in
    either (λ (i : ℕ). i ≡ suc k) (nat_le d n) _ _ (λ t. absurd (let le = le_is d n t in omega (arith, le, above))) (λ t. ap suc (first_here n high d k ns r.1 at))

-- those up to one of them are the first of them
none_past : (k high : ℕ) (ns : List ℕ) → RiseTo k high ns → sizes_to k ns ≡ []
none_past k high [] r = refl
none_past k high (n ∷ ns) r = either (λ (xs : List ℕ). xs ≡ []) (nat_le n k) _ _ (λ t. absurd (let le = le_is n k t in let lt = r.0 in omega (arith, le, lt))) (λ t. refl)

pub sizes_upto : (low high j n : ℕ) (ns : List ℕ) → RiseTo low high ns → slice_get ns j ≡ Some n → take (suc j) ns ≡ sizes_to n ns
sizes_upto low high j n [] r at = absurd cc
sizes_upto low high zero n (k ∷ ns) r at =
    let e : k ≡ n = cc in
    let none : sizes_to n ns ≡ [] = subst (λ (x : ℕ). sizes_to x ns ≡ []) e (none_past k high ns r.1) in
    either (λ (xs : List ℕ). k ∷ [] ≡ xs) (nat_le k n) _ _ (λ t. ap (λ (xs : List ℕ). k ∷ xs) (sym none)) (λ t. absurd (let gt = not_le k n t in omega (arith, e, gt)))
sizes_upto low high (suc j) n (k ∷ ns) r at =
    let above = rise_get k high j n ns r.1 at in
    either (λ (xs : List ℕ). k ∷ take (suc j) ns ≡ xs) (nat_le k n) _ _ (λ t. ap (λ (xs : List ℕ). k ∷ xs) (sizes_upto k high j n ns r.1 at))
    (λ t. absurd (let gt = not_le k n t in omega (arith, gt, above)))

-- each is a size of the list
pub each_size : (ops : List Operation) (low : ℕ) (ns : List ℕ) → RiseTo low (length ops) ns → AreCommits meaning ops ns → AllByRecursion (IsSizeOf meaning ops) ns
each_size ops low [] r c = tt
each_size ops low (n ∷ ns) r c = ((rise_le n (length ops) ns r.1, c.0), each_size ops n ns r.1 c.1)

-- ---- the last that is kept within a cap

not_both : (x y : Bool) → (x && y) ≡ false → y ≡ true → x ≡ false
not_both true true e t = absurd cc
not_both true false e t = absurd cc
not_both false y e t = refl

module _ (most : ℕ) (log : Log) where
  -- It stands at this place, counted from i; the log has it, and none behind it is within the cap.
  pub record IsLastAt (i : ℕ) (ns : List ℕ) (n j : ℕ) : Type 0 where
    pub here : slice_get ns j ≡ Some n
    pub kept : has log (i + j) ≡ true
    pub within : n ≤ most
    pub above : (k x : ℕ) → j < k → slice_get ns k ≡ Some x → has log (i + k) ≡ true → most < x

  -- None that the log has is within the cap.
  abbrev pub NoneKept : ℕ → List ℕ → Type 0
  NoneKept i ns = (k x : ℕ) → slice_get ns k ≡ Some x → has log (i + k) ≡ true → most < x

  -- What is found is such a size; or none is, and it is what was there before.
  abbrev pub IsFound : ℕ → ℕ → List ℕ → ℕ → Type 0
  IsFound before i ns n = ((j : ℕ) × IsLastAt i ns n j) ⊎ ((n ≡ before) × NoneKept i ns)

  next_place : (i k : ℕ) → has log (i + suc k) ≡ true → has log (i + 1 + k) ≡ true
  next_place i k e = let same : i + suc k ≡ i + 1 + k = omega arith in subst (λ (p : ℕ). has log p ≡ true) same e

  last_place : (i k : ℕ) → has log (i + 1 + k) ≡ true → has log (i + suc k) ≡ true
  last_place i k e = let same : i + 1 + k ≡ i + suc k = omega arith in subst (λ (p : ℕ). has log p ≡ true) same e

  first_place : (i : ℕ) → i + 0 ≡ i
  first_place i = omega arith

  none_behind : (i m : ℕ) (ns : List ℕ) → NoneKept (i + 1) ns → (k x : ℕ) → 0 < k → slice_get (m ∷ ns) k ≡ Some x → has log (i + k) ≡ true → most < x
  none_behind i m ns none zero x lt at e = absurd (omega (arith, lt))
  none_behind i m ns none (suc k) x lt at e = none k x at (next_place i k e)

  later : (i m n j : ℕ) (ns : List ℕ) → IsLastAt (i + 1) ns n j → IsLastAt i (m ∷ ns) n (suc j)
  later i m n j ns is = record { here = is.here; kept = last_place i j is.kept; within = is.within; above = above }
    where
      above : (k x : ℕ) → suc j < k → slice_get (m ∷ ns) k ≡ Some x → has log (i + k) ≡ true → most < x
      above zero x lt at e = absurd (omega (arith, lt))
      above (suc k) x lt at e = is.above k x (omega (arith, lt)) at (next_place i k e)

  pub found_last : (before i : ℕ) (ns : List ℕ) → IsFound before i ns (last_kept most log before i ns)
  found_last before i [] = inr (refl, λ k x at e. absurd cc)
  found_last before i (m ∷ ns) = pick (nat_le m most && has log i) refl (found_last m (i + 1) ns) (found_last before (i + 1) ns)
    where
      at_first : (n : ℕ) → n ≡ m → nat_le m most ≡ true → has log i ≡ true → NoneKept (i + 1) ns → IsLastAt i (m ∷ ns) n 0
      at_first n same low here none = record {
        here = ap Some (sym same);
        kept = subst (λ (p : ℕ). has log p ≡ true) (sym (first_place i)) here;
        within = (let le = le_is m most low in omega (arith, le, same));
        above = none_behind i m ns none;
      }

      pick : (b : Bool) → (nat_le m most && has log i) ≡ b → IsFound m (i + 1) ns (last_kept most log m (i + 1) ns)
          → IsFound before (i + 1) ns (last_kept most log before (i + 1) ns) → IsFound before i (m ∷ ns) (last_kept most log (cond b m before) (i + 1) ns)
      pick true e (inl (j, is)) other = inl (suc j, later i m _ j ns is)
      pick true e (inr (same, none)) other = inl (0, at_first _ same (both_so (nat_le m most) (has log i) e).0 (both_so (nat_le m most) (has log i) e).1 none)
      pick false e one (inl (j, is)) = inl (suc j, later i m _ j ns is)
      pick false e one (inr (same, none)) = inr (same, all)
        where
          all : NoneKept i (m ∷ ns)
          all zero x at here =
              let is : m ≡ x = cc in
              let first = subst (λ (p : ℕ). has log p ≡ true) (first_place i) here in
              let gt = not_le m most (not_both (nat_le m most) (has log i) e first) in
              omega (arith, is, gt)
          all (suc k) x at here = none k x at (next_place i k here)
