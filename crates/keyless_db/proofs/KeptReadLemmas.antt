-- Reads at several locations of what a chain keeps.
use Rattle.std.proofs.Common.{◌≡◌, ℕ, ◌+◌, ◌-◌, ◌<◌, ◌≤◌, Bool, true, false, List, [], ◌∷◌, ◌++◌, length, Some, None, Option, refl, sym, ◌∙◌, ap, subst, arith}
use Rattle.std.specs.Prelude.{IsSome, slice_get, nat_lt}
use Rattle.std.proofs.lemmas.List.{length-append}
use Rattle.std.proofs.lemmas.Option.{same_Some, slice_get_within}
use Rattle.merkle_full.proofs.ListLemmas.{there_is}
use Rattle.log_model.specs.Meaning.{Meaning}
use Rattle.chain_core.specs.declared.error.Error.{Error}
use Rattle.keyless_db.specs.Reading.{AreKeptValues, IsFirstFault}
use Rattle.keyless_db.proofs.KeptLemmas.{get_earlier, get_later}
use Rattle.keyless_db.proofs.LocationLemmas.{lt_holds, lt_fails}

pub some_of : {A : Type 0} (o : Option A) → IsSome o → (x : A) × (o ≡ Some x)
some_of None is = absurd cc
some_of (Some x) is = (x, refl)

module _ {Op V : Type 0} (m : Meaning Op V) (kept : ℕ → Option Op) (locs : List ℕ) where
  -- So it is of the first so many.
  pub record KeptSoFar (i : ℕ) (values : List (Option V)) : Type 0 where
    pub count : length values ≡ i
    pub valued : (k l : ℕ) (op : Op) → k < i → slice_get locs k ≡ Some l → kept l ≡ Some op → slice_get values k ≡ Some (m.value op)

  pub kept_none : (values : List (Option V)) → values ≡ [] → KeptSoFar 0 values
  kept_none values is = record { count = ap length is; valued = λ k l op lt at there. absurd (omega (arith, lt)) }

  pub kept_more : (i l : ℕ) (values more : List (Option V)) (v : Option V) → slice_get locs i ≡ Some l → KeptSoFar i values → ((op : Op) → kept l ≡ Some op → m.value op ≡ v) → more ≡ values ++ (v ∷ [])
      → KeptSoFar (i + 1) more
  kept_more i l values more v here so read pushed = record { count = omega (arith, ap length pushed, length-append values (v ∷ []), so.count); valued = λ k j op lt at there. by k j op lt at there (nat_lt k i) refl }
    where
      by : (k j : ℕ) (op : Op) → k < i + 1 → slice_get locs k ≡ Some j → kept j ≡ Some op → (b : Bool) → nat_lt k i ≡ b → slice_get more k ≡ Some (m.value op)
      by k j op lt at there true is =
          ap (λ (xs : List (Option V)). slice_get xs k) pushed ∙ get_earlier values (v ∷ []) k (m.value op) (so.valued k j op (lt_holds k i is) at there)
      by k j op lt at there false is =
          let high = lt_fails k i is in
          let same : k ≡ i = omega (arith, high, lt) in
          let one : j ≡ l = same_Some j l (sym at ∙ ap (slice_get locs) same ∙ here) in
          let first : k - length values ≡ 0 = omega (arith, same, so.count) in
          ap (λ (xs : List (Option V)). slice_get xs k) pushed ∙ get_later values (v ∷ []) k v (omega (arith, same, so.count)) (ap (slice_get (v ∷ [])) first)
          ∙ ap Some (sym (read op (ap kept (sym one) ∙ there)))

  pub kept_all : (i : ℕ) (values : List (Option V)) → length locs ≤ i → KeptSoFar i values → AreKeptValues m kept locs values
  kept_all i values end so k l op at there = let within = slice_get_within locs k l at in so.valued k l op (omega (arith, within, end)) at there

module _ {V : Type 0} (P : ℕ → Option V → Type 0) (locs : List ℕ) where
  -- Of each of the first so many values this holds, at its location.
  pub record EachSoFar (i : ℕ) (values : List (Option V)) : Type 0 where
    pub count : length values ≡ i
    pub each : (k l : ℕ) (v : Option V) → k < i → slice_get locs k ≡ Some l → slice_get values k ≡ Some v → P l v

  pub each_none : (values : List (Option V)) → values ≡ [] → EachSoFar 0 values
  each_none values is = record { count = ap length is; each = λ k l v lt at there. absurd (omega (arith, lt)) }

  pub each_more : (i l : ℕ) (values more : List (Option V)) (v : Option V) → slice_get locs i ≡ Some l → EachSoFar i values → P l v → more ≡ values ++ (v ∷ []) → EachSoFar (i + 1) more
  each_more i l values more v here so holds pushed = record {
    count = omega (arith, ap length pushed, length-append values (v ∷ []), so.count);
    each = λ k j w lt at there. by k j w lt at there (nat_lt k i) refl;
  }
    where
      by : (k j : ℕ) (w : Option V) → k < i + 1 → slice_get locs k ≡ Some j → slice_get more k ≡ Some w → (b : Bool) → nat_lt k i ≡ b → P j w
      by k j w lt at there true is =
          let low = lt_holds k i is in
          let entry = there_is values k (omega (arith, low, so.count)) in
          let kept = get_earlier values (v ∷ []) k entry.0 entry.1 in
          let same : entry.0 ≡ w = same_Some entry.0 w (sym kept ∙ sym (ap (λ (xs : List (Option V)). slice_get xs k) pushed) ∙ there) in
          so.each k j w low at (entry.1 ∙ ap Some same)
      by k j w lt at there false is =
          let high = lt_fails k i is in
          let same : k ≡ i = omega (arith, high, lt) in
          let one : j ≡ l = same_Some j l (sym at ∙ ap (slice_get locs) same ∙ here) in
          let first : k - length values ≡ 0 = omega (arith, same, so.count) in
          let last = get_later values (v ∷ []) k v (omega (arith, same, so.count)) (ap (slice_get (v ∷ [])) first) in
          let value : v ≡ w = same_Some v w (sym last ∙ sym (ap (λ (xs : List (Option V)). slice_get xs k) pushed) ∙ there) in
          subst (λ n. P n w) (sym one) (subst (λ x. P l x) value holds)

  -- the next one is the first that fails
  pub each_first : {F : Type 0} (well : ℕ → Type 0) (fault : ℕ → Error F → Type 0) (i l : ℕ) (values : List (Option V)) (e : Error F) → ((n : ℕ) (v : Option V) → P n v → well n) → slice_get locs i ≡ Some l → EachSoFar i values
      → fault l e → IsFirstFault well fault locs e
  each_first well fault i l values e gives here so fails = record {
    place = i;
    location = l;
    here = here;
    earlier = λ k j lt at.
        let entry = there_is values k (omega (arith, lt, so.count)) in
        gives j entry.0 (so.each k j entry.0 lt at entry.1);
    fails = fails;
  }

  pub each_all : (i : ℕ) (values : List (Option V)) → length locs ≤ i → EachSoFar i values → (k l : ℕ) (v : Option V) → slice_get locs k ≡ Some l → slice_get values k ≡ Some v → P l v
  each_all i values end so k l v at there = let within = slice_get_within locs k l at in so.each k l v (omega (arith, within, end)) at there
