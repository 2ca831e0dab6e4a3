-- The peaks that end at or below a floor stand before the others.
use Rattle.std.proofs.Common.{ℕ, ◌+◌, ◌-◌, ◌^◌, ◌<◌, ◌≤◌, inl, inr, List, [], ◌∷◌, ◌++◌, ◌≡◌, length, take, drop, reverse, sym, ◌∙◌, subst, arith}
use Rattle.std.specs.Prelude.{All, count_by}
use Rattle.std.proofs.lemmas.Bool.{cases_lt}
use Rattle.std.proofs.lemmas.List.{reverse-append, length-reverse, take_all, drop_all, take-append-le, drop-append-le}
use Rattle.std.proofs.lemmas.List.Elements.{All-nil, All-cons, All-append}
use Rattle.std.proofs.lemmas.List.Sums.{count_by-le-length}
use Rattle.tree_shape.specs.Shape.{Shape, made, PeaksStand, IsLawful, peaks_down, ends_by, inactive}
use Rattle.tree_shape.proofs.NodeLemmas.{past_count, all_count}
use Rattle.tree_shape.proofs.PinLemmas.{length-peaks_down}

abbrev pub Within : ℕ → ℕ × ℕ → Type 0
Within f p = p.0 + 2 ^ p.1 ≤ f

abbrev pub Past : ℕ → ℕ × ℕ → Type 0
Past f p = f < p.0 + 2 ^ p.1

-- the peaks from the newest down, the oldest first
abbrev pub rising : ℕ → List ℕ → List (ℕ × ℕ)
rising e hs = reverse (peaks_down e hs)

-- the first so many end at or below f, and the others past it
pub record Leads (f count : ℕ) (ps : List (ℕ × ℕ)) : Type 0 where
  pub leading : All (Within f) (take count ps)
  pub others : All (Past f) (drop count ps)

newest_last : (P : ℕ × ℕ → Type 0) (p : ℕ × ℕ) (ps : List (ℕ × ℕ)) → P p → All P ps → All P (ps ++ (p ∷ []))
newest_last P p ps this all = All-append P ps (p ∷ []) all (All-cons P p [] this (All-nil P))

all_within : (s : Shape) (cs : List (ℕ × ℕ)) (f e : ℕ) (hs : List ℕ) → e ≤ f → PeaksStand s cs e hs → All (Within f) (rising e hs)
all_within s cs f e [] le p = All-nil (Within f)
all_within s cs f e (k ∷ ks) le p =
    subst (All (Within f)) (sym (reverse-append ((e - 2 ^ k, k) ∷ []) (peaks_down (e - 2 ^ k) ks)))
    (newest_last (Within f) (e - 2 ^ k, k) (rising (e - 2 ^ k) ks) (omega (arith, p.0)) (all_within s cs f (e - 2 ^ k) ks (omega arith) p.2))

all_lead : (f : ℕ) (ps : List (ℕ × ℕ)) (count : ℕ) → length ps ≤ count → All (Within f) ps → Leads f count ps
all_lead f ps count le all = record {
  leading = subst (All (Within f)) (sym (take_all count ps le)) all;
  others = subst (All (Past f)) (sym (drop_all count ps le)) (All-nil (Past f));
}

one_behind : (f : ℕ) (ps : List (ℕ × ℕ)) (p : ℕ × ℕ) (count : ℕ) → count ≤ length ps → Past f p → Leads f count ps → Leads f count (ps ++ (p ∷ []))
one_behind f ps p count le past lead = record {
  leading = subst (All (Within f)) (sym (take-append-le count ps (p ∷ []) le)) lead.leading;
  others = subst (All (Past f)) (sym (drop-append-le count ps (p ∷ []) le)) (newest_last (Past f) p (drop count ps) past lead.others);
}

pub inactive_lead : (s : Shape) (cs : List (ℕ × ℕ)) (f e : ℕ) (hs : List ℕ) → PeaksStand s cs e hs → Leads f (count_by (ends_by f) (peaks_down e hs)) (rising e hs)
inactive_lead s cs f e [] p = all_lead f [] _ (omega arith) (All-nil (Within f))
inactive_lead s cs f e (k ∷ ks) p = elim (cases_lt f e) [
  | inl past ↦
      let rest = peaks_down (e - 2 ^ k) ks in
      let le : count_by (ends_by f) rest ≤ length (reverse rest) = let a = count_by-le-length (ends_by f) rest in let b = length-reverse rest in omega arith in
      let lead = one_behind f (reverse rest) (e - 2 ^ k, k) (count_by (ends_by f) rest) le (omega (arith, p.0)) (inactive_lead s cs f (e - 2 ^ k) ks p.2) in
      subst (λ c. Leads f c (rising e (k ∷ ks))) (sym (past_count f e 0 (k ∷ ks) (omega arith) p.0 past))
      (subst (Leads f (count_by (ends_by f) rest)) (sym (reverse-append ((e - 2 ^ k, k) ∷ []) rest)) lead)
  | inr le ↦
      let count = all_count s cs f e (k ∷ ks) le p in
      let all = length-reverse (peaks_down e (k ∷ ks)) ∙ length-peaks_down e (k ∷ ks) in
      all_lead f (rising e (k ∷ ks)) _ (omega (arith, count, all)) (all_within s cs f e (k ∷ ks) le p)
]

-- no more are inactive than there are peaks
pub inactive-within : (s : Shape) (n f : ℕ) → inactive s n f ≤ length (s.heights n)
inactive-within s n f =
    let few = count_by-le-length (ends_by f) (peaks_down n (s.heights n)) in
    let long = length-peaks_down n (s.heights n) in
    omega (arith, few, long)

-- all are, where the leaves are the floor
pub inactive-all : (s : Shape) → IsLawful s → (n : ℕ) → inactive s n n ≡ length (s.heights n)
inactive-all s w n = all_count s (made s n) n n (s.heights n) (omega arith) (w.peaks n)
