use Rattle.std.proofs.Common.{◌≡◌, ◌^◌, ℕ, zero, suc, ◌+◌, ◌-◌, ◌<◌, ◌/◌, List, [], ◌∷◌, length, Some, None, refl, sym, ◌∙◌, ap, arith}
use Rattle.std.specs.Prelude.{slice_get}
use Rattle.std.proofs.lemmas.Option.{get_or_from_slice_get}
use Rattle.tree_shape.specs.Mmb.{mmb_heights}
use Rattle.tree_shape.proofs.MmrBits.{raised}
use Rattle.tree_shape.proofs.Merge.{raised-zero, raised-even, raised-odd, raised-none, halved_small}
use Rattle.tree_shape.proofs.mmb.MmbFamily.peak_height.Goals as goal
use Rattle.tree_shape.proofs.mmb.MmbFamily.peak_height.Goals.{then-rest-eq1+else-left-eq0, else-rest-eq1+then-rest-gt0+else-left-eq0-2, else-rest-eq1+else-rest-gt0}

first : (k : ℕ) (ks : List ℕ) (i : ℕ) → i ≡ 0 → slice_get (k ∷ ks) i ≡ Some k
first k ks i z = rw z refl

next : (k : ℕ) (ks : List ℕ) (i : ℕ) → (i ≡ 0 → ⊥) → slice_get ks (i - 1) ≡ slice_get (k ∷ ks) i
next k ks zero nz = absurd (nz refl)
next k ks (suc i) nz = let e : suc i - 1 ≡ i = omega arith in rw e refl

within : (ks : List ℕ) (i : ℕ) → i < length ks → None ≡ slice_get ks i → ⊥
within [] i lt e = omega (arith, lt)
within (k ∷ ks) zero lt e = cc
within (k ∷ ks) (suc i) lt e = within ks i (omega arith) e

none_of : (h m : ℕ) → m ≡ 0 → raised h (mmb_heights m) ≡ []
none_of h m z = ap (λ k. raised h (mmb_heights k)) z ∙ raised-none h

pub loop-height-init : goal.loop-height-init
loop-height-init c = record { told = rw (raised-zero (mmb_heights c.args.n)) refl; small = omega arith }

pub returns : goal.returns
returns c =
    let at_end : 63 - c.loop-height.height ≡ 0 = omega arith in
    let small : c.loop-height.rest < 2 ^ 0 = rw at_end at c.loop-height.invariant.small in
    absurd (within (mmb_heights c.args.n) c.args.i c.requires.within (ap (λ ks. slice_get ks c.loop-height.left) (sym (none_of c.loop-height.height c.loop-height.rest (omega arith))) ∙ c.loop-height.invariant.told))

pub returns-then-left-eq0 : goal.returns-then-left-eq0
returns-then-left-eq0 c =
    let e = ap (λ ks. slice_get ks c.loop-height.left) (raised-odd c.loop-height.height c.loop-height.rest c.if-rest-eq1.true) in
    let one = first c.loop-height.height (raised (c.loop-height.height + 1) (mmb_heights ((c.loop-height.rest - 1) / 2))) c.loop-height.left c.if-left-eq0.true in
    sym (get_or_from_slice_get (mmb_heights c.args.n) c.args.i c.loop-height.height 0 (sym c.loop-height.invariant.told ∙ e ∙ one))

pub returns-then-left-eq0-2 : goal.returns-then-left-eq0-2
returns-then-left-eq0-2 c =
    let e = ap (λ ks. slice_get ks c.loop-height.left) (raised-even c.loop-height.height c.loop-height.rest (omega (arith, c.if-rest-eq1.false)) c.if-rest-gt0.true) in
    let one = first (c.loop-height.height + 1) (raised (c.loop-height.height + 1) (mmb_heights ((c.loop-height.rest - 2) / 2))) c.loop-height.left c.if-left-eq0-2.true in
    sym (get_or_from_slice_get (mmb_heights c.args.n) c.args.i (c.loop-height.height + 1) 0 (sym c.loop-height.invariant.told ∙ e ∙ one))

pub loop-height-preserved : goal.loop-height-preserved
loop-height-preserved c = elim c.if-rest-eq1.branch [
  | then-rest-eq1+else-left-eq0 w ↦ record {
    told = rw (w.left-is, w.rest-is) (next c.loop-height.height (raised (c.loop-height.height + 1) (mmb_heights ((c.loop-height.rest - 1) / 2))) c.loop-height.left w.if-left-eq0.false
        ∙ ap (λ ks. slice_get ks c.loop-height.left) (sym (raised-odd c.loop-height.height c.loop-height.rest w.if-rest-eq1.true)) ∙ c.loop-height.invariant.told);
    small = rw w.rest-is (halved_small c.loop-height.height c.loop-height.rest _ c.loop-height-test.true c.loop-height.invariant.small (omega arith));
  }
  | else-rest-eq1+then-rest-gt0+else-left-eq0-2 w ↦ record {
    told = rw (w.left-is, w.rest-is) (next (c.loop-height.height + 1) (raised (c.loop-height.height + 1) (mmb_heights ((c.loop-height.rest - 2) / 2))) c.loop-height.left w.if-left-eq0-2.false
        ∙ ap (λ ks. slice_get ks c.loop-height.left) (sym (raised-even c.loop-height.height c.loop-height.rest (omega (arith, w.if-rest-eq1.false)) w.if-rest-gt0.true)) ∙ c.loop-height.invariant.told);
    small = rw w.rest-is (halved_small c.loop-height.height c.loop-height.rest _ c.loop-height-test.true c.loop-height.invariant.small (omega arith));
  }
  | else-rest-eq1+else-rest-gt0 w ↦
      let zero_left : c.loop-height.rest ≡ 0 = omega (arith, w.if-rest-gt0.false) in
      record {
        told = rw (w.left-is, w.rest-is) (ap (λ ks. slice_get ks c.loop-height.left) (none_of (c.loop-height.height + 1) c.loop-height.rest zero_left ∙ sym (none_of c.loop-height.height c.loop-height.rest zero_left)) ∙ c.loop-height.invariant.told);
        small = rw w.rest-is (halved_small c.loop-height.height c.loop-height.rest _ c.loop-height-test.true c.loop-height.invariant.small (omega (arith, zero_left)));
      }
]
