use Rattle.std.proofs.Common.{◌≡◌, ℕ, zero, suc, ◌+◌, ◌-◌, ◌*◌, ◌/◌, ◌^◌, ◌<◌, List, [], ◌∷◌, length, Some, None, refl, sym, ◌∙◌, ap, arith}
use Rattle.std.specs.Prelude.{slice_get}
use Rattle.std.proofs.Math.Nat.{pow-suc}
use Rattle.std.proofs.lemmas.Option.{get_or_from_slice_get}
use Rattle.tree_shape.specs.Mmr.{mmr_heights}
use Rattle.tree_shape.proofs.MmrBits.{raised, raised-zero, raised-even, raised-odd, raised-none}
use Rattle.tree_shape.proofs.mmr.MmrFamily.peak_height.Goals as goal
use Rattle.tree_shape.proofs.mmr.MmrFamily.peak_height.Goals.{then-rest-eq1+else-left-eq0, else-rest-eq1}

halved : (h m : ℕ) → h < 63 → m < 2 ^ (63 - h) → m / 2 < 2 ^ (63 - (h + 1))
halved h m lt b =
    let e : 63 - h ≡ suc (63 - (h + 1)) = omega arith in
    let two : 2 ^ (63 - h) ≡ 2 ^ (63 - (h + 1)) * 2 = ap (λ k. 2 ^ k) e ∙ pow-suc 2 (63 - (h + 1)) in
    omega arith

first : (k : ℕ) (ks : List ℕ) (i : ℕ) → i ≡ 0 → slice_get (k ∷ ks) i ≡ Some k
first k ks i z = rw z refl

next : (k : ℕ) (ks : List ℕ) (i : ℕ) → (i ≡ 0 → ⊥) → slice_get ks (i - 1) ≡ slice_get (k ∷ ks) i
next k ks zero nz = absurd (nz refl)
next k ks (suc i) nz = let e : suc i - 1 ≡ i = omega arith in rw e refl

within : (ks : List ℕ) (i : ℕ) → i < length ks → None ≡ slice_get ks i → ⊥
within [] i lt e = omega (arith, lt)
within (k ∷ ks) zero lt e = cc
within (k ∷ ks) (suc i) lt e = within ks i (omega arith) e

pub loop-height-init : goal.loop-height-init
loop-height-init c = record { told = rw (raised-zero (mmr_heights c.args.n)) refl; small = omega arith }

pub returns-then-left-eq0 : goal.returns-then-left-eq0
returns-then-left-eq0 c =
    let e = ap (λ ks. slice_get ks c.loop-height.left) (raised-odd c.loop-height.height c.loop-height.rest c.if-rest-eq1.true) in
    let one = first c.loop-height.height (raised (c.loop-height.height + 1) (mmr_heights (c.loop-height.rest / 2))) c.loop-height.left c.if-left-eq0.true in
    sym (get_or_from_slice_get (mmr_heights c.args.n) c.args.i c.loop-height.height 0 (sym c.loop-height.invariant.told ∙ e ∙ one))

pub loop-height-preserved : goal.loop-height-preserved
loop-height-preserved c = record {
  told = elim c.if-rest-eq1.branch [
    | then-rest-eq1+else-left-eq0 w ↦
        rw w.left-is (next c.loop-height.height (raised (c.loop-height.height + 1) (mmr_heights (c.loop-height.rest / 2))) c.loop-height.left w.if-left-eq0.false
        ∙ ap (λ ks. slice_get ks c.loop-height.left) (sym (raised-odd c.loop-height.height c.loop-height.rest w.if-rest-eq1.true)) ∙ c.loop-height.invariant.told)
    | else-rest-eq1 w ↦
        rw w.left-is (ap (λ ks. slice_get ks c.loop-height.left) (sym (raised-even c.loop-height.height c.loop-height.rest (omega (arith, w.if-rest-eq1.false)))) ∙ c.loop-height.invariant.told)
  ];
  small = halved c.loop-height.height c.loop-height.rest c.loop-height-test.true c.loop-height.invariant.small;
}

pub returns : goal.returns
returns c =
    let at_end : 63 - c.loop-height.height ≡ 0 = omega arith in
    let small : c.loop-height.rest < 2 ^ 0 = rw at_end at c.loop-height.invariant.small in
    let zero_left : c.loop-height.rest ≡ 0 = omega arith in
    let e : raised c.loop-height.height (mmr_heights c.loop-height.rest) ≡ [] = ap (λ k. raised c.loop-height.height (mmr_heights k)) zero_left ∙ raised-none c.loop-height.height in
    absurd (within (mmr_heights c.args.n) c.args.i c.requires.within (ap (λ ks. slice_get ks c.loop-height.left) (sym e) ∙ c.loop-height.invariant.told))
