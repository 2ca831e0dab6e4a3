-- What a call on a volume says, of other answers.
use Rattle.std.proofs.Common.{◌≡◌, ap, refl, sym, ◌∙◌, arith}
use Rattle.std.specs.Prelude.{Result, Ok, Err}
use Rattle.volume_base.specs.Volume.{State, Writes}

error_or : {A E : Type 0} → Result A E → E → E
error_or (Ok x) d = d
error_or (Err e) d = e

err_is : {A E : Type 0} (r : Result A E) (e f : E) → r ≡ Err e → r ≡ Err f → e ≡ f
unfolding error_or
err_is r e f p q = sym (ap (λ x. error_or x e) p) ∙ ap (λ x. error_or x e) q

-- of another answer, where it succeeded
pub writes_ok : {A B E : Type 0} (tells : Type 0) (fault : E) (a b : State) (x : A) (y : B) → Writes tells fault a b (Ok x) → Writes tells fault a b (Ok y)
writes_ok tells fault a b x y w = record {
  later = w.later;
  still = w.still;
  reads = w.reads;
  faults = w.faults;
  failed = λ e. absurd (let never : Ok y ≡ Err fault = e in cc);
  kept = w.kept;
  steady = w.steady;
}

-- where it failed
pub writes_err : {A B E : Type 0} (tells : Type 0) (fault : E) (a b : State) (e : E) → Writes {T = A} tells fault a b (Err e) → Writes {T = B} tells fault a b (Err e)
writes_err tells fault a b e w = record {
  later = w.later;
  still = w.still;
  reads = w.reads;
  faults = w.faults;
  failed = λ f. w.failed (ap Err (err_is _ e fault refl f));
  kept = tt;
  steady = w.steady;
}

-- a volume that wasn't touched, where the call succeeded
pub writes_nothing : {A E : Type 0} (tells : Type 0) (fault : E) (a : State) (x : A) → Writes tells fault a a (Ok x)
writes_nothing tells fault a x = record {
  later = omega arith;
  still = λ told same. record { logs = λ name. refl; maps = λ name. refl };
  reads = refl;
  faults = omega arith;
  failed = λ e. absurd (let never : Ok x ≡ Err fault = e in cc);
  kept = refl;
  steady = λ steady. record { steady = steady; faults = refl };
}

-- and where it failed otherwise
pub writes_none : {A E : Type 0} (tells : Type 0) (fault : E) (a : State) (e : E) → (e ≡ fault → ⊥) → Writes {T = A} tells fault a a (Err e)
writes_none tells fault a e not = record {
  later = omega arith;
  still = λ told same. record { logs = λ name. refl; maps = λ name. refl };
  reads = refl;
  faults = omega arith;
  failed = λ f. absurd (not (err_is _ e fault refl f));
  kept = tt;
  steady = λ steady. record { steady = steady; faults = refl };
}
