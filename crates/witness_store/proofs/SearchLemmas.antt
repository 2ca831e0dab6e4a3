-- A search by halving: how few witnesses it looks at, and what it has found.
use Rattle.std.proofs.Common.{◌≡◌, ℕ, suc, ◌+◌, ◌*◌, ◌^◌, ◌<◌, ◌≤◌, List, ap, ◌∙◌, subst, arith}
use Rattle.std.proofs.Math.Nat.{pow-suc, le-mul_of_pos_right, mul-le-mul_left, mul_assoc}
use Rattle.volume_base.specs.Log.{end_of}
use Rattle.volume_base.specs.Volume.{State}
use Rattle.journal_base.specs.Items.{Items}
use Rattle.journal_base.specs.View.{View, log_of, IsHeld, IsWithin}
use Rattle.journal_base.proofs.ItemLemmas.{holds_here}
use Rattle.witness_store.specs.declared.search.Found.{Found}
use Rattle.witness_store.specs.declared.witness.Witness.{Witness}
use Rattle.witness_store.specs.Searched.{IsWitnessAt, IsBefore, IsHere, IsFirst, LooksFew}
use Rattle.witness_store.specs.Witness.{text_of, IsAllowed}
use Rattle.witness_store.specs.Witnesses.{witnesses_of}

-- so many looks have been made, of so many items so many are left
pub record Halved (items left : ℕ) (old new : State) : Type 0 where
  pub looks : ℕ
  pub counted : new.reads ≤ old.reads + looks
  pub few : 2 ^ looks ≤ 2 * items + 1
  pub halved : 2 ^ looks * left ≤ items

pub none_looked : (items : ℕ) (s : State) → Halved items items s s
none_looked items s = record { looks = 0; counted = omega arith; few = omega arith; halved = omega arith }

-- one more look, after which at most half is left
pub one_looked : (items left less : ℕ) (a b c : State) → Halved items left a b → c.reads ≤ b.reads + 1 → 0 < left → 2 * less ≤ left → Halved items less a c
one_looked items left less a b c so_far read some half =
    let two : 2 ^ suc so_far.looks ≡ 2 ^ so_far.looks * 2 = pow-suc 2 so_far.looks in
    let one : 2 ^ so_far.looks ≤ 2 ^ so_far.looks * left = le-mul_of_pos_right (2 ^ so_far.looks) some in
    let step : 2 ^ so_far.looks * (2 * less) ≤ 2 ^ so_far.looks * left = mul-le-mul_left (2 ^ so_far.looks) half in
    let same : 2 ^ suc so_far.looks * less ≡ 2 ^ so_far.looks * (2 * less) = ap (λ (q : ℕ). q * less) two ∙ mul_assoc (2 ^ so_far.looks) 2 less in
    let done = so_far.halved in
    record {
      looks = suc so_far.looks;
      counted = omega (arith, so_far.counted, read);
      few = omega (arith, two, one, done);
      halved = omega (arith, same, step, done);
    }

pub looked : (items left : ℕ) (a b : State) → Halved items left a b → LooksFew items a b
looked items left a b h = record { looks = h.looks; counted = h.counted; few = h.few }

-- a witness that stood in the log at another moment stands there now, where the log is the same
pub witness_here : {F D : Type 0} (spelling : D → List ℕ) (admits : D → Type 0) (view : View (Unit {0})) (a b : State) (p q : ℕ) (w : Witness F D) → log_of view b ≡ log_of view a → p ≡ q
    → IsWitnessAt (witnesses_of spelling admits view b) p w → IsWitnessAt (witnesses_of spelling admits view a) q w
witness_here spelling admits view a b p q w same is there =
    subst (λ (r : ℕ). IsWitnessAt (witnesses_of spelling admits view a) r w) is
    (holds_here (text_of spelling) (λ codec. IsAllowed admits) view a b p w same there.0, there.1)

-- where the search has ended, by the view's bounds
pub is_first : {F D : Type 0} (items : Items (Witness F D)) (start end first last high size : ℕ) (found : Found F D) → first ≡ start → last ≡ end → high ≡ found.position → first ≤ found.position → high ≤ last
    → IsBefore items first found.position size found.before → IsHere items last high size found.here → IsFirst items start end size found
is_first items start end first last high size found starts ends met low within before here = record {
  low = omega (arith, starts, low);
  high = omega (arith, ends, met, within);
  before = subst (λ (s : ℕ). IsBefore items s found.position size found.before) starts before;
  here = subst (λ (e : ℕ). IsHere items e found.position size found.here) ends (subst (λ (p : ℕ). IsHere items last p size found.here) met here);
}

-- a view with the log's bounds is one of the log
pub within_of_held : {C : Type 0} (view : View C) (s : State) → IsHeld view s → IsWithin view s
within_of_held view s held = record { start_is = held.start_is; low = omega (arith, held.start_is, held.end_is); high = omega (arith, held.end_is) }

-- the search by the log's own bounds
pub first_in_log : {F D : Type 0} (spelling : D → List ℕ) (admits : D → Type 0) (view : View (Unit {0})) (s : State) (size : ℕ) (found : Found F D) → IsHeld view s → IsFirst (witnesses_of spelling admits view s) view.start view.end size found
    → IsFirst (witnesses_of spelling admits view s) (log_of view s).start (end_of (log_of view s)) size found
first_in_log spelling admits view s size found held first =
    let items = witnesses_of spelling admits view s in
    subst (λ (e : ℕ). IsFirst items (log_of view s).start e size found) held.end_is (subst (λ (b : ℕ). IsFirst items b view.end size found) held.start_is first)
