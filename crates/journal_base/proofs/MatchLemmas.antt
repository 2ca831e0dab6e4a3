-- A search down a log for an item that matches.
use Rattle.std.proofs.Common.{◌≡◌, inl, inr, ℕ, ◌-◌, ◌≤◌, Bool, false, sym, ◌∙◌, ap, subst, arith}
use Rattle.std.proofs.lemmas.Bool.{cases_lt}
use Rattle.volume_base.specs.Log.{Log, end_of}
use Rattle.volume_base.specs.Volume.{State}
use Rattle.journal_base.specs.Items.{Items}
use Rattle.journal_base.specs.View.{View, IsWithin}
use Rattle.journal_base.specs.Matches.{IsAnswered, NoneMatches}

pub within_later : {C : Type 0} (view : View C) (a b : State) → b.log view.name ≡ a.log view.name → IsWithin view a → IsWithin view b
within_later view a b same within = record {
  start_is = within.start_is ∙ ap (λ (l : Log). l.start) (sym same);
  low = within.low;
  high = subst (λ (l : Log). view.end ≤ end_of l) (sym same) within.high;
}

-- one item more, below the others
pub none_more : {A : Type 0} (items : Items A) (says : A → Bool → Type 0) (from to : ℕ) → NoneMatches items says from to → IsAnswered items says (from - 1) false → NoneMatches items says (from - 1) to
none_more items says from to none here position lo hi = elim (cases_lt position from) [
  | inl before ↦ subst (λ p. IsAnswered items says p false) (omega arith) here
  | inr behind ↦ none position behind hi
]
