-- The search of an end, and logs that are made ready.
use Rattle.std.proofs.Common.{◌≡◌, ◌⊎◌, inl, inr, ℕ, ◌+◌, ◌<◌, ◌≤◌, min, List, Some, None, Option, Bool, Ok, Err, refl, sym, ◌∙◌, ap, subst, arith}
use Rattle.std.specs.Prelude.{unwrap_or, Result, IfErr, is_some, not, true, false}
use Rattle.volume_base.specs.Log.{Log, end_of, cut_to, pruned_to}
use Rattle.volume_base.specs.Volume.{State}
use Rattle.volume_base.specs.declared.error.JournalError.{JournalError}
use Rattle.volume_base.specs.declared.error.JournalError.TheVariants as journal
use Rattle.journal_base.specs.Answers.{IsOfRead}
use Rattle.journal_base.specs.Blobs.{blob_start}
use Rattle.journal_base.specs.Items.{Items, IsCorrupt}
use Rattle.journal_base.specs.Matches.{NoneMatches}
use Rattle.journal_base.specs.View.{capped}
use Rattle.auth_journal.specs.Searching.{NotFound, kept_between}

capped_is : (cap : Option ℕ) (end : ℕ) → min (unwrap_or cap end) end ≡ capped cap end
capped_is None end = omega arith
capped_is (Some most) end = refl

-- a search between these bounds and up to this ceiling was refused
pub record SearchRefused {A : Type 0} (items : Items A) (says : A → Bool → Type 0) (start ceiling top : ℕ) (e : JournalError) : Type 0 where
  pub pruned : (p : ℕ) → e ≡ journal.ItemPruned p → ((p ≡ ceiling) × (ceiling < start)) ⊎ ((p ≡ start) × (0 < start) × (start ≤ ceiling) × NoneMatches items says start top)
  pub past : (p : ℕ) → e ≡ journal.ItemOutOfRange p → ⊥
  pub corrupt : (p : ℕ) → e ≡ journal.Corruption p → (start ≤ p) × (p < top) × IsCorrupt items p × NoneMatches items says (p + 1) top
  pub errors : IsOfRead e

some_most : (most other : ℕ) → Some most ≡ Some other → most ≡ other
some_most most other e = cc

pub never_some : (most : ℕ) → None ≡ Some most → ⊥
never_some most e = cc

never_none : (most : ℕ) → Some most ≡ None → ⊥
never_none most e = cc

pub not_found : {A : Type 0} (items : Items A) (says : A → Bool → Type 0) (cap : Option ℕ) (e : JournalError) → (cap ≡ None → items.log.start ≡ end_of items.log → ⊥)
    → SearchRefused items says items.log.start (unwrap_or cap (end_of items.log)) (capped cap (end_of items.log)) e → NotFound items says cap e
not_found items says cap journal.Volume differ why = inl refl
not_found items says cap journal.Memory differ why = inl refl
not_found items says cap (journal.ItemOutOfRange p) differ why = absurd (why.past p refl)
not_found items says cap (journal.Corruption p) differ why =
    let y = why.corrupt p refl in
    inr (inr (inr (p, record { low = y.0; high = y.1; corrupt = y.2; none = y.3 }, refl)))
not_found {A = A} items says cap (journal.ItemPruned p) differ why = by cap differ (why.pruned p refl)
  where
    by : (cap : Option ℕ) → (cap ≡ None → items.log.start ≡ end_of items.log → ⊥)
        → ((p ≡ unwrap_or cap (end_of items.log)) × (unwrap_or cap (end_of items.log) < items.log.start))
        ⊎ ((p ≡ items.log.start) × (0 < items.log.start) × (items.log.start ≤ unwrap_or cap (end_of items.log)) × NoneMatches items says items.log.start (capped cap (end_of items.log)))
        → NotFound items says cap (journal.ItemPruned p)
    by None differ (inl below) = absurd (omega (arith, below.1))
    by (Some most) differ (inl below) = inr (inl (most, refl, below.1, ap journal.ItemPruned below.0))
    by None differ (inr none) =
        let apart : items.log.start ≡ end_of items.log → ⊥ = differ refl in
        inr (inr (inl (record { past = none.1; reached = λ most is. absurd (never_some most is); some = λ is. omega (arith, apart); none = none.3 }, ap journal.ItemPruned none.0)))
    by (Some most) differ (inr none) =
        inr (inr (inl (record { past = none.1; reached = λ other is. let same = some_most most other is in omega (arith, same, none.2); some = λ is. absurd (never_none most is); none = none.3 }, ap journal.ItemPruned none.0)))
not_found items says cap journal.SizeOverflow differ why = absurd (let bad = why.errors in cc)
not_found items says cap journal.EmptyAppend differ why = absurd (let bad = why.errors in cc)
not_found items says cap (journal.Tree cause) differ why = absurd (let bad = why.errors in cc)

module _ {A : Type 0} (items : Items A) (says : A → Bool → Type 0) (cap : Option ℕ) (start end ceiling : ℕ)
    (start_is : start ≡ items.log.start) (end_is : end ≡ end_of items.log) (ceiling_is : ceiling ≡ unwrap_or cap (end_of items.log)) where
  top_is : min ceiling end ≡ capped cap (end_of items.log)
  top_is = let same = capped_is cap (end_of items.log) in omega (arith, same, end_is, ceiling_is)

  none_here : (from : ℕ) → NoneMatches items says from (min ceiling end) → NoneMatches items says from (capped cap (end_of items.log))
  none_here from none position low high = let top = top_is in none position low (omega (arith, high, top))

  -- what the search says in terms of its bounds
  pub pruned_here : (p : ℕ) (tells within : Type 0) → tells → within
      → ((p ≡ ceiling) × (ceiling < start)) ⊎ (((p ≡ start) × (0 < start) × (start ≤ ceiling) × (tells → NoneMatches items says start (min ceiling end))) ⊎ ((start ≤ p) × (p < min ceiling end) × (tells → within → ⊥)))
      → ((p ≡ unwrap_or cap (end_of items.log)) × (unwrap_or cap (end_of items.log) < items.log.start))
      ⊎ ((p ≡ items.log.start) × (0 < items.log.start) × (items.log.start ≤ unwrap_or cap (end_of items.log)) × NoneMatches items says items.log.start (capped cap (end_of items.log)))
  pruned_here p tells within told is (inl below) = inl (omega (arith, below.0, ceiling_is), omega (arith, below.1, ceiling_is, start_is))
  pruned_here p tells within told is (inr (inl none)) =
      inr (
        omega (arith, none.0, start_is),
        omega (arith, none.1, start_is),
        omega (arith, none.2, start_is, ceiling_is),
        λ position low high. none_here start (none.3 told) position (omega (arith, low, start_is)) high,
      )
  pruned_here p tells within told is (inr (inr never)) = absurd (never.2 told is)

  pub corrupt_here : (p : ℕ) (tells : Type 0) → tells → (start ≤ p) × (p < min ceiling end) × (tells → IsCorrupt items p × NoneMatches items says (p + 1) (min ceiling end))
      → (items.log.start ≤ p) × (p < capped cap (end_of items.log)) × IsCorrupt items p × NoneMatches items says (p + 1) (capped cap (end_of items.log))
  corrupt_here p tells told y =
      let top = top_is in
      let z = y.2 told in
      (omega (arith, y.0, start_is), omega (arith, y.1, top), z.0, none_here (p + 1) z.1)

pub search_differs : (cap : Option ℕ) (none : Bool) (x y : ℕ) → is_some cap ≡ not none → ((none ≡ true) × (x ≡ y → ⊥)) ⊎ (none ≡ false) → cap ≡ None → x ≡ y → ⊥
search_differs cap none x y is (inl way) empty same = way.1 same
search_differs (Some most) none x y is (inr way) empty same = never_none most empty
search_differs None none x y is (inr way) empty same = absurd (let f : false ≡ not false = is ∙ ap not way in cc)

pub if_err : {T E : Type 0} (r : Result T E) (P : E → Type 0) → ((e : E) → r ≡ Err e → P e) → IfErr r P
if_err (Ok x) P each = tt
if_err (Err e) P each = each e refl

pub errors_of : {T E : Type 0} (P : E → Type 0) (r : Result T E) (e : E) → r ≡ Err e → IfErr r P → P e
errors_of P (Ok x) e is each = absurd cc
errors_of P (Err d) e is each = let same : d ≡ e = cc in subst P same each

-- ---- logs that are made ready

-- a cut and then a prune of a log, each by a view of its own
pub kept_is : (name one two : List ℕ) (blob last : ℕ) (s0 s1 s2 s3 : State) (start end : ℕ) → one ≡ name → two ≡ name → last ≡ blob → s1.log name ≡ s0.log name
    → s2.log one ≡ cut_to (s1.log one) end → s3.log two ≡ pruned_to (s2.log two) (blob_start last (min start (end_of (s2.log two))))
    → s3.log name ≡ kept_between blob (s0.log name) start end
kept_is name one two blob last s0 s1 s2 s3 start end e1 e2 f same cut pruned =
    let now : s2.log name ≡ cut_to (s0.log name) end = sym (ap s2.log e1) ∙ cut ∙ ap (λ n. cut_to (s1.log n) end) e1 ∙ ap (λ (l : Log). cut_to l end) same in
    sym (ap s3.log e2) ∙ pruned ∙ ap (λ n. pruned_to (s2.log n) (blob_start last (min start (end_of (s2.log n))))) e2
    ∙ ap (λ b. pruned_to (s2.log name) (blob_start b (min start (end_of (s2.log name))))) f
    ∙ ap (λ (l : Log). pruned_to l (blob_start blob (min start (end_of l)))) now
