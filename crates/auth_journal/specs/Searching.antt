-- At which end a log is opened, and why at none.
use Rattle.std.specs.Prelude.{◌≡◌, ◌⊎◌, ℕ, ◌+◌, ◌<◌, ◌≤◌, min, Option, Some, None, Bool}
use Rattle.volume_base.specs.Log.{Log, end_of, cut_to, pruned_to, Advances}
use Rattle.volume_base.specs.declared.error.JournalError.{JournalError}
use Rattle.volume_base.specs.declared.error.JournalError.TheVariants.{ItemPruned, ItemOutOfRange, Corruption}
use Rattle.journal_base.specs.Answers.{IsOfVolume}
use Rattle.journal_base.specs.Blobs.{blob_start}
use Rattle.journal_base.specs.Items.{Items, IsCorrupt}
use Rattle.journal_base.specs.Matches.{IsLastMatch, NoneMatches}
use Rattle.journal_base.specs.View.{capped}

-- A log is opened at this end under a cap, or none: behind the last item that matches; or at 0, where none does and it
-- begins there; or, without a cap, an empty one where it stands.
abbrev pub EndsAt : {A : Type 0} → Items A → (A → Bool → Type 0) → Option ℕ → ℕ → Type 0
EndsAt items says cap end =
    IsLastMatch items says items.log.start (capped cap (end_of items.log)) end
    ⊎ (((end ≡ 0) × (items.log.start ≡ 0) × NoneMatches items says 0 (capped cap (end_of items.log)))
    ⊎ ((cap ≡ None) × (items.log.start ≡ end_of items.log) × (end ≡ end_of items.log)))

-- A log past 0 has items up to the cap, or a cap is given; and none of them matches.
pub record HasNoMatch {A : Type 0} (items : Items A) (says : A → Bool → Type 0) (cap : Option ℕ) : Type 0 where
  pub past : 0 < items.log.start
  pub reached : (most : ℕ) → cap ≡ Some most → items.log.start ≤ most
  pub some : cap ≡ None → items.log.start < end_of items.log
  pub none : NoneMatches items says items.log.start (capped cap (end_of items.log))

-- At this position stands no item, and behind it none matches.
pub record IsUnsearched {A : Type 0} (items : Items A) (says : A → Bool → Type 0) (cap : Option ℕ) (position : ℕ)
    : Type 0 where
  pub low : items.log.start ≤ position
  pub high : position < capped cap (end_of items.log)
  pub corrupt : IsCorrupt items position
  pub none : NoneMatches items says (position + 1) (capped cap (end_of items.log))

-- Why no end is found: by the volume, or for want of memory; or the cap is below the start; or nothing matches; or bytes are no item.
abbrev pub NotFound : {A : Type 0} → Items A → (A → Bool → Type 0) → Option ℕ → JournalError → Type 0
NotFound items says cap e =
    IsOfVolume e
    ⊎ (((most : ℕ) × (cap ≡ Some most) × (most < items.log.start) × (e ≡ ItemPruned most))
    ⊎ ((HasNoMatch items says cap × (e ≡ ItemPruned items.log.start))
    ⊎ ((p : ℕ) × IsUnsearched items says cap p × (e ≡ Corruption p))))

-- Why an item isn't read of a log that is opened at this end: it is below the start; or at or past the end; or bytes are no item.
abbrev pub IsUnreadWithin : {A : Type 0} → Items A → ℕ → ℕ → JournalError → Type 0
IsUnreadWithin items end position e =
    ((position < items.log.start) × (e ≡ ItemPruned position))
    ⊎ (((end ≤ position) × (e ≡ ItemOutOfRange position))
    ⊎ ((items.log.start ≤ position) × (position < end) × IsCorrupt items position × (e ≡ Corruption position)))

-- ---- a log that is made ready for items from a place on

-- It begins there, or before it and ends past it.
abbrev pub Covers : Log → ℕ → Type 0
Covers log place = (log.start ≡ place) ⊎ ((log.start < place) × (place < end_of log))

-- the log up to an end, without the whole blobs below a place
abbrev pub kept_between : ℕ → Log → ℕ → ℕ → Log
kept_between blob log start end = pruned_to (cut_to log end) (blob_start blob (min start (end_of (cut_to log end))))

-- an image of it loses items at its end, none below this end, and then items at its front, none from this place on
abbrev pub Trims : ℕ → ℕ → Log → Log → Type 0
Trims least place old new = (to : ℕ) × (least ≤ to) × Advances place (cut_to old to) new
