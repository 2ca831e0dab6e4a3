use Rattle.std.proofs.Common.{◌≡◌, ◌⊎◌, inl, inr, ◌^◌, ◌+◌, ◌-◌, ◌<◌, ◌++◌, ℕ, Err, Some, length, map, refl, sym, ◌∙◌, ap, subst}
use Rattle.volume_base.specs.Log.{Log, end_of}
use Rattle.volume_base.specs.declared.error.JournalError.{JournalError}
use Rattle.volume_base.specs.declared.error.JournalError.TheVariants as journal
use Rattle.journal_base.specs.Answers.{IsOfAppend}
use Rattle.journal_base.specs.Items.{Spells}
use Rattle.journal_base.specs.View.{log_of}
use Rattle.journal_base.proofs.ItemLemmas.{spells_appended}
use Rattle.auth_journal.specs.Joined.{Joined}
use Rattle.auth_journal.proofs.LowerLemmas.{several_fail, append_lowers, append_lowered, own_lowered, several_some, several_of, size_of_append, unwritten_lowered, past_lowered, own_stays, positive}
use Rattle.auth_journal.proofs.MutableLemmas.{same_view, held_view, writes_done, writes_lowered}
use Rattle.volume_base.specs.Names.{log_alone}
use Rattle.volume_base.specs.Log.{Grows}
use Rattle.volume_base.proofs.CallLemmas.{names_call_log}
use Rattle.auth_journal.proofs.mutable.JournalMutable.append_many.Goals as goal

pub lower-requires : goal.lower-requires
lower-requires g c = append_lowers (2 ^ 62 < c.args.self.tree.tree.leaves + length c.args.items.now) (λ (d : JournalError). ((d ≡ journal.EmptyAppend) × (length c.args.items.now ≡ 0)) ⊎ ((d ≡ journal.SizeOverflow) × (g.V.Volume.tells → 2 ^ 64 - 1 < end_of (log_of c.args.self.items (g.V.Volume.state c.args.vol.now)) + length c.args.items.now))) c.in-Err.error (several_some (length c.args.items.now ≡ 0) (g.V.Volume.tells → 2 ^ 64 - 1 < end_of (log_of c.args.self.items (g.V.Volume.state c.args.vol.now)) + length c.args.items.now)) (several_fail {F = g.row.F.Denot} {T = (Joined g.row.H-Digest.Denot g.row.C-Item-Cfg.Denot) × ℕ} (length c.args.items.now ≡ 0) (2 ^ 62 < c.args.self.tree.tree.leaves + length c.args.items.now) (g.V.Volume.tells → 2 ^ 64 - 1 < end_of (log_of c.args.self.items (g.V.Volume.state c.args.vol.now)) + length c.args.items.now) c.in-Err.error c.in-Err.ensures.refused (λ past some. (c.in-Err.ensures.full (positive (length c.args.items.now) some) past).0) (λ none. (c.in-Err.ensures.empty none).0) c.in-Err.ensures.overflow)

pub returns-in-Err-clause-empty : goal.returns-in-Err-clause-empty
returns-in-Err-clause-empty g c = (
  λ is.
      let here : c.lower.result ≡ journal.EmptyAppend = cc in
      let own = own_lowered (2 ^ 62 < c.args.self.tree.tree.leaves + length c.args.items.now) (λ (d : JournalError). ((d ≡ journal.EmptyAppend) × (length c.args.items.now ≡ 0)) ⊎ ((d ≡ journal.SizeOverflow) × (g.V.Volume.tells → 2 ^ 64 - 1 < end_of (log_of c.args.self.items (g.V.Volume.state c.args.vol.now)) + length c.args.items.now))) c.in-Err.error journal.EmptyAppend (several_some (length c.args.items.now ≡ 0) (g.V.Volume.tells → 2 ^ 64 - 1 < end_of (log_of c.args.self.items (g.V.Volume.state c.args.vol.now)) + length c.args.items.now)) tt (several_fail {F = g.row.F.Denot} {T = (Joined g.row.H-Digest.Denot g.row.C-Item-Cfg.Denot) × ℕ} (length c.args.items.now ≡ 0) (2 ^ 62 < c.args.self.tree.tree.leaves + length c.args.items.now) (g.V.Volume.tells → 2 ^ 64 - 1 < end_of (log_of c.args.self.items (g.V.Volume.state c.args.vol.now)) + length c.args.items.now) c.in-Err.error c.in-Err.ensures.refused (λ past some. (c.in-Err.ensures.full (positive (length c.args.items.now) some) past).0) (λ none. (c.in-Err.ensures.empty none).0) c.in-Err.ensures.overflow) (c.lower.ensures ∙ ap Some here) in
      elim (c.in-Err.ensures.overflow journal.EmptyAppend (ap Err own)) [
        | inl empty ↦ empty.1
        | inr size ↦ absurd (let bad = size.0 in cc)
      ],
  λ none. own_stays {S = (Joined g.row.H-Digest.Denot g.row.C-Item-Cfg.Denot) × ℕ} {T = (Joined g.row.H-Digest.Denot g.row.C-Item-Cfg.Denot) × ℕ} c.in-Err.error c.lower.result journal.EmptyAppend refl c.lower.ensures (c.in-Err.ensures.empty none).0,
)

pub returns-in-Err-clause-overflow : goal.returns-in-Err-clause-overflow
returns-in-Err-clause-overflow g c tells is =
    let here : c.lower.result ≡ journal.SizeOverflow = cc in
    let own = own_lowered (2 ^ 62 < c.args.self.tree.tree.leaves + length c.args.items.now) (λ (d : JournalError). ((d ≡ journal.EmptyAppend) × (length c.args.items.now ≡ 0)) ⊎ ((d ≡ journal.SizeOverflow) × (g.V.Volume.tells → 2 ^ 64 - 1 < end_of (log_of c.args.self.items (g.V.Volume.state c.args.vol.now)) + length c.args.items.now))) c.in-Err.error journal.SizeOverflow (several_some (length c.args.items.now ≡ 0) (g.V.Volume.tells → 2 ^ 64 - 1 < end_of (log_of c.args.self.items (g.V.Volume.state c.args.vol.now)) + length c.args.items.now)) tt (several_fail {F = g.row.F.Denot} {T = (Joined g.row.H-Digest.Denot g.row.C-Item-Cfg.Denot) × ℕ} (length c.args.items.now ≡ 0) (2 ^ 62 < c.args.self.tree.tree.leaves + length c.args.items.now) (g.V.Volume.tells → 2 ^ 64 - 1 < end_of (log_of c.args.self.items (g.V.Volume.state c.args.vol.now)) + length c.args.items.now) c.in-Err.error c.in-Err.ensures.refused (λ past some. (c.in-Err.ensures.full (positive (length c.args.items.now) some) past).0) (λ none. (c.in-Err.ensures.empty none).0) c.in-Err.ensures.overflow) (c.lower.ensures ∙ ap Some here) in
    elim (c.in-Err.ensures.overflow journal.SizeOverflow (ap Err own)) [
      | inl empty ↦ absurd (let bad = empty.0 in cc)
      | inr size ↦ size.1 tells
    ]

pub returns-in-Err-clause-full : goal.returns-in-Err-clause-full
returns-in-Err-clause-full g c some past =
    let was = c.in-Err.ensures.full some past in
    (past_lowered {S = (Joined g.row.H-Digest.Denot g.row.C-Item-Cfg.Denot) × ℕ} {T = (Joined g.row.H-Digest.Denot g.row.C-Item-Cfg.Denot) × ℕ} c.in-Err.error c.lower.result c.lower.ensures was.0, was.1)

pub returns-in-Err-clause-refused : goal.returns-in-Err-clause-refused
returns-in-Err-clause-refused g c =
    unwritten_lowered {S = (Joined g.row.H-Digest.Denot g.row.C-Item-Cfg.Denot) × ℕ} {T = (Joined g.row.H-Digest.Denot g.row.C-Item-Cfg.Denot) × ℕ} (g.V.Volume.state c.args.vol.now) (g.V.Volume.state c.append_many.new.vol) (Err c.in-Err.error) c.in-Err.error c.lower.result refl c.lower.ensures c.in-Err.ensures.unwritten

pub returns-in-Err-clause-errors : goal.returns-in-Err-clause-errors
returns-in-Err-clause-errors g c =
    append_lowered (2 ^ 62 < c.args.self.tree.tree.leaves + length c.args.items.now) (λ (d : JournalError). ((d ≡ journal.EmptyAppend) × (length c.args.items.now ≡ 0)) ⊎ ((d ≡ journal.SizeOverflow) × (g.V.Volume.tells → 2 ^ 64 - 1 < end_of (log_of c.args.self.items (g.V.Volume.state c.args.vol.now)) + length c.args.items.now))) IsOfAppend c.in-Err.error c.lower.result size_of_append (several_of (length c.args.items.now ≡ 0) (g.V.Volume.tells → 2 ^ 64 - 1 < end_of (log_of c.args.self.items (g.V.Volume.state c.args.vol.now)) + length c.args.items.now)) (several_fail {F = g.row.F.Denot} {T = (Joined g.row.H-Digest.Denot g.row.C-Item-Cfg.Denot) × ℕ} (length c.args.items.now ≡ 0) (2 ^ 62 < c.args.self.tree.tree.leaves + length c.args.items.now) (g.V.Volume.tells → 2 ^ 64 - 1 < end_of (log_of c.args.self.items (g.V.Volume.state c.args.vol.now)) + length c.args.items.now) c.in-Err.error c.in-Err.ensures.refused (λ past some. (c.in-Err.ensures.full (positive (length c.args.items.now) some) past).0) (λ none. (c.in-Err.ensures.empty none).0) c.in-Err.ensures.overflow) c.lower.ensures

pub returns-in-Err-clause-writes : goal.returns-in-Err-clause-writes
returns-in-Err-clause-writes g c = writes_lowered {S = (Joined g.row.H-Digest.Denot g.row.C-Item-Cfg.Denot) × ℕ} g.V.Volume.tells (g.V.Volume.state c.args.vol.now) (g.V.Volume.state c.append_many.new.vol) c.in-Err.error c.lower.result c.lower.ensures c.in-Err.ensures.appends.writes

pub returns-in-Ok-clause-fits : goal.returns-in-Ok-clause-fits
returns-in-Ok-clause-fits g c tells = c.in-Ok.ensures.appends.fits tells (positive (length c.args.items.now) (λ none. let bad = (c.in-Ok.ensures.empty none).0 in cc))

pub returns-in-Ok-clause-made : goal.returns-in-Ok-clause-made
returns-in-Ok-clause-made g c = same_view c.args.self c.in-Ok.made.0 c.in-Ok.ensures.appends.made c.in-Ok.ensures.same.1.failed

pub returns-in-Ok-clause-held : goal.returns-in-Ok-clause-held
returns-in-Ok-clause-held g c tells = held_view c.in-Ok.made.0 (g.V.Volume.state c.append_many.new.vol) (c.in-Ok.ensures.held tells)

pub returns-in-Ok-clause-appended : goal.returns-in-Ok-clause-appended
returns-in-Ok-clause-appended g c tells = c.in-Ok.ensures.appends.appended tells

pub returns-in-Ok-clause-listed : goal.returns-in-Ok-clause-listed
returns-in-Ok-clause-listed g c tells list run =
    let spelling = g.C.Item.Spelled.spelling in
    let items = c.args.items.now in
    subst (λ (l : Log). Spells spelling (list ++ items) l) (sym (c.in-Ok.ensures.appends.appended tells)) (spells_appended spelling list items (log_of c.args.self.items (g.V.Volume.state c.args.vol.now)) run)

pub returns-in-Ok-clause-writes : goal.returns-in-Ok-clause-writes
returns-in-Ok-clause-writes g c = writes_done {F = g.row.F.Denot} g.V.Volume.tells (g.V.Volume.state c.args.vol.now) (g.V.Volume.state c.append_many.new.vol) c.in-Ok.made c.in-Ok.made c.in-Ok.ensures.appends.writes

pub returns-in-Err-clause-names : goal.returns-in-Err-clause-names
returns-in-Err-clause-names g c tells =
    let items = c.args.self.items in
    let a = g.V.Volume.state c.args.vol.now in
    let b = g.V.Volume.state c.append_many.new.vol in
    let step = Grows (log_of items a) (map g.C.Item.Spelled.spelling c.args.items.now) in
    names_call_log (log_alone items.name) items.name step a b (inl refl) (c.in-Err.ensures.appends.log tells)

pub returns-in-Ok-clause-names : goal.returns-in-Ok-clause-names
returns-in-Ok-clause-names g c tells =
    let items = c.args.self.items in
    let a = g.V.Volume.state c.args.vol.now in
    let b = g.V.Volume.state c.append_many.new.vol in
    let step = Grows (log_of items a) (map g.C.Item.Spelled.spelling c.args.items.now) in
    names_call_log (log_alone items.name) items.name step a b (inl refl) (c.in-Ok.ensures.appends.log tells)
