use Rattle.std.proofs.Common.{◌≡◌, ◌∷◌, [], ◌++◌, ◌^◌, ℕ, List, map, inl, Err, Some, refl, sym, ◌∙◌, ap, subst, arith}
use Rattle.volume_base.specs.Log.{Log}
use Rattle.volume_base.specs.declared.error.JournalError.{JournalError}
use Rattle.volume_base.specs.declared.error.JournalError.TheVariants as journal
use Rattle.journal_base.specs.Answers.{IsOfSize}
use Rattle.journal_base.specs.Items.{Spells}
use Rattle.journal_base.specs.View.{log_of}
use Rattle.journal_base.proofs.ItemLemmas.{spells_appended}
use Rattle.auth_journal.specs.Joined.{Joined}
use Rattle.auth_journal.proofs.LowerLemmas.{one_fails, append_lowers, append_lowered, own_lowered, size_some, size_of, volume_of_size, unwritten_lowered, past_lowered}
use Rattle.auth_journal.proofs.MutableLemmas.{same_view, held_view, writes_done, writes_lowered}
use Rattle.volume_base.specs.Names.{log_alone}
use Rattle.volume_base.specs.Log.{Grows}
use Rattle.volume_base.proofs.CallLemmas.{names_call_log}
use Rattle.auth_journal.proofs.mutable.JournalMutable.append.Goals as goal

pub lower-requires : goal.lower-requires
lower-requires g c =
    let leaves = c.args.self.tree.tree.leaves in
    let fails = one_fails {F = g.row.F.Denot} {T = (Joined g.row.H-Digest.Denot g.row.C-Item-Cfg.Denot) × ℕ} (leaves ≡ 2 ^ 62) _ c.in-Err.error c.in-Err.ensures.refused (λ full. (c.in-Err.ensures.full full).0) c.in-Err.ensures.overflow in
    append_lowers (leaves ≡ 2 ^ 62) (λ (d : JournalError). d ≡ journal.SizeOverflow) c.in-Err.error size_some fails

pub returns-in-Err-clause-overflow : goal.returns-in-Err-clause-overflow
returns-in-Err-clause-overflow g c tells is =
    let leaves = c.args.self.tree.tree.leaves in
    let fails = one_fails {F = g.row.F.Denot} {T = (Joined g.row.H-Digest.Denot g.row.C-Item-Cfg.Denot) × ℕ} (leaves ≡ 2 ^ 62) _ c.in-Err.error c.in-Err.ensures.refused (λ full. (c.in-Err.ensures.full full).0) c.in-Err.ensures.overflow in
    let here : c.lower.result ≡ journal.SizeOverflow = cc in
    let own = own_lowered (leaves ≡ 2 ^ 62) (λ (d : JournalError). d ≡ journal.SizeOverflow) c.in-Err.error journal.SizeOverflow size_some tt fails (c.lower.ensures ∙ ap Some here) in
    (c.in-Err.ensures.overflow journal.SizeOverflow (ap Err own)).1 tells

pub returns-in-Err-clause-full : goal.returns-in-Err-clause-full
returns-in-Err-clause-full g c full =
    let was = c.in-Err.ensures.full full in
    (past_lowered {S = (Joined g.row.H-Digest.Denot g.row.C-Item-Cfg.Denot) × ℕ} {T = (Joined g.row.H-Digest.Denot g.row.C-Item-Cfg.Denot) × ℕ} c.in-Err.error c.lower.result c.lower.ensures was.0, was.1)

pub returns-in-Err-clause-refused : goal.returns-in-Err-clause-refused
returns-in-Err-clause-refused g c =
    unwritten_lowered {S = (Joined g.row.H-Digest.Denot g.row.C-Item-Cfg.Denot) × ℕ} {T = (Joined g.row.H-Digest.Denot g.row.C-Item-Cfg.Denot) × ℕ} (g.V.Volume.state c.args.vol.now) (g.V.Volume.state c.append.new.vol) (Err c.in-Err.error) c.in-Err.error c.lower.result refl c.lower.ensures c.in-Err.ensures.unwritten

pub returns-in-Err-clause-errors : goal.returns-in-Err-clause-errors
returns-in-Err-clause-errors g c =
    let leaves = c.args.self.tree.tree.leaves in
    let fails = one_fails {F = g.row.F.Denot} {T = (Joined g.row.H-Digest.Denot g.row.C-Item-Cfg.Denot) × ℕ} (leaves ≡ 2 ^ 62) _ c.in-Err.error c.in-Err.ensures.refused (λ full. (c.in-Err.ensures.full full).0) c.in-Err.ensures.overflow in
    append_lowered (leaves ≡ 2 ^ 62) (λ (d : JournalError). d ≡ journal.SizeOverflow) IsOfSize c.in-Err.error c.lower.result volume_of_size size_of fails c.lower.ensures

pub returns-in-Err-clause-writes : goal.returns-in-Err-clause-writes
returns-in-Err-clause-writes g c = writes_lowered {S = (Joined g.row.H-Digest.Denot g.row.C-Item-Cfg.Denot) × ℕ} g.V.Volume.tells (g.V.Volume.state c.args.vol.now) (g.V.Volume.state c.append.new.vol) c.in-Err.error c.lower.result c.lower.ensures c.in-Err.ensures.appends.writes

pub returns-in-Ok-clause-fits : goal.returns-in-Ok-clause-fits
returns-in-Ok-clause-fits g c tells = omega (arith, c.in-Ok.ensures.appends.fits tells (omega arith))

pub returns-in-Ok-clause-made : goal.returns-in-Ok-clause-made
returns-in-Ok-clause-made g c = same_view c.args.self c.in-Ok.journal c.in-Ok.ensures.appends.made c.in-Ok.ensures.same.1.failed

pub returns-in-Ok-clause-held : goal.returns-in-Ok-clause-held
returns-in-Ok-clause-held g c tells = held_view c.in-Ok.journal (g.V.Volume.state c.append.new.vol) (c.in-Ok.ensures.held tells)

pub returns-in-Ok-clause-appended : goal.returns-in-Ok-clause-appended
returns-in-Ok-clause-appended g c tells = c.in-Ok.ensures.appends.appended tells

pub returns-in-Ok-clause-listed : goal.returns-in-Ok-clause-listed
returns-in-Ok-clause-listed g c tells list run =
    let spelling = g.C.Item.Spelled.spelling in
    let items : List g.row.C-Item.Denot = (c.args.item.now ∷ []) in
    subst (λ (l : Log). Spells spelling (list ++ items) l) (sym (c.in-Ok.ensures.appends.appended tells)) (spells_appended spelling list items (log_of c.args.self.items (g.V.Volume.state c.args.vol.now)) run)

pub returns-in-Ok-clause-writes : goal.returns-in-Ok-clause-writes
returns-in-Ok-clause-writes g c =
    writes_done {F = g.row.F.Denot} g.V.Volume.tells (g.V.Volume.state c.args.vol.now) (g.V.Volume.state c.append.new.vol) (c.in-Ok.journal, c.in-Ok.position) (c.in-Ok.journal, c.as_u64.result) c.in-Ok.ensures.appends.writes

pub returns-in-Err-clause-names : goal.returns-in-Err-clause-names
returns-in-Err-clause-names g c tells =
    let items = c.args.self.items in
    let a = g.V.Volume.state c.args.vol.now in
    let b = g.V.Volume.state c.append.new.vol in
    let step = Grows (log_of items a) (map g.C.Item.Spelled.spelling (c.args.item.now ∷ [])) in
    names_call_log (log_alone items.name) items.name step a b (inl refl) (c.in-Err.ensures.appends.log tells)

pub returns-in-Ok-clause-names : goal.returns-in-Ok-clause-names
returns-in-Ok-clause-names g c tells =
    let items = c.args.self.items in
    let a = g.V.Volume.state c.args.vol.now in
    let b = g.V.Volume.state c.append.new.vol in
    let step = Grows (log_of items a) (map g.C.Item.Spelled.spelling (c.args.item.now ∷ [])) in
    names_call_log (log_alone items.name) items.name step a b (inl refl) (c.in-Ok.ensures.appends.log tells)
