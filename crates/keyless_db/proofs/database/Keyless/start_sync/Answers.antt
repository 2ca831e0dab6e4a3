use Rattle.std.proofs.Common.{◌≡◌, length, Err, sym, ◌∙◌, ap, subst}
use Rattle.volume_base.specs.Moments.{present}
use Rattle.volume_base.specs.Names.{NamesCall, log_alone}
use Rattle.journal_base.specs.Tickets.{is_failed}
use Rattle.journal_base.specs.View.{SameLog, IsDurable}
use Rattle.tree_shape.specs.Shape.{made}
use Rattle.merkle_full.specs.Flushing.{IsOfFlush}
use Rattle.auth_journal.specs.Durable.{IsStarted, IsFromTree}
use Rattle.auth_journal.specs.Durable as journal_durable
use Rattle.auth_journal.specs.Joined.{Joined}
use Rattle.auth_journal.specs.Standing.{logs_of, all_synced}
use Rattle.auth_journal.specs.declared.error.Error.TheVariants as joined
use Rattle.chain_core.specs.declared.error.Error.TheVariants.{Volume}
use Rattle.keyless_db.specs.DbView.{DbView}
use Rattle.keyless_db.proofs.HeldLemmas.{sound_started, held_kept, low_started}
use Rattle.keyless_db.proofs.LiftLemmas.{volume_below, volume_above, outside_above, writes_like, joined_back, standing_like, tickets_like, ticket_fault}
use Rattle.keyless_db.proofs.database.Keyless.start_sync.Goals as goal

pub invariant_of-started : goal.invariant_of-started
invariant_of-started g c =
    sound_started c.self.inside.journal c.in-Ok.journal c.self.inside.state c.self.invariant (is_failed c.in-Ok.ticket) c.in-Ok.ensures.same

pub returns-in-Ok-clause-journal : goal.returns-in-Ok-clause-journal
returns-in-Ok-clause-journal g c =
    subst (λ (x : Joined g.row.H-Digest.Denot g.row.O-Cfg.Denot). IsStarted x c.in-Ok.journal (is_failed c.in-Ok.ticket)) (ap (λ (d : DbView g.row.F.Denot g.row.H-Digest.Denot g.row.O.Denot g.row.O-Cfg.Denot). d.journal) c.self.view_is) c.in-Ok.ensures.same

pub returns-in-Ok-clause-untouched : goal.returns-in-Ok-clause-untouched
returns-in-Ok-clause-untouched g c failed =
    let a = g.V.Volume.state c.args.vol.now in
    let b = g.V.Volume.state c.start_sync.new.vol in
    let same : c.self.inside.journal ≡ c.args.self.journal = ap (λ (d : DbView g.row.F.Denot g.row.H-Digest.Denot g.row.O.Denot g.row.O-Cfg.Denot). d.journal) c.self.view_is in
    let did = c.in-Ok.ensures.untouched failed in
    (did.0 ∙ ap (λ (x : Joined g.row.H-Digest.Denot g.row.O-Cfg.Denot). x.tree) same, λ tells. subst (λ (x : Joined g.row.H-Digest.Denot g.row.O-Cfg.Denot). NamesCall (log_alone x.items.name) a b) same (did.1 tells))

pub returns-in-Ok-clause-held : goal.returns-in-Ok-clause-held
returns-in-Ok-clause-held g c tells ops held =
    let s = g.F.Family.shape in
    let h = g.H.Hasher.hash in
    let digest = g.H.Digest.Spelled.spelling in
    let admits = g.H.Digest.Read.admits tt in
    let spelling = g.O.Spelled.spelling in
    let a = g.V.Volume.state c.args.vol.now in
    let b = g.V.Volume.state c.start_sync.new.vol in
    let same : c.self.inside.journal ≡ c.args.self.journal = ap (λ (d : DbView g.row.F.Denot g.row.H-Digest.Denot g.row.O.Denot g.row.O-Cfg.Denot). d.journal) c.self.view_is in
    let did = c.in-Ok.ensures.joined tells ops (joined_back s h digest admits spelling ops _ _ same a b held.journal) in
    let started = subst (λ (x : Joined g.row.H-Digest.Denot g.row.O-Cfg.Denot). IsStarted x c.in-Ok.journal (is_failed c.in-Ok.ticket)) same c.in-Ok.ensures.same in
    held_kept s h g.O.Logged.meaning digest admits spelling ops c.args.self _ (present a) (present b)
    (record { state = ap (λ (d : DbView g.row.F.Denot g.row.H-Digest.Denot g.row.O.Denot g.row.O-Cfg.Denot). d.state) c.self.view_is; commit = ap (λ (d : DbView g.row.F.Denot g.row.H-Digest.Denot g.row.O.Denot g.row.O-Cfg.Denot). d.commit) c.self.view_is }) held did (low_started c.args.self.journal c.in-Ok.journal (is_failed c.in-Ok.ticket) started held.low)

pub returns-in-Ok-clause-durable : goal.returns-in-Ok-clause-durable
returns-in-Ok-clause-durable g c done tells =
    let a = g.V.Volume.state c.args.vol.now in
    let b = g.V.Volume.state c.start_sync.new.vol in
    let same : c.self.inside.journal ≡ c.args.self.journal = ap (λ (d : DbView g.row.F.Denot g.row.H-Digest.Denot g.row.O.Denot g.row.O-Cfg.Denot). d.journal) c.self.view_is in
    subst (λ (x : Joined g.row.H-Digest.Denot g.row.O-Cfg.Denot). IsDurable x.items b × IsDurable x.tree.log b) same (c.in-Ok.ensures.durable done tells)

pub returns-in-Err-clause-behind : goal.returns-in-Err-clause-behind
returns-in-Err-clause-behind g c sound tells is =
    let a = g.V.Volume.state c.args.vol.now in
    let b = g.V.Volume.state c.start_sync.new.vol in
    let same : c.self.inside.journal ≡ c.args.self.journal = ap (λ (d : DbView g.row.F.Denot g.row.H-Digest.Denot g.row.O.Denot g.row.O-Cfg.Denot). d.journal) c.self.view_is in
    subst (λ (x : Joined g.row.H-Digest.Denot g.row.O-Cfg.Denot). IsDurable x.items b) same (c.in-Err.ensures.behind (ap (λ (x : Joined g.row.H-Digest.Denot g.row.O-Cfg.Denot). x.failed) same ∙ sound) tells (volume_below c.in-Err.error c.from_joined.result c.from_joined.ensures is))

pub returns-in-Err-clause-not_volume : goal.returns-in-Err-clause-not_volume
returns-in-Err-clause-not_volume g c sound whole is =
    let a = g.V.Volume.state c.args.vol.now in
    let b = g.V.Volume.state c.start_sync.new.vol in
    let same : c.self.inside.journal ≡ c.args.self.journal = ap (λ (d : DbView g.row.F.Denot g.row.H-Digest.Denot g.row.O.Denot g.row.O-Cfg.Denot). d.journal) c.self.view_is in
    let end = subst (λ (x : Joined g.row.H-Digest.Denot g.row.O-Cfg.Denot). x.tree.log.end ≡ length (made g.F.Family.shape x.tree.tree.leaves)) (sym same) whole in
    c.in-Err.ensures.not_volume (ap (λ (x : Joined g.row.H-Digest.Denot g.row.O-Cfg.Denot). x.failed) same ∙ sound) end (volume_below c.in-Err.error c.from_joined.result c.from_joined.ensures is)

pub returns-in-Err-clause-outside : goal.returns-in-Err-clause-outside
returns-in-Err-clause-outside g c tells ops held =
    let s = g.F.Family.shape in
    let h = g.H.Hasher.hash in
    let digest = g.H.Digest.Spelled.spelling in
    let admits = g.H.Digest.Read.admits tt in
    let spelling = g.O.Spelled.spelling in
    let a = g.V.Volume.state c.args.vol.now in
    let b = g.V.Volume.state c.start_sync.new.vol in
    let same : c.self.inside.journal ≡ c.args.self.journal = ap (λ (d : DbView g.row.F.Denot g.row.H-Digest.Denot g.row.O.Denot g.row.O-Cfg.Denot). d.journal) c.self.view_is in
    outside_above c.in-Err.error c.from_joined.result c.from_joined.ensures (c.in-Err.ensures.outside tells ops (joined_back s h digest admits spelling ops _ _ same a b held.journal))

pub returns-in-Ok-clause-images : goal.returns-in-Ok-clause-images
returns-in-Ok-clause-images g c tells ops marks held =
    let s = g.F.Family.shape in
    let h = g.H.Hasher.hash in
    let digest = g.H.Digest.Spelled.spelling in
    let admits = g.H.Digest.Read.admits tt in
    let spelling = g.O.Spelled.spelling in
    let a = g.V.Volume.state c.args.vol.now in
    let b = g.V.Volume.state c.start_sync.new.vol in
    let same : c.self.inside.journal ≡ c.args.self.journal = ap (λ (d : DbView g.row.F.Denot g.row.H-Digest.Denot g.row.O.Denot g.row.O-Cfg.Denot). d.journal) c.self.view_is in
    standing_like s h digest admits spelling ops _ _ same a b marks (all_synced _ marks) (journal_durable.sync_of c.in-Ok.ticket) _ (tickets_like g.row.F.Denot c.in-Ok.ticket) (c.in-Ok.ensures.images tells ops marks) held.journal

pub returns-in-Err-clause-images : goal.returns-in-Err-clause-images
returns-in-Err-clause-images g c tells ops marks held =
    let s = g.F.Family.shape in
    let h = g.H.Hasher.hash in
    let digest = g.H.Digest.Spelled.spelling in
    let admits = g.H.Digest.Read.admits tt in
    let spelling = g.O.Spelled.spelling in
    let a = g.V.Volume.state c.args.vol.now in
    let b = g.V.Volume.state c.start_sync.new.vol in
    let same : c.self.inside.journal ≡ c.args.self.journal = ap (λ (d : DbView g.row.F.Denot g.row.H-Digest.Denot g.row.O.Denot g.row.O-Cfg.Denot). d.journal) c.self.view_is in
    standing_like s h digest admits spelling ops _ _ same a b marks (all_synced _ marks) (Err c.in-Err.error) _ tt (c.in-Err.ensures.images tells ops marks) held.journal

pub returns-in-Ok-clause-writes : goal.returns-in-Ok-clause-writes
returns-in-Ok-clause-writes g c sound =
    let a = g.V.Volume.state c.args.vol.now in
    let b = g.V.Volume.state c.start_sync.new.vol in
    let same : c.self.inside.journal ≡ c.args.self.journal = ap (λ (d : DbView g.row.F.Denot g.row.H-Digest.Denot g.row.O.Denot g.row.O-Cfg.Denot). d.journal) c.self.view_is in
    writes_like g.V.Volume.tells joined.Volume Volume a b (journal_durable.sync_of c.in-Ok.ticket) _ (tickets_like g.row.F.Denot c.in-Ok.ticket) (ticket_fault g.row.F.Denot c.in-Ok.ticket) (c.in-Ok.ensures.writes (ap (λ (x : Joined g.row.H-Digest.Denot g.row.O-Cfg.Denot). x.failed) same ∙ sound))

pub returns-in-Err-clause-writes : goal.returns-in-Err-clause-writes
returns-in-Err-clause-writes g c sound =
    let a = g.V.Volume.state c.args.vol.now in
    let b = g.V.Volume.state c.start_sync.new.vol in
    let same : c.self.inside.journal ≡ c.args.self.journal = ap (λ (d : DbView g.row.F.Denot g.row.H-Digest.Denot g.row.O.Denot g.row.O-Cfg.Denot). d.journal) c.self.view_is in
    writes_like g.V.Volume.tells joined.Volume Volume a b (Err c.in-Err.error) _ tt (volume_below c.in-Err.error c.from_joined.result c.from_joined.ensures) (c.in-Err.ensures.writes (ap (λ (x : Joined g.row.H-Digest.Denot g.row.O-Cfg.Denot). x.failed) same ∙ sound))

pub returns-in-Ok-clause-kept : goal.returns-in-Ok-clause-kept
returns-in-Ok-clause-kept g c failed =
    let none = (c.in-Ok.ensures.kept (ap (λ (x : Joined g.row.H-Digest.Denot g.row.O-Cfg.Denot). x.failed) (ap (λ (d : DbView g.row.F.Denot g.row.H-Digest.Denot g.row.O.Denot g.row.O-Cfg.Denot). d.journal) c.self.view_is) ∙ failed)).0 in
    absurd cc

pub returns-in-Err-clause-kept : goal.returns-in-Err-clause-kept
returns-in-Err-clause-kept g c failed =
    let kept = c.in-Err.ensures.kept (ap (λ (x : Joined g.row.H-Digest.Denot g.row.O-Cfg.Denot). x.failed) (ap (λ (d : DbView g.row.F.Denot g.row.H-Digest.Denot g.row.O.Denot g.row.O-Cfg.Denot). d.journal) c.self.view_is) ∙ failed) in
    (ap Err (volume_above c.in-Err.error c.from_joined.result c.from_joined.ensures kept.0), kept.1)

pub returns-in-Ok-clause-same : goal.returns-in-Ok-clause-same
returns-in-Ok-clause-same g c = record { state = ap (λ (d : DbView g.row.F.Denot g.row.H-Digest.Denot g.row.O.Denot g.row.O-Cfg.Denot). d.state) c.self.view_is; commit = ap (λ (d : DbView g.row.F.Denot g.row.H-Digest.Denot g.row.O.Denot g.row.O-Cfg.Denot). d.commit) c.self.view_is }

pub returns-in-Ok-clause-contents : goal.returns-in-Ok-clause-contents
returns-in-Ok-clause-contents g c tells =
    let a = g.V.Volume.state c.args.vol.now in
    let b = g.V.Volume.state c.start_sync.new.vol in
    let same : c.self.inside.journal ≡ c.args.self.journal = ap (λ (d : DbView g.row.F.Denot g.row.H-Digest.Denot g.row.O.Denot g.row.O-Cfg.Denot). d.journal) c.self.view_is in
    subst (λ (x : Joined g.row.H-Digest.Denot g.row.O-Cfg.Denot). SameLog x.items a b) same (c.in-Ok.ensures.contents tells)

pub returns-in-Err-clause-contents : goal.returns-in-Err-clause-contents
returns-in-Err-clause-contents g c tells =
    let a = g.V.Volume.state c.args.vol.now in
    let b = g.V.Volume.state c.start_sync.new.vol in
    let same : c.self.inside.journal ≡ c.args.self.journal = ap (λ (d : DbView g.row.F.Denot g.row.H-Digest.Denot g.row.O.Denot g.row.O-Cfg.Denot). d.journal) c.self.view_is in
    subst (λ (x : Joined g.row.H-Digest.Denot g.row.O-Cfg.Denot). SameLog x.items a b) same (c.in-Err.ensures.contents tells)

pub returns-in-Ok-clause-names : goal.returns-in-Ok-clause-names
returns-in-Ok-clause-names g c tells =
    let a = g.V.Volume.state c.args.vol.now in
    let b = g.V.Volume.state c.start_sync.new.vol in
    let same : c.self.inside.journal ≡ c.args.self.journal = ap (λ (d : DbView g.row.F.Denot g.row.H-Digest.Denot g.row.O.Denot g.row.O-Cfg.Denot). d.journal) c.self.view_is in
    subst (λ (x : Joined g.row.H-Digest.Denot g.row.O-Cfg.Denot). NamesCall (logs_of x) a b) same (c.in-Ok.ensures.names tells)

pub returns-in-Err-clause-names : goal.returns-in-Err-clause-names
returns-in-Err-clause-names g c tells =
    let a = g.V.Volume.state c.args.vol.now in
    let b = g.V.Volume.state c.start_sync.new.vol in
    let same : c.self.inside.journal ≡ c.args.self.journal = ap (λ (d : DbView g.row.F.Denot g.row.H-Digest.Denot g.row.O.Denot g.row.O-Cfg.Denot). d.journal) c.self.view_is in
    subst (λ (x : Joined g.row.H-Digest.Denot g.row.O-Cfg.Denot). NamesCall (logs_of x) a b) same (c.in-Err.ensures.names tells)

pub returns-in-Err-clause-errors : goal.returns-in-Err-clause-errors
returns-in-Err-clause-errors g c =
    (c.in-Err.error, c.from_joined.ensures, subst (λ (x : Joined g.row.H-Digest.Denot g.row.O-Cfg.Denot). IsFromTree (IsOfFlush g.F.Family.shape x.tree) c.in-Err.error) (ap (λ (d : DbView g.row.F.Denot g.row.H-Digest.Denot g.row.O.Denot g.row.O-Cfg.Denot). d.journal) c.self.view_is) c.in-Err.ensures.errors)

pub returns-in-Ok-clause-nodes : goal.returns-in-Ok-clause-nodes
returns-in-Ok-clause-nodes g c tells ops held =
    let a = g.V.Volume.state c.args.vol.now in
    let b = g.V.Volume.state c.start_sync.new.vol in
    let same : c.self.inside.journal ≡ c.args.self.journal = ap (λ (d : DbView g.row.F.Denot g.row.H-Digest.Denot g.row.O.Denot g.row.O-Cfg.Denot). d.journal) c.self.view_is in
    c.in-Ok.ensures.nodes tells ops
    (joined_back g.F.Family.shape g.H.Hasher.hash g.H.Digest.Spelled.spelling (g.H.Digest.Read.admits tt) g.O.Spelled.spelling ops _ _ same a b held.journal)
    ∙ ap (λ (x : Joined g.row.H-Digest.Denot g.row.O-Cfg.Denot). x.tree.log.start) same

pub returns-in-Ok-clause-items : goal.returns-in-Ok-clause-items
returns-in-Ok-clause-items g c sound tells =
    let b = g.V.Volume.state c.start_sync.new.vol in
    let same : c.self.inside.journal ≡ c.args.self.journal = ap (λ (d : DbView g.row.F.Denot g.row.H-Digest.Denot g.row.O.Denot g.row.O-Cfg.Denot). d.journal) c.self.view_is in
    subst (λ (x : Joined g.row.H-Digest.Denot g.row.O-Cfg.Denot). IsDurable x.items b) same (c.in-Ok.ensures.items sound tells)
