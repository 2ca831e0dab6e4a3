use Rattle.std.proofs.Common.{◌≡◌, Ok, Err, ◌∙◌, ap, subst}
use Rattle.volume_base.specs.Moments.{present}
use Rattle.volume_base.specs.Names.{NamesCall}
use Rattle.journal_base.specs.View.{SameLog, IsDurable}
use Rattle.merkle_full.specs.Flushing.{IsOfFlush}
use Rattle.auth_journal.specs.Durable.{IsFlushed, IsFromTree}
use Rattle.auth_journal.specs.Joined.{Joined}
use Rattle.auth_journal.specs.Standing.{logs_of}
use Rattle.auth_journal.specs.declared.error.Error.TheVariants as joined
use Rattle.chain_core.specs.declared.error.Error.TheVariants.{Volume}
use Rattle.keyless_db.specs.DbView.{DbView}
use Rattle.auth_journal.specs.Standing.{all_synced}
use Rattle.keyless_db.proofs.HeldLemmas.{sound_flushed, held_kept, low_flushed}
use Rattle.keyless_db.proofs.LiftLemmas.{volume_below, volume_above, outside_above, writes_like, ok_never, joined_back, standing_like}
use Rattle.keyless_db.proofs.database.Keyless.sync.Goals as goal

pub invariant_of-result : goal.invariant_of-result
invariant_of-result g c = sound_flushed c.self.inside.journal c.in-Ok.journal c.self.inside.state c.self.invariant c.in-Ok.ensures.same

pub returns-in-Ok-clause-journal : goal.returns-in-Ok-clause-journal
returns-in-Ok-clause-journal g c =
    subst (λ (x : Joined g.row.H-Digest.Denot g.row.O-Cfg.Denot). IsFlushed x c.in-Ok.journal) (ap (λ (d : DbView g.row.F.Denot g.row.H-Digest.Denot g.row.O.Denot g.row.O-Cfg.Denot). d.journal) c.self.view_is) c.in-Ok.ensures.same

pub returns-in-Ok-clause-held : goal.returns-in-Ok-clause-held
returns-in-Ok-clause-held g c tells ops held =
    let s = g.F.Family.shape in
    let h = g.H.Hasher.hash in
    let digest = g.H.Digest.Spelled.spelling in
    let admits = g.H.Digest.Read.admits tt in
    let spelling = g.O.Spelled.spelling in
    let a = g.V.Volume.state c.args.vol.now in
    let b = g.V.Volume.state c.sync.new.vol in
    let same : c.self.inside.journal ≡ c.args.self.journal = ap (λ (d : DbView g.row.F.Denot g.row.H-Digest.Denot g.row.O.Denot g.row.O-Cfg.Denot). d.journal) c.self.view_is in
    let did = c.in-Ok.ensures.joined tells ops (joined_back s h digest admits spelling ops _ _ same a b held.journal) in
    let flushed = subst (λ (x : Joined g.row.H-Digest.Denot g.row.O-Cfg.Denot). IsFlushed x c.in-Ok.journal) same c.in-Ok.ensures.same in
    held_kept s h g.O.Logged.meaning digest admits spelling ops c.args.self _ (present a) (present b)
    (record { state = ap (λ (d : DbView g.row.F.Denot g.row.H-Digest.Denot g.row.O.Denot g.row.O-Cfg.Denot). d.state) c.self.view_is; commit = ap (λ (d : DbView g.row.F.Denot g.row.H-Digest.Denot g.row.O.Denot g.row.O-Cfg.Denot). d.commit) c.self.view_is }) held did (low_flushed c.args.self.journal c.in-Ok.journal flushed held.low)

pub returns-in-Err-clause-outside : goal.returns-in-Err-clause-outside
returns-in-Err-clause-outside g c tells ops held =
    let s = g.F.Family.shape in
    let h = g.H.Hasher.hash in
    let digest = g.H.Digest.Spelled.spelling in
    let admits = g.H.Digest.Read.admits tt in
    let spelling = g.O.Spelled.spelling in
    let a = g.V.Volume.state c.args.vol.now in
    let b = g.V.Volume.state c.sync.new.vol in
    let same : c.self.inside.journal ≡ c.args.self.journal = ap (λ (d : DbView g.row.F.Denot g.row.H-Digest.Denot g.row.O.Denot g.row.O-Cfg.Denot). d.journal) c.self.view_is in
    outside_above c.in-Err.error c.from_joined.result c.from_joined.ensures (c.in-Err.ensures.outside tells ops (joined_back s h digest admits spelling ops _ _ same a b held.journal))

pub returns-in-Ok-clause-images : goal.returns-in-Ok-clause-images
returns-in-Ok-clause-images g c tells ops marks held =
    let s = g.F.Family.shape in
    let h = g.H.Hasher.hash in
    let digest = g.H.Digest.Spelled.spelling in
    let admits = g.H.Digest.Read.admits tt in
    let spelling = g.O.Spelled.spelling in
    let a = g.V.Volume.state c.args.vol.now in
    let b = g.V.Volume.state c.sync.new.vol in
    let same : c.self.inside.journal ≡ c.args.self.journal = ap (λ (d : DbView g.row.F.Denot g.row.H-Digest.Denot g.row.O.Denot g.row.O-Cfg.Denot). d.journal) c.self.view_is in
    standing_like s h digest admits spelling ops _ _ same a b marks (all_synced _ marks) (Ok c.in-Ok.journal) _ tt (c.in-Ok.ensures.images tells ops marks) held.journal

pub returns-in-Err-clause-images : goal.returns-in-Err-clause-images
returns-in-Err-clause-images g c tells ops marks held =
    let s = g.F.Family.shape in
    let h = g.H.Hasher.hash in
    let digest = g.H.Digest.Spelled.spelling in
    let admits = g.H.Digest.Read.admits tt in
    let spelling = g.O.Spelled.spelling in
    let a = g.V.Volume.state c.args.vol.now in
    let b = g.V.Volume.state c.sync.new.vol in
    let same : c.self.inside.journal ≡ c.args.self.journal = ap (λ (d : DbView g.row.F.Denot g.row.H-Digest.Denot g.row.O.Denot g.row.O-Cfg.Denot). d.journal) c.self.view_is in
    standing_like s h digest admits spelling ops _ _ same a b marks (all_synced _ marks) (Err c.in-Err.error) _ tt (c.in-Err.ensures.images tells ops marks) held.journal

pub returns-in-Ok-clause-writes : goal.returns-in-Ok-clause-writes
returns-in-Ok-clause-writes g c sound =
    let s = g.F.Family.shape in
    let h = g.H.Hasher.hash in
    let digest = g.H.Digest.Spelled.spelling in
    let admits = g.H.Digest.Read.admits tt in
    let spelling = g.O.Spelled.spelling in
    let a = g.V.Volume.state c.args.vol.now in
    let b = g.V.Volume.state c.sync.new.vol in
    let same : c.self.inside.journal ≡ c.args.self.journal = ap (λ (d : DbView g.row.F.Denot g.row.H-Digest.Denot g.row.O.Denot g.row.O-Cfg.Denot). d.journal) c.self.view_is in
    writes_like g.V.Volume.tells joined.Volume Volume a b (Ok c.in-Ok.journal) _ tt (λ is. ok_never _ Volume _ is) (c.in-Ok.ensures.writes (ap (λ (x : Joined g.row.H-Digest.Denot g.row.O-Cfg.Denot). x.failed) same ∙ sound))

pub returns-in-Err-clause-writes : goal.returns-in-Err-clause-writes
returns-in-Err-clause-writes g c sound =
    let s = g.F.Family.shape in
    let h = g.H.Hasher.hash in
    let digest = g.H.Digest.Spelled.spelling in
    let admits = g.H.Digest.Read.admits tt in
    let spelling = g.O.Spelled.spelling in
    let a = g.V.Volume.state c.args.vol.now in
    let b = g.V.Volume.state c.sync.new.vol in
    let same : c.self.inside.journal ≡ c.args.self.journal = ap (λ (d : DbView g.row.F.Denot g.row.H-Digest.Denot g.row.O.Denot g.row.O-Cfg.Denot). d.journal) c.self.view_is in
    writes_like g.V.Volume.tells joined.Volume Volume a b (Err c.in-Err.error) _ tt (volume_below c.in-Err.error c.from_joined.result c.from_joined.ensures) (c.in-Err.ensures.writes (ap (λ (x : Joined g.row.H-Digest.Denot g.row.O-Cfg.Denot). x.failed) same ∙ sound))

pub returns-in-Ok-clause-kept : goal.returns-in-Ok-clause-kept
returns-in-Ok-clause-kept g c failed =
    let none = (c.in-Ok.ensures.kept (ap (λ (x : Joined g.row.H-Digest.Denot g.row.O-Cfg.Denot). x.failed) (ap (λ (d : DbView g.row.F.Denot g.row.H-Digest.Denot g.row.O.Denot g.row.O-Cfg.Denot). d.journal) c.self.view_is) ∙ failed)).0 in
    absurd cc

pub returns-in-Err-clause-kept : goal.returns-in-Err-clause-kept
returns-in-Err-clause-kept g c failed =
    let kept = c.in-Err.ensures.kept (ap (λ (x : Joined g.row.H-Digest.Denot g.row.O-Cfg.Denot). x.failed) (ap (λ (d : DbView g.row.F.Denot g.row.H-Digest.Denot g.row.O.Denot g.row.O-Cfg.Denot). d.journal) c.self.view_is) ∙ failed) in
    (ap Err (volume_above c.in-Err.error c.from_joined.result c.from_joined.ensures kept.0), kept.1)

pub returns-in-Ok-clause-same : goal.returns-in-Ok-clause-same
returns-in-Ok-clause-same g c = record { state = ap (λ (d : DbView g.row.F.Denot g.row.H-Digest.Denot g.row.O.Denot g.row.O-Cfg.Denot). d.state) c.self.view_is; commit = ap (λ (d : DbView g.row.F.Denot g.row.H-Digest.Denot g.row.O.Denot g.row.O-Cfg.Denot). d.commit) c.self.view_is }

pub returns-in-Ok-clause-contents : goal.returns-in-Ok-clause-contents
returns-in-Ok-clause-contents g c tells =
    let a = g.V.Volume.state c.args.vol.now in
    let b = g.V.Volume.state c.sync.new.vol in
    let same : c.self.inside.journal ≡ c.args.self.journal = ap (λ (d : DbView g.row.F.Denot g.row.H-Digest.Denot g.row.O.Denot g.row.O-Cfg.Denot). d.journal) c.self.view_is in
    subst (λ (x : Joined g.row.H-Digest.Denot g.row.O-Cfg.Denot). SameLog x.items a b) same (c.in-Ok.ensures.contents tells)

pub returns-in-Err-clause-contents : goal.returns-in-Err-clause-contents
returns-in-Err-clause-contents g c tells =
    let a = g.V.Volume.state c.args.vol.now in
    let b = g.V.Volume.state c.sync.new.vol in
    let same : c.self.inside.journal ≡ c.args.self.journal = ap (λ (d : DbView g.row.F.Denot g.row.H-Digest.Denot g.row.O.Denot g.row.O-Cfg.Denot). d.journal) c.self.view_is in
    subst (λ (x : Joined g.row.H-Digest.Denot g.row.O-Cfg.Denot). SameLog x.items a b) same (c.in-Err.ensures.contents tells)

pub returns-in-Ok-clause-names : goal.returns-in-Ok-clause-names
returns-in-Ok-clause-names g c tells =
    let a = g.V.Volume.state c.args.vol.now in
    let b = g.V.Volume.state c.sync.new.vol in
    let same : c.self.inside.journal ≡ c.args.self.journal = ap (λ (d : DbView g.row.F.Denot g.row.H-Digest.Denot g.row.O.Denot g.row.O-Cfg.Denot). d.journal) c.self.view_is in
    subst (λ (x : Joined g.row.H-Digest.Denot g.row.O-Cfg.Denot). NamesCall (logs_of x) a b) same (c.in-Ok.ensures.names tells)

pub returns-in-Err-clause-names : goal.returns-in-Err-clause-names
returns-in-Err-clause-names g c tells =
    let a = g.V.Volume.state c.args.vol.now in
    let b = g.V.Volume.state c.sync.new.vol in
    let same : c.self.inside.journal ≡ c.args.self.journal = ap (λ (d : DbView g.row.F.Denot g.row.H-Digest.Denot g.row.O.Denot g.row.O-Cfg.Denot). d.journal) c.self.view_is in
    subst (λ (x : Joined g.row.H-Digest.Denot g.row.O-Cfg.Denot). NamesCall (logs_of x) a b) same (c.in-Err.ensures.names tells)

pub returns-in-Err-clause-errors : goal.returns-in-Err-clause-errors
returns-in-Err-clause-errors g c =
    (c.in-Err.error, c.from_joined.ensures, subst (λ (x : Joined g.row.H-Digest.Denot g.row.O-Cfg.Denot). IsFromTree (IsOfFlush g.F.Family.shape x.tree) c.in-Err.error) (ap (λ (d : DbView g.row.F.Denot g.row.H-Digest.Denot g.row.O.Denot g.row.O-Cfg.Denot). d.journal) c.self.view_is) c.in-Err.ensures.errors)

pub returns-in-Ok-clause-durable : goal.returns-in-Ok-clause-durable
returns-in-Ok-clause-durable g c tells =
    let a = g.V.Volume.state c.args.vol.now in
    let b = g.V.Volume.state c.sync.new.vol in
    let same : c.self.inside.journal ≡ c.args.self.journal = ap (λ (d : DbView g.row.F.Denot g.row.H-Digest.Denot g.row.O.Denot g.row.O-Cfg.Denot). d.journal) c.self.view_is in
    subst (λ (x : Joined g.row.H-Digest.Denot g.row.O-Cfg.Denot). IsDurable x.items b × IsDurable x.tree.log b) same (c.in-Ok.ensures.durable tells)

pub returns-in-Ok-clause-nodes : goal.returns-in-Ok-clause-nodes
returns-in-Ok-clause-nodes g c tells ops held =
    let a = g.V.Volume.state c.args.vol.now in
    let b = g.V.Volume.state c.sync.new.vol in
    let same : c.self.inside.journal ≡ c.args.self.journal = ap (λ (d : DbView g.row.F.Denot g.row.H-Digest.Denot g.row.O.Denot g.row.O-Cfg.Denot). d.journal) c.self.view_is in
    c.in-Ok.ensures.nodes tells ops
    (joined_back g.F.Family.shape g.H.Hasher.hash g.H.Digest.Spelled.spelling (g.H.Digest.Read.admits tt) g.O.Spelled.spelling ops _ _ same a b held.journal)
    ∙ ap (λ (x : Joined g.row.H-Digest.Denot g.row.O-Cfg.Denot). x.tree.log.start) same
