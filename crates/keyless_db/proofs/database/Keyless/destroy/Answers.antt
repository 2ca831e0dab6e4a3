use Rattle.std.proofs.Common.{◌≡◌, Err, ap, subst}
use Rattle.std.specs.FinMap as finmap
use Rattle.volume_base.specs.Log.{no_log}
use Rattle.volume_base.specs.Names.{NamesCall}
use Rattle.volume_base.specs.Volume.{OnlyLeft}
use Rattle.journal_base.specs.View.{log_of, left_of}
use Rattle.auth_journal.specs.Joined.{Joined}
use Rattle.auth_journal.specs.Standing.{names_of, ItemsGoFirst}
use Rattle.auth_journal.specs.declared.error.Error.TheVariants as joined
use Rattle.chain_core.specs.declared.error.Error.TheVariants.{Volume}
use Rattle.keyless_db.specs.DbView.{DbView}
use Rattle.keyless_db.proofs.LiftLemmas.{volume_below, outside_above, writes_like}
use Rattle.keyless_db.proofs.database.Keyless.destroy.Goals as goal

pub returns-in-Ok-clause-no_items : goal.returns-in-Ok-clause-no_items
returns-in-Ok-clause-no_items g c tells =
    let a = g.V.Volume.state c.args.vol.now in
    let b = g.V.Volume.state c.destroy.new.vol in
    let same : c.self.inside.journal ≡ c.args.self.journal = ap (λ (d : DbView g.row.F.Denot g.row.H-Digest.Denot g.row.O.Denot g.row.O-Cfg.Denot). d.journal) c.self.view_is in
    subst (λ (x : Joined g.row.H-Digest.Denot g.row.O-Cfg.Denot). log_of x.items b ≡ no_log) same (c.in-Ok.ensures.no_items tells)

pub returns-in-Ok-clause-no_nodes : goal.returns-in-Ok-clause-no_nodes
returns-in-Ok-clause-no_nodes g c tells =
    let a = g.V.Volume.state c.args.vol.now in
    let b = g.V.Volume.state c.destroy.new.vol in
    let same : c.self.inside.journal ≡ c.args.self.journal = ap (λ (d : DbView g.row.F.Denot g.row.H-Digest.Denot g.row.O.Denot g.row.O-Cfg.Denot). d.journal) c.self.view_is in
    subst (λ (x : Joined g.row.H-Digest.Denot g.row.O-Cfg.Denot). log_of x.tree.log b ≡ no_log) same (c.in-Ok.ensures.no_nodes tells)

pub returns-in-Ok-clause-no_map : goal.returns-in-Ok-clause-no_map
returns-in-Ok-clause-no_map g c tells =
    let a = g.V.Volume.state c.args.vol.now in
    let b = g.V.Volume.state c.destroy.new.vol in
    let same : c.self.inside.journal ≡ c.args.self.journal = ap (λ (d : DbView g.row.F.Denot g.row.H-Digest.Denot g.row.O.Denot g.row.O-Cfg.Denot). d.journal) c.self.view_is in
    subst (λ (x : Joined g.row.H-Digest.Denot g.row.O-Cfg.Denot). b.map x.tree.metadata ≡ finmap.empty) same (c.in-Ok.ensures.no_map tells)

pub returns-in-Ok-clause-durable_items : goal.returns-in-Ok-clause-durable_items
returns-in-Ok-clause-durable_items g c tells =
    let a = g.V.Volume.state c.args.vol.now in
    let b = g.V.Volume.state c.destroy.new.vol in
    let same : c.self.inside.journal ≡ c.args.self.journal = ap (λ (d : DbView g.row.F.Denot g.row.H-Digest.Denot g.row.O.Denot g.row.O-Cfg.Denot). d.journal) c.self.view_is in
    subst (λ (x : Joined g.row.H-Digest.Denot g.row.O-Cfg.Denot). OnlyLeft (left_of x.items b) no_log) same (c.in-Ok.ensures.durable_items tells)

pub returns-in-Ok-clause-durable_nodes : goal.returns-in-Ok-clause-durable_nodes
returns-in-Ok-clause-durable_nodes g c tells =
    let a = g.V.Volume.state c.args.vol.now in
    let b = g.V.Volume.state c.destroy.new.vol in
    let same : c.self.inside.journal ≡ c.args.self.journal = ap (λ (d : DbView g.row.F.Denot g.row.H-Digest.Denot g.row.O.Denot g.row.O-Cfg.Denot). d.journal) c.self.view_is in
    subst (λ (x : Joined g.row.H-Digest.Denot g.row.O-Cfg.Denot). OnlyLeft (left_of x.tree.log b) no_log) same (c.in-Ok.ensures.durable_nodes tells)

pub returns-in-Ok-clause-durable_map : goal.returns-in-Ok-clause-durable_map
returns-in-Ok-clause-durable_map g c tells =
    let a = g.V.Volume.state c.args.vol.now in
    let b = g.V.Volume.state c.destroy.new.vol in
    let same : c.self.inside.journal ≡ c.args.self.journal = ap (λ (d : DbView g.row.F.Denot g.row.H-Digest.Denot g.row.O.Denot g.row.O-Cfg.Denot). d.journal) c.self.view_is in
    subst (λ (x : Joined g.row.H-Digest.Denot g.row.O-Cfg.Denot). OnlyLeft (b.map_left b.clock x.tree.metadata) finmap.empty) same (c.in-Ok.ensures.durable_map tells)

pub returns-in-Ok-clause-names : goal.returns-in-Ok-clause-names
returns-in-Ok-clause-names g c tells =
    let a = g.V.Volume.state c.args.vol.now in
    let b = g.V.Volume.state c.destroy.new.vol in
    let same : c.self.inside.journal ≡ c.args.self.journal = ap (λ (d : DbView g.row.F.Denot g.row.H-Digest.Denot g.row.O.Denot g.row.O-Cfg.Denot). d.journal) c.self.view_is in
    subst (λ (x : Joined g.row.H-Digest.Denot g.row.O-Cfg.Denot). NamesCall (names_of x) a b) same (c.in-Ok.ensures.names tells)

pub returns-in-Ok-clause-images : goal.returns-in-Ok-clause-images
returns-in-Ok-clause-images g c tells =
    let a = g.V.Volume.state c.args.vol.now in
    let b = g.V.Volume.state c.destroy.new.vol in
    let same : c.self.inside.journal ≡ c.args.self.journal = ap (λ (d : DbView g.row.F.Denot g.row.H-Digest.Denot g.row.O.Denot g.row.O-Cfg.Denot). d.journal) c.self.view_is in
    subst (λ (x : Joined g.row.H-Digest.Denot g.row.O-Cfg.Denot). ItemsGoFirst x a b) same (c.in-Ok.ensures.images tells)

pub returns-clause-names : goal.returns-clause-names
returns-clause-names g c tells =
    let a = g.V.Volume.state c.args.vol.now in
    let b = g.V.Volume.state c.destroy.new.vol in
    let same : c.self.inside.journal ≡ c.args.self.journal = ap (λ (d : DbView g.row.F.Denot g.row.H-Digest.Denot g.row.O.Denot g.row.O-Cfg.Denot). d.journal) c.self.view_is in
    subst (λ (x : Joined g.row.H-Digest.Denot g.row.O-Cfg.Denot). NamesCall (names_of x) a b) same (c.in-Err.ensures.names tells)

pub returns-clause-images : goal.returns-clause-images
returns-clause-images g c tells =
    let a = g.V.Volume.state c.args.vol.now in
    let b = g.V.Volume.state c.destroy.new.vol in
    let same : c.self.inside.journal ≡ c.args.self.journal = ap (λ (d : DbView g.row.F.Denot g.row.H-Digest.Denot g.row.O.Denot g.row.O-Cfg.Denot). d.journal) c.self.view_is in
    subst (λ (x : Joined g.row.H-Digest.Denot g.row.O-Cfg.Denot). ItemsGoFirst x a b) same (c.in-Err.ensures.images tells)

pub returns-clause-outside : goal.returns-clause-outside
returns-clause-outside g c = outside_above c.in-Err.error c.from_joined.result c.from_joined.ensures c.in-Err.ensures.outside

pub returns-clause-writes : goal.returns-clause-writes
returns-clause-writes g c =
    let a = g.V.Volume.state c.args.vol.now in
    let b = g.V.Volume.state c.destroy.new.vol in
    let same : c.self.inside.journal ≡ c.args.self.journal = ap (λ (d : DbView g.row.F.Denot g.row.H-Digest.Denot g.row.O.Denot g.row.O-Cfg.Denot). d.journal) c.self.view_is in
    writes_like g.V.Volume.tells joined.Volume Volume a b (Err c.in-Err.error) _ tt (volume_below c.in-Err.error c.from_joined.result c.from_joined.ensures) c.in-Err.ensures.writes
