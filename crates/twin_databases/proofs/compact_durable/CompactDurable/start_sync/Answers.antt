use Rattle.std.proofs.Common.{Bool, ℕ, List, sym, ap, subst}
use Rattle.volume_base.specs.Volume.{OnlyLeft}
use Rattle.journal_base.specs.Tickets.{is_failed}
use Rattle.journal_base.specs.View.{SameButBounds, after_sync}
use Rattle.compact_db.specs.DbView.{seen_log}
use Rattle.twin_databases.proofs.CompactDurable.{not_failed, synced_list}
use Rattle.twin_databases.proofs.CompactLemmas.{same_name}
use Rattle.twin_databases.proofs.CompactMoments.{synced_done, synced_not}
use Rattle.twin_databases.proofs.compact_durable.CompactDurable.start_sync.Goals as goal

pub returns-in-Ok-default-Done-clause-list : goal.returns-in-Ok-default-Done-clause-list
returns-in-Ok-default-Done-clause-list g c =
    let done = c.in-Ok-default-Done in
    let made = done.ensures in
    let was = seen_log c.args.self.log in
    let is = seen_log done.db.log in
    synced_list g.V.Volume.tells c.args.self (g.V.Volume.state c.args.volume.now)
    (g.V.Volume.state c.start_sync.new.vol) done.db
    (not_failed was is c.requires (subst (λ (b : Bool). SameButBounds (after_sync was b) is)
    (ap is_failed done.field-0-1-is) made.log))
    made.held (made.syncs c.requires).contents

pub returns-in-Ok-default-Done-clause-durable : goal.returns-in-Ok-default-Done-clause-durable
returns-in-Ok-default-Done-clause-durable g c = λ told.
    let done = c.in-Ok-default-Done in
    let made = done.ensures in
    let state = g.V.Volume.state c.start_sync.new.vol in
    let was = seen_log c.args.self.log in
    let is = seen_log done.db.log in
    let same = not_failed was is c.requires (subst (λ (b : Bool). SameButBounds (after_sync was b) is)
    (ap is_failed done.field-0-1-is) made.log) in
    subst (λ (name : List ℕ). OnlyLeft (state.log_left state.clock name) (state.log name)) (sym (same_name was is same))
    (made.durable done.field-0-1-is told)

pub returns-in-Ok-default-Done-clause-images : goal.returns-in-Ok-default-Done-clause-images
returns-in-Ok-default-Done-clause-images g c = λ told s good is.
    let made = c.in-Ok-default-Done in
    synced_done c.args.self (g.V.Volume.state c.args.volume.now) s good is g.V.Volume.tells
    (g.V.Volume.state c.start_sync.new.vol) _ _ (made.ensures.syncs c.requires)
    (made.ensures.durable made.field-0-1-is) told

pub returns-in-Ok-default-Failed-clause-images : goal.returns-in-Ok-default-Failed-clause-images
returns-in-Ok-default-Failed-clause-images g c = λ told s good is.
    synced_not c.args.self (g.V.Volume.state c.args.volume.now) s good is g.V.Volume.tells
    (g.V.Volume.state c.start_sync.new.vol) _ _ (c.in-Ok-default-Failed.ensures.syncs c.requires) told
