use Rattle.std.proofs.Common.{◌≡◌, ◌<◌, ◌≤◌, length, max, false, Ok, Err, sym, ◌∙◌, ap, subst, arith}
use Rattle.volume_base.specs.Moments.{present}
use Rattle.volume_base.specs.Names.{NamesCall}
use Rattle.volume_base.specs.Volume.{MapStays}
use Rattle.journal_base.specs.Blobs.{blob_start}
use Rattle.journal_base.specs.Items.{items_of}
use Rattle.journal_base.specs.View.{IsHeld, IsDurable, log_of, prune_point}
use Rattle.volume_base.specs.Log.{pruned_to}
use Rattle.tree_shape.specs.Shape.{made}
use Rattle.merkle_full.specs.Pruning.{KeepsPins}
use Rattle.auth_journal.specs.Durable.{IsPrunedTo, IsFromTree, IsJournalUnpruned}
use Rattle.auth_journal.specs.Joined.{Joined}
use Rattle.auth_journal.specs.Standing.{names_of, all_synced, pruned_below}
use Rattle.auth_journal.specs.declared.error.Error.TheVariants as joined
use Rattle.chain_core.specs.declared.error.Error.TheVariants.{Volume}
use Rattle.keyless_db.specs.DbView.{DbView}
use Rattle.keyless_db.proofs.HeldLemmas.{ok_first, sound_prune, low_pruned, held_kept, end_of_held, some_ops}
use Rattle.keyless_db.proofs.LiftLemmas.{volume_below, outside_above, changes_like, ok_never, never_beyond, joined_back, standing_like, standing_moved, standing_none}
use Rattle.keyless_db.proofs.database.Keyless.prune.Goals as goal

pub invariant_of-result : goal.invariant_of-result
invariant_of-result g c =
    let sound : c.self.inside.journal.failed ≡ false = sym c.keeps_failure.ensures ∙ c.if-keeps_failure.false in
    sound_prune c.self.inside.journal c.in-Ok.journal c.in-Ok.ensures.moved
    (λ none. ok_first _ _ _ _ (c.in-Ok.ensures.empty sound none).0) c.self.inside.state c.self.invariant

pub returns-in-Ok-clause-moved : goal.returns-in-Ok-clause-moved
returns-in-Ok-clause-moved g c =
    let a = g.V.Volume.state c.args.vol.now in
    let b = g.V.Volume.state c.prune.new.vol in
    let same : c.self.inside.journal ≡ c.args.self.journal = ap (λ (d : DbView g.row.F.Denot g.row.H-Digest.Denot g.row.O.Denot g.row.O-Cfg.Denot). d.journal) c.self.view_is in
    subst (λ (x : Joined g.row.H-Digest.Denot g.row.O-Cfg.Denot). 0 < x.items.end → IsPrunedTo x c.in-Ok.journal) same c.in-Ok.ensures.moved

pub returns-in-Ok-clause-held : goal.returns-in-Ok-clause-held
returns-in-Ok-clause-held g c tells ops held =
    let s = g.F.Family.shape in
    let h = g.H.Hasher.hash in
    let digest = g.H.Digest.Spelled.spelling in
    let admits = g.H.Digest.Read.admits tt in
    let spelling = g.O.Spelled.spelling in
    let a = g.V.Volume.state c.args.vol.now in
    let b = g.V.Volume.state c.prune.new.vol in
    let same : c.self.inside.journal ≡ c.args.self.journal = ap (λ (d : DbView g.row.F.Denot g.row.H-Digest.Denot g.row.O.Denot g.row.O-Cfg.Denot). d.journal) c.self.view_is in
    let m = g.O.Logged.meaning in
    let n = c.new-2.result in
    let here = joined_back s h digest admits spelling ops _ _ same a b held.journal in
    let did = c.in-Ok.ensures.joined tells ops here in
    let some : 0 < c.args.self.journal.items.end = omega (arith, end_of_held s h m digest admits spelling ops c.args.self (present a) held, some_ops m ops held.db_of.ends) in
    let moved = subst (λ (x : Joined g.row.H-Digest.Denot g.row.O-Cfg.Denot). 0 < x.items.end → IsPrunedTo x c.in-Ok.journal) same c.in-Ok.ensures.moved some in
    let after = subst (λ (x : Joined g.row.H-Digest.Denot g.row.O-Cfg.Denot). 0 < x.items.end → IsHeld c.in-Ok.journal.items b) same (λ more. c.in-Ok.ensures.held more tells) some in
    let pruned = subst (λ (x : Joined g.row.H-Digest.Denot g.row.O-Cfg.Denot). 0 < x.items.end → log_of x.items b ≡ pruned_to (log_of x.items a) (prune_point x.items n a)) same (λ more. c.in-Ok.ensures.pruned more tells) some in
    let was : IsHeld c.args.self.journal.items a = record { start_is = held.journal.start_is; end_is = held.journal.end_is } in
    held_kept s h m digest admits spelling ops c.args.self _ (present a) (present b)
    (record { state = ap (λ (d : DbView g.row.F.Denot g.row.H-Digest.Denot g.row.O.Denot g.row.O-Cfg.Denot). d.state) c.self.view_is; commit = ap (λ (d : DbView g.row.F.Denot g.row.H-Digest.Denot g.row.O.Denot g.row.O-Cfg.Denot). d.commit) c.self.view_is }) held did (low_pruned c.args.self.journal c.in-Ok.journal moved a b _ was after pruned held.low)

pub returns-in-Err-clause-outside : goal.returns-in-Err-clause-outside
returns-in-Err-clause-outside g c tells ops held below =
    let s = g.F.Family.shape in
    let h = g.H.Hasher.hash in
    let digest = g.H.Digest.Spelled.spelling in
    let admits = g.H.Digest.Read.admits tt in
    let spelling = g.O.Spelled.spelling in
    let a = g.V.Volume.state c.args.vol.now in
    let b = g.V.Volume.state c.prune.new.vol in
    let same : c.self.inside.journal ≡ c.args.self.journal = ap (λ (d : DbView g.row.F.Denot g.row.H-Digest.Denot g.row.O.Denot g.row.O-Cfg.Denot). d.journal) c.self.view_is in
    outside_above c.in-Err.error c.from_joined.result c.from_joined.ensures (c.in-Err.ensures.outside tells ops (joined_back s h digest admits spelling ops _ _ same a b held.journal))

pub returns-in-Err-clause-refused_only : goal.returns-in-Err-clause-refused_only
returns-in-Err-clause-refused_only g c l f is = absurd (never_beyond c.in-Err.error c.from_joined.result l f c.from_joined.ensures is)

pub returns-in-Ok-clause-names : goal.returns-in-Ok-clause-names
returns-in-Ok-clause-names g c tells =
    let a = g.V.Volume.state c.args.vol.now in
    let b = g.V.Volume.state c.prune.new.vol in
    let same : c.self.inside.journal ≡ c.args.self.journal = ap (λ (d : DbView g.row.F.Denot g.row.H-Digest.Denot g.row.O.Denot g.row.O-Cfg.Denot). d.journal) c.self.view_is in
    subst (λ (x : Joined g.row.H-Digest.Denot g.row.O-Cfg.Denot). NamesCall (names_of x) a b) same (c.in-Ok.ensures.names tells)

pub returns-in-Ok-clause-images : goal.returns-in-Ok-clause-images
returns-in-Ok-clause-images g c tells ops marks held =
    let s = g.F.Family.shape in
    let h = g.H.Hasher.hash in
    let digest = g.H.Digest.Spelled.spelling in
    let admits = g.H.Digest.Read.admits tt in
    let spelling = g.O.Spelled.spelling in
    let a = g.V.Volume.state c.args.vol.now in
    let b = g.V.Volume.state c.prune.new.vol in
    let same : c.self.inside.journal ≡ c.args.self.journal = ap (λ (d : DbView g.row.F.Denot g.row.H-Digest.Denot g.row.O.Denot g.row.O-Cfg.Denot). d.journal) c.self.view_is in
    let place : c.new-2.result ≡ c.args.loc = c.new-2.ensures ∙ c.as_u64-location.ensures in
    standing_moved s h digest spelling ops c.args.self.journal marks (λ l. pruned_below l (all_synced (length ops) marks)) _ _ a b _ place
    (standing_like s h digest admits spelling ops _ _ same a b marks _ (Ok (c.in-Ok.journal, c.in-Ok.field-0-1)) _ tt (c.in-Ok.ensures.images tells ops marks) held.journal)

pub returns-in-Err-clause-names : goal.returns-in-Err-clause-names
returns-in-Err-clause-names g c tells =
    let a = g.V.Volume.state c.args.vol.now in
    let b = g.V.Volume.state c.prune.new.vol in
    let same : c.self.inside.journal ≡ c.args.self.journal = ap (λ (d : DbView g.row.F.Denot g.row.H-Digest.Denot g.row.O.Denot g.row.O-Cfg.Denot). d.journal) c.self.view_is in
    subst (λ (x : Joined g.row.H-Digest.Denot g.row.O-Cfg.Denot). NamesCall (names_of x) a b) same (c.in-Err.ensures.names tells)

pub returns-in-Err-clause-images : goal.returns-in-Err-clause-images
returns-in-Err-clause-images g c tells ops marks held =
    let s = g.F.Family.shape in
    let h = g.H.Hasher.hash in
    let digest = g.H.Digest.Spelled.spelling in
    let admits = g.H.Digest.Read.admits tt in
    let spelling = g.O.Spelled.spelling in
    let a = g.V.Volume.state c.args.vol.now in
    let b = g.V.Volume.state c.prune.new.vol in
    let same : c.self.inside.journal ≡ c.args.self.journal = ap (λ (d : DbView g.row.F.Denot g.row.H-Digest.Denot g.row.O.Denot g.row.O-Cfg.Denot). d.journal) c.self.view_is in
    let place : c.new-2.result ≡ c.args.loc = c.new-2.ensures ∙ c.as_u64-location.ensures in
    standing_moved s h digest spelling ops c.args.self.journal marks (λ l. pruned_below l (all_synced (length ops) marks)) _ _ a b _ place
    (standing_like s h digest admits spelling ops _ _ same a b marks _ (Err c.in-Err.error) _ tt (c.in-Err.ensures.images tells ops marks) held.journal)

pub returns-in-Err-clause-changes : goal.returns-in-Err-clause-changes
returns-in-Err-clause-changes g c sound =
    let a = g.V.Volume.state c.args.vol.now in
    let b = g.V.Volume.state c.prune.new.vol in
    let same : c.self.inside.journal ≡ c.args.self.journal = ap (λ (d : DbView g.row.F.Denot g.row.H-Digest.Denot g.row.O.Denot g.row.O-Cfg.Denot). d.journal) c.self.view_is in
    changes_like g.V.Volume.tells joined.Volume Volume a b (Err c.in-Err.error) _ tt (volume_below c.in-Err.error c.from_joined.result c.from_joined.ensures) (c.in-Err.ensures.changes (ap (λ (x : Joined g.row.H-Digest.Denot g.row.O-Cfg.Denot). x.failed) same ∙ sound))

pub returns-in-Ok-clause-changes : goal.returns-in-Ok-clause-changes
returns-in-Ok-clause-changes g c sound =
    let a = g.V.Volume.state c.args.vol.now in
    let b = g.V.Volume.state c.prune.new.vol in
    let same : c.self.inside.journal ≡ c.args.self.journal = ap (λ (d : DbView g.row.F.Denot g.row.H-Digest.Denot g.row.O.Denot g.row.O-Cfg.Denot). d.journal) c.self.view_is in
    changes_like g.V.Volume.tells joined.Volume Volume a b (Ok (c.in-Ok.journal, c.in-Ok.field-0-1)) _ tt (λ is. ok_never _ Volume _ is) (c.in-Ok.ensures.changes (ap (λ (x : Joined g.row.H-Digest.Denot g.row.O-Cfg.Denot). x.failed) same ∙ sound))

pub returns-then-keeps_failure-clause-images : goal.returns-then-keeps_failure-clause-images
returns-then-keeps_failure-clause-images g c tells ops marks held =
    standing_none g.F.Family.shape g.H.Hasher.hash g.H.Digest.Spelled.spelling g.O.Spelled.spelling ops c.args.self.journal marks
    (pruned_below c.args.loc (all_synced (length ops) marks)) (g.V.Volume.state c.args.vol.now) _ tt

pub returns-then-location-floor-clause-images : goal.returns-then-location-floor-clause-images
returns-then-location-floor-clause-images g c tells ops marks held =
    standing_none g.F.Family.shape g.H.Hasher.hash g.H.Digest.Spelled.spelling g.O.Spelled.spelling ops c.args.self.journal marks
    (pruned_below c.args.loc (all_synced (length ops) marks)) (g.V.Volume.state c.args.vol.now) _ tt

pub returns-in-Ok-clause-durable : goal.returns-in-Ok-clause-durable
returns-in-Ok-clause-durable g c some tells =
    let b = g.V.Volume.state c.prune.new.vol in
    let same : c.self.inside.journal ≡ c.args.self.journal = ap (λ (d : DbView g.row.F.Denot g.row.H-Digest.Denot g.row.O.Denot g.row.O-Cfg.Denot). d.journal) c.self.view_is in
    subst (λ (x : Joined g.row.H-Digest.Denot g.row.O-Cfg.Denot). 0 < x.items.end → IsDurable x.items b) same (λ more. c.in-Ok.ensures.durable more tells) some

pub returns-in-Ok-clause-nodes : goal.returns-in-Ok-clause-nodes
returns-in-Ok-clause-nodes g c low tells ops held =
    let s = g.F.Family.shape in
    let a = g.V.Volume.state c.args.vol.now in
    let b = g.V.Volume.state c.prune.new.vol in
    let k = c.in-Ok.journal in
    let same : c.self.inside.journal ≡ c.args.self.journal = ap (λ (d : DbView g.row.F.Denot g.row.H-Digest.Denot g.row.O.Denot g.row.O-Cfg.Denot). d.journal) c.self.view_is in
    let here = joined_back s g.H.Hasher.hash g.H.Digest.Spelled.spelling (g.H.Digest.Read.admits tt) g.O.Spelled.spelling ops _ _ same a b held.journal in
    subst (λ (x : Joined g.row.H-Digest.Denot g.row.O-Cfg.Denot). x.tree.boundary < k.items.start →
    k.tree.log.start ≡ max x.tree.log.start (blob_start x.tree.log.blob (length (made s k.items.start)))) same (λ lo. c.in-Ok.ensures.nodes lo tells ops here) low

pub returns-in-Ok-clause-pins : goal.returns-in-Ok-clause-pins
returns-in-Ok-clause-pins g c tells =
    let a = g.V.Volume.state c.args.vol.now in
    let b = g.V.Volume.state c.prune.new.vol in
    let same : c.self.inside.journal ≡ c.args.self.journal = ap (λ (d : DbView g.row.F.Denot g.row.H-Digest.Denot g.row.O.Denot g.row.O-Cfg.Denot). d.journal) c.self.view_is in
    subst (λ (x : Joined g.row.H-Digest.Denot g.row.O-Cfg.Denot). KeepsPins (a.map x.tree.metadata) (b.map x.tree.metadata)) same (c.in-Ok.ensures.pins tells)

pub returns-in-Err-clause-errors : goal.returns-in-Err-clause-errors
returns-in-Err-clause-errors g c le sound =
    let b = g.V.Volume.state c.prune.new.vol in
    let same : c.self.inside.journal ≡ c.args.self.journal = ap (λ (d : DbView g.row.F.Denot g.row.H-Digest.Denot g.row.O.Denot g.row.O-Cfg.Denot). d.journal) c.self.view_is in (
      c.in-Err.error,
      c.from_joined.ensures,
      subst (λ (x : Joined g.row.H-Digest.Denot g.row.O-Cfg.Denot).
          IsFromTree (IsJournalUnpruned g.F.Family.shape g.V.Volume.tells x.tree (items_of g.H.Digest.Spelled.spelling g.H.Digest.Read.admits x.tree.log b) (log_of x.items b).start) c.in-Err.error) same
          c.in-Err.ensures.errors,
    )

pub returns-in-Ok-clause-log : goal.returns-in-Ok-clause-log
returns-in-Ok-clause-log g c =
    let b = g.V.Volume.state c.prune.new.vol in
    let same : c.self.inside.journal ≡ c.args.self.journal = ap (λ (d : DbView g.row.F.Denot g.row.H-Digest.Denot g.row.O.Denot g.row.O-Cfg.Denot). d.journal) c.self.view_is in
    subst (λ (x : Joined g.row.H-Digest.Denot g.row.O-Cfg.Denot). 0 < x.items.end → g.V.Volume.tells → IsHeld c.in-Ok.journal.items b) same c.in-Ok.ensures.held

pub returns-in-Ok-clause-nodes_stay : goal.returns-in-Ok-clause-nodes_stay
returns-in-Ok-clause-nodes_stay g c low tells ops held =
    let a = g.V.Volume.state c.args.vol.now in
    let b = g.V.Volume.state c.prune.new.vol in
    let k = c.in-Ok.journal in
    let same : c.self.inside.journal ≡ c.args.self.journal = ap (λ (d : DbView g.row.F.Denot g.row.H-Digest.Denot g.row.O.Denot g.row.O-Cfg.Denot). d.journal) c.self.view_is in
    let here = joined_back g.F.Family.shape g.H.Hasher.hash g.H.Digest.Spelled.spelling (g.H.Digest.Read.admits tt) g.O.Spelled.spelling ops _ _ same a b held.journal in
    subst (λ (x : Joined g.row.H-Digest.Denot g.row.O-Cfg.Denot). k.items.start ≤ x.tree.boundary → k.tree.log.start ≡ x.tree.log.start) same (λ le. c.in-Ok.ensures.nodes_stay le tells ops here) low

pub returns-in-Ok-clause-map_stays : goal.returns-in-Ok-clause-map_stays
returns-in-Ok-clause-map_stays g c low tells =
    let a = g.V.Volume.state c.args.vol.now in
    let b = g.V.Volume.state c.prune.new.vol in
    let k = c.in-Ok.journal in
    let same : c.self.inside.journal ≡ c.args.self.journal = ap (λ (d : DbView g.row.F.Denot g.row.H-Digest.Denot g.row.O.Denot g.row.O-Cfg.Denot). d.journal) c.self.view_is in
    subst (λ (x : Joined g.row.H-Digest.Denot g.row.O-Cfg.Denot). k.items.start ≤ x.tree.boundary → (b.map x.tree.metadata ≡ a.map x.tree.metadata) × MapStays x.tree.metadata a b) same (λ le. c.in-Ok.ensures.map_stays le tells) low
