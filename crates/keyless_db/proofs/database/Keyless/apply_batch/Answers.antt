use Rattle.std.proofs.Common.{◌≡◌, inl, ℕ, ◌+◌, ◌-◌, ◌^◌, ◌<◌, ◌∷◌, ◌++◌, length, map, refl, sym, ◌∙◌, ap, subst, arith}
use Rattle.std.specs.Prelude.{Contains}
use Rattle.journal_base.specs.View.{log_of}
use Rattle.volume_base.specs.Log.{Grows, end_of}
use Rattle.volume_base.specs.Names.{log_alone}
use Rattle.volume_base.proofs.CallLemmas.{names_call_log}
use Rattle.tree_core.specs.Applied.{Fits, FitsTree}
use Rattle.auth_journal.specs.Appending.{unapplied}
use Rattle.auth_journal.specs.Joined.{leaves_of}
use Rattle.auth_journal.specs.Standing.{KeepsStanding}
use Rattle.auth_journal.proofs.AppendLemmas.{appends_none}
use Rattle.auth_journal.proofs.LeafLemmas.{length-leaves_of}
use Rattle.auth_journal.proofs.ReadingLemmas.{run_end}
use Rattle.chain_core.specs.Reached.{item_at}
use Rattle.chain_core.specs.declared.commitment.Commitment.{Commitment}
use Rattle.chain_core.specs.declared.error.Error.{Error}
use Rattle.chain_core.specs.declared.error.Error.TheVariants.{StaleBatch, Volume}
use Rattle.keyless_db.specs.Batches.{MerkleizedView, IsMerkleizedOf}
use Rattle.keyless_db.proofs.ApplyLemmas.{err_ok, if_more, one_item, still_standing}
use Rattle.keyless_db.proofs.DbLemmas.{size_of_list}
use Rattle.keyless_db.proofs.MarkLemmas.{marked_fits}
use Rattle.keyless_db.proofs.database.Keyless.apply_batch.Goals as goal

pub returns-in-Err-clause-appends : goal.returns-in-Err-clause-appends
returns-in-Err-clause-appends g c b at =
    let a = g.V.Volume.state c.args.vol.now in
    appends_none g.V.Volume.tells g.O.Spelled.spelling c.args.self.journal.items (unapplied b.tree c.args.self.journal.tree.tree.leaves) a a Volume _ c.in-Err.error
    (λ fault. let stale : Error g.row.F.Denot = StaleBatch in let never : stale ≡ Volume = sym c.in-Err.ensures.stale ∙ fault in cc)

pub returns-in-Err-clause-images : goal.returns-in-Err-clause-images
returns-in-Err-clause-images g c tells ops marks b at held =
    still_standing g.F.Family.shape g.H.Hasher.hash g.H.Digest.Spelled.spelling g.O.Spelled.spelling ops marks g.met.F.Family.lawful
    (unapplied b.tree c.args.self.journal.tree.tree.leaves) c.args.self.journal (g.V.Volume.state c.args.vol.now)

pub returns-clause-stale : goal.returns-clause-stale
returns-clause-stale g c b at off =
    let same = c.batch.view_is ∙ one_item (item_at c.args.pool.now c.args.id) c.item-batch.result.now b c.item-batch.ensures at in
    absurd (off (subst (λ (x : MerkleizedView g.row.F.Denot g.row.H-Digest.Denot g.row.O.Denot). Contains (x.bounds.db ∷ x.bounds.ancestors) c.args.self.state) same
    (subst (λ (k : Commitment g.row.F.Denot g.row.H-Digest.Denot). Contains (c.batch.inside.bounds.db ∷ c.batch.inside.bounds.ancestors) k)
    c.commitment-here.ensures (c.in-Ok.ensures.at_boundary_or_ancestor.0 refl))))

pub returns-clause-unfit : goal.returns-clause-unfit
returns-clause-unfit g c is b at here i fits =
    let same = one_item (item_at c.args.pool.now c.args.id) c.item-batch.result.now b c.item-batch.ensures at in
    c.applied.ensures.unfit is i
    (subst (λ (x : MerkleizedView g.row.F.Denot g.row.H-Digest.Denot g.row.O.Denot). FitsTree g.F.Family.shape c.args.self.journal.tree.tree x.tree.nodes i) (sym same) fits)

pub returns-clause-held : goal.returns-clause-held
returns-clause-held g c = if_more c.applied.result _ _ c.applied.ensures.held (λ d did tells b at ops more held of.
    let same = one_item (item_at c.args.pool.now c.args.id) c.item-batch.result.now b c.item-batch.ensures at in
    let here = subst (λ (x : MerkleizedView g.row.F.Denot g.row.H-Digest.Denot g.row.O.Denot). Contains (x.bounds.db ∷ x.bounds.ancestors) c.args.self.state) c.batch.view_is
    (subst (λ (k : Commitment g.row.F.Denot g.row.H-Digest.Denot). Contains (c.batch.inside.bounds.db ∷ c.batch.inside.bounds.ancestors) k)
    c.commitment-here.ensures (c.in-Ok.ensures.at_boundary_or_ancestor.0 refl)) in
    did tells ops more here held
    (subst (λ (x : MerkleizedView g.row.F.Denot g.row.H-Digest.Denot g.row.O.Denot).
    IsMerkleizedOf g.F.Family.shape g.H.Hasher.hash g.O.Logged.meaning g.O.Spelled.spelling (ops ++ more) x) (sym same) of))

pub returns-clause-names : goal.returns-clause-names
returns-clause-names g c tells =
    let items = c.args.self.journal.items in
    let a = g.V.Volume.state c.args.vol.now in
    let b = g.V.Volume.state c.applied.new.vol in
    let step = Grows (log_of items a) (map g.O.Spelled.spelling (unapplied c.item-batch.result.now.tree c.args.self.journal.tree.tree.leaves)) in
    names_call_log (log_alone items.name) items.name step a b (inl refl) (c.applied.ensures.appends.log tells)

pub returns-clause-images : goal.returns-clause-images
returns-clause-images g c tells ops marks b at held =
    let same = one_item (item_at c.args.pool.now c.args.id) c.item-batch.result.now b c.item-batch.ensures at in
    subst (λ (x : MerkleizedView g.row.F.Denot g.row.H-Digest.Denot g.row.O.Denot).
    KeepsStanding g.F.Family.shape g.H.Hasher.hash g.H.Digest.Spelled.spelling g.O.Spelled.spelling ops (ops ++ unapplied x.tree c.args.self.journal.tree.tree.leaves) marks
    c.args.self.journal (g.V.Volume.state c.args.vol.now) (g.V.Volume.state c.applied.new.vol)) same (c.applied.ensures.images tells ops marks held)

pub returns-clause-full : goal.returns-clause-full
returns-clause-full g c is =
    let did = c.applied.ensures.full is in (
      did.0,
      λ b at tells.
          let same = one_item (item_at c.args.pool.now c.args.id) c.item-batch.result.now b c.item-batch.ensures at in
          subst (λ (x : MerkleizedView g.row.F.Denot g.row.H-Digest.Denot g.row.O.Denot).
          2 ^ 64 - 1 < end_of (log_of c.args.self.journal.items (g.V.Volume.state c.args.vol.now)) + x.tree.nodes.leaves) same (did.1 tells),
    )

pub returns-clause-beyond : goal.returns-clause-beyond
returns-clause-beyond g c is b at tells =
    let same = one_item (item_at c.args.pool.now c.args.id) c.item-batch.result.now b c.item-batch.ensures at in
    subst (λ (x : MerkleizedView g.row.F.Denot g.row.H-Digest.Denot g.row.O.Denot).
    2 ^ 64 - 1 < end_of (log_of c.args.self.journal.items (g.V.Volume.state c.args.vol.now)) + length (unapplied x.tree c.args.self.journal.tree.tree.leaves)) same (c.applied.ensures.beyond is tells)

pub returns-in-Err-clause-fits : goal.returns-in-Err-clause-fits
returns-in-Err-clause-fits g c is b at ops more image held of marks here =
    let same = c.batch.view_is ∙ one_item (item_at c.args.pool.now c.args.id) c.item-batch.result.now b c.item-batch.ensures at in
    let there = subst (λ (k : Commitment g.row.F.Denot g.row.H-Digest.Denot). Contains (c.batch.inside.bounds.db ∷ c.batch.inside.bounds.ancestors) k) (sym c.commitment-here.ensures)
    (subst (λ (x : MerkleizedView g.row.F.Denot g.row.H-Digest.Denot g.row.O.Denot). Contains (x.bounds.db ∷ x.bounds.ancestors) c.args.self.state) (sym same) here) in
    err_ok ℕ c.in-Err.error (c.in-Err.ensures.at_boundary_or_ancestor.1 there)

pub returns-clause-fits : goal.returns-clause-fits
returns-clause-fits g c is b at ops more image held of marks here =
    let s = g.F.Family.shape in
    let h = g.H.Hasher.hash in
    let m = g.O.Logged.meaning in
    let spelling = g.O.Spelled.spelling in
    let front = leaves_of s h spelling ops in
    let same = one_item (item_at c.args.pool.now c.args.id) c.item-batch.result.now b c.item-batch.ensures at in
    let leaves : length ops ≡ c.args.self.journal.tree.tree.leaves = sym (held.journal.tree.tree.count ∙ length-leaves_of s h spelling ops) in
    let found = marked_fits s h m spelling g.met.F.Family.lawful ops more b c.args.self.state of marks (size_of_list s h m spelling ops c.args.self held.db_of) here in
    let there = subst (λ (x : MerkleizedView g.row.F.Denot g.row.H-Digest.Denot g.row.O.Denot). Fits s h front (length ops) x.tree.nodes found.0) (sym same) found.1 in
    c.applied.ensures.misfit is front held.journal.tree.tree found.0 (subst (λ n. Fits s h front n c.item-batch.result.now.tree.nodes found.0) leaves there)

pub returns-clause-room : goal.returns-clause-room
returns-clause-room g c is tells b at ops more held of =
    let same = one_item (item_at c.args.pool.now c.args.id) c.item-batch.result.now b c.item-batch.ensures at in
    let over = (c.applied.ensures.full is).1 tells in
    let sizes = ap (λ (x : MerkleizedView g.row.F.Denot g.row.H-Digest.Denot g.row.O.Denot). x.bounds.tip.size) (c.batch.view_is ∙ same) in
    let leaves = ap (λ (x : MerkleizedView g.row.F.Denot g.row.H-Digest.Denot g.row.O.Denot). x.tree.nodes.leaves) c.batch.view_is in
    let tip = ap (λ (k : Commitment g.row.F.Denot g.row.H-Digest.Denot). k.size) of.batch.bounds.tip in
    let ends = run_end g.O.Spelled.spelling ops (log_of c.args.self.journal.items (g.V.Volume.state c.args.vol.now)) held.journal.items in
    absurd (omega (arith, over, leaves, c.batch.invariant.tip, sizes, tip, of.few, ends, held.db_of.few))
