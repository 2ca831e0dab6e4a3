use Rattle.std.proofs.Common.{◌≡◌, ◌<◌, inr, Some, None, Option, Ok, sym, ◌∙◌, ap, subst}
use Rattle.std.specs.Prelude.{IfErr}
use Rattle.journal_base.specs.Items.{items_of}
use Rattle.auth_journal.specs.Batched.{joined_items}
use Rattle.auth_journal.specs.Kept.{kept_item}
use Rattle.keyless_db.specs.Batches.{MerkleizedView}
use Rattle.keyless_db.specs.Reading.{IsChainFault, IsReadAt, IsReadBelow, kept_over}
use Rattle.keyless_db.proofs.ApplyLemmas.{if_more}
use Rattle.keyless_db.proofs.FaultLemmas.{memory_fault}
use Rattle.keyless_db.proofs.KeptLemmas.{kept_there, kept_nowhere, from_chain}
use Rattle.keyless_db.proofs.batch.MerkleizedBatch.chain_value.Goals as goal

pub returns-in-Ok-clause-listed : goal.returns-in-Ok-clause-listed
returns-in-Ok-clause-listed g c tells ops list held all front of within =
    let tree = c.args.self.now.tree in
    let l = c.args.location in
    let op = c.in-Some.op.now in
    let is : kept_item tree l ≡ Some op = ap (λ (b : MerkleizedView g.row.F.Denot g.row.D.Denot g.row.O.Denot). kept_item b.tree l) (sym c.self.view_is) ∙ sym c.in-Some.ensures in
    let there = kept_there tree.nodes.first (joined_items tree.items) list l op of.items is in
    from_chain g.O.Logged.meaning list (kept_over tree.nodes.first c.args.db.now) l op there.0 there.1 ∙ ap Ok (sym c.in-Ok.ensures.value)

pub returns-in-None-clause-listed : goal.returns-in-None-clause-listed
returns-in-None-clause-listed g c tells ops list held all front of within =
    let tree = c.args.self.now.tree in
    let l = c.args.location in
    let none : kept_item tree l ≡ None = ap (λ (b : MerkleizedView g.row.F.Denot g.row.D.Denot g.row.O.Denot). kept_item b.tree l) (sym c.self.view_is) ∙ sym c.in-None.ensures in
    c.value_before.ensures.listed tells ops list tree.nodes.first held (all none) front (kept_nowhere tree.nodes.first (joined_items tree.items) list l of.items none within)

pub returns-in-Err-clause-fault : goal.returns-in-Err-clause-fault
returns-in-Err-clause-fault g c =
    inr (memory_fault g.V.Volume.tells (items_of g.O.Spelled.spelling g.O.Read.admits c.args.db.now.journal.items (g.V.Volume.state c.args.vol.now)) c.args.location)

pub returns-in-None-clause-fault : goal.returns-in-None-clause-fault
returns-in-None-clause-fault g c =
    let tree = c.args.self.now.tree in
    let l = c.args.location in
    let size = c.args.db.now.state.size in
    let items = items_of g.O.Spelled.spelling g.O.Read.admits c.args.db.now.journal.items (g.V.Volume.state c.args.vol.now) in
    let none : None ≡ kept_item tree l = c.in-None.ensures ∙ ap (λ (b : MerkleizedView g.row.F.Denot g.row.D.Denot g.row.O.Denot). kept_item b.tree l) c.self.view_is in
    subst (λ (kept : Option g.row.O.Denot). IfErr c.value_before.result (IsChainFault g.V.Volume.tells items size kept l)) none c.value_before.ensures.fault

pub returns-in-Ok-clause-told : goal.returns-in-Ok-clause-told
returns-in-Ok-clause-told g c none =
    let l = c.args.location in
    let is : kept_item c.args.self.now.tree l ≡ Some c.in-Some.op.now =
    ap (λ (b : MerkleizedView g.row.F.Denot g.row.D.Denot g.row.O.Denot). kept_item b.tree l) (sym c.self.view_is) ∙ sym c.in-Some.ensures in
    let bad : None ≡ Some c.in-Some.op.now = sym none ∙ is in
    absurd cc

pub returns-in-None-clause-told : goal.returns-in-None-clause-told
returns-in-None-clause-told g c =
    let m = g.O.Logged.meaning in
    let l = c.args.location in
    let size = c.args.db.now.state.size in
    let tells = g.V.Volume.tells in
    let items = items_of g.O.Spelled.spelling g.O.Read.admits c.args.db.now.journal.items (g.V.Volume.state c.args.vol.now) in
    if_more c.value_before.result (λ v. (l < size) × (tells → IsReadAt m items l v)) (λ v. IsReadBelow m tells items size (kept_item c.args.self.now.tree l) l v) c.value_before.ensures.told (λ v told none. told)
