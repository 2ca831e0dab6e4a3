use Rattle.std.proofs.Common.{◌≡◌, ◌≤◌, ◌<◌, ◌-◌, ◌++◌, length, min, Some, None, Option, Ok, refl, sym, ◌∙◌, ap, subst, arith}
use Rattle.std.specs.Prelude.{slice_get, IfErr, IfOk}
use Rattle.std.specs.Option.{option_map_or}
use Rattle.merkle_full.proofs.ListLemmas.{there_is}
use Rattle.journal_base.specs.Items.{items_of}
use Rattle.chain_core.specs.Reached.{linked_item}
use Rattle.chain_core.specs.declared.commitment.Commitment.{Commitment}
use Rattle.keyless_db.specs.Batches.{MerkleizedView, UnmerkleizedView}
use Rattle.keyless_db.specs.Reading.{IsChainFault, IsReadAt, IsReadBelow, chain_start, kept_over, kept_value, pending_item}
use Rattle.keyless_db.proofs.ApplyLemmas.{for_each, if_more}
use Rattle.keyless_db.proofs.FaultLemmas.{pending_collected, pending_kept, pending_none, unless_memory}
use Rattle.keyless_db.proofs.KeptLemmas.{from_chain, get_later, kept_longer}
use Rattle.keyless_db.proofs.SeveralLemmas.{answers_by, answers_copied}
use Rattle.keyless_db.proofs.batch.UnmerkleizedBatch.own_value.Goals as goal

pub returns-then-location-base-clause-listed : goal.returns-then-location-base-clause-listed
returns-then-location-base-clause-listed g c tells ops list held all front of parents =
    let b = c.args.self.now in
    let l = c.args.location in
    let m = g.O.Logged.meaning in
    let base : c.as_u64-base.result ≡ b.base.size = c.as_u64-base.ensures ∙ ap (λ (x : UnmerkleizedView g.row.F.Denot g.row.H-Digest.Denot g.row.O.Denot). x.base.size) c.self.view_is in
    let count : b.base.size ≡ length list = ap (λ (x : Commitment g.row.F.Denot g.row.H-Digest.Denot). x.size) of.base in
    let low : c.as_u64-base.result ≤ l = c.if-location-base.true in
    let entry = there_is b.tree.items (l - c.as_u64-base.result) (omega (arith, c.requires.within, base, low)) in
    let place : l - c.as_u64-base.result ≡ l - length list = omega (arith, base, count) in
    let at = get_later list b.tree.items l entry.0 (omega (arith, low, base, count)) (ap (slice_get b.tree.items) (sym place) ∙ entry.1) in
    let kept = kept_over (chain_start c.args.pool.now b) c.args.db.now in
    answers_copied _ (m.value entry.0) c.collected_value.result (from_chain m (list ++ b.tree.items) kept l entry.0 (omega (arith, low, base)) at)
    (c.collected_value.ensures.value entry.0 entry.1) c.collected_value.ensures.memory

pub returns-in-Some-clause-listed : goal.returns-in-Some-clause-listed
returns-in-Some-clause-listed g c tells ops list held all front of parents =
    let b = c.args.self.now in
    let l = c.args.location in
    let m = g.O.Logged.meaning in
    let pool = c.args.pool.now in
    let db = c.args.db.now in
    let p = c.item.result.now in
    let base : c.as_u64-base.result ≡ b.base.size = c.as_u64-base.ensures ∙ ap (λ (x : UnmerkleizedView g.row.F.Denot g.row.H-Digest.Denot g.row.O.Denot). x.base.size) c.self.view_is in
    let count : b.base.size ≡ length list = ap (λ (x : Commitment g.row.F.Denot g.row.H-Digest.Denot). x.size) of.base in
    let below : l < b.base.size = omega (arith, c.if-location-base.false, base) in
    let within : l < length list = omega (arith, below, count) in
    let linked : linked_item pool b.parent ≡ Some p =
    ap (λ (x : UnmerkleizedView g.row.F.Denot g.row.H-Digest.Denot g.row.O.Denot). linked_item pool x.parent) (sym c.self.view_is) ∙ ap (linked_item pool) c.in-Some.is ∙ c.item.ensures in
    let first : chain_start pool b ≡ min b.base.size p.tree.nodes.first =
    ap (λ (o : Option (MerkleizedView g.row.F.Denot g.row.H-Digest.Denot g.row.O.Denot)). min b.base.size (option_map_or (λ x. x.tree.nodes.first) o b.base.size)) linked in
    answers_by (λ (v : Option g.row.O-Value.Denot). v) _ _ c.chain_value.result
    (kept_longer m list b.tree.items b.base.size p.tree.nodes.first db.journal.items.start db.state.size l within below ∙ ap (λ n. kept_value m (list ++ b.tree.items) (kept_over n db) l) (sym first))
    (c.chain_value.ensures.listed tells ops list held (λ none. all (pending_kept pool b l p below linked ∙ none)) front (parents p linked) within)

pub returns-in-None-clause-listed : goal.returns-in-None-clause-listed
returns-in-None-clause-listed g c tells ops list held all front of parents =
    let b = c.args.self.now in
    let l = c.args.location in
    let m = g.O.Logged.meaning in
    let pool = c.args.pool.now in
    let db = c.args.db.now in
    let base : c.as_u64-base.result ≡ b.base.size = c.as_u64-base.ensures ∙ ap (λ (x : UnmerkleizedView g.row.F.Denot g.row.H-Digest.Denot g.row.O.Denot). x.base.size) c.self.view_is in
    let count : b.base.size ≡ length list = ap (λ (x : Commitment g.row.F.Denot g.row.H-Digest.Denot). x.size) of.base in
    let below : l < b.base.size = omega (arith, c.if-location-base.false, base) in
    let within : l < length list = omega (arith, below, count) in
    let linked : linked_item pool b.parent ≡ None =
    ap (λ (x : UnmerkleizedView g.row.F.Denot g.row.H-Digest.Denot g.row.O.Denot). linked_item pool x.parent) (sym c.self.view_is) ∙ ap (linked_item pool) c.in-None.is in
    let first : chain_start pool b ≡ min b.base.size b.base.size =
    ap (λ (o : Option (MerkleizedView g.row.F.Denot g.row.H-Digest.Denot g.row.O.Denot)). min b.base.size (option_map_or (λ x. x.tree.nodes.first) o b.base.size)) linked in
    answers_by (λ (v : Option g.row.O-Value.Denot). v) _ _ c.value_before.result
    (kept_longer m list b.tree.items b.base.size b.base.size db.journal.items.start db.state.size l within below ∙ ap (λ n. kept_value m (list ++ b.tree.items) (kept_over n db) l) (sym first))
    (c.value_before.ensures.listed tells ops list b.base.size held (all (pending_none pool b l below linked)) front below)

pub returns-then-location-base-clause-chain : goal.returns-then-location-base-clause-chain
returns-then-location-base-clause-chain g c op at =
    let b = c.args.self.now in
    let l = c.args.location in
    let base : c.as_u64-base.result ≡ b.base.size = c.as_u64-base.ensures ∙ ap (λ (x : UnmerkleizedView g.row.F.Denot g.row.H-Digest.Denot g.row.O.Denot). x.base.size) c.self.view_is in
    let low : c.as_u64-base.result ≤ l = c.if-location-base.true in
    let there = ap (λ n. slice_get b.tree.items (l - n)) base ∙ sym (pending_collected c.args.pool.now b l (omega (arith, low, base))) ∙ at in
    (answers_copied (Ok (g.O.Logged.meaning.value op)) (g.O.Logged.meaning.value op) c.collected_value.result refl (c.collected_value.ensures.value op there) c.collected_value.ensures.memory, refl)

pub returns-then-location-base-clause-fault : goal.returns-then-location-base-clause-fault
returns-then-location-base-clause-fault g c =
    let db = c.args.db.now in
    let items = items_of g.O.Spelled.spelling g.O.Read.admits db.journal.items (g.V.Volume.state c.args.vol.now) in
    unless_memory g.V.Volume.tells items db.state.size (pending_item c.args.pool.now c.args.self.now c.args.location) c.args.location c.collected_value.result c.collected_value.ensures.memory

pub returns-in-Some-clause-chain : goal.returns-in-Some-clause-chain
returns-in-Some-clause-chain g c op at =
    let b = c.args.self.now in
    let l = c.args.location in
    let pool = c.args.pool.now in
    let p = c.item.result.now in
    let base : c.as_u64-base.result ≡ b.base.size = c.as_u64-base.ensures ∙ ap (λ (x : UnmerkleizedView g.row.F.Denot g.row.H-Digest.Denot g.row.O.Denot). x.base.size) c.self.view_is in
    let below : l < b.base.size = omega (arith, c.if-location-base.false, base) in
    let linked : linked_item pool b.parent ≡ Some p =
    ap (λ (x : UnmerkleizedView g.row.F.Denot g.row.H-Digest.Denot g.row.O.Denot). linked_item pool x.parent) (sym c.self.view_is) ∙ ap (linked_item pool) c.in-Some.is ∙ c.item.ensures in
    c.chain_value.ensures.chain op (sym (pending_kept pool b l p below linked) ∙ at)

pub returns-in-Some-clause-fault : goal.returns-in-Some-clause-fault
returns-in-Some-clause-fault g c =
    let b = c.args.self.now in
    let l = c.args.location in
    let pool = c.args.pool.now in
    let db = c.args.db.now in
    let p = c.item.result.now in
    let items = items_of g.O.Spelled.spelling g.O.Read.admits db.journal.items (g.V.Volume.state c.args.vol.now) in
    let base : c.as_u64-base.result ≡ b.base.size = c.as_u64-base.ensures ∙ ap (λ (x : UnmerkleizedView g.row.F.Denot g.row.H-Digest.Denot g.row.O.Denot). x.base.size) c.self.view_is in
    let below : l < b.base.size = omega (arith, c.if-location-base.false, base) in
    let linked : linked_item pool b.parent ≡ Some p =
    ap (λ (x : UnmerkleizedView g.row.F.Denot g.row.H-Digest.Denot g.row.O.Denot). linked_item pool x.parent) (sym c.self.view_is) ∙ ap (linked_item pool) c.in-Some.is ∙ c.item.ensures in
    subst (λ (kept : Option g.row.O.Denot). IfErr c.chain_value.result (IsChainFault g.V.Volume.tells items db.state.size kept l)) (sym (pending_kept pool b l p below linked)) c.chain_value.ensures.fault

pub returns-in-None-clause-chain : goal.returns-in-None-clause-chain
returns-in-None-clause-chain g c op at =
    let b = c.args.self.now in
    let l = c.args.location in
    let pool = c.args.pool.now in
    let base : c.as_u64-base.result ≡ b.base.size = c.as_u64-base.ensures ∙ ap (λ (x : UnmerkleizedView g.row.F.Denot g.row.H-Digest.Denot g.row.O.Denot). x.base.size) c.self.view_is in
    let below : l < b.base.size = omega (arith, c.if-location-base.false, base) in
    let linked : linked_item pool b.parent ≡ None =
    ap (λ (x : UnmerkleizedView g.row.F.Denot g.row.H-Digest.Denot g.row.O.Denot). linked_item pool x.parent) (sym c.self.view_is) ∙ ap (linked_item pool) c.in-None.is in
    let bad : None ≡ Some op = sym (pending_none pool b l below linked) ∙ at in
    absurd cc

pub returns-in-None-clause-fault : goal.returns-in-None-clause-fault
returns-in-None-clause-fault g c =
    let b = c.args.self.now in
    let l = c.args.location in
    let pool = c.args.pool.now in
    let db = c.args.db.now in
    let items = items_of g.O.Spelled.spelling g.O.Read.admits db.journal.items (g.V.Volume.state c.args.vol.now) in
    let base : c.as_u64-base.result ≡ b.base.size = c.as_u64-base.ensures ∙ ap (λ (x : UnmerkleizedView g.row.F.Denot g.row.H-Digest.Denot g.row.O.Denot). x.base.size) c.self.view_is in
    let below : l < b.base.size = omega (arith, c.if-location-base.false, base) in
    let linked : linked_item pool b.parent ≡ None =
    ap (λ (x : UnmerkleizedView g.row.F.Denot g.row.H-Digest.Denot g.row.O.Denot). linked_item pool x.parent) (sym c.self.view_is) ∙ ap (linked_item pool) c.in-None.is in
    subst (λ (kept : Option g.row.O.Denot). IfErr c.value_before.result (IsChainFault g.V.Volume.tells items db.state.size kept l)) (sym (pending_none pool b l below linked)) c.value_before.ensures.fault

pub returns-then-location-base-clause-told : goal.returns-then-location-base-clause-told
returns-then-location-base-clause-told g c =
    let b = c.args.self.now in
    let l = c.args.location in
    let pool = c.args.pool.now in
    let items = items_of g.O.Spelled.spelling g.O.Read.admits c.args.db.now.journal.items (g.V.Volume.state c.args.vol.now) in
    let base : c.as_u64-base.result ≡ b.base.size = c.as_u64-base.ensures ∙ ap (λ (x : UnmerkleizedView g.row.F.Denot g.row.H-Digest.Denot g.row.O.Denot). x.base.size) c.self.view_is in
    let low : b.base.size ≤ l = omega (arith, c.if-location-base.true, base) in
    let entry = there_is b.tree.items (l - b.base.size) (omega (arith, c.requires.within, low)) in
    for_each c.collected_value.result (λ v. IsReadBelow g.O.Logged.meaning g.V.Volume.tells items c.args.db.now.state.size (pending_item pool b l) l v)
    (λ v none. let bad : None ≡ Some entry.0 = sym none ∙ pending_collected pool b l low ∙ entry.1 in absurd cc)

pub returns-in-Some-clause-told : goal.returns-in-Some-clause-told
returns-in-Some-clause-told g c =
    let b = c.args.self.now in
    let l = c.args.location in
    let pool = c.args.pool.now in
    let db = c.args.db.now in
    let p = c.item.result.now in
    let items = items_of g.O.Spelled.spelling g.O.Read.admits db.journal.items (g.V.Volume.state c.args.vol.now) in
    let base : c.as_u64-base.result ≡ b.base.size = c.as_u64-base.ensures ∙ ap (λ (x : UnmerkleizedView g.row.F.Denot g.row.H-Digest.Denot g.row.O.Denot). x.base.size) c.self.view_is in
    let below : l < b.base.size = omega (arith, c.if-location-base.false, base) in
    let linked : linked_item pool b.parent ≡ Some p =
    ap (λ (x : UnmerkleizedView g.row.F.Denot g.row.H-Digest.Denot g.row.O.Denot). linked_item pool x.parent) (sym c.self.view_is) ∙ ap (linked_item pool) c.in-Some.is ∙ c.item.ensures in
    subst (λ (kept : Option g.row.O.Denot). IfOk c.chain_value.result (λ v. IsReadBelow g.O.Logged.meaning g.V.Volume.tells items db.state.size kept l v)) (sym (pending_kept pool b l p below linked)) c.chain_value.ensures.told

pub returns-in-None-clause-told : goal.returns-in-None-clause-told
returns-in-None-clause-told g c =
    let m = g.O.Logged.meaning in
    let l = c.args.location in
    let size = c.args.db.now.state.size in
    let tells = g.V.Volume.tells in
    let items = items_of g.O.Spelled.spelling g.O.Read.admits c.args.db.now.journal.items (g.V.Volume.state c.args.vol.now) in
    if_more c.value_before.result (λ v. (l < size) × (tells → IsReadAt m items l v)) (λ v. IsReadBelow m tells items size (pending_item c.args.pool.now c.args.self.now l) l v) c.value_before.ensures.told (λ v told none. told)
