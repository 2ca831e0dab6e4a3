use Rattle.std.proofs.Common.{◌≡◌, ◌-◌, None, Global, List, length, map, ◌∙◌, ap, subst, arith}
use Rattle.std.specs.Prelude.{slice_get}
use Rattle.std.specs.Option.{option_copied}
use Rattle.std.specs.declared.rc.Rc.{Rc}
use Rattle.auth_journal.specs.declared.segment.Segment.{Segment}
use Rattle.auth_journal.specs.Batched.{SealedItems, joined_items}
use Rattle.auth_journal.specs.Kept.{kept_item}
use Rattle.auth_journal.proofs.BatchLemmas.{joined_count}
use Rattle.auth_journal.proofs.ListLemmas.{kept_none, kept_some}
use Rattle.auth_journal.proofs.sealed.MerkleizedBatch.item.Goals as goal

pub count_of-requires : goal.count_of-requires
count_of-requires g c =
    let f : Rc (Segment g.row.Item.Denot) Global → List g.row.Item.Denot = λ r. r.value in
    let xs = c.self.inside.items.items in
    let sound = c.leaves.ensures.sound in
    let all = joined_count g.F.Family.shape c.self.inside.nodes.first c.self.inside.nodes.links c.self.inside.nodes.leaves (map f xs) sound.linked c.self.invariant in
    let same = ap (λ (ys : List (Rc (Segment g.row.Item.Denot) Global)). length (joined_items (map f ys))) c.deref.ensures.value in
    omega (arith, all, same, sound.few)

pub overflow_sub-first : goal.overflow_sub-first
overflow_sub-first g c =
    let f : Rc (Segment g.row.Item.Denot) Global → List g.row.Item.Denot = λ r. r.value in
    let xs = c.self.inside.items.items in
    let all = joined_count g.F.Family.shape c.self.inside.nodes.first c.self.inside.nodes.links c.self.inside.nodes.leaves (map f xs) c.leaves.ensures.sound.linked c.self.invariant in
    let same = ap (λ (ys : List (Rc (Segment g.row.Item.Denot) Global)). length (joined_items (map f ys))) c.deref.ensures.value in
    omega (arith, all, same, c.count_of.ensures, c.as_u64-leaves.ensures, c.leaves.ensures.leaves)

pub returns-then-position-first : goal.returns-then-position-first
returns-then-position-first g c =
    let f : Rc (Segment g.row.Item.Denot) Global → List g.row.Item.Denot = λ r. r.value in
    let xs = c.self.inside.items.items in
    let all = joined_count g.F.Family.shape c.self.inside.nodes.first c.self.inside.nodes.links c.self.inside.nodes.leaves (map f xs) c.leaves.ensures.sound.linked c.self.invariant in
    let same = ap (λ (ys : List (Rc (Segment g.row.Item.Denot) Global)). length (joined_items (map f ys))) c.deref.ensures.value in
    subst (λ (b : SealedItems g.row.D.Denot g.row.Item.Denot). None ≡ kept_item b c.args.position) c.self.view_is
    (kept_none (record { nodes = c.self.inside.nodes; bagging = c.self.inside.bagging; items = map f xs }) c.args.position
    (omega (arith, all, same, c.count_of.ensures, c.as_u64-leaves.ensures, c.leaves.ensures.leaves, c.if-position-first.true)))

pub returns : goal.returns
returns g c =
    let f : Rc (Segment g.row.Item.Denot) Global → List g.row.Item.Denot = λ r. r.value in
    let xs = c.self.inside.items.items in
    let all = joined_count g.F.Family.shape c.self.inside.nodes.first c.self.inside.nodes.links c.self.inside.nodes.leaves (map f xs) c.leaves.ensures.sound.linked c.self.invariant in
    let same = ap (λ (ys : List (Rc (Segment g.row.Item.Denot) Global)). length (joined_items (map f ys))) c.deref.ensures.value in
    let first : c.as_u64-leaves.result - c.count_of.result ≡ c.self.inside.nodes.first = omega (arith, all, same, c.count_of.ensures, c.as_u64-leaves.ensures, c.leaves.ensures.leaves) in
    subst (λ (b : SealedItems g.row.D.Denot g.row.Item.Denot). option_copied c.item_of.result ≡ kept_item b c.args.position) c.self.view_is
    (c.item_of.ensures ∙ ap (λ (ys : List (Rc (Segment g.row.Item.Denot) Global)). slice_get (joined_items (map f ys)) (c.args.position - (c.as_u64-leaves.result - c.count_of.result))) c.deref-2.ensures.value
    ∙ ap (λ n. slice_get (joined_items (map f xs)) (c.args.position - n)) first
    ∙ kept_some (record { nodes = c.self.inside.nodes; bagging = c.self.inside.bagging; items = map f xs }) c.args.position
    (omega (arith, first, c.if-position-first.false)))
