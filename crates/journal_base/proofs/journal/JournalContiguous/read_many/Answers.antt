use Rattle.std.proofs.Common.{rules, ◌≡◌, ℕ, List, [], ◌∷◌, ◌++◌, take, get_or, sym, ap, subst, arith}
use Rattle.volume_base.specs.Log.{Log, end_of}
use Rattle.journal_base.specs.Items.{items_of}
use Rattle.journal_base.specs.Reads.{AreItemsAt}
use Rattle.journal_base.specs.View.{view_of}
use Rattle.volume_base.proofs.ReadLemmas.{only_read_joins}
use Rattle.journal_base.proofs.ItemLemmas.{holds_here, corrupt_here}
use Rattle.journal_base.proofs.ReadsLemmas.{items_more, take_more, first_failing}
use Rattle.journal_base.proofs.journal.JournalContiguous.read_many.Goals as goal

pub returns-in_err-item-clause-pruned : goal.returns-in_err-item-clause-pruned
returns-in_err-item-clause-pruned g c told p is =
    let why = c.read.ensures.pruned p (search rules) in
    let starts = ap (λ (l : Log). l.start) ((c.loop-position.invariant.so_far.contents told).logs (view_of c.args.self.now).name) in
    (first_failing (items_of g.T.Spelled.spelling g.T.Read.admits (view_of c.args.self.now) (g.V.Volume.state c.args.vol.now)) c.args.positions.now c.loop-position.position-index c.loop-position.items.items p c.loop-position-test.true why.0 (c.loop-position.invariant.items told), omega (arith, why.0, why.1 told, starts))

pub returns-in_err-item-clause-out_of_range : goal.returns-in_err-item-clause-out_of_range
returns-in_err-item-clause-out_of_range g c told p is =
    let why = c.read.ensures.out_of_range p (search rules) in
    let ends = ap end_of ((c.loop-position.invariant.so_far.contents told).logs (view_of c.args.self.now).name) in
    (first_failing (items_of g.T.Spelled.spelling g.T.Read.admits (view_of c.args.self.now) (g.V.Volume.state c.args.vol.now)) c.args.positions.now c.loop-position.position-index c.loop-position.items.items p c.loop-position-test.true why.0 (c.loop-position.invariant.items told), omega (arith, why.0, why.1 told, ends))

pub returns-in_err-item-clause-corrupt : goal.returns-in_err-item-clause-corrupt
returns-in_err-item-clause-corrupt g c told p is =
    let view = view_of c.args.self.now in
    let same = (c.loop-position.invariant.so_far.contents told).logs view.name in
    let why = c.read.ensures.corrupt p (search rules) in
    let here = corrupt_here g.T.Spelled.spelling g.T.Read.admits view (g.V.Volume.state c.args.vol.now) (g.V.Volume.state c.loop-position.vol) p (get_or c.args.positions.now c.loop-position.position-index 0) same why.0 (why.1 told) in
    (first_failing (items_of g.T.Spelled.spelling g.T.Read.admits (view_of c.args.self.now) (g.V.Volume.state c.args.vol.now)) c.args.positions.now c.loop-position.position-index c.loop-position.items.items p c.loop-position-test.true why.0 (c.loop-position.invariant.items told), here)

pub loop-position-preserved : goal.loop-position-preserved
loop-position-preserved g c =
    let view = view_of c.args.self.now in
    let items = items_of g.T.Spelled.spelling g.T.Read.admits view (g.V.Volume.state c.args.vol.now) in
    let positions = c.args.positions.now in
    let i = c.loop-position.position-index in
    let pushed : c.push.new.self.items ≡ c.loop-position.items.items ++ c.in_ok-item.item ∷ [] = c.in_ok-push.ensures.items in
    record {
      so_far = only_read_joins _ _ _ _ _ _ c.loop-position.invariant.so_far c.in_ok-item.ensures.answers;
      items = λ told.
          let same = (c.loop-position.invariant.so_far.contents told).logs view.name in
          let here = holds_here g.T.Spelled.spelling g.T.Read.admits view (g.V.Volume.state c.args.vol.now) (g.V.Volume.state c.loop-position.vol) (get_or positions i 0) c.in_ok-item.item same (c.in_ok-item.ensures.item told) in
          let more = items_more items (take i positions) c.loop-position.items.items (get_or positions i 0) c.in_ok-item.item (c.loop-position.invariant.items told) here c.in_ok-item.ensures.admitted in
          subst (λ (ps : List ℕ). AreItemsAt items ps c.push.new.self.items) (sym (take_more positions i c.loop-position-test.true))
          (subst (λ xs. AreItemsAt items (take i positions ++ get_or positions i 0 ∷ []) xs) (sym pushed) more);
      reads = omega (arith, c.read.ensures.reads, c.loop-position.invariant.reads);
      counted = omega (arith, c.read.ensures.reads, c.loop-position.invariant.counted);
    }
