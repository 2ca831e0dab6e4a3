use Rattle.std.proofs.Common.{◌≡◌, ◌+◌, ◌-◌, ◌≤◌, ◌<◌, ℕ, List, [], ◌∷◌, ◌++◌, length, take, drop, refl, sym, ◌∙◌, ap, subst, arith, length-append, Err}
use Rattle.std.specs.List.{range_with_len}
use Rattle.volume_base.specs.Log.{Log, end_of}
use Rattle.volume_base.proofs.ReadLemmas.{only_read_none, only_read_joins}
use Rattle.journal_base.specs.Items.{items_of, Spells}
use Rattle.journal_base.specs.Reads.{AreItemsAt}
use Rattle.journal_base.specs.View.{log_of}
use Rattle.journal_base.proofs.ItemLemmas.{holds_here, corrupt_here, spells_item}
use Rattle.merkle_full.proofs.ListLemmas.{there_is}
use Rattle.merkle_full.proofs.ReadLemmas.{ReadRefused}
use Rattle.auth_journal.proofs.ReadingLemmas.{read_next, listed_next, unread_of, outside_of, run_end}
use Rattle.auth_journal.proofs.reading.read_range.Goals as goal

pub loop-position-init : goal.loop-position-init
loop-position-init g c =
    let view = g.C.Contiguous.view c.args.journal.now in
    let old = g.V.Volume.state c.args.vol.now in
    let from = c.args.from in
    let e : 0 ≡ from - from = omega arith in
    let none = c.new-items.ensures.items in
    record {
      so_far = only_read_none g.V.Volume.tells old;
      high = omega arith;
      counted = ap length none ∙ e;
      items = λ told. subst (λ (xs : List g.row.C-Item.Denot). AreItemsAt (items_of g.C.Item.Spelled.spelling g.C.Item.Read.admits view old) (range_with_len from (from - from)) xs) (sym none)
          (subst (λ (n : ℕ). AreItemsAt (items_of g.C.Item.Spelled.spelling g.C.Item.Read.admits view old) (range_with_len from n) []) e tt);
      listed = λ told list run low high allowed. none ∙ ap (λ n. take n (drop from list)) e;
    }

pub loop-position-preserved : goal.loop-position-preserved
loop-position-preserved g c =
    let view = g.C.Contiguous.view c.args.journal.now in
    let spelling = g.C.Item.Spelled.spelling in
    let admits = g.C.Item.Read.admits in
    let old = g.V.Volume.state c.args.vol.now in
    let now = g.V.Volume.state c.loop-position.vol in
    let from = c.args.from in
    let p = c.loop-position.position in
    let low : from ≤ p = c.loop-position.auto.position in
    let lt : p < c.args.to = c.loop-position-test.true in
    let x = c.in_ok-item.item in
    let read = c.in_ok-item.ensures {u = tt} in
    let pushed : c.push.new.self.items ≡ c.loop-position.items.items ++ x ∷ [] = (c.in_ok-push.ensures {u = tt}).items in
    record {
      so_far = only_read_joins _ _ _ _ _ _ c.loop-position.invariant.so_far read.answers;
      high = omega (arith, lt);
      counted = omega (arith, ap length pushed, length-append c.loop-position.items.items (x ∷ []), c.loop-position.invariant.counted, low);
      items = λ told.
          let same = (c.loop-position.invariant.so_far.contents told).logs view.name in
          let here = holds_here spelling admits view old now p x same (read.item told) in
          subst (λ (xs : List g.row.C-Item.Denot). AreItemsAt (items_of spelling admits view old) (range_with_len from (p + 1 - from)) xs) (sym pushed)
          (read_next (items_of spelling admits view old) from p c.loop-position.items.items x low (c.loop-position.invariant.items told) here read.admitted);
      listed = λ told list run start end allowed.
          let same = (c.loop-position.invariant.so_far.contents told).logs view.name in
          let entry = there_is list p (omega (arith, lt, end)) in
          let later : Spells spelling list (log_of view now) = subst (λ (l : Log). Spells spelling list l) (sym same) run in
          let is : x ≡ entry.0 = read.listed told list entry.0 later (omega (arith, low, start, ap (λ (l : Log). l.start) same)) entry.1 (allowed p entry.0 low lt entry.1) in
          pushed ∙ ap (λ (y : g.row.C-Item.Denot). c.loop-position.items.items ++ y ∷ []) is
          ∙ listed_next list c.loop-position.items.items from p entry.0 low (c.loop-position.invariant.listed told list run start end allowed) entry.1;
    }

pub returns-in_err-item-clause-unread : goal.returns-in_err-item-clause-unread
returns-in_err-item-clause-unread g c =
    let refused : ReadRefused g.V.Volume.tells (items_of g.C.Item.Spelled.spelling g.C.Item.Read.admits (g.C.Contiguous.view c.args.journal.now) (g.V.Volume.state c.args.vol.now)) c.loop-position.position c.in_err-item.field-0.0 =
    let view = g.C.Contiguous.view c.args.journal.now in
    let old = g.V.Volume.state c.args.vol.now in
    let now = g.V.Volume.state c.loop-position.vol in
    let p = c.loop-position.position in
    let read = c.in_err-item.ensures {u = tt} in
    record {
      pruned = λ q is. let y = read.pruned q (ap Err is) in (y.0 ∙ refl, λ told. let same = ap (λ (l : Log). l.start) ((c.loop-position.invariant.so_far.contents told).logs view.name) in omega (arith, y.1 told, same));
      past = λ q is. let y = read.out_of_range q (ap Err is) in (y.0, λ told. let same = ap end_of ((c.loop-position.invariant.so_far.contents told).logs view.name) in omega (arith, y.1 told, same));
      corrupt = λ q is. let y = read.corrupt q (ap Err is) in (y.0, λ told. corrupt_here g.C.Item.Spelled.spelling g.C.Item.Read.admits view old now p p ((c.loop-position.invariant.so_far.contents told).logs view.name) refl (y.1 told));
      errors = read.errors;
    } in
    let items = items_of g.C.Item.Spelled.spelling g.C.Item.Read.admits (g.C.Contiguous.view c.args.journal.now) (g.V.Volume.state c.args.vol.now) in
    unread_of g.V.Volume.tells items c.args.from c.loop-position.position c.args.to c.loop-position.items.items c.in_err-item.field-0.0 _ c.from_residual.ensures.1 c.loop-position.auto.position c.loop-position-test.true c.loop-position.invariant.items refused

pub returns-in_err-item-clause-outside : goal.returns-in_err-item-clause-outside
returns-in_err-item-clause-outside g c told list run start end allowed =
    let refused : ReadRefused g.V.Volume.tells (items_of g.C.Item.Spelled.spelling g.C.Item.Read.admits (g.C.Contiguous.view c.args.journal.now) (g.V.Volume.state c.args.vol.now)) c.loop-position.position c.in_err-item.field-0.0 =
    let view = g.C.Contiguous.view c.args.journal.now in
    let old = g.V.Volume.state c.args.vol.now in
    let now = g.V.Volume.state c.loop-position.vol in
    let p = c.loop-position.position in
    let read = c.in_err-item.ensures {u = tt} in
    record {
      pruned = λ q is. let y = read.pruned q (ap Err is) in (y.0 ∙ refl, λ told. let same = ap (λ (l : Log). l.start) ((c.loop-position.invariant.so_far.contents told).logs view.name) in omega (arith, y.1 told, same));
      past = λ q is. let y = read.out_of_range q (ap Err is) in (y.0, λ told. let same = ap end_of ((c.loop-position.invariant.so_far.contents told).logs view.name) in omega (arith, y.1 told, same));
      corrupt = λ q is. let y = read.corrupt q (ap Err is) in (y.0, λ told. corrupt_here g.C.Item.Spelled.spelling g.C.Item.Read.admits view old now p p ((c.loop-position.invariant.so_far.contents told).logs view.name) refl (y.1 told));
      errors = read.errors;
    } in
    let view = g.C.Contiguous.view c.args.journal.now in
    let spelling = g.C.Item.Spelled.spelling in
    let old = g.V.Volume.state c.args.vol.now in
    let items = items_of spelling g.C.Item.Read.admits view old in
    let p = c.loop-position.position in
    let low : c.args.from ≤ p = c.loop-position.auto.position in
    let lt : p < c.args.to = c.loop-position-test.true in
    let entry = there_is list p (omega (arith, lt, end)) in
    outside_of g.V.Volume.tells items p entry.0 c.in_err-item.field-0.0 _ c.from_residual.ensures.1 told (omega (arith, low, start)) (omega (arith, lt, end, run_end spelling list (log_of view old) run))
    (spells_item spelling list (log_of view old) p entry.0 run (omega (arith, low, start)) entry.1) (allowed p entry.0 low lt entry.1) refused
