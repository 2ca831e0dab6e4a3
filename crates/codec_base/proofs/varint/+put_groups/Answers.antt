use Rattle.std.proofs.Common.{◌≡◌, OnOk, ℕ, List, ◌-◌, ◌/◌, ◌++◌, ap, sym, ◌∙◌, arith, append_assoc}
use Rattle.codec_base.specs.Varint.{groups}
use Rattle.codec_base.proofs.Known.{both_on_ok}
use Rattle.codec_base.specs.VarintLaws.{splits, groups-one}
use Rattle.codec_base.proofs.varint.+put_groups.Goals as goal

pub returns-then-value-lt128-clause-ok : goal.returns-then-value-lt128-clause-ok
returns-then-value-lt128-clause-ok t c = let e = groups-one c.args.more c.args.value c.if-value-lt128.true in rw e c.push.ensures.ok

pub overflow_sub-more : goal.overflow_sub-more
overflow_sub-more t c = (splits c.args.more c.args.value c.if-value-lt128.false c.requires.below).past

pub put_groups-requires : goal.put_groups-requires
put_groups-requires t c =
    let s = splits c.args.more c.args.value c.if-value-lt128.false c.requires.below in
    (let p = s.past in let d = c.decreases in omega arith, (omega arith, s.below))

pub returns-clause-ok : goal.returns-clause-ok
returns-clause-ok t c =
    let s = splits c.args.more c.args.value c.if-value-lt128.false c.requires.below in
    let p = c.in_ok-push.ensures.ok in
    let more : OnOk c.undo_on_err.result (c.put_groups.new.out ≡ c.push-2.new.self ++ groups (c.args.more - 1) (c.args.value / 128)) = rw c.undo_on_err.ensures.same c.put_groups.ensures.ok in
    both_on_ok c.undo_on_err.result c.undo_on_err.ensures.ok more
    (λ same e. same ∙ e ∙ ap (λ (o : List ℕ). o ++ groups (c.args.more - 1) (c.args.value / 128)) p ∙ append_assoc c.args.out.now _ _ ∙ ap (λ (o : List ℕ). c.args.out.now ++ o) (sym s.parts))
