use Rattle.std.proofs.Common.{◌≡◌, ℕ, ◌+◌, ◌-◌, List, [], ◌∷◌, ◌++◌, ap, sym, ◌∙◌, arith}
use Rattle.std.specs.Int.{w64, to_be_bytes}
use Rattle.std.proofs.lemmas.List.{append-nil}
use Rattle.command_text.specs.declared.command.Command.TheVariants.{Append}
use Rattle.list_machine.specs.Generator.{draw, drawn, appends}
use Rattle.list_machine.proofs.Generating.{drawn_turn, appends_turn}
use Rattle.list_machine.proofs.generator.push_appends.Goals as goal

pub loop-init : goal.loop-init
loop-init c =
    let e : c.args.count - 0 ≡ c.args.count = omega arith in record {
      last = ap (λ (k : ℕ). drawn k c.args.before) e;
      added = ap (λ (k : ℕ). c.args.commands.now.items ++ appends c.args.batch k c.args.before) e;
    }

pub loop-preserved : goal.loop-preserved
loop-preserved c =
    let b = c.args.batch in
    let k = c.args.count in
    let i = c.loop.counter in
    let x = c.loop.x in
    let old = c.loop.commands.items in
    let value : c.in_ok-value.value ≡ to_be_bytes w64 (draw x) = c.in_ok-value.ensures.same ∙ c.to_be_bytes.ensures
    ∙ ap (λ (y : ℕ). to_be_bytes w64 y) c.draw-x.ensures in
    let pushed : c.push.new.self.items ≡ old ++ (Append b (to_be_bytes w64 (draw x)) ∷ []) = c.in_ok-push.ensures.items
    ∙ ap (λ (v : List ℕ). old ++ (Append b v ∷ [])) value in record {
      last = ap (λ (y : ℕ). drawn (k - (i + 1)) y) c.draw-x.ensures ∙ drawn_turn k i x c.loop-test.true
          ∙ c.loop.invariant.last;
      added = rw (pushed, c.draw-x.ensures) (appends_turn old b k i x c.loop-test.true ∙ c.loop.invariant.added);
    }

pub returns-clause-drawn : goal.returns-clause-drawn
returns-clause-drawn c =
    let e : c.args.count - c.loop.counter ≡ 0 = omega arith in
    rw e at c.loop.invariant.last

pub returns-clause-ok : goal.returns-clause-ok
returns-clause-ok c =
    let e : c.args.count - c.loop.counter ≡ 0 = omega arith in
    sym (append-nil c.loop.commands.items) ∙ rw e at c.loop.invariant.added
