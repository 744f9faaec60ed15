use Rattle.std.proofs.Common.{◌++◌, length, vec_items, sym, ap, ◌∙◌, arith, rules, tests}
use Rattle.std.proofs.lemmas.Iterator.Consumers.{YieldsList-turn, YieldsList-end}
use Rattle.std.proofs.lemmas.List.{at_drop_all, length_push}
use Rattle.script.specs.Inputs.{lines_of, all_bytes, all_counted}
use Rattle.script.proofs.Lines.{lines_yielded, turn_bytes, turn_counts}
use Rattle.script.proofs.inputs.play_lines.Goals as goal

pub loop-line-preserved : goal.loop-line-preserved
loop-line-preserved c =
    let split = c.split_inclusive-line-items.ensures in
    let lines = lines_yielded _ c.loop-line.yielded _ c.loop-line.yielded_by c.into_iter-line-iterator.ensures.into_iter_gives c.args.input.now split.rest split.closure (λ x b q k. search (rules, tests)) in
    let here = YieldsList-turn lines c.loop-line.yielded _ c.loop-line.yielded_by _ _ c.in-Some.line c.in-Some.is c.next.ensures.steps in
    let before = vec_items c.loop-line.output in
    let printed = c.in_ok-extend_from_slice.ensures.items ∙ ap (λ t. before ++ t) (c.as_slice.ensures ∙ c.play.ensures.answer) in
    let bytes = turn_bytes c.loop-line.player (lines_of c.args.input.now) (length c.loop-line.yielded) c.in-Some.line.now here before (vec_items c.extend_from_slice.new.self) c.play.new.self c.play.ensures.player printed in
    let counts = turn_counts c.loop-line.player (lines_of c.args.input.now) (length c.loop-line.yielded) c.in-Some.line.now here c.play.new.self c.play.ensures.player in
    rw (length_push c.loop-line.yielded c.in-Some.line) (bytes ∙ c.loop-line.invariant.0, counts ∙ c.loop-line.invariant.1)

pub returns : goal.returns
returns c =
    let split = c.split_inclusive-line-items.ensures in
    let lines = lines_yielded _ c.loop-line.yielded _ c.loop-line.yielded_by c.into_iter-line-iterator.ensures.into_iter_gives c.args.input.now split.rest split.closure (λ x b q k. search (rules, tests)) in
    let end = YieldsList-end lines c.loop-line.yielded _ c.loop-line.yielded_by _ _ c.in-None.is c.next.ensures.steps in
    let before = vec_items c.loop-line.output in
    let bytes = at_drop_all (all_bytes c.loop-line.player) (lines_of c.args.input.now) (length c.loop-line.yielded) (omega (arith, end.1)) in
    let counts = at_drop_all (all_counted c.loop-line.player) (lines_of c.args.input.now) (length c.loop-line.yielded) (omega (arith, end.1)) in
    record {
      output =
          c.in_ok-extend_from_slice-2.ensures.items
          ∙ ap (λ t. before ++ t) (c.as_slice-2.ensures ∙ c.totals.ensures ∙ sym bytes)
          ∙ c.loop-line.invariant.0;
      player = sym counts ∙ c.loop-line.invariant.1;
    }
