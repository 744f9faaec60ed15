use Rattle.std.proofs.Common.{◌+◌, ◌∷◌, [], ◌++◌, length, drop, Ok, Err, sym, ap, ◌∙◌, arith, rules, tests}
use Rattle.std.proofs.lemmas.Iterator.Consumers.{YieldsList-turn, YieldsList-end}
use Rattle.std.proofs.lemmas.List.{at_drop_all, length_push}
use Rattle.std.proofs.lemmas.Result.{err_from_is_err_and}
use Rattle.std.proofs.lemmas.Bool.Decides.{nat_tests}
use Rattle.words.specs.Words.{number_in}
use Rattle.lines.specs.Numbers.{no_numbers, with_number, numbers_from}
use Rattle.lines.proofs.Cuts.{cut, words_yielded, words_behind, numbers_turn}
use Rattle.lines.proofs.numbers.Numbers.read.Goals as goal

pub returns-in_err-number : goal.returns-in_err-number
returns-in_err-number c =
    let tail = drop 1 c.args.words.now in
    let split = c.split-word-items.ensures in
    let words = words_yielded c.loop-word.yielded _ c.loop-word.yielded_by c.into_iter-word-iterator.ensures.into_iter_gives c.args.words.now split.rest split.done split.closure (λ x b q k. search (rules, tests)) in
    let here = YieldsList-turn words c.loop-word.yielded _ c.loop-word.yielded_by _ _ c.in-Some.word c.in-Some.is c.next.ensures.steps in
    let turn = numbers_turn c.loop-word.numbers (cut tail) (length c.loop-word.yielded) c.in-Some.word.now (Err c.in_err-number.field-0.0) here (c.in_err-number.ensures ∙ ap number_in c.new-word.ensures) in
    let failed = err_from_is_err_and c.from_residual.result c.from_residual.ensures.1 in
    failed.1 ∙ ap Err failed.2 ∙ sym turn ∙ c.loop-word.invariant.1 ∙ ap (numbers_from no_numbers) (sym (words_behind c.args.words.now (grind (arith, nat_tests))))

pub loop-word-preserved : goal.loop-word-preserved
loop-word-preserved c =
    let tail = drop 1 c.args.words.now in
    let split = c.split-word-items.ensures in
    let words = words_yielded c.loop-word.yielded _ c.loop-word.yielded_by c.into_iter-word-iterator.ensures.into_iter_gives c.args.words.now split.rest split.done split.closure (λ x b q k. search (rules, tests)) in
    let here = YieldsList-turn words c.loop-word.yielded _ c.loop-word.yielded_by _ _ c.in-Some.word c.in-Some.is c.next.ensures.steps in
    let turn = numbers_turn c.loop-word.numbers (cut tail) (length c.loop-word.yielded) c.in-Some.word.now (Ok c.in_ok-number.field-0) here (c.in_ok-number.ensures ∙ ap number_in c.new-word.ensures) in
    let more = length_push c.loop-word.yielded c.in-Some.word in (
      ap (λ n. n.count) c.push.ensures ∙ ap (λ k. k + 1) c.loop-word.invariant.0 ∙ sym more,
      ap (λ n. numbers_from n (drop (length (c.loop-word.yielded ++ c.in-Some.word ∷ [])) (cut tail))) c.push.ensures
          ∙ ap (λ k. numbers_from (with_number c.loop-word.numbers c.in_ok-number.field-0) (drop k (cut tail))) more
          ∙ sym turn ∙ c.loop-word.invariant.1,
    )

pub returns : goal.returns
returns c =
    let tail = drop 1 c.args.words.now in
    let split = c.split-word-items.ensures in
    let words = words_yielded c.loop-word.yielded _ c.loop-word.yielded_by c.into_iter-word-iterator.ensures.into_iter_gives c.args.words.now split.rest split.done split.closure (λ x b q k. search (rules, tests)) in
    let end = YieldsList-end words c.loop-word.yielded _ c.loop-word.yielded_by _ _ c.in-None.is c.next.ensures.steps in
    sym (at_drop_all (numbers_from c.loop-word.numbers) (cut tail) (length c.loop-word.yielded) (omega (arith, end.1)))
    ∙ c.loop-word.invariant.1 ∙ ap (numbers_from no_numbers) (sym (words_behind c.args.words.now (grind (arith, nat_tests))))
