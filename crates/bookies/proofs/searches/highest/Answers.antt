use Rattle.std.proofs.Common.{◌∙◌, ap, eqb, filter, rules, tests, arith}
use Rattle.std.proofs.lemmas.Iterator.{YieldsList}
use Rattle.std.proofs.lemmas.Iterator.Consumers.{YieldsList-from_filter, YieldsList-at, fold_from_yields_List}
use Rattle.messages.specs.declared.entries.Held.{Held}
use Rattle.bookies.proofs.Searching.{later, latest_number, fold_highest}
use Rattle.bookies.proofs.searches.highest.Goals as goal

pub returns : goal.returns
returns g c =
    λ all given.
    let l = c.args.ledger.0 in
    let road : YieldsList g.I.Iterator.next_gives (λ h. h) c.args.entries all = record { runs = given } in
    let own = filter (λ (h : Held). eqb h.ledger.0 l) all in
    let best = fold_from_yields_List _ later _ c.fold.result c.fold.ensures.ran
    (YieldsList-from_filter {steps = g.I.Iterator.next_gives} {v = λ h. h} _ (λ (h : Held). eqb h.ledger.0 l)
    (YieldsList-at c.filter.ensures.source road) c.filter.ensures.closure (λ x b q k. search (rules, tests))) (λ a x r q k. search rules) in
    ap (λ n. n.0) best ∙ latest_number _ own ∙ fold_highest l 0 all ∙ omega arith
