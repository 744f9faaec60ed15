use Rattle.std.proofs.Common.{◌∙◌, sym, rules, tests}
use Rattle.std.proofs.lemmas.Iterator.{YieldsList}
use Rattle.std.proofs.lemmas.Iterator.Adapters.{option_map_id}
use Rattle.std.proofs.lemmas.Iterator.Search.{find_from_yields_List}
use Rattle.protocol.specs.Bookies.{is_copy}
use Rattle.bookies.proofs.Searching.{find_copy}
use Rattle.bookies.proofs.searches.find.Goals as goal

pub returns : goal.returns
returns g c =
    λ all given.
    let l = c.args.ledger.0 in
    let e = c.args.number.0 in
    let road : YieldsList g.I.Iterator.next_gives (λ h. h) c.args.entries all = record { runs = given } in
    sym (option_map_id c.find.result)
    ∙ find_from_yields_List {steps = g.I.Iterator.next_gives} {s = c.args.entries} (λ h. is_copy h l e) _ _ c.find.result c.find.ensures.ran road (λ x b q k. search (rules, tests))
    ∙ find_copy l e all
