use Rattle.std.proofs.Common.{◌≡◌, sym, ◌∙◌, rules, eqb}
use Rattle.std.specs.List.{list_any}
use Rattle.layout.specs.WriteSets.{write_set}
use Rattle.layout.proofs.Turns.{member_found}
use Rattle.layout.proofs.sizes.Sizes.writes_to.Goals as goal

pub returns : goal.returns
returns c =
    let set = write_set c.args.self.now c.args.e.0 in
    let found : c.contains.result ≡ list_any (λ p. eqb p c.args.position.0) set = search rules in
    found ∙ sym (member_found c.args.position.0 set)
