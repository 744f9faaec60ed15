use Rattle.std.proofs.Common.{sym, ◌∙◌}
use Rattle.layout.proofs.Turns.{member_found}
use Rattle.writers.proofs.writers.changing.stands_among.Goals as goal

pub returns : goal.returns
returns c = c.contains.ensures.value ∙ sym (member_found c.args.bookie.0 c.args.bookies.now)
