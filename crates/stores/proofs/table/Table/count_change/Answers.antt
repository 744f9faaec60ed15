use Rattle.std.proofs.Common.{arith}
use Rattle.stores.proofs.Within.{within_more}
use Rattle.stores.proofs.table.Table.count_change.Goals as goal

pub invariant_of-self : goal.invariant_of-self
invariant_of-self c = let t = c.args.self.now in record { sixteen = t.sixteen; limited = omega arith; counted = within_more t.made t.ledgers t.counted }
