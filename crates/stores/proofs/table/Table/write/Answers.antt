use Rattle.std.proofs.Common.{Some, ◌∙◌, arith, length-set}
use Rattle.stores.proofs.Within.{within_set}
use Rattle.stores.proofs.table.Table.write.Goals as goal

pub invariant_of-self : goal.invariant_of-self
invariant_of-self c =
    let t = c.args.self.now in
    let i = c.in-Some.row in
    let m = c.args.metadata in
    record {
      sixteen = length-set t.ledgers i (Some m) ∙ t.sixteen;
      limited = omega arith;
      counted = within_set t.made t.ledgers i m t.counted c.requires.version;
    }
