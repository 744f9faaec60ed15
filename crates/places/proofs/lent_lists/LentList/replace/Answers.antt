use Rattle.std.proofs.Common.{take, ap, ◌∙◌}
use Rattle.places.specs.Memory.{contents}
use Rattle.places.proofs.Records.{take_of_set}
use Rattle.places.proofs.lent_lists.LentList.replace.Goals as goal

pub returns-then-at-self-clause-records : goal.returns-then-at-self-clause-records
returns-then-at-self-clause-records g c =
    let xs = contents c.args.self.now.places in
    let n = c.args.self.now.count in
    ap (take n) c.put.ensures ∙ take_of_set n xs c.args.at c.args.item
