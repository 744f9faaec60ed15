use Rattle.std.proofs.Common.{take, ap, ◌∙◌}
use Rattle.places.proofs.Records.{take_of_set}
use Rattle.places.proofs.short_lists.ShortList.replace.Goals as goal

pub returns-then-at-self : goal.returns-then-at-self
returns-then-at-self g c =
    let n = c.args.self.now.count in
    ap (take n) c.put.ensures ∙ take_of_set n c.args.self.now.items c.args.at c.args.item
