use Rattle.std.proofs.Common.{rules, refl, []}
use Rattle.places.proofs.ShortLists.{laid_in, short_same}
use Rattle.places.proofs.short_lists.ShortList.new.Goals as goal

pub returns : goal.returns
returns g c = short_same _ _ (search rules) (laid_in g.T.Blank.empty g.row.N [] c.blank.result _ (search rules) c.blank.ensures refl)
