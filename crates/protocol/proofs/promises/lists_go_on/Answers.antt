use Rattle.protocol.proofs.Onward.{all_onward}
use Rattle.protocol.proofs.promises.lists_go_on.Goals as goal

pub returns : goal.returns
returns c = all_onward
