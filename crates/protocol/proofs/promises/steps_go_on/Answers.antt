use Rattle.protocol.proofs.Onward.{onward}
use Rattle.protocol.proofs.promises.steps_go_on.Goals as goal

pub returns : goal.returns
returns c = onward
