use Rattle.protocol.proofs.Refusals.{still}
use Rattle.protocol.proofs.promises.refusals_alter_nothing.Goals as goal

pub returns : goal.returns
returns c = still
