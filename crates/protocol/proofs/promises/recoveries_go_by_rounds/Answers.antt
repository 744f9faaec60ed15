use Rattle.protocol.proofs.Rounds.{rounds}
use Rattle.protocol.proofs.promises.recoveries_go_by_rounds.Goals as goal

pub returns : goal.returns
returns c = rounds
