use Rattle.protocol.proofs.Words.{law}
use Rattle.protocol.proofs.promises.closed_ledger_keeps_its_word.Goals as goal

pub returns : goal.returns
returns c = law
