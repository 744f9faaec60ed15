use Rattle.journals.proofs.Owned.{reads_back}
use Rattle.journals.proofs.promises.journals_read_back.Goals as goal

pub returns : goal.returns
returns c = reads_back
