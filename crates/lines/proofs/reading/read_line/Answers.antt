use Rattle.lines.proofs.Law.{lines_keep_steps}
use Rattle.lines.proofs.reading.read_line.Goals as goal

pub returns-clause-law : goal.returns-clause-law
returns-clause-law c = lines_keep_steps
