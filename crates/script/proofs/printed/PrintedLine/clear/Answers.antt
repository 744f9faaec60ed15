use Rattle.std.proofs.Common.{arith}
use Rattle.std.proofs.lemmas.List.{drop_all}
use Rattle.script.proofs.printed.PrintedLine.clear.Goals as goal

pub returns : goal.returns
returns c = drop_all 128 c.args.self.now.room (omega (arith, c.args.self.now.whole))
