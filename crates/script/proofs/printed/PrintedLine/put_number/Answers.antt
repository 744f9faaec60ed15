use Rattle.std.proofs.Common.{length, drop, decimal, ap, arith, length-append, length-drop}
use Rattle.std.proofs.lemmas.Fmt.{length-decimal-le}
use Rattle.script.proofs.printed.PrintedLine.put_number.Goals as goal

-- a number of 64 bits has at most twenty digits
pub write_digits-self-requires : goal.write_digits-self-requires
write_digits-self-requires c =
    let line = c.args.self.now in
    let digits = length-decimal-le 20 c.args.number (omega arith) (omega arith) (omega arith) in
    let behind = length-drop line.start line.room in
    (omega (arith, digits, behind, line.whole, line.within, c.requires), omega (arith, line.whole, line.within))

pub returns-clause-long : goal.returns-clause-long
returns-clause-long c =
    let line = c.args.self.now in
    let digits = length-decimal-le 20 c.args.number (omega arith) (omega arith) (omega arith) in
    let long = ap length c.write_digits-self.ensures.written in
    omega (arith, digits, long, length-append (decimal c.args.number) (drop line.start line.room))
