use Rattle.std.proofs.Common.{sym, arith}
use Rattle.layout.specs.WriteSets.{marked}
use Rattle.layout.proofs.Turns.{covers_more, covers_not}
use Rattle.layout.proofs.sizes.Sizes.covers.Goals as goal

pub returns-then-not-is_blocked : goal.returns-then-not-is_blocked
returns-then-not-is_blocked c =
    let s = c.args.self.now in
    sym (covers_not s (marked c.args.marks.now) s.ensemble c.loop-e.e (omega arith) (cc))

pub loop-e-preserved : goal.loop-e-preserved
loop-e-preserved c = covers_more c.args.self.now (marked c.args.marks.now) c.loop-e.e c.loop-e.invariant (cc)
