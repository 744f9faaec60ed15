use Rattle.std.proofs.Common.{◌≡◌, true}
use Rattle.layout.specs.WriteSets.{covers_below, marked}
use Rattle.layout.proofs.sizes.Sizes.covers.Given as goal

abbrev pub invariant-loop-e : goal.invariant-loop-e
invariant-loop-e l = covers_below l.self (marked l.marks) l.e ≡ true
