use Rattle.std.proofs.Common.{◌≡◌}
use Rattle.layout.specs.Layouts.{fragment_below}
use Rattle.layout.proofs.fragments.Layout.fragment_of.Given as goal

abbrev pub invariant-loop-fragment : goal.invariant-loop-fragment
invariant-loop-fragment l = l.found ≡ fragment_below l.self.fragments l.fragment-index l.e.0
