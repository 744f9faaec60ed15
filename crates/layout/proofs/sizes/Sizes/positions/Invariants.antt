use Rattle.std.proofs.Common.{◌≡◌, ◌+◌, ◌%◌}
use Rattle.places.specs.ShortLists.{listed}
use Rattle.layout.specs.WriteSets.{positions}
use Rattle.layout.proofs.sizes.Sizes.positions.Given as goal

-- so many positions are listed, and this is the next one
abbrev pub invariant-loop-offset : goal.invariant-loop-offset
invariant-loop-offset l =
    (listed l.positions ≡ positions l.offset l.fn.e.0 l.self.ensemble)
    × (l.at.0 ≡ (l.fn.e.0 + l.offset) % l.self.ensemble)
