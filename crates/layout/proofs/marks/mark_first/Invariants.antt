use Rattle.std.proofs.Common.{◌≡◌, drop}
use Rattle.layout.specs.WriteSets.{mark}
use Rattle.layout.proofs.marks.mark_first.Given as goal

-- what is left gives the answer
abbrev pub invariant-loop-position : goal.invariant-loop-position
invariant-loop-position l =
    mark l.fragment.bookies (drop l.position-index l.positions) l.bookie.0 l.marks ≡ mark l.fragment.bookies l.positions l.bookie.0 l.initial.marks
