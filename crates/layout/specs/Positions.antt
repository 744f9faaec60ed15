-- Positions and the numbers that they hold.
use Rattle.std.specs.Prelude.{ℕ, List}
use Rattle.places.specs.ShortLists.{listed}
use Rattle.layout.specs.declared.positions.Positions.{Positions}

-- the positions that count
abbrev pub listed_positions : Positions → List ℕ
listed_positions p = listed p.0
