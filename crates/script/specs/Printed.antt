-- The text of a printed line.
use Rattle.std.specs.Prelude.{ℕ, List, drop}
use Rattle.script.specs.declared.printed.PrintedLine.{PrintedLine}

abbrev pub text_of : PrintedLine → List ℕ
text_of p = drop p.start p.room
