-- What is printed of a line that is no step.
use Rattle.std.specs.Prelude.{ℕ}
use Rattle.words.specs.declared.faults.LineFault.{LineFault}
use Rattle.words.specs.declared.faults.LineFault.TheVariants.{Form, Range}

abbrev pub line_number : LineFault → ℕ
line_number (Form w) = 2
line_number (Range w) = 3

abbrev pub line_word : LineFault → ℕ
line_word (Form w) = w
line_word (Range w) = w
