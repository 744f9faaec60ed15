-- The refusals and their numbers.
use Rattle.std.specs.Prelude.{ℕ}
use Rattle.words.specs.Faults.{line_number, line_word}
use Rattle.script.specs.declared.refusals.Refusal.{Refusal}
use Rattle.script.specs.declared.refusals.Refusal.TheVariants.{Output, Line, Absent}

abbrev pub refusal_number : Refusal → ℕ
refusal_number Output = 1
refusal_number (Line f) = line_number f
refusal_number (Absent w) = 4

-- the first word that by itself fails the question, or 0
abbrev pub refusal_word : Refusal → ℕ
refusal_word Output = 0
refusal_word (Line f) = line_word f
refusal_word (Absent w) = w
