-- A script, line by line.
use Rattle.std.specs.Prelude.{◌≡◌, ℕ, ◌+◌, Bool, cond, List, length, ℤ, is_err, Ok, Err, Result, nat_le, nat_lt}
use Rattle.ledgers.specs.declared.steps.Step.{Step}
use Rattle.ledgers.specs.declared.steps.Step.TheVariants.{Create, Recover}
use Rattle.lines.specs.Reading.{first_letter, read_line}
use Rattle.words.specs.declared.faults.LineFault.{LineFault}
use Rattle.script.specs.Printing.{answer_line, totals_line, over}
use Rattle.script.specs.declared.players.Player.{Player}
use Rattle.script.specs.declared.refusals.Refusal.{Refusal}
use Rattle.script.specs.declared.refusals.Refusal.TheVariants.{Output, Line, Absent}

-- The first word of a step that names something which has to be there: nothing is. The ledger of a create is to be new, and
-- the recoverer of a recovery idle.
abbrev pub absent_word : Step → ℕ
absent_word (Create l e w k bs) = 5
absent_word (Recover r l) = 2
absent_word s = 1

abbrev answer_step : Result Step LineFault → Result ℤ Refusal
answer_step (Ok s) = Err (Absent (absent_word s))
answer_step (Err f) = Err (Line f)

-- what a line is answered
abbrev pub answer : List ℕ → Result ℤ Refusal
answer l = answer_step (read_line l)

-- a count goes up by one, and stays at the highest number that there is
abbrev pub one_more : ℕ → ℕ
one_more n = cond (nat_lt n 18446744073709551615) (n + 1) n

abbrev pub new_player : Player
new_player = record { lines = 0; refused = 0 }

-- the counts after a line
abbrev pub counted : Player → List ℕ → Player
counted p l = record { lines = one_more p.lines; refused = cond (is_err (answer l)) (one_more p.refused) p.refused }

-- what is printed for a line
abbrev pub line_bytes : Player → List ℕ → List ℕ
line_bytes p l = answer_line (one_more p.lines) (first_letter l) (answer l)

-- what is printed at the end
abbrev pub totals_bytes : Player → List ℕ
totals_bytes p = totals_line p.lines p.refused

-- an answer needs 128 bytes to be written into
abbrev pub has_room : List ℕ → Bool
has_room out = nat_le 128 (length out)

-- a line was played into out: with too little room nothing was played or written
pub record LinePlayed (p : Player) (l out : List ℕ) (r : Result ℕ Refusal) (p' : Player) (out' : List ℕ) : Type 0 where
  pub answered : r ≡ cond (has_room out) (Ok (length (line_bytes p l))) (Err Output)
  pub player : p' ≡ cond (has_room out) (counted p l) p
  pub memory : out' ≡ cond (has_room out) (over (line_bytes p l) out) out

-- the last line was written into out
pub record TotalsPrinted (p : Player) (out : List ℕ) (r : Result ℕ Refusal) (out' : List ℕ) : Type 0 where
  pub answered : r ≡ cond (has_room out) (Ok (length (totals_bytes p))) (Err Output)
  pub memory : out' ≡ cond (has_room out) (over (totals_bytes p) out) out
