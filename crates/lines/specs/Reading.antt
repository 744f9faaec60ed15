-- A line, read as a step.
use Rattle.std.specs.Prelude.{⊤, ℕ, ◌-◌, Bool, true, false, cond, not, ◌&&◌, ◌||◌, List, length, take, drop, Some, None, Ok, Err, Option, Result, ◌==◌, nat_le, nat_lt, slice_index}
use Rattle.std.specs.Result.{result_ok}
use Rattle.ledgers.specs.Limits.{is_ledger, is_recoverer}
use Rattle.ledgers.specs.Ids.{ledger_id}
use Rattle.ledgers.specs.declared.steps.Step.{Step}
use Rattle.ledgers.specs.declared.steps.Step.TheVariants.{Create, Append, Resend, ChangeEnsemble, Close, Recover, AskAgain, Finish}
use Rattle.words.specs.Words.{text, word_at, first_of, after_first, letter_in, number_in, body_in}
use Rattle.lines.specs.Numbers.{and_then, no_numbers, numbers_from, more_words}
use Rattle.lines.specs.Steps.{step_of}
use Rattle.words.specs.declared.faults.LineFault.{LineFault}
use Rattle.words.specs.declared.faults.LineFault.TheVariants.{Form, Range}
use Rattle.words.specs.declared.letters.Letter.{Letter}
use Rattle.words.specs.declared.letters.Letter.TheVariants as letter

-- a line ends with byte 10
abbrev pub ended : List ℕ → Bool
ended l = nat_lt 0 (length l) && slice_index l (length l - 1) == 10

-- what stands before that
abbrev pub text_of : List ℕ → List ℕ
text_of l = cond (ended l) (take (length l - 1) l) l

-- and has at most 80 bytes with it
abbrev pub is_line : List ℕ → Bool
is_line l = ended l && nat_le (length l) 80

-- the letter that a line begins with, whatever else is wrong with it
abbrev pub first_letter : List ℕ → Option Letter
first_letter l = result_ok (letter_in (word_at 0 (first_of (text_of l))))

-- Ranges.
-- a word is refused, unless it is in its range
abbrev pub in_range : Bool → ℕ → Result ⊤ LineFault
in_range holds w = cond holds (Ok tt) (Err (Range w))

-- a step is refused by its first word that is out of its range; only the numbers of ledgers and of recoverers have one
abbrev pub ranges : Step → Result ⊤ LineFault
ranges (Create l e w k bs) = in_range (is_ledger l.0) 1
ranges (Append l b) = in_range (is_ledger l.0) 1
ranges (Resend l) = in_range (is_ledger l.0) 1
ranges (ChangeEnsemble l p b) = in_range (is_ledger l.0) 1
ranges (Close l) = in_range (is_ledger l.0) 1
ranges (Recover r l) = and_then (in_range (is_recoverer r.0) 1) (λ _. in_range (is_ledger l.0) 2)
ranges (AskAgain r) = in_range (is_recoverer r.0) 1
ranges (Finish r) = in_range (is_recoverer r.0) 1
ranges s = Ok tt

-- the step, unless a word of it is out of range
abbrev pub within_range : Step → Result Step LineFault
within_range s = and_then (ranges s) (λ _. Ok s)

-- a step is one only where the whole line is a line
abbrev pub made_step : Bool → Option Step → Result Step LineFault
made_step fits None = Err (Form 0)
made_step fits (Some s) = cond fits (within_range s) (Err (Form 0))

-- a letter whose words are numbers
abbrev pub read_numbers : Letter → Bool → List ℕ → Result Step LineFault
read_numbers x fits ws = and_then (numbers_from no_numbers (more_words ws)) (λ n. made_step fits (step_of x n))

abbrev pub append_text : Bool → ℕ → List ℕ → Result Step LineFault
append_text fits n rest =
    cond (length rest == 0 || not fits) (Err (Form 0))
    (and_then (in_range (is_ledger n) 1) (λ _. and_then (body_in (text (drop 1 rest) 2)) (λ b. Ok (Append (ledger_id n) b))))

-- an append: a ledger, and all that stands behind the second space as its text
abbrev pub read_append : Bool → List ℕ → Result Step LineFault
read_append fits ws =
    cond (length ws == 0) (Err (Form 0))
    (and_then (number_in (word_at 1 (first_of (drop 1 ws)))) (λ n. append_text fits n (after_first (drop 1 ws))))

abbrev pub takes_text : Letter → Bool
takes_text letter.Append = true
takes_text x = false

abbrev pub by_letter : Letter → Bool → List ℕ → Result Step LineFault
by_letter x fits ws = cond (takes_text x) (read_append fits ws) (read_numbers x fits ws)

-- The step that the text of a line asks for. `fits` says whether the whole line is a line.
abbrev pub read_text : List ℕ → Bool → Result Step LineFault
read_text t fits = and_then (letter_in (word_at 0 (first_of t))) (λ x. by_letter x fits (after_first t))

-- The step that a line asks for, or the question of form or of range that it fails first, with the first word that by
-- itself fails it; 0 where none does, as where a word is missing or the line is too long.
abbrev pub read_line : List ℕ → Result Step LineFault
read_line l = read_text (text_of l) (is_line l)
