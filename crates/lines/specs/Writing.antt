-- The line that is written for a step, and what it promises to be read as.
use Rattle.std.specs.Prelude.{◌≡◌, ℕ, ◌<◌, Bool, true, List, [], ◌∷◌, ◌++◌, Ok, decimal, length, nat_lt}
use Rattle.std.specs.List.{AllByRecursion}
use Rattle.ledgers.specs.Bodies.{content}
use Rattle.ledgers.specs.BookieLists.{listed}
use Rattle.ledgers.specs.declared.steps.Step.{Step}
use Rattle.ledgers.specs.declared.steps.Step.TheVariants.{Create, Append, Resend, ChangeEnsemble, Close, Recover, AskAgain, Finish, Deliver, Duplicate, Discard, Stop, Start}
use Rattle.words.specs.Letters.{byte_of}
use Rattle.words.specs.Words.{printable}
use Rattle.lines.specs.Reading.{ranges, read_line}
use Rattle.words.specs.declared.letters.Letter.{Letter}
use Rattle.words.specs.declared.letters.Letter.TheVariants as letter

-- the letter of a step
abbrev pub letter_for : Step → Letter
letter_for (Create l e w k bs) = letter.Create
letter_for (Append l b) = letter.Append
letter_for (Resend l) = letter.Resend
letter_for (ChangeEnsemble l p b) = letter.ChangeEnsemble
letter_for (Close l) = letter.Close
letter_for (Recover r l) = letter.Recover
letter_for (AskAgain r) = letter.AskAgain
letter_for (Finish r) = letter.Finish
letter_for (Deliver m) = letter.Deliver
letter_for (Duplicate m) = letter.Duplicate
letter_for (Discard m) = letter.Discard
letter_for (Stop b) = letter.Stop
letter_for (Start b) = letter.Start

-- the numbers that it names, in the order of its words
abbrev pub numbers_in : Step → List ℕ
numbers_in (Create l e w k bs) = l.0 ∷ e ∷ w ∷ k ∷ listed bs
numbers_in (Append l b) = l.0 ∷ []
numbers_in (Resend l) = l.0 ∷ []
numbers_in (ChangeEnsemble l p b) = l.0 ∷ p.0 ∷ b.0 ∷ []
numbers_in (Close l) = l.0 ∷ []
numbers_in (Recover r l) = r.0 ∷ l.0 ∷ []
numbers_in (AskAgain r) = r.0 ∷ []
numbers_in (Finish r) = r.0 ∷ []
numbers_in (Deliver m) = m.0 ∷ []
numbers_in (Duplicate m) = m.0 ∷ []
numbers_in (Discard m) = m.0 ∷ []
numbers_in (Stop b) = b.0 ∷ []
numbers_in (Start b) = b.0 ∷ []

-- the text behind them, with its space
abbrev pub text_in : Step → List ℕ
text_in (Append l b) = 32 ∷ content b
text_in s = []

-- each number in decimal digits, with a space before it
abbrev pub spaced : List ℕ → List ℕ
spaced [] = []
spaced (n ∷ ns) = 32 ∷ decimal n ++ spaced ns

-- the line of a step
abbrev pub written : Step → List ℕ
written s = (byte_of (letter_for s) ∷ spaced (numbers_in s) ++ text_in s) ++ 10 ∷ []

-- what a script can say beyond its ranges of numbers: a create names a bookie, and a text can be printed
abbrev pub sayable : Step → Bool
sayable (Create l e w k bs) = nat_lt 0 (length (listed bs))
sayable (Append l b) = printable (content b)
sayable s = true

-- a step within the script's ranges
pub record InScript (s : Step) : Type 0 where
  -- its ledger is 1 to 16 and its recoverer 1 to 4
  pub ranged : ranges s ≡ Ok tt
  -- five digits write each of its numbers
  pub short : AllByRecursion (λ n. n < 100000) (numbers_in s)
  pub said : sayable s ≡ true

-- The law of lines.
pub record LinesKeepSteps : Type 0 where
  -- for each step within the script's ranges the line that is written for it is read as that step,
  pub read_back : (s : Step) → InScript s → read_line (written s) ≡ Ok s
  -- no two such steps are written alike,
  pub apart : (s t : Step) → InScript s → InScript t → written s ≡ written t → s ≡ t
  -- and no other line is read as a step
  pub only : (l : List ℕ) (s : Step) → read_line l ≡ Ok s → InScript s × (l ≡ written s)
