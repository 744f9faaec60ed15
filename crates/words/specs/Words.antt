-- The words of a line.
use Rattle.std.specs.Prelude.{ℕ, Bool, cond, not, ◌&&◌, List, length, take, drop, Some, None, Ok, Err, Option, Result, ◌==◌, nat_le, slice_index}
use Rattle.std.specs.List.{list_all, prefix_len}
use Rattle.ledgers.specs.Bodies.{made_body}
use Rattle.ledgers.specs.declared.bodies.Body.{Body}
use Rattle.words.specs.Letters.{letter_of}
use Rattle.words.specs.Numerals.{numeral}
use Rattle.words.specs.declared.faults.LineFault.{LineFault}
use Rattle.words.specs.declared.faults.LineFault.TheVariants.{Form, Range}
use Rattle.words.specs.declared.letters.Letter.{Letter}
use Rattle.words.specs.declared.words.Word.{Word}
use Rattle.words.specs.declared.words.Word.TheVariants as word

-- What a word is, by value: the code's words refer to parts of the line.
pub data Part : Type 0 where
  letter : (byte place : ℕ) → Part
  number : (digits : List ℕ) (value place : ℕ) → Part
  text : (bytes : List ℕ) (place : ℕ) → Part

abbrev pub meant : Word → Part
meant (word.Letter b p) = letter b p
meant (word.Number ds n p) = number ds.now n p
meant (word.Text bs p) = text bs.now p

-- a number where the bytes write one
abbrev pub number_or_text : ℕ → List ℕ → Option ℕ → Part
number_or_text p w (Some n) = number w n p
number_or_text p w None = text w p

-- what the bytes w are at place p: one byte is a letter in front of the line, and not behind
abbrev pub word_at : ℕ → List ℕ → Part
word_at p w = cond (p == 0 && length w == 1) (letter (slice_index w 0) p) (number_or_text p w (numeral w))

-- a space parts words
abbrev pub inner : ℕ → Bool
inner b = not (b == 32)

abbrev pub first_of : List ℕ → List ℕ
first_of l = take (prefix_len inner l) l

-- what follows the first word: nothing, or a space and what that parts
abbrev pub after_first : List ℕ → List ℕ
after_first l = drop (prefix_len inner l) l

abbrev pub known_or_form : ℕ → Option Letter → Result Letter LineFault
known_or_form p (Some x) = Ok x
known_or_form p None = Err (Form p)

abbrev pub letter_in : Part → Result Letter LineFault
letter_in (letter b p) = known_or_form p (letter_of b)
letter_in (number ds n p) = Err (Form p)
letter_in (text bs p) = Err (Form p)

abbrev pub number_in : Part → Result ℕ LineFault
number_in (letter b p) = Err (Form p)
number_in (number ds n p) = Ok n
number_in (text bs p) = Err (Form p)

-- from the space to the tilde
abbrev pub printable : List ℕ → Bool
printable bs = list_all (λ b. nat_le 32 b && nat_le b 126) bs

abbrev pub body_or_range : ℕ → Bool → Option Body → Result Body LineFault
body_or_range p ok None = Err (Range p)
body_or_range p ok (Some b) = cond ok (Ok b) (Err (Range p))

-- a text's bytes can all be printed, and an entry can take them
abbrev pub body_in : Part → Result Body LineFault
body_in (letter b p) = Err (Form p)
body_in (number ds n p) = Err (Form p)
body_in (text bs p) = body_or_range p (printable bs) (made_body bs)
