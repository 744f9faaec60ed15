-- The printed lines, byte for byte.
use Rattle.std.specs.Prelude.{ℕ, List, [], ◌∷◌, ◌++◌, length, drop, ℤ, Some, None, Ok, Err, decimal, Option, Result}
use Rattle.std.specs.Fmt.{signed_decimal}
use Rattle.words.specs.Letters.{byte_of}
use Rattle.words.specs.declared.letters.Letter.{Letter}
use Rattle.script.specs.Refusals.{refusal_number, refusal_word}
use Rattle.script.specs.declared.refusals.Refusal.{Refusal}

-- a first word that is no letter of a step is printed as a question mark
abbrev pub letter_byte : Option Letter → ℕ
letter_byte (Some x) = byte_of x
letter_byte None = 63

-- 0 for a step that was taken
abbrev pub number_of : Result ℤ Refusal → ℕ
number_of (Ok v) = 0
number_of (Err f) = refusal_number f

-- the value of a step, or the word of a refusal
abbrev pub value_bytes : Result ℤ Refusal → List ℕ
value_bytes (Ok v) = signed_decimal v
value_bytes (Err f) = decimal (refusal_word f)

abbrev byte : ℕ → List ℕ
byte b = b ∷ []

abbrev space : List ℕ
space = byte 32

abbrev end : List ℕ
end = byte 10

-- the answer to a line: its number, its letter, 0 or the refusal, and the value
abbrev pub answer_line : ℕ → Option Letter → Result ℤ Refusal → List ℕ
answer_line n x r = decimal n ++ space ++ byte (letter_byte x) ++ space ++ decimal (number_of r) ++ space ++ value_bytes r ++ end

-- the last line: an equals sign, how many lines were played, and how many of them were refused
abbrev pub totals_line : ℕ → ℕ → List ℕ
totals_line lines refused = byte 61 ++ space ++ decimal lines ++ space ++ decimal refused ++ end

-- memory after bytes were written into its front: all that lies behind them is untouched
abbrev pub over : List ℕ → List ℕ → List ℕ
over bytes memory = bytes ++ drop (length bytes) memory
