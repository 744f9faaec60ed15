-- The numbers of a line.
use Rattle.std.specs.Prelude.{ℕ, ◌+◌, cond, List, [], ◌∷◌, ◌==◌, length, drop, replicate, Ok, Err, Result, nat_lt, slice_set}
use Rattle.std.specs.List.{slice_split}
use Rattle.words.specs.Words.{word_at, number_in}
use Rattle.words.specs.declared.faults.LineFault.{LineFault}
use Rattle.lines.specs.declared.numbers.Numbers.{Numbers}

-- the words behind a first one, each with a space before it; two spaces with none between have an empty one there
abbrev pub more_words : List ℕ → List (List ℕ)
more_words l = cond (nat_lt 0 (length l)) (slice_split (λ b. b == 32) (drop 1 l)) []

-- what comes of a value; a fault stays as it is
abbrev pub and_then : {A B E : Type 0} → Result A E → (A → Result B E) → Result B E
and_then (Ok x) f = f x
and_then (Err e) f = Err e

abbrev pub no_numbers : Numbers
no_numbers = record { values = replicate 9 0; count = 0 }

-- one number more; a tenth finds no place and is only counted
abbrev pub with_number : Numbers → ℕ → Numbers
with_number n x = record { values = slice_set n.values n.count x; count = n.count + 1 }

-- the numbers n and those that the words after them write, or the first word that is no number
abbrev pub numbers_from : Numbers → List (List ℕ) → Result Numbers LineFault
numbers_from n [] = Ok n
numbers_from n (w ∷ ws) = and_then (number_in (word_at (n.count + 1) w)) (λ x. numbers_from (with_number n x) ws)
