-- Numbers as a script writes them: one to five digits, with no leading zero but 0 itself.
use Rattle.std.specs.Char.{is_ascii_digit}
use Rattle.std.specs.Prelude.{ℕ, ◌+◌, ◌-◌, ◌*◌, cond, ◌&&◌, ◌||◌, List, [], ◌∷◌, length, Some, None, Option, ◌==◌, nat_lt, slice_index}

-- the number n with the digits after it, if they are digits
abbrev pub onward : ℕ → List ℕ → Option ℕ
onward n [] = Some n
onward n (b ∷ bs) = cond (is_ascii_digit b) (onward (n * 10 + (b - 48)) bs) None

abbrev pub numeral : List ℕ → Option ℕ
numeral w =
    cond (length w == 0 || nat_lt 5 (length w)) None
    (cond (slice_index w 0 == 48 && nat_lt 1 (length w)) None
    (onward 0 w))
