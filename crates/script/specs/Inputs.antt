-- A whole input and all that is printed for it.
use Rattle.std.specs.Prelude.{◌≡◌, ℕ, Bool, cond, List, [], ◌∷◌, ◌++◌, length, vec_items, codes, ◌==◌, nat_lt}
use Rattle.script.specs.Playing.{new_player, counted, line_bytes, totals_bytes}
use Rattle.script.specs.declared.inputs.Played.{Played}
use Rattle.script.specs.declared.players.Player.{Player}

abbrev pub onto_line : ℕ → List (List ℕ) → List (List ℕ)
onto_line b [] = (b ∷ []) ∷ []
onto_line b (l ∷ ls) = (b ∷ l) ∷ ls

-- the lines of an input: each goes up to and with a byte 10, but for a last one that has none
abbrev pub lines_of : List ℕ → List (List ℕ)
lines_of [] = []
lines_of (b ∷ bs) = cond (b == 10) ((b ∷ []) ∷ lines_of bs) (onto_line b (lines_of bs))

-- the counts after lines
abbrev pub all_counted : Player → List (List ℕ) → Player
all_counted p [] = p
all_counted p (l ∷ ls) = all_counted (counted p l) ls

-- what is printed for lines, and at their end
abbrev pub all_bytes : Player → List (List ℕ) → List ℕ
all_bytes p [] = totals_bytes p
all_bytes p (l ∷ ls) = line_bytes p l ++ all_bytes (counted p l) ls

-- an input of more than 32,768 bytes is not played
abbrev pub too_long : List ℕ → Bool
too_long input = nat_lt 32768 (length input)

-- The answer to a whole input: every byte that is printed for it.
abbrev pub input_bytes : List ℕ → List ℕ
input_bytes input = cond (too_long input) (codes "! long\n") (all_bytes new_player (lines_of input))

-- and the counts
abbrev pub input_counts : List ℕ → Player
input_counts input = cond (too_long input) new_player (all_counted new_player (lines_of input))

-- an input was played: this is all that was printed
pub record InputPlayed (input : List ℕ) (p : Played) : Type 0 where
  pub output : vec_items p.output ≡ input_bytes input
  pub lines : p.lines ≡ (input_counts input).lines
  pub refused : p.refused ≡ (input_counts input).refused

-- the lines of an input were played, and what was printed for them stands behind what was there
pub record LinesPlayed (before input after : List ℕ) (p : Player) : Type 0 where
  pub output : after ≡ before ++ all_bytes new_player (lines_of input)
  pub player : p ≡ all_counted new_player (lines_of input)
