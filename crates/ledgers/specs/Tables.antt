-- Tables whose rows are numbered from 1. Number 0 has its row past the end, as every number above the last, so that no
-- number stands for another's row: what is read there is blank, and what is written there is lost.
use Rattle.std.specs.Prelude.{ℕ, ◌-◌, cond, List, length, ◌==◌, slice_index_or, slice_set}

-- the row of number n
abbrev pub row : {A : Type 0} → List A → ℕ → ℕ
row xs n = cond (n == 0) (length xs) (n - 1)

-- the one of number n, or the blank
abbrev pub numbered : {A : Type 0} → List A → ℕ → A → A
numbered xs n blank = slice_index_or xs (row xs n) blank

-- the table with x as the one of number n
abbrev pub renumbered : {A : Type 0} → List A → ℕ → A → List A
renumbered xs n x = slice_set xs (row xs n) x
