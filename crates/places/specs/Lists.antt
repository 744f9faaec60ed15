-- Lists in places: the first `count` places hold the records.
use Rattle.std.specs.Prelude.{◌≡◌, ℕ, suc, ◌+◌, ◌-◌, Bool, true, false, cond, ◌&&◌, List, [], ◌∷◌, ◌++◌, length, take, drop, Some, None, Option, nat_le, nat_lt, slice_index_or}

-- A list that has so many places, by its records alone: one more behind the others, lost where no place is free,
abbrev pub posted : {A : Type 0} → ℕ → List A → A → List A
posted room xs x = cond (nat_lt (length xs) room) (xs ++ (x ∷ [])) xs

-- and all but the one at place i.
abbrev pub taken_off : {A : Type 0} → List A → ℕ → List A
taken_off xs i = take i xs ++ drop (suc i) xs

-- The places after the record at `at` was taken off: those behind it moved up, and the vacated last place is blank.
abbrev pub closed : {A : Type 0} → A → List A → ℕ → ℕ → List A
closed blank places count at =
    take at places ++ (take (count - (at + 1)) (drop (at + 1) places) ++ (blank ∷ drop count places))

-- there is a record at `at`: the list has that many, and the places are enough for it
abbrev pub has_record : {A : Type 0} → List A → ℕ → ℕ → Bool
has_record places count at = nat_lt at count && nat_le count (length places)

-- a record was taken off where there was one, and else nothing changed
abbrev pub Removed : {A : Type 0} → A → List A → ℕ → ℕ → Option A → List A → Type 0
Removed blank places count at None after = (has_record places count at ≡ false) × (after ≡ places)
Removed blank places count at (Some x) after =
    (has_record places count at ≡ true) × (x ≡ slice_index_or places at x) × (after ≡ closed blank places count at)
