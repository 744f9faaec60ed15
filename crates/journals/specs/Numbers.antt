-- Numbers in bytes, the lowest byte first.
use Rattle.std.specs.Prelude.{ℕ, ◌+◌, ◌*◌, ◌/◌, ◌%◌, List, [], ◌∷◌, slice_index}

abbrev pub bytes2 : ℕ → List ℕ
bytes2 n = (n % 256) ∷ (n / 256 % 256) ∷ []

abbrev pub bytes4 : ℕ → List ℕ
bytes4 n = (n % 256) ∷ (n / 256 % 256) ∷ (n / 65536 % 256) ∷ (n / 16777216 % 256) ∷ []

-- the number in the two bytes from place i on
unfoldable pub le2 : List ℕ → ℕ → ℕ
le2 s i = slice_index s i + slice_index s (i + 1) * 256

-- the number in the four bytes from place i on
unfoldable pub le4 : List ℕ → ℕ → ℕ
le4 s i = slice_index s i + slice_index s (i + 1) * 256 + slice_index s (i + 2) * 65536 + slice_index s (i + 3) * 16777216
