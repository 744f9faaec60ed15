-- The fences of sixteen ledgers in one number: bit l - 1 is set where ledger l is fenced.
use Rattle.std.specs.Prelude.{ℕ, zero, suc, ◌+◌, ◌*◌, ◌/◌, ◌%◌, Bool, cond, List, [], ◌∷◌, ◌==◌}
use Rattle.ledgers.specs.Limits.{max_ledgers}

-- the number that has these bits, the lowest first
abbrev pub word : List Bool → ℕ
word [] = 0
word (b ∷ bs) = cond b 1 0 + word bs * 2

-- so many bits of a number, the lowest first
abbrev pub bits : ℕ → ℕ → List Bool
bits zero w = []
bits (suc n) w = (w % 2 == 1) ∷ bits n (w / 2)

-- the fences in a number
unfoldable pub flags : ℕ → List Bool
flags w = bits max_ledgers w
