-- Which sizes there are.
use Rattle.std.specs.Prelude.{ℕ, min, max, Bool, cond, ◌&&◌, Some, None, Option, nat_le}
use Rattle.std.proofs.Common.{arith}
use Rattle.ledgers.specs.Limits.{max_ensemble}
use Rattle.layout.specs.declared.sizes.Sizes.{Sizes}

-- the sizes of these numbers, each as far as the one before allows
abbrev pub sizes_of : ℕ → ℕ → ℕ → Sizes
sizes_of e w k =
    record {
      ensemble = max 1 (min e max_ensemble);
      write = max 1 (min w (max 1 (min e max_ensemble)));
      ack = max 1 (min k (max 1 (min w (max 1 (min e max_ensemble)))));
      small = omega arith;
      written = omega arith;
      acked = omega arith;
      some = omega arith;
    }

-- an ensemble has so many positions at most, a write quorum is some of them, and an ack quorum some of those
abbrev pub in_order : ℕ → ℕ → ℕ → Bool
in_order e w k = nat_le e max_ensemble && (nat_le w e && (nat_le k w && nat_le 1 k))

-- sizes out of order are none
abbrev pub made_sizes : ℕ → ℕ → ℕ → Option Sizes
made_sizes e w k = cond (in_order e w k) (Some (sizes_of e w k)) None
