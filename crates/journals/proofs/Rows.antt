-- The row that a ledger has in a table of all ledgers, or that it has none.
use Rattle.std.proofs.Common.{◌≡◌, ℕ, ◌-◌, ◌<◌, ◌≤◌, cond, List, length, Some, None, arith}
use Rattle.std.proofs.lemmas.Bool.Decides.{nat_tests}
use Rattle.ledgers.specs.Limits.{is_ledger}
use Rattle.ledgers.specs.Tables.{row}

module _ {A : Type 0} (xs : List A) (l : ℕ) where
  pub row_small : (r : ℕ) → Some r ≡ cond (is_ledger l) (Some (l - 1)) None → r < 16
  row_small r some = grind (arith, nat_tests)

  pub row_is : (r : ℕ) → Some r ≡ cond (is_ledger l) (Some (l - 1)) None → row xs l ≡ r
  row_is r some = grind (arith, nat_tests)

  pub row_past : None ≡ cond (is_ledger l) (Some (l - 1)) None → length xs ≡ 16 → length xs ≤ row xs l
  row_past none long = grind (arith, nat_tests)
