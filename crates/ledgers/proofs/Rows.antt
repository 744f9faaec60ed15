-- The rows of a table of ledgers: which one a number has.
use Rattle.std.proofs.Common.{◌≡◌, ℕ, ◌-◌, ◌<◌, ◌≤◌, true, false, List, length, arith}
use Rattle.std.proofs.lemmas.List.{get_or_past}
use Rattle.std.proofs.lemmas.Bool.Decides.{nat_tests}
use Rattle.ledgers.specs.Limits.{is_ledger}
use Rattle.ledgers.specs.Tables.{row, numbered}

module _ {A : Type 0} (xs : List A) (l : ℕ) where
  -- a ledger that there can be has a row
  pub row_of : is_ledger l ≡ true → row xs l ≡ l - 1
  row_of h = grind (arith, nat_tests)

  pub has_row : length xs ≡ 16 → is_ledger l ≡ true → l - 1 < length xs
  has_row long h = grind (arith, nat_tests)

  -- and any other number has none
  pub no_row : length xs ≡ 16 → is_ledger l ≡ false → 16 ≤ row xs l
  no_row long h = grind (arith, nat_tests)

  pub none_numbered : (blank : A) → length xs ≡ 16 → is_ledger l ≡ false → numbered xs l blank ≡ blank
  none_numbered blank long h = let past = no_row long h in get_or_past xs (row xs l) blank (omega arith)
