-- What a store means as it is new.
use Rattle.std.specs.Prelude.{ℕ, replicate, None}
use Rattle.ledgers.specs.Limits.{max_ledgers}
use Rattle.protocol.specs.Stores.{Store}

-- a new store has no ledger
abbrev pub new_store : ℕ → Store
new_store n = record { ledgers = replicate max_ledgers None; changes = n }
