-- What a table means: what it keeps, and how many changes it can still take.
use Rattle.std.specs.Prelude.{◌-◌}
use Rattle.protocol.specs.Stores.{Store}
use Rattle.stores.specs.declared.table.Table.{Table}

abbrev pub in_table : Table → Store
in_table t = record { ledgers = t.ledgers; changes = 60000 - t.made }
