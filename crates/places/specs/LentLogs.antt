-- Logs in lent places, and the records that they hold.
use Rattle.std.specs.Prelude.{ℕ, List, length, take}
use Rattle.places.specs.declared.lent_logs.LentLog.{LentLog}

module _ {A : Type 0} where
  -- the records,
  abbrev pub records : LentLog A → List A
  records xs = take xs.count xs.places.now

  -- and how many there is room for
  abbrev pub room : LentLog A → ℕ
  room xs = length xs.places.now
