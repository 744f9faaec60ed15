-- Lists in lent or owned places, and the records that they hold.
use Rattle.std.specs.Prelude.{ℕ, cond, List, length, take, Some, None, Option, nat_lt, slice_index_or}
use Rattle.places.specs.Lists.{taken_off}
use Rattle.places.specs.Memory.{contents}
use Rattle.places.specs.declared.Blank.{Ghosts}
use Rattle.places.specs.declared.lent_lists.LentList.{LentList}

module _ {A : Type 0} {kind : Ghosts A} where
  -- the records,
  abbrev pub records : LentList A kind → List A
  records xs = take xs.count (contents xs.places)

  -- and how many there is room for
  abbrev pub room : LentList A kind → ℕ
  room xs = length (contents xs.places)

-- the record at place i, if there is one
abbrev pub record_at : {A : Type 0} → A → List A → ℕ → Option A
record_at blank xs i = cond (nat_lt i (length xs)) (Some (slice_index_or xs i blank)) None

-- the records without it
abbrev pub without_at : {A : Type 0} → List A → ℕ → List A
without_at xs i = cond (nat_lt i (length xs)) (taken_off xs i) xs
