-- Lists of a few records, and the records that they hold.
use Rattle.std.specs.Prelude.{ℕ, min, cond, List, length, take, Some, None, Option, nat_le}
use Rattle.std.proofs.Common.{arith}
use Rattle.places.specs.Padding.{padded, length_padded, blank_behind}
use Rattle.places.specs.declared.Blank.{Ghosts}
use Rattle.places.specs.declared.short_lists.ShortList.{ShortList}

module _ {A : Type 0} {room : ℕ} {kind : Ghosts A} where
  -- the records
  abbrev pub listed : ShortList A room kind → List A
  listed xs = take xs.count xs.items

  -- the list of these records, as far as there is room
  abbrev pub short_list : List A → ShortList A room kind
  short_list xs = record {
    count = min room (length xs);
    items = padded kind.empty room xs;
    whole = length_padded kind.empty room xs;
    few = omega arith;
    clear = ∣ blank_behind kind.empty room xs ∣₁;
  }

  -- the list of these records, if there is room for all of them
  abbrev pub made_short : List A → Option (ShortList A room kind)
  made_short xs = cond (nat_le (length xs) room) (Some (short_list xs)) None
