-- Lists of bookies and the numbers that they hold.
use Rattle.std.specs.Prelude.{ℕ, cond, List, length, Some, None, Option, nat_le}
use Rattle.places.specs.ShortLists.{listed as listed_numbers, short_list}
use Rattle.ledgers.specs.declared.bookie_lists.BookieList.{BookieList}

-- the numbers that count
abbrev pub listed : BookieList → List ℕ
listed b = listed_numbers b.0

-- the numbers by position, with zeros behind them
abbrev pub by_position : BookieList → List ℕ
by_position b = b.0.items

-- the list of these bookies, as far as five
abbrev pub list_of : List ℕ → BookieList
list_of bs = record { 0 = short_list bs }

-- an ensemble has five positions and no more
abbrev pub made_list : List ℕ → Option BookieList
made_list bs = cond (nat_le (length bs) 5) (Some (list_of bs)) None
