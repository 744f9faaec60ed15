-- Bodies and the bytes that they hold.
use Rattle.std.specs.Prelude.{ℕ, cond, List, length, Some, None, Option, nat_le}
use Rattle.places.specs.ShortLists.{listed, short_list}
use Rattle.ledgers.specs.declared.bodies.Body.{Body}

-- the bytes that count
abbrev pub content : Body → List ℕ
content b = listed b.0

-- the body with these bytes, as far as 40
abbrev pub body_of : List ℕ → Body
body_of bs = record { 0 = short_list bs }

-- an entry takes 40 bytes and no more
abbrev pub made_body : List ℕ → Option Body
made_body bs = cond (nat_le (length bs) 40) (Some (body_of bs)) None
