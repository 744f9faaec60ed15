-- What the calls of a bookie answer, and what it means after them, where the protocol does not say it already.
use Rattle.std.specs.Prelude.{ℕ, Bool, List, Some, None, Err, Option, Result}
use Rattle.ledgers.specs.Bodies.{made_body}
use Rattle.ledgers.specs.declared.bodies.Body.{Body}
use Rattle.ledgers.specs.declared.ids.EntryId.{EntryId}
use Rattle.ledgers.specs.declared.ids.Lac.{Lac}
use Rattle.ledgers.specs.declared.ids.LedgerId.{LedgerId}
use Rattle.messages.specs.declared.faults.BookieFault.{BookieFault}
use Rattle.messages.specs.declared.faults.BookieFault.TheVariants as fault
use Rattle.protocol.specs.Bookies.{Bookie, add_answer, add_after}

-- bytes that make no body are out of range, before anything else is asked
abbrev pub add_made_answer : Option Body → Bookie → LedgerId → EntryId → Lac → Bool → Result (Unit {0}) BookieFault
add_made_answer None b l e n recovery = Err fault.Range
add_made_answer (Some body) b l e n recovery = add_answer b l e n body recovery

abbrev pub add_made_after : Option Body → Bookie → LedgerId → EntryId → Lac → Bool → Bookie
add_made_after None b l e n recovery = b
add_made_after (Some body) b l e n recovery = add_after b l e n body recovery

-- an add of any bytes
unfoldable pub add_bytes_answer : Bookie → LedgerId → EntryId → Lac → List ℕ → Bool → Result (Unit {0}) BookieFault
add_bytes_answer b l e n bytes recovery = add_made_answer (made_body bytes) b l e n recovery

unfoldable pub add_bytes_after : Bookie → LedgerId → EntryId → Lac → List ℕ → Bool → Bookie
add_bytes_after b l e n bytes recovery = add_made_after (made_body bytes) b l e n recovery
