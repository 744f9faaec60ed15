-- The blank records: zeros, and the first case of each choice.
use Rattle.std.specs.Prelude.{[]}
use Rattle.ledgers.specs.Ids.{ledger_id, bookie_id, entry_id, recoverer_id, lac_id, version_id}
use Rattle.ledgers.specs.Bodies.{body_of}
use Rattle.ledgers.specs.declared.bodies.Body.{Body}
use Rattle.layout.specs.WriteSets.{no_marks}
use Rattle.layout.specs.Layouts.{no_layout}
use Rattle.messages.specs.declared.entries.Held.{Held}
use Rattle.messages.specs.declared.entries.PendingAdd.{PendingAdd}
use Rattle.messages.specs.declared.messages.Message.{Message}
use Rattle.messages.specs.declared.messages.Message.TheVariants.{Fence}
use Rattle.messages.specs.declared.metadata.LedgerState.TheVariants.{Open}
use Rattle.messages.specs.declared.metadata.Metadata.{Metadata}

-- an empty content
abbrev pub no_body : Body
no_body = body_of []

-- the first kind of message, with zeros
abbrev pub no_message : Message
no_message = Fence (recoverer_id 0) (ledger_id 0) (bookie_id 0)

-- an entry of no ledger, with no content
abbrev pub no_held : Held
no_held = record { ledger = ledger_id 0; entry = entry_id 0; lac = lac_id 0; body = no_body }

-- a pending add with no content, that no bookie acknowledged
abbrev pub no_add : PendingAdd
no_add = record { body = no_body; marks = no_marks }

-- the metadata of a ledger that is not there: no put has given it a version
abbrev pub no_metadata : Metadata
no_metadata = record { version = version_id 0; state = Open; layout = no_layout; closing = lac_id 0 }
