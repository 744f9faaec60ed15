-- What a store answers, by what it keeps of the ledger and whether a change is left: the protocol's answers, of which
-- these are the parts that every store has in common, with what is kept and the room for a parameter each.
use Rattle.std.specs.Prelude.{Bool, not, Ok, Option, Result, ◌==◌}
use Rattle.std.specs.Option.{is_some}
use Rattle.ledgers.specs.Limits.{is_ledger}
use Rattle.ledgers.specs.declared.ids.LedgerId.{LedgerId}
use Rattle.ledgers.specs.declared.ids.Version.{Version}
use Rattle.messages.specs.Faults.{question}
use Rattle.messages.specs.declared.faults.StoreFault.{StoreFault}
use Rattle.messages.specs.declared.faults.StoreFault.TheVariants as fault
use Rattle.messages.specs.declared.metadata.Metadata.{Metadata}
use Rattle.protocol.specs.Stores.{known}

abbrev pub get_question : Option Metadata → LedgerId → Result Metadata StoreFault
get_question kept l = question (is_ledger l.0) fault.Range (question (is_some kept) fault.Existence (Ok (known kept)))

abbrev pub create_question : Option Metadata → Bool → LedgerId → Result (Unit {0}) StoreFault
create_question kept room l =
    question (is_ledger l.0) fault.Range
    (question (not (is_some kept)) fault.Existence (question room fault.Full (Ok tt)))

abbrev pub put_question : Option Metadata → Bool → LedgerId → Version → Result (Unit {0}) StoreFault
put_question kept room l v =
    question (is_ledger l.0) fault.Range
    (question (is_some kept) fault.Existence
    (question ((known kept).version.0 == v.0) fault.Version (question room fault.Full (Ok tt))))
