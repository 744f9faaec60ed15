-- What a writer answers as its ledger is created.
use Rattle.std.specs.Prelude.{Result}
use Rattle.ledgers.specs.declared.ids.LedgerId.{LedgerId}
use Rattle.ledgers.specs.declared.ids.Version.{Version}
use Rattle.protocol.specs.Stores.{Store, create_answer}
use Rattle.protocol.specs.Recoverers.{by_store}
use Rattle.protocol.specs.declared.faults.ClientFault.{ClientFault}

-- the version of the ledger, or the store's refusal
abbrev pub created_answer : Store → LedgerId → Result Version ClientFault
created_answer s l = by_store (create_answer s l)
