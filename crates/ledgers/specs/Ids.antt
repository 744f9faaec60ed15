-- What a number names.
use Rattle.std.specs.Prelude.{ℕ}
use Rattle.ledgers.specs.declared.ids.BookieId.{BookieId}
use Rattle.ledgers.specs.declared.ids.EntryId.{EntryId}
use Rattle.ledgers.specs.declared.ids.Lac.{Lac}
use Rattle.ledgers.specs.declared.ids.LedgerId.{LedgerId}
use Rattle.ledgers.specs.declared.ids.MessagePlace.{MessagePlace}
use Rattle.ledgers.specs.declared.ids.Position.{Position}
use Rattle.ledgers.specs.declared.ids.RecovererId.{RecovererId}
use Rattle.ledgers.specs.declared.ids.Version.{Version}

abbrev pub ledger_id : ℕ → LedgerId
ledger_id n = record { 0 = n }

abbrev pub bookie_id : ℕ → BookieId
bookie_id n = record { 0 = n }

abbrev pub position_id : ℕ → Position
position_id n = record { 0 = n }

abbrev pub message_place : ℕ → MessagePlace
message_place n = record { 0 = n }

abbrev pub recoverer_id : ℕ → RecovererId
recoverer_id n = record { 0 = n }

abbrev pub entry_id : ℕ → EntryId
entry_id n = record { 0 = n }

-- the last of the first n entries
abbrev pub lac_id : ℕ → Lac
lac_id n = record { 0 = n }

abbrev pub version_id : ℕ → Version
version_id n = record { 0 = n }
