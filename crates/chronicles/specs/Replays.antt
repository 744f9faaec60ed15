-- The records that changes leave, one after another.
use Rattle.std.specs.Prelude.{◌≡◌, ℕ, suc, Bool, true, List, replicate, Some, None, fold, Option, ◌==◌}
use Rattle.ledgers.specs.Limits.{max_ledgers, is_ledger}
use Rattle.ledgers.specs.Ids.{lac_id, ledger_id, version_id}
use Rattle.ledgers.specs.Tables.{numbered, renumbered}
use Rattle.layout.specs.WriteSets.{tally}
use Rattle.layout.specs.Layouts.{no_layout}
use Rattle.messages.specs.declared.metadata.LedgerState.TheVariants.{Open}
use Rattle.messages.specs.declared.metadata.Metadata.{Metadata}
use Rattle.protocol.specs.Stores.{Store, known, metadata_of}
use Rattle.chronicles.specs.declared.changes.Change.{Change}

-- the blank change, of no ledger
abbrev pub no_change : Change
no_change = record { ledger = ledger_id 0; state = Open; layout = no_layout; closing = lac_id 0 }

-- a ledger's metadata after a change: the next version, 1 where nothing was kept before
abbrev pub noted : Option Metadata → Change → Metadata
noted m c = record { version = version_id (suc (known m).version.0); state = c.state; layout = c.layout; closing = c.closing }

-- the table after a change
abbrev pub changed : List (Option Metadata) → Change → List (Option Metadata)
changed t c = renumbered t c.ledger.0 (Some (noted (numbered t c.ledger.0 None) c))

-- the table after changes, from none on
abbrev pub replayed : List Change → List (Option Metadata)
replayed cs = fold changed (replicate max_ledgers None) cs

abbrev pub of_ledger : ℕ → Change → Bool
of_ledger l c = c.ledger.0 == l

-- no version is missing: as many changes of each ledger are there as its version says, so that the v-th is version v
abbrev pub Complete : Store → List Change → Type 0
Complete s cs = (l : ℕ) → is_ledger l ≡ true → (metadata_of s l).version.0 ≡ tally (of_ledger l) cs
