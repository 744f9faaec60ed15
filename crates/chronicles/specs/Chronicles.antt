-- What a chronicle means.
use Rattle.std.specs.Prelude.{◌≡◌, ℕ, ◌-◌, ◌<◌, ◌≤◌, min, List, [], ◌∷◌, ◌++◌, length, Ok, Err, Result, slice_set}
use Rattle.ledgers.specs.declared.ids.Lac.{Lac}
use Rattle.ledgers.specs.declared.ids.LedgerId.{LedgerId}
use Rattle.layout.specs.declared.fragments.Layout.{Layout}
use Rattle.places.specs.LentLogs.{records, room}
use Rattle.messages.specs.Faults.{when_ok}
use Rattle.messages.specs.declared.faults.SetUpFault.{SetUpFault}
use Rattle.messages.specs.declared.faults.SetUpFault.TheVariants.{ChroniclePlaces}
use Rattle.messages.specs.declared.metadata.LedgerState.{LedgerState}
use Rattle.protocol.specs.Stores.{Store}
use Rattle.stores.specs.Meaning.{new_store}
use Rattle.chronicles.specs.Replays.{replayed}
use Rattle.chronicles.specs.declared.changes.Change.{Change}
use Rattle.chronicles.specs.declared.chronicle.Chronicle.{Chronicle}

-- as many places as this, and no more
abbrev pub max_changes : ℕ
max_changes = 60000

-- the changes that it accepted, in order
abbrev pub history : Chronicle → List Change
history c = records c.changes

-- it keeps what they leave, and can take one for each place behind them
abbrev pub in_chronicle : Chronicle → Store
in_chronicle c = record { ledgers = replayed (history c); changes = min max_changes (room c.changes) - length (history c) }

-- the change that sets a ledger's record
abbrev pub change_to : LedgerId → LedgerState → Layout → Lac → Change
change_to l st y n = record { ledger = l; state = st; layout = y; closing = n }

-- an accepted call notes its change behind the others, and a refused one notes none; nothing is ever taken away
abbrev pub history_after : {A F : Type 0} → Result A F → Chronicle → Change → List Change
history_after r c x = when_ok r (history c ++ (x ∷ [])) (history c)

-- it writes the first place that no change stands in, and no other
abbrev pub places_after : {A F : Type 0} → Result A F → Chronicle → Change → List Change
places_after r c x = when_ok r (slice_set c.changes.places.now (length (history c)) x) c.changes.places.now

-- n places make a new store with n changes, and more than 60,000 are refused
abbrev pub SetUp : ℕ → Result Chronicle SetUpFault → Type 0
SetUp n (Ok c) = (n ≤ max_changes) × (in_chronicle c ≡ new_store n) × (history c ≡ [])
SetUp n (Err f) = (f ≡ ChroniclePlaces) × (max_changes < n)
