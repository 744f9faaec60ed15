-- What the set-up of a journal answers.
use Rattle.std.specs.Prelude.{◌≡◌, ℕ, true, false, [], Ok, Err, Result}
use Rattle.messages.specs.declared.faults.SetUpFault.{SetUpFault}
use Rattle.messages.specs.declared.faults.SetUpFault.TheVariants.{JournalSize, ChroniclePlaces}
use Rattle.protocol.specs.Bookies.{Bookie, new_bookie}
use Rattle.journals.specs.Files.{size_fits, space_behind}

-- an answer where the size fits, as promised of a new bookie with all the space; and else a refusal for the size
abbrev pub SetUp : {A : Type 0} → (Bookie → A → Type 0) → ℕ → Result A SetUpFault → Type 0
SetUp promised size (Ok a) = (size_fits size ≡ true) × promised (new_bookie (space_behind size [])) a
SetUp promised size (Err JournalSize) = size_fits size ≡ false
SetUp promised size (Err ChroniclePlaces) = ⊥
