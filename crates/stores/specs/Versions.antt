-- The versions in a table of metadata, beside the number of changes that made it.
use Rattle.std.specs.Prelude.{ℕ, Bool, true, ◌&&◌, List, [], ◌∷◌, Option, nat_le}
use Rattle.messages.specs.declared.metadata.Metadata.{Metadata}
use Rattle.protocol.specs.Stores.{known}

-- a change raises one version by one, so that no version is above the number of changes
abbrev pub versions_within : ℕ → List (Option Metadata) → Bool
versions_within n [] = true
versions_within n (m ∷ ms) = nat_le (known m).version.0 n && versions_within n ms
