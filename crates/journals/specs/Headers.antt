-- The header of a file.
use Rattle.std.specs.Prelude.{ℕ, Bool, List, length}
use Rattle.messages.specs.declared.entries.Held.{Held}
use Rattle.journals.specs.Numbers.{le4}
use Rattle.journals.specs.Fences.{word}
use Rattle.journals.specs.Files.{end_of}
use Rattle.journals.specs.declared.headers.Header.{Header}

-- the one that a file begins with
unfoldable pub header_in : List ℕ → Header
header_in file = record { count = le4 file 0; end = le4 file 4; fences = le4 file 8; size = le4 file 12 }

-- the one of a file of a size with these entries and fences
abbrev pub header_of : ℕ → List Held → List Bool → Header
header_of size es fences = record { count = length es; end = end_of es; fences = word fences; size = size }
