-- The journal file: a header of 32 bytes, the records in the order of adding, and zeros behind them.
use Rattle.std.specs.Prelude.{ℕ, ◌+◌, ◌-◌, ◌*◌, ◌/◌, Bool, true, ◌&&◌, List, [], ◌∷◌, ◌++◌, length, drop, replicate, ◌==◌, nat_le}
use Rattle.ledgers.specs.Limits.{max_ledgers}
use Rattle.messages.specs.declared.entries.Held.{Held}
use Rattle.protocol.specs.Bookies.{add_fits}
use Rattle.journals.specs.Numbers.{bytes4, le4}
use Rattle.journals.specs.Fences.{word, flags}
use Rattle.journals.specs.Records.{images, records_of}

-- 84 bytes have room for one record
abbrev pub size_fits : ℕ → Bool
size_fits n = nat_le 84 n && nat_le n 65536

-- where the records of so many entries end
abbrev pub end_of : List Held → ℕ
end_of es = 32 + 52 * length es

-- how many whole records fit into a file of so many bytes behind these
abbrev pub space_behind : ℕ → List Held → ℕ
space_behind size es = (size - end_of es) / 52

-- the count of the records, where they end, the fences, the size of the file, and 16 zeros
unfoldable pub header_image : ℕ → ℕ → ℕ → ℕ → List ℕ
header_image count end fences size =
    bytes4 count ++ (bytes4 end ++ (bytes4 fences ++ (bytes4 size ++ replicate 16 0)))

-- the file of a size that says these entries and fences
unfoldable pub laid_out : ℕ → List Held → List Bool → List ℕ
laid_out size es fences =
    header_image (length es) (end_of es) (word fences) size ++ (images es ++ replicate (size - end_of es) 0)

-- what a file says
unfoldable pub entries_in : List ℕ → List Held
entries_in file = records_of (le4 file 0) (drop 32 file)

unfoldable pub fences_in : List ℕ → List Bool
fences_in file = flags (le4 file 8)

unfoldable pub space_in : List ℕ → ℕ
space_in file = (le4 file 12 - le4 file 4) / 52

-- entries that adds can have asked for
abbrev pub all_fit : List Held → Bool
all_fit [] = true
all_fit (h ∷ hs) = add_fits h.ledger h.entry h.lac && all_fit hs

-- there can be a journal of this size with these entries and fences
abbrev pub fits : ℕ → List Held → List Bool → Bool
fits size es fences = size_fits size && (nat_le (end_of es) size && (length fences == max_ledgers && all_fit es))
