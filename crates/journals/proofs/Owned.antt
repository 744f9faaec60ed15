-- Every journal bookie's file has the facts of its type, and so says what the bookie holds.
use Rattle.std.proofs.Common.{◌≡◌, length, refl}
use Rattle.protocol.specs.Bookies.{Bookie}
use Rattle.journals.specs.declared.journal.JournalBookie.{JournalBookie}
use Rattle.journals.specs.Fences.{word, flags}
use Rattle.journals.specs.Headers.{header_in, header_of}
use Rattle.journals.specs.Files.{entries_in, fences_in, laid_out}
use Rattle.journals.specs.Journal.{file_of, ReadsBack}
use Rattle.journals.proofs.Bits.{flags_word}
use Rattle.journals.proofs.Laid.{Stands, Says, own, own_fit, says, fit_from}

pub stood : (s : JournalBookie) → Stands (file_of s)
stood s = record { least = s.least; most = s.most; room = s.room; sound = s.sound; laid = s.laid }

pub said : (s : JournalBookie) → Says (file_of s) (length (file_of s)) (entries_in (file_of s)) (fences_in (file_of s))
said s = own (file_of s) (stood s)

-- its header is that of its entries and fences
pub header_owned : (s : JournalBookie) → header_in (file_of s) ≡ header_of (length (file_of s)) (entries_in (file_of s)) (fences_in (file_of s))
unfolding header_in
header_owned s =
    let own = said s in
    λ i. record { count = own.count i; end = own.end i; fences = own.bits i; size = own.size i }

-- the flags in the number of its fences are its fences
pub flags_owned : (s : JournalBookie) → flags (word (fences_in (file_of s))) ≡ fences_in (file_of s)
flags_owned s = flags_word (fences_in (file_of s)) (own_fit (file_of s) (stood s)).all_flags

-- bookies with the same parts are the same
pub bookie_same : (a b : Bookie) → a.up ≡ b.up → a.entries ≡ b.entries → a.fences ≡ b.fences → a.space ≡ b.space
    → a ≡ b
bookie_same a b u es fs n = λ i. record { up = u i; entries = es i; fences = fs i; space = n i }

-- what is laid out is read back
pub reads_back : ReadsBack
reads_back size es fs fit =
    let s = says size es fs (fit_from size es fs fit) (laid_out size es fs) refl in (s.entries, (s.fences, s.space))
