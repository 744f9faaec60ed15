-- What a bookie in a journal means, and that its file says it.
use Rattle.std.specs.Prelude.{◌≡◌, ℕ, Bool, true, List}
use Rattle.messages.specs.declared.entries.Held.{Held}
use Rattle.protocol.specs.Bookies.{Bookie}
use Rattle.journals.specs.declared.journal.JournalBookie.{JournalBookie}
use Rattle.journals.specs.Files.{entries_in, fences_in, space_in, laid_out, fits, space_behind}

abbrev pub file_of : JournalBookie → List ℕ
file_of s = s.journal.file.now

abbrev pub in_journal : JournalBookie → Bookie
in_journal s =
    record {
      up = s.up;
      entries = entries_in (file_of s);
      fences = fences_in (file_of s);
      space = space_in (file_of s);
    }

-- what is laid out is read back: entries, fences and space
abbrev pub ReadsBack : Type 0
ReadsBack =
    (size : ℕ) (es : List Held) (fences : List Bool) → fits size es fences ≡ true
    → (entries_in (laid_out size es fences) ≡ es)
    × ((fences_in (laid_out size es fences) ≡ fences) × (space_in (laid_out size es fences) ≡ space_behind size es))
