-- An entry as a record of 52 bytes.
use Rattle.std.specs.Prelude.{ℕ, zero, suc, ◌-◌, min, List, [], ◌∷◌, ◌++◌, length, take, drop, replicate}
use Rattle.ledgers.specs.Ids.{ledger_id, entry_id, lac_id}
use Rattle.ledgers.specs.Bodies.{content, body_of}
use Rattle.messages.specs.declared.entries.Held.{Held}
use Rattle.journals.specs.Numbers.{bytes2, bytes4, le2, le4}

-- ledger, length of the body, entry, LAC + 1, and the body in 40 places with zeros behind it
unfoldable pub record_image : Held → List ℕ
record_image h =
    bytes2 h.ledger.0
    ++ (bytes2 (length (content h.body))
    ++ (bytes4 h.entry.0
    ++ (bytes4 h.lac.0 ++ (content h.body ++ replicate (40 - length (content h.body)) 0))))

abbrev pub images : List Held → List ℕ
images [] = []
images (h ∷ hs) = record_image h ++ images hs

-- the entry in a record
unfoldable pub record_of : List ℕ → Held
record_of s =
    record {
      ledger = ledger_id (le2 s 0);
      entry = entry_id (le4 s 4);
      lac = lac_id (le4 s 8);
      body = body_of (take (min 40 (le2 s 2)) (drop 12 s));
    }

-- the entries in so many records
abbrev pub records_of : ℕ → List ℕ → List Held
records_of zero s = []
records_of (suc n) s = record_of (take 52 s) ∷ records_of n (drop 52 s)
