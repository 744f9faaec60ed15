-- What a bookie means, and what it answers and becomes.
use Rattle.std.specs.Prelude.{ℕ, ◌-◌, max, Bool, true, false, cond, not, ◌&&◌, ◌||◌, List, [], ◌∷◌, ◌++◌, replicate, Some, None, Ok, Option, Result, ◌==◌, nat_le}
use Rattle.std.specs.Option.{is_some}
use Rattle.std.specs.Str.{bytes_eq}
use Rattle.ledgers.specs.Limits.{max_ledgers, is_ledger, is_entry}
use Rattle.ledgers.specs.Ids.{lac_id}
use Rattle.ledgers.specs.Tables.{numbered, renumbered}
use Rattle.ledgers.specs.Bodies.{content}
use Rattle.ledgers.specs.declared.bodies.Body.{Body}
use Rattle.ledgers.specs.declared.ids.EntryId.{EntryId}
use Rattle.ledgers.specs.declared.ids.Lac.{Lac}
use Rattle.ledgers.specs.declared.ids.LedgerId.{LedgerId}
use Rattle.messages.specs.Faults.{question, when_ok, and_then}
use Rattle.messages.specs.declared.entries.Held.{Held}
use Rattle.messages.specs.declared.faults.BookieFault.{BookieFault}
use Rattle.messages.specs.declared.faults.BookieFault.TheVariants as fault

-- whether it is up, the entries it holds, which ledgers are fenced, and how many entries it can still take
pub record Bookie : Type 0 where
  pub up : Bool
  pub entries : List Held
  pub fences : List Bool
  pub space : ℕ

-- a new one is up, holds nothing and fences nothing
abbrev pub new_bookie : ℕ → Bookie
new_bookie n = record { up = true; entries = []; fences = replicate max_ledgers false; space = n }

-- what stands past the end of a list of bookies
abbrev pub no_bookie : Bookie
no_bookie = record { up = false; entries = []; fences = replicate max_ledgers false; space = 0 }

-- this is a copy of entry e of ledger l
abbrev pub is_copy : Held → ℕ → ℕ → Bool
is_copy h l e = h.ledger.0 == l && h.entry.0 == e

-- the copy of entry e of ledger l
abbrev pub find : List Held → ℕ → ℕ → Option Held
find [] l e = None
find (h ∷ hs) l e = cond (is_copy h l e) (Some h) (find hs l e)

-- the bookie has a copy of entry e of ledger l
abbrev pub holds : Bookie → ℕ → ℕ → Bool
holds b l e = is_some (find b.entries l e)

-- the bookie is fenced for ledger l
abbrev pub is_fenced : Bookie → ℕ → Bool
is_fenced b l = numbered b.fences l false

-- the highest LAC among the entries of ledger l, as a count
abbrev pub highest_lac : List Held → ℕ → ℕ
highest_lac [] l = 0
highest_lac (h ∷ hs) l = cond (h.ledger.0 == l) (max h.lac.0 (highest_lac hs l)) (highest_lac hs l)

-- add ----------------------------------------------------------------------------------------------------------------
-- ledger and entry in range, and the LAC below the entry; a body is in range by its type
abbrev pub add_fits : LedgerId → EntryId → Lac → Bool
add_fits l e n = is_ledger l.0 && (is_entry e.0 && nat_le n.0 e.0)

-- a copy, if there is one, has this body
abbrev pub agrees : Option Held → Body → Bool
agrees None body = true
agrees (Some h) body = bytes_eq (content h.body) (content body)

-- in range, up, not fenced or for a recovery, no other body, held already or space for it
abbrev pub add_answer : Bookie → LedgerId → EntryId → Lac → Body → Bool → Result (Unit {0}) BookieFault
add_answer b l e n body recovery =
    question (add_fits l e n) fault.Range
    (question b.up fault.Stopped
    (question (not (is_fenced b l.0) || recovery) fault.Fenced
    (question (agrees (find b.entries l.0 e.0) body) fault.OtherBody
    (question (holds b l.0 e.0 || nat_le 1 b.space) fault.Full (Ok tt)))))

-- one entry more
abbrev pub holding : Bookie → Held → Bookie
holding b h = record { up = b.up; entries = b.entries ++ (h ∷ []); fences = b.fences; space = b.space - 1 }

-- an entry that is held already stays as it is
abbrev pub add_after : Bookie → LedgerId → EntryId → Lac → Body → Bool → Bookie
add_after b l e n body recovery =
    when_ok (add_answer b l e n body recovery)
    (cond (holds b l.0 e.0) b (holding b (record { ledger = l; entry = e; lac = n; body = body }))) b

-- fence --------------------------------------------------------------------------------------------------------------
-- in range, up; the LAC that the bookie has been told
abbrev pub fence_answer : Bookie → LedgerId → Result Lac BookieFault
fence_answer b l =
    question (is_ledger l.0) fault.Range (question b.up fault.Stopped (Ok (lac_id (highest_lac b.entries l.0))))

-- a fence is for good
abbrev pub fencing : Bookie → LedgerId → Bookie
fencing b l = record { up = b.up; entries = b.entries; fences = renumbered b.fences l.0 true; space = b.space }

-- a refusal fences nothing
abbrev pub fence_after : Bookie → LedgerId → Bookie
fence_after b l = when_ok (fence_answer b l) (fencing b l) b

-- read ---------------------------------------------------------------------------------------------------------------
-- in range, up; the copy, if there is one
abbrev pub read_answer : Bookie → LedgerId → EntryId → Result (Option Held) BookieFault
read_answer b l e =
    question (is_ledger l.0 && is_entry e.0) fault.Range
    (question b.up fault.Stopped (Ok (find b.entries l.0 e.0)))

-- a recovery read fences, and then reads
abbrev pub recovery_read_answer : Bookie → LedgerId → EntryId → Result (Option Held) BookieFault
recovery_read_answer b l e = and_then (fence_answer b l) (read_answer (fence_after b l) l e)

-- so it leaves a fence, whether the entry is there or not
abbrev pub recovery_read_after : Bookie → LedgerId → EntryId → Bookie
recovery_read_after b l e = fence_after b l

-- stop and start -----------------------------------------------------------------------------------------------------
-- nothing else changes
abbrev pub with_up : Bookie → Bool → Bookie
with_up b u = record { up = u; entries = b.entries; fences = b.fences; space = b.space }
