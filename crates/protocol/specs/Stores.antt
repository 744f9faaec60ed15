-- What a store of metadata means, and what it answers and becomes.
use Rattle.std.specs.Prelude.{ℕ, suc, ◌-◌, Bool, true, false, not, List, Some, None, Ok, Option, Result, ◌==◌, nat_le}
use Rattle.std.specs.Option.{is_some}
use Rattle.ledgers.specs.Limits.{is_ledger}
use Rattle.ledgers.specs.Ids.{lac_id, version_id}
use Rattle.ledgers.specs.Tables.{numbered, renumbered}
use Rattle.ledgers.specs.declared.ids.Lac.{Lac}
use Rattle.ledgers.specs.declared.ids.LedgerId.{LedgerId}
use Rattle.ledgers.specs.declared.ids.Version.{Version}
use Rattle.layout.specs.declared.fragments.Layout.{Layout}
use Rattle.messages.specs.Faults.{question, when_ok}
use Rattle.messages.specs.Blanks.{no_metadata}
use Rattle.messages.specs.declared.faults.StoreFault.{StoreFault}
use Rattle.messages.specs.declared.faults.StoreFault.TheVariants as fault
use Rattle.messages.specs.declared.metadata.LedgerState.{LedgerState}
use Rattle.messages.specs.declared.metadata.LedgerState.TheVariants.{Open}
use Rattle.messages.specs.declared.metadata.Metadata.{Metadata}

-- nothing or metadata for each ledger, and how many changes are left
pub record Store : Type 0 where
  pub ledgers : List (Option Metadata)
  pub changes : ℕ

-- what is kept of ledger l
abbrev pub kept : Store → ℕ → Option Metadata
kept s l = numbered s.ledgers l None

-- the metadata, blank where there is none
abbrev pub known : Option Metadata → Metadata
known None = no_metadata
known (Some m) = m

-- the metadata of ledger l, blank if it is not there
abbrev pub metadata_of : Store → ℕ → Metadata
metadata_of s l = known (kept s l)

-- ledger l is there
abbrev pub exists : Store → ℕ → Bool
exists s l = is_some (kept s l)

-- the metadata of ledger l is set, which takes a change
abbrev pub written : Store → ℕ → Metadata → Store
written s l m = record { ledgers = renumbered s.ledgers l (Some m); changes = s.changes - 1 }

-- in range, there; the metadata
abbrev pub get_answer : Store → LedgerId → Result Metadata StoreFault
get_answer s l =
    question (is_ledger l.0) fault.Range (question (exists s l.0) fault.Existence (Ok (metadata_of s l.0)))

-- create gives version 1
abbrev pub create_answer : Store → LedgerId → Result Version StoreFault
create_answer s l =
    question (is_ledger l.0) fault.Range
    (question (not (exists s l.0)) fault.Existence
    (question (nat_le 1 s.changes) fault.Full (Ok (version_id 1))))

-- a new ledger is open
abbrev pub create_after : Store → LedgerId → Layout → Store
create_after s l y =
    when_ok (create_answer s l) (written s l.0 (record { version = version_id 1; state = Open; layout = y; closing = lac_id 0 })) s

-- put names the version that it expects, and raises it by one
abbrev pub put_answer : Store → LedgerId → Version → Result Version StoreFault
put_answer s l v =
    question (is_ledger l.0) fault.Range
    (question (exists s l.0) fault.Existence
    (question ((metadata_of s l.0).version.0 == v.0) fault.Version
    (question (nat_le 1 s.changes) fault.Full (Ok (version_id (suc v.0))))))

-- a refusal alters nothing
abbrev pub put_after : Store → LedgerId → Version → LedgerState → Layout → Lac → Store
put_after s l v st y n =
    when_ok (put_answer s l v) (written s l.0 (record { version = version_id (suc v.0); state = st; layout = y; closing = n })) s

-- the metadata has another version than the one expected
abbrev pub is_version : StoreFault → Bool
is_version fault.Range = false
is_version fault.Existence = false
is_version fault.Version = true
is_version fault.Full = false
