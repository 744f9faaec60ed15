-- The invariant. A world is what its facts are about: the cluster as functions of numbers, and of the run so far the
-- contents that were appended, and which bookie acknowledged which entry to its writer.
use Rattle.std.proofs.Common.{◌≡◌, ℕ, suc, ◌<◌, ◌≤◌, Bool, true, false, cond, not, ◌&&◌, ◌||◌, eqb, ◌⊎◌, List, [], ◌∷◌, ◌++◌, length, get_or, take, Ok, Err, Result}
use Rattle.std.specs.List.{AllByRecursion}
use Rattle.std.specs.Result.{is_ok}
use Rattle.ledgers.specs.Limits.{max_ledgers, max_entries}
use Rattle.ledgers.specs.declared.bodies.Body.{Body}
use Rattle.ledgers.specs.declared.steps.Step.{Step}
use Rattle.ledgers.specs.declared.steps.Step.TheVariants.{Create, Append, Resend, ChangeEnsemble, Close, Recover, AskAgain, Finish, Deliver, Duplicate, Discard, Stop, Start}
use Rattle.layout.specs.WriteSets.{tally, marked, blocking, distinct}
use Rattle.layout.specs.Layouts.{no_fragment, last_first, Rises, bookie_at, bookies_of}
use Rattle.layout.specs.declared.fragments.Layout.{Layout}
use Rattle.messages.specs.Blanks.{no_body}
use Rattle.messages.specs.declared.entries.Held.{Held}
use Rattle.messages.specs.declared.entries.PendingAdd.{PendingAdd}
use Rattle.messages.specs.declared.messages.Message.{Message}
use Rattle.messages.specs.declared.messages.Message.TheVariants.{Fence, RecoveryRead, Add, RecoveryAdd, Added, AddRefused, Fenced, Absent, Found, RecoveryAdded, Refused}
use Rattle.messages.specs.declared.metadata.LedgerState.{LedgerState}
use Rattle.messages.specs.declared.metadata.LedgerState.TheVariants.{Open, InRecovery, Closed}
use Rattle.messages.specs.declared.metadata.Metadata.{Metadata}
use Rattle.protocol.specs.Bookies.{Bookie, holds, is_fenced}
use Rattle.protocol.specs.Writers.{Writer, is_made, is_shut_out, is_closed}
use Rattle.protocol.specs.Recoverers.{at_work}
use Rattle.protocol.specs.Clusters.{Cluster, bookie_of, writer_of, recoverer_of, ledger_of}
use Rattle.protocol.specs.Steps.{Outcome, message_at}
use Rattle.protocol.specs.Histories.{History}
use Rattle.protocol.specs.declared.answers.Answer.{Answer}
use Rattle.protocol.specs.declared.answers.Answer.TheVariants as answer
use Rattle.protocol.specs.declared.faults.StepFault.{StepFault}
use Rattle.protocol.specs.declared.recoverers.Phase.{Phase}
use Rattle.protocol.specs.declared.recoverers.Phase.TheVariants.{Idle, Fencing, Reading, Writing, Ended}
use Rattle.protocol.specs.declared.recoverers.Recoverer.{Recoverer}

-- notes --------------------------------------------------------------------------------------------------------------
-- of a run only two kinds of event matter: a content was appended, and a writer's add was acknowledged
pub data Note : Type 0 where
  nothing : Note
  content_note : (l : ℕ) (body : Body) → Note
  ack_note : (l e b : ℕ) → Note

-- the bookie did what it was asked
abbrev pub is_served : Result Answer StepFault → Bool
is_served (Ok (answer.Version v)) = false
is_served (Ok (answer.Entry e)) = false
is_served (Ok (answer.Waiting n)) = false
is_served (Ok (answer.FirstEntry e)) = false
is_served (Ok (answer.ClosingEntry n)) = false
is_served (Ok (answer.Confirmed n)) = false
is_served (Ok (answer.Settled n)) = false
is_served (Ok answer.Idle) = false
is_served (Ok answer.Lost) = false
is_served (Ok (answer.Served r)) = is_ok r
is_served (Ok answer.Done) = false
is_served (Err f) = false

-- the note of the delivery of a message that was answered by a
abbrev pub delivery_note : Message → Result Answer StepFault → Note
delivery_note (Fence r l b) a = nothing
delivery_note (RecoveryRead r l b e) a = nothing
delivery_note (Add l b e n body) a = cond (is_served a) (ack_note l.0 e.0 b.0) nothing
delivery_note (RecoveryAdd r l b e n body) a = nothing
delivery_note (Added l b e) a = nothing
delivery_note (AddRefused l b e f) a = nothing
delivery_note (Fenced r l b n) a = nothing
delivery_note (Absent r l b e) a = nothing
delivery_note (Found r l b e n body) a = nothing
delivery_note (RecoveryAdded r l b e) a = nothing
delivery_note (Refused r l b f) a = nothing

-- the note of a step from cluster c that was answered by a
abbrev pub note_of : Step → Cluster → Result Answer StepFault → Note
note_of (Create l e w k bs) c a = nothing
note_of (Append l body) c a = cond (is_ok a) (content_note l.0 body) nothing
note_of (Resend l) c a = nothing
note_of (ChangeEnsemble l p b) c a = nothing
note_of (Close l) c a = nothing
note_of (Recover r l) c a = nothing
note_of (AskAgain r) c a = nothing
note_of (Finish r) c a = nothing
note_of (Deliver m) c a = delivery_note (message_at c m) a
note_of (Duplicate m) c a = nothing
note_of (Discard m) c a = nothing
note_of (Stop b) c a = nothing
note_of (Start b) c a = nothing

-- the notes of a history, the last first
abbrev pub notes : History → List Note
notes [] = []
notes (v ∷ h) = note_of v.did v.before v.said ∷ notes h

-- the contents with what is noted
abbrev pub add_content : Note → ℕ → List Body → List Body
add_content nothing l ts = ts
add_content (content_note k body) l ts = cond (eqb k l) (ts ++ (body ∷ [])) ts
add_content (ack_note k e b) l ts = ts

-- the contents appended to ledger l, by entry
abbrev pub contents_of : List Note → ℕ → List Body
contents_of [] l = []
contents_of (n ∷ ns) l = add_content n l (contents_of ns l)

-- this acknowledgement is noted
abbrev pub is_ack : Note → ℕ → ℕ → ℕ → Bool
is_ack nothing l e b = false
is_ack (content_note k body) l e b = false
is_ack (ack_note l' e' b') l e b = eqb l' l && (eqb e' e && eqb b' b)

-- bookie b acknowledged entry e of ledger l to its writer
abbrev pub acked_by : List Note → ℕ → ℕ → ℕ → Bool
acked_by [] l e b = false
acked_by (n ∷ ns) l e b = is_ack n l e b || acked_by ns l e b

-- worlds -------------------------------------------------------------------------------------------------------------
-- the cluster as functions of numbers, and what was noted
pub record World : Type 0 where
  pub bookie : ℕ → Bookie
  pub writer : ℕ → Writer
  pub ledger : ℕ → Metadata
  pub contents : ℕ → List Body
  pub acked : ℕ → ℕ → ℕ → Bool
  -- how many rows the tables of writers and of metadata have
  pub writers : ℕ
  pub ledgers : ℕ

-- the world of a cluster
abbrev pub world : List Note → Cluster → World
world ns c =
    record {
      bookie = bookie_of c;
      writer = writer_of c;
      ledger = ledger_of c;
      contents = contents_of ns;
      acked = acked_by ns;
      writers = length c.writers;
      ledgers = length c.store.ledgers;
    }

-- facts of messages and copies ---------------------------------------------------------------------------------------
-- entry e has this content
abbrev pub ContentAt : List Body → ℕ → Body → Type 0
ContentAt ts e body = (e < length ts) × (get_or ts e no_body ≡ body)

-- bookie b is fenced for ledger l and never acknowledged entry e: it never will
abbrev pub barred : World → ℕ → ℕ → ℕ → Bool
barred x l e b = is_fenced (x.bookie b) l && not (x.acked l e b)

-- bookie b holds entry e
abbrev pub held_at : World → ℕ → ℕ → ℕ → Bool
held_at x l e b = holds (x.bookie b) l e

-- the entry has this content, and the writer has had LAC n
abbrev pub Sent : World → ℕ → ℕ → ℕ → Body → Type 0
Sent x l e n body = ContentAt (x.contents l) e body × (n ≤ (x.writer l).lac)

-- a copy is true
abbrev pub CopyOk : World → Held → Type 0
CopyOk x h = Sent x h.ledger.0 h.entry.0 h.lac.0 h.body

-- what a message says is true
abbrev pub MessageOk : World → Message → Type 0
MessageOk x (Fence r l b) = Unit {0}
MessageOk x (RecoveryRead r l b e) = Unit {0}
MessageOk x (Add l b e n body) = Sent x l.0 e.0 n.0 body
MessageOk x (RecoveryAdd r l b e n body) = Sent x l.0 e.0 n.0 body
MessageOk x (Added l b e) = x.acked l.0 e.0 b.0 ≡ true
MessageOk x (AddRefused l b e f) = Unit {0}
MessageOk x (Fenced r l b n) = (is_fenced (x.bookie b.0) l.0 ≡ true) × (n.0 ≤ (x.writer l.0).lac)
MessageOk x (Absent r l b e) = barred x l.0 e.0 b.0 ≡ true
MessageOk x (Found r l b e n body) = Sent x l.0 e.0 n.0 body
MessageOk x (RecoveryAdded r l b e) = held_at x l.0 e.0 b.0 ≡ true
MessageOk x (Refused r l b f) = Unit {0}

-- facts of writers ---------------------------------------------------------------------------------------------------
-- the pending adds are the entries from e on, with their contents, and marked positions have acknowledged; A says who has
abbrev pub PendingOk : List Body → (ℕ → ℕ → Bool) → Layout → ℕ → List PendingAdd → Type 0
PendingOk ts A y e [] = length ts ≡ e
PendingOk ts A y e (p ∷ ps) =
    ContentAt ts e p.body × ((q : ℕ) → marked p.marks q ≡ true → A e (bookie_at y e q) ≡ true) × PendingOk ts A y (suc e) ps

-- the fragments rise, and each has different bookies
pub record LayoutOk (y : Layout) : Type 0 where
  pub rises : Rises y
  pub full : (i : ℕ) → i < y.count → y.sizes.ensemble ≤ length (get_or y.fragments i no_fragment).bookies
  pub apart : (i : ℕ) → i < y.count → distinct (take y.sizes.ensemble (get_or y.fragments i no_fragment).bookies) ≡ true

-- what the writer knows: ts are the contents of its ledger, A says who acknowledged
pub record WriterOk (ts : List Body) (A : ℕ → ℕ → Bool) (w : Writer) : Type 0 where
  pub upto : w.lac ≤ length ts
  pub small : length ts ≤ max_entries
  -- each confirmed entry was acknowledged by an ack quorum of its write set
  pub firm : (e : ℕ) → e < w.lac → w.layout.sizes.ack ≤ tally (A e) (bookies_of w.layout e)
  pub pending : is_shut_out w.state ≡ false → is_closed w.state ≡ false → PendingOk ts A w.layout w.lac w.pending
  pub first : last_first w.layout ≤ w.lac
  pub blank : is_made w.state ≡ false → length ts ≡ 0
  pub layout : LayoutOk w.layout

-- facts of metadata --------------------------------------------------------------------------------------------------
-- entry n can never be confirmed: there is no such entry, or a blocking number of its write set is barred
abbrev pub Sealed : World → ℕ → ℕ → Layout → Type 0
Sealed x l n y = (max_entries ≤ n) ⊎ (blocking y.sizes ≤ tally (barred x l n) (bookies_of y n))

-- each entry below n is held by an ack quorum of its write set
abbrev pub Copied : World → ℕ → ℕ → Layout → Type 0
Copied x l n y = (e : ℕ) → e < n → y.sizes.ack ≤ tally (held_at x l e) (bookies_of y e)

-- open: at the writer's version; in recovery: at a higher one; closed: copied up to the closing entry, by the writer at
-- its LAC, or with the entry after it sealed
abbrev pub StateOk : World → ℕ → Writer → Metadata → LedgerState → Type 0
StateOk x l w m Open = (m.version.0 ≡ w.version) × (is_closed w.state ≡ false) × (m.layout ≡ w.layout)
StateOk x l w m InRecovery = (w.version < m.version.0) × (is_closed w.state ≡ false) × (m.layout ≡ w.layout)
StateOk x l w m Closed =
    Copied x l m.closing.0 m.layout
    × (((is_closed w.state ≡ true) × (w.lac ≡ m.closing.0)) ⊎ ((w.version < m.version.0) × Sealed x l m.closing.0 w.layout))

-- what the metadata says
pub record LedgerOk (x : World) (l : ℕ) (w : Writer) (m : Metadata) : Type 0 where
  -- a ledger that is not there has no writer
  pub free : m.version.0 ≡ 0 → (m.state ≡ Open) × (is_made w.state ≡ false)
  pub state : StateOk x l w m m.state
  pub layout : LayoutOk m.layout

-- facts of recoverers ------------------------------------------------------------------------------------------------
-- marked positions are barred while the entry is read, and hold it while it is written back
abbrev pub PhaseOk : World → Recoverer → ℕ → Layout → Phase → Type 0
PhaseOk x R l y Idle = Unit {0}
PhaseOk x R l y (Fencing m) = Unit {0}
PhaseOk x R l y (Reading m) = (q : ℕ) → marked m q ≡ true → barred x l R.settled.0 (bookie_at y R.settled.0 q) ≡ true
PhaseOk x R l y (Writing m n body) =
    Sent x l R.settled.0 n.0 body
    × ((q : ℕ) → marked m q ≡ true → held_at x l R.settled.0 (bookie_at y R.settled.0 q) ≡ true)
PhaseOk x R l y Ended = Sealed x l R.settled.0 y

-- at the version of a recovery the metadata is in recovery, and past it closed
abbrev pub Under : Metadata → ℕ → Type 0
Under m v = ((m.state ≡ InRecovery) × (v ≡ m.version.0)) ⊎ ((m.state ≡ Closed) × (v < m.version.0))

-- what a recoverer at work knows
pub record WorkOk (x : World) (R : Recoverer) : Type 0 where
  pub same : R.layout ≡ (x.writer R.ledger.0).layout
  pub under : Under (x.ledger R.ledger.0) R.version.0
  pub below : Copied x R.ledger.0 R.settled.0 R.layout
  pub phase : PhaseOk x R R.ledger.0 R.layout R.phase

-- an idle one knows nothing
abbrev pub RecovererOk : World → Recoverer → Type 0
RecovererOk x R = at_work R.phase ≡ true → WorkOk x R

-- what no step undoes ------------------------------------------------------------------------------------------------
-- a recovery or a close took the ledger from its writer
abbrev pub Shut : Metadata → Type 0
Shut m = (m.state ≡ InRecovery) ⊎ (m.state ≡ Closed)

-- y comes after x
pub record Later (x y : World) : Type 0 where
  pub contents : (l e : ℕ) (body : Body) → ContentAt (x.contents l) e body → ContentAt (y.contents l) e body
  pub acked : (l e b : ℕ) → x.acked l e b ≡ true → y.acked l e b ≡ true
  -- a fenced bookie acknowledges nothing new
  pub barred : (l e b : ℕ) → is_fenced (x.bookie b) l ≡ true → y.acked l e b ≡ true → x.acked l e b ≡ true
  pub held : (l e b : ℕ) → held_at x l e b ≡ true → held_at y l e b ≡ true
  pub fenced : (l b : ℕ) → is_fenced (x.bookie b) l ≡ true → is_fenced (y.bookie b) l ≡ true
  pub lac : (l : ℕ) → (x.writer l).lac ≤ (y.writer l).lac
  -- a recovery ends the changes of its ledger's layout
  pub frozen : (l : ℕ) → Shut (x.ledger l)
      → ((y.writer l).layout ≡ (x.writer l).layout) × Shut (y.ledger l) × ((v : ℕ) → Under (x.ledger l) v → Under (y.ledger l) v)
  -- a close is for ever, and its entry too
  pub closed : (l : ℕ) → (x.ledger l).state ≡ Closed → ((y.ledger l).state ≡ Closed) × ((y.ledger l).closing.0 ≡ (x.ledger l).closing.0)
  pub flags : (b : ℕ) → length (y.bookie b).fences ≡ length (x.bookie b).fences
  pub writers : y.writers ≡ x.writers
  pub ledgers : y.ledgers ≡ x.ledgers

-- the invariant ------------------------------------------------------------------------------------------------------
-- of a world with its recoverers and messages, which is later than x₀
pub record Inv (x₀ x : World) (rs : ℕ → Recoverer) (ms : List Message) : Type 0 where
  pub since : Later x₀ x
  -- what is acknowledged is held
  pub acked : (l e b : ℕ) → x.acked l e b ≡ true → held_at x l e b ≡ true
  pub copies : (b : ℕ) → AllByRecursion (CopyOk x) (x.bookie b).entries
  pub messages : AllByRecursion (MessageOk x) ms
  pub writing : (l : ℕ) → WriterOk (x.contents l) (x.acked l) (x.writer l)
  pub metadata : (l : ℕ) → LedgerOk x l (x.writer l) (x.ledger l)
  pub recoverers : (r : ℕ) → RecovererOk x (rs r)
  -- tables and lists of fences have a place for each ledger
  pub flags : (b : ℕ) → length (x.bookie b).fences ≡ max_ledgers
  pub writers : x.writers ≡ max_ledgers
  pub ledgers : x.ledgers ≡ max_ledgers

-- the invariant of a cluster
abbrev pub InvAt : World → List Note → Cluster → Type 0
InvAt x₀ ns c = Inv x₀ (world ns c) (recoverer_of c) c.queue.waiting

-- a step's outcome keeps it
abbrev pub Keeps : World → List Note → Cluster → Step → Outcome → Type 0
Keeps x₀ ns c s o = InvAt x₀ (note_of s c o.answer ∷ ns) o.next
