-- The writer of a ledger: what each call answers, what the writer becomes and what it sends.
use Rattle.std.specs.Prelude.{ℕ, suc, ◌+◌, Bool, true, false, cond, not, ◌&&◌, List, [], ◌∷◌, ◌++◌, map, length, take, Some, None, Ok, Err, Option, Result, ◌==◌, nat_le, nat_lt, slice_set}
use Rattle.ledgers.specs.Limits.{max_entries, max_pending}
use Rattle.ledgers.specs.Ids.{bookie_id, entry_id, lac_id, version_id}
use Rattle.ledgers.specs.declared.bodies.Body.{Body}
use Rattle.ledgers.specs.declared.ids.BookieId.{BookieId}
use Rattle.ledgers.specs.declared.ids.EntryId.{EntryId}
use Rattle.ledgers.specs.declared.ids.Lac.{Lac}
use Rattle.ledgers.specs.declared.ids.LedgerId.{LedgerId}
use Rattle.ledgers.specs.declared.ids.Position.{Position}
use Rattle.ledgers.specs.declared.ids.Version.{Version}
use Rattle.layout.specs.WriteSets.{write_set, tally, marked, no_marks, mark, member}
use Rattle.layout.specs.Layouts.{no_layout, fragment_of, last_fragment, bookie_at, room_for, changed_layout}
use Rattle.layout.specs.declared.fragments.Layout.{Layout}
use Rattle.messages.specs.Faults.{question}
use Rattle.messages.specs.declared.entries.PendingAdd.{PendingAdd}
use Rattle.messages.specs.declared.faults.BookieFault.{BookieFault}
use Rattle.messages.specs.declared.faults.BookieFault.TheVariants as refused
use Rattle.messages.specs.declared.faults.StoreFault.{StoreFault}
use Rattle.messages.specs.declared.messages.Message.{Message}
use Rattle.messages.specs.declared.messages.Message.TheVariants.{Add}
use Rattle.messages.specs.declared.metadata.LedgerState.TheVariants.{Open, Closed}
use Rattle.protocol.specs.Stores.{Store, put_answer, put_after, is_version}
use Rattle.protocol.specs.declared.faults.ClientFault.{ClientFault}
use Rattle.protocol.specs.declared.faults.ClientFault.TheVariants as fault
use Rattle.protocol.specs.declared.writers.WriterState.{WriterState}
use Rattle.protocol.specs.declared.writers.WriterState.TheVariants as state

-- the version is that of its last put; lac counts the confirmed entries; pending are the entries from there on
pub record Writer : Type 0 where
  pub state : WriterState
  pub layout : Layout
  pub version : ℕ
  pub lac : ℕ
  pub pending : List PendingAdd

-- the writer of a ledger that is not there
abbrev pub no_writer : Writer
no_writer = record { state = state.Absent; layout = no_layout; version = 0; lac = 0; pending = [] }

-- the writer of a new ledger
abbrev pub new_writer : Layout → Writer
new_writer y = record { state = state.Writing; layout = y; version = 1; lac = 0; pending = [] }

-- it has a ledger
abbrev pub is_made : WriterState → Bool
is_made state.Absent = false
is_made state.Writing = true
is_made state.Fenced = true
is_made state.Closed = true

-- a recovery took its ledger over
abbrev pub is_shut_out : WriterState → Bool
is_shut_out state.Absent = false
is_shut_out state.Writing = false
is_shut_out state.Fenced = true
is_shut_out state.Closed = false

-- it closed its ledger
abbrev pub is_closed : WriterState → Bool
is_closed state.Absent = false
is_closed state.Writing = false
is_closed state.Fenced = false
is_closed state.Closed = true

-- it appends, and hears replies
abbrev pub is_writing : WriterState → Bool
is_writing state.Absent = false
is_writing state.Writing = true
is_writing state.Fenced = false
is_writing state.Closed = false

-- with other pending adds, the first of which is entry n
abbrev pub with_pending : Writer → ℕ → List PendingAdd → Writer
with_pending w n ps = record { state = w.state; layout = w.layout; version = w.version; lac = n; pending = ps }

-- a fenced writer drops its pending adds
abbrev pub fenced_writer : Writer → Writer
fenced_writer w = record { state = state.Fenced; layout = w.layout; version = w.version; lac = w.lac; pending = [] }

-- is the writer free of a fence, and not closed?
abbrev pub if_writing : {A : Type 0} → Writer → Result A ClientFault → Result A ClientFault
if_writing w r = question (not (is_shut_out w.state)) fault.Fenced (question (not (is_closed w.state)) fault.Closed r)

-- adds of entry e, with LAC n, to the unmarked ones of the positions
abbrev pub adds_to : Layout → LedgerId → ℕ → ℕ → PendingAdd → List ℕ → List Message
adds_to y l e n p [] = []
adds_to y l e n p (q ∷ qs) =
    cond (marked p.marks q) (adds_to y l e n p qs)
    (Add l (bookie_id (bookie_at y e q)) (entry_id e) (lac_id n) p.body ∷ adds_to y l e n p qs)

-- adds of entry e to its write set
abbrev pub adds : Layout → LedgerId → ℕ → ℕ → PendingAdd → List Message
adds y l e n p = adds_to y l e n p (write_set y.sizes e)

-- append -------------------------------------------------------------------------------------------------------------
-- the number that the next append gives
abbrev pub next_entry : Writer → ℕ
next_entry w = w.lac + length w.pending

-- there is a place for one more pending add, and there is a next entry
abbrev pub has_room : Writer → Bool
has_room w = nat_lt (length w.pending) max_pending && nat_lt (next_entry w) max_entries

-- a pending add that nobody acknowledged yet
abbrev pub new_add : Body → PendingAdd
new_add body = record { body = body; marks = no_marks }

-- the next entry
abbrev pub append_answer : Writer → Result EntryId ClientFault
append_answer w = if_writing w (question (has_room w) fault.Full (Ok (entry_id (next_entry w))))

-- the body is pending
abbrev pub appended : Writer → Body → Writer
appended w body = with_pending w w.lac (w.pending ++ (new_add body ∷ []))

-- adds to the write set
abbrev pub append_sends : Writer → LedgerId → Body → List Message
append_sends w l body = adds w.layout l (next_entry w) w.lac (new_add body)

-- resend -------------------------------------------------------------------------------------------------------------
-- the unmarked adds of pending entries, the first of which is e
abbrev pub all_adds : Layout → LedgerId → ℕ → ℕ → List PendingAdd → List Message
all_adds y l n e [] = []
all_adds y l n e (p ∷ ps) = adds y l e n p ++ all_adds y l n (suc e) ps

-- only a writer that is writing resends
abbrev pub resend_answer : Writer → Result (Unit {0}) ClientFault
resend_answer w = if_writing w (Ok tt)

-- what it sends
abbrev pub resends : Writer → LedgerId → List Message
resends w l = all_adds w.layout l w.lac w.lac w.pending

-- a reply ------------------------------------------------------------------------------------------------------------
-- a good reply for entry e marks the position at which bookie b stands in its write set
abbrev pub marked_add : Layout → ℕ → ℕ → PendingAdd → PendingAdd
marked_add y e b p = record { body = p.body; marks = mark (fragment_of y e).bookies (write_set y.sizes e) b p.marks }

-- of pending adds, the first of which is entry k
abbrev pub marked_adds : Layout → ℕ → ℕ → ℕ → List PendingAdd → List PendingAdd
marked_adds y e b k [] = []
marked_adds y e b k (p ∷ ps) = cond (e == k) (marked_add y e b p ∷ ps) (p ∷ marked_adds y e b (suc k) ps)

-- entry e has an ack quorum of marks
abbrev pub is_acknowledged : Layout → ℕ → PendingAdd → Bool
is_acknowledged y e p = nat_le y.sizes.ack (tally (marked p.marks) (write_set y.sizes e))

-- the LAC, as a count, and the adds that are pending after it
pub record Front : Type 0 where
  pub lac : ℕ
  pub pending : List PendingAdd

-- while the first pending entry has an ack quorum of marks, it is confirmed
abbrev pub confirmed : Layout → ℕ → List PendingAdd → Front
confirmed y e [] = record { lac = e; pending = [] }
confirmed y e (p ∷ ps) = cond (is_acknowledged y e p) (confirmed y (suc e) ps) (record { lac = e; pending = p ∷ ps })

-- with this LAC and these pending adds
abbrev pub with_front : Writer → Front → Writer
with_front w f = with_pending w f.lac f.pending

-- bookie b acknowledged entry e
abbrev pub acknowledged : Writer → ℕ → ℕ → Writer
acknowledged w b e = with_front w (confirmed w.layout w.lac (marked_adds w.layout e b w.lac w.pending))

-- a refusal because of a fence fences the writer, and any other is ignored
abbrev pub replied : Writer → ℕ → ℕ → Result (Unit {0}) BookieFault → Writer
replied w b e (Ok u) = acknowledged w b e
replied w b e (Err refused.Range) = w
replied w b e (Err refused.Stopped) = w
replied w b e (Err refused.Fenced) = fenced_writer w
replied w b e (Err refused.OtherBody) = w
replied w b e (Err refused.Full) = w

-- a fenced or closed writer ignores every reply
abbrev pub reply_after : Writer → ℕ → ℕ → Result (Unit {0}) BookieFault → Writer
reply_after w b e r = cond (is_writing w.state) (replied w b e r) w

-- puts of a writer ---------------------------------------------------------------------------------------------------
-- another version means that a recovery took the ledger over: no result, and the writer is fenced
abbrev pub by_put : {A : Type 0} → A → Result Version StoreFault → Result (Option A) ClientFault
by_put a (Ok v) = Ok (Some a)
by_put a (Err f) = cond (is_version f) (Ok None) (Err (fault.Store f))

-- ensemble change ----------------------------------------------------------------------------------------------------
-- the bookie is outside the ensemble, and the position inside
abbrev pub change_fits : Layout → ℕ → ℕ → Bool
change_fits y p b = not (member b (take y.sizes.ensemble (last_fragment y).bookies)) && nat_lt p y.sizes.ensemble

-- the layout with bookie b at position p for every entry that is not confirmed
abbrev pub new_layout : Writer → Position → BookieId → Layout
new_layout w p b = changed_layout w.layout w.lac p.0 b.0

-- the bookie and the position fit, the writer is writing, no ninth fragment is needed, and the store takes it
abbrev pub change_answer : Writer → Store → LedgerId → Position → BookieId → Result (Option EntryId) ClientFault
change_answer w s l p b =
    question (change_fits w.layout p.0 b.0) fault.Ensemble
    (if_writing w (question (room_for w.layout w.lac) fault.Fragments
    (by_put (entry_id w.lac) (put_answer s l (version_id w.version)))))

-- the store after it
abbrev pub change_store : Writer → Store → LedgerId → Position → BookieId → Store
change_store w s l p b = put_after s l (version_id w.version) Open (new_layout w p b) (lac_id 0)

-- what the bookie that leaves position p acknowledged counts no more
abbrev pub unmarked : ℕ → PendingAdd → PendingAdd
unmarked p a = record { body = a.body; marks = slice_set a.marks p false }

-- the writer after it
abbrev pub changed_writer : Writer → Position → BookieId → Writer
changed_writer w p b =
    record {
      state = w.state;
      layout = new_layout w p b;
      version = suc w.version;
      lac = w.lac;
      pending = map (unmarked p.0) w.pending;
    }

-- adds, with LAC n, to bookie b for each pending entry whose write set has position q; the first of them is e
abbrev pub adds_at : Layout → LedgerId → ℕ → ℕ → BookieId → ℕ → List PendingAdd → List Message
adds_at y l n q b e [] = []
adds_at y l n q b e (p ∷ ps) =
    cond (member q (write_set y.sizes e)) (Add l b (entry_id e) (lac_id n) p.body ∷ adds_at y l n q b (suc e) ps)
    (adds_at y l n q b (suc e) ps)

-- the new bookie gets what is pending
abbrev pub change_sends : Writer → LedgerId → Position → BookieId → List Message
change_sends w l p b = adds_at (new_layout w p b) l w.lac p.0 b w.lac w.pending

-- close --------------------------------------------------------------------------------------------------------------
-- the writer is writing, nothing is pending, and the store takes it
abbrev pub close_answer : Writer → Store → LedgerId → Result (Option Lac) ClientFault
close_answer w s l =
    if_writing w (question (length w.pending == 0) fault.Pending
    (by_put (lac_id w.lac) (put_answer s l (version_id w.version))))

-- the store after it
abbrev pub close_store : Writer → Store → LedgerId → Store
close_store w s l = put_after s l (version_id w.version) Closed w.layout (lac_id w.lac)

-- the writer after it
abbrev pub closed_writer : Writer → Writer
closed_writer w = record { state = state.Closed; layout = w.layout; version = suc w.version; lac = w.lac; pending = w.pending }
