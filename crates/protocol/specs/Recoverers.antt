-- The recoverer of a ledger: how it begins, what a reply makes of it, what it asks and how it finishes.
use Rattle.std.specs.Prelude.{ℕ, ◌+◌, max, Bool, true, false, cond, not, ◌&&◌, List, [], ◌∷◌, Ok, Err, Result, ◌==◌, nat_le, nat_lt, slice_index}
use Rattle.ledgers.specs.Limits.{max_entries}
use Rattle.ledgers.specs.Ids.{ledger_id, bookie_id, entry_id, lac_id, version_id}
use Rattle.ledgers.specs.declared.bodies.Body.{Body}
use Rattle.ledgers.specs.declared.ids.BookieId.{BookieId}
use Rattle.ledgers.specs.declared.ids.Lac.{Lac}
use Rattle.ledgers.specs.declared.ids.LedgerId.{LedgerId}
use Rattle.ledgers.specs.declared.ids.RecovererId.{RecovererId}
use Rattle.ledgers.specs.declared.ids.Version.{Version}
use Rattle.layout.specs.WriteSets.{write_set, ensemble, tally, marked, no_marks, mark, covers, blocking}
use Rattle.layout.specs.Layouts.{no_layout, fragment_of, last_fragment, last_first}
use Rattle.layout.specs.declared.fragments.Layout.{Layout}
use Rattle.messages.specs.Faults.{question}
use Rattle.messages.specs.declared.faults.StoreFault.{StoreFault}
use Rattle.messages.specs.declared.messages.Message.{Message}
use Rattle.messages.specs.declared.messages.Message.TheVariants.{Fence, RecoveryRead, Add, RecoveryAdd, Added, AddRefused, Fenced, Absent, Found, RecoveryAdded, Refused}
use Rattle.messages.specs.declared.metadata.LedgerState.{LedgerState}
use Rattle.messages.specs.declared.metadata.LedgerState.TheVariants.{Open, InRecovery, Closed}
use Rattle.messages.specs.declared.metadata.Metadata.{Metadata}
use Rattle.protocol.specs.Stores.{Store, metadata_of, get_answer, put_answer, put_after, is_version}
use Rattle.protocol.specs.declared.faults.ClientFault.{ClientFault}
use Rattle.protocol.specs.declared.faults.ClientFault.TheVariants as fault
use Rattle.protocol.specs.declared.recoverers.Phase.{Phase}
use Rattle.protocol.specs.declared.recoverers.Phase.TheVariants.{Idle, Fencing, Reading, Writing, Ended}
use Rattle.protocol.specs.declared.recoverers.Recoverer.{Recoverer}

-- it has a ledger to recover
abbrev pub at_work : Phase → Bool
at_work Idle = false
at_work (Fencing m) = true
at_work (Reading m) = true
at_work (Writing m n body) = true
at_work Ended = true

-- it knows where to close
abbrev pub is_ended : Phase → Bool
is_ended Idle = false
is_ended (Fencing m) = false
is_ended (Reading m) = false
is_ended (Writing m n body) = false
is_ended Ended = true

-- one that is idle
abbrev pub no_recoverer : Recoverer
no_recoverer =
    record {
      phase = Idle;
      ledger = ledger_id 0;
      version = version_id 0;
      layout = no_layout;
      settled = lac_id 0;
    }

-- begin --------------------------------------------------------------------------------------------------------------
-- what a store refuses comes through whole
abbrev pub by_store : {A : Type 0} → Result A StoreFault → Result A ClientFault
by_store (Ok a) = Ok a
by_store (Err f) = Err (fault.Store f)

-- nobody recovers or closed the ledger
abbrev pub is_open : LedgerState → Bool
is_open Open = true
is_open InRecovery = false
is_open Closed = false

-- the ledger is closed
abbrev pub is_over : LedgerState → Bool
is_over Open = false
is_over InRecovery = false
is_over Closed = true

-- a closed ledger is refused, an open one is put in recovery, and one in recovery is taken as read
abbrev pub begin_answer : Store → LedgerId → Metadata → LedgerState → Result Version ClientFault
begin_answer s l m st =
    question (not (is_over st)) fault.Closed (cond (is_open st) (by_store (put_answer s l m.version)) (Ok m.version))

-- only an open ledger takes a put
abbrev pub begin_store : Store → LedgerId → Metadata → LedgerState → Store
begin_store s l m st = cond (is_open st) (put_after s l m.version InRecovery m.layout (lac_id 0)) s

-- with the metadata that the store answers
abbrev pub recover_with : Store → LedgerId → Result Metadata StoreFault → Result Version ClientFault
recover_with s l (Ok m) = begin_answer s l m m.state
recover_with s l (Err f) = Err (fault.Store f)

-- what the beginning of a recovery answers
abbrev pub recover_answer : Store → LedgerId → Result Version ClientFault
recover_answer s l = recover_with s l (get_answer s l)

-- the store after it
abbrev pub recover_store : Store → LedgerId → Store
recover_store s l = begin_store s l (metadata_of s l.0) (metadata_of s l.0).state

-- every entry before the last fragment's first is settled: a change comes only where all before it are confirmed
abbrev pub new_recoverer : LedgerId → Version → Layout → Recoverer
new_recoverer l v y =
    record { phase = Fencing no_marks; ledger = l; version = v; layout = y; settled = lac_id (last_first y) }

-- replies ------------------------------------------------------------------------------------------------------------
-- with n entries settled, in another phase
abbrev pub in_phase : Recoverer → ℕ → Phase → Recoverer
in_phase x n ph = record { phase = ph; ledger = x.ledger; version = x.version; layout = x.layout; settled = lac_id n }

-- with n entries settled, the next is read, if there can be one
abbrev pub read_on : ℕ → Phase
read_on n = cond (nat_le max_entries n) Ended (Reading no_marks)

-- the entry that was found is written back
abbrev pub write_back : Recoverer → Lac → Body → Recoverer
write_back x n body = in_phase x x.settled.0 (Writing no_marks n body)

-- one more, as long as there can be such an entry
abbrev pub next : ℕ → ℕ
next n = cond (nat_lt n max_entries) (n + 1) n

-- the marks with that of bookie b: in the ensemble of the last fragment,
abbrev pub fence_marks : Recoverer → List Bool → ℕ → List Bool
fence_marks x m b = mark (last_fragment x.layout).bookies (ensemble x.layout.sizes) b m

-- and in the write set of the entry at hand, the one after the settled
abbrev pub entry_marks : Recoverer → List Bool → ℕ → List Bool
entry_marks x m b = mark (fragment_of x.layout x.settled.0).bookies (write_set x.layout.sizes x.settled.0) b m

-- how many positions of that write set are marked
abbrev pub hits : Recoverer → List Bool → ℕ
hits x m = tally (marked m) (write_set x.layout.sizes x.settled.0)

-- fencing: once the marks m cover the ensemble, the next entry is read
abbrev pub fenced_on : Recoverer → List Bool → ℕ → Recoverer
fenced_on x m n = in_phase x n (cond (covers x.layout.sizes (marked m)) (read_on n) (Fencing m))

-- a fence answer of bookie b that tells LAC n
abbrev pub heard_fenced : Recoverer → List Bool → BookieId → Lac → Recoverer
heard_fenced x m b n = fenced_on x (fence_marks x m b.0) (max x.settled.0 n.0)

-- reading: once a blocking number of positions answered absent, the entry cannot have been confirmed
abbrev pub absent_on : Recoverer → List Bool → Recoverer
absent_on x m = in_phase x x.settled.0 (cond (nat_le (blocking x.layout.sizes) (hits x m)) Ended (Reading m))

-- bookie b does not hold the entry at hand
abbrev pub heard_absent : Recoverer → List Bool → BookieId → Recoverer
heard_absent x m b = absent_on x (entry_marks x m b.0)

-- writing back: once an ack quorum holds the entry, it is settled, and the next is read
abbrev pub written_on : Recoverer → List Bool → Lac → Body → Recoverer
written_on x m n body =
    cond (nat_le x.layout.sizes.ack (hits x m)) (in_phase x (next x.settled.0) (read_on (next x.settled.0)))
    (in_phase x x.settled.0 (Writing m n body))

-- bookie b holds the entry at hand
abbrev pub heard_written : Recoverer → List Bool → Lac → Body → BookieId → Recoverer
heard_written x m n body b = written_on x (entry_marks x m b.0) n body

-- the reply is of the ledger and the entry at hand
abbrev pub at_hand : Recoverer → ℕ → ℕ → Bool
at_hand x l e = l == x.ledger.0 && e == x.settled.0

-- only fence answers of its ledger count
abbrev pub while_fencing : Recoverer → List Bool → Message → Recoverer
while_fencing x m (Fence r l b) = x
while_fencing x m (RecoveryRead r l b e) = x
while_fencing x m (Add l b e n body) = x
while_fencing x m (RecoveryAdd r l b e n body) = x
while_fencing x m (Added l b e) = x
while_fencing x m (AddRefused l b e f) = x
while_fencing x m (Fenced r l b n) = cond (l.0 == x.ledger.0) (heard_fenced x m b n) x
while_fencing x m (Absent r l b e) = x
while_fencing x m (Found r l b e n body) = x
while_fencing x m (RecoveryAdded r l b e) = x
while_fencing x m (Refused r l b f) = x

-- only answers for the entry at hand count: absent, or found
abbrev pub while_reading : Recoverer → List Bool → Message → Recoverer
while_reading x m (Fence r l b) = x
while_reading x m (RecoveryRead r l b e) = x
while_reading x m (Add l b e n body) = x
while_reading x m (RecoveryAdd r l b e n body) = x
while_reading x m (Added l b e) = x
while_reading x m (AddRefused l b e f) = x
while_reading x m (Fenced r l b n) = x
while_reading x m (Absent r l b e) = cond (at_hand x l.0 e.0) (heard_absent x m b) x
while_reading x m (Found r l b e n body) = cond (at_hand x l.0 e.0) (write_back x n body) x
while_reading x m (RecoveryAdded r l b e) = x
while_reading x m (Refused r l b f) = x

-- only good replies for the entry at hand count
abbrev pub while_writing : Recoverer → List Bool → Lac → Body → Message → Recoverer
while_writing x m n body (Fence r l b) = x
while_writing x m n body (RecoveryRead r l b e) = x
while_writing x m n body (Add l b e n' body') = x
while_writing x m n body (RecoveryAdd r l b e n' body') = x
while_writing x m n body (Added l b e) = x
while_writing x m n body (AddRefused l b e f) = x
while_writing x m n body (Fenced r l b n') = x
while_writing x m n body (Absent r l b e) = x
while_writing x m n body (Found r l b e n' body') = x
while_writing x m n body (RecoveryAdded r l b e) = cond (at_hand x l.0 e.0) (heard_written x m n body b) x
while_writing x m n body (Refused r l b f) = x

-- a reply of another phase is ignored
abbrev pub heard_in : Phase → Recoverer → Message → Recoverer
heard_in Idle x m = x
heard_in (Fencing marks) x m = while_fencing x marks m
heard_in (Reading absent) x m = while_reading x absent m
heard_in (Writing good n body) x m = while_writing x good n body m
heard_in Ended x m = x

-- what a recoverer is after a reply
abbrev pub heard : Recoverer → Message → Recoverer
heard x m = heard_in x.phase x m

-- requests -----------------------------------------------------------------------------------------------------------
-- one request, made by f for each bookie, to the unmarked ones of the positions; bs are the bookies by position
abbrev pub asks_to : List Bool → List ℕ → (BookieId → Message) → List ℕ → List Message
asks_to m bs f [] = []
asks_to m bs f (p ∷ ps) = cond (marked m p) (asks_to m bs f ps) (f (bookie_id (slice_index bs p)) ∷ asks_to m bs f ps)

-- to the ensemble of the last fragment
abbrev pub asks_ensemble : Recoverer → List Bool → (BookieId → Message) → List Message
asks_ensemble x m f = asks_to m (last_fragment x.layout).bookies f (ensemble x.layout.sizes)

-- to the write set of the entry at hand
abbrev pub asks_write_set : Recoverer → List Bool → (BookieId → Message) → List Message
asks_write_set x m f = asks_to m (fragment_of x.layout x.settled.0).bookies f (write_set x.layout.sizes x.settled.0)

-- the requests of a phase to the positions that have not answered
abbrev pub asks_in : Phase → Recoverer → RecovererId → List Message
asks_in Idle x r = []
asks_in (Fencing m) x r = asks_ensemble x m (λ b. Fence r x.ledger b)
asks_in (Reading m) x r = asks_write_set x m (λ b. RecoveryRead r x.ledger b (entry_id x.settled.0))
asks_in (Writing m n body) x r = asks_write_set x m (λ b. RecoveryAdd r x.ledger b (entry_id x.settled.0) n body)
asks_in Ended x r = []

-- the requests of the phase it is in
abbrev pub asks : Recoverer → RecovererId → List Message
asks x r = asks_in x.phase x r

-- the phase a recoverer is in, leaving the marks aside
abbrev pub phase_number : Phase → ℕ
phase_number Idle = 0
phase_number (Fencing m) = 1
phase_number (Reading m) = 2
phase_number (Writing m n body) = 3
phase_number Ended = 4

-- a reply that leads to another phase has that phase's requests sent
abbrev pub heard_sends : Recoverer → RecovererId → Message → List Message
heard_sends x r m = cond (phase_number x.phase == phase_number (heard x m).phase) [] (asks (heard x m) r)

-- finish -------------------------------------------------------------------------------------------------------------
-- it expects the version that it began with
abbrev pub finish_version : Recoverer → Store → Version
finish_version x s = x.version

-- where another recovery closed the ledger first, its closing entry is taken
abbrev pub finished : Recoverer → Store → Result Version StoreFault → Result Lac ClientFault
finished x s (Ok v) = Ok x.settled
finished x s (Err f) = cond (is_version f) (Ok (metadata_of s x.ledger.0).closing) (Err (fault.Store f))

-- the entry that the ledger is closed at
abbrev pub finish_answer : Recoverer → Store → Result Lac ClientFault
finish_answer x s = question (is_ended x.phase) fault.Unfinished (finished x s (put_answer s x.ledger (finish_version x s)))

-- the store after it
abbrev pub finish_store : Recoverer → Store → Store
finish_store x s = put_after s x.ledger (finish_version x s) Closed x.layout x.settled
