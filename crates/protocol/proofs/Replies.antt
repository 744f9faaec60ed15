-- The delivery of a reply: what its writer or its recoverer becomes.
use Rattle.std.proofs.Common.{◌≡◌, ℕ, suc, ◌+◌, max, ◌<◌, ◌≤◌, Bool, true, false, eqb, ltb, leb, List, [], ◌∷◌, length, get_or, Ok, Err, Result, sym, refl, ap, subst, inl, inr, arith}
use Rattle.std.specs.List.{AllByRecursion}
use Rattle.std.proofs.lemmas.Bool.{and_parts, both_ways, true≢false, false≢true, cond_both, eqb-true, leb-true, cases_eq, cases_lt}
use Rattle.ledgers.specs.Limits.{max_entries}
use Rattle.ledgers.specs.Ids.{bookie_id, entry_id}
use Rattle.ledgers.specs.declared.bodies.Body.{Body}
use Rattle.ledgers.specs.declared.ids.BookieId.{BookieId}
use Rattle.ledgers.specs.declared.ids.EntryId.{EntryId}
use Rattle.ledgers.specs.declared.ids.Lac.{Lac}
use Rattle.ledgers.specs.declared.ids.LedgerId.{LedgerId}
use Rattle.ledgers.specs.declared.ids.RecovererId.{RecovererId}
use Rattle.layout.specs.WriteSets.{write_set, ensemble, tally, marked, no_marks, blocking, covers, mark}
use Rattle.layout.specs.Layouts.{fragment_of, last_fragment, bookie_at, bookies_of}
use Rattle.layout.specs.declared.fragments.Layout.{Layout}
use Rattle.messages.specs.declared.entries.PendingAdd.{PendingAdd}
use Rattle.messages.specs.declared.faults.BookieFault.{BookieFault}
use Rattle.messages.specs.declared.faults.BookieFault.TheVariants as refused
use Rattle.messages.specs.declared.messages.Message.{Message}
use Rattle.messages.specs.declared.messages.Message.TheVariants.{Fence, RecoveryRead, Add, RecoveryAdd, Added, AddRefused, Fenced, Absent, Found, RecoveryAdded, Refused}
use Rattle.messages.specs.declared.metadata.LedgerState.{LedgerState}
use Rattle.messages.specs.declared.metadata.LedgerState.TheVariants.{Open, InRecovery, Closed}
use Rattle.messages.specs.declared.metadata.Metadata.{Metadata}
use Rattle.protocol.specs.Writers.{Writer, is_made, is_shut_out, is_closed, is_writing, fenced_writer, marked_add, marked_adds, is_acknowledged, Front, confirmed, acknowledged, replied, reply_after}
use Rattle.protocol.specs.Recoverers.{at_work, in_phase, read_on, write_back, next, entry_marks, hits, fenced_on, heard_fenced, absent_on, heard_absent, written_on, heard_written, at_hand, while_fencing, while_reading, while_writing, heard_in, heard, asks_to, asks_in, asks, phase_number, heard_sends}
use Rattle.protocol.specs.Clusters.{Cluster, writer_of, recoverer_of, ledger_of, with_recoverer}
use Rattle.protocol.specs.Steps.{to_writer, to_recoverer}
use Rattle.protocol.specs.declared.writers.WriterState.{WriterState}
use Rattle.protocol.specs.declared.writers.WriterState.TheVariants as state
use Rattle.protocol.specs.declared.recoverers.Phase.{Phase}
use Rattle.protocol.specs.declared.recoverers.Phase.TheVariants.{Idle, Fencing, Reading, Writing, Ended}
use Rattle.protocol.specs.declared.recoverers.Recoverer.{Recoverer}
use Rattle.protocol.proofs.Lists.{tally_mono, mark_is, none_marked, marks_count}
use Rattle.protocol.proofs.World.{Note, acked_by, World, world, barred, held_at, Sent, MessageOk, PendingOk, WriterOk, Copied, StateOk, LedgerOk, PhaseOk, WorkOk, RecovererOk, Inv, InvAt}
use Rattle.protocol.proofs.Changes.{sent_inv, recoverer_inv, advances_same, Becomes, writer_inv}

-- to a writer --------------------------------------------------------------------------------------------------------
-- a writer that is writing
pub writing_is : (st : WriterState) → is_writing st ≡ true → st ≡ state.Writing
writing_is state.Absent h = absurd (false≢true h)
writing_is state.Writing h = refl
writing_is state.Fenced h = absurd (false≢true h)
writing_is state.Closed h = absurd (false≢true h)

-- an acknowledgement that was given may be marked
mark_pending : (ts : List Body) (A : ℕ → ℕ → Bool) (y : Layout) (e b k : ℕ) (ps : List PendingAdd) → A e b ≡ true → PendingOk ts A y k ps
    → PendingOk ts A y k (marked_adds y e b k ps)
mark_pending ts A y e b k [] a h = h
mark_pending ts A y e b k (p ∷ ps) a h =
    cond_both (eqb e k) (marked_add y e b p ∷ ps) (p ∷ marked_adds y e b (suc k) ps) (PendingOk ts A y k)
    (λ q. (
      h.0,
      subst (λ (n : ℕ). (v : ℕ) → marked (mark (fragment_of y n).bookies (write_set y.sizes n) b p.marks) v ≡ true → A k (bookie_at y k v) ≡ true)
          (sym (eqb-true e k q))
          (mark_is (λ v. A k v ≡ true) (fragment_of y k).bookies (write_set y.sizes k) b p.marks h.1 (subst (λ (n : ℕ). A n b ≡ true) (eqb-true e k q) a)),
      h.2,
    ))
    (λ _. (h.0, h.1, mark_pending ts A y e b (suc k) ps a h.2))

-- what the writer knows of its LAC and pending adds
record FrontOk (ts : List Body) (A : ℕ → ℕ → Bool) (y : Layout) (e : ℕ) (f : Front) : Type 0 where
  grown : e ≤ f.lac
  upto : f.lac ≤ length ts
  firm : (k : ℕ) → k < f.lac → y.sizes.ack ≤ tally (A k) (bookies_of y k)
  pending : PendingOk ts A y f.lac f.pending

-- what is confirmed was acknowledged by an ack quorum
confirm_ok : (ts : List Body) (A : ℕ → ℕ → Bool) (y : Layout) (e : ℕ) (ps : List PendingAdd) → e ≤ length ts
    → ((k : ℕ) → k < e → y.sizes.ack ≤ tally (A k) (bookies_of y k)) → PendingOk ts A y e ps → FrontOk ts A y e (confirmed y e ps)
confirm_ok ts A y e [] u f h = record { grown = omega arith; upto = u; firm = f; pending = h }
confirm_ok ts A y e (p ∷ ps) u f h =
    cond_both (is_acknowledged y e p) (confirmed y (suc e) ps) (record { lac = e; pending = p ∷ ps }) (FrontOk ts A y e)
    (λ q. let g = confirm_ok ts A y (suc e) ps h.0.0 (λ k. firm k (leb-true y.sizes.ack _ q)) h.2 in
    record { grown = let z = g.grown in omega arith; upto = g.upto; firm = g.firm; pending = g.pending })
    (λ _. record { grown = omega arith; upto = u; firm = f; pending = h })
  where
    here : y.sizes.ack ≤ tally (marked p.marks) (write_set y.sizes e) → y.sizes.ack ≤ tally (A e) (bookies_of y e)
    here z = let c = marks_count (A e) y e p.marks h.1 in omega arith

    firm : (k : ℕ) → y.sizes.ack ≤ tally (marked p.marks) (write_set y.sizes e) → k < suc e → y.sizes.ack ≤ tally (A k) (bookies_of y k)
    firm k z j = elim (cases_eq k e) [ inl s ↦ subst (λ (n : ℕ). y.sizes.ack ≤ tally (A n) (bookies_of y n)) (sym s) (here z) | inr s ↦ f k (omega arith) ]

-- the metadata's facts do not depend on LAC and pending adds of a writer that has not closed
pub front_ledger : (x : World) (l : ℕ) (w : Writer) (m : Metadata) (n : ℕ) (ps : List PendingAdd) (st : WriterState) → is_closed w.state ≡ false → is_closed st ≡ false
    → (is_made w.state ≡ false → is_made st ≡ false) → LedgerOk x l w m
    → LedgerOk x l (record { state = st; layout = w.layout; version = w.version; lac = n; pending = ps }) m
front_ledger x l w m n ps st o o' made h =
    record { free = λ v. let f = h.free v in (f.0, made f.1); state = by m.state h.state; layout = h.layout }
  where
    by : (s : LedgerState) → StateOk x l w m s → StateOk x l (record { state = st; layout = w.layout; version = w.version; lac = n; pending = ps }) m s
    by Open k = (k.0, o', k.2)
    by InRecovery k = (k.0, o', k.2)
    by Closed k = (k.0, elim k.1 [ inl z ↦ absurd (both_ways (is_closed w.state) o z.0) | inr z ↦ inr z ])

-- a writer that loses its ledger
pub fenced_becomes : (x : World) (l : ℕ) (w : Writer) (m : Metadata) → is_made w.state ≡ true → is_closed w.state ≡ false
    → WriterOk (x.contents l) (x.acked l) w → LedgerOk x l w m → Becomes x l w (fenced_writer w) m
fenced_becomes x l w m made o h k =
    record {
      advances = record { lac = omega arith; layout = refl };
      writer =
          record {
            upto = h.upto;
            small = h.small;
            firm = h.firm;
            pending = λ f _. absurd (true≢false f);
            first = h.first;
            blank = λ b. absurd (true≢false b);
            layout = h.layout;
          };
      ledger = front_ledger x l w m w.lac [] state.Fenced o refl (λ b. absurd (both_ways (is_made w.state) b made)) k;
    }

module _ (x : World) (l b e : ℕ) (w : Writer) (m : Metadata) (h : WriterOk (x.contents l) (x.acked l) w) (k : LedgerOk x l w m) where
  -- a reply that is ignored
  same_becomes : Becomes x l w w m
  same_becomes = record { advances = advances_same w; writer = h; ledger = k }

  -- a good reply
  good_becomes : w.state ≡ state.Writing → x.acked l e b ≡ true → Becomes x l w (acknowledged w b e) m
  good_becomes s g =
      let open_w : is_closed w.state ≡ false = ap is_closed s in
      let f =
      confirm_ok (x.contents l) (x.acked l) w.layout w.lac (marked_adds w.layout e b w.lac w.pending) h.upto h.firm
      (mark_pending (x.contents l) (x.acked l) w.layout e b w.lac w.pending g (h.pending (ap is_shut_out s) open_w)) in
      record {
        advances = record { lac = f.grown; layout = refl };
        writer =
            record {
              upto = f.upto;
              small = h.small;
              firm = f.firm;
              pending = λ _ _. f.pending;
              first = let u = h.first in let v = f.grown in omega arith;
              blank = h.blank;
              layout = h.layout;
            };
        ledger = front_ledger x l w m _ _ w.state open_w open_w (λ z. z) k;
      }

  -- each kind of reply
  replied_becomes : (a : Result (Unit {0}) BookieFault) → ((u : Unit {0}) → a ≡ Ok u → x.acked l e b ≡ true) → w.state ≡ state.Writing
      → Becomes x l w (replied w b e a) m
  replied_becomes (Ok u) g s = good_becomes s (g u refl)
  replied_becomes (Err refused.Range) g s = same_becomes
  replied_becomes (Err refused.Stopped) g s = same_becomes
  replied_becomes (Err refused.Fenced) g s = fenced_becomes x l w m (ap is_made s) (ap is_closed s) h k
  replied_becomes (Err refused.OtherBody) g s = same_becomes
  replied_becomes (Err refused.Full) g s = same_becomes

  -- and whether it is heard
  reply_becomes : (a : Result (Unit {0}) BookieFault) → ((u : Unit {0}) → a ≡ Ok u → x.acked l e b ≡ true) → Becomes x l w (reply_after w b e a) m
  reply_becomes a g =
      cond_both (is_writing w.state) (replied w b e a) w (λ v. Becomes x l w v m) (λ q. replied_becomes a g (writing_is w.state q)) (λ _. same_becomes)

-- a reply arrives at a writer
pub to_writer_keeps : {x₀ : World} (ns : List Note) (c : Cluster) (l : LedgerId) (b : BookieId) (e : EntryId) (a : Result (Unit {0}) BookieFault) → InvAt x₀ ns c
    → ((u : Unit {0}) → a ≡ Ok u → acked_by ns l.0 e.0 b.0 ≡ true) → InvAt x₀ ns (to_writer c l b e a).next
to_writer_keeps ns c l b e a i g =
    writer_inv ns c l.0 (reply_after (writer_of c l.0) b.0 e.0 a) i
    (reply_becomes (world ns c) l.0 b.0 e.0 (writer_of c l.0) (ledger_of c l.0) (i.writing l.0) (i.metadata l.0) a g)

-- requests of a recoverer --------------------------------------------------------------------------------------------
-- what each request has, all have
all_asks : (P : Message → Type 0) (m : List Bool) (bs : List ℕ) (f : BookieId → Message) (ps : List ℕ) → ((b : BookieId) → P (f b)) → AllByRecursion P (asks_to m bs f ps)
all_asks P m bs f [] h = tt
all_asks P m bs f (p ∷ ps) h =
    cond_both (marked m p) (asks_to m bs f ps) (f (bookie_id (get_or bs p 0)) ∷ asks_to m bs f ps) (AllByRecursion P) (λ _. all_asks P m bs f ps h)
    (λ _. (h (bookie_id (get_or bs p 0)), all_asks P m bs f ps h))

-- only what is written back says anything
pub asks_ok : (x : World) (R : Recoverer) (r : RecovererId) (ph : Phase) → PhaseOk x R R.ledger.0 R.layout ph → AllByRecursion (MessageOk x) (asks_in ph R r)
asks_ok x R r Idle h = tt
asks_ok x R r (Fencing m) h = all_asks (MessageOk x) m (last_fragment R.layout).bookies (λ b. Fence r R.ledger b) (ensemble R.layout.sizes) (λ b. tt {0})
asks_ok x R r (Reading m) h =
    all_asks (MessageOk x) m (fragment_of R.layout R.settled.0).bookies (λ b. RecoveryRead r R.ledger b (entry_id R.settled.0))
    (write_set R.layout.sizes R.settled.0) (λ b. tt {0})
asks_ok x R r (Writing m n body) h =
    all_asks (MessageOk x) m (fragment_of R.layout R.settled.0).bookies (λ b. RecoveryAdd r R.ledger b (entry_id R.settled.0) n body)
    (write_set R.layout.sizes R.settled.0) (λ b. h.0)
asks_ok x R r Ended h = tt

-- an idle recoverer asks nothing
phase_of : (x : World) (R : Recoverer) → RecovererOk x R → (ph : Phase) → R.phase ≡ ph → PhaseOk x R R.ledger.0 R.layout ph
phase_of x R h Idle q = tt
phase_of x R h (Fencing m) q = tt
phase_of x R h (Reading m) q = subst (PhaseOk x R R.ledger.0 R.layout) q (h (ap at_work q)).phase
phase_of x R h (Writing m n body) q = subst (PhaseOk x R R.ledger.0 R.layout) q (h (ap at_work q)).phase
phase_of x R h Ended q = subst (PhaseOk x R R.ledger.0 R.layout) q (h (ap at_work q)).phase

-- to a recoverer -----------------------------------------------------------------------------------------------------
-- everything up to the writer's LAC is copied
pub lac_copied : {x₀ x : World} {rs : ℕ → Recoverer} {ms : List Message} → Inv x₀ x rs ms → (l : ℕ) → Copied x l (x.writer l).lac (x.writer l).layout
lac_copied {x₀} {x} i l e k =
    let f = (i.writing l).firm e k in
    let g = tally_mono (x.acked l e) (held_at x l e) (bookies_of (x.writer l).layout e) (i.acked l e) in omega arith

module _ (x : World) (R : Recoverer) (w : WorkOk x R) where
  -- in a phase with n entries settled, all of which are copied
  work_in : (n : ℕ) (ph : Phase) → Copied x R.ledger.0 n R.layout → PhaseOk x (in_phase R n ph) R.ledger.0 R.layout ph → WorkOk x (in_phase R n ph)
  work_in n ph h p = record { same = w.same; under = w.under; below = h; phase = p }

  -- the next entry is read, with no marks yet
  work_on : (n : ℕ) → Copied x R.ledger.0 n R.layout → WorkOk x (in_phase R n (read_on n))
  work_on n h =
      cond_both (leb max_entries n) Ended (Reading no_marks) (λ ph. WorkOk x (in_phase R n ph))
      (λ q. work_in n Ended h (inl (leb-true max_entries n q))) (λ _. work_in n (Reading no_marks) h (λ q m. absurd (none_marked q m)))

  -- fencing goes on, or the next entry is read
  fenced_on_work : (m : List Bool) (n : ℕ) → Copied x R.ledger.0 n R.layout → WorkOk x (fenced_on R m n)
  fenced_on_work m n copied =
      cond_both (covers R.layout.sizes (marked m)) (read_on n) (Fencing m) (λ ph. WorkOk x (in_phase R n ph)) (λ _. work_on n copied)
      (λ _. work_in n (Fencing m) copied tt)

  -- a fence answer: whoever it came from, it tells a LAC that the writer has had
  fenced_work : {x₀ : World} {rs : ℕ → Recoverer} {ms : List Message} → Inv x₀ x rs ms → (m : List Bool) (b : BookieId) (n : Lac)
      → n.0 ≤ (x.writer R.ledger.0).lac → WorkOk x (heard_fenced R m b n)
  fenced_work i m b n k =
      fenced_on_work _ (max R.settled.0 n.0)
      (λ e j. elim (cases_lt e R.settled.0) [ inl z ↦ w.below e z | inr z ↦ rw w.same (lac_copied i R.ledger.0 e (omega arith)) ])

  -- a body was found
  found_work : (n : Lac) (body : Body) → Sent x R.ledger.0 R.settled.0 n.0 body → WorkOk x (write_back R n body)
  found_work n body g = record { same = w.same; under = w.under; below = w.below; phase = (g, λ q m. absurd (none_marked q m)) }

  -- reading goes on, or a blocking number of barred positions ends it
  absent_on_work : (m : List Bool) → PhaseOk x R R.ledger.0 R.layout (Reading m) → WorkOk x (absent_on R m)
  absent_on_work m marks =
      cond_both (leb (blocking R.layout.sizes) (hits R m)) Ended (Reading m) (λ p. WorkOk x (in_phase R R.settled.0 p))
      (λ q. work_in R.settled.0 Ended w.below
      (inr (let u = leb-true (blocking R.layout.sizes) (hits R m) q in
      let v = marks_count (barred x R.ledger.0 R.settled.0) R.layout R.settled.0 m marks in omega arith)))
      (λ _. work_in R.settled.0 (Reading m) w.below marks)

  -- the entry is absent there
  absent_work : (m : List Bool) (b : BookieId) → R.phase ≡ Reading m → barred x R.ledger.0 R.settled.0 b.0 ≡ true → WorkOk x (heard_absent R m b)
  absent_work m b ph g =
      absent_on_work (entry_marks R m b.0)
      (mark_is (λ v. barred x R.ledger.0 R.settled.0 v ≡ true) (fragment_of R.layout R.settled.0).bookies
      (write_set R.layout.sizes R.settled.0) b.0 m (subst (PhaseOk x R R.ledger.0 R.layout) ph w.phase) g)

  -- writing back goes on, or an ack quorum holds the entry
  written_on_work : (m : List Bool) (n : Lac) (body : Body) → PhaseOk x R R.ledger.0 R.layout (Writing m n body) → WorkOk x (written_on R m n body)
  written_on_work m n body marks =
      cond_both (leb R.layout.sizes.ack (hits R m)) (in_phase R (next R.settled.0) (read_on (next R.settled.0)))
      (in_phase R R.settled.0 (Writing m n body)) (WorkOk x)
      (λ q. work_on (next R.settled.0)
      (cond_both (ltb R.settled.0 max_entries) (R.settled.0 + 1) R.settled.0 (λ v. Copied x R.ledger.0 v R.layout)
      (λ _ e j. one e j (leb-true R.layout.sizes.ack (hits R m) q)) (λ _. w.below)))
      (λ _. work_in R.settled.0 (Writing m n body) w.below marks)
    where
      one : (e : ℕ) → e < R.settled.0 + 1 → R.layout.sizes.ack ≤ hits R m
          → R.layout.sizes.ack ≤ tally (held_at x R.ledger.0 e) (bookies_of R.layout e)
      one e j z =
          let c = marks_count (held_at x R.ledger.0 R.settled.0) R.layout R.settled.0 m marks.1 in
          let here : R.layout.sizes.ack ≤ tally (held_at x R.ledger.0 R.settled.0) (bookies_of R.layout R.settled.0) = omega arith in
          elim (cases_eq e R.settled.0) [
            | inl s ↦ subst (λ (k : ℕ). R.layout.sizes.ack ≤ tally (held_at x R.ledger.0 k) (bookies_of R.layout k)) (sym s) here
            | inr s ↦ w.below e (omega arith)
          ]

  -- the entry was written back there
  written_work : (m : List Bool) (n : Lac) (body : Body) (b : BookieId) → R.phase ≡ Writing m n body → held_at x R.ledger.0 R.settled.0 b.0 ≡ true → WorkOk x (heard_written R m n body b)
  written_work m n body b ph g =
      let old : PhaseOk x R R.ledger.0 R.layout (Writing m n body) = subst (PhaseOk x R R.ledger.0 R.layout) ph w.phase in
      written_on_work (entry_marks R m b.0) n body (
        old.0,
        mark_is (λ v. held_at x R.ledger.0 R.settled.0 v ≡ true) (fragment_of R.layout R.settled.0).bookies
            (write_set R.layout.sizes R.settled.0) b.0 m old.1 g,
      )

-- what a reply says of its ledger and entry it says of those at hand
of_hand : (R : Recoverer) (l e : ℕ) (P : ℕ → ℕ → Type 0) → P l e → at_hand R l e ≡ true → P R.ledger.0 R.settled.0
of_hand R l e P k h =
    let p = and_parts (eqb l R.ledger.0) (eqb e R.settled.0) h in
    subst (λ (n : ℕ). P R.ledger.0 n) (eqb-true e R.settled.0 p.1) (subst (λ (n : ℕ). P n e) (eqb-true l R.ledger.0 p.0) k)

module _ {x₀ x : World} {rs : ℕ → Recoverer} {ms : List Message} (i : Inv x₀ x rs ms) (R : Recoverer) (h : RecovererOk x R) where
  -- each message, while fencing,
  fencing_ok : (m : List Bool) → R.phase ≡ Fencing m → (a : Message) → MessageOk x a → RecovererOk x (while_fencing R m a)
  fencing_ok m q (Fence r l b) g = h
  fencing_ok m q (RecoveryRead r l b e) g = h
  fencing_ok m q (Add l b e n body) g = h
  fencing_ok m q (RecoveryAdd r l b e n body) g = h
  fencing_ok m q (Added l b e) g = h
  fencing_ok m q (AddRefused l b e f) g = h
  fencing_ok m q (Fenced r l b n) g =
      cond_both (eqb l.0 R.ledger.0) (heard_fenced R m b n) R (RecovererOk x)
      (λ z _. fenced_work x R (h (ap at_work q)) i m b n (subst (λ (k : ℕ). n.0 ≤ (x.writer k).lac) (eqb-true l.0 R.ledger.0 z) g.1)) (λ _. h)
  fencing_ok m q (Absent r l b e) g = h
  fencing_ok m q (Found r l b e n body) g = h
  fencing_ok m q (RecoveryAdded r l b e) g = h
  fencing_ok m q (Refused r l b f) g = h

  -- while reading,
  reading_ok : (m : List Bool) → R.phase ≡ Reading m → (a : Message) → MessageOk x a → RecovererOk x (while_reading R m a)
  reading_ok m q (Fence r l b) g = h
  reading_ok m q (RecoveryRead r l b e) g = h
  reading_ok m q (Add l b e n body) g = h
  reading_ok m q (RecoveryAdd r l b e n body) g = h
  reading_ok m q (Added l b e) g = h
  reading_ok m q (AddRefused l b e f) g = h
  reading_ok m q (Fenced r l b n) g = h
  reading_ok m q (Absent r l b e) g =
      cond_both (at_hand R l.0 e.0) (heard_absent R m b) R (RecovererOk x)
      (λ z _. absent_work x R (h (ap at_work q)) m b q (of_hand R l.0 e.0 (λ k f. barred x k f b.0 ≡ true) g z)) (λ _. h)
  reading_ok m q (Found r l b e n body) g =
      cond_both (at_hand R l.0 e.0) (write_back R n body) R (RecovererOk x)
      (λ z _. found_work x R (h (ap at_work q)) n body (of_hand R l.0 e.0 (λ k f. Sent x k f n.0 body) g z)) (λ _. h)
  reading_ok m q (RecoveryAdded r l b e) g = h
  reading_ok m q (Refused r l b f) g = h

  -- and while writing back
  writing_ok : (m : List Bool) (n : Lac) (body : Body) → R.phase ≡ Writing m n body → (a : Message) → MessageOk x a → RecovererOk x (while_writing R m n body a)
  writing_ok m n body q (Fence r l b) g = h
  writing_ok m n body q (RecoveryRead r l b e) g = h
  writing_ok m n body q (Add l b e n' body') g = h
  writing_ok m n body q (RecoveryAdd r l b e n' body') g = h
  writing_ok m n body q (Added l b e) g = h
  writing_ok m n body q (AddRefused l b e f) g = h
  writing_ok m n body q (Fenced r l b n') g = h
  writing_ok m n body q (Absent r l b e) g = h
  writing_ok m n body q (Found r l b e n' body') g = h
  writing_ok m n body q (RecoveryAdded r l b e) g =
      cond_both (at_hand R l.0 e.0) (heard_written R m n body b) R (RecovererOk x)
      (λ z _. written_work x R (h (ap at_work q)) m n body b q (of_hand R l.0 e.0 (λ k f. held_at x k f b.0 ≡ true) g z)) (λ _. h)
  writing_ok m n body q (Refused r l b f) g = h

  -- whatever the phase
  heard_ok : (a : Message) → MessageOk x a → RecovererOk x (heard R a)
  heard_ok a g = by R.phase refl
    where
      by : (ph : Phase) → R.phase ≡ ph → RecovererOk x (heard_in ph R a)
      by Idle q = h
      by (Fencing m) q = fencing_ok m q a g
      by (Reading m) q = reading_ok m q a g
      by (Writing m n body) q = writing_ok m n body q a g
      by Ended q = h

-- a reply arrives at a recoverer
pub to_recoverer_keeps : {x₀ : World} (ns : List Note) (c : Cluster) (r : RecovererId) (m : Message) → InvAt x₀ ns c → MessageOk (world ns c) m
    → InvAt x₀ ns (to_recoverer c r m).next
to_recoverer_keeps ns c r m i g =
    sent_inv ns (with_recoverer c r.0 R') (heard_sends R r m) (recoverer_inv ns c r.0 R' i ok)
    (cond_both (eqb (phase_number R.phase) (phase_number R'.phase)) [] (asks R' r) (AllByRecursion (MessageOk (world ns c))) (λ _. tt)
    (λ _. asks_ok (world ns c) R' r R'.phase (phase_of (world ns c) R' ok R'.phase refl)))
  where
    R : Recoverer
    R = recoverer_of c r.0

    R' : Recoverer
    R' = heard R m

    ok : RecovererOk (world ns c) R'
    ok = heard_ok i R (i.recoverers r.0) m g
