-- What the invariant says of a run, in the law's words.
use Rattle.std.proofs.Common.{◌≡◌, ℕ, zero, suc, ◌%◌, ◌<◌, ◌≤◌, Bool, true, false, not, eqb, leb, ◌⊎◌, List, [], ◌∷◌, ◌++◌, length, get_or, Some, None, Ok, Err, Option, Result, ◌≢◌, sym, refl, ap, ◌∙◌, subst, inl, inr, mod-lt, arith, length-append}
use Rattle.std.specs.Option.{is_some}
use native.Mathlib.Nat.{suc-mod, mod-mod}
use lib.ListN.{length-map}
use Rattle.std.specs.Result.{IfOk}
use Rattle.std.proofs.ByRecursion.{All-weaker}
use Rattle.std.proofs.lemmas.List.{get_or_append_left, get_or_at, get_or_past}
use Rattle.std.proofs.lemmas.Bool.{and_parts, and_from, cases_Bool, both_ways, not-true, false≢true, cond_both, eqb-true, eq-eqb, ltb-false, leb-true, cases_eq, cases_lt}
use Rattle.ledgers.specs.Limits.{max_ledgers, is_ledger}
use Rattle.ledgers.specs.Ids.{ledger_id, bookie_id, entry_id, lac_id, version_id}
use Rattle.ledgers.specs.declared.bodies.Body.{Body}
use Rattle.ledgers.specs.declared.ids.BookieId.{BookieId}
use Rattle.ledgers.specs.declared.ids.EntryId.{EntryId}
use Rattle.ledgers.specs.declared.ids.Lac.{Lac}
use Rattle.ledgers.specs.declared.ids.LedgerId.{LedgerId}
use Rattle.ledgers.specs.declared.ids.MessagePlace.{MessagePlace}
use Rattle.ledgers.specs.declared.ids.RecovererId.{RecovererId}
use Rattle.ledgers.specs.declared.ids.Version.{Version}
use Rattle.ledgers.specs.declared.steps.Step.{Step}
use Rattle.ledgers.specs.declared.steps.Step.TheVariants.{Create, Append, Resend, ChangeEnsemble, Close, Recover, AskAgain, Finish, Deliver, Duplicate, Discard, Stop, Start}
use Rattle.layout.specs.WriteSets.{positions, write_set, tally, blocking, covers_below, covers}
use Rattle.layout.specs.Layouts.{last_fragment, bookie_at, bookies_of}
use Rattle.layout.specs.declared.sizes.Sizes.{Sizes}
use Rattle.layout.specs.declared.fragments.Fragment.{Fragment}
use Rattle.layout.specs.declared.fragments.Layout.{Layout}
use Rattle.messages.specs.Blanks.{no_body, no_message}
use Rattle.messages.specs.Waiting.{without}
use Rattle.messages.specs.declared.entries.Held.{Held}
use Rattle.messages.specs.declared.faults.BookieFault.{BookieFault}
use Rattle.messages.specs.declared.messages.Message.{Message}
use Rattle.messages.specs.declared.messages.Message.TheVariants.{Fence, RecoveryRead, Add, RecoveryAdd, Added, AddRefused, Fenced, Absent, Found, RecoveryAdded, Refused}
use Rattle.messages.specs.declared.metadata.LedgerState.TheVariants.{Closed}
use Rattle.messages.specs.declared.metadata.Metadata.{Metadata}
use Rattle.protocol.specs.Bookies.{find, is_fenced}
use Rattle.protocol.specs.Stores.{Store, known, metadata_of, written}
use Rattle.protocol.specs.Writers.{Writer, no_writer, is_made, is_closed, next_entry, has_room, appended, append_sends, reply_after, by_put, close_store}
use Rattle.protocol.specs.Recoverers.{at_work, is_ended, no_recoverer, finished, finish_store}
use Rattle.protocol.specs.Clusters.{Cluster, empty, bookie_of, writer_of, recoverer_of, ledger_of, with_store, with_writer, with_recoverer, with_queue, send}
use Rattle.protocol.specs.Steps.{Outcome, done, by_client, append, closed, close, finish, to_writer, act, waits, message_at, deliver, step}
use Rattle.protocol.specs.Histories.{History, event, Runs, stay, more, Once, Appended, ToWriter, Confirmed, Closes, ClosedWith, Answered, Covered}
use Rattle.protocol.specs.Law.{IsClosed, TrueCopy, Law}
use Rattle.protocol.specs.declared.answers.Answer.{Answer}
use Rattle.protocol.specs.declared.answers.Answer.TheVariants as answer
use Rattle.protocol.specs.declared.faults.ClientFault.{ClientFault}
use Rattle.protocol.specs.declared.faults.ClientFault.TheVariants as client
use Rattle.protocol.specs.declared.faults.StepFault.{StepFault}
use Rattle.protocol.specs.declared.faults.StepFault.TheVariants as fault
use Rattle.protocol.specs.declared.recoverers.Recoverer.{Recoverer}
use Rattle.protocol.proofs.Lists.{number_same, row_or_blank, ledger_row, tally_mono, tally_map, pigeon}
use Rattle.protocol.proofs.Questions.{asked, put_cases, writing_asked, ask_cases}
use Rattle.protocol.proofs.World.{Note, nothing, ack_note, is_served, delivery_note, note_of, notes, add_content, contents_of, acked_by, World, world, ContentAt, barred, held_at, CopyOk, MessageOk, Sealed, StateOk, Under, WorkOk, Shut, Later, Inv, InvAt}
use Rattle.protocol.proofs.Lasting.{barred_later, under_shut}
use Rattle.protocol.proofs.Apart.{bookies_apart}
use Rattle.protocol.proofs.PlainSteps.{waiting_ok}
use Rattle.protocol.proofs.Requests.{FoundOk, find_ok}
use Rattle.protocol.proofs.WriterSteps.{pending_length, content_last, in_last}
use Rattle.protocol.proofs.Runs.{empty_inv, run_keeps, step_later, run_later}

-- an ack quorum and a blocking number of barred positions ------------------------------------------------------------
-- there are n of n positions
length_positions : (n e m : ℕ) → length (positions n e m) ≡ n
length_positions zero e m = refl
length_positions (suc n) e m = ap suc (length_positions n (suc e) m)

-- a write set has W bookies
length_bookies : (y : Layout) (e : ℕ) → length (bookies_of y e) ≡ y.sizes.write
length_bookies y e = length-map (write_set y.sizes e) (bookie_at y e) ∙ length_positions y.sizes.write e y.sizes.ensemble

-- no entry has both
clash : (x : World) (l e : ℕ) (y : Layout) → y.sizes.ack ≤ tally (x.acked l e) (bookies_of y e)
    → blocking y.sizes ≤ tally (barred x l e) (bookies_of y e) → ⊥
clash x l e y a b =
    let k = y.sizes.acked in
    let p = pigeon (x.acked l e) (barred x l e) (bookies_of y e)
    (λ v h z. both_ways (x.acked l e v) (not-true (x.acked l e v) (and_parts (is_fenced (x.bookie v) l) (not (x.acked l e v)) z).1) h) in
    let q = length_bookies y e in omega arith

-- so the writer of a closed ledger never confirms past the closing entry
closed_lac : {x₀ x : World} {rs : ℕ → Recoverer} {ms : List Message} → Inv x₀ x rs ms → (l : ℕ) → (x.ledger l).state ≡ Closed → (x.writer l).lac ≤ (x.ledger l).closing.0
closed_lac {x₀} {x} i l z = by (subst (StateOk x l (x.writer l) (x.ledger l)) z (i.metadata l).state).1
  where
    w : Writer
    w = x.writer l

    m : Metadata
    m = x.ledger l

    by : (((is_closed w.state ≡ true) × (w.lac ≡ m.closing.0)) ⊎ ((w.version < m.version.0) × Sealed x l m.closing.0 w.layout)) → w.lac ≤ m.closing.0
    by (inl k) = let p = k.1 in omega arith
    by (inr k) =
        elim k.1 [
          | inl big ↦ (let p = (i.writing l).upto in let q = (i.writing l).small in omega arith)
          | inr b ↦ elim (cases_lt m.closing.0 w.lac) [ inl lt ↦ absurd (clash x l m.closing.0 w.layout ((i.writing l).firm m.closing.0 lt) b) | inr le ↦ le ]
        ]

-- confirmed ----------------------------------------------------------------------------------------------------------
-- the LAC that is answered is the writer's from then on
reply_lac : (c : Cluster) (l : LedgerId) (b : BookieId) (e : EntryId) (a : Result (Unit {0}) BookieFault) (n : Lac) (k : ℕ)
    → (to_writer c l b e a).answer ≡ Ok (answer.Confirmed n) → k < n.0 → k < (writer_of (to_writer c l b e a).next l.0).lac
reply_lac c l b e a n k said lt =
    elim (row_or_blank c.writers l.0 no_writer) [
      | inl z ↦ rw (number_same c.writers l.0 w' no_writer z) below
      | inr z ↦ (let v : k < 0 = subst (λ (w : Writer). k < (reply_after w b.0 e.0 a).lac) z below in let u : ⊥ = omega arith in absurd u)
    ]
  where
    w' : Writer
    w' = reply_after (writer_of c l.0) b.0 e.0 a

    below : k < w'.lac
    below = let same : lac_id w'.lac ≡ n = cc in let s : w'.lac ≡ n.0 = ap (λ (v : Lac). v.0) same in omega arith

-- whichever reply it was
confirm_act : (c : Cluster) (m : Message) (l : LedgerId) (n : Lac) (k : ℕ) → ToWriter l m → (act c m).answer ≡ Ok (answer.Confirmed n) → k < n.0
    → k < (writer_of (act c m).next l.0).lac
confirm_act c m l n k (inl (b, e, is)) =
    subst (λ (v : Message). (act c v).answer ≡ Ok (answer.Confirmed n) → k < n.0 → k < (writer_of (act c v).next l.0).lac) (sym is) (reply_lac c l b e (Ok tt) n k)
confirm_act c m l n k (inr (b, e, f, is)) =
    subst (λ (v : Message). (act c v).answer ≡ Ok (answer.Confirmed n) → k < n.0 → k < (writer_of (act c v).next l.0).lac) (sym is) (reply_lac c l b e (Err f) n k)

-- at the delivery itself
confirm_deliver : (c : Cluster) (p : MessagePlace) (l : LedgerId) (n : Lac) (k : ℕ) → ToWriter l (message_at c p) → (deliver c p).answer ≡ Ok (answer.Confirmed n) → k < n.0
    → k < (writer_of (deliver c p).next l.0).lac
confirm_deliver c p l n k t =
    ask_cases c (λ o. o.answer ≡ Ok (answer.Confirmed n) → k < n.0 → k < (writer_of o.next l.0).lac) (waits c p) (fault.Missing 1) _
    (λ q. absurd (cc))
    (λ _. confirm_act (with_queue c (without c.queue p.0)) (message_at c p) l n k t)

module _ (c₀ : Cluster) (i₀ : InvAt (world [] c₀) [] c₀) where
  -- what was confirmed is within the writer's LAC
  confirmed_lac : {h : History} {c : Cluster} → Runs [] c₀ h c → (l : LedgerId) (e : EntryId) → Confirmed h l e → e.0 < (writer_of c l.0).lac
  confirmed_lac stay l e z = absurd z
  confirmed_lac (more {h = h} {c = c} s r) l e (inl (m, (p, did, took), t, n, said, lt)) =
      subst (λ (v : Step). (step c v).answer ≡ Ok (answer.Confirmed n) → e.0 < n.0 → e.0 < (writer_of (step c v).next l.0).lac) (sym did)
      (confirm_deliver c p l n e.0 (subst (ToWriter l) (sym took) t)) said lt
  confirmed_lac (more {h = h} {c = c} s r) l e (inr z) =
      let p = confirmed_lac r l e z in let q = (step_later (notes h) c s (run_keeps r i₀)).lac l.0 in omega arith

-- closed -------------------------------------------------------------------------------------------------------------
-- closed at the entry of this answer
abbrev ClosedAs : Cluster → LedgerId → Answer → Type 0
ClosedAs c l a = IsClosed c l × (a ≡ answer.ClosingEntry (ledger_of c l.0).closing)

-- an accepted close or finish, at the step itself
abbrev Says : LedgerId → Outcome → Type 0
Says l o = IfOk o.answer (λ a. a ≢ answer.Lost → ClosedAs o.next l a)

-- what was written is found
put_known : (s : Store) (l : ℕ) (m : Metadata) → length s.ledgers ≡ max_ledgers → is_ledger l ≡ true → metadata_of (written s l m) l ≡ m
put_known s l m n q = ap known (number_same s.ledgers l (Some m) None (ledger_row s.ledgers l n q))

-- the ledger that was closed is found closed
closed_known : (c : Cluster) (l : LedgerId) (v : Version) (y : Layout) (n : Lac) → length c.store.ledgers ≡ max_ledgers → is_ledger l.0 ≡ true
    → ClosedAs (with_store c (written c.store l.0 (record { version = v; state = Closed; layout = y; closing = n }))) l (answer.ClosingEntry n)
closed_known c l v y n sized q =
    subst (λ (m : Metadata). (m.state ≡ Closed) × (answer.ClosingEntry n ≡ answer.ClosingEntry m.closing))
    (sym (put_known c.store l.0 (record { version = v; state = Closed; layout = y; closing = n }) sized q)) (refl, refl)

-- what an accepted close says
close_says : {x₀ : World} (ns : List Note) (c : Cluster) (l : LedgerId) → InvAt x₀ ns c → Says l (close c l)
close_says ns c l i =
    ask_cases c (Says l) (is_made w.state) (fault.Missing 1) _ tt
    (λ _. writing_asked w _ (λ r. Says l (by_client c r (closed c l w (close_store w c.store l)))) (λ f. tt)
    (λ _ _. asked (eqb (length w.pending) 0) client.Pending _ (λ r. Says l (by_client c r (closed c l w (close_store w c.store l)))) tt
    (λ _. put_cases c.store l (λ r s. Says l (by_client c (by_put (lac_id w.lac) r) (closed c l w s))) (version_id w.version) Closed w.layout (lac_id w.lac)
    (λ f q. rw q tt) (λ _ lost. absurd (lost refl)) (λ q30 _ _. closed_known c l (version_id (suc w.version)) w.layout (lac_id w.lac) i.ledgers q30))))
  where
    w : Writer
    w = writer_of c l.0

-- past the version of a recovery the ledger is closed
pub under_other : (m : Metadata) (v : ℕ) → Under m v → (m.version.0 ≡ v → ⊥) → m.state ≡ Closed
under_other m v (inl z) ne = absurd (ne (sym z.1))
under_other m v (inr z) ne = z.0

-- what an accepted finish says
finish_says : {x₀ : World} (ns : List Note) (c : Cluster) (r : RecovererId) → InvAt x₀ ns c → Says (recoverer_of c r.0).ledger (finish c r)
finish_says ns c r i =
    ask_cases c (Says l) (at_work R.phase) (fault.Missing 1) _ tt
    (λ q4. asked (is_ended R.phase) client.Unfinished _ (λ a. Says l (by_client c a (λ n. done (answer.ClosingEntry n) (with_recoverer (with_store c (finish_store R c.store)) r.0 no_recoverer)))) tt
    (λ _. put_cases c.store l
    (λ a s. Says l (by_client c (finished R c.store a) (λ n. done (answer.ClosingEntry n) (with_recoverer (with_store c s) r.0 no_recoverer))))
    R.version Closed R.layout R.settled (λ f q. rw q tt)
    (λ ne _. (under_other (ledger_of c l.0) R.version.0 (i.recoverers r.0 q4).under ne, refl))
    (λ q30 _ _. closed_known c l (version_id (suc R.version.0)) R.layout R.settled i.ledgers q30)))
  where
    R : Recoverer
    R = recoverer_of c r.0

    l : LedgerId
    l = (recoverer_of c r.0).ledger

-- what either says
closes_says : {x₀ : World} (ns : List Note) (c : Cluster) (s : Step) (l : LedgerId) → InvAt x₀ ns c → Closes l (event c s) → Says l (step c s)
closes_says ns c s l i (inl did) = subst (λ (v : Step). Says l (step c v)) (sym did) (close_says ns c l i)
closes_says ns c s l i (inr (r, did, at)) =
    subst (λ (v : Step). Says l (step c v)) (sym did) (subst (λ (k : LedgerId). Says k (finish c r)) at (finish_says ns c r i))

-- a close is for ever, and its entry too
closed_stays : {x y : World} → Later x y → (l : ℕ) (a : Answer) → ((x.ledger l).state ≡ Closed) × (a ≡ answer.ClosingEntry (x.ledger l).closing)
    → ((y.ledger l).state ≡ Closed) × (a ≡ answer.ClosingEntry (y.ledger l).closing)
closed_stays t l a h = let q = t.closed l h.0 in (q.0, h.1 ∙ ap (λ (k : ℕ). answer.ClosingEntry (lac_id k)) (sym q.1))

module _ (c₀ : Cluster) (i₀ : InvAt (world [] c₀) [] c₀) where
  -- it still holds at every later time
  closed_run : {h : History} {c : Cluster} → Runs [] c₀ h c → (l : LedgerId) (a : Answer) → Once (ClosedWith l a) h → ClosedAs c l a
  closed_run stay l a z = absurd z
  closed_run (more {h = h} {c = c} s r) l a (inl (closes, said, kept_on)) =
      subst (λ (v : Result Answer StepFault). IfOk v (λ b. b ≢ answer.Lost → ClosedAs (step c s).next l b)) said
      (closes_says (notes h) c s l (run_keeps r i₀) closes) kept_on
  closed_run (more {h = h} {c = c} s r) l a (inr z) = closed_stays (step_later (notes h) c s (run_keeps r i₀)) l.0 a (closed_run r l a z)

-- contents -----------------------------------------------------------------------------------------------------------
-- a step appended this content as entry e of ledger l
abbrev NewContent : ℕ → ℕ → Body → Cluster → Step → Type 0
NewContent l e body c s = (s ≡ Append (ledger_id l) body) × ((step c s).answer ≡ Ok (answer.Entry (entry_id e)))

-- an append is answered by the next entry, or refused
append_cases : {x₀ : World} (ns : List Note) (c : Cluster) (l : LedgerId) (body : Body) (P : Result Answer StepFault → Type 0) → InvAt x₀ ns c → ((f : StepFault) → P (Err f))
    → ((e : ℕ) → length (contents_of ns l.0) ≡ e → P (Ok (answer.Entry (entry_id e)))) → P (append c l body).answer
append_cases ns c l body P i bad good =
    ask_cases c P' (is_made w.state) (fault.Missing 1) _ (bad (fault.Missing 1))
    (λ _. writing_asked w _ K (λ f. bad (fault.Client f)) (λ q7 q8. asked (has_room w) client.Full _ K (bad (fault.Client client.Full))
    (λ _. good (next_entry w)
    (pending_length (contents_of ns l.0) (acked_by ns l.0) w.layout w.lac w.pending ((i.writing l.0).pending q7 q8)))))
  where
    w : Writer
    w = writer_of c l.0

    P' : Outcome → Type 0
    P' o = P o.answer

    K : Result EntryId ClientFault → Type 0
    K r = P' (by_client c r (λ e. done (answer.Entry e) (send (with_writer c l.0 (appended w body)) (append_sends w l body))))

-- the content of a new entry is what was appended
appended_content : {x₀ : World} (ns : List Note) (c : Cluster) (l : LedgerId) (b : Body) (k e : ℕ) (body : Body) → InvAt x₀ ns c
    → ContentAt (contents_of (note_of (Append l b) c (append c l b).answer ∷ ns) k) e body
    → NewContent k e body c (Append l b) ⊎ ContentAt (contents_of ns k) e body
appended_content ns c l b k e body i =
    append_cases ns c l b
    (λ a. ContentAt (contents_of (note_of (Append l b) c a ∷ ns) k) e body
    → ((Append l b ≡ Append (ledger_id k) body) × (a ≡ Ok (answer.Entry (entry_id e)))) ⊎ ContentAt (contents_of ns k) e body)
    i (λ f h. inr h)
    (λ n len. cond_both (eqb l.0 k) (ts ++ (b ∷ [])) ts
    (λ T. ContentAt T e body → ((Append l b ≡ Append (ledger_id k) body) × (◌≡◌ {A = Result Answer StepFault} (Ok (answer.Entry (entry_id n))) (Ok (answer.Entry (entry_id e))))) ⊎ ContentAt ts e body)
    (λ q h. one n (subst (λ (v : ℕ). length (contents_of ns v) ≡ n) (eqb-true l.0 k q) len) (eqb-true l.0 k q) h) (λ _ h. inr h))
  where
    ts : List Body
    ts = contents_of ns k

    one : (n : ℕ) → length (contents_of ns k) ≡ n → l.0 ≡ k → ContentAt (contents_of ns k ++ (b ∷ [])) e body
        → ((Append l b ≡ Append (ledger_id k) body) × (◌≡◌ {A = Result Answer StepFault} (Ok (answer.Entry (entry_id n))) (Ok (answer.Entry (entry_id e))))) ⊎ ContentAt (contents_of ns k) e body
    one n len same h =
        elim (cases_lt e (length (contents_of ns k))) [
          | inl z ↦ inr (z, sym (get_or_append_left (contents_of ns k) (b ∷ []) no_body e z) ∙ h.1)
          | inr z ↦ (let u = h.0 in let g = length-append (contents_of ns k) (b ∷ []) in let q : length (contents_of ns k) ≡ e = omega arith in
              let text : b ≡ body = sym (get_or_at (contents_of ns k) b [] no_body e q) ∙ h.1 in
              inl (ap (λ (v : ℕ). Append (ledger_id v) b) same ∙ ap (λ (v : Body). Append (ledger_id k) v) text, ap (λ (v : ℕ). Ok (answer.Entry (entry_id v))) (sym len ∙ q)))
        ]

-- a delivery appends nothing
no_content : (m : Message) (a : Result Answer StepFault) (l : ℕ) (ts : List Body) → add_content (delivery_note m a) l ts ≡ ts
no_content (Fence r l' b) a l ts = refl
no_content (RecoveryRead r l' b e) a l ts = refl
no_content (Add l' b e n body) a l ts =
    cond_both (is_served a) (ack_note l'.0 e.0 b.0) nothing (λ t. add_content t l ts ≡ ts) (λ _. refl) (λ _. refl)
no_content (RecoveryAdd r l' b e n body) a l ts = refl
no_content (Added l' b e) a l ts = refl
no_content (AddRefused l' b e f) a l ts = refl
no_content (Fenced r l' b n) a l ts = refl
no_content (Absent r l' b e) a l ts = refl
no_content (Found r l' b e n body) a l ts = refl
no_content (RecoveryAdded r l' b e) a l ts = refl
no_content (Refused r l' b f) a l ts = refl

-- a content is new at this step, or was there
content_step : {x₀ : World} (ns : List Note) (c : Cluster) (s : Step) (l e : ℕ) (body : Body) → InvAt x₀ ns c
    → ContentAt (contents_of (note_of s c (step c s).answer ∷ ns) l) e body → NewContent l e body c s ⊎ ContentAt (contents_of ns l) e body
content_step ns c (Create l' f w k bs) l e body i h = inr h
content_step ns c (Append l' b) l e body i h = appended_content ns c l' b l e body i h
content_step ns c (Resend l') l e body i h = inr h
content_step ns c (ChangeEnsemble l' p b) l e body i h = inr h
content_step ns c (Close l') l e body i h = inr h
content_step ns c (Recover r l') l e body i h = inr h
content_step ns c (AskAgain r) l e body i h = inr h
content_step ns c (Finish r) l e body i h = inr h
content_step ns c (Deliver m) l e body i h =
    inr (subst (λ (T : List Body). ContentAt T e body) (no_content (message_at c m) (deliver c m).answer l (contents_of ns l)) h)
content_step ns c (Duplicate m) l e body i h = inr h
content_step ns c (Discard m) l e body i h = inr h
content_step ns c (Stop b) l e body i h = inr h
content_step ns c (Start b) l e body i h = inr h

-- what is appended is a content
new_content : {x₀ : World} (ns : List Note) (c : Cluster) (s : Step) (l e : ℕ) (body : Body) → InvAt x₀ ns c → NewContent l e body c s
    → ContentAt (contents_of (note_of s c (step c s).answer ∷ ns) l) e body
new_content ns c s l e body i (did, said) =
    subst (λ (v : Step). (step c v).answer ≡ Ok (answer.Entry (entry_id e)) → ContentAt (contents_of (note_of v c (step c v).answer ∷ ns) l) e body) (sym did)
    (append_cases ns c (ledger_id l) body
    (λ a. a ≡ Ok (answer.Entry (entry_id e)) → ContentAt (contents_of (note_of (Append (ledger_id l) body) c a ∷ ns) l) e body) i
    (λ f q. absurd (cc))
    (λ n len q. let same : entry_id n ≡ entry_id e = cc in
    rw (eq-eqb l l refl) (content_last (contents_of ns l) body e (len ∙ ap (λ (v : EntryId). v.0) same)))) said

module _ (c₀ : Cluster) (i₀ : InvAt (world [] c₀) [] c₀) where
  -- every content was appended
  content_appended : {h : History} {c : Cluster} → Runs [] c₀ h c → (l : LedgerId) (e : EntryId) (body : Body)
      → ContentAt (contents_of (notes h) l.0) e.0 body → Appended h l e body
  content_appended stay l e body z = let k = z.0 in let v : ⊥ = omega arith in absurd v
  content_appended (more {h = h} {c = c} s r) l e body z =
      elim (content_step (notes h) c s l.0 e.0 body (run_keeps r i₀) z) [ inl k ↦ inl k | inr k ↦ inr (content_appended r l e body k) ]

  -- and all that was appended is one
  appended_is : {h : History} {c : Cluster} → Runs [] c₀ h c → (l : LedgerId) (e : EntryId) (body : Body) → Appended h l e body
      → ContentAt (contents_of (notes h) l.0) e.0 body
  appended_is stay l e body z = absurd z
  appended_is (more {h = h} {c = c} s r) l e body (inl z) = new_content (notes h) c s l.0 e.0 body (run_keeps r i₀) z
  appended_is (more {h = h} {c = c} s r) l e body (inr z) =
      (step_later (notes h) c s (run_keeps r i₀)).contents l.0 e.0 body (appended_is r l e body z)

-- fence answers ------------------------------------------------------------------------------------------------------
-- who answered a fence is fenced
fence_answered : {x₀ : World} (ns : List Note) (c : Cluster) (p : MessagePlace) (r : RecovererId) (l : LedgerId) (b : BookieId) (n : Lac) → InvAt x₀ ns c
    → message_at c p ≡ Fenced r l b n → is_fenced (bookie_of c b.0) l.0 ≡ true
fence_answered ns c p r l b n i q =
    elim (cases_Bool (waits c p)) [
      | inl z ↦ (subst (MessageOk (world ns c)) q (waiting_ok ns c p i z)).0
      | inr z ↦ (let blank : message_at c p ≡ no_message = get_or_past c.queue.waiting p.0 no_message (ltb-false p.0 (length c.queue.waiting) z) in absurd (cc))
    ]

module _ (c₀ : Cluster) (i₀ : InvAt (world [] c₀) [] c₀) where
  -- and stays so for ever
  answered_fenced : {h : History} {c : Cluster} → Runs [] c₀ h c → (r : RecovererId) (l : LedgerId) (b : BookieId) → Answered h r l b
      → is_fenced (bookie_of c b.0) l.0 ≡ true
  answered_fenced stay r l b z = absurd z
  answered_fenced (more {h = h} {c = c} s w) r l b (inl (n, (p, did, took))) =
      (step_later (notes h) c s (run_keeps w i₀)).fenced l.0 b.0 (fence_answered (notes h) c p r l b n (run_keeps w i₀) took)
  answered_fenced (more {h = h} {c = c} s w) r l b (inr z) =
      (step_later (notes h) c s (run_keeps w i₀)).fenced l.0 b.0 (answered_fenced w r l b z.1)

-- coverage -----------------------------------------------------------------------------------------------------------
-- the write sets that are looked at
covers_at : (s : Sizes) (t : ℕ → Bool) (n e : ℕ) → covers_below s t n ≡ true → e < n → blocking s ≤ tally t (write_set s e)
covers_at s t zero e h k = let v : ⊥ = omega arith in absurd v
covers_at s t (suc n) e h k =
    let p = and_parts (leb (blocking s) (tally t (write_set s n))) (covers_below s t n) h in
    elim (cases_eq e n)
    [ inl q ↦ subst (λ (m : ℕ). blocking s ≤ tally t (write_set s m)) (sym q) (leb-true _ _ p.0) | inr q ↦ covers_at s t n e p.1 (omega arith) ]

-- write sets repeat
positions_mod : (n a b m : ℕ) → a % m ≡ b % m → positions n a m ≡ positions n b m
positions_mod zero a b m h = refl
positions_mod (suc n) a b m h =
    ap (λ (k : ℕ). k ∷ positions n (suc a) m) h
    ∙ ap (λ (r : List ℕ). (b % m) ∷ r) (positions_mod n (suc a) (suc b) m (suc-mod a m ∙ ap (λ (k : ℕ). suc k % m) h ∙ sym (suc-mod b m)))

-- what covers the ensemble blocks the write set of every entry
covers_all : (s : Sizes) (t : ℕ → Bool) (e : ℕ) → covers s t ≡ true → blocking s ≤ tally t (write_set s e)
covers_all s t e h =
    subst (λ (ps : List ℕ). blocking s ≤ tally t ps) (positions_mod s.write (e % s.ensemble) e s.ensemble (mod-mod e s.ensemble))
    (covers_at s t s.ensemble (e % s.ensemble) h (mod-lt e (let a = s.written in let b = s.acked in let c = s.some in omega arith)))

-- what is held was appended
held_content : {x₀ x : World} {rs : ℕ → Recoverer} {ms : List Message} → Inv x₀ x rs ms → (l e b : ℕ) → held_at x l e b ≡ true → e < length (x.contents l)
held_content {x₀} {x} i l e b h = by (find (x.bookie b).entries l e) refl (find_ok x (x.bookie b).entries l e (i.copies b))
  where
    by : (o : Option Held) → find (x.bookie b).entries l e ≡ o → FoundOk x l e o → e < length (x.contents l)
    by None q f = absurd (false≢true (sym (ap is_some q) ∙ h))
    by (Some k) q f = f.0.0

-- an entry not yet appended is blocked once fenced bookies cover the last ensemble
blocked : {x₀ x : World} {rs : ℕ → Recoverer} {ms : List Message} → Inv x₀ x rs ms → (l e : ℕ) (t : ℕ → Bool) → length (x.contents l) ≤ e
    → ((p : ℕ) → t p ≡ true → is_fenced (x.bookie (get_or (last_fragment (x.writer l).layout).bookies p 0)) l ≡ true)
    → covers (x.writer l).layout.sizes t ≡ true
    → blocking (x.writer l).layout.sizes ≤ tally (barred x l e) (bookies_of (x.writer l).layout e)
blocked {x₀} {x} i l e t k f h =
    rw (tally_map (barred x l e) (bookie_at y e) (write_set y.sizes e))
    (let p = covers_all y.sizes t e h in
    let q = tally_mono t (λ p. barred x l e (bookie_at y e p)) (write_set y.sizes e) bar in omega arith)
  where
    y : Layout
    y = (x.writer l).layout

    never : (b : ℕ) (v : Bool) → x.acked l e b ≡ v → not v ≡ true
    never b true q = let p = held_content i l e b (i.acked l e b q) in let z : ⊥ = omega arith in absurd z
    never b false q = refl

    bar : (p : ℕ) → t p ≡ true → barred x l e (bookie_at y e p) ≡ true
    bar p z =
        subst (λ (g : Fragment). barred x l e (get_or g.bookies p 0) ≡ true)
        (sym (in_last y e (let a = (i.writing l).first in let b = (i.writing l).upto in omega arith)))
        (and_from (is_fenced (x.bookie b) l) (not (x.acked l e b)) (f p z) (never b (x.acked l e b) refl))
      where
        b : ℕ
        b = get_or (last_fragment y).bookies p 0

-- the law ------------------------------------------------------------------------------------------------------------
-- an entry has one content
one_content : (ts : List Body) (e : ℕ) (a b : Body) → ContentAt ts e a → ContentAt ts e b → a ≡ b
one_content ts e a b h k = sym h.1 ∙ k.1

-- runs follow one another
pub runs_on : {h₀ : History} {c₀ : Cluster} {h₁ : History} {c₁ : Cluster} {h : History} {c : Cluster} → Runs h₀ c₀ h₁ c₁ → Runs h₁ c₁ h c → Runs h₀ c₀ h c
runs_on r stay = r
runs_on r (more s q) = more s (runs_on r q)

-- an entry appended after the fence round is blocked
shut_run : (c₀ : Cluster) (i₀ : InvAt (world [] c₀) [] c₀) (h₁ : History) (c₁ : Cluster) (h : History) (c : Cluster) (r : RecovererId) (l : LedgerId) (e : EntryId) (body : Body)
    → Runs [] c₀ h₁ c₁ → Runs h₁ c₁ h c → Covered h₁ c₁ r l → Appended h l e body → (Appended h₁ l e body → ⊥) → Confirmed h l e → ⊥
shut_run c₀ i₀ h₁ c₁ h c r l e body r₁ on (work, at, t, cov, answered) app new conf = clash (world (notes h) c) l.0 e.0 y acks bars
  where
    i₁ : InvAt (world [] c₀) (notes h₁) c₁
    i₁ = run_keeps r₁ i₀

    R : Recoverer
    R = recoverer_of c₁ r.0

    w₁ : WorkOk (world (notes h₁) c₁) (recoverer_of c₁ r.0)
    w₁ = i₁.recoverers r.0 work

    all : Runs [] c₀ h c
    all = runs_on r₁ on

    i : InvAt (world [] c₀) (notes h) c
    i = run_keeps all i₀

    later : Later (world (notes h₁) c₁) (world (notes h) c)
    later = run_later on i₁

    y : Layout
    y = (writer_of c₁ l.0).layout

    same : (recoverer_of c₁ r.0).layout ≡ (writer_of c₁ l.0).layout
    same = w₁.same ∙ ap (λ (k : LedgerId). (writer_of c₁ k.0).layout) at

    shut : Shut (ledger_of c₁ l.0)
    shut =
        subst (λ (k : LedgerId). Shut (ledger_of c₁ k.0)) at
        (under_shut (ledger_of c₁ (recoverer_of c₁ r.0).ledger.0) (recoverer_of c₁ r.0).version.0 w₁.under)

    late : length (contents_of (notes h₁) l.0) ≤ e.0
    late =
        elim (cases_lt e.0 (length (contents_of (notes h₁) l.0))) [
          | inl z ↦ absurd (new (content_appended c₀ i₀ r₁ l e body (
            z,
            one_content (contents_of (notes h) l.0) e.0 (get_or (contents_of (notes h₁) l.0) e.0 no_body) body
                (later.contents l.0 e.0 (get_or (contents_of (notes h₁) l.0) e.0 no_body) (z, refl)) (appended_is c₀ i₀ all l e body app),
          )))
          | inr z ↦ z
        ]

    bars : blocking y.sizes ≤ tally (barred (world (notes h) c) l.0 e.0) (bookies_of y e.0)
    bars =
        let p = blocked i₁ l.0 e.0 t late
        (λ p q. answered_fenced c₀ i₀ r₁ r l (bookie_id (get_or (last_fragment (writer_of c₁ l.0).layout).bookies p 0))
        (subst (λ (u : Layout). Answered h₁ r l (bookie_id (get_or (last_fragment u).bookies p 0))) same (answered p q)))
        (subst (λ (u : Layout). covers u.sizes t ≡ true) same cov) in
        let q = tally_mono (barred (world (notes h₁) c₁) l.0 e.0) (barred (world (notes h) c) l.0 e.0) (bookies_of y e.0) (barred_later later l.0 e.0) in omega arith

    acks : y.sizes.ack ≤ tally (acked_by (notes h) l.0 e.0) (bookies_of y e.0)
    acks =
        subst (λ (u : Layout). u.sizes.ack ≤ tally (acked_by (notes h) l.0 e.0) (bookies_of u e.0)) (later.frozen l.0 shut).0
        ((i.writing l.0).firm e.0 (confirmed_lac c₀ i₀ all l e conf))

-- a closed ledger keeps its word
pub law : Law
law h c (spaces, changes, room, run) =
    record {
      confirmed = λ l e z k. let p = confirmed_lac c₀ i₀ run l e k in let q = closed_lac i l.0 z in omega arith;
      closed = closed_run c₀ i₀ run;
      kept = λ l e z k. (
        bookies_apart (ledger_of c l.0).layout (i.metadata l.0).layout e.0,
        (subst (StateOk (world (notes h) c) l.0 (writer_of c l.0) (ledger_of c l.0)) z (i.metadata l.0).state).0 e.0 k,
      );
      copies = λ b. All-weaker (CopyOk (world (notes h) c)) (TrueCopy h)
          (λ x k. (
            content_appended c₀ i₀ run x.ledger x.entry x.body k.0,
            λ body a. one_content (contents_of (notes h) x.ledger.0) x.entry.0 body x.body (appended_is c₀ i₀ run x.ledger x.entry body a) k.0,
          ))
          (bookie_of c b).entries (i.copies b);
      fragments = λ l. (i.metadata l.0).layout.rises;
      shut = λ h₁ c₁ r l e body (s₁, k₁, m₁, r₁) on. shut_run (empty s₁ k₁ m₁) (empty_inv s₁ k₁ m₁) h₁ c₁ h c r l e body r₁ on;
    }
  where
    c₀ : Cluster
    c₀ = empty spaces changes room

    i₀ : InvAt (world [] (empty spaces changes room)) [] (empty spaces changes room)
    i₀ = empty_inv spaces changes room

    i : InvAt (world [] (empty spaces changes room)) (notes h) c
    i = run_keeps run (empty_inv spaces changes room)
