-- The writer's steps: create, append, resend, ensemble change and close.
use Rattle.std.proofs.Common.{◌≡◌, ℕ, zero, suc, ◌+◌, ◌-◌, ◌<◌, ◌≤◌, min, Bool, true, false, cond, not, ◌&&◌, eqb, ltb, leb, List, [], ◌∷◌, ◌++◌, map, length, get_or, take, set, Some, None, Ok, Option, Result, sym, refl, ap, ◌∙◌, subst, inl, inr, arith, length-append, length-set}
use Rattle.std.specs.Option.{is_some}
use Rattle.std.specs.List.{AllByRecursion}
use Rattle.std.proofs.ByRecursion.{All-append}
use Rattle.std.proofs.lemmas.List.{get_or-set_same, get_or-set_other, get_or_append_left, get_or_at, length-take, take_min}
use Rattle.std.proofs.lemmas.Bool.{and_parts, both_ways, not-true, true≢false, cond_both, cond-true, cond-false, eqb-true, eqb-false, ltb-true, le-leb, lt-leb, or_cases}
use Rattle.ledgers.specs.Limits.{max_entries, max_fragments, max_pending, is_ledger}
use Rattle.ledgers.specs.Ids.{bookie_id, entry_id, lac_id, version_id}
use Rattle.ledgers.specs.BookieLists.{listed, by_position}
use Rattle.ledgers.specs.declared.bodies.Body.{Body}
use Rattle.ledgers.specs.declared.bookie_lists.BookieList.{BookieList}
use Rattle.ledgers.specs.declared.ids.BookieId.{BookieId}
use Rattle.ledgers.specs.declared.ids.EntryId.{EntryId}
use Rattle.ledgers.specs.declared.ids.LedgerId.{LedgerId}
use Rattle.ledgers.specs.declared.ids.Position.{Position}
use Rattle.ledgers.specs.declared.steps.Step.TheVariants.{Create, Append, Resend, ChangeEnsemble, Close}
use Rattle.layout.specs.Sizes.{made_sizes}
use Rattle.layout.specs.WriteSets.{write_set, tally, marked, member, distinct}
use Rattle.layout.specs.Layouts.{no_fragment, fragment_below, fragment_of, last_fragment, last_first, Rises, bookie_at, bookies_of, first_layout, alters, room_for, changed_fragment, changed_layout}
use Rattle.layout.specs.declared.sizes.Sizes.{Sizes}
use Rattle.layout.specs.declared.fragments.Fragment.{Fragment}
use Rattle.layout.specs.declared.fragments.Layout.{Layout}
use Rattle.messages.specs.Blanks.{no_body, no_metadata}
use Rattle.messages.specs.declared.entries.PendingAdd.{PendingAdd}
use Rattle.messages.specs.declared.messages.Message.TheVariants.{Add}
use Rattle.messages.specs.declared.metadata.LedgerState.{LedgerState}
use Rattle.messages.specs.declared.metadata.LedgerState.TheVariants.{Open, InRecovery, Closed}
use Rattle.messages.specs.declared.metadata.Metadata.{Metadata}
use Rattle.protocol.specs.Stores.{kept, known, exists}
use Rattle.protocol.specs.Writers.{Writer, no_writer, new_writer, is_made, is_shut_out, is_closed, fenced_writer, adds_to, adds, next_entry, has_room, new_add, appended, append_sends, all_adds, resends, by_put, change_fits, new_layout, change_store, unmarked, changed_writer, adds_at, change_sends, close_store, closed_writer}
use Rattle.protocol.specs.Recoverers.{by_store}
use Rattle.protocol.specs.Clusters.{Cluster, bookie_of, writer_of, ledger_of, with_writer, send}
use Rattle.protocol.specs.Steps.{Outcome, done, by_client, waiting, created, create_sized, existing, create, append, resend, lose, changed, change_ensemble, closed, close}
use Rattle.protocol.specs.declared.answers.Answer.TheVariants as answer
use Rattle.protocol.specs.declared.faults.ClientFault.{ClientFault}
use Rattle.protocol.specs.declared.faults.ClientFault.TheVariants as client
use Rattle.protocol.specs.declared.faults.StepFault.TheVariants as fault
use Rattle.protocol.proofs.Lists.{at_set_in, HasRow, at_number, at_number_in, has_row, ledger_row, none_marked, unmark_is}
use Rattle.protocol.proofs.Questions.{asked, create_cases, put_cases, writing_asked, ask_cases}
use Rattle.protocol.proofs.World.{Note, content_note, contents_of, acked_by, World, world, ContentAt, Sent, MessageOk, PendingOk, LayoutOk, WriterOk, StateOk, LedgerOk, Later, InvAt, Keeps}
use Rattle.protocol.proofs.Lasting.{copies_later, ledger_later, inv_later}
use Rattle.protocol.proofs.Apart.{take_of_set, distinct_set, first_layout_ok}
use Rattle.protocol.proofs.Changes.{sent_inv, writer_later, writer_inv, put_by_writer, Puts, puts_later, puts_inv}
use Rattle.protocol.proofs.Replies.{front_ledger, fenced_becomes, lac_copied}

-- a ledger that is not there is blank
absent_known : (o : Option Metadata) → is_some o ≡ false → known o ≡ no_metadata
absent_known None h = refl
absent_known (Some m) h = absurd (true≢false h)

-- create -------------------------------------------------------------------------------------------------------------
-- one different bookie for each position
listed_ok : (s : Sizes) (bs : BookieList) → (eqb (length (listed bs)) s.ensemble && distinct (listed bs)) ≡ true → LayoutOk (first_layout s (by_position bs))
listed_ok s bs h =
    let p = and_parts (eqb (length (listed bs)) s.ensemble) (distinct (listed bs)) h in
    let n : length (listed bs) ≡ s.ensemble = eqb-true (length (listed bs)) s.ensemble p.0 in
    first_layout_ok s (by_position bs) (let k = length-take bs.0.count (by_position bs) in omega arith)
    (subst (λ (k : ℕ). distinct (take k (by_position bs)) ≡ true) n (rw (length-take bs.0.count (by_position bs), take_min bs.0.count (by_position bs)) p.1))

-- a ledger is created
pub create_keeps : {x₀ : World} (ns : List Note) (c : Cluster) (l : LedgerId) (e w k : ℕ) (bs : BookieList) → InvAt x₀ ns c
    → Keeps x₀ ns c (Create l e w k bs) (create c l e w k bs)
create_keeps {x₀} ns c l e w k bs i =
    ask_cases c K (eqb (existing c bs) (length (listed bs))) (fault.Missing (5 + existing c bs)) _ i
    (λ _. ask_cases c K (not (exists c.store l.0)) fault.Taken _ i (λ _. sized (made_sizes e w k)))
  where
    K : Outcome → Type 0
    K o = InvAt x₀ ns o.next

    new_record : Layout → Metadata
    new_record y = record { version = version_id 1; state = Open; layout = y; closing = lac_id 0 }

    made : (y : Layout) → LayoutOk y → last_first y ≡ 0 → is_ledger l.0 ≡ true → exists c.store l.0 ≡ false
        → InvAt x₀ ns (put_by_writer c l.0 (new_writer y) (new_record y))
    made y ok zero-first q30 absent =
        let f = (i.metadata l.0).free (ap (λ (m : Metadata). m.version.0) (absent_known (kept c.store l.0) absent)) in
        let none = (i.writing l.0).blank f.1 in let up = (i.writing l.0).upto in
        puts_inv ns c l.0 (new_writer y) (new_record y) (ledger_row c.writers l.0 i.writers q30) (ledger_row c.store.ledgers l.0 i.ledgers q30)
        (record {
          lac = omega arith;
          was_open = f.0;
          writer =
              record {
                upto = omega arith;
                small = (i.writing l.0).small;
                firm = λ e k. let v : ⊥ = omega arith in absurd v;
                pending = λ _ _. none;
                first = omega arith;
                blank = λ _. none;
                layout = ok;
              };
          ledger = record { free = λ k. let v : ⊥ = omega arith in absurd v; state = (refl, refl, refl); layout = ok };
        }) i

    sized : (s : Option Sizes) → K (create_sized c l bs s)
    sized None = i
    sized (Some s) =
        ask_cases c K (eqb (length (listed bs)) s.ensemble && distinct (listed bs)) (fault.Client client.Ensemble) _ i
        (λ q6. create_cases c.store l (λ r st. K (by_client c (by_store r) (created c l (first_layout s (by_position bs)) st)))
        (first_layout s (by_position bs)) (λ f. i) (made (first_layout s (by_position bs)) (listed_ok s bs q6) refl))

-- append -------------------------------------------------------------------------------------------------------------
-- contents and pending adds end at the same entry
pub pending_length : (ts : List Body) (A : ℕ → ℕ → Bool) (y : Layout) (e : ℕ) (ps : List PendingAdd) → PendingOk ts A y e ps → length ts ≡ e + length ps
pending_length ts A y e [] h = let k : length ts ≡ e = h in omega arith
pending_length ts A y e (p ∷ ps) h = let k = pending_length ts A y (suc e) ps h.2 in omega arith

-- old contents stay
pub content_more : (ts : List Body) (body : Body) (e : ℕ) (b : Body) → ContentAt ts e b → ContentAt (ts ++ (body ∷ [])) e b
content_more ts body e b h =
    (let k = h.0 in rw (length-append ts (body ∷ [])) (omega arith), get_or_append_left ts (body ∷ []) no_body e h.0 ∙ h.1)

-- and the new one is the last
pub content_last : (ts : List Body) (body : Body) (e : ℕ) → length ts ≡ e → ContentAt (ts ++ (body ∷ [])) e body
content_last ts body e h = (rw (length-append ts (body ∷ [])) (omega arith), get_or_at ts body [] no_body e h)

-- one more add is pending
pending_push : (ts : List Body) (body : Body) (A : ℕ → ℕ → Bool) (y : Layout) (e : ℕ) (ps : List PendingAdd) → PendingOk ts A y e ps
    → PendingOk (ts ++ (body ∷ [])) A y e (ps ++ (new_add body ∷ []))
pending_push ts body A y e [] h =
    (content_last ts body e h, (λ q m. absurd (none_marked q m)), (let k : length ts ≡ e = h in rw (length-append ts (body ∷ [])) (omega arith)))
pending_push ts body A y e (p ∷ ps) h = (content_more ts body e p.body h.0, h.1, pending_push ts body A y (suc e) ps h.2)

-- adds of an entry carry its content
adds_to_ok : (x : World) (u : Layout) (l : LedgerId) (e n : ℕ) (p : PendingAdd) (qs : List ℕ) → Sent x l.0 e n p.body
    → AllByRecursion (MessageOk x) (adds_to u l e n p qs)
adds_to_ok x u l e n p [] h = tt
adds_to_ok x u l e n p (q ∷ qs) h =
    cond_both (marked p.marks q) (adds_to u l e n p qs) (Add l (bookie_id (bookie_at u e q)) (entry_id e) (lac_id n) p.body ∷ adds_to u l e n p qs)
    (AllByRecursion (MessageOk x)) (λ _. adds_to_ok x u l e n p qs h) (λ _. (h, adds_to_ok x u l e n p qs h))

-- an entry is appended
pub append_keeps : {x₀ : World} (ns : List Note) (c : Cluster) (l : LedgerId) (body : Body) → InvAt x₀ ns c → Keeps x₀ ns c (Append l body) (append c l body)
append_keeps {x₀} ns c l body i =
    ask_cases c (Keeps x₀ ns c (Append l body)) (is_made w.state) (fault.Missing 1) _ i
    (λ q4. writing_asked w _ K (λ f. i)
    (λ q7 q8. asked (has_room w) client.Full (Ok (entry_id (next_entry w))) K i
    (λ q11. grown q4 q7 q8 (ltb-true (next_entry w) max_entries (and_parts (ltb (length w.pending) max_pending) (ltb (next_entry w) max_entries) q11).1))))
  where
    w : Writer
    w = writer_of c l.0

    w' : Writer
    w' = appended w body

    c' : Cluster
    c' = with_writer c l.0 w'

    K : Result EntryId ClientFault → Type 0
    K r = Keeps x₀ ns c (Append l body) (by_client c r (λ e. done (answer.Entry e) (send c' (append_sends w l body))))

    ks : List Note
    ks = content_note l.0 body ∷ ns

    y : World
    y = world ks c'

    -- the contents of each ledger are the old ones, and those of this one have one more
    contents_are : (k : ℕ) (P : List Body → Type 0) → (l.0 ≡ k → P (contents_of ns k ++ (body ∷ []))) → ((l.0 ≡ k → ⊥) → P (contents_of ns k)) → P (contents_of ks k)
    contents_are k P f g =
        cond_both (eqb l.0 k) (contents_of ns k ++ (body ∷ [])) (contents_of ns k) P (λ q. f (eqb-true l.0 k q)) (λ q. g (eqb-false l.0 k q))

    grown : is_made w.state ≡ true → is_shut_out w.state ≡ false → is_closed w.state ≡ false → next_entry w < max_entries
        → InvAt x₀ ks (send c' (append_sends w l body))
    grown made f o room =
        sent_inv ks c' (append_sends w l body) inv
        (adds_to_ok y w.layout l (next_entry w) w.lac (new_add body) (write_set w.layout.sizes (next_entry w)) (
          contents_are l.0 (λ T. ContentAt T (next_entry w) body) (λ _. content_last (contents_of ns l.0) body (next_entry w) len) (λ ne. absurd (ne refl)),
          t.lac l.0,
        ))
      where
        inW : HasRow c.writers l.0
        inW = has_row (λ v. is_made v.state) c.writers l.0 no_writer refl made

        pending : PendingOk (contents_of ns l.0) (acked_by ns l.0) w.layout w.lac w.pending
        pending = (i.writing l.0).pending f o

        len : length (contents_of ns l.0) ≡ next_entry w
        len = pending_length (contents_of ns l.0) (acked_by ns l.0) w.layout w.lac w.pending pending

        t : Later (world ns c) y
        t =
            writer_later ns ks c l.0 w' (record { lac = omega arith; layout = refl })
            (λ k e b h. contents_are k (λ T. ContentAt T e b) (λ _. content_more (contents_of ns k) body e b h) (λ _. h)) (λ k e b. refl)

        old : WriterOk (contents_of ns l.0) (acked_by ns l.0) w
        old = i.writing l.0

        -- what it is
        new : WriterOk (contents_of ns l.0 ++ (body ∷ [])) (acked_by ns l.0) w'
        new =
            record {
              upto = let u = old.upto in rw (length-append (contents_of ns l.0) (body ∷ [])) (omega arith);
              small = let k = len in rw (length-append (contents_of ns l.0) (body ∷ [])) (omega arith);
              firm = old.firm;
              pending = λ _ _. pending_push (contents_of ns l.0) body (acked_by ns l.0) w.layout w.lac w.pending pending;
              first = old.first;
              blank = λ b. absurd (both_ways (is_made w.state) b made);
              layout = old.layout;
            }

        inv : InvAt x₀ ks c'
        inv =
            inv_later t i i.acked (λ b. copies_later t (bookie_of c b).entries (i.copies b))
            (λ k. at_number_in (WriterOk (contents_of ks k) (acked_by ns k)) c.writers l.0 k w' no_writer inW
            (λ q. subst (λ (n : ℕ). WriterOk (contents_of ks n) (acked_by ns n) w') (sym q)
            (contents_are l.0 (λ T. WriterOk T (acked_by ns l.0) w') (λ _. new) (λ ne. absurd (ne refl))))
            (λ ne. contents_are k (λ T. WriterOk T (acked_by ns k) (writer_of c k)) (λ q. absurd (ne (sym q))) (λ _. i.writing k)))
            (λ k. at_number (λ v. LedgerOk y k v (ledger_of c k)) c.writers l.0 k w' no_writer
            (λ q. subst (λ (n : ℕ). LedgerOk y n w' (ledger_of c n)) (sym q)
            (ledger_later t l.0 w' (ledger_of c l.0)
            (front_ledger (world ns c) l.0 w (ledger_of c l.0) w.lac w'.pending w.state o o (λ z. z) (i.metadata l.0))))
            (ledger_later t k (writer_of c k) (ledger_of c k) (i.metadata k)))

-- resend -------------------------------------------------------------------------------------------------------------
-- adds of pending entries carry their contents
all_adds_ok : (x : World) (u : Layout) (l : LedgerId) (n e : ℕ) (ps : List PendingAdd) → n ≤ (x.writer l.0).lac
    → PendingOk (x.contents l.0) (x.acked l.0) u e ps → AllByRecursion (MessageOk x) (all_adds u l n e ps)
all_adds_ok x u l n e [] k h = tt
all_adds_ok x u l n e (p ∷ ps) k h =
    All-append (MessageOk x) (adds u l e n p) (all_adds u l n (suc e) ps) (adds_to_ok x u l e n p (write_set u.sizes e) (h.0, k))
    (all_adds_ok x u l n (suc e) ps k h.2)

-- they go again
pub resend_keeps : {x₀ : World} (ns : List Note) (c : Cluster) (l : LedgerId) → InvAt x₀ ns c → Keeps x₀ ns c (Resend l) (resend c l)
resend_keeps {x₀} ns c l i =
    ask_cases c (Keeps x₀ ns c (Resend l)) (is_made w.state) (fault.Missing 1) _ i
    (λ _. writing_asked w (Ok tt) (λ r. Keeps x₀ ns c (Resend l) (by_client c r (λ _. waiting (send c (resends w l))))) (λ f. i)
    (λ q7 q8. sent_inv ns c (resends w l) i
    (all_adds_ok (world ns c) w.layout l w.lac w.lac w.pending (omega arith) ((i.writing l.0).pending q7 q8))))
  where
    w : Writer
    w = writer_of c l.0

-- puts of a writer ---------------------------------------------------------------------------------------------------
-- metadata at the version of a writer that has not closed is open
open_at_version : (x : World) (l : ℕ) (w : Writer) (m : Metadata) → is_closed w.state ≡ false → m.version.0 ≡ w.version → LedgerOk x l w m → m.state ≡ Open
open_at_version x l w m o v h = by m.state refl h.state
  where
    by : (st : LedgerState) → m.state ≡ st → StateOk x l w m st → m.state ≡ Open
    by Open q k = q
    by InRecovery q k = let z = k.0 in let b : ⊥ = omega arith in absurd b
    by Closed q k =
        elim k.1 [ inl z ↦ absurd (both_ways (is_closed w.state) o z.0) | inr z ↦ (let u = z.0 in let b : ⊥ = omega arith in absurd b) ]

-- a writer that finds another version loses its ledger
lose_inv : {x₀ : World} (ns : List Note) (c : Cluster) (l : LedgerId) → is_made (writer_of c l.0).state ≡ true → is_closed (writer_of c l.0).state ≡ false
    → InvAt x₀ ns c → InvAt x₀ ns (lose c l (writer_of c l.0)).next
lose_inv ns c l made o i =
    writer_inv ns c l.0 (fenced_writer (writer_of c l.0)) i
    (fenced_becomes (world ns c) l.0 (writer_of c l.0) (ledger_of c l.0) made o (i.writing l.0) (i.metadata l.0))

-- close --------------------------------------------------------------------------------------------------------------
-- a ledger is closed by its writer
pub close_keeps : {x₀ : World} (ns : List Note) (c : Cluster) (l : LedgerId) → InvAt x₀ ns c → Keeps x₀ ns c (Close l) (close c l)
close_keeps {x₀} ns c l i =
    ask_cases c K (is_made w.state) (fault.Missing 1) _ i
    (λ q4. writing_asked w _ (λ r. K (by_client c r (closed c l w (close_store w c.store l)))) (λ f. i)
    (λ _ q8. asked (eqb (length w.pending) 0) client.Pending _ (λ r. K (by_client c r (closed c l w (close_store w c.store l)))) i
    (λ _. put_cases c.store l (λ r s. K (by_client c (by_put (lac_id w.lac) r) (closed c l w s))) (version_id w.version) Closed w.layout (lac_id w.lac)
    (λ f q. rw q i) (λ _. lose_inv ns c l q4 q8 i) (close_it q4 q8))))
  where
    K : Outcome → Type 0
    K o = InvAt x₀ ns o.next

    w : Writer
    w = writer_of c l.0

    m' : Metadata
    m' = record { version = version_id (suc w.version); state = Closed; layout = w.layout; closing = lac_id w.lac }

    close_it : is_made w.state ≡ true → is_closed w.state ≡ false → is_ledger l.0 ≡ true → (ledger_of c l.0).version.0 ≡ w.version
        → InvAt x₀ ns (put_by_writer c l.0 (closed_writer w) m')
    close_it made o q30 v =
        let old = i.writing l.0 in
        puts_inv ns c l.0 (closed_writer w) m' (ledger_row c.writers l.0 i.writers q30) (ledger_row c.store.ledgers l.0 i.ledgers q30)
        (record {
          lac = omega arith;
          was_open = open_at_version (world ns c) l.0 w (ledger_of c l.0) o v (i.metadata l.0);
          writer =
              record {
                upto = old.upto;
                small = old.small;
                firm = old.firm;
                pending = λ _ k. absurd (true≢false k);
                first = old.first;
                blank = λ b. absurd (true≢false b);
                layout = old.layout;
              };
          ledger = record { free = λ k. let b : ⊥ = omega arith in absurd b; state = (lac_copied i l.0, inl (refl, refl)); layout = old.layout };
        }) i

-- ensemble change ----------------------------------------------------------------------------------------------------
-- entries from the last fragment's first on belong to it
pub in_last : (y : Layout) (e : ℕ) → last_first y ≤ e → fragment_of y e ≡ last_fragment y
in_last y e h =
    let k : y.count ≡ suc (y.count - 1) = let s = y.some in omega arith in
    ap (λ n. fragment_below y.fragments n e) k ∙ cond-true _ _ _ (le-leb (last_first y) e h)

-- a change behind leaves the fragments before it
below_set : (fs : List Fragment) (i : ℕ) (f : Fragment) (n e : ℕ) → n ≤ i → fragment_below (set fs i f) n e ≡ fragment_below fs n e
below_set fs i f zero e h = refl
below_set fs i f (suc n) e h =
    ap (λ (g : Fragment). cond (leb g.first.0 e) g (fragment_below (set fs i f) n e)) (get_or-set_other fs i n f no_fragment (λ q. omega arith))
    ∙ ap (λ g. cond (leb (get_or fs n no_fragment).first.0 e) (get_or fs n no_fragment) g) (below_set fs i f n e (omega arith))

-- the changed fragment has a place of its own, behind the fragments of the entries below n
record ChangedAt (y : Layout) (n p b : ℕ) : Type 0 where
  place : ℕ
  count : (changed_layout y n p b).count ≡ suc place
  fragments : (changed_layout y n p b).fragments ≡ set y.fragments place (changed_fragment (last_fragment y) n p b)
  inside : place < length y.fragments
  below : (e : ℕ) → e < n → fragment_below y.fragments place e ≡ fragment_of y e
  within : place ≤ y.count
  start : place ≡ 0 → n ≡ (get_or y.fragments 0 no_fragment).first.0
  after : Rises y → last_first y ≤ n → (i : ℕ) → suc i ≡ place → (get_or y.fragments i no_fragment).first.0 < n

-- altered or added
changed_at : (y : Layout) (n p b : ℕ) → room_for y n ≡ true → ChangedAt y n p b
changed_at y n p b room = by (alters y n) refl
  where
    f : Fragment
    f = changed_fragment (last_fragment y) n p b

    by : (t : Bool) → alters y n ≡ t → ChangedAt y n p b
    by true t =
        let c : y.count ≡ suc (y.count - 1) = let s = y.some in omega arith in
        record {
          place = y.count - 1;
          count = ap (λ v. cond v y.count (min max_fragments (suc y.count))) t ∙ c;
          fragments = ap (λ v. set y.fragments (cond v (y.count - 1) y.count) f) t;
          inside = let s = y.some in let l = y.few in let g = y.eight in omega arith;
          below = λ e h.
              sym (ap (λ m. fragment_below y.fragments m e) c
              ∙ cond-false _ _ _ (lt-leb (last_first y) e (let z = eqb-true (last_first y) n t in omega arith)));
          within = omega arith;
          start = λ o. sym (eqb-true (last_first y) n t) ∙ ap (λ m. (get_or y.fragments m no_fragment).first.0) o;
          after = λ rises _ i o.
              let s = y.some in let r = rises.rising i (omega arith) in
              let at : (get_or y.fragments (suc i) no_fragment).first.0 ≡ last_first y = ap (λ m. (get_or y.fragments m no_fragment).first.0) o in
              let is : last_first y ≡ n = eqb-true (last_first y) n t in omega arith;
        }
    by false t =
        let r : ltb y.count max_fragments ≡ true = elim (or_cases (alters y n) (ltb y.count max_fragments) room) [ inl z ↦ absurd (both_ways (alters y n) t z) | inr z ↦ z ] in
        let few : y.count < max_fragments = ltb-true y.count max_fragments r in
        let more_count : min max_fragments (suc y.count) ≡ suc y.count = omega arith in
        record {
          place = y.count;
          count = ap (λ v. cond v y.count (min max_fragments (suc y.count))) t ∙ more_count;
          fragments = ap (λ v. set y.fragments (cond v (y.count - 1) y.count) f) t;
          inside = let g = y.eight in omega arith;
          below = λ e h. refl;
          within = omega arith;
          start = λ o. let s = y.some in let v : ⊥ = omega arith in absurd v;
          after = λ _ le i o.
              let place_is : i ≡ y.count - 1 = omega arith in
              let at : (get_or y.fragments i no_fragment).first.0 ≡ last_first y = ap (λ m. (get_or y.fragments m no_fragment).first.0) place_is in
              let ne : last_first y ≡ n → ⊥ = eqb-false (last_first y) n t in omega arith;
        }

module _ (y : Layout) (n p b : ℕ) (room : room_for y n ≡ true) where
  -- where it is
  spot : ChangedAt y n p b
  spot = changed_at y n p b room

  newest : Fragment
  newest = changed_fragment (last_fragment y) n p b

  -- the fragment of an entry afterwards
  changed_of : (e : ℕ) → fragment_of (changed_layout y n p b) e ≡ cond (leb n e) newest (fragment_below y.fragments spot.place e)
  unfolding newest
  changed_of e =
      ap (λ m. fragment_below (changed_layout y n p b).fragments m e) spot.count ∙ ap (λ fs. fragment_below fs (suc spot.place) e) spot.fragments
      ∙ ap (λ (g : Fragment). cond (leb g.first.0 e) g (fragment_below (set y.fragments spot.place newest) spot.place e))
      (get_or-set_same y.fragments spot.place newest no_fragment spot.inside)
      ∙ ap (λ g. cond (leb n e) newest g) (below_set y.fragments spot.place newest spot.place e (omega arith))

  -- entries before the change stay where they are
  changed_below : (e : ℕ) → e < n → fragment_of (changed_layout y n p b) e ≡ fragment_of y e
  changed_below e h = changed_of e ∙ cond-false _ _ _ (lt-leb n e h) ∙ spot.below e h

  -- the others have the newest bookie at its position
  changed_above : (e : ℕ) → n ≤ e → last_first y ≤ n → (fragment_of (changed_layout y n p b) e).bookies ≡ set (fragment_of y e).bookies p b
  unfolding newest
  changed_above e h l =
      ap (λ (g : Fragment). g.bookies) (changed_of e ∙ cond-true _ _ _ (le-leb n e h))
      ∙ ap (λ (g : Fragment). set g.bookies p b) (sym (in_last y e (omega arith)))

  -- it begins with the first unconfirmed entry at the latest
  changed_first : last_first (changed_layout y n p b) ≤ n
  unfolding newest
  changed_first =
      let c = spot.count in
      let k : (changed_layout y n p b).count - 1 ≡ spot.place = omega arith in
      let f = ap (λ m. get_or (changed_layout y n p b).fragments m no_fragment) k ∙ ap (λ fs. get_or fs spot.place no_fragment) spot.fragments
      ∙ get_or-set_same y.fragments spot.place newest no_fragment spot.inside in
      let g = ap (λ (h : Fragment). h.first.0) f in omega arith

  -- the fragments still rise, and their bookies stay different
  changed_ok : LayoutOk y → last_first y ≤ n → n ≤ max_entries → not (member b (take y.sizes.ensemble (last_fragment y).bookies)) ≡ true → LayoutOk (changed_layout y n p b)
  unfolding newest
  changed_ok h le few free =
      record {
        rises = record { first = first; rising = λ i l. rw spot.fragments (rising i l); last = let f = changed_first in omega arith };
        full = λ i l. rw spot.fragments
            (at_set_in (λ (f : Fragment). y.sizes.ensemble ≤ length f.bookies) y.fragments spot.place i newest no_fragment spot.inside
            (λ _. let e = length-set (last_fragment y).bookies p b in let v = h.full (y.count - 1) last in omega arith) (λ ne. h.full i (within i l ne)));
        apart = λ i l. rw spot.fragments
            (at_set_in (λ (f : Fragment). distinct (take y.sizes.ensemble f.bookies) ≡ true) y.fragments spot.place i newest no_fragment spot.inside
            (λ _. ap distinct (take_of_set y.sizes.ensemble (last_fragment y).bookies p b)
            ∙ distinct_set (take y.sizes.ensemble (last_fragment y).bookies) p b (h.apart (y.count - 1) last)
            (not-true (member b (take y.sizes.ensemble (last_fragment y).bookies)) free))
            (λ ne. h.apart i (within i l ne)));
      }
    where
      last : y.count - 1 < y.count
      last = let s = y.some in omega arith

      within : (i : ℕ) → i < (changed_layout y n p b).count → (i ≡ spot.place → ⊥) → i < y.count
      within i l ne = let c = spot.count in let v = spot.within in omega arith

      first : (get_or (changed_layout y n p b).fragments 0 no_fragment).first.0 ≡ 0
      first =
          rw spot.fragments
          (at_set_in (λ (f : Fragment). f.first.0 ≡ 0) y.fragments spot.place 0 newest no_fragment spot.inside
          (λ o. spot.start (sym o) ∙ h.rises.first) (λ _. h.rises.first))

      rising : (i : ℕ) → suc i < (changed_layout y n p b).count
          → (get_or (set y.fragments spot.place newest) i no_fragment).first.0 < (get_or (set y.fragments spot.place newest) (suc i) no_fragment).first.0
      rising i l =
          let c = spot.count in
          subst (λ (f : Fragment). f.first.0 < (get_or (set y.fragments spot.place newest) (suc i) no_fragment).first.0)
          (sym (get_or-set_other y.fragments spot.place i newest no_fragment (λ o. omega arith)))
          (at_set_in (λ (f : Fragment). (get_or y.fragments i no_fragment).first.0 < f.first.0) y.fragments spot.place (suc i) newest no_fragment spot.inside
          (λ o. spot.after h.rises le i o) (λ ne. h.rises.rising i (within (suc i) l ne)))

  -- pending entries lose the mark at the position that changes
  changed_pending : (ts : List Body) (A : ℕ → ℕ → Bool) (e : ℕ) (ps : List PendingAdd) → n ≤ e → last_first y ≤ n → PendingOk ts A y e ps
      → PendingOk ts A (changed_layout y n p b) e (map (unmarked p) ps)
  changed_pending ts A e [] k h g = g
  changed_pending ts A e (a ∷ ps) k h g = (
    g.0,
    (λ q m. let u = unmark_is a.marks p q m in
        subst (λ (v : ℕ). A e v ≡ true)
        (sym (ap (λ bs. get_or bs q 0) (changed_above e k h) ∙ get_or-set_other (fragment_of y e).bookies p q b 0 u.0)) (g.1 q u.1)),
    changed_pending ts A (suc e) ps (omega arith) h g.2,
  )

-- what goes to the newest bookie carries its content
adds_at_ok : (x : World) (u y : Layout) (l : LedgerId) (n q : ℕ) (b : BookieId) (e : ℕ) (ps : List PendingAdd) → n ≤ (x.writer l.0).lac
    → PendingOk (x.contents l.0) (x.acked l.0) u e ps → AllByRecursion (MessageOk x) (adds_at y l n q b e ps)
adds_at_ok x u y l n q b e [] k h = tt
adds_at_ok x u y l n q b e (p ∷ ps) k h =
    cond_both (member q (write_set y.sizes e)) _ _ (AllByRecursion (MessageOk x)) (λ _. ((h.0, k), adds_at_ok x u y l n q b (suc e) ps k h.2))
    (λ _. adds_at_ok x u y l n q b (suc e) ps k h.2)

-- an ensemble is changed
pub change_keeps : {x₀ : World} (ns : List Note) (c : Cluster) (l : LedgerId) (p : Position) (b : BookieId) → InvAt x₀ ns c
    → Keeps x₀ ns c (ChangeEnsemble l p b) (change_ensemble c l p b)
change_keeps {x₀} ns c l p b i =
    ask_cases c K (is_made w.state) (fault.Missing 1) _ i (λ q4. ask_cases c K (ltb b.0 (length c.bookies)) (fault.Missing 3) _ i
    (λ _. asked (change_fits w.layout p.0 b.0) client.Ensemble _ K' i
    (λ q6. writing_asked w _ K' (λ f. i) (λ q7 q8. asked (room_for w.layout w.lac) client.Fragments _ K' i
    (λ q12. put_cases c.store l (λ r s. K (by_client c (by_put (entry_id w.lac) r) (changed c l w p b s))) (version_id w.version) Open y (lac_id 0)
    (λ f q. rw q i) (λ _. lose_inv ns c l q4 q8 i)
    (change_it q12 (and_parts (not (member b.0 (take w.layout.sizes.ensemble (last_fragment w.layout).bookies))) (ltb p.0 w.layout.sizes.ensemble) q6).0 q7 q8))))))
  where
    K : Outcome → Type 0
    K o = InvAt x₀ ns o.next

    w : Writer
    w = writer_of c l.0

    y : Layout
    y = new_layout w p b

    K' : Result (Option EntryId) ClientFault → Type 0
    K' r = K (by_client c r (changed c l w p b (change_store w c.store l p b)))

    m' : Metadata
    m' = record { version = version_id (suc w.version); state = Open; layout = y; closing = lac_id 0 }

    c' : Cluster
    c' = put_by_writer c l.0 (changed_writer w p b) m'

    old : WriterOk (contents_of ns l.0) (acked_by ns l.0) w
    old = i.writing l.0

    change_it : room_for w.layout w.lac ≡ true → not (member b.0 (take w.layout.sizes.ensemble (last_fragment w.layout).bookies)) ≡ true
        → is_shut_out w.state ≡ false → is_closed w.state ≡ false → is_ledger l.0 ≡ true → (ledger_of c l.0).version.0 ≡ w.version
        → InvAt x₀ ns (send c' (change_sends w l p b))
    change_it room free f o q30 v =
        sent_inv ns c' (change_sends w l p b) (puts_inv ns c l.0 (changed_writer w p b) m' inW inL h i)
        (adds_at_ok (world ns c') w.layout y l w.lac p.0 b w.lac w.pending ((puts_later ns c l.0 (changed_writer w p b) m' inW inL h).lac l.0) (old.pending f o))
      where
        inW : HasRow c.writers l.0
        inW = ledger_row c.writers l.0 i.writers q30

        inL : HasRow c.store.ledgers l.0
        inL = ledger_row c.store.ledgers l.0 i.ledgers q30

        ok : LayoutOk y
        ok = changed_ok w.layout w.lac p.0 b.0 room old.layout old.first (let u = old.upto in let v = old.small in omega arith) free

        firm : (e : ℕ) → e < w.lac → y.sizes.ack ≤ tally (acked_by ns l.0 e) (bookies_of y e)
        firm e k =
            subst (λ (g : Fragment). w.layout.sizes.ack ≤ tally (acked_by ns l.0 e) (map (λ q. get_or g.bookies q 0) (write_set w.layout.sizes e)))
            (sym (changed_below w.layout w.lac p.0 b.0 room e k)) (old.firm e k)

        h : Puts (world ns c) l.0 w (changed_writer w p b) (ledger_of c l.0) m'
        h =
            record {
              lac = omega arith;
              was_open = open_at_version (world ns c) l.0 w (ledger_of c l.0) o v (i.metadata l.0);
              writer =
                  record {
                    upto = old.upto;
                    small = old.small;
                    firm = firm;
                    pending = λ f o. changed_pending w.layout w.lac p.0 b.0 room (contents_of ns l.0) (acked_by ns l.0) w.lac w.pending (omega arith) old.first (old.pending f o);
                    first = changed_first w.layout w.lac p.0 b.0 room;
                    blank = old.blank;
                    layout = ok;
                  };
              ledger = record { free = λ k. let z : ⊥ = omega arith in absurd z; state = (refl, o, refl); layout = ok };
            }
