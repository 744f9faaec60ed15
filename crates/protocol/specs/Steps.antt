-- The thirteen steps: what each asks, in order, what it answers, and the cluster it leaves.
use Rattle.std.specs.Prelude.{ℕ, ◌+◌, Bool, true, false, not, ◌&&◌, ltb, List, [], ◌∷◌, length, Some, None, Ok, Err, Option, Result, ◌==◌, nat_lt, slice_index_or}
use Rattle.std.specs.List.{prefix_len}
use Rattle.ledgers.specs.Limits.{is_recoverer}
use Rattle.ledgers.specs.Ids.{lac_id}
use Rattle.ledgers.specs.BookieLists.{listed, by_position}
use Rattle.ledgers.specs.declared.bodies.Body.{Body}
use Rattle.ledgers.specs.declared.bookie_lists.BookieList.{BookieList}
use Rattle.ledgers.specs.declared.ids.BookieId.{BookieId}
use Rattle.ledgers.specs.declared.ids.EntryId.{EntryId}
use Rattle.ledgers.specs.declared.ids.Lac.{Lac}
use Rattle.ledgers.specs.declared.ids.LedgerId.{LedgerId}
use Rattle.ledgers.specs.declared.ids.MessagePlace.{MessagePlace}
use Rattle.ledgers.specs.declared.ids.Position.{Position}
use Rattle.ledgers.specs.declared.ids.RecovererId.{RecovererId}
use Rattle.ledgers.specs.declared.ids.Version.{Version}
use Rattle.ledgers.specs.declared.steps.Step.{Step}
use Rattle.ledgers.specs.declared.steps.Step.TheVariants.{Create, Append, Resend, ChangeEnsemble, Close, Recover, AskAgain, Finish, Deliver, Duplicate, Discard, Stop, Start}
use Rattle.layout.specs.Sizes.{made_sizes}
use Rattle.layout.specs.WriteSets.{distinct}
use Rattle.layout.specs.Layouts.{first_layout}
use Rattle.layout.specs.declared.sizes.Sizes.{Sizes}
use Rattle.layout.specs.declared.fragments.Layout.{Layout}
use Rattle.messages.specs.Blanks.{no_message}
use Rattle.messages.specs.Waiting.{sent_one, without}
use Rattle.messages.specs.declared.entries.Held.{Held}
use Rattle.messages.specs.declared.faults.BookieFault.{BookieFault}
use Rattle.messages.specs.declared.faults.BookieFault.TheVariants as refused
use Rattle.messages.specs.declared.messages.Message.{Message}
use Rattle.messages.specs.declared.messages.Message.TheVariants.{Fence, RecoveryRead, Add, RecoveryAdd, Added, AddRefused, Fenced, Absent, Found, RecoveryAdded, Refused}
use Rattle.protocol.specs.Bookies.{Bookie, add_answer, add_after, fence_answer, fence_after, recovery_read_answer, recovery_read_after, with_up}
use Rattle.protocol.specs.Stores.{Store, exists, create_answer, create_after}
use Rattle.protocol.specs.Writers.{Writer, new_writer, is_made, fenced_writer, append_answer, appended, append_sends, resend_answer, resends, reply_after, change_answer, change_store, changed_writer, change_sends, close_answer, close_store, closed_writer}
use Rattle.protocol.specs.Recoverers.{at_work, no_recoverer, by_store, recover_answer, recover_store, new_recoverer, heard, asks, heard_sends, finish_answer, finish_store}
use Rattle.protocol.specs.Clusters.{Cluster, bookie_of, writer_of, recoverer_of, phase_of, ledger_of, with_bookie, with_store, with_writer, with_recoverer, with_queue, send}
use Rattle.protocol.specs.declared.answers.Answer.{Answer}
use Rattle.protocol.specs.declared.answers.Answer.TheVariants as answer
use Rattle.protocol.specs.declared.faults.ClientFault.{ClientFault}
use Rattle.protocol.specs.declared.faults.ClientFault.TheVariants as client
use Rattle.protocol.specs.declared.faults.StepFault.{StepFault}
use Rattle.protocol.specs.declared.faults.StepFault.TheVariants as fault
use Rattle.protocol.specs.declared.recoverers.Phase.{Phase}
use Rattle.protocol.specs.declared.recoverers.Phase.TheVariants.{Idle, Fencing, Reading, Writing, Ended}
use Rattle.protocol.specs.declared.recoverers.Recoverer.{Recoverer}

-- what a step answers, and the cluster after it
pub record Outcome : Type 0 where
  pub answer : Result Answer StepFault
  pub next : Cluster

-- answered so, with this cluster after it
abbrev pub done : Answer → Cluster → Outcome
done a c = record { answer = Ok a; next = c }

-- a refusal alters nothing
abbrev pub refuse : Cluster → StepFault → Outcome
refuse c f = record { answer = Err f; next = c }

-- a no to a question refuses
abbrev pub ask : Cluster → Bool → StepFault → Outcome → Outcome
ask c true f o = o
ask c false f o = refuse c f

-- what a client refuses is refused
abbrev pub by_client : {A : Type 0} → Cluster → Result A ClientFault → (A → Outcome) → Outcome
by_client c (Ok a) k = k a
by_client c (Err f) k = refuse c (fault.Client f)

-- how many messages wait
abbrev pub waiting : Cluster → Outcome
waiting c = done (answer.Waiting (length c.queue.waiting)) c

-- create -------------------------------------------------------------------------------------------------------------
-- the ledger is in store s, and has a writer
abbrev pub created : Cluster → LedgerId → Layout → Store → Version → Outcome
created c l y s v = done (answer.Version v) (with_writer (with_store c s) l.0 (new_writer y))

-- with sizes in order and a different bookie for each position
abbrev pub create_sized : Cluster → LedgerId → BookieList → Option Sizes → Outcome
create_sized c l bs None = refuse c (fault.Client client.Ensemble)
create_sized c l bs (Some s) =
    ask c (length (listed bs) == s.ensemble && distinct (listed bs)) (fault.Client client.Ensemble)
    (by_client c (by_store (create_answer c.store l))
    (created c l (first_layout s (by_position bs)) (create_after c.store l (first_layout s (by_position bs)))))

-- how many of the bookies exist, up to the first that does not
abbrev pub existing : Cluster → BookieList → ℕ
existing c bs = prefix_len (λ b. ltb b (length c.bookies)) (listed bs)

-- the bookies are the words from the fifth on
abbrev pub create : Cluster → LedgerId → ℕ → ℕ → ℕ → BookieList → Outcome
create c l e w k bs =
    ask c (existing c bs == length (listed bs)) (fault.Missing (5 + existing c bs))
    (ask c (not (exists c.store l.0)) fault.Taken (create_sized c l bs (made_sizes e w k)))

-- the writer's steps -------------------------------------------------------------------------------------------------
-- the ledger must have a writer
abbrev pub with_its_writer : Cluster → LedgerId → (Writer → Outcome) → Outcome
with_its_writer c l k = ask c (is_made (writer_of c l.0).state) (fault.Missing 1) (k (writer_of c l.0))

-- the writer appends: the entry
abbrev pub append : Cluster → LedgerId → Body → Outcome
append c l body =
    with_its_writer c l
    (λ w. by_client c (append_answer w)
    (λ e. done (answer.Entry e) (send (with_writer c l.0 (appended w body)) (append_sends w l body))))

-- the writer resends: how many messages wait
abbrev pub resend : Cluster → LedgerId → Outcome
resend c l = with_its_writer c l (λ w. by_client c (resend_answer w) (λ _. waiting (send c (resends w l))))

-- a writer that lost its ledger to a recovery is fenced
abbrev pub lose : Cluster → LedgerId → Writer → Outcome
lose c l w = done answer.Lost (with_writer c l.0 (fenced_writer w))

-- the ledger is lost, or has its layout changed in store s
abbrev pub changed : Cluster → LedgerId → Writer → Position → BookieId → Store → Option EntryId → Outcome
changed c l w p b s None = lose c l w
changed c l w p b s (Some e) =
    done (answer.FirstEntry e) (send (with_writer (with_store c s) l.0 (changed_writer w p b)) (change_sends w l p b))

-- the writer changes its ensemble: the first entry of the last fragment
abbrev pub change_ensemble : Cluster → LedgerId → Position → BookieId → Outcome
change_ensemble c l p b =
    with_its_writer c l
    (λ w. ask c (nat_lt b.0 (length c.bookies)) (fault.Missing 3)
    (by_client c (change_answer w c.store l p b) (changed c l w p b (change_store w c.store l p b))))

-- the ledger is lost, or closed in store s
abbrev pub closed : Cluster → LedgerId → Writer → Store → Option Lac → Outcome
closed c l w s None = lose c l w
closed c l w s (Some n) = done (answer.ClosingEntry n) (with_writer (with_store c s) l.0 (closed_writer w))

-- the writer closes: the closing entry
abbrev pub close : Cluster → LedgerId → Outcome
close c l = with_its_writer c l (λ w. by_client c (close_answer w c.store l) (closed c l w (close_store w c.store l)))

-- the recoverers' steps ----------------------------------------------------------------------------------------------
-- x is the recoverer, and sends its fences
abbrev pub begun : Cluster → RecovererId → Recoverer → Outcome
begun c r x = done (answer.Version x.version) (send (with_recoverer c r.0 x) (asks x r))

-- recoverer r begins with ledger l: the version
abbrev pub recover : Cluster → RecovererId → LedgerId → Outcome
recover c r l =
    ask c (is_recoverer r.0) (fault.Missing 1)
    (ask c (exists c.store l.0) (fault.Missing 2)
    (ask c (not (at_work (phase_of c r))) fault.Taken
    (by_client c (recover_answer c.store l)
    (λ v. begun (with_store c (recover_store c.store l)) r (new_recoverer l v (ledger_of c l.0).layout)))))

-- the recoverer must be at work
abbrev pub with_its_recoverer : Cluster → RecovererId → (Recoverer → Outcome) → Outcome
with_its_recoverer c r k = ask c (at_work (phase_of c r)) (fault.Missing 1) (k (recoverer_of c r.0))

-- its unanswered requests go again: how many messages wait
abbrev pub ask_again : Cluster → RecovererId → Outcome
ask_again c r = with_its_recoverer c r (λ x. waiting (send c (asks x r)))

-- whoever closed the ledger, it is idle again
abbrev pub finish : Cluster → RecovererId → Outcome
finish c r =
    with_its_recoverer c r
    (λ x. by_client c (finish_answer x c.store)
    (λ n. done (answer.ClosingEntry n) (with_recoverer (with_store c (finish_store x c.store)) r.0 no_recoverer)))

-- delivery -----------------------------------------------------------------------------------------------------------
-- a request to a stopped bookie is lost, and any other refusal goes back
abbrev pub unless_stopped : BookieFault → Message → List Message
unless_stopped refused.Range m = m ∷ []
unless_stopped refused.Stopped m = []
unless_stopped refused.Fenced m = m ∷ []
unless_stopped refused.OtherBody m = m ∷ []
unless_stopped refused.Full m = m ∷ []

-- what goes back to the writer
abbrev pub add_reply : LedgerId → BookieId → EntryId → Result (Unit {0}) BookieFault → List Message
add_reply l b e (Ok u) = Added l b e ∷ []
add_reply l b e (Err f) = unless_stopped f (AddRefused l b e f)

-- what goes back to the recoverer: of an add,
abbrev pub recovery_add_reply : RecovererId → LedgerId → BookieId → EntryId → Result (Unit {0}) BookieFault → List Message
recovery_add_reply r l b e (Ok u) = RecoveryAdded r l b e ∷ []
recovery_add_reply r l b e (Err f) = unless_stopped f (Refused r l b f)

-- of a fence,
abbrev pub fence_reply : RecovererId → LedgerId → BookieId → Result Lac BookieFault → List Message
fence_reply r l b (Ok n) = Fenced r l b n ∷ []
fence_reply r l b (Err f) = unless_stopped f (Refused r l b f)

-- of a read
abbrev pub read_reply : RecovererId → LedgerId → BookieId → EntryId → Result (Option Held) BookieFault → List Message
read_reply r l b e (Ok None) = Absent r l b e ∷ []
read_reply r l b e (Ok (Some h)) = Found r l b e h.lac h.body ∷ []
read_reply r l b e (Err f) = unless_stopped f (Refused r l b f)

-- what the bookie did, as an answer
abbrev pub served : {A : Type 0} → Result A BookieFault → Answer
served (Ok a) = answer.Served (Ok tt)
served (Err f) = answer.Served (Err f)

-- a reply makes of the writer what it does: the LAC
abbrev pub to_writer : Cluster → LedgerId → BookieId → EntryId → Result (Unit {0}) BookieFault → Outcome
to_writer c l b e a =
    done (answer.Confirmed (lac_id (reply_after (writer_of c l.0) b.0 e.0 a).lac))
    (with_writer c l.0 (reply_after (writer_of c l.0) b.0 e.0 a))

-- what is settled, or that it is idle
abbrev pub standing : Phase → Lac → Answer
standing Idle n = answer.Idle
standing (Fencing m) n = answer.Settled n
standing (Reading m) n = answer.Settled n
standing (Writing m k body) n = answer.Settled n
standing Ended n = answer.Settled n

-- a reply makes of the recoverer what it does: what is settled
abbrev pub to_recoverer : Cluster → RecovererId → Message → Outcome
to_recoverer c r m =
    done (standing (heard (recoverer_of c r.0) m).phase (heard (recoverer_of c r.0) m).settled)
    (send (with_recoverer c r.0 (heard (recoverer_of c r.0) m)) (heard_sends (recoverer_of c r.0) r m))

-- the bookie answered a, became x and has its reply sent
abbrev pub to_bookie : {A : Type 0} → Cluster → BookieId → Result A BookieFault → Bookie → (Result A BookieFault → List Message) → Outcome
to_bookie c b a x reply = done (served a) (send (with_bookie c b.0 x) (reply a))

-- what a message does where it arrives
abbrev pub act : Cluster → Message → Outcome
act c (Fence r l b) = to_bookie c b (fence_answer (bookie_of c b.0) l) (fence_after (bookie_of c b.0) l) (fence_reply r l b)
act c (RecoveryRead r l b e) =
    to_bookie c b (recovery_read_answer (bookie_of c b.0) l e) (recovery_read_after (bookie_of c b.0) l e) (read_reply r l b e)
act c (Add l b e n body) =
    to_bookie c b (add_answer (bookie_of c b.0) l e n body false) (add_after (bookie_of c b.0) l e n body false) (add_reply l b e)
act c (RecoveryAdd r l b e n body) =
    to_bookie c b (add_answer (bookie_of c b.0) l e n body true) (add_after (bookie_of c b.0) l e n body true)
    (recovery_add_reply r l b e)
act c (Added l b e) = to_writer c l b e (Ok tt)
act c (AddRefused l b e f) = to_writer c l b e (Err f)
act c (Fenced r l b n) = to_recoverer c r (Fenced r l b n)
act c (Absent r l b e) = to_recoverer c r (Absent r l b e)
act c (Found r l b e n body) = to_recoverer c r (Found r l b e n body)
act c (RecoveryAdded r l b e) = to_recoverer c r (RecoveryAdded r l b e)
act c (Refused r l b f) = to_recoverer c r (Refused r l b f)

-- a message waits at this place
abbrev pub waits : Cluster → MessagePlace → Bool
waits c m = nat_lt m.0 (length c.queue.waiting)

-- the message at this place
abbrev pub message_at : Cluster → MessagePlace → Message
message_at c m = slice_index_or c.queue.waiting m.0 no_message

-- the message is taken off, and acts
abbrev pub deliver : Cluster → MessagePlace → Outcome
deliver c m = ask c (waits c m) (fault.Missing 1) (act (with_queue c (without c.queue m.0)) (message_at c m))

-- a copy goes to the end: how many messages wait
abbrev pub duplicate : Cluster → MessagePlace → Outcome
duplicate c m = ask c (waits c m) (fault.Missing 1) (waiting (with_queue c (sent_one c.queue (message_at c m))))

-- the message is lost: how many messages wait
abbrev pub discard : Cluster → MessagePlace → Outcome
discard c m = ask c (waits c m) (fault.Missing 1) (waiting (with_queue c (without c.queue m.0)))

-- a bookie stops or starts -------------------------------------------------------------------------------------------
-- bookie b is stopped or started
abbrev pub turn : Cluster → BookieId → Bool → Outcome
turn c b u =
    ask c (nat_lt b.0 (length c.bookies)) (fault.Missing 1)
    (done answer.Done (with_bookie c b.0 (with_up (bookie_of c b.0) u)))

-- all ----------------------------------------------------------------------------------------------------------------
-- every step has one definition
abbrev pub step : Cluster → Step → Outcome
step c (Create l e w k bs) = create c l e w k bs
step c (Append l body) = append c l body
step c (Resend l) = resend c l
step c (ChangeEnsemble l p b) = change_ensemble c l p b
step c (Close l) = close c l
step c (Recover r l) = recover c r l
step c (AskAgain r) = ask_again c r
step c (Finish r) = finish c r
step c (Deliver m) = deliver c m
step c (Duplicate m) = duplicate c m
step c (Discard m) = discard c m
step c (Stop b) = turn c b false
step c (Start b) = turn c b true
