-- A step that is refused leaves the cluster as it was.
use Rattle.std.proofs.Common.{◌≡◌, ◌+◌, true, false, not, ◌&&◌, eqb, ltb, length, Some, None, Option, refl}
use Rattle.std.specs.Result.{IsErr}
use Rattle.std.proofs.lemmas.Bool.{false≢true}
use Rattle.ledgers.specs.Limits.{is_recoverer}
use Rattle.ledgers.specs.BookieLists.{listed}
use Rattle.ledgers.specs.declared.bookie_lists.BookieList.{BookieList}
use Rattle.ledgers.specs.declared.ids.BookieId.{BookieId}
use Rattle.ledgers.specs.declared.ids.EntryId.{EntryId}
use Rattle.ledgers.specs.declared.ids.Lac.{Lac}
use Rattle.ledgers.specs.declared.ids.LedgerId.{LedgerId}
use Rattle.ledgers.specs.declared.ids.Position.{Position}
use Rattle.ledgers.specs.declared.steps.Step.TheVariants.{Create, Append, Resend, ChangeEnsemble, Close, Recover, AskAgain, Finish, Deliver, Duplicate, Discard, Stop, Start}
use Rattle.layout.specs.Sizes.{made_sizes}
use Rattle.layout.specs.WriteSets.{distinct}
use Rattle.layout.specs.declared.sizes.Sizes.{Sizes}
use Rattle.messages.specs.Waiting.{without}
use Rattle.messages.specs.declared.messages.Message.{Message}
use Rattle.messages.specs.declared.messages.Message.TheVariants.{Fence, RecoveryRead, Add, RecoveryAdd, Added, AddRefused, Fenced, Absent, Found, RecoveryAdded, Refused}
use Rattle.protocol.specs.Stores.{Store, exists, create_answer}
use Rattle.protocol.specs.Writers.{Writer, is_made, append_answer, resend_answer, change_answer, change_store, close_answer, close_store}
use Rattle.protocol.specs.Recoverers.{at_work, by_store, recover_answer, finish_answer}
use Rattle.protocol.specs.Clusters.{Cluster, writer_of, recoverer_of, phase_of, with_queue}
use Rattle.protocol.specs.Steps.{Outcome, create_sized, existing, changed, closed, act, waits, message_at}
use Rattle.protocol.specs.Law.{RefusalsAlterNothing}
use Rattle.protocol.specs.declared.faults.ClientFault.TheVariants as client
use Rattle.protocol.specs.declared.faults.StepFault.TheVariants as fault
use Rattle.protocol.proofs.Questions.{ask_cases, client_cases}

-- if this outcome of a step from c is a refusal, it is c
abbrev Still : Cluster → Outcome → Type 0
Still c o = IsErr o.answer → o.next ≡ c

-- an answer is no refusal
never : {P : Type 0} → false ≡ true → P
never h = absurd (false≢true h)

-- a message that is there acts
act_still : (c c' : Cluster) (m : Message) → Still c (act c' m)
act_still c c' (Fence r l b) = never
act_still c c' (RecoveryRead r l b e) = never
act_still c c' (Add l b e n body) = never
act_still c c' (RecoveryAdd r l b e n body) = never
act_still c c' (Added l b e) = never
act_still c c' (AddRefused l b e f) = never
act_still c c' (Fenced r l b n) = never
act_still c c' (Absent r l b e) = never
act_still c c' (Found r l b e n body) = never
act_still c c' (RecoveryAdded r l b e) = never
act_still c c' (Refused r l b f) = never

-- a create with its sizes, or without
sized_still : (c : Cluster) (l : LedgerId) (bs : BookieList) (s : Option Sizes) → Still c (create_sized c l bs s)
sized_still c l bs None = λ _. refl
sized_still c l bs (Some s) =
    ask_cases c (Still c) (eqb (length (listed bs)) s.ensemble && distinct (listed bs)) (fault.Client client.Ensemble) _ (λ _. refl)
    (λ _. client_cases c (Still c) (by_store (create_answer c.store l)) _ (λ f _. refl) (λ v. never))

-- a change that lost its ledger is answered too,
changed_still : (c : Cluster) (l : LedgerId) (w : Writer) (p : Position) (b : BookieId) (s : Store) (o : Option EntryId) → Still c (changed c l w p b s o)
changed_still c l w p b s None = never
changed_still c l w p b s (Some e) = never

-- and so is a close
closed_still : (c : Cluster) (l : LedgerId) (w : Writer) (s : Store) (o : Option Lac) → Still c (closed c l w s o)
closed_still c l w s None = never
closed_still c l w s (Some n) = never

-- each step
pub still : RefusalsAlterNothing
still c (Create l e w k bs) =
    ask_cases c (Still c) (eqb (existing c bs) (length (listed bs))) (fault.Missing (5 + existing c bs)) _ (λ _. refl)
    (λ _. ask_cases c (Still c) (not (exists c.store l.0)) fault.Taken _ (λ _. refl) (λ _. sized_still c l bs (made_sizes e w k)))
still c (Append l body) =
    ask_cases c (Still c) (is_made (writer_of c l.0).state) (fault.Missing 1) _ (λ _. refl)
    (λ _. client_cases c (Still c) (append_answer (writer_of c l.0)) _ (λ f _. refl) (λ e. never))
still c (Resend l) =
    ask_cases c (Still c) (is_made (writer_of c l.0).state) (fault.Missing 1) _ (λ _. refl)
    (λ _. client_cases c (Still c) (resend_answer (writer_of c l.0)) _ (λ f _. refl) (λ e. never))
still c (ChangeEnsemble l p b) =
    ask_cases c (Still c) (is_made (writer_of c l.0).state) (fault.Missing 1) _ (λ _. refl)
    (λ _. ask_cases c (Still c) (ltb b.0 (length c.bookies)) (fault.Missing 3) _ (λ _. refl)
    (λ _. client_cases c (Still c) (change_answer (writer_of c l.0) c.store l p b) _ (λ f _. refl)
    (changed_still c l (writer_of c l.0) p b (change_store (writer_of c l.0) c.store l p b))))
still c (Close l) =
    ask_cases c (Still c) (is_made (writer_of c l.0).state) (fault.Missing 1) _ (λ _. refl)
    (λ _. client_cases c (Still c) (close_answer (writer_of c l.0) c.store l) _ (λ f _. refl)
    (closed_still c l (writer_of c l.0) (close_store (writer_of c l.0) c.store l)))
still c (Recover r l) =
    ask_cases c (Still c) (is_recoverer r.0) (fault.Missing 1) _ (λ _. refl)
    (λ _. ask_cases c (Still c) (exists c.store l.0) (fault.Missing 2) _ (λ _. refl)
    (λ _. ask_cases c (Still c) (not (at_work (phase_of c r))) fault.Taken _ (λ _. refl)
    (λ _. client_cases c (Still c) (recover_answer c.store l) _ (λ f _. refl) (λ v. never))))
still c (AskAgain r) = ask_cases c (Still c) (at_work (phase_of c r)) (fault.Missing 1) _ (λ _. refl) (λ _. never)
still c (Finish r) =
    ask_cases c (Still c) (at_work (phase_of c r)) (fault.Missing 1) _ (λ _. refl)
    (λ _. client_cases c (Still c) (finish_answer (recoverer_of c r.0) c.store) _ (λ f _. refl) (λ n. never))
still c (Deliver m) =
    ask_cases c (Still c) (waits c m) (fault.Missing 1) _ (λ _. refl)
    (λ _. act_still c (with_queue c (without c.queue m.0)) (message_at c m))
still c (Duplicate m) = ask_cases c (Still c) (waits c m) (fault.Missing 1) _ (λ _. refl) (λ _. never)
still c (Discard m) = ask_cases c (Still c) (waits c m) (fault.Missing 1) _ (λ _. refl) (λ _. never)
still c (Stop b) = ask_cases c (Still c) (ltb b.0 (length c.bookies)) (fault.Missing 1) _ (λ _. refl) (λ _. never)
still c (Start b) = ask_cases c (Still c) (ltb b.0 (length c.bookies)) (fault.Missing 1) _ (λ _. refl) (λ _. never)
