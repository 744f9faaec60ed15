-- Recoveries go by their rounds.
use Rattle.std.proofs.Common.{◌≡◌, ℕ, ◌+◌, max, Bool, true, false, not, ◌&&◌, eqb, ltb, leb, ◌⊎◌, List, [], ◌∷◌, length, get_or, Some, None, Ok, Err, Option, sym, refl, ap, ◌∙◌, subst, inl, inr, arith}
use Rattle.std.specs.Option.{is_some}
use Rattle.std.specs.Result.{is_ok}
use Rattle.std.proofs.lemmas.Bool.{and_from, true≢false, false≢true, cond_both, eqb-true, ne_eqb, le-leb}
use Rattle.ledgers.specs.Limits.{max_ledgers, max_entries, max_recoverers, is_ledger, is_recoverer}
use Rattle.ledgers.specs.Ids.{ledger_id, bookie_id, recoverer_id}
use Rattle.ledgers.specs.Tables.{numbered, renumbered}
use Rattle.ledgers.specs.BookieLists.{listed}
use Rattle.ledgers.specs.declared.bodies.Body.{Body}
use Rattle.ledgers.specs.declared.bookie_lists.BookieList.{BookieList}
use Rattle.ledgers.specs.declared.ids.BookieId.{BookieId}
use Rattle.ledgers.specs.declared.ids.EntryId.{EntryId}
use Rattle.ledgers.specs.declared.ids.Lac.{Lac}
use Rattle.ledgers.specs.declared.ids.LedgerId.{LedgerId}
use Rattle.ledgers.specs.declared.ids.MessagePlace.{MessagePlace}
use Rattle.ledgers.specs.declared.ids.Position.{Position}
use Rattle.ledgers.specs.declared.ids.RecovererId.{RecovererId}
use Rattle.ledgers.specs.declared.steps.Step.{Step}
use Rattle.ledgers.specs.declared.steps.Step.TheVariants.{Create, Append, Resend, ChangeEnsemble, Close, Recover, AskAgain, Finish, Deliver, Duplicate, Discard, Stop, Start}
use Rattle.layout.specs.Sizes.{made_sizes}
use Rattle.layout.specs.WriteSets.{ensemble, marked, no_marks, blocking, covers, distinct}
use Rattle.layout.specs.Layouts.{last_fragment}
use Rattle.layout.specs.declared.sizes.Sizes.{Sizes}
use Rattle.layout.specs.declared.fragments.Layout.{Layout}
use Rattle.messages.specs.Waiting.{without}
use Rattle.messages.specs.declared.messages.Message.{Message}
use Rattle.messages.specs.declared.messages.Message.TheVariants.{Fence, RecoveryRead, Add, RecoveryAdd, Added, AddRefused, Fenced, Absent, Found, RecoveryAdded, Refused}
use Rattle.messages.specs.declared.metadata.LedgerState.TheVariants.{Closed}
use Rattle.messages.specs.declared.metadata.Metadata.{Metadata}
use Rattle.protocol.specs.Stores.{Store, kept, known, exists, create_answer}
use Rattle.protocol.specs.Writers.{is_made, append_answer, resend_answer, change_answer, change_store, close_answer, close_store}
use Rattle.protocol.specs.Recoverers.{at_work, is_ended, no_recoverer, by_store, recover_answer, recover_store, new_recoverer, in_phase, read_on, write_back, next, fence_marks, entry_marks, hits, heard_fenced, heard_absent, heard_written, at_hand, while_fencing, while_reading, while_writing, heard_in, heard, finish_answer}
use Rattle.protocol.specs.Clusters.{Cluster, empty, writer_of, recoverer_of, ledger_of, with_store, with_queue}
use Rattle.protocol.specs.Steps.{Outcome, refuse, create_sized, existing, create, append, resend, changed, change_ensemble, closed, close, begun, recover, ask_again, finish, to_recoverer, act, waits, message_at, deliver, duplicate, discard, turn, step}
use Rattle.protocol.specs.Histories.{Event, History, event, Runs, stay, more, Started, Answered}
use Rattle.protocol.specs.Law.{IsClosed, past_fences, RoundsLaw}
use Rattle.protocol.specs.declared.answers.Answer.TheVariants as answer
use Rattle.protocol.specs.declared.faults.ClientFault.TheVariants as client
use Rattle.protocol.specs.declared.faults.StepFault.{StepFault}
use Rattle.protocol.specs.declared.faults.StepFault.TheVariants as fault
use Rattle.protocol.specs.declared.recoverers.Phase.{Phase}
use Rattle.protocol.specs.declared.recoverers.Phase.TheVariants.{Idle, Fencing, Reading, Writing, Ended}
use Rattle.protocol.specs.declared.recoverers.Recoverer.{Recoverer}
use Rattle.protocol.proofs.Lists.{HasRow, at_number, has_row, at_number_blank, all_blank, mark_is, none_marked}
use Rattle.protocol.proofs.Questions.{ask_cases, client_cases}
use Rattle.protocol.proofs.World.{Note, notes, World, world, StateOk, WorkOk, InvAt}
use Rattle.protocol.proofs.RecovererSteps.{ended_is}
use Rattle.protocol.proofs.Runs.{run_later, reached_inv}
use Rattle.protocol.proofs.Words.{under_other}

-- fence rounds -------------------------------------------------------------------------------------------------------
-- the bookie at position p of the last fragment answered
abbrev PositionAnswered : History → RecovererId → LedgerId → Layout → ℕ → Type 0
PositionAnswered h r l y p = Answered h r l (bookie_id (get_or (last_fragment y).bookies p 0))

-- positions that cover the ensemble did
abbrev CoverAnswered : History → RecovererId → LedgerId → Layout → Type 0
CoverAnswered h r l y = (t : ℕ → Bool) × (covers y.sizes t ≡ true) × ((p : ℕ) → t p ≡ true → PositionAnswered h r l y p)

-- marked positions answered, and past the fence round positions that cover the ensemble did
abbrev RoundIn : History → RecovererId → LedgerId → Layout → Phase → Type 0
RoundIn h r l y Idle = Unit {0}
RoundIn h r l y (Fencing m) = (p : ℕ) → marked m p ≡ true → PositionAnswered h r l y p
RoundIn h r l y (Reading m) = CoverAnswered h r l y
RoundIn h r l y (Writing m n body) = CoverAnswered h r l y
RoundIn h r l y Ended = CoverAnswered h r l y

-- the same of a recoverer, in its phase
abbrev RoundOk : History → RecovererId → Recoverer → Type 0
RoundOk h r R = RoundIn h r R.ledger R.layout R.phase

-- it lasts until the recoverer is started anew
round_later : (h : History) (v : Event) (r : RecovererId) (l : LedgerId) (y : Layout) (ph : Phase) → (Started r v → ⊥) → RoundIn h r l y ph → RoundIn (v ∷ h) r l y ph
round_later h v r l y Idle not_new k = tt
round_later h v r l y (Fencing m) not_new k = λ p z. inr (not_new, k p z)
round_later h v r l y (Reading m) not_new k = (k.0, k.1, λ p z. inr (not_new, k.2 p z))
round_later h v r l y (Writing m n body) not_new k = (k.0, k.1, λ p z. inr (not_new, k.2 p z))
round_later h v r l y Ended not_new k = (k.0, k.1, λ p z. inr (not_new, k.2 p z))

-- a reply ------------------------------------------------------------------------------------------------------------
module _ (h : History) (r : RecovererId) (R : Recoverer) where
  -- whatever it reads next, the round is behind it
  past : (n : ℕ) → CoverAnswered h r R.ledger R.layout → RoundIn h r R.ledger R.layout (read_on n)
  past n k = cond_both (leb max_entries n) Ended (Reading no_marks) (RoundIn h r R.ledger R.layout) (λ _. k) (λ _. k)

  -- while fencing, a fence answer may end the round
  fencing_round : (m : List Bool) (a : Message) → R.phase ≡ Fencing m → ((l : LedgerId) (b : BookieId) (n : Lac) (q : RecovererId) → a ≡ Fenced q l b n → Answered h r l b)
      → RoundOk h r R → RoundOk h r (while_fencing R m a)
  fencing_round m (Fence q l b) ph f k = k
  fencing_round m (RecoveryRead q l b e) ph f k = k
  fencing_round m (Add l b e n body) ph f k = k
  fencing_round m (RecoveryAdd q l b e n body) ph f k = k
  fencing_round m (Added l b e) ph f k = k
  fencing_round m (AddRefused l b e g) ph f k = k
  fencing_round m (Fenced q l b n) ph f k =
      cond_both (eqb l.0 R.ledger.0) (heard_fenced R m b n) R (RoundOk h r)
      (λ same. cond_both (covers R.layout.sizes (marked marks)) (read_on (max R.settled.0 n.0)) (Fencing marks) (RoundIn h r R.ledger R.layout)
      (λ cov. past (max R.settled.0 n.0) (marked marks, cov, all same)) (λ _. all same))
      (λ _. k)
    where
      marks : List Bool
      marks = fence_marks R m b.0

      all : eqb l.0 R.ledger.0 ≡ true → (p : ℕ) → marked marks p ≡ true → PositionAnswered h r R.ledger R.layout p
      all same =
          mark_is (λ v. Answered h r R.ledger (bookie_id v)) (last_fragment R.layout).bookies (ensemble R.layout.sizes) b.0 m
          (subst (RoundIn h r R.ledger R.layout) ph k)
          (subst (λ (v : ℕ). Answered h r (ledger_id v) b) (eqb-true l.0 R.ledger.0 same) (f l b n q refl))
  fencing_round m (Absent q l b e) ph f k = k
  fencing_round m (Found q l b e n body) ph f k = k
  fencing_round m (RecoveryAdded q l b e) ph f k = k
  fencing_round m (Refused q l b g) ph f k = k

  -- while reading, the round is behind it
  reading_round : (m : List Bool) (a : Message) → R.phase ≡ Reading m → RoundOk h r R → RoundOk h r (while_reading R m a)
  reading_round m (Fence q l b) ph k = k
  reading_round m (RecoveryRead q l b e) ph k = k
  reading_round m (Add l b e n body) ph k = k
  reading_round m (RecoveryAdd q l b e n body) ph k = k
  reading_round m (Added l b e) ph k = k
  reading_round m (AddRefused l b e g) ph k = k
  reading_round m (Fenced q l b n) ph k = k
  reading_round m (Absent q l b e) ph k =
      cond_both (at_hand R l.0 e.0) (heard_absent R m b) R (RoundOk h r)
      (λ _. cond_both (leb (blocking R.layout.sizes) (hits R (entry_marks R m b.0))) Ended (Reading (entry_marks R m b.0)) (RoundIn h r R.ledger R.layout)
      (λ _. subst (RoundIn h r R.ledger R.layout) ph k) (λ _. subst (RoundIn h r R.ledger R.layout) ph k))
      (λ _. k)
  reading_round m (Found q l b e n body) ph k =
      cond_both (at_hand R l.0 e.0) (write_back R n body) R (RoundOk h r) (λ _. subst (RoundIn h r R.ledger R.layout) ph k) (λ _. k)
  reading_round m (RecoveryAdded q l b e) ph k = k
  reading_round m (Refused q l b g) ph k = k

  -- and while writing back
  writing_round : (m : List Bool) (n : Lac) (body : Body) (a : Message) → R.phase ≡ Writing m n body → RoundOk h r R → RoundOk h r (while_writing R m n body a)
  writing_round m n body (Fence q l b) ph k = k
  writing_round m n body (RecoveryRead q l b e) ph k = k
  writing_round m n body (Add l b e n' body') ph k = k
  writing_round m n body (RecoveryAdd q l b e n' body') ph k = k
  writing_round m n body (Added l b e) ph k = k
  writing_round m n body (AddRefused l b e g) ph k = k
  writing_round m n body (Fenced q l b n') ph k = k
  writing_round m n body (Absent q l b e) ph k = k
  writing_round m n body (Found q l b e n' body') ph k = k
  writing_round m n body (RecoveryAdded q l b e) ph k =
      cond_both (at_hand R l.0 e.0) (heard_written R m n body b) R (RoundOk h r)
      (λ _. cond_both (leb R.layout.sizes.ack (hits R (entry_marks R m b.0))) (in_phase R (next R.settled.0) (read_on (next R.settled.0)))
      (in_phase R R.settled.0 (Writing (entry_marks R m b.0) n body)) (RoundOk h r)
      (λ _. past (next R.settled.0) (subst (RoundIn h r R.ledger R.layout) ph k)) (λ _. subst (RoundIn h r R.ledger R.layout) ph k))
      (λ _. k)
  writing_round m n body (Refused q l b g) ph k = k

  heard_round : (a : Message) → ((l : LedgerId) (b : BookieId) (n : Lac) (q : RecovererId) → a ≡ Fenced q l b n → Answered h r l b) → RoundOk h r R → RoundOk h r (heard R a)
  heard_round a f k = by R.phase refl
    where
      by : (ph : Phase) → R.phase ≡ ph → RoundOk h r (heard_in ph R a)
      by Idle q = k
      by (Fencing m) q = fencing_round m a q f k
      by (Reading m) q = reading_round m a q k
      by (Writing m n body) q = writing_round m n body a q k
      by Ended q = k

-- steps --------------------------------------------------------------------------------------------------------------
-- the steps that leave the recoverers alone
abbrev Quiet : Cluster → Outcome → Type 0
Quiet c o = o.next.recoverers ≡ c.recoverers

-- a create with its sizes, or without
sized_quiet : (c : Cluster) (l : LedgerId) (bs : BookieList) (s : Option Sizes) → Quiet c (create_sized c l bs s)
sized_quiet c l bs None = refl
sized_quiet c l bs (Some s) =
    ask_cases c (Quiet c) (eqb (length (listed bs)) s.ensemble && distinct (listed bs)) (fault.Client client.Ensemble) _ refl
    (λ _. client_cases c (Quiet c) (by_store (create_answer c.store l)) _ (λ f. refl) (λ v. refl))

-- a create leaves them alone
create_quiet : (c : Cluster) (l : LedgerId) (e w k : ℕ) (bs : BookieList) → Quiet c (create c l e w k bs)
create_quiet c l e w k bs =
    ask_cases c (Quiet c) (eqb (existing c bs) (length (listed bs))) (fault.Missing (5 + existing c bs)) _ refl
    (λ _. ask_cases c (Quiet c) (not (exists c.store l.0)) fault.Taken _ refl (λ _. sized_quiet c l bs (made_sizes e w k)))

-- an append leaves them alone
append_quiet : (c : Cluster) (l : LedgerId) (body : Body) → Quiet c (append c l body)
append_quiet c l body =
    ask_cases c (Quiet c) (is_made (writer_of c l.0).state) (fault.Missing 1) _ refl
    (λ _. client_cases c (Quiet c) (append_answer (writer_of c l.0)) _ (λ f. refl) (λ e. refl))

-- a resend leaves them alone
resend_quiet : (c : Cluster) (l : LedgerId) → Quiet c (resend c l)
resend_quiet c l =
    ask_cases c (Quiet c) (is_made (writer_of c l.0).state) (fault.Missing 1) _ refl
    (λ _. client_cases c (Quiet c) (resend_answer (writer_of c l.0)) _ (λ f. refl) (λ e. refl))

-- whether the ledger is lost or not
changed_quiet : (c : Cluster) (l : LedgerId) (p : Position) (b : BookieId) (s : Store) (o : Option EntryId) → Quiet c (changed c l (writer_of c l.0) p b s o)
changed_quiet c l p b s None = refl
changed_quiet c l p b s (Some e) = refl

-- an ensemble change leaves them alone
change_quiet : (c : Cluster) (l : LedgerId) (p : Position) (b : BookieId) → Quiet c (change_ensemble c l p b)
change_quiet c l p b =
    ask_cases c (Quiet c) (is_made (writer_of c l.0).state) (fault.Missing 1) _ refl
    (λ _. ask_cases c (Quiet c) (ltb b.0 (length c.bookies)) (fault.Missing 3) _ refl
    (λ _. client_cases c (Quiet c) (change_answer (writer_of c l.0) c.store l p b) _ (λ f. refl)
    (changed_quiet c l p b (change_store (writer_of c l.0) c.store l p b))))

-- whether the ledger is lost or not
closed_quiet : (c : Cluster) (l : LedgerId) (s : Store) (o : Option Lac) → Quiet c (closed c l (writer_of c l.0) s o)
closed_quiet c l s None = refl
closed_quiet c l s (Some n) = refl

-- a close leaves them alone
close_quiet : (c : Cluster) (l : LedgerId) → Quiet c (close c l)
close_quiet c l =
    ask_cases c (Quiet c) (is_made (writer_of c l.0).state) (fault.Missing 1) _ refl
    (λ _. client_cases c (Quiet c) (close_answer (writer_of c l.0) c.store l) _ (λ f. refl) (closed_quiet c l (close_store (writer_of c l.0) c.store l)))

-- only one step starts a recoverer
abbrev starts : Step → Bool
starts (Create l e w k bs) = false
starts (Append l body) = false
starts (Resend l) = false
starts (ChangeEnsemble l p b) = false
starts (Close l) = false
starts (Recover r l) = true
starts (AskAgain r) = false
starts (Finish r) = false
starts (Deliver m) = false
starts (Duplicate m) = false
starts (Discard m) = false
starts (Stop b) = false
starts (Start b) = false

-- only one message is a fence answer
abbrev is_fence_answer : Message → Bool
is_fence_answer (Fence r l b) = false
is_fence_answer (RecoveryRead r l b e) = false
is_fence_answer (Add l b e n body) = false
is_fence_answer (RecoveryAdd r l b e n body) = false
is_fence_answer (Added l b e) = false
is_fence_answer (AddRefused l b e f) = false
is_fence_answer (Fenced r l b n) = true
is_fence_answer (Absent r l b e) = false
is_fence_answer (Found r l b e n body) = false
is_fence_answer (RecoveryAdded r l b e) = false
is_fence_answer (Refused r l b f) = false

module _ (h : History) (c : Cluster) (r : RecovererId) (k : RoundOk h r (recoverer_of c r.0)) where
  -- so the others do not
  not_started : (s : Step) → starts s ≡ false → Started r (event c s) → ⊥
  not_started s q (l, did, _) = true≢false (sym (ap starts did) ∙ q)

  -- with its event noted
  kept_round : (s : Step) → (Started r (event c s) → ⊥) → RoundOk (event c s ∷ h) r (recoverer_of c r.0)
  kept_round s q = round_later h (event c s) r (recoverer_of c r.0).ledger (recoverer_of c r.0).layout (recoverer_of c r.0).phase q k

  -- a step that leaves the recoverers alone
  quiet_round : (s : Step) (o : Outcome) → starts s ≡ false → Quiet c o → RoundOk (event c s ∷ h) r (recoverer_of o.next r.0)
  quiet_round s o q same = subst (λ (xs : List Recoverer). RoundOk (event c s ∷ h) r (numbered xs r.0 no_recoverer)) (sym same) (kept_round s (not_started s q))

  -- a refused start is none
  refused_round : (q : RecovererId) (l : LedgerId) (f : StepFault) → (recover c q l).answer ≡ Err f → RoundOk (event c (Recover q l) ∷ h) r (recoverer_of c r.0)
  refused_round q l f said = kept_round (Recover q l) (λ (l', did, accepted). false≢true (sym (ap is_ok said) ∙ accepted))

  -- a recoverer that is started has no marks yet
  recover_round : (q : RecovererId) (l : LedgerId) → RoundOk (event c (Recover q l) ∷ h) r (recoverer_of (recover c q l).next r.0)
  recover_round q l =
      all (λ o. o ≡ recover c q l → RoundOk (event c (Recover q l) ∷ h) r (recoverer_of o.next r.0))
      (λ f is. refused_round q l f (ap (λ (o : Outcome). o.answer) (sym is)))
      (λ c' x same ph _. subst (λ (xs : List Recoverer). RoundOk (event c (Recover q l) ∷ h) r (numbered (renumbered xs q.0 x) r.0 no_recoverer)) (sym same)
      (at_number_blank (RoundOk (event c (Recover q l) ∷ h) r) c.recoverers q.0 r.0 x no_recoverer tt
      (λ _. subst (RoundIn (event c (Recover q l) ∷ h) r x.ledger x.layout) (sym ph) (λ p z. absurd (none_marked p z)))
      (λ ne. kept_round (Recover q l) (λ (l', did, _). let is : q ≡ r = cc in ne (ap (λ (v : RecovererId). v.0) (sym is))))))
      refl
    where
      all : (P : Outcome → Type 0) → ((f : StepFault) → P (refuse c f))
          → ((c' : Cluster) (x : Recoverer) → c'.recoverers ≡ c.recoverers → x.phase ≡ Fencing no_marks → P (begun c' q x)) → P (recover c q l)
      all P bad good =
          ask_cases c P (is_recoverer q.0) (fault.Missing 1) _ (bad (fault.Missing 1))
          (λ _. ask_cases c P (exists c.store l.0) (fault.Missing 2) _ (bad (fault.Missing 2))
          (λ _. ask_cases c P (not (at_work (recoverer_of c q.0).phase)) fault.Taken _ (bad fault.Taken)
          (λ _. client_cases c P (recover_answer c.store l) _ bad
          (λ v. good (with_store c (recover_store c.store l)) (new_recoverer l v (ledger_of c l.0).layout) refl refl))))

  -- a finish makes it idle
  finish_round : (q : RecovererId) → RoundOk (event c (Finish q) ∷ h) r (recoverer_of (finish c q).next r.0)
  finish_round q =
      ask_cases c P (at_work (recoverer_of c q.0).phase) (fault.Missing 1) _ still
      (λ _. client_cases c P (finish_answer (recoverer_of c q.0) c.store) _ (λ f. still)
      (λ n. at_number (RoundOk (event c (Finish q) ∷ h) r) c.recoverers q.0 r.0 no_recoverer no_recoverer (λ _. tt) still))
    where
      P : Outcome → Type 0
      P o = RoundOk (event c (Finish q) ∷ h) r (recoverer_of o.next r.0)

      still : RoundOk (event c (Finish q) ∷ h) r (recoverer_of c r.0)
      still = kept_round (Finish q) (not_started (Finish q) refl)

  -- a delivery may be heard by it
  deliver_round : (p : MessagePlace) → RoundOk (event c (Deliver p) ∷ h) r (recoverer_of (deliver c p).next r.0)
  deliver_round p =
      ask_cases c (λ o. RoundOk k' r (recoverer_of o.next r.0)) (waits c p) (fault.Missing 1) _ still (λ _. arrived (message_at c p) refl)
    where
      k' : History
      k' = event c (Deliver p) ∷ h

      still : RoundOk k' r (recoverer_of c r.0)
      still = kept_round (Deliver p) (not_started (Deliver p) refl)

      c' : Cluster
      c' = with_queue c (without c.queue p.0)

      replied_to : (q : RecovererId) (m : Message) → ((l : LedgerId) (b : BookieId) (n : Lac) (q' : RecovererId) → m ≡ Fenced q' l b n → Answered k' q l b)
          → RoundOk k' r (recoverer_of (to_recoverer c' q m).next r.0)
      replied_to q m f =
          at_number (RoundOk k' r) c.recoverers q.0 r.0 (heard (recoverer_of c q.0) m) no_recoverer
          (λ same. subst (λ (v : ℕ). RoundOk k' r (heard (recoverer_of c v) m)) same
          (heard_round k' r (recoverer_of c r.0) m (λ l b n q' is. subst (λ (v : ℕ). Answered k' (recoverer_id v) l b) (sym same) (f l b n q' is)) still))
          still

      -- only a fence answer is one
      other : (q : RecovererId) (m : Message) → is_fence_answer m ≡ false → RoundOk k' r (recoverer_of (to_recoverer c' q m).next r.0)
      other q m no-fence = replied_to q m (λ l b n q' is. absurd (true≢false (sym (ap is_fence_answer is) ∙ no-fence)))

      arrived : (m : Message) → message_at c p ≡ m → RoundOk k' r (recoverer_of (act c' m).next r.0)
      arrived (Fence q l b) is = still
      arrived (RecoveryRead q l b e) is = still
      arrived (Add l b e n body) is = still
      arrived (RecoveryAdd q l b e n body) is = still
      arrived (Added l b e) is = still
      arrived (AddRefused l b e f) is = still
      arrived (Fenced q l b n) is =
          replied_to q (Fenced q l b n) (λ l' b' n' q' same. inl (n, (p, refl, is ∙ (let a : l ≡ l' = cc in let d : b ≡ b' = cc in cc))))
      arrived (Absent q l b e) is = other q (Absent q l b e) refl
      arrived (Found q l b e n body) is = other q (Found q l b e n body) refl
      arrived (RecoveryAdded q l b e) is = other q (RecoveryAdded q l b e) refl
      arrived (Refused q l b f) is = other q (Refused q l b f) refl

  step_round : (s : Step) → RoundOk (event c s ∷ h) r (recoverer_of (step c s).next r.0)
  step_round (Create l e w n bs) = quiet_round (Create l e w n bs) (create c l e w n bs) refl (create_quiet c l e w n bs)
  step_round (Append l body) = quiet_round (Append l body) (append c l body) refl (append_quiet c l body)
  step_round (Resend l) = quiet_round (Resend l) (resend c l) refl (resend_quiet c l)
  step_round (ChangeEnsemble l p b) = quiet_round (ChangeEnsemble l p b) (change_ensemble c l p b) refl (change_quiet c l p b)
  step_round (Close l) = quiet_round (Close l) (close c l) refl (close_quiet c l)
  step_round (Recover q l) = recover_round q l
  step_round (AskAgain q) =
      quiet_round (AskAgain q) (ask_again c q) refl (ask_cases c (Quiet c) (at_work (recoverer_of c q.0).phase) (fault.Missing 1) _ refl (λ _. refl))
  step_round (Finish q) = finish_round q
  step_round (Deliver p) = deliver_round p
  step_round (Duplicate p) = quiet_round (Duplicate p) (duplicate c p) refl (ask_cases c (Quiet c) (waits c p) (fault.Missing 1) _ refl (λ _. refl))
  step_round (Discard p) = quiet_round (Discard p) (discard c p) refl (ask_cases c (Quiet c) (waits c p) (fault.Missing 1) _ refl (λ _. refl))
  step_round (Stop b) = quiet_round (Stop b) (turn c b false) refl (ask_cases c (Quiet c) (ltb b.0 (length c.bookies)) (fault.Missing 1) _ refl (λ _. refl))
  step_round (Start b) = quiet_round (Start b) (turn c b true) refl (ask_cases c (Quiet c) (ltb b.0 (length c.bookies)) (fault.Missing 1) _ refl (λ _. refl))

-- so every run keeps to it
run_round : (spaces : List ℕ) (changes room : ℕ) {h : History} {c : Cluster} → Runs [] (empty spaces changes room) h c → (r : RecovererId) → RoundOk h r (recoverer_of c r.0)
run_round spaces changes room stay r = all_blank (RoundOk [] r) max_recoverers r.0 no_recoverer tt
run_round spaces changes room (more {h = h} {c = c} s g) r = step_round h c r (run_round spaces changes room g r) s

-- past the fence round it is covered
past_covered : (h : History) (r : RecovererId) (l : LedgerId) (y : Layout) (ph : Phase) → past_fences ph ≡ true → RoundIn h r l y ph → (at_work ph ≡ true) × CoverAnswered h r l y
past_covered h r l y Idle q k = absurd (false≢true q)
past_covered h r l y (Fencing m) q k = absurd (false≢true q)
past_covered h r l y (Reading m) q k = (refl, k)
past_covered h r l y (Writing m n body) q k = (refl, k)
past_covered h r l y Ended q k = (refl, k)

-- the race -----------------------------------------------------------------------------------------------------------
-- a closed ledger is there
closed_there : (o : Option Metadata) → (known o).state ≡ Closed → is_some o ≡ true
closed_there None h = absurd (cc)
closed_there (Some m) h = refl

-- and what is there is in range
row_ledger : {A : Type 0} (xs : List A) (l : ℕ) → length xs ≡ max_ledgers → HasRow xs l → is_ledger l ≡ true
row_ledger xs l n h = and_from (leb 1 l) (leb l max_ledgers) (le-leb 1 l h.0) (le-leb l max_ledgers (let k = h.1 in omega arith))

-- so a finish that comes late answers the closing entry
late_finish : {x₀ : World} (ns : List Note) (c : Cluster) (r : RecovererId) → InvAt x₀ ns c → is_ended (recoverer_of c r.0).phase ≡ true
    → ((ledger_of c (recoverer_of c r.0).ledger.0).version.0 ≡ (recoverer_of c r.0).version.0 → ⊥)
    → IsClosed c (recoverer_of c r.0).ledger × ((finish c r).answer ≡ Ok (answer.ClosingEntry (ledger_of c (recoverer_of c r.0).ledger.0).closing))
late_finish ns c r i ended ne = (closed_now, rw (work, ended, in_range_now, there, other))
  where
    R : Recoverer
    R = recoverer_of c r.0

    work : at_work (recoverer_of c r.0).phase ≡ true
    work = ap at_work (ended_is (recoverer_of c r.0).phase ended)

    closed_now : (ledger_of c (recoverer_of c r.0).ledger.0).state ≡ Closed
    closed_now = under_other (ledger_of c R.ledger.0) R.version.0 (i.recoverers r.0 work).under ne

    there : exists c.store (recoverer_of c r.0).ledger.0 ≡ true
    there = closed_there (kept c.store R.ledger.0) closed_now

    in_range_now : is_ledger (recoverer_of c r.0).ledger.0 ≡ true
    in_range_now = row_ledger c.store.ledgers R.ledger.0 i.ledgers (has_row is_some c.store.ledgers R.ledger.0 None refl there)

    other : eqb (ledger_of c (recoverer_of c r.0).ledger.0).version.0 (recoverer_of c r.0).version.0 ≡ false
    other = ne_eqb (ledger_of c R.ledger.0).version.0 R.version.0 ne

-- the law of rounds --------------------------------------------------------------------------------------------------
-- recoveries go by their rounds
pub rounds : RoundsLaw
rounds h c g =
    record {
      fenced = λ r q.
          let p = past_covered h r (recoverer_of c r.0).ledger (recoverer_of c r.0).layout (recoverer_of c r.0).phase q (run_round g.0 g.1 g.2 g.3 r) in
          (p.0, refl, p.1.0, p.1.1, p.1.2);
      read = λ r q. read r (i.recoverers r.0 q);
      ends = λ h₁ c₁ l g₁ on z.
          let t = run_later on (reached_inv g₁) in
          elim ((t.frozen l.0 (inl z)).2 (ledger_of c₁ l.0).version.0 (inl (z, refl))) [ inl k ↦ inr (k.0, sym k.1) | inr k ↦ inl k.0 ];
      stays = λ h₁ c₁ l g₁ on z. (run_later on (reached_inv g₁)).closed l.0 z;
      late = λ r. late_finish (notes h) c r i;
    }
  where
    i : InvAt (world [] (empty g.0 g.1 g.2)) (notes h) c
    i = reached_inv g

    read : (r : RecovererId) → WorkOk (world (notes h) c) (recoverer_of c r.0)
        → IsClosed c (recoverer_of c r.0).ledger ⊎ ((recoverer_of c r.0).layout ≡ (ledger_of c (recoverer_of c r.0).ledger.0).layout)
    read r w =
        elim w.under [
          | inl z ↦ inr (w.same ∙ sym (subst (StateOk (world (notes h) c) (recoverer_of c r.0).ledger.0 (writer_of c (recoverer_of c r.0).ledger.0) (ledger_of c (recoverer_of c r.0).ledger.0)) z.0
              (i.metadata (recoverer_of c r.0).ledger.0).state).2)
          | inr z ↦ inl z.0
        ]
