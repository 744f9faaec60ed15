-- Every step, and so every run from a cluster set up empty, keeps the invariant.
use Rattle.std.proofs.Common.{◌≡◌, ℕ, zero, suc, List, [], ◌∷◌, map, length, get_or, None, Ok, Err, refl, arith}
use Rattle.std.specs.List.{AllByRecursion}
use Rattle.std.proofs.lemmas.Bool.{false≢true}
use Rattle.ledgers.specs.Limits.{max_ledgers, max_recoverers}
use Rattle.ledgers.specs.declared.ids.MessagePlace.{MessagePlace}
use Rattle.ledgers.specs.declared.steps.Step.{Step}
use Rattle.ledgers.specs.declared.steps.Step.TheVariants.{Create, Append, Resend, ChangeEnsemble, Close, Recover, AskAgain, Finish, Deliver, Duplicate, Discard, Stop, Start}
use Rattle.messages.specs.Waiting.{taken_off, without}
use Rattle.messages.specs.declared.messages.Message.{Message}
use Rattle.messages.specs.declared.messages.Message.TheVariants.{Fence, RecoveryRead, Add, RecoveryAdd, Added, AddRefused, Fenced, Absent, Found, RecoveryAdded, Refused}
use Rattle.protocol.specs.Bookies.{Bookie, new_bookie, no_bookie}
use Rattle.protocol.specs.Stores.{known}
use Rattle.protocol.specs.Writers.{no_writer}
use Rattle.protocol.specs.Recoverers.{no_recoverer}
use Rattle.protocol.specs.Clusters.{Cluster, empty, ledger_of, with_queue}
use Rattle.protocol.specs.Steps.{act, waits, message_at, deliver, step}
use Rattle.protocol.specs.Histories.{History, Runs, stay, more, Reached}
use Rattle.protocol.specs.declared.faults.StepFault.{StepFault}
use Rattle.protocol.specs.declared.faults.StepFault.TheVariants as fault
use Rattle.protocol.specs.declared.recoverers.Recoverer.{Recoverer}
use Rattle.protocol.proofs.Lists.{all_blank, all_taken_off}
use Rattle.protocol.proofs.Questions.{ask_cases}
use Rattle.protocol.proofs.World.{Note, delivery_note, note_of, notes, acked_by, World, world, CopyOk, MessageOk, WriterOk, LedgerOk, RecovererOk, Later, Inv, InvAt, Keeps}
use Rattle.protocol.proofs.Lasting.{later_refl}
use Rattle.protocol.proofs.Apart.{no_layout_ok}
use Rattle.protocol.proofs.Changes.{with_messages}
use Rattle.protocol.proofs.PlainSteps.{discard_keeps, waiting_ok, duplicate_keeps, stop_keeps, start_keeps}
use Rattle.protocol.proofs.Requests.{fence_keeps, read_keeps, recovery_add_keeps, add_keeps}
use Rattle.protocol.proofs.Replies.{to_writer_keeps, to_recoverer_keeps}
use Rattle.protocol.proofs.WriterSteps.{create_keeps, append_keeps, resend_keeps, close_keeps, change_keeps}
use Rattle.protocol.proofs.RecovererSteps.{ask_again_keeps, recover_keeps, finish_keeps}

-- what a waiting message does where it arrives
act_keeps : {x₀ : World} (ns : List Note) (c : Cluster) (m : Message) → InvAt x₀ ns c → MessageOk (world ns c) m
    → InvAt x₀ (delivery_note m (act c m).answer ∷ ns) (act c m).next
act_keeps ns c (Fence r l b) i g = fence_keeps ns c r l b i
act_keeps ns c (RecoveryRead r l b e) i g = read_keeps ns c r l b e i
act_keeps ns c (Add l b e n body) i g = add_keeps ns c l b e n body i g
act_keeps ns c (RecoveryAdd r l b e n body) i g = recovery_add_keeps ns c r l b e n body i g
act_keeps ns c (Added l b e) i g = to_writer_keeps ns c l b e (Ok tt) i (λ _ _. g)
act_keeps ns c (AddRefused l b e f) i g = to_writer_keeps ns c l b e (Err f) i (λ u z. absurd (cc))
act_keeps ns c (Fenced r l b n) i g = to_recoverer_keeps ns c r (Fenced r l b n) i g
act_keeps ns c (Absent r l b e) i g = to_recoverer_keeps ns c r (Absent r l b e) i g
act_keeps ns c (Found r l b e n body) i g = to_recoverer_keeps ns c r (Found r l b e n body) i g
act_keeps ns c (RecoveryAdded r l b e) i g = to_recoverer_keeps ns c r (RecoveryAdded r l b e) i g
act_keeps ns c (Refused r l b f) i g = to_recoverer_keeps ns c r (Refused r l b f) i g

-- a refused delivery leaves no note
refused_note : {x₀ : World} (ns : List Note) (c : Cluster) (m : Message) (f : StepFault) → InvAt x₀ ns c → InvAt x₀ (delivery_note m (Err f) ∷ ns) c
refused_note ns c (Fence r l b) f i = i
refused_note ns c (RecoveryRead r l b e) f i = i
refused_note ns c (Add l b e n body) f i = i
refused_note ns c (RecoveryAdd r l b e n body) f i = i
refused_note ns c (Added l b e) f i = i
refused_note ns c (AddRefused l b e g) f i = i
refused_note ns c (Fenced r l b n) f i = i
refused_note ns c (Absent r l b e) f i = i
refused_note ns c (Found r l b e n body) f i = i
refused_note ns c (RecoveryAdded r l b e) f i = i
refused_note ns c (Refused r l b g) f i = i

-- a message is delivered
deliver_keeps : {x₀ : World} (ns : List Note) (c : Cluster) (m : MessagePlace) → InvAt x₀ ns c → Keeps x₀ ns c (Deliver m) (deliver c m)
deliver_keeps {x₀} ns c m i =
    ask_cases c (Keeps x₀ ns c (Deliver m)) (waits c m) (fault.Missing 1) _ (refused_note ns c (message_at c m) (fault.Missing 1) i)
    (λ q. act_keeps ns (with_queue c (without c.queue m.0)) (message_at c m)
    (with_messages (taken_off c.queue.waiting m.0) i (all_taken_off (MessageOk (world ns c)) c.queue.waiting m.0 i.messages))
    (waiting_ok ns c m i q))

-- each step
pub step_keeps : {x₀ : World} (ns : List Note) (c : Cluster) (s : Step) → InvAt x₀ ns c → Keeps x₀ ns c s (step c s)
step_keeps ns c (Create l e w k bs) i = create_keeps ns c l e w k bs i
step_keeps ns c (Append l body) i = append_keeps ns c l body i
step_keeps ns c (Resend l) i = resend_keeps ns c l i
step_keeps ns c (ChangeEnsemble l p b) i = change_keeps ns c l p b i
step_keeps ns c (Close l) i = close_keeps ns c l i
step_keeps ns c (Recover r l) i = recover_keeps ns c r l i
step_keeps ns c (AskAgain r) i = ask_again_keeps ns c r i
step_keeps ns c (Finish r) i = finish_keeps ns c r i
step_keeps ns c (Deliver m) i = deliver_keeps ns c m i
step_keeps ns c (Duplicate m) i = duplicate_keeps ns c m i
step_keeps ns c (Discard m) i = discard_keeps ns c m i
step_keeps ns c (Stop b) i = stop_keeps ns c b i
step_keeps ns c (Start b) i = start_keeps ns c b i

-- the empty cluster --------------------------------------------------------------------------------------------------
-- each bookie of an empty cluster is new
of_new : (P : Bookie → Type 0) (spaces : List ℕ) (b : ℕ) → ((n : ℕ) → P (new_bookie n)) → P no_bookie → P (get_or (map new_bookie spaces) b no_bookie)
of_new P [] b new none = none
of_new P (s ∷ ss) zero new none = new s
of_new P (s ∷ ss) (suc b) new none = of_new P ss b new none

-- an empty cluster
pub empty_inv : (spaces : List ℕ) (changes room : ℕ) → InvAt (world [] (empty spaces changes room)) [] (empty spaces changes room)
empty_inv spaces changes room =
    record {
      since = later_refl (world [] c);
      acked = λ l e b h. absurd (false≢true h);
      copies = λ b. of_new (λ B. AllByRecursion (CopyOk (world [] c)) B.entries) spaces b (λ _. tt) tt;
      messages = tt;
      writing = λ l. all_blank (WriterOk [] (acked_by [] l)) max_ledgers l no_writer
          (record {
            upto = omega arith;
            small = omega arith;
            firm = λ e k. let z : ⊥ = omega arith in absurd z;
            pending = λ _ _. refl;
            first = omega arith;
            blank = λ _. refl;
            layout = no_layout_ok;
          });
      metadata = λ l. all_blank (λ w. LedgerOk (world [] c) l w (ledger_of c l)) max_ledgers l no_writer
          (all_blank (λ o. LedgerOk (world [] c) l no_writer (known o)) max_ledgers l None
          (record { free = λ _. (refl, refl); state = (refl, refl, refl); layout = no_layout_ok }));
      recoverers = λ r. all_blank (RecovererOk (world [] c)) max_recoverers r no_recoverer (λ h. absurd (false≢true h));
      flags = λ b. of_new (λ B. length B.fences ≡ max_ledgers) spaces b (λ _. refl) refl;
      writers = refl;
      ledgers = refl;
    }
  where
    c : Cluster
    c = empty spaces changes room

-- runs ---------------------------------------------------------------------------------------------------------------
-- step by step
pub run_keeps : {x₀ : World} {h₁ : History} {c₁ : Cluster} {h : History} {c : Cluster} → Runs h₁ c₁ h c → InvAt x₀ (notes h₁) c₁ → InvAt x₀ (notes h) c
run_keeps stay i = i
run_keeps (more {h = h} {c = c} s r) i = step_keeps (notes h) c s (run_keeps r i)

-- the invariant holds with its own world for the start
pub rebase : {x₀ x : World} {rs : ℕ → Recoverer} {ms : List Message} → Inv x₀ x rs ms → Inv x x rs ms
rebase {x₀} {x} i =
    record {
      since = later_refl x;
      acked = i.acked;
      copies = i.copies;
      messages = i.messages;
      writing = i.writing;
      metadata = i.metadata;
      recoverers = i.recoverers;
      flags = i.flags;
      writers = i.writers;
      ledgers = i.ledgers;
    }

-- a step leads to a later world
pub step_later : {x₀ : World} (ns : List Note) (c : Cluster) (s : Step) → InvAt x₀ ns c
    → Later (world ns c) (world (note_of s c (step c s).answer ∷ ns) (step c s).next)
step_later ns c s i = (step_keeps ns c s (rebase i)).since

-- and so does a run
pub run_later : {x₀ : World} {h₁ : History} {c₁ : Cluster} {h : History} {c : Cluster} → Runs h₁ c₁ h c → InvAt x₀ (notes h₁) c₁
    → Later (world (notes h₁) c₁) (world (notes h) c)
run_later r i = (run_keeps r (rebase i)).since

-- the invariant of a reached cluster, from the empty one
pub reached_inv : {h : History} {c : Cluster} → (g : Reached h c) → InvAt (world [] (empty g.0 g.1 g.2)) (notes h) c
reached_inv (spaces, changes, room, run) = run_keeps run (empty_inv spaces changes room)
