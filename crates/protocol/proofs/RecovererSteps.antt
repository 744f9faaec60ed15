-- The recoverer's steps: begin, ask again and finish.
use Rattle.std.proofs.Common.{◌≡◌, ℕ, suc, ◌<◌, true, not, List, Some, None, Ok, Result, sym, refl, subst, inl, inr, arith}
use Rattle.std.proofs.lemmas.Bool.{false≢true}
use Rattle.ledgers.specs.Limits.{is_ledger, is_recoverer}
use Rattle.ledgers.specs.Ids.{lac_id, version_id}
use Rattle.ledgers.specs.declared.ids.LedgerId.{LedgerId}
use Rattle.ledgers.specs.declared.ids.RecovererId.{RecovererId}
use Rattle.ledgers.specs.declared.ids.Version.{Version}
use Rattle.ledgers.specs.declared.steps.Step.TheVariants.{Recover, AskAgain, Finish}
use Rattle.layout.specs.WriteSets.{no_marks}
use Rattle.layout.specs.Layouts.{last_first}
use Rattle.layout.specs.declared.fragments.Layout.{Layout}
use Rattle.messages.specs.declared.faults.StoreFault.{StoreFault}
use Rattle.messages.specs.declared.faults.StoreFault.TheVariants as denied
use Rattle.messages.specs.declared.metadata.LedgerState.{LedgerState}
use Rattle.messages.specs.declared.metadata.LedgerState.TheVariants.{Open, InRecovery, Closed}
use Rattle.messages.specs.declared.metadata.Metadata.{Metadata}
use Rattle.protocol.specs.Stores.{exists, written}
use Rattle.protocol.specs.Recoverers.{at_work, is_ended, no_recoverer, by_store, begin_answer, begin_store, recover_with, recover_store, new_recoverer, asks, finished, finish_store}
use Rattle.protocol.specs.Clusters.{Cluster, writer_of, recoverer_of, ledger_of, with_store, with_recoverer}
use Rattle.protocol.specs.Steps.{Outcome, done, by_client, begun, recover, ask_again, finish}
use Rattle.protocol.specs.declared.answers.Answer.TheVariants as answer
use Rattle.protocol.specs.declared.faults.ClientFault.TheVariants as client
use Rattle.protocol.specs.declared.faults.StepFault.TheVariants as fault
use Rattle.protocol.specs.declared.recoverers.Phase.{Phase}
use Rattle.protocol.specs.declared.recoverers.Phase.TheVariants.{Idle, Fencing, Reading, Writing, Ended}
use Rattle.protocol.specs.declared.recoverers.Recoverer.{Recoverer}
use Rattle.protocol.proofs.Lists.{number_same, ledger_row}
use Rattle.protocol.proofs.Questions.{asked, put_cases, ask_cases}
use Rattle.protocol.proofs.World.{Note, World, world, LayoutOk, Sealed, Copied, StateOk, PhaseOk, Under, WorkOk, InvAt, Keeps}
use Rattle.protocol.proofs.Changes.{sent_inv, recoverer_inv, open_succeeds, put_inv}
use Rattle.protocol.proofs.Replies.{asks_ok, lac_copied}

-- ask again ----------------------------------------------------------------------------------------------------------
-- requests that were true are true again
pub ask_again_keeps : {x₀ : World} (ns : List Note) (c : Cluster) (r : RecovererId) → InvAt x₀ ns c → Keeps x₀ ns c (AskAgain r) (ask_again c r)
ask_again_keeps {x₀} ns c r i =
    ask_cases c (Keeps x₀ ns c (AskAgain r)) (at_work R.phase) (fault.Missing 1) _ i
    (λ q. sent_inv ns c (asks R r) i (asks_ok (world ns c) R r R.phase (i.recoverers r.0 q).phase))
  where
    R : Recoverer
    R = recoverer_of c r.0

-- begin --------------------------------------------------------------------------------------------------------------
-- a recoverer that begins has settled what is before the last fragment
begun_inv : {x₀ : World} (ns : List Note) (c : Cluster) (r : RecovererId) (l : LedgerId) (v : Version) (y : Layout) → InvAt x₀ ns c
    → y ≡ (writer_of c l.0).layout → Under (ledger_of c l.0) v.0 → InvAt x₀ ns (begun c r (new_recoverer l v y)).next
begun_inv ns c r l v y i same under =
    sent_inv ns (with_recoverer c r.0 R) (asks R r) (recoverer_inv ns c r.0 R i (λ _. work)) (asks_ok (world ns c) R r (Fencing no_marks) tt)
  where
    R : Recoverer
    R = new_recoverer l v y

    work : WorkOk (world ns c) R
    work =
        record {
          same = same;
          under = under;
          below =
              subst (λ (u : Layout). Copied (world ns c) l.0 (last_first u) u) (sym same)
              (λ e k. lac_copied i l.0 e (let f = (i.writing l.0).first in omega arith));
          phase = tt;
        }

-- a recovery begins
pub recover_keeps : {x₀ : World} (ns : List Note) (c : Cluster) (r : RecovererId) (l : LedgerId) → InvAt x₀ ns c → Keeps x₀ ns c (Recover r l) (recover c r l)
recover_keeps {x₀} ns c r l i =
    ask_cases c K (is_recoverer r.0) (fault.Missing 1) _ i
    (λ _. ask_cases c K (exists c.store l.0) (fault.Missing 2) _ i
    (λ _. ask_cases c K (not (at_work (recoverer_of c r.0).phase)) fault.Taken _ i
    (λ _. asked (is_ledger l.0) denied.Range _ K' i
    (λ q30. asked (exists c.store l.0) denied.Existence (Ok m) K' i (λ _. by m.state refl q30)))))
  where
    K : Outcome → Type 0
    K o = InvAt x₀ ns o.next

    m : Metadata
    m = ledger_of c l.0

    K' : Result Metadata StoreFault → Type 0
    K' g =
        K (by_client c (recover_with c.store l g)
        (λ v. begun (with_store c (recover_store c.store l)) r (new_recoverer l v (ledger_of c l.0).layout)))

    m' : Metadata
    m' = record { version = version_id (suc m.version.0); state = InRecovery; layout = m.layout; closing = lac_id 0 }

    by : (st : LedgerState) → m.state ≡ st → is_ledger l.0 ≡ true
        → K (by_client c (begin_answer c.store l m st) (λ v. begun (with_store c (begin_store c.store l m st)) r (new_recoverer l v m.layout)))
    by Open o q30 =
        put_cases c.store l (λ a s. K (by_client c (by_store a) (λ v. begun (with_store c s) r (new_recoverer l v m.layout))))
        m.version InRecovery m.layout (lac_id 0) (λ f _. i) (λ _. i)
        (λ _ _. begun_inv ns (with_store c (written c.store l.0 m')) r l (version_id (suc m.version.0)) m.layout
        (put_inv ns c l.0 m' (open_succeeds m m' o)
        (record {
          free = λ z. let b : ⊥ = omega arith in absurd b;
          state = (let k = old.0 in omega arith, old.1, old.2);
          layout = (i.metadata l.0).layout;
        }) i)
        old.2
        (rw (number_same c.store.ledgers l.0 (Some m') None (ledger_row c.store.ledgers l.0 i.ledgers q30)) (inl (refl, refl))))
      where
        old : StateOk (world ns c) l.0 (writer_of c l.0) m Open
        old = subst (StateOk (world ns c) l.0 (writer_of c l.0) m) o (i.metadata l.0).state
    by InRecovery o q30 =
        begun_inv ns c r l m.version m.layout i
        (subst (StateOk (world ns c) l.0 (writer_of c l.0) m) o (i.metadata l.0).state).2 (inl (o, refl))
    by Closed o q30 = i

-- finish -------------------------------------------------------------------------------------------------------------
-- the ended phase
pub ended_is : (ph : Phase) → is_ended ph ≡ true → ph ≡ Ended
ended_is Idle h = absurd (false≢true h)
ended_is (Fencing m) h = absurd (false≢true h)
ended_is (Reading m) h = absurd (false≢true h)
ended_is (Writing m n body) h = absurd (false≢true h)
ended_is Ended h = refl

-- an idle recoverer claims nothing
idle_inv : {x₀ : World} (ns : List Note) (c : Cluster) (r : ℕ) → InvAt x₀ ns c → InvAt x₀ ns (with_recoverer c r no_recoverer)
idle_inv ns c r i = recoverer_inv ns c r no_recoverer i (λ h. absurd (false≢true h))

-- a recovery finishes
pub finish_keeps : {x₀ : World} (ns : List Note) (c : Cluster) (r : RecovererId) → InvAt x₀ ns c → Keeps x₀ ns c (Finish r) (finish c r)
finish_keeps {x₀} ns c r i =
    ask_cases c K (at_work R.phase) (fault.Missing 1) _ i
    (λ q4. asked (is_ended R.phase) client.Unfinished _ (λ a. K (by_client c a (λ n. done (answer.ClosingEntry n) (with_recoverer (with_store c (finish_store R c.store)) r.0 no_recoverer)))) i
    (λ q13. put_cases c.store R.ledger
    (λ a s. K (by_client c (finished R c.store a) (λ n. done (answer.ClosingEntry n) (with_recoverer (with_store c s) r.0 no_recoverer))))
    R.version Closed R.layout R.settled (λ f q. rw q i) (λ _. idle_inv ns c r.0 i)
    (λ q30 v. idle_inv ns (with_store c (written c.store R.ledger.0 m')) r.0 (close_it (i.recoverers r.0 q4) (ended_is R.phase q13) v))))
  where
    K : Outcome → Type 0
    K o = InvAt x₀ ns o.next

    R : Recoverer
    R = recoverer_of c r.0

    m : Metadata
    m = ledger_of c R.ledger.0

    m' : Metadata
    m' = record { version = version_id (suc R.version.0); state = Closed; layout = R.layout; closing = R.settled }

    close_it : WorkOk (world ns c) R → R.phase ≡ Ended → m.version.0 ≡ R.version.0 → InvAt x₀ ns (with_store c (written c.store R.ledger.0 m'))
    close_it w ph v =
        put_inv ns c R.ledger.0 m'
        (record {
          stays = λ _. inr refl;
          closed = λ z. absurd (not_closed w.under z);
          under = λ n u. inr (refl, elim u [ inl z ↦ (let y = z.1 in omega arith) | inr z ↦ (let y = z.1 in omega arith) ]);
        })
        (record {
          free = λ z. let b : ⊥ = omega arith in absurd b;
          state = (
            w.below,
            inr (lower w.under, subst (Sealed (world ns c) R.ledger.0 R.settled.0) w.same (subst (PhaseOk (world ns c) R R.ledger.0 R.layout) ph w.phase)),
          );
          layout = subst LayoutOk (sym w.same) (i.writing R.ledger.0).layout;
        }) i
      where
        not_closed : Under m R.version.0 → m.state ≡ Closed → ⊥
        not_closed (inl z) y = let n = z.0 in cc
        not_closed (inr z) y = let u = z.1 in omega arith

        lower : Under m R.version.0 → (writer_of c R.ledger.0).version < suc R.version.0
        lower (inl z) = let y = (subst (StateOk (world ns c) R.ledger.0 (writer_of c R.ledger.0) m) z.0 (i.metadata R.ledger.0).state).0 in omega arith
        lower (inr z) = let y = z.1 in let b : ⊥ = omega arith in absurd b
