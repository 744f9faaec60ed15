-- Histories of steps from a cluster set up empty, and what is said of them.
use Rattle.std.specs.Prelude.{◌≡◌, ℕ, ◌<◌, Bool, true, ◌⊎◌, List, [], ◌∷◌, Ok, Result, ◌≢◌, slice_index}
use Rattle.std.specs.Result.{IsOk}
use Rattle.ledgers.specs.Ids.{bookie_id}
use Rattle.ledgers.specs.declared.bodies.Body.{Body}
use Rattle.ledgers.specs.declared.ids.BookieId.{BookieId}
use Rattle.ledgers.specs.declared.ids.EntryId.{EntryId}
use Rattle.ledgers.specs.declared.ids.Lac.{Lac}
use Rattle.ledgers.specs.declared.ids.LedgerId.{LedgerId}
use Rattle.ledgers.specs.declared.ids.MessagePlace.{MessagePlace}
use Rattle.ledgers.specs.declared.ids.RecovererId.{RecovererId}
use Rattle.ledgers.specs.declared.steps.Step.{Step}
use Rattle.ledgers.specs.declared.steps.Step.TheVariants.{Append, Close, Recover, Finish, Deliver}
use Rattle.layout.specs.WriteSets.{covers}
use Rattle.layout.specs.Layouts.{last_fragment}
use Rattle.messages.specs.declared.faults.BookieFault.{BookieFault}
use Rattle.messages.specs.declared.messages.Message.{Message}
use Rattle.messages.specs.declared.messages.Message.TheVariants.{Added, AddRefused, Fenced}
use Rattle.protocol.specs.Recoverers.{at_work}
use Rattle.protocol.specs.Clusters.{Cluster, empty, phase_of, recovering, layout_read}
use Rattle.protocol.specs.Steps.{message_at, step}
use Rattle.protocol.specs.declared.answers.Answer.{Answer}
use Rattle.protocol.specs.declared.answers.Answer.TheVariants as answer
use Rattle.protocol.specs.declared.faults.StepFault.{StepFault}

-- a step, the cluster before it and what it answered
pub record Event : Type 0 where
  pub before : Cluster
  pub did : Step
  pub said : Result Answer StepFault

-- the last event first
abbrev pub History : Type 0
History = List Event

-- the event of step s from cluster c
abbrev pub event : Cluster → Step → Event
event c s = record { before = c; did = s; said = (step c s).answer }

-- from cluster c₁ with history h₁, more steps lead to cluster c with history h; refused steps are steps too
pub data Runs (h₁ : History) (c₁ : Cluster) : History → Cluster → Type 0 where
  stay : Runs h₁ c₁ h₁ c₁
  more : {h : History} {c : Cluster} (s : Step) → Runs h₁ c₁ h c → Runs h₁ c₁ (event c s ∷ h) (step c s).next

-- set up empty, with any bookies, changes and message places, steps lead to cluster c with history h
abbrev pub Reached : History → Cluster → Type 0
Reached h c = (spaces : List ℕ) × (changes : ℕ) × (room : ℕ) × Runs [] (empty spaces changes room) h c

-- the cluster after a list of steps, the first of them first,
abbrev pub after : Cluster → List Step → Cluster
after c [] = c
after c (s ∷ ss) = after (step c s).next ss

-- what they are answered,
abbrev pub answers : Cluster → List Step → List (Result Answer StepFault)
answers c [] = []
answers c (s ∷ ss) = (step c s).answer ∷ answers (step c s).next ss

-- and the history with them
abbrev pub noting : History → Cluster → List Step → History
noting h c [] = h
noting h c (s ∷ ss) = noting (event c s ∷ h) (step c s).next ss

-- some event of the history is such a one
abbrev pub Once : (Event → Type 0) → History → Type 0
Once P [] = ⊥
Once P (v ∷ h) = P v ⊎ Once P h

-- the event delivered message m
abbrev pub Delivered : Event → Message → Type 0
Delivered v m = (p : MessagePlace) × (v.did ≡ Deliver p) × (message_at v.before p ≡ m)

-- the event is accepted
abbrev pub Accepted : Event → Type 0
Accepted v = IsOk v.said

-- appended and confirmed ---------------------------------------------------------------------------------------------
-- an append was answered by entry e of ledger l, and body is its content
abbrev pub Appended : History → LedgerId → EntryId → Body → Type 0
Appended h l e body = Once (λ v. (v.did ≡ Append l body) × (v.said ≡ Ok (answer.Entry e))) h

-- the message is a reply to the writer of ledger l
abbrev pub ToWriter : LedgerId → Message → Type 0
ToWriter l m =
    ((b : BookieId) × (e : EntryId) × (m ≡ Added l b e)) ⊎ ((b : BookieId) × (e : EntryId) × (f : BookieFault) × (m ≡ AddRefused l b e f))

-- the delivery of a reply to the writer of ledger l was answered by entry e or a higher LAC
abbrev pub Confirmed : History → LedgerId → EntryId → Type 0
Confirmed h l e =
    Once (λ v. (m : Message) × Delivered v m × ToWriter l m × (n : Lac) × (v.said ≡ Ok (answer.Confirmed n)) × (e.0 < n.0)) h

-- closed -------------------------------------------------------------------------------------------------------------
-- the event asked to close ledger l, for its writer or for the recoverer that was at it
abbrev pub Closes : LedgerId → Event → Type 0
Closes l v = (v.did ≡ Close l) ⊎ ((r : RecovererId) × (v.did ≡ Finish r) × (recovering v.before r ≡ l))

-- and was accepted with answer a, which is not that the writer lost its ledger
abbrev pub ClosedWith : LedgerId → Answer → Event → Type 0
ClosedWith l a v = Closes l v × (v.said ≡ Ok a) × (a ≢ answer.Lost)

-- fence rounds -------------------------------------------------------------------------------------------------------
-- the event started recoverer r
abbrev pub Started : RecovererId → Event → Type 0
Started r v = (l : LedgerId) × (v.did ≡ Recover r l) × Accepted v

-- since recoverer r was last started, a fence answer of bookie b for ledger l was delivered to it
abbrev pub Answered : History → RecovererId → LedgerId → BookieId → Type 0
Answered [] r l b = ⊥
Answered (v ∷ h) r l b = ((n : Lac) × Delivered v (Fenced r l b n)) ⊎ ((Started r v → ⊥) × Answered h r l b)

-- recoverer r is at work on ledger l, and fence answers of positions that cover the ensemble were delivered to it
abbrev pub Covered : History → Cluster → RecovererId → LedgerId → Type 0
Covered h c r l =
    (at_work (phase_of c r) ≡ true) × (recovering c r ≡ l)
    × (t : ℕ → Bool) × (covers (layout_read c r).sizes t ≡ true)
    × ((p : ℕ) → t p ≡ true → Answered h r l (bookie_id (slice_index (last_fragment (layout_read c r)).bookies p)))
