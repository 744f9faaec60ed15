-- What holds after every list of steps from a cluster set up empty.
use Rattle.std.specs.Prelude.{◌≡◌, ℕ, ◌<◌, ◌≤◌, Bool, true, false, ◌⊎◌, List, ◌∷◌, Ok, ◌≢◌}
use Rattle.std.specs.List.{AllByRecursion}
use Rattle.std.specs.Result.{IsErr}
use Rattle.ledgers.specs.declared.bodies.Body.{Body}
use Rattle.ledgers.specs.declared.ids.EntryId.{EntryId}
use Rattle.ledgers.specs.declared.ids.Lac.{Lac}
use Rattle.ledgers.specs.declared.ids.LedgerId.{LedgerId}
use Rattle.ledgers.specs.declared.ids.RecovererId.{RecovererId}
use Rattle.ledgers.specs.declared.ids.Version.{Version}
use Rattle.ledgers.specs.declared.steps.Step.{Step}
use Rattle.layout.specs.WriteSets.{tally, distinct}
use Rattle.layout.specs.Layouts.{Rises, bookies_of}
use Rattle.layout.specs.declared.fragments.Layout.{Layout}
use Rattle.messages.specs.declared.entries.Held.{Held}
use Rattle.messages.specs.declared.metadata.LedgerState.TheVariants.{InRecovery, Closed}
use Rattle.protocol.specs.Bookies.{holds}
use Rattle.protocol.specs.Recoverers.{at_work, is_ended}
use Rattle.protocol.specs.Clusters.{Cluster, bookie_of, recoverer_of, phase_of, recovering, layout_read, ledger_of}
use Rattle.protocol.specs.Steps.{finish, step}
use Rattle.protocol.specs.Histories.{History, event, Runs, Reached, after, noting, Once, Appended, Confirmed, ClosedWith, Covered}
use Rattle.protocol.specs.declared.answers.Answer.{Answer}
use Rattle.protocol.specs.declared.answers.Answer.TheVariants as answer
use Rattle.protocol.specs.declared.recoverers.Phase.{Phase}
use Rattle.protocol.specs.declared.recoverers.Phase.TheVariants.{Idle, Fencing, Reading, Writing, Ended}

-- by the store's metadata
abbrev pub IsClosed : Cluster → LedgerId → Type 0
IsClosed c l = (ledger_of c l.0).state ≡ Closed

-- the closing entry of ledger l
abbrev pub closing_of : Cluster → LedgerId → Lac
closing_of c l = (ledger_of c l.0).closing

-- its layout
abbrev pub layout_of : Cluster → LedgerId → Layout
layout_of c l = (ledger_of c l.0).layout

-- its version
abbrev pub version_of : Cluster → LedgerId → Version
version_of c l = (ledger_of c l.0).version

-- entry e is at or before the closing entry
abbrev pub UpToClose : Cluster → LedgerId → EntryId → Type 0
UpToClose c l e = e.0 < (closing_of c l).0

-- the bookies of the write set of entry e are different ones, and at least an ack quorum of them hold it
abbrev pub AckQuorumHolds : Cluster → LedgerId → EntryId → Type 0
AckQuorumHolds c l e =
    (distinct (bookies_of (layout_of c l) e.0) ≡ true)
    × ((layout_of c l).sizes.ack ≤ tally (λ b. holds (bookie_of c b) l.0 e.0) (bookies_of (layout_of c l) e.0))

-- an append gave the entry this content, and none gave it another
abbrev pub TrueCopy : History → Held → Type 0
TrueCopy h x = Appended h x.ledger x.entry x.body × ((body : Body) → Appended h x.ledger x.entry body → body ≡ x.body)

-- a closed ledger keeps its word
pub record Word (h : History) (c : Cluster) : Type 0 where
  -- every entry of a closed ledger that its writer confirms, before the close or after, is at or before the closing entry
  pub confirmed : (l : LedgerId) (e : EntryId) → IsClosed c l → Confirmed h l e → UpToClose c l e
  -- wherever a close or a finish was accepted, the ledger is closed at the entry answered, and has stayed so until now
  pub closed : (l : LedgerId) (a : Answer) → Once (ClosedWith l a) h → IsClosed c l × (a ≡ answer.ClosingEntry (closing_of c l))
  -- each entry up to the closing entry is held by an ack quorum of different bookies of its write set
  pub kept : (l : LedgerId) (e : EntryId) → IsClosed c l → UpToClose c l e → AckQuorumHolds c l e
  -- every copy in any bookie is true
  pub copies : (b : ℕ) → AllByRecursion (TrueCopy h) (bookie_of c b).entries
  -- the fragments of every ledger rise from entry 0 on
  pub fragments : (l : LedgerId) → Rises (layout_of c l)
  -- once the fence round of a recovery was covered, no entry appended to that ledger afterwards is ever confirmed
  pub shut : (h₁ : History) (c₁ : Cluster) (r : RecovererId) (l : LedgerId) (e : EntryId) (body : Body)
      → Reached h₁ c₁ → Runs h₁ c₁ h c → Covered h₁ c₁ r l
      → Appended h l e body → (Appended h₁ l e body → ⊥) → Confirmed h l e → ⊥

-- after every list of steps
abbrev pub Law : Type 0
Law = (h : History) (c : Cluster) → Reached h c → Word h c

-- the fence round is behind the recoverer
abbrev pub past_fences : Phase → Bool
past_fences Idle = false
past_fences (Fencing m) = false
past_fences (Reading m) = true
past_fences (Writing m n body) = true
past_fences Ended = true

-- a recovery goes by its rounds
pub record Rounds (h : History) (c : Cluster) : Type 0 where
  -- a recoverer leaves its fence round only once the answers delivered to it cover the ensemble
  pub fenced : (r : RecovererId) → past_fences (phase_of c r) ≡ true → Covered h c r (recovering c r)
  -- the layout that a recoverer at work has read is that of its ledger, until this is closed
  pub read : (r : RecovererId) → at_work (phase_of c r) ≡ true
      → IsClosed c (recovering c r) ⊎ (layout_read c r ≡ layout_of c (recovering c r))
  -- a ledger in recovery stays so, at the same version, until it is closed
  pub ends : (h₁ : History) (c₁ : Cluster) (l : LedgerId) → Reached h₁ c₁ → Runs h₁ c₁ h c → (ledger_of c₁ l.0).state ≡ InRecovery
      → IsClosed c l ⊎ (((ledger_of c l.0).state ≡ InRecovery) × ((version_of c l).0 ≡ (version_of c₁ l).0))
  -- a closed ledger stays closed, at the same entry
  pub stays : (h₁ : History) (c₁ : Cluster) (l : LedgerId) → Reached h₁ c₁ → Runs h₁ c₁ h c → IsClosed c₁ l
      → IsClosed c l × ((closing_of c l).0 ≡ (closing_of c₁ l).0)
  -- an ended recoverer that finds another version than its own has lost the race: the ledger is closed, and its finish
  -- answers the closing entry
  pub late : (r : RecovererId) → is_ended (phase_of c r) ≡ true → ((version_of c (recovering c r)).0 ≢ (recoverer_of c r.0).version.0)
      → IsClosed c (recovering c r) × ((finish c r).answer ≡ Ok (answer.ClosingEntry (closing_of c (recovering c r))))

-- after every list of steps
abbrev pub RoundsLaw : Type 0
RoundsLaw = (h : History) (c : Cluster) → Reached h c → Rounds h c

-- with every history that reached c, step s reaches c', and all of this holds there
abbrev pub GoesOn : Cluster → Step → Cluster → Type 0
GoesOn c s c' = (h : History) → Reached h c → Reached (event c s ∷ h) c' × Word (event c s ∷ h) c' × Rounds (event c s ∷ h) c'

-- every step goes on
abbrev pub StepsGoOn : Type 0
StepsGoOn = (c : Cluster) (s : Step) → GoesOn c s (step c s).next

-- with every history that reached c, these steps reach c', and all of this holds there
abbrev pub ListGoesOn : Cluster → List Step → Cluster → Type 0
ListGoesOn c ss c' = (h : History) → Reached h c → Reached (noting h c ss) c' × Word (noting h c ss) c' × Rounds (noting h c ss) c'

-- every list of steps goes on
abbrev pub ListsGoOn : Type 0
ListsGoOn = (c : Cluster) (ss : List Step) → ListGoesOn c ss (after c ss)

-- a step that is refused leaves the cluster as it was
abbrev pub RefusalsAlterNothing : Type 0
RefusalsAlterNothing = (c : Cluster) (s : Step) → IsErr (step c s).answer → (step c s).next ≡ c
