-- Cases that are computed from the definitions.
use Rattle.std.specs.Prelude.{◌≡◌, ℕ, true, false, List, [], ◌∷◌, ◌++◌, replicate, ℤ, pos, negsuc, Ok, Err}
use Rattle.ledgers.specs.Ids.{ledger_id, bookie_id, recoverer_id, entry_id, lac_id}
use Rattle.ledgers.specs.Bodies.{body_of}
use Rattle.ledgers.specs.BookieLists.{list_of}
use Rattle.ledgers.specs.declared.bodies.Body.{Body}
use Rattle.ledgers.specs.declared.steps.Step.{Step}
use Rattle.ledgers.specs.declared.steps.Step.TheVariants.{Create, Append, Close, Recover, Finish, Deliver}
use Rattle.layout.specs.Sizes.{sizes_of}
use Rattle.layout.specs.WriteSets.{write_set, covers, member}
use Rattle.layout.specs.Layouts.{first_layout, last_first, changed_layout}
use Rattle.layout.specs.declared.fragments.Layout.{Layout}
use Rattle.messages.specs.declared.faults.BookieFault.TheVariants.{Fenced}
use Rattle.protocol.specs.Answers.{refusal, value}
use Rattle.protocol.specs.Bookies.{Bookie, new_bookie, add_answer, add_after, fence_after}
use Rattle.protocol.specs.Writers.{Writer, new_writer, with_pending, new_layout}
use Rattle.protocol.specs.Clusters.{Cluster, empty}
use Rattle.protocol.specs.Steps.{step}

-- the refusal number of a create of ledger 1 on five bookies
abbrev pub create_refusal : ℕ → ℕ → ℕ → List ℕ → ℕ
create_refusal e w k bs = refusal (step (empty (9 ∷ 9 ∷ 9 ∷ 9 ∷ 9 ∷ []) 9 9) (Create (ledger_id 1) e w k (list_of bs))).answer

-- a writer whose last fragment begins with entry 2, and whose LAC is the last of the first n entries
abbrev pub from_two : ℕ → Writer
from_two n = with_pending (new_writer (changed_layout (first_layout (sizes_of 3 3 2) (0 ∷ 1 ∷ 2 ∷ 0 ∷ 0 ∷ [])) 2 0 3)) n []

-- its layout after a change
abbrev pub from_two_changed : ℕ → Layout
from_two_changed n = new_layout (from_two n) (record { 0 = 1 }) (bookie_id 4)

-- some content
abbrev pub oak : Body
oak = body_of (111 ∷ 97 ∷ 107 ∷ [])

-- a bookie that holds entry 0 of ledger 1, and is fenced for it
abbrev pub fenced_bookie : Bookie
fenced_bookie = fence_after (add_after (new_bookie 9) (ledger_id 1) (entry_id 0) (lac_id 0) oak false) (ledger_id 1)

-- the values that steps print, one after the other
abbrev pub played : Cluster → List Step → List ℤ
played c [] = []
played c (s ∷ ss) = value (step c s).answer ∷ played (step c s).next ss

-- ledger 1 on one bookie, with one entry, whose add is served
abbrev pub one_entry : List Step
one_entry = Create (ledger_id 1) 1 1 1 (list_of (0 ∷ [])) ∷ Append (ledger_id 1) oak ∷ Deliver (record { 0 = 0 }) ∷ []

-- message 1 arrives so many times
abbrev pub arrivals : ℕ → List Step
arrivals n = replicate n (Deliver (record { 0 = 1 }))

-- what comes out
pub record Cases : Type 0 where
  -- with E 5 and W 3, entry 4 has positions 4, 0, 1
  pub wraps : write_set (sizes_of 5 3 2) 4 ≡ 4 ∷ 0 ∷ 1 ∷ []
  -- 3 3 2 and 1 1 1 hold; 3 2 3 and 2 3 1 give 6
  pub in_order : create_refusal 3 3 2 (0 ∷ 1 ∷ 2 ∷ []) ≡ 0
  pub in_order_ones : create_refusal 1 1 1 (0 ∷ []) ≡ 0
  pub ack_above_write : create_refusal 3 2 3 (0 ∷ 1 ∷ 2 ∷ []) ≡ 6
  pub write_above_ensemble : create_refusal 2 3 1 (0 ∷ 1 ∷ []) ≡ 6
  -- with 5 3 2, positions 0, 2, 3 do not cover the ensemble, and 0, 1, 3, 4 do
  pub not_covering : covers (sizes_of 5 3 2) (λ p. member p (0 ∷ 2 ∷ 3 ∷ [])) ≡ false
  pub covering : covers (sizes_of 5 3 2) (λ p. member p (0 ∷ 1 ∷ 3 ∷ 4 ∷ [])) ≡ true
  -- LAC 4, with a last fragment from 2: a change adds a fragment from 5
  pub adds_fragment : (from_two_changed 5).count ≡ 3
  pub adds_from : last_first (from_two_changed 5) ≡ 5
  -- LAC 1: it alters that fragment
  pub alters_fragment : (from_two_changed 2).count ≡ 2
  pub alters_from : last_first (from_two_changed 2) ≡ 2
  -- a fenced bookie that holds entry 0 refuses the writer's add of it with 22, and acknowledges a recovery add of the same body
  pub add_fenced : add_answer fenced_bookie (ledger_id 1) (entry_id 0) (lac_id 0) oak false ≡ Err Fenced
  pub recovery_add_fenced : add_answer fenced_bookie (ledger_id 1) (entry_id 0) (lac_id 0) oak true ≡ Ok tt
  -- a ledger with one entry, confirmed and closed by its writer
  pub writer_closes : played (empty (9 ∷ []) 9 9) (one_entry ++ (Deliver (record { 0 = 0 }) ∷ Close (ledger_id 1) ∷ []))
      ≡ pos 1 ∷ pos 0 ∷ pos 0 ∷ pos 0 ∷ pos 0 ∷ []
  -- the same entry, found and written back by a recovery: its fence is served and tells no LAC, entry 0 is read and found,
  -- written back and settled, entry 1 is read and absent, and the ledger is closed at entry 0. The writer then confirms
  -- entry 0, and finds its ledger lost
  pub recovery_closes : played (empty (9 ∷ []) 9 9)
      (one_entry ++ (Recover (recoverer_id 1) (ledger_id 1) ∷ (arrivals 8
      ++ (Finish (recoverer_id 1) ∷ Deliver (record { 0 = 0 }) ∷ Close (ledger_id 1) ∷ []))))
      ≡ pos 1 ∷ pos 0 ∷ pos 0 ∷ pos 2 ∷ pos 0 ∷ negsuc 0 ∷ pos 0 ∷ negsuc 0 ∷ pos 0 ∷ pos 0 ∷ pos 0 ∷ pos 0 ∷ pos 0 ∷ pos 0 ∷ negsuc 2 ∷ []
