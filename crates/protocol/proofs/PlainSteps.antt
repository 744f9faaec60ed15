-- The steps that lose or double a message, or stop or start a bookie.
use Rattle.std.proofs.Common.{◌≡◌, Bool, true, false, ltb, List, length, refl}
use Rattle.std.proofs.ByRecursion.{All-get_or}
use Rattle.std.proofs.lemmas.Bool.{ltb-true}
use Rattle.ledgers.specs.declared.ids.BookieId.{BookieId}
use Rattle.ledgers.specs.declared.ids.MessagePlace.{MessagePlace}
use Rattle.ledgers.specs.declared.steps.Step.TheVariants.{Duplicate, Discard, Stop, Start}
use Rattle.messages.specs.Blanks.{no_message}
use Rattle.messages.specs.Waiting.{taken_off, sent_one}
use Rattle.protocol.specs.Bookies.{with_up}
use Rattle.protocol.specs.Clusters.{Cluster, bookie_of}
use Rattle.protocol.specs.Steps.{waits, message_at, duplicate, discard, turn}
use Rattle.protocol.specs.declared.faults.StepFault.TheVariants as fault
use Rattle.protocol.proofs.Lists.{all_taken_off, all_sent_one}
use Rattle.protocol.proofs.Questions.{ask_cases}
use Rattle.protocol.proofs.World.{Note, World, world, MessageOk, InvAt, Keeps}
use Rattle.protocol.proofs.Changes.{with_messages, bookie_inv}

-- a message is lost
pub discard_keeps : {x₀ : World} (ns : List Note) (c : Cluster) (m : MessagePlace) → InvAt x₀ ns c → Keeps x₀ ns c (Discard m) (discard c m)
discard_keeps {x₀} ns c m i =
    ask_cases c (Keeps x₀ ns c (Discard m)) (waits c m) (fault.Missing 1) _ i
    (λ _. with_messages (taken_off c.queue.waiting m.0) i (all_taken_off (MessageOk (world ns c)) c.queue.waiting m.0 i.messages))

-- a message that waits is true
pub waiting_ok : {x₀ : World} (ns : List Note) (c : Cluster) (m : MessagePlace) → InvAt x₀ ns c → waits c m ≡ true → MessageOk (world ns c) (message_at c m)
waiting_ok ns c m i q =
    All-get_or (MessageOk (world ns c)) c.queue.waiting m.0 no_message (ltb-true m.0 (length c.queue.waiting) q) i.messages

-- a message is doubled
pub duplicate_keeps : {x₀ : World} (ns : List Note) (c : Cluster) (m : MessagePlace) → InvAt x₀ ns c → Keeps x₀ ns c (Duplicate m) (duplicate c m)
duplicate_keeps {x₀} ns c m i =
    ask_cases c (Keeps x₀ ns c (Duplicate m)) (waits c m) (fault.Missing 1) _ i
    (λ q. with_messages (sent_one c.queue (message_at c m)).waiting i
    (all_sent_one (MessageOk (world ns c)) c.queue (message_at c m) i.messages (waiting_ok ns c m i q)))

-- stopped or started, a bookie holds and fences what it did
turn_inv : {x₀ : World} (ns : List Note) (c : Cluster) (b : BookieId) (u : Bool) → InvAt x₀ ns c → InvAt x₀ ns (turn c b u).next
turn_inv {x₀} ns c b u i =
    ask_cases c (λ o. InvAt x₀ ns o.next) (ltb b.0 (length c.bookies)) (fault.Missing 1) _ i
    (λ _. bookie_inv ns c b.0 (with_up (bookie_of c b.0) u) i (record { held = λ l e h. h; fenced = λ l h. h; flags = refl }) (i.copies b.0))

-- a bookie stops
pub stop_keeps : {x₀ : World} (ns : List Note) (c : Cluster) (b : BookieId) → InvAt x₀ ns c → Keeps x₀ ns c (Stop b) (turn c b false)
stop_keeps ns c b i = turn_inv ns c b false i

-- a bookie starts
pub start_keeps : {x₀ : World} (ns : List Note) (c : Cluster) (b : BookieId) → InvAt x₀ ns c → Keeps x₀ ns c (Start b) (turn c b true)
start_keeps ns c b i = turn_inv ns c b true i
