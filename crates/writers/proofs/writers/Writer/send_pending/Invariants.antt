use Rattle.std.proofs.Common.{◌≡◌, ◌+◌, drop}
use Rattle.places.specs.ShortLists.{listed}
use Rattle.messages.specs.Waiting.{sent}
use Rattle.waiting.specs.Queues.{queue}
use Rattle.protocol.specs.Writers.{all_adds}
use Rattle.writers.proofs.writers.Writer.send_pending.Given as goal

-- what is left to send
abbrev pub invariant-loop-k : goal.invariant-loop-k
invariant-loop-k l =
    (l.add-items ≡ listed l.self.pending)
    × (sent (queue l.messages) (all_adds l.self.layout l.ledger l.self.lac.0 (l.self.lac.0 + l.k) (drop l.k l.add-items))
    ≡ sent (queue l.initial.messages) (all_adds l.self.layout l.ledger l.self.lac.0 l.self.lac.0 l.add-items))
