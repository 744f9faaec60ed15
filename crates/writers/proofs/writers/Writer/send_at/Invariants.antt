use Rattle.std.proofs.Common.{◌≡◌, ◌+◌, drop}
use Rattle.places.specs.ShortLists.{listed}
use Rattle.messages.specs.Waiting.{sent}
use Rattle.waiting.specs.Queues.{queue}
use Rattle.protocol.specs.Writers.{adds_at}
use Rattle.writers.proofs.writers.Writer.send_at.Given as goal

-- what is left to send
abbrev pub invariant-loop-k : goal.invariant-loop-k
invariant-loop-k l =
    (l.add-items ≡ listed l.self.pending) × ((l.sizes ≡ l.self.layout.sizes)
    × (sent (queue l.messages) (adds_at l.self.layout l.ledger l.self.lac.0 l.position.0 l.bookie (l.self.lac.0 + l.k) (drop l.k l.add-items))
    ≡ sent (queue l.initial.messages) (adds_at l.self.layout l.ledger l.self.lac.0 l.position.0 l.bookie l.self.lac.0 l.add-items)))
