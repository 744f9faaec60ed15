use Rattle.std.proofs.Common.{◌≡◌, drop}
use Rattle.layout.specs.WriteSets.{write_set}
use Rattle.messages.specs.Waiting.{sent}
use Rattle.waiting.specs.Queues.{queue}
use Rattle.protocol.specs.Writers.{adds, adds_to}
use Rattle.writers.proofs.writers.Writer.send_adds.Given as goal

-- what is left to send
abbrev pub invariant-loop-position : goal.invariant-loop-position
invariant-loop-position l =
    (l.position-items ≡ write_set l.self.layout.sizes l.e.0)
    × (sent (queue l.messages) (adds_to l.self.layout l.ledger l.e.0 l.self.lac.0 l.add (drop l.position-index l.position-items))
    ≡ sent (queue l.initial.messages) (adds l.self.layout l.ledger l.e.0 l.self.lac.0 l.add))
