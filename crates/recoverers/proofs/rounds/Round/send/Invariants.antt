use Rattle.std.proofs.Common.{◌≡◌, drop}
use Rattle.ledgers.specs.declared.ids.BookieId.{BookieId}
use Rattle.messages.specs.Waiting.{sent}
use Rattle.messages.specs.declared.messages.Message.{Message}
use Rattle.waiting.specs.Queues.{queue}
use Rattle.protocol.specs.Recoverers.{asks_to}
use Rattle.recoverers.specs.Rounds.{Makes}
use Rattle.recoverers.proofs.rounds.Round.send.Given as goal

-- what is left to ask gives the same messages
abbrev pub invariant-loop-position : goal.invariant-loop-position
invariant-loop-position g l =
    (f : BookieId → Message) → Makes (goal.F-post g l.request) f
    → sent (queue l.messages) (asks_to l.self.answered l.self.fragment.bookies f (drop l.position-index l.position-items))
    ≡ sent (queue l.initial.messages) (asks_to l.self.answered l.self.fragment.bookies f l.position-items)
