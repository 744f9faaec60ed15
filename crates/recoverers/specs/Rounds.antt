-- The requests of a round.
use Rattle.std.specs.Prelude.{◌≡◌, List}
use Rattle.ledgers.specs.declared.ids.BookieId.{BookieId}
use Rattle.layout.specs.Positions.{listed_positions}
use Rattle.messages.specs.declared.messages.Message.{Message}
use Rattle.protocol.specs.Recoverers.{asks_to}
use Rattle.recoverers.specs.declared.rounds.Round.{Round}

-- one that f makes for each bookie that has not answered
abbrev pub requests : Round → (BookieId → Message) → List Message
requests o f = asks_to o.answered o.fragment.bookies f (listed_positions o.positions)

-- whatever a call may give for a bookie is the request that f makes
abbrev pub Makes : (BookieId → Message → Type 0) → (BookieId → Message) → Type 0
Makes given f = (b : BookieId) (m : Message) → given b m → m ≡ f b
