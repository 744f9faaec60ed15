-- The list of the waiting messages.
use Rattle.std.specs.Prelude.{ℕ, List, [], ◌∷◌}
pub use Rattle.places.specs.Lists.{posted, taken_off}
use Rattle.messages.specs.declared.messages.Message.{Message}

-- the messages that wait, and how many places there are for them
pub record Queue : Type 0 where
  pub room : ℕ
  pub waiting : List Message

-- one message more
abbrev pub sent_one : Queue → Message → Queue
sent_one q m = record { room = q.room; waiting = posted q.room q.waiting m }

-- messages that are sent together take the places that are free, the first of them first
abbrev pub sent : Queue → List Message → Queue
sent q [] = q
sent q (m ∷ ms) = sent (sent_one q m) ms

-- the message at place i is taken off
abbrev pub without : Queue → ℕ → Queue
without q i = record { room = q.room; waiting = taken_off q.waiting i }
