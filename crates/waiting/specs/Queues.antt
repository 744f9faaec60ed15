-- What a waiting list means: the protocol's queue.
use Rattle.std.specs.Prelude.{ℕ, cond, [], length, Some, None, Option, nat_lt, slice_index_or}
use Rattle.places.specs.LentLists.{records, room}
use Rattle.messages.specs.Blanks.{no_message}
use Rattle.messages.specs.Waiting.{Queue, without}
use Rattle.messages.specs.declared.messages.Message.{Message}
use Rattle.waiting.specs.declared.waiting_list.WaitingList.{WaitingList}

-- its places, and the messages in the first of them
abbrev pub queue : WaitingList → Queue
queue w = record { room = room w.0; waiting = records w.0 }

-- so many places, and no message
abbrev pub no_messages : ℕ → Queue
no_messages n = record { room = n; waiting = [] }

-- the message at a place, if one waits there
abbrev pub waiting_at : Queue → ℕ → Option Message
waiting_at q i = cond (nat_lt i (length q.waiting)) (Some (slice_index_or q.waiting i no_message)) None

-- the queue without it
abbrev pub taken_from : Queue → ℕ → Queue
taken_from q i = cond (nat_lt i (length q.waiting)) (without q i) q
