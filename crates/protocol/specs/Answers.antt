-- The number and the value that are printed for an answer.
use Rattle.std.specs.Prelude.{ℕ, zero, suc, ℤ, pos, negsuc, Ok, Err, Result}
use Rattle.messages.specs.Faults.{bookie_number, store_number}
use Rattle.protocol.specs.declared.answers.Answer.{Answer}
use Rattle.protocol.specs.declared.answers.Answer.TheVariants.{Version, Entry, Waiting, FirstEntry, ClosingEntry, Confirmed, Settled, Idle, Lost, Served, Done}
use Rattle.protocol.specs.declared.faults.ClientFault.{ClientFault}
use Rattle.protocol.specs.declared.faults.ClientFault.TheVariants as client
use Rattle.protocol.specs.declared.faults.StepFault.{StepFault}
use Rattle.protocol.specs.declared.faults.StepFault.TheVariants as fault

-- 6 to 13, and what the store refused as it is
abbrev pub client_number : ClientFault → ℕ
client_number client.Ensemble = 6
client_number client.Fenced = 7
client_number client.Closed = 8
client_number client.Pending = 10
client_number client.Full = 11
client_number client.Fragments = 12
client_number client.Unfinished = 13
client_number (client.Store f) = store_number f

-- 4, 5, and what the client refused as it is
abbrev pub step_number : StepFault → ℕ
step_number (fault.Missing w) = 4
step_number fault.Taken = 5
step_number (fault.Client f) = client_number f

-- the refusal number, 0 for what is accepted
abbrev pub refusal : Result Answer StepFault → ℕ
refusal (Ok a) = 0
refusal (Err f) = step_number f

-- the last of the first n entries, -1 where there is none
abbrev pub last_of : ℕ → ℤ
last_of zero = negsuc 0
last_of (suc n) = pos n

-- of a refusal only the word that names something missing is shown
abbrev pub word_of : StepFault → ℕ
word_of (fault.Missing w) = w
word_of fault.Taken = 0
word_of (fault.Client f) = 0

-- the value that is printed
abbrev pub value : Result Answer StepFault → ℤ
value (Ok (Version v)) = pos v.0
value (Ok (Entry e)) = pos e.0
value (Ok (Waiting n)) = pos n
value (Ok (FirstEntry e)) = pos e.0
value (Ok (ClosingEntry n)) = last_of n.0
value (Ok (Confirmed n)) = last_of n.0
value (Ok (Settled n)) = last_of n.0
value (Ok Idle) = negsuc 0
value (Ok Lost) = negsuc 2
value (Ok (Served (Ok u))) = pos 0
value (Ok (Served (Err f))) = pos (bookie_number f)
value (Ok Done) = pos 0
value (Err f) = pos (word_of f)
