-- Questions, and the numbers of the refusals.
use Rattle.std.specs.Prelude.{ℕ, Bool, true, false, Ok, Err, Result}
use Rattle.messages.specs.declared.faults.BookieFault.{BookieFault}
use Rattle.messages.specs.declared.faults.BookieFault.TheVariants as bookie
use Rattle.messages.specs.declared.faults.SetUpFault.{SetUpFault}
use Rattle.messages.specs.declared.faults.SetUpFault.TheVariants.{JournalSize, ChroniclePlaces}
use Rattle.messages.specs.declared.faults.StoreFault.{StoreFault}
use Rattle.messages.specs.declared.faults.StoreFault.TheVariants as store

-- a no to a question refuses, and a yes leaves the rest to decide
abbrev pub question : {A F : Type 0} → Bool → F → Result A F → Result A F
question true f r = r
question false f r = Err f

-- one thing where the answer is good, and another where it refuses
abbrev pub when_ok : {A F X : Type 0} → Result A F → X → X → X
when_ok (Ok a) x y = x
when_ok (Err f) x y = y

-- the second of two calls is made only where the first is accepted
abbrev pub and_then : {A B F : Type 0} → Result A F → Result B F → Result B F
and_then (Ok a) r = r
and_then (Err f) r = Err f

-- 20 to 24, in the order of the questions
abbrev pub bookie_number : BookieFault → ℕ
bookie_number bookie.Range = 20
bookie_number bookie.Stopped = 21
bookie_number bookie.Fenced = 22
bookie_number bookie.OtherBody = 23
bookie_number bookie.Full = 24

-- 30 to 33, in the order of the questions
abbrev pub store_number : StoreFault → ℕ
store_number store.Range = 30
store_number store.Existence = 31
store_number store.Version = 32
store_number store.Full = 33

-- 15, whatever cannot be set up
abbrev pub set_up_number : SetUpFault → ℕ
set_up_number JournalSize = 15
set_up_number ChroniclePlaces = 15
