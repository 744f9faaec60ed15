-- What a call to the bookie of a number answers in a group, and what the group means after it.
use Rattle.std.specs.Prelude.{◌-◌, Bool, cond, ◌&&◌, List, length, Some, None, Ok, Err, Option, Result, nat_le, nat_lt, slice_index_or, slice_set}
use Rattle.ledgers.specs.Ids.{bookie_id}
use Rattle.ledgers.specs.declared.ids.BookieId.{BookieId}
use Rattle.messages.specs.Faults.{question}
use Rattle.messages.specs.declared.faults.BookieFault.{BookieFault}
use Rattle.protocol.specs.Bookies.{Bookie, no_bookie}
use Rattle.groups.specs.declared.faults.GroupFault.{GroupFault}
use Rattle.groups.specs.declared.faults.GroupFault.TheVariants.{Missing, Refused}

-- a bookie's refusal is passed on whole
abbrev pub passed : {A : Type 0} → Result A BookieFault → Result A GroupFault
passed (Ok a) = Ok a
passed (Err f) = Err (Refused f)

-- the answer of bookie n, where ask is what each would answer
abbrev pub answered : {A : Type 0} → List Bookie → BookieId → (Bookie → Result A BookieFault) → Result A GroupFault
answered bs n ask = question (nat_lt n.0 (length bs)) Missing (passed (ask (slice_index_or bs n.0 no_bookie)))

-- the group with bookie n changed; a number that no bookie has changes nothing
abbrev pub changed : List Bookie → BookieId → (Bookie → Bookie) → List Bookie
changed bs n change = slice_set bs n.0 (change (slice_index_or bs n.0 no_bookie))

-- nothing for a number of the group, and else the number less how many there are
abbrev pub beyond : List Bookie → BookieId → Option BookieId
beyond bs n = cond (nat_lt n.0 (length bs)) None (Some (bookie_id (n.0 - length bs)))

abbrev pub group_fits : List Bookie → Bool
group_fits bs = nat_le 1 (length bs) && nat_le (length bs) 8
