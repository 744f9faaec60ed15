-- The numbers of a group's refusals.
use Rattle.std.specs.Prelude.{ℕ}
use Rattle.messages.specs.Faults.{bookie_number}
use Rattle.groups.specs.declared.faults.GroupFault.{GroupFault}
use Rattle.groups.specs.declared.faults.GroupFault.TheVariants.{Missing, Refused}

abbrev pub group_number : GroupFault → ℕ
group_number Missing = 4
group_number (Refused f) = bookie_number f
