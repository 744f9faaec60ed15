-- Which replies a recoverer waits for.
use Rattle.std.specs.Prelude.{Bool, false, ◌==◌}
use Rattle.messages.specs.declared.messages.Message.{Message}
use Rattle.messages.specs.declared.messages.Message.TheVariants.{Fence, RecoveryRead, Add, RecoveryAdd, Added, AddRefused, Fenced, Absent, Found, RecoveryAdded, Refused}
use Rattle.protocol.specs.Recoverers.{at_hand}
use Rattle.protocol.specs.declared.recoverers.Recoverer.{Recoverer}

-- a fence answer of its ledger, and any other for the entry at hand
abbrev pub is_awaited : Recoverer → Message → Bool
is_awaited x (Fence r l b) = false
is_awaited x (RecoveryRead r l b e) = false
is_awaited x (Add l b e n body) = false
is_awaited x (RecoveryAdd r l b e n body) = false
is_awaited x (Added l b e) = false
is_awaited x (AddRefused l b e f) = false
is_awaited x (Fenced r l b n) = l.0 == x.ledger.0
is_awaited x (Absent r l b e) = at_hand x l.0 e.0
is_awaited x (Found r l b e n body) = at_hand x l.0 e.0
is_awaited x (RecoveryAdded r l b e) = at_hand x l.0 e.0
is_awaited x (Refused r l b f) = false
