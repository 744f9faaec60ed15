use Rattle.std.proofs.Common.{◌≡◌, length}
use Rattle.places.specs.ShortLists.{listed}
use Rattle.protocol.specs.Writers.{with_front, confirmed}
use Rattle.writers.specs.Meaning.{meant}
use Rattle.writers.proofs.writers.Writer.confirm.Given as goal

-- what is left to confirm
abbrev pub invariant-loop-self : goal.invariant-loop-self
invariant-loop-self l =
    with_front (meant l.self) (confirmed l.self.layout l.self.lac.0 (listed l.self.pending))
    ≡ with_front (meant l.initial.self) (confirmed l.initial.self.layout l.initial.self.lac.0 (listed l.initial.self.pending))

abbrev pub decreases-loop-self : goal.decreases-loop-self
decreases-loop-self l = length (listed l.self.pending)
