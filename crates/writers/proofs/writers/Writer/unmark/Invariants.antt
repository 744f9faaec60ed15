use Rattle.std.proofs.Common.{◌≡◌, ◌++◌, map, length, take, drop}
use Rattle.places.specs.ShortLists.{listed}
use Rattle.protocol.specs.Writers.{unmarked, with_pending}
use Rattle.writers.specs.Meaning.{meant}
use Rattle.writers.proofs.writers.Writer.unmark.Given as goal

-- the pending adds passed so far are unmarked
abbrev pub invariant-loop-k : goal.invariant-loop-k
invariant-loop-k l =
    let olds = listed l.initial.self.pending in
    (length (listed l.self.pending) ≡ length olds)
    × (meant l.self ≡ with_pending (meant l.initial.self) l.initial.self.lac.0 (map (unmarked l.position.0) (take l.k olds) ++ drop l.k olds))
