use Rattle.std.proofs.Common.{◌≡◌, take, None}
use Rattle.ledgers.specs.Tables.{numbered}
use Rattle.chronicles.specs.Replays.{replayed}
use Rattle.chronicles.proofs.changes.latest.Given as goal

abbrev pub invariant-loop-change : goal.invariant-loop-change
invariant-loop-change l = l.found ≡ numbered (replayed (take l.change-index l.changes)) l.ledger.0 None
