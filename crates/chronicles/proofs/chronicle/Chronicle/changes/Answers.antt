use Rattle.std.proofs.Common.{sym, ap, ◌∙◌}
use Rattle.layout.specs.WriteSets.{tally}
use Rattle.chronicles.specs.Chronicles.{history}
use Rattle.chronicles.specs.Replays.{of_ledger}
use Rattle.chronicles.proofs.Replay.{complete}
use Rattle.chronicles.proofs.chronicle.Chronicle.changes.Goals as goal

pub returns-clause-complete : goal.returns-clause-complete
returns-clause-complete c = λ l there. complete (history c.args.self.now) l there ∙ ap (tally (of_ledger l)) (sym c.as_slice.ensures)
