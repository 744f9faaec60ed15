use Rattle.std.proofs.Common.{None, ap, ◌∙◌, arith}
use Rattle.ledgers.specs.Tables.{numbered}
use Rattle.protocol.specs.Stores.{known}
use Rattle.chronicles.specs.Chronicles.{history}
use Rattle.chronicles.specs.Replays.{replayed}
use Rattle.chronicles.proofs.Replay.{kept_within}
use Rattle.chronicles.proofs.chronicle.Chronicle.kept.Goals as goal

pub returns-clause-version : goal.returns-clause-version
returns-clause-version c =
    let is = c.latest.ensures ∙ ap (λ cs. numbered (replayed cs) c.args.ledger.0 None) c.changes.ensures.value in
    omega (arith, ap (λ m. (known m).version.0) is, kept_within (history c.args.self.now) c.args.ledger.0)
