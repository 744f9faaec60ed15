use Rattle.std.proofs.Common.{◌+◌, drop, ap, ◌∙◌, rules}
use Rattle.messages.specs.Waiting.{sent}
use Rattle.waiting.specs.Queues.{queue}
use Rattle.protocol.specs.Writers.{all_adds}
use Rattle.writers.proofs.Sends.{all_more}
use Rattle.writers.proofs.writers.Writer.send_pending.Goals as goal

pub loop-k-preserved : goal.loop-k-preserved
loop-k-preserved c =
    let w = c.args.self.now in
    let ps = c.as_slice-add-items.result.now in
    let k = c.loop-k.k in (
      c.loop-k.invariant.0,
      ap (λ q. sent q (all_adds w.layout c.args.ledger w.lac.0 (w.lac.0 + (k + 1)) (drop (k + 1) ps))) c.send_adds.ensures
          ∙ all_more w.layout c.args.ledger w.lac.0 w.lac.0 ps (queue c.loop-k.messages) k c.add-item.result (search rules) (search rules)
          ∙ c.loop-k.invariant.1,
    )
