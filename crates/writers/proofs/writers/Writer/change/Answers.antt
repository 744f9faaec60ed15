use Rattle.std.proofs.Common.{suc, ap, ◌∙◌}
use Rattle.ledgers.specs.Ids.{lac_id}
use Rattle.messages.specs.declared.metadata.LedgerState.TheVariants.{Open}
use Rattle.protocol.specs.Stores.{put_after}
use Rattle.protocol.specs.Writers.{fenced_writer}
use Rattle.writers.specs.Meaning.{meant}
use Rattle.writers.specs.Puts.{after_put, adopted}
use Rattle.writers.proofs.writers.Writer.change.Goals as goal

pub returns-clause-after : goal.returns-clause-after
returns-clause-after g c =
    let self = c.args.self.now in
    let w = meant self in
    c.change_to.ensures.after
    ∙ ap (λ y. after_put c.change_to.result (adopted w y (suc self.version.0) c.args.position) (fenced_writer w) w) c.changed-layout.ensures.layout

pub returns-clause-stored : goal.returns-clause-stored
returns-clause-stored g c =
    let s = g.S.Store.means c.args.ledgers.now in
    c.change_to.ensures.stored
    ∙ ap (λ y. after_put c.change_to.result (put_after s c.args.ledger c.args.self.now.version Open y (lac_id 0)) s s) c.changed-layout.ensures.layout
