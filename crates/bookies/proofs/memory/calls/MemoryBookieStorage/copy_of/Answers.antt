use Rattle.std.proofs.Common.{ap, ◌∙◌}
use Rattle.std.proofs.lemmas.Iterator.{YieldsList-from_slice}
use Rattle.std.proofs.lemmas.Iterator.Consumers.{YieldsList-from_copied, YieldsList-at}
use Rattle.protocol.specs.Bookies.{find as copy_in}
use Rattle.bookies.proofs.memory.calls.MemoryBookieStorage.copy_of.Goals as goal

pub returns : goal.returns
returns c =
    c.find.ensures _ (YieldsList-from_copied (YieldsList-at c.copied.ensures.source (YieldsList-from_slice _ c.iter.ensures.rest))).runs
    ∙ ap (λ xs. copy_in xs c.args.ledger.0 c.args.number.0) c.as_slice.ensures
