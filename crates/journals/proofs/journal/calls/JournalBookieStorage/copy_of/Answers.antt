use Rattle.std.proofs.Common.{ap, ◌∙◌, rules}
use Rattle.std.proofs.lemmas.Iterator.{YieldsList-from_map, YieldsList-from_slice}
use Rattle.std.proofs.lemmas.Iterator.Consumers.{YieldsList-at}
use Rattle.protocol.specs.Bookies.{find}
use Rattle.journals.specs.Records.{record_of}
use Rattle.journals.proofs.journal.calls.JournalBookieStorage.copy_of.Goals as goal

pub returns : goal.returns
returns c =
    c.find.ensures _ (YieldsList-from_map _ record_of (YieldsList-at c.map.ensures.source (YieldsList-from_slice _ c.iter.ensures.rest)) c.map.ensures.closure (λ x r q k. search rules)).runs
    ∙ ap (λ es. find es c.args.ledger.0 c.args.number.0) c.records.ensures
