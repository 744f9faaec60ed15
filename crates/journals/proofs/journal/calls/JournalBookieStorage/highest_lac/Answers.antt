use Rattle.std.proofs.Common.{ap, ◌∙◌, rules}
use Rattle.std.proofs.lemmas.Iterator.{YieldsList-from_map, YieldsList-from_slice}
use Rattle.std.proofs.lemmas.Iterator.Consumers.{YieldsList-at}
use Rattle.protocol.specs.Bookies.{highest_lac}
use Rattle.journals.specs.Records.{record_of}
use Rattle.journals.proofs.journal.calls.JournalBookieStorage.highest_lac.Goals as goal

pub returns : goal.returns
returns c =
    c.highest.ensures _ (YieldsList-from_map _ record_of (YieldsList-at c.map.ensures.source (YieldsList-from_slice _ c.iter.ensures.rest)) c.map.ensures.closure (λ x r q k. search rules)).runs
    ∙ ap (λ es. highest_lac es c.args.ledger.0) c.records.ensures
