use Rattle.std.proofs.Common.{refl, rules}
use Rattle.journals.proofs.Owned.{bookie_same}
use Rattle.journals.proofs.Writes.{new_written}
use Rattle.journals.proofs.journal.JournalBookie.new.Goals as goal

pub invariant_of-result : goal.invariant_of-result
invariant_of-result c =
    let new = (new_written c.args.file.now _ _ (search rules) c.clear.ensures c.write_header.ensures).0.keeps in
    record { least = new.least; most = new.most; room = new.room; sound = new.sound; laid = new.laid }

pub returns : goal.returns
returns c =
    let new = new_written c.args.file.now _ _ (search rules) c.clear.ensures c.write_header.ensures in
    let says = new.0.tells in
    record { means = bookie_same _ _ refl says.entries says.fences says.space; bytes = new.1 }
