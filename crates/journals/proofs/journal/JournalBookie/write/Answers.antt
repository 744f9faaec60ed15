use Rattle.std.proofs.Common.{refl, ap, arith, rules}
use Rattle.std.proofs.lemmas.List.{length_push}
use Rattle.journals.specs.Files.{entries_in}
use Rattle.journals.proofs.Owned.{stood, said, bookie_same}
use Rattle.journals.proofs.Writes.{entry_kept}
use Rattle.journals.proofs.journal.JournalBookie.write.Goals as goal

pub write_record-requires : goal.write_record-requires
write_record-requires c =
    let space = (said c.args.self.now).space in
    let end = ap (λ h. h.end) c.header-header.ensures in
    omega arith

pub invariant_of-self : goal.invariant_of-self
invariant_of-self c =
    let s = c.args.self.now in
    let kept = (entry_kept _ (stood s) _ c.header-header.ensures c.args.held _ _ (search rules) (omega arith) c.write_record.ensures c.write_header.ensures).keeps in
    record { least = kept.least; most = kept.most; room = kept.room; sound = kept.sound; laid = kept.laid }

pub returns : goal.returns
returns c =
    let s = c.args.self.now in
    let now = (entry_kept _ (stood s) _ c.header-header.ensures c.args.held _ _ (search rules) (omega arith) c.write_record.ensures c.write_header.ensures).tells in
    bookie_same _ _ refl now.entries now.fences
    (omega (arith, now.space, (said s).space, length_push (entries_in s.journal.file.now) c.args.held))
