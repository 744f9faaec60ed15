use Rattle.std.proofs.Common.{◌≡◌, true, length, rules}
use Rattle.journals.specs.Files.{size_fits}
use Rattle.journals.proofs.set_up.with_journal.Goals as goal

pub returns-clause-answer : goal.returns-clause-answer
returns-clause-answer g c =
    let size : size_fits (length c.args.file.now) ≡ true = search rules in
    (size, (c.new-bookie.result, c.work.new.arg2, c.new-bookie.ensures.means, c.new-bookie.ensures.bytes, search rules))
