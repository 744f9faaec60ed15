use Rattle.std.proofs.Common.{rules}
use Rattle.journals.proofs.set_up.lend_journal.Goals as goal

-- the bookie that the closure was called on is the one that the user worked with
pub returns-clause-answer : goal.returns-clause-answer
returns-clause-answer g c =
    let called = c.in_ok-answer.ensures.answer in
    (called.0, (called.1.0, called.1.2, called.1.3, search rules))
