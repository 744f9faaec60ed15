-- The steps that numbers make.
use Rattle.std.specs.Prelude.{ℕ, cond, ◌||◌, Some, None, Option, ◌==◌, nat_lt, slice_index}
use Rattle.std.specs.List.{between}
use Rattle.ledgers.specs.Ids.{ledger_id, bookie_id, position_id, message_place, recoverer_id}
use Rattle.ledgers.specs.BookieLists.{made_list}
use Rattle.ledgers.specs.declared.bookie_lists.BookieList.{BookieList}
use Rattle.ledgers.specs.declared.steps.Step.{Step}
use Rattle.ledgers.specs.declared.steps.Step.TheVariants.{Create, Resend, ChangeEnsemble, Close, Recover, AskAgain, Finish, Deliver, Duplicate, Discard, Stop, Start}
use Rattle.words.specs.declared.letters.Letter.{Letter}
use Rattle.words.specs.declared.letters.Letter.TheVariants as letter
use Rattle.lines.specs.declared.numbers.Numbers.{Numbers}

abbrev pub at_place : Numbers → ℕ → ℕ
at_place n i = slice_index n.values i

abbrev pub create_with : Numbers → Option BookieList → Option Step
create_with n None = None
create_with n (Some bs) = Some (Create (ledger_id (at_place n 0)) (at_place n 1) (at_place n 2) (at_place n 3) bs)

-- a create takes a ledger, three sizes and one to five bookies
abbrev pub create_of : Numbers → Option Step
create_of n =
    cond (nat_lt n.count 5 || nat_lt 9 n.count) None (create_with n (made_list (between 4 n.count n.values)))

-- a step that takes just so many numbers
abbrev pub taking : ℕ → Numbers → Step → Option Step
taking k n s = cond (n.count == k) (Some s) None

-- the step that numbers make after a letter, if they are as many as it takes; an append takes no numbers alone
abbrev pub step_of : Letter → Numbers → Option Step
step_of letter.Create n = create_of n
step_of letter.Append n = None
step_of letter.Resend n = taking 1 n (Resend (ledger_id (at_place n 0)))
step_of letter.ChangeEnsemble n = taking 3 n (ChangeEnsemble (ledger_id (at_place n 0)) (position_id (at_place n 1)) (bookie_id (at_place n 2)))
step_of letter.Close n = taking 1 n (Close (ledger_id (at_place n 0)))
step_of letter.Recover n = taking 2 n (Recover (recoverer_id (at_place n 0)) (ledger_id (at_place n 1)))
step_of letter.AskAgain n = taking 1 n (AskAgain (recoverer_id (at_place n 0)))
step_of letter.Finish n = taking 1 n (Finish (recoverer_id (at_place n 0)))
step_of letter.Deliver n = taking 1 n (Deliver (message_place (at_place n 0)))
step_of letter.Duplicate n = taking 1 n (Duplicate (message_place (at_place n 0)))
step_of letter.Discard n = taking 1 n (Discard (message_place (at_place n 0)))
step_of letter.Stop n = taking 1 n (Stop (bookie_id (at_place n 0)))
step_of letter.Start n = taking 1 n (Start (bookie_id (at_place n 0)))
