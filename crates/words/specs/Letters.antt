-- The letters and their bytes.
use Rattle.std.specs.Prelude.{ℕ, cond, Some, None, Option, ◌==◌}
use Rattle.words.specs.declared.letters.Letter.{Letter}
use Rattle.words.specs.declared.letters.Letter.TheVariants.{Create, Append, Resend, ChangeEnsemble, Close, Recover, AskAgain, Finish, Deliver, Duplicate, Discard, Stop, Start}

-- C A R E Z F G H D K X S T
abbrev pub byte_of : Letter → ℕ
byte_of Create = 67
byte_of Append = 65
byte_of Resend = 82
byte_of ChangeEnsemble = 69
byte_of Close = 90
byte_of Recover = 70
byte_of AskAgain = 71
byte_of Finish = 72
byte_of Deliver = 68
byte_of Duplicate = 75
byte_of Discard = 88
byte_of Stop = 83
byte_of Start = 84

-- the letter written as b, unless it is none of those before
abbrev pub written_as : Letter → ℕ → Option Letter → Option Letter
written_as x b others = cond (b == byte_of x) (Some x) others

abbrev pub letter_of : ℕ → Option Letter
letter_of b =
    written_as Create b (written_as Append b (written_as Resend b (written_as ChangeEnsemble b (written_as Close b
    (written_as Recover b (written_as AskAgain b (written_as Finish b (written_as Deliver b (written_as Duplicate b
    (written_as Discard b (written_as Stop b (written_as Start b None))))))))))))
