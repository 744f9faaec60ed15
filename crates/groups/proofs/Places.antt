-- What is put at a place of two groups side by side is put into the left one or into the right one.
use Rattle.std.proofs.lemmas.List.{length-append, get_or_append_left, get_or-append_right, set-append_left, set-append_right}
use Rattle.std.proofs.lemmas.Bool.Decides.{nat_tests}

pub ruleset sides = (length-append, get_or_append_left, get_or-append_right, set-append_left, set-append_right, nat_tests)
