use Rattle.std.proofs.Common.{◌≡◌, ◌++◌, length, drop, vec_items}
use Rattle.script.specs.Playing.{new_player}
use Rattle.script.specs.Inputs.{lines_of, all_bytes, all_counted}
use Rattle.script.proofs.inputs.play_lines.Given as goal

-- what is printed so far and the lines that are left give the answer, and so do the counts
abbrev pub invariant-loop-line : goal.invariant-loop-line
invariant-loop-line l =
    let left = drop (length l.yielded) (lines_of l.input) in
    (vec_items l.output ++ all_bytes l.player left ≡ vec_items l.initial.output ++ all_bytes new_player (lines_of l.input))
    × (all_counted l.player left ≡ all_counted new_player (lines_of l.input))
