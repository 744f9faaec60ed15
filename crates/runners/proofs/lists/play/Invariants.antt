use Rattle.std.proofs.Common.{◌≡◌, ◌≤◌, ◌++◌, length, drop, vec_items, vec_len, vec_capacity}
use Rattle.protocol.specs.Histories.{after, answers as told}
use Rattle.runners.proofs.lists.play.Given as goal

-- what is left gives the rest of the answers and the same cluster, and there is a place for each answer
abbrev pub invariant-loop-step : goal.invariant-loop-step
invariant-loop-step g l =
    let state = g.R.Runner.state in
    record {
      as_many : vec_len l.answers ≡ l.step-index;
      reserved : length l.steps ≤ vec_capacity l.answers;
      answered : vec_items l.answers ++ told (state l.runner) (drop l.step-index l.steps) ≡ told (state l.initial.runner) l.steps;
      left : after (state l.runner) (drop l.step-index l.steps) ≡ after (state l.initial.runner) l.steps;
    }
