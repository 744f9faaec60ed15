-- A run goes on by any steps.
use Rattle.std.proofs.Common.{List, [], ◌∷◌}
use Rattle.ledgers.specs.declared.steps.Step.{Step}
use Rattle.protocol.specs.Clusters.{Cluster}
use Rattle.protocol.specs.Steps.{step}
use Rattle.protocol.specs.Histories.{History, Runs, event, more, Reached, after, noting}
use Rattle.protocol.specs.Law.{StepsGoOn, ListsGoOn}
use Rattle.protocol.proofs.Words.{law}
use Rattle.protocol.proofs.Rounds.{rounds}

-- so a call that takes a step may promise the law of whatever led to it
pub onward : StepsGoOn
onward c s h (spaces, changes, room, run) =
    let on : Reached (event c s ∷ h) (step c s).next = (spaces, changes, room, more s run) in
    (on, law (event c s ∷ h) (step c s).next on, rounds (event c s ∷ h) (step c s).next on)

-- step after step
runs_on : {h₁ : History} {c₁ : Cluster} (ss : List Step) {h : History} {c : Cluster} → Runs h₁ c₁ h c → Runs h₁ c₁ (noting h c ss) (after c ss)
runs_on [] run = run
runs_on (s ∷ ss) run = runs_on ss (more s run)

-- and a call that takes steps may promise it of all of them
pub all_onward : ListsGoOn
all_onward c ss h (spaces, changes, room, run) =
    let on : Reached (noting h c ss) (after c ss) = (spaces, changes, room, runs_on ss run) in
    (on, law (noting h c ss) (after c ss) on, rounds (noting h c ss) (after c ss) on)
