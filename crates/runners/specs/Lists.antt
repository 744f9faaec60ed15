-- A list of steps was taken.
use Rattle.std.specs.Prelude.{◌≡◌, List, Result}
use Rattle.ledgers.specs.declared.steps.Step.{Step}
use Rattle.protocol.specs.Clusters.{Cluster}
use Rattle.protocol.specs.Histories.{after, answers}
use Rattle.protocol.specs.Law.{ListGoesOn}
use Rattle.protocol.specs.declared.answers.Answer.{Answer}
use Rattle.protocol.specs.declared.faults.StepFault.{StepFault}

-- each of them is answered as defined, and whatever led to the first a closed ledger keeps its word
pub record Taken (c : Cluster) (ss : List Step) (given : List (Result Answer StepFault)) (c' : Cluster) : Type 0 where
  pub answered : given ≡ answers c ss
  pub left : c' ≡ after c ss
  pub law : ListGoesOn c ss c'
