-- One step more of a list: what is left gives the same.
use Rattle.std.proofs.Common.{◌≡◌, ℕ, ◌+◌, ◌<◌, List, [], ◌∷◌, ◌++◌, length, get_or, drop, Result, sym, ap, ◌∙◌, append_assoc}
use Rattle.std.proofs.lemmas.List.{drop_more}
use Rattle.ledgers.specs.declared.steps.Step.{Step}
use Rattle.protocol.specs.Clusters.{Cluster}
use Rattle.protocol.specs.Steps.{step}
use Rattle.protocol.specs.Histories.{after, answers}
use Rattle.protocol.specs.declared.answers.Answer.{Answer}
use Rattle.protocol.specs.declared.faults.StepFault.{StepFault}

module _ (c : Cluster) (ss : List Step) (i : ℕ) (s : Step) (lt : i < length ss) (is : s ≡ get_or ss i s) where
  -- the steps that are left begin with this one
  next : drop i ss ≡ s ∷ drop (i + 1) ss
  next = drop_more ss i s lt ∙ ap (λ x. x ∷ drop (i + 1) ss) (sym is)

  pub after_more : after (step c s).next (drop (i + 1) ss) ≡ after c (drop i ss)
  after_more = sym (ap (after c) next)

  pub answers_more : (given : List (Result Answer StepFault)) → (given ++ ((step c s).answer ∷ [])) ++ answers (step c s).next (drop (i + 1) ss) ≡ given ++ answers c (drop i ss)
  answers_more given =
      append_assoc given ((step c s).answer ∷ []) (answers (step c s).next (drop (i + 1) ss)) ∙ ap (λ ts. given ++ answers c ts) (sym next)
