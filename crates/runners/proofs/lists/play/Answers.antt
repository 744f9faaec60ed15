use Rattle.std.proofs.Common.{◌≡◌, ◌+◌, [], ◌∷◌, ◌++◌, drop, vec_items, sym, ap, ◌∙◌, subst, append-nil, arith}
use Rattle.std.proofs.lemmas.List.{at_drop_all}
use Rattle.protocol.specs.Steps.{step}
use Rattle.protocol.specs.Histories.{after, answers as told}
use Rattle.protocol.specs.Law.{ListGoesOn}
use Rattle.protocol.proofs.Onward.{all_onward}
use Rattle.runners.proofs.Turns.{after_more, answers_more}
use Rattle.runners.proofs.lists.play.Goals as goal

pub loop-step-preserved : goal.loop-step-preserved
loop-step-preserved g c =
    let ss = c.args.steps.now in
    let i = c.loop-step.step-index in
    let s = c.step-item.result in
    let c₁ = g.R.Runner.state c.loop-step.runner in
    let rest = drop (i + 1) ss in
    let pushed = c.push_reserved.ensures in
    let e₁ = c.step.ensures.answer in
    let e₂ = c.step.ensures.after in
    let old = vec_items c.loop-step.answers in
    record {
      as_many = omega (arith, pushed.len);
      reserved = omega (arith, pushed.capacity);
      answered =
          ap (λ xs. xs ++ told (g.R.Runner.state c.step.new.self) rest) pushed.items
          ∙ ap (λ a. (old ++ (a ∷ [])) ++ told (g.R.Runner.state c.step.new.self) rest) e₁
          ∙ ap (λ v. (old ++ ((step c₁ s).answer ∷ [])) ++ told v rest) e₂
          ∙ answers_more c₁ ss i s c.loop-step-test.true c.step-item.is old
          ∙ c.loop-step.invariant.answered;
      left = ap (λ v. after v rest) e₂ ∙ after_more c₁ ss i s c.loop-step-test.true c.step-item.is ∙ c.loop-step.invariant.left;
    }

pub returns : goal.returns
returns g c =
    let ss = c.args.steps.now in
    let i = c.loop-step.step-index in
    let c₀ = g.R.Runner.state c.args.runner.now in
    let c₁ = g.R.Runner.state c.loop-step.runner in
    let left : c₁ ≡ after c₀ ss = sym (at_drop_all (after c₁) ss i c.loop-step-test.false) ∙ c.loop-step.invariant.left in
    record {
      answered =
          sym (append-nil (vec_items c.loop-step.answers))
          ∙ sym (at_drop_all (λ ts. vec_items c.loop-step.answers ++ told c₁ ts) ss i c.loop-step-test.false)
          ∙ c.loop-step.invariant.answered;
      left = left;
      law = subst (ListGoesOn c₀ ss) (sym left) (all_onward c₀ ss);
    }
