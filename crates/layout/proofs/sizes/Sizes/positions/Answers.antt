use Rattle.std.proofs.Common.{◌≡◌, ◌+◌, ◌%◌, ◌<◌, [], ◌∷◌, ◌++◌, length, subst, sym, ap, ◌∙◌, arith}
use Rattle.std.proofs.Math.Nat.{mod-add-mod}
use Rattle.std.proofs.lemmas.Bool.{cond-true, lt-ltb}
use Rattle.std.proofs.lemmas.Nat.{mod_below}
use Rattle.places.specs.Lists.{posted}
use Rattle.layout.specs.WriteSets.{positions}
use Rattle.layout.proofs.Turns.{positions_push, length_positions}
use Rattle.layout.proofs.sizes.Sizes.positions.Goals as goal

pub loop-offset-preserved : goal.loop-offset-preserved
loop-offset-preserved c =
    let i = c.loop-offset.offset in
    let m = c.args.self.now.ensemble in
    let so_far = positions i c.args.e.0 m in
    let p = c.loop-offset.at.0 in
    let here = c.loop-offset.invariant.1 in
    let one_on : (c.args.e.0 + i) + 1 ≡ c.args.e.0 + (i + 1) = omega arith in (
      c.push.ensures ∙ ap (λ ps. posted 5 ps p) c.loop-offset.invariant.0
          ∙ cond-true _ _ _ (lt-ltb (length so_far) 5 (omega (arith, length_positions i c.args.e.0 m)))
          ∙ ap (λ q. so_far ++ (q ∷ [])) here ∙ sym (positions_push i c.args.e.0 m),
      c.position_after-at.ensures ∙ ap (λ q. (q + 1) % m) here ∙ mod-add-mod (c.args.e.0 + i) m 1 ∙ ap (λ k. k % m) one_on,
    )

pub position_after-at-requires : goal.position_after-at-requires
position_after-at-requires c =
    let m = c.args.self.now.ensemble in
    subst (λ p. p < m) (sym c.loop-offset.invariant.1) (mod_below (c.args.e.0 + c.loop-offset.offset) m (omega arith))
