use Rattle.std.proofs.Common.{◌≤◌, ◌-◌, length, drop, set, replicate, sym, ap, ◌∙◌, arith, length-set}
use mathlib.Core.Logic.{∥∥₁_elim, ∥∥₁_prop}
use Rattle.std.proofs.lemmas.Bool.Decides.{nat_tests}
use Rattle.places.specs.Memory.{contents}
use Rattle.places.proofs.Records.{append_behind, blank_past}
use Rattle.places.proofs.lent_lists.LentList.push.Goals as goal

pub invariant_of-self : goal.invariant_of-self
invariant_of-self g c =
    let xs = contents c.args.self.now.places in
    let n = c.args.self.now.count in
    let x = c.args.item in
    let r = c.append-self.result in
    let e = c.append-self.ensures in
    let within : n ≤ length xs = c.args.self.now.within in
    let size = ap length e.after ∙ length-set xs n x in
    let grows : n ≤ r = grind (arith, nat_tests, e.count) in
    let fits : r ≤ length xs = grind (arith, nat_tests, e.count) in
    record {
      within = omega (arith, fits, size);
      clear =
          ∥∥₁_elim c.args.self.now.clear ∥∥₁_prop
          (λ h.
          ∣ ap (drop r) e.after ∙ ap (λ k. drop k (set xs n x)) e.count ∙ append_behind xs n x
          ∙ ap (λ k. drop k xs) (sym e.count) ∙ blank_past xs (length xs) n r g.T.Blank.empty grows h
          ∙ ap (λ k. replicate (k - r) g.T.Blank.empty) (sym size) ∣₁);
    }
