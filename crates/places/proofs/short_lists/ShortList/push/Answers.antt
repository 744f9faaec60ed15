use Rattle.std.proofs.Common.{◌≡◌, ◌≤◌, length, take, drop, set, sym, ap, ◌∙◌, arith, length-set}
use mathlib.Core.Logic.{∥∥₁_elim, ∥∥₁_prop}
use Rattle.std.proofs.lemmas.Bool.Decides.{nat_tests}
use Rattle.places.specs.Lists.{posted}
use Rattle.places.proofs.Records.{append_records, append_behind, blank_past}
use Rattle.places.proofs.short_lists.ShortList.push.Goals as goal

pub invariant_of-self : goal.invariant_of-self
invariant_of-self g c =
    let xs = c.args.self.now.items in
    let n = c.args.self.now.count in
    let x = c.args.item in
    let r = c.append-self.result in
    let e = c.append-self.ensures in
    let size : length xs ≡ g.row.N = c.args.self.now.whole in
    let few : n ≤ g.row.N = c.args.self.now.few in
    let grows : n ≤ r = grind (arith, nat_tests, e.count) in
    let fits : r ≤ g.row.N = grind (arith, nat_tests, e.count) in
    record {
      whole = ap length e.after ∙ length-set xs n x ∙ size;
      few = fits;
      clear =
          ∥∥₁_elim c.args.self.now.clear ∥∥₁_prop
          (λ h.
          ∣ ap (drop r) e.after ∙ ap (λ k. drop k (set xs n x)) e.count ∙ append_behind xs n x
          ∙ ap (λ k. drop k xs) (sym e.count) ∙ blank_past xs g.row.N n r g.T.Blank.empty grows h ∣₁);
    }

pub returns : goal.returns
returns g c =
    let xs = c.args.self.now.items in
    let n = c.args.self.now.count in
    let x = c.args.item in
    let r = c.append-self.result in
    let e = c.append-self.ensures in
    ap (take r) e.after ∙ ap (λ k. take k (set xs n x)) e.count ∙ append_records xs n x
    ∙ ap (λ k. posted k (take n xs) x) c.args.self.now.whole
