use Rattle.std.proofs.Common.{◌≡◌, ◌-◌, ◌<◌, ◌≤◌, ◌∷◌, length, take, drop, sym, ap, ◌∙◌, arith}
use mathlib.Core.Logic.{∥∥₁_elim, ∥∥₁_prop}
use Rattle.std.proofs.lemmas.List.{length-take-le}
use Rattle.std.proofs.lemmas.Bool.{cond-true, lt-ltb}
use Rattle.places.proofs.Records.{taken_there, closed_records, closed_behind, blank_before}
use Rattle.places.proofs.short_lists.ShortList.remove.Goals as goal

pub invariant_of-self : goal.invariant_of-self
invariant_of-self g c =
    let xs = c.args.self.now.items in
    let n = c.args.self.now.count in
    let at = c.args.at in
    let blank = g.T.Blank.empty in
    let ys = c.remove-taken.new.places in
    let size : length xs ≡ g.row.N = c.args.self.now.whole in
    let few : n ≤ g.row.N = c.args.self.now.few in
    let fits : n ≤ length xs = omega (arith, size, few) in
    let there = taken_there blank xs ys n at c.remove-taken.result (sym c.is_some.ensures ∙ c.if-is_some.true) c.remove-taken.ensures in
    let first : at < n = there.0 in
    let same : length ys ≡ length xs = c.remove-taken.auto.places in
    record {
      whole = same ∙ size;
      few = omega (arith, few);
      clear =
          ∥∥₁_elim c.args.self.now.clear ∥∥₁_prop
          (λ h.
          ∣ ap (drop (n - 1)) there.1 ∙ closed_behind blank xs n at first fits ∙ ap (λ behind. blank ∷ behind) h
          ∙ blank_before g.row.N n blank (omega (arith, first)) few ∣₁);
    }

pub returns-then-is_some-clause-records : goal.returns-then-is_some-clause-records
returns-then-is_some-clause-records g c =
    let xs = c.args.self.now.items in
    let n = c.args.self.now.count in
    let at = c.args.at in
    let size : length xs ≡ g.row.N = c.args.self.now.whole in
    let few : n ≤ g.row.N = c.args.self.now.few in
    let fits : n ≤ length xs = omega (arith, size, few) in
    let there = taken_there g.T.Blank.empty xs c.remove-taken.new.places n at c.remove-taken.result (sym c.is_some.ensures ∙ c.if-is_some.true) c.remove-taken.ensures in
    let first : at < n = there.0 in
    let long = length-take-le n xs fits in
    ap (take (n - 1)) there.1 ∙ closed_records g.T.Blank.empty xs n at first fits
    ∙ sym (cond-true _ _ _ (lt-ltb at (length (take n xs)) (omega (arith, first, long))))
