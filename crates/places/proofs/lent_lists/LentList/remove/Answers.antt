use Rattle.std.proofs.Common.{◌≡◌, ◌-◌, ◌<◌, ◌≤◌, ◌∷◌, length, take, drop, replicate, sym, ap, ◌∙◌, arith}
use mathlib.Core.Logic.{∥∥₁_elim, ∥∥₁_prop}
use Rattle.std.proofs.lemmas.List.{length-take-le}
use Rattle.std.proofs.lemmas.Bool.{cond-true, lt-ltb}
use Rattle.places.specs.Memory.{contents}
use Rattle.places.proofs.Records.{taken_there, closed_records, closed_behind, blank_before}
use Rattle.places.proofs.lent_lists.LentList.remove.Goals as goal

pub invariant_of-self : goal.invariant_of-self
invariant_of-self g c =
    let xs = contents c.args.self.now.places in
    let n = c.args.self.now.count in
    let at = c.args.at in
    let blank = g.T.Blank.empty in
    let ys = contents c.remove-taken.new.self in
    let within : n ≤ length xs = c.args.self.now.within in
    let there = taken_there blank xs ys n at c.remove-taken.result (sym c.is_some.ensures ∙ c.if-is_some.true) c.remove-taken.ensures.after in
    let first : at < n = there.0 in
    let size : length ys ≡ length xs = c.remove-taken.ensures.room in
    record {
      within = omega (arith, within, size);
      clear =
          ∥∥₁_elim c.args.self.now.clear ∥∥₁_prop
          (λ h.
          ∣ ap (drop (n - 1)) there.1 ∙ closed_behind blank xs n at first within ∙ ap (λ behind. blank ∷ behind) h
          ∙ blank_before (length xs) n blank (omega (arith, first)) within
          ∙ ap (λ k. replicate (k - (n - 1)) blank) (sym size) ∣₁);
    }

pub returns-then-is_some-clause-records : goal.returns-then-is_some-clause-records
returns-then-is_some-clause-records g c =
    let xs = contents c.args.self.now.places in
    let n = c.args.self.now.count in
    let at = c.args.at in
    let within : n ≤ length xs = c.args.self.now.within in
    let there = taken_there g.T.Blank.empty xs (contents c.remove-taken.new.self) n at c.remove-taken.result (sym c.is_some.ensures ∙ c.if-is_some.true) c.remove-taken.ensures.after in
    let first : at < n = there.0 in
    let long = length-take-le n xs within in
    ap (take (n - 1)) there.1 ∙ closed_records g.T.Blank.empty xs n at first within
    ∙ sym (cond-true _ _ _ (lt-ltb at (length (take n xs)) (omega (arith, first, long))))
