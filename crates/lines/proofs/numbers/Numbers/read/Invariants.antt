use Rattle.std.proofs.Common.{◌≡◌, drop, eqb, length}
use Rattle.std.specs.List.{slice_split}
use Rattle.lines.specs.Numbers.{no_numbers, numbers_from}
use Rattle.lines.proofs.numbers.Numbers.read.Given as goal

-- the words that were read are counted, and those that are left give the answer
abbrev pub invariant-loop-word : goal.invariant-loop-word
invariant-loop-word l =
    let all = slice_split (λ b. eqb b 32) (drop 1 l.words) in
    (l.numbers.count ≡ length l.yielded) × (numbers_from l.numbers (drop (length l.yielded) all) ≡ numbers_from no_numbers all)
