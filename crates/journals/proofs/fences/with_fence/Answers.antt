use Rattle.std.proofs.Common.{◌≡◌, ◌*◌, ◌%◌, ◌^◌, ◌<◌, true, set, sym, ap, ◌∙◌, arith}
use lib.Bits.{bit_or}
use lib.Pow.{pow-lt}
use Rattle.std.proofs.lemmas.List.{set_past}
use Rattle.journals.specs.Fences.{flags, word}
use Rattle.journals.proofs.Bits.{length_flags, flags_set}
use Rattle.journals.proofs.Rows.{row_small, row_is, row_past}
use Rattle.journals.proofs.fences.with_fence.Goals as goal

pub returns-in-None : goal.returns-in-None
returns-in-None c =
    let fs = flags c.args.bits in
    let past = row_past fs c.args.ledger.0 c.in-None.ensures (length_flags c.args.bits) in
    c.requires ∙ ap word (sym (set_past fs _ true past))

pub returns-in-Some : goal.returns-in-Some
returns-in-Some c =
    let fs = flags c.args.bits in
    let l = c.args.ledger.0 in
    let r = c.in-Some.row in
    let small = row_small fs l r c.in-Some.ensures in
    let low : r < 32 = omega arith in
    let bit : 1 * 2 ^ r % 4294967296 ≡ 2 ^ r = omega (arith, pow-lt low) in
    ap (bit_or c.args.bits) bit ∙ ap (λ w. bit_or w (2 ^ r)) c.requires
    ∙ sym (ap (λ k. word (set fs k true)) (row_is fs l r c.in-Some.ensures) ∙ flags_set fs r (length_flags c.args.bits) small)
