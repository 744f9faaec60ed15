use Rattle.std.proofs.Common.{◌≡◌, ℕ, ◌+◌, ◌-◌, length, arith}
use Rattle.std.proofs.lemmas.List.{drop-replicate}
use Rattle.ledgers.specs.Bodies.{content}
use Rattle.journals.specs.Records.{record_image}
use Rattle.journals.proofs.bytes.image.Goals as goal

pub returns : goal.returns
unfolding record_image
returns c =
    let n = length (content c.args.held.now.body) in
    let all : 12 + n - 12 ≡ n = omega arith in
    let zeros = drop-replicate {X = ℕ} n 40 0 in
    simp (c.copy_from_slice-3.ensures.after, c.put_number-2.ensures, c.put_number.ensures, c.copy_from_slice-2.ensures.after, c.copy_from_slice.ensures.after, c.to_le_bytes.ensures, c.to_le_bytes-2.ensures, c.as_slice-body.ensures, all, zeros)
