use Rattle.std.proofs.Common.{◌≡◌, ℕ, ◌≤◌, true, Some, sym, ap, ◌∙◌, arith}
use Rattle.std.proofs.lemmas.Bool.{cond-true, and_from, le-leb}
use Rattle.layout.specs.Sizes.{in_order, sizes_of}
use Rattle.layout.proofs.Same.{sizes_same}
use Rattle.layout.proofs.sizes.Sizes.new.Goals as goal

-- the tests passed, so the sizes are in order
ordered : (e w k : ℕ) → e ≤ 5 → w ≤ e → k ≤ w → 1 ≤ k → in_order e w k ≡ true
ordered e w k a b c d = and_from _ _ (le-leb e 5 a) (and_from _ _ (le-leb w e b) (and_from _ _ (le-leb k w c) (le-leb 1 k d)))

pub returns-then-ack-ge1 : goal.returns-then-ack-ge1
returns-then-ack-ge1 c =
    let e : ℕ = c.args.ensemble in
    let w : ℕ = c.args.write in
    let k : ℕ = c.args.ack in
    ap Some (sizes_same _ (sizes_of e w k) (omega arith) (omega arith) (omega arith))
    ∙ sym (cond-true _ _ _ (ordered e w k (omega arith) (omega arith) (omega arith) (omega arith)))
