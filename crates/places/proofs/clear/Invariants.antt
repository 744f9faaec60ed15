use Rattle.std.proofs.Common.{◌≡◌, take, replicate}
use Rattle.places.proofs.clear.Given as goal

-- the places passed so far are blank
abbrev pub invariant-loop-place : goal.invariant-loop-place
invariant-loop-place g l = take l.place-index l.places ≡ replicate l.place-index g.T.Blank.empty
