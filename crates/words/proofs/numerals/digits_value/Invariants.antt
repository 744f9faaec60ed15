use Rattle.std.proofs.Common.{◌≡◌, ◌^◌, ◌<◌, drop}
use Rattle.words.specs.Numerals.{onward}
use Rattle.words.proofs.numerals.digits_value.Given as goal

-- the digits that are left give the answer
abbrev pub invariant-loop-byte : goal.invariant-loop-byte
invariant-loop-byte l =
    (l.value < 10 ^ l.byte-index) × (onward l.value (drop l.byte-index l.word) ≡ onward 0 l.word)
