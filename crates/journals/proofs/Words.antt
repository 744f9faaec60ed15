-- Numbers from the bytes where they stand.
use Rattle.std.proofs.Common.{◌≡◌, ℕ, ◌+◌, ◌<◌, List, get_or, take, drop, add-zero, ap, ◌∙◌, w32, arith}
use Rattle.std.proofs.lemmas.List.{get_or-take, get_or-drop}
use Rattle.std.specs.Int.{from_le_bytes, w16}
use Rattle.journals.specs.Numbers.{le2, le4}

at_part : (s : List ℕ) (i k w : ℕ) → k < w → get_or (take w (drop i s)) k 0 ≡ get_or s (i + k) 0
at_part s i k w lt = get_or-take w (drop i s) k 0 lt ∙ get_or-drop i s k 0

pub word2 : (s : List ℕ) (i n : ℕ) (bs : List ℕ) → bs ≡ take 2 (drop i s) → n ≡ from_le_bytes w16 bs → n ≡ le2 s i
unfolding le2
word2 s i n bs part is =
    let a = at_part s i 0 2 (omega arith) in
    let b = at_part s i 1 2 (omega arith) in
    let o : get_or s (i + 0) 0 ≡ get_or s i 0 = ap (λ j. get_or s j 0) (add-zero i) in
    is ∙ ap (from_le_bytes w16) part ∙ omega arith

pub word4 : (s : List ℕ) (i n : ℕ) (bs : List ℕ) → bs ≡ take 4 (drop i s) → n ≡ from_le_bytes w32 bs → n ≡ le4 s i
unfolding le4
word4 s i n bs part is =
    let a = at_part s i 0 4 (omega arith) in
    let b = at_part s i 1 4 (omega arith) in
    let c = at_part s i 2 4 (omega arith) in
    let d = at_part s i 3 4 (omega arith) in
    let o : get_or s (i + 0) 0 ≡ get_or s i 0 = ap (λ j. get_or s j 0) (add-zero i) in
    is ∙ ap (from_le_bytes w32) part ∙ omega arith
