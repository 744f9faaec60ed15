-- Record by record through the bytes.
use Rattle.std.proofs.Common.{◌≡◌, ℕ, zero, suc, ◌*◌, ◌/◌, ◌≤◌, List, ◌∷◌, length, map, take, drop, refl, ap, ◌∙◌, arith}
use Rattle.std.specs.Simd.{first_chunks}
use Rattle.journals.specs.Records.{record_of, records_of}

each : (n m : ℕ) (s : List ℕ) → n ≤ m → map record_of (take n (first_chunks 52 m s)) ≡ records_of n s
each zero m s few = refl
each (suc n) zero s few = absurd (omega arith)
each (suc n) (suc m) s few = ap (λ es. record_of (take 52 s) ∷ es) (each n m (drop 52 s) (omega arith))

-- the parts of 52 bytes are the records
pub records_are : (n : ℕ) (s t : List ℕ) (parts : List (List ℕ)) → parts ≡ first_chunks 52 (length s / 52) s → s ≡ t → 52 * n ≤ length t
    → map record_of (take n parts) ≡ records_of n t
records_are n s t parts cut same few =
    let l : length s ≡ length t = ap length same in
    ap (λ ps. map record_of (take n ps)) cut ∙ each n (length s / 52) s (omega arith) ∙ ap (records_of n) same
