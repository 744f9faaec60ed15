-- Versions that are not above the number of changes: what a table of them gives, and how a change keeps it.
use Rattle.std.proofs.Common.{◌≡◌, ℕ, zero, suc, ◌+◌, ◌≤◌, true, List, [], ◌∷◌, get_or, set, Some, None, Option, refl, arith}
use Rattle.std.proofs.lemmas.Bool.{and_from, le-leb}
use Rattle.std.proofs.lemmas.Bool.Decides.{nat_tests}
use Rattle.messages.specs.declared.metadata.Metadata.{Metadata}
use Rattle.protocol.specs.Stores.{known}
use Rattle.stores.specs.Versions.{versions_within}

-- what a row holds, past the end too
pub version_within : (n : ℕ) (ms : List (Option Metadata)) (i : ℕ) → versions_within n ms ≡ true → (known (get_or ms i None)).version.0 ≤ n
version_within n [] i h = omega arith
version_within n (m ∷ ms) zero h = grind (arith, nat_tests)
version_within n (m ∷ ms) (suc i) h = version_within n ms i (grind (arith, nat_tests))

-- a change more
pub within_more : (n : ℕ) (ms : List (Option Metadata)) → versions_within n ms ≡ true → versions_within (n + 1) ms ≡ true
within_more n [] h = refl
within_more n (m ∷ ms) h =
    let rest : versions_within n ms ≡ true = grind (arith, nat_tests) in
    and_from _ _ (le-leb (known m).version.0 (n + 1) (grind (arith, nat_tests))) (within_more n ms rest)

-- a row is set to a version that is not above it either
pub within_set : (n : ℕ) (ms : List (Option Metadata)) (i : ℕ) (m : Metadata) → versions_within n ms ≡ true → m.version.0 ≤ n
    → versions_within n (set ms i (Some m)) ≡ true
within_set n [] i m h new = refl
within_set n (k ∷ ms) zero m h new =
    let rest : versions_within n ms ≡ true = grind (arith, nat_tests) in and_from _ _ (le-leb m.version.0 n new) rest
within_set n (k ∷ ms) (suc i) m h new =
    let rest : versions_within n ms ≡ true = grind (arith, nat_tests) in
    and_from _ _ (le-leb (known k).version.0 n (grind (arith, nat_tests))) (within_set n ms i m rest new)
