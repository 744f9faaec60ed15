-- The positions of an ensemble: write sets, marks on positions, and what a set of positions covers.
use Rattle.std.specs.Prelude.{ℕ, zero, suc, ◌-◌, ◌%◌, Bool, true, false, cond, ◌&&◌, List, [], ◌∷◌, replicate, ◌==◌, nat_le, slice_index, slice_index_or, slice_set}
use Rattle.ledgers.specs.Limits.{max_ensemble}
use Rattle.layout.specs.declared.sizes.Sizes.{Sizes}

-- n positions of an ensemble of m, from that of entry e on
abbrev pub positions : ℕ → ℕ → ℕ → List ℕ
positions zero e m = []
positions (suc n) e m = (e % m) ∷ positions n (suc e) m

-- the positions that entry e is written to, in the order of sending
abbrev pub write_set : Sizes → ℕ → List ℕ
write_set s e = positions s.write e s.ensemble

-- all positions, in order
abbrev pub ensemble : Sizes → List ℕ
ensemble s = positions s.ensemble 0 s.ensemble

-- how many pass the test
abbrev pub tally : {A : Type 0} → (A → Bool) → List A → ℕ
tally t [] = 0
tally t (x ∷ xs) = cond (t x) (suc (tally t xs)) (tally t xs)

-- position p is marked
abbrev pub marked : List Bool → ℕ → Bool
marked m p = slice_index_or m p false

-- no position is marked
abbrev pub no_marks : List Bool
no_marks = replicate max_ensemble false

-- of a write set, so many positions that do not acknowledge leave no ack quorum: W - K + 1
abbrev pub blocking : Sizes → ℕ
blocking s = suc s.write - s.ack

-- each of the write sets of the entries below n has a blocking number of positions in the set t
abbrev pub covers_below : Sizes → (ℕ → Bool) → ℕ → Bool
covers_below s t zero = true
covers_below s t (suc e) = nat_le (blocking s) (tally t (write_set s e)) && covers_below s t e

-- a set of positions covers the ensemble when each of the E write sets has a blocking number of positions in it
abbrev pub covers : Sizes → (ℕ → Bool) → Bool
covers s t = covers_below s t s.ensemble

-- the first of the positions ps at which bookie b stands, by the list bs, is marked
abbrev pub mark : List ℕ → List ℕ → ℕ → List Bool → List Bool
mark bs [] b m = m
mark bs (p ∷ ps) b m = cond (slice_index bs p == b) (slice_set m p true) (mark bs ps b m)

-- x is among the numbers
abbrev pub member : ℕ → List ℕ → Bool
member x [] = false
member x (y ∷ ys) = cond (x == y) true (member x ys)

-- no number comes twice
abbrev pub distinct : List ℕ → Bool
distinct [] = true
distinct (x ∷ xs) = cond (member x xs) false (distinct xs)
