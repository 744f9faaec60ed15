-- Fragments, the one that an entry belongs to, and the change of a layout.
use Rattle.std.specs.Prelude.{◌≡◌, ℕ, zero, suc, ◌-◌, ◌<◌, ◌≤◌, min, Bool, cond, ◌||◌, List, [], ◌∷◌, map, get_or, replicate, ◌==◌, nat_le, nat_lt, slice_index, slice_index_or, slice_set, refl}
use Rattle.std.proofs.Common.{◌∙◌, arith, lit≤, length-set}
use Rattle.std.proofs.lemmas.Bool.{cond_both}
use Rattle.ledgers.specs.Limits.{max_entries, max_ensemble, max_fragments}
use Rattle.ledgers.specs.Ids.{entry_id}
use Rattle.layout.specs.Sizes.{sizes_of}
use Rattle.layout.specs.WriteSets.{write_set}
use Rattle.layout.specs.declared.sizes.Sizes.{Sizes}
use Rattle.layout.specs.declared.fragments.Fragment.{Fragment}
use Rattle.layout.specs.declared.fragments.Layout.{Layout}

-- what stands past the end of a list of fragments
abbrev pub no_fragment : Fragment
no_fragment = record { first = entry_id 0; bookies = [] }

-- zeros from entry 0 on
abbrev pub blank_fragment : Fragment
blank_fragment = record { first = entry_id 0; bookies = replicate max_ensemble 0 }

-- the last of the first n fragments whose first entry is not above e
abbrev pub fragment_below : List Fragment → ℕ → ℕ → Fragment
fragment_below fs zero e = blank_fragment
fragment_below fs (suc n) e = cond (nat_le (get_or fs n no_fragment).first.0 e) (slice_index_or fs n no_fragment) (fragment_below fs n e)

-- the fragment that entry e belongs to
abbrev pub fragment_of : Layout → ℕ → Fragment
fragment_of y e = fragment_below y.fragments y.count e

-- the fragment that the next entries belong to
abbrev pub last_fragment : Layout → Fragment
last_fragment y = slice_index_or y.fragments (y.count - 1) no_fragment

-- the first entry of the last fragment
abbrev pub last_first : Layout → ℕ
last_first y = (last_fragment y).first.0

-- the fragments rise from entry 0 on, and the last begins with an entry that there can be, or behind them all
pub record Rises (y : Layout) : Type 0 where
  pub first : (get_or y.fragments 0 no_fragment).first.0 ≡ 0
  pub rising : (i : ℕ) → suc i < y.count → (get_or y.fragments i no_fragment).first.0 < (get_or y.fragments (suc i) no_fragment).first.0
  pub last : last_first y ≤ max_entries

-- the bookie at position p, for entry e
abbrev pub bookie_at : Layout → ℕ → ℕ → ℕ
bookie_at y e p = slice_index (fragment_of y e).bookies p

-- the bookies of the write set of entry e, in its order
abbrev pub bookies_of : Layout → ℕ → List ℕ
bookies_of y e = map (bookie_at y e) (write_set y.sizes e)

-- a new ledger has one fragment, from entry 0 on
abbrev pub first_layout : Sizes → List ℕ → Layout
first_layout s bs =
    record {
      sizes = s;
      fragments = record { first = entry_id 0; bookies = bs } ∷ replicate 7 blank_fragment;
      count = 1;
      eight = refl;
      some = lit≤ tt;
      few = lit≤ tt;
    }

-- no ledger's layout
abbrev pub no_layout : Layout
no_layout = first_layout (sizes_of 1 1 1) (replicate max_ensemble 0)

-- a change -----------------------------------------------------------------------------------------------------------
-- a change from entry n on alters the last fragment where n is its first entry, and else adds one
abbrev pub alters : Layout → ℕ → Bool
alters y n = last_first y == n

-- there is a place for what the change makes
abbrev pub room_for : Layout → ℕ → Bool
room_for y n = alters y n || nat_lt y.count max_fragments

-- from entry n on, bookie b at position p
abbrev pub changed_fragment : Fragment → ℕ → ℕ → ℕ → Fragment
changed_fragment f n p b = record { first = entry_id n; bookies = slice_set f.bookies p b }

-- where the changed fragment goes
abbrev pub changed_place : Layout → ℕ → ℕ
changed_place y n = cond (alters y n) (y.count - 1) y.count

-- how many fragments there are then
abbrev pub changed_count : Layout → ℕ → ℕ
changed_count y n = cond (alters y n) y.count (min max_fragments (suc y.count))

-- the layout with bookie b at position p from entry n on
abbrev pub changed_layout : Layout → ℕ → ℕ → ℕ → Layout
changed_layout y n p b =
    record {
      sizes = y.sizes;
      fragments = slice_set y.fragments (changed_place y n) (changed_fragment (last_fragment y) n p b);
      count = changed_count y n;
      eight = length-set y.fragments (changed_place y n) (changed_fragment (last_fragment y) n p b) ∙ y.eight;
      some = cond_both (alters y n) y.count (min max_fragments (suc y.count)) (λ k. 1 ≤ k) (λ _. y.some) (λ _. omega arith);
      few = cond_both (alters y n) y.count (min max_fragments (suc y.count)) (λ k. k ≤ 8) (λ _. y.few) (λ _. omega arith);
    }
