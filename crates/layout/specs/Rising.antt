-- Layouts whose fragments rise: the first begins at entry 0, each later than the one before, and the last at entry 10,000 at most.
use Rattle.std.specs.Prelude.{◌≡◌, ℕ, ◌+◌, ◌-◌, ◌<◌, ◌≤◌, List, slice_index_or}
use Rattle.ledgers.specs.Limits.{max_entries}
use Rattle.layout.specs.Layouts.{no_fragment, last_first}
use Rattle.layout.specs.declared.fragments.Fragment.{Fragment}
use Rattle.layout.specs.declared.fragments.Layout.{Layout}

abbrev pub first_of : List Fragment → ℕ → ℕ
first_of fs i = (slice_index_or fs i no_fragment).first.0

-- of the first n fragments
pub record Rises (fs : List Fragment) (n : ℕ) : Type 0 where
  pub starts : first_of fs 0 ≡ 0
  pub rises : (i : ℕ) → i + 1 < n → first_of fs i < first_of fs (i + 1)
  pub ends : first_of fs (n - 1) ≤ max_entries

abbrev pub Rising : Layout → Type 0
Rising y = Rises y.fragments y.count

-- entry n comes neither before the last fragment nor behind the end of the ledger
abbrev pub Onward : Layout → ℕ → Type 0
Onward y n = (last_first y ≤ n) × (n ≤ max_entries)
