-- How many there can be of what, and which numbers name a ledger, an entry or a recoverer.
use Rattle.std.specs.Prelude.{ℕ, Bool, ◌&&◌, nat_le, nat_lt}

-- so many ledgers,
abbrev pub max_ledgers : ℕ
max_ledgers = 16

-- entries of each,
abbrev pub max_entries : ℕ
max_entries = 10000

-- and recoverers there can be
abbrev pub max_recoverers : ℕ
max_recoverers = 4

-- a ledger has so many positions,
abbrev pub max_ensemble : ℕ
max_ensemble = 5

-- fragments,
abbrev pub max_fragments : ℕ
max_fragments = 8

-- and pending adds at most
abbrev pub max_pending : ℕ
max_pending = 16

-- ledgers are numbered from 1
abbrev pub is_ledger : ℕ → Bool
is_ledger l = nat_le 1 l && nat_le l max_ledgers

-- entries are numbered from 0
abbrev pub is_entry : ℕ → Bool
is_entry e = nat_lt e max_entries

-- recoverers are numbered from 1
abbrev pub is_recoverer : ℕ → Bool
is_recoverer r = nat_le 1 r && nat_le r max_recoverers
