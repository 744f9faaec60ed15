-- The first pending entry.
use Rattle.std.specs.Prelude.{ℕ, suc, Bool, false, List, [], ◌∷◌, drop}
use Rattle.layout.specs.declared.fragments.Layout.{Layout}
use Rattle.messages.specs.declared.entries.PendingAdd.{PendingAdd}
use Rattle.protocol.specs.Writers.{Writer, is_acknowledged, with_pending}

-- the first of pending adds, if there is one, has an ack quorum of marks as entry e
abbrev pub acknowledged_front : Layout → ℕ → List PendingAdd → Bool
acknowledged_front y e [] = false
acknowledged_front y e (p ∷ ps) = is_acknowledged y e p

abbrev pub first_acknowledged : Writer → Bool
first_acknowledged w = acknowledged_front w.layout w.lac w.pending

-- it is confirmed
abbrev pub without_first : Writer → Writer
without_first w = with_pending w (suc w.lac) (drop 1 w.pending)
