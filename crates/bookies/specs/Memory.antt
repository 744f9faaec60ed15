-- What a bookie in memory means.
use Rattle.std.specs.Prelude.{◌-◌, length}
use Rattle.places.specs.LentLogs.{records, room}
use Rattle.protocol.specs.Bookies.{Bookie}
use Rattle.bookies.specs.declared.memory.MemoryBookie.{MemoryBookie}

-- its records are the entries, and the places behind them the space
abbrev pub in_memory : MemoryBookie → Bookie
in_memory s =
    record {
      up = s.up;
      entries = records s.entries;
      fences = s.fenced;
      space = room s.entries - length (records s.entries);
    }
