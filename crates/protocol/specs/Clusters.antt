-- The cluster: bookies by number, the store, the writers of sixteen ledgers, four recoverers, and the messages that wait.
use Rattle.std.specs.Prelude.{ℕ, List, [], map, replicate, None, slice_index_or, slice_set}
use Rattle.ledgers.specs.Limits.{max_ledgers, max_recoverers}
use Rattle.ledgers.specs.Tables.{numbered, renumbered}
use Rattle.ledgers.specs.declared.ids.LedgerId.{LedgerId}
use Rattle.ledgers.specs.declared.ids.RecovererId.{RecovererId}
use Rattle.layout.specs.declared.fragments.Layout.{Layout}
use Rattle.messages.specs.Waiting.{Queue, sent}
use Rattle.messages.specs.declared.messages.Message.{Message}
use Rattle.messages.specs.declared.metadata.Metadata.{Metadata}
use Rattle.protocol.specs.Bookies.{Bookie, new_bookie, no_bookie}
use Rattle.protocol.specs.Stores.{Store, metadata_of}
use Rattle.protocol.specs.Writers.{Writer, no_writer}
use Rattle.protocol.specs.Recoverers.{no_recoverer}
use Rattle.protocol.specs.declared.recoverers.Phase.{Phase}
use Rattle.protocol.specs.declared.recoverers.Recoverer.{Recoverer}

-- bookies by position in the list, writers by ledger, recoverers by number
pub record Cluster : Type 0 where
  pub bookies : List Bookie
  pub store : Store
  pub writers : List Writer
  pub recoverers : List Recoverer
  pub queue : Queue

-- set up empty: new bookies with these spaces, no ledger in the store, no client at work and no message
abbrev pub empty : List ℕ → ℕ → ℕ → Cluster
empty spaces changes room =
    record {
      bookies = map new_bookie spaces;
      store = record { ledgers = replicate max_ledgers None; changes = changes };
      writers = replicate max_ledgers no_writer;
      recoverers = replicate max_recoverers no_recoverer;
      queue = record { room = room; waiting = [] };
    }

-- bookie b
abbrev pub bookie_of : Cluster → ℕ → Bookie
bookie_of c b = slice_index_or c.bookies b no_bookie

-- the writer of ledger l
abbrev pub writer_of : Cluster → ℕ → Writer
writer_of c l = numbered c.writers l no_writer

-- recoverer r
abbrev pub recoverer_of : Cluster → ℕ → Recoverer
recoverer_of c r = numbered c.recoverers r no_recoverer

-- the phase of a recoverer, the ledger that it is at, and the layout that it has read
abbrev pub phase_of : Cluster → RecovererId → Phase
phase_of c r = (recoverer_of c r.0).phase

abbrev pub recovering : Cluster → RecovererId → LedgerId
recovering c r = (recoverer_of c r.0).ledger

abbrev pub layout_read : Cluster → RecovererId → Layout
layout_read c r = (recoverer_of c r.0).layout

-- what the store keeps of ledger l
abbrev pub ledger_of : Cluster → ℕ → Metadata
ledger_of c l = metadata_of c.store l

-- with x as bookie b
abbrev pub with_bookie : Cluster → ℕ → Bookie → Cluster
with_bookie c b x =
    record { bookies = slice_set c.bookies b x; store = c.store; writers = c.writers; recoverers = c.recoverers; queue = c.queue }

-- with another store
abbrev pub with_store : Cluster → Store → Cluster
with_store c s = record { bookies = c.bookies; store = s; writers = c.writers; recoverers = c.recoverers; queue = c.queue }

-- with w as the writer of ledger l
abbrev pub with_writer : Cluster → ℕ → Writer → Cluster
with_writer c l w =
    record {
      bookies = c.bookies;
      store = c.store;
      writers = renumbered c.writers l w;
      recoverers = c.recoverers;
      queue = c.queue;
    }

-- with x as recoverer r
abbrev pub with_recoverer : Cluster → ℕ → Recoverer → Cluster
with_recoverer c r x =
    record {
      bookies = c.bookies;
      store = c.store;
      writers = c.writers;
      recoverers = renumbered c.recoverers r x;
      queue = c.queue;
    }

-- with other messages waiting
abbrev pub with_queue : Cluster → Queue → Cluster
with_queue c q = record { bookies = c.bookies; store = c.store; writers = c.writers; recoverers = c.recoverers; queue = q }

-- messages are sent together
abbrev pub send : Cluster → List Message → Cluster
send c new = with_queue c (sent c.queue new)
