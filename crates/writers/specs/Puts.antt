-- What the calls that put the store leave, refusals included.
use Rattle.std.specs.Prelude.{◌≡◌, ℕ, suc, false, List, [], map, Some, None, Ok, Err, Option, Result}
use Rattle.ledgers.specs.Ids.{entry_id, version_id}
use Rattle.ledgers.specs.declared.ids.BookieId.{BookieId}
use Rattle.ledgers.specs.declared.ids.EntryId.{EntryId}
use Rattle.ledgers.specs.declared.ids.Lac.{Lac}
use Rattle.ledgers.specs.declared.ids.LedgerId.{LedgerId}
use Rattle.ledgers.specs.declared.ids.Position.{Position}
use Rattle.ledgers.specs.declared.ids.Version.{Version}
use Rattle.layout.specs.declared.fragments.Layout.{Layout}
use Rattle.messages.specs.declared.faults.StoreFault.{StoreFault}
use Rattle.messages.specs.declared.faults.StoreFault.TheVariants as fault
use Rattle.messages.specs.declared.messages.Message.{Message}
use Rattle.messages.specs.declared.metadata.LedgerState.{LedgerState}
use Rattle.protocol.specs.Stores.{Store, put_answer, put_after, is_version}
use Rattle.protocol.specs.Writers.{Writer, by_put, unmarked, adds_at, fenced_writer, change_answer, change_store, changed_writer, change_sends, close_answer, close_store, closed_writer}
use Rattle.protocol.specs.declared.faults.ClientFault.{ClientFault}

-- one put of a writer: it is accepted, or another put came first, or it is refused; only the first alters the store
abbrev pub Put : Store → LedgerId → Version → LedgerState → Layout → Lac → Result (Option Version) StoreFault → Store → Type 0
Put s l v st y n (Ok (Some u)) t = (put_answer s l v ≡ Ok u) × (u ≡ version_id (suc v.0)) × (t ≡ put_after s l v st y n)
Put s l v st y n (Ok None) t = (put_answer s l v ≡ Err fault.Version) × (t ≡ s)
Put s l v st y n (Err f) t = (put_answer s l v ≡ Err f) × (is_version f ≡ false) × (t ≡ s)

-- by what such a call answers: it is done, or the ledger is lost to a recovery, or nothing is altered
abbrev pub after_put : {A X : Type 0} → Result (Option A) ClientFault → X → X → X → X
after_put (Ok (Some a)) done lost same = done
after_put (Ok None) done lost same = lost
after_put (Err f) done lost same = same

-- a put with which another layout is to hold answers the first entry that it holds for;
abbrev pub adoption_answer : Writer → Store → LedgerId → Result (Option EntryId) ClientFault
adoption_answer w s l = by_put (entry_id w.lac) (put_answer s l (version_id w.version))

-- the writer goes on with that layout, of this version, and the marks at the position count no more,
abbrev pub adopted : Writer → Layout → ℕ → Position → Writer
adopted w y v p = record { state = w.state; layout = y; version = v; lac = w.lac; pending = map (unmarked p.0) w.pending }

-- and the bookie there gets what is pending
abbrev pub adoption_sends : Writer → Layout → LedgerId → Position → BookieId → List Message
adoption_sends w y l p b = adds_at y l w.lac p.0 b w.lac w.pending

-- after an ensemble change the writer,
abbrev pub change_after : Writer → Store → LedgerId → Position → BookieId → Writer
change_after w s l p b = after_put (change_answer w s l p b) (changed_writer w p b) (fenced_writer w) w

-- the store,
abbrev pub change_stored : Writer → Store → LedgerId → Position → BookieId → Store
change_stored w s l p b = after_put (change_answer w s l p b) (change_store w s l p b) s s

-- and what it sends
abbrev pub change_sent : Writer → Store → LedgerId → Position → BookieId → List Message
change_sent w s l p b = after_put (change_answer w s l p b) (change_sends w l p b) [] []

-- after a close the writer,
abbrev pub close_after : Writer → Store → LedgerId → Writer
close_after w s l = after_put (close_answer w s l) (closed_writer w) (fenced_writer w) w

-- and the store
abbrev pub close_stored : Writer → Store → LedgerId → Store
close_stored w s l = after_put (close_answer w s l) (close_store w s l) s s
