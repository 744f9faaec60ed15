-- A recoverer as a recovery begins.
use Rattle.std.specs.Prelude.{Ok, Err, Result}
use Rattle.ledgers.specs.declared.ids.LedgerId.{LedgerId}
use Rattle.ledgers.specs.declared.ids.Version.{Version}
use Rattle.protocol.specs.Stores.{Store, metadata_of}
use Rattle.protocol.specs.Recoverers.{recover_answer, new_recoverer}
use Rattle.protocol.specs.declared.faults.ClientFault.{ClientFault}
use Rattle.protocol.specs.declared.recoverers.Recoverer.{Recoverer}

-- with the version that the store answered, and the layout that it has
abbrev pub begun_with : Store → LedgerId → Result Version ClientFault → Result Recoverer ClientFault
begun_with s l (Ok v) = Ok (new_recoverer l v (metadata_of s l.0).layout)
begun_with s l (Err f) = Err f

abbrev pub begin_recovery : Store → LedgerId → Result Recoverer ClientFault
begin_recovery s l = begun_with s l (recover_answer s l)
