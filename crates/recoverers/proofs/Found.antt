-- What a store answers is the metadata that it keeps.
use Rattle.std.proofs.Common.{◌≡◌, Bool, true, false, Ok}
use Rattle.ledgers.specs.Limits.{is_ledger}
use Rattle.ledgers.specs.declared.ids.LedgerId.{LedgerId}
use Rattle.ledgers.specs.declared.ids.Version.{Version}
use Rattle.messages.specs.Faults.{question}
use Rattle.messages.specs.declared.faults.StoreFault.{StoreFault}
use Rattle.messages.specs.declared.faults.StoreFault.TheVariants as fault
use Rattle.messages.specs.declared.metadata.LedgerState.TheVariants.{Open, InRecovery}
use Rattle.messages.specs.declared.metadata.Metadata.{Metadata}
use Rattle.protocol.specs.Stores.{Store, exists, metadata_of, get_answer, put_answer}
use Rattle.protocol.specs.Recoverers.{new_recoverer}
use Rattle.protocol.specs.declared.recoverers.Recoverer.{Recoverer}
use Rattle.recoverers.specs.Beginnings.{begin_recovery}

asked : (a b : Bool) (f g : StoreFault) (m n : Metadata) → Ok m ≡ question a f (question b g (Ok n)) → n ≡ m
asked true true f g m n e = cc
asked true false f g m n e = absurd (cc)
asked false b f g m n e = absurd (cc)

found_is : (s : Store) (l : LedgerId) (m : Metadata) → Ok m ≡ get_answer s l → metadata_of s l.0 ≡ m
found_is s l m e = asked (is_ledger l.0) (exists s l.0) fault.Range fault.Existence m (metadata_of s l.0) e

-- a recovery begins: x is made of the metadata m that was found, and of version v,
module _ (s : Store) (l : LedgerId) (m : Metadata) (v : Version) (x : Recoverer) (got : Ok m ≡ get_answer s l) (is : x ≡ new_recoverer l v m.layout) where
  -- which the put of an open ledger answered,
  pub begun_open : m.state ≡ Open → Ok v ≡ put_answer s l m.version → Ok x ≡ begin_recovery s l
  begun_open was_open put = let same = found_is s l m got in cc

  -- or which one in recovery has
  pub begun_again : m.state ≡ InRecovery → v ≡ m.version → Ok x ≡ begin_recovery s l
  begun_again again read = let same = found_is s l m got in cc
