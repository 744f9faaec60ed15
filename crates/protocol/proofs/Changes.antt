-- One lemma for each kind of change of a cluster: the world after it is later, and the invariant is kept.
use Rattle.std.proofs.Common.{◌≡◌, ℕ, ◌≤◌, Bool, true, List, length, Some, None, sym, refl, ◌∙◌, subst, inl, inr, arith, length-set}
use Rattle.std.specs.List.{AllByRecursion}
use Rattle.ledgers.specs.Tables.{row}
use Rattle.ledgers.specs.declared.bodies.Body.{Body}
use Rattle.messages.specs.Waiting.{sent}
use Rattle.messages.specs.declared.messages.Message.{Message}
use Rattle.messages.specs.declared.metadata.LedgerState.TheVariants.{Open, Closed}
use Rattle.messages.specs.declared.metadata.Metadata.{Metadata}
use Rattle.protocol.specs.Bookies.{Bookie, no_bookie, holds, is_fenced}
use Rattle.protocol.specs.Stores.{known, metadata_of, written}
use Rattle.protocol.specs.Writers.{Writer, no_writer}
use Rattle.protocol.specs.Recoverers.{no_recoverer}
use Rattle.protocol.specs.Clusters.{Cluster, bookie_of, writer_of, ledger_of, with_bookie, with_store, with_writer, with_recoverer, send}
use Rattle.protocol.specs.declared.recoverers.Recoverer.{Recoverer}
use Rattle.protocol.proofs.Lists.{at_set, set_rel, HasRow, at_number, at_number_in, number_rel, all_sent}
use Rattle.protocol.proofs.World.{Note, contents_of, acked_by, World, world, ContentAt, CopyOk, MessageOk, WriterOk, LedgerOk, Under, RecovererOk, Shut, Later, Inv, InvAt}
use Rattle.protocol.proofs.Lasting.{copies_later, under_shut, ledger_later, writer_more, inv_later}

-- messages and recoverers --------------------------------------------------------------------------------------------
-- other true messages wait
pub with_messages : {x₀ x : World} {rs : ℕ → Recoverer} {ms : List Message} (new : List Message) → Inv x₀ x rs ms → AllByRecursion (MessageOk x) new → Inv x₀ x rs new
with_messages new i h =
    record {
      since = i.since;
      acked = i.acked;
      copies = i.copies;
      messages = h;
      writing = i.writing;
      metadata = i.metadata;
      recoverers = i.recoverers;
      flags = i.flags;
      writers = i.writers;
      ledgers = i.ledgers;
    }

-- true messages are sent
pub sent_inv : {x₀ : World} (ns : List Note) (c : Cluster) (new : List Message) → InvAt x₀ ns c → AllByRecursion (MessageOk (world ns c)) new → InvAt x₀ ns (send c new)
sent_inv ns c new i h = with_messages (sent c.queue new).waiting i (all_sent (MessageOk (world ns c)) c.queue new i.messages h)

-- one recoverer changes
pub recoverer_inv : {x₀ : World} (ns : List Note) (c : Cluster) (r : ℕ) (R : Recoverer) → InvAt x₀ ns c → RecovererOk (world ns c) R
    → InvAt x₀ ns (with_recoverer c r R)
recoverer_inv ns c r R i h =
    record {
      since = i.since;
      acked = i.acked;
      copies = i.copies;
      messages = i.messages;
      writing = i.writing;
      metadata = i.metadata;
      recoverers = λ k. at_number (RecovererOk (world ns c)) c.recoverers r k R no_recoverer (λ _. h) (i.recoverers k);
      flags = i.flags;
      writers = i.writers;
      ledgers = i.ledgers;
    }

-- bookies ------------------------------------------------------------------------------------------------------------
-- what a bookie holds and fences it goes on to
pub record Grows (B C : Bookie) : Type 0 where
  pub held : (l e : ℕ) → holds B l e ≡ true → holds C l e ≡ true
  pub fenced : (l : ℕ) → is_fenced B l ≡ true → is_fenced C l ≡ true
  pub flags : length C.fences ≡ length B.fences

-- a bookie that does not change
pub grows_same : (B : Bookie) → Grows B B
grows_same B = record { held = λ l e h. h; fenced = λ l h. h; flags = refl }

-- the world with other bookies and acknowledgements
abbrev with_bookies : World → (ℕ → Bookie) → (ℕ → ℕ → ℕ → Bool) → World
with_bookies x bs ak =
    record
    { bookie = bs; writer = x.writer; ledger = x.ledger; contents = x.contents; acked = ak; writers = x.writers; ledgers = x.ledgers }

-- bookies grow, and an acknowledgement is given only by an unfenced one
pub bookies_later : (x : World) (bs : ℕ → Bookie) (ak : ℕ → ℕ → ℕ → Bool) → ((b : ℕ) → Grows (x.bookie b) (bs b))
    → ((l e b : ℕ) → x.acked l e b ≡ true → ak l e b ≡ true)
    → ((l e b : ℕ) → is_fenced (x.bookie b) l ≡ true → ak l e b ≡ true → x.acked l e b ≡ true)
    → Later x (with_bookies x bs ak)
bookies_later x bs ak g m f =
    record {
      contents = λ l e body h. h;
      acked = m;
      barred = f;
      held = λ l e b. (g b).held l e;
      fenced = λ l b. (g b).fenced l;
      lac = λ l. omega arith;
      frozen = λ l s. (refl, s, λ v h. h);
      closed = λ l h. (h, refl);
      flags = λ b. (g b).flags;
      writers = refl;
      ledgers = refl;
    }

-- so the invariant is kept
pub bookies_inv : {x₀ : World} (x : World) (bs : ℕ → Bookie) (ak : ℕ → ℕ → ℕ → Bool) {rs : ℕ → Recoverer} {ms : List Message}
    → Later x (with_bookies x bs ak) → Inv x₀ x rs ms → ((b : ℕ) → AllByRecursion (CopyOk x) (bs b).entries)
    → ((l e b : ℕ) → ak l e b ≡ true → holds (bs b) l e ≡ true) → Inv x₀ (with_bookies x bs ak) rs ms
bookies_inv x bs ak t i h a =
    inv_later t i a h (λ l. writer_more (x.contents l) (x.acked l) (ak l) (x.writer l) (t.acked l) (i.writing l))
    (λ l. ledger_later t l (x.writer l) (x.ledger l) (i.metadata l))

-- one bookie changes, and no writer's add is acknowledged
pub bookie_inv : {x₀ : World} (ns : List Note) (c : Cluster) (b : ℕ) (B : Bookie) → InvAt x₀ ns c → Grows (bookie_of c b) B
    → AllByRecursion (CopyOk (world ns c)) B.entries → InvAt x₀ ns (with_bookie c b B)
bookie_inv ns c b B i g h =
    bookies_inv (world ns c) (bookie_of (with_bookie c b B)) (acked_by ns) t i
    (λ k. at_set (λ C. AllByRecursion (CopyOk (world ns c)) C.entries) c.bookies b k B no_bookie (λ _. h) (i.copies k))
    (λ l e k a. t.held l e k (i.acked l e k a))
  where
    t : Later (world ns c) (world ns (with_bookie c b B))
    t =
        bookies_later (world ns c) (bookie_of (with_bookie c b B)) (acked_by ns)
        (λ k. set_rel Grows grows_same c.bookies b k B no_bookie g) (λ l e k a. a) (λ l e k f a. a)

-- writers ------------------------------------------------------------------------------------------------------------
-- the LAC rises, and the layout stays
pub record Advances (w w' : Writer) : Type 0 where
  pub lac : w.lac ≤ w'.lac
  pub layout : w'.layout ≡ w.layout

-- a writer that does not change
pub advances_same : (w : Writer) → Advances w w
advances_same w = record { lac = omega arith; layout = refl }

-- a writer that keeps its layout becomes w'
pub record Becomes (x : World) (l : ℕ) (w w' : Writer) (m : Metadata) : Type 0 where
  pub advances : Advances w w'
  pub writer : WriterOk (x.contents l) (x.acked l) w'
  pub ledger : LedgerOk x l w' m

-- more contents, and one writer that advances
pub writer_later : (ns ks : List Note) (c : Cluster) (l : ℕ) (w' : Writer) → Advances (writer_of c l) w'
    → ((k e : ℕ) (body : Body) → ContentAt (contents_of ns k) e body → ContentAt (contents_of ks k) e body)
    → ((k e b : ℕ) → acked_by ks k e b ≡ acked_by ns k e b) → Later (world ns c) (world ks (with_writer c l w'))
writer_later ns ks c l w' a ts same =
    record {
      contents = ts;
      acked = λ k e b h. same k e b ∙ h;
      barred = λ k e b f h. sym (same k e b) ∙ h;
      held = λ k e b h. h;
      fenced = λ k b h. h;
      lac = λ k. (all k).lac;
      frozen = λ k s. ((all k).layout, s, λ v u. u);
      closed = λ k h. (h, refl);
      flags = λ b. refl;
      writers = length-set c.writers (row c.writers l) w';
      ledgers = refl;
    }
  where
    all : (k : ℕ) → Advances (writer_of c k) (writer_of (with_writer c l w') k)
    all k = number_rel Advances advances_same c.writers l k w' no_writer a

-- one writer changes
pub writer_inv : {x₀ : World} (ns : List Note) (c : Cluster) (l : ℕ) (w' : Writer) → InvAt x₀ ns c
    → Becomes (world ns c) l (writer_of c l) w' (ledger_of c l) → InvAt x₀ ns (with_writer c l w')
writer_inv ns c l w' i h =
    inv_later t i i.acked (λ b. copies_later t (bookie_of c b).entries (i.copies b))
    (λ k. at_number (WriterOk (contents_of ns k) (acked_by ns k)) c.writers l k w' no_writer
    (λ q. subst (λ (n : ℕ). WriterOk (contents_of ns n) (acked_by ns n) w') (sym q) h.writer) (i.writing k))
    (λ k. at_number (λ w. LedgerOk y k w (ledger_of c k)) c.writers l k w' no_writer
    (λ q. subst (λ (n : ℕ). LedgerOk y n w' (ledger_of c n)) (sym q) (ledger_later t l w' (ledger_of c l) h.ledger))
    (ledger_later t k (writer_of c k) (ledger_of c k) (i.metadata k)))
  where
    y : World
    y = world ns (with_writer c l w')

    t : Later (world ns c) y
    t = writer_later ns ns c l w' h.advances (λ k e body z. z) (λ k e b. refl)

-- metadata -----------------------------------------------------------------------------------------------------------
-- what a put makes of the metadata of a ledger undoes nothing
pub record Succeeds (m m' : Metadata) : Type 0 where
  pub stays : Shut m → Shut m'
  pub under : (v : ℕ) → Under m v → Under m' v
  pub closed : m.state ≡ Closed → (m'.state ≡ Closed) × (m'.closing.0 ≡ m.closing.0)

-- metadata that does not change
pub succeeds_same : (m : Metadata) → Succeeds m m
succeeds_same m = record { stays = λ h. h; under = λ v h. h; closed = λ h. (h, refl) }

-- open is neither in recovery nor closed
pub open_shut : (m : Metadata) → m.state ≡ Open → Shut m → ⊥
open_shut m o (inl k) = cc
open_shut m o (inr k) = cc

-- anything may follow an open ledger's metadata
pub open_succeeds : (m m' : Metadata) → m.state ≡ Open → Succeeds m m'
open_succeeds m m' o =
    record {
      stays = λ s. absurd (open_shut m o s);
      under = λ v u. absurd (open_shut m o (under_shut m v u));
      closed = λ z. absurd (open_shut m o (inr z));
    }

-- of what a store keeps, as far as it is known
known_rel : (c : Cluster) (l k : ℕ) (m' : Metadata) → Succeeds (ledger_of c l) m' → Succeeds (ledger_of c k) (metadata_of (written c.store l m') k)
known_rel c l k m' h =
    number_rel (λ a b. Succeeds (known a) (known b)) (λ a. succeeds_same (known a)) c.store.ledgers l k (Some m') None h

-- the metadata of one ledger changes
pub put_later : (ns : List Note) (c : Cluster) (l : ℕ) (m' : Metadata) → Succeeds (ledger_of c l) m'
    → Later (world ns c) (world ns (with_store c (written c.store l m')))
put_later ns c l m' h =
    record {
      contents = λ k e body z. z;
      acked = λ k e b z. z;
      barred = λ k e b f z. z;
      held = λ k e b z. z;
      fenced = λ k b z. z;
      lac = λ k. omega arith;
      frozen = λ k s. let r = known_rel c l k m' h in (refl, r.stays s, r.under);
      closed = λ k. (known_rel c l k m' h).closed;
      flags = λ b. refl;
      writers = refl;
      ledgers = length-set c.store.ledgers (row c.store.ledgers l) (Some m');
    }

-- the metadata of one ledger alone changes
pub put_inv : {x₀ : World} (ns : List Note) (c : Cluster) (l : ℕ) (m' : Metadata) → Succeeds (ledger_of c l) m'
    → LedgerOk (world ns c) l (writer_of c l) m' → InvAt x₀ ns c → InvAt x₀ ns (with_store c (written c.store l m'))
put_inv ns c l m' s h i =
    inv_later t i i.acked (λ b. copies_later t (bookie_of c b).entries (i.copies b)) i.writing
    (λ k. at_number (λ o. LedgerOk y k (writer_of c k) (known o)) c.store.ledgers l k (Some m') None
    (λ q. subst (λ (n : ℕ). LedgerOk y n (writer_of c n) m') (sym q) (ledger_later t l (writer_of c l) m' h))
    (ledger_later t k (writer_of c k) (ledger_of c k) (i.metadata k)))
  where
    y : World
    y = world ns (with_store c (written c.store l m'))

    t : Later (world ns c) y
    t = put_later ns c l m' s

-- a writer and the metadata of its open ledger -----------------------------------------------------------------------
-- the cluster after it
abbrev pub put_by_writer : Cluster → ℕ → Writer → Metadata → Cluster
put_by_writer c l w' m' = with_writer (with_store c (written c.store l m')) l w'

-- from open metadata, a writer puts
pub record Puts (x : World) (l : ℕ) (w w' : Writer) (m m' : Metadata) : Type 0 where
  pub lac : w.lac ≤ w'.lac
  pub was_open : m.state ≡ Open
  pub writer : WriterOk (x.contents l) (x.acked l) w'
  pub ledger : LedgerOk x l w' m'

-- what holds of each writer with its metadata does still
at_both : (c : Cluster) (l : ℕ) (w' : Writer) (m' : Metadata) (k : ℕ) (P : Writer → Metadata → Type 0) → HasRow c.writers l → HasRow c.store.ledgers l
    → (k ≡ l → P w' m') → ((k ≡ l → ⊥) → P (writer_of c k) (ledger_of c k))
    → P (writer_of (put_by_writer c l w' m') k) (ledger_of (put_by_writer c l w' m') k)
at_both c l w' m' k P inW inL f g =
    at_number_in (λ w. P w (ledger_of (put_by_writer c l w' m') k)) c.writers l k w' no_writer inW
    (λ q. at_number_in (λ o. P w' (known o)) c.store.ledgers l k (Some m') None inL (λ _. f q) (λ ne. absurd (ne q)))
    (λ ne. at_number_in (λ o. P (writer_of c k) (known o)) c.store.ledgers l k (Some m') None inL (λ q. absurd (ne q)) (λ _. g ne))

-- what the put does to each ledger
record Moves (w w' : Writer) (m m' : Metadata) : Type 0 where
  lac : w.lac ≤ w'.lac
  layout : Shut m → w'.layout ≡ w.layout
  ledger : Succeeds m m'

-- the world after it is later
pub puts_later : (ns : List Note) (c : Cluster) (l : ℕ) (w' : Writer) (m' : Metadata) → HasRow c.writers l → HasRow c.store.ledgers l
    → Puts (world ns c) l (writer_of c l) w' (ledger_of c l) m' → Later (world ns c) (world ns (put_by_writer c l w' m'))
puts_later ns c l w' m' inW inL h =
    record {
      contents = λ k e body z. z;
      acked = λ k e b z. z;
      barred = λ k e b f z. z;
      held = λ k e b z. z;
      fenced = λ k b z. z;
      lac = λ k. (all k).lac;
      frozen = λ k s. ((all k).layout s, (all k).ledger.stays s, (all k).ledger.under);
      closed = λ k. (all k).ledger.closed;
      flags = λ b. refl;
      writers = length-set c.writers (row c.writers l) w';
      ledgers = length-set c.store.ledgers (row c.store.ledgers l) (Some m');
    }
  where
    all : (k : ℕ) → Moves (writer_of c k) (writer_of (put_by_writer c l w' m') k) (ledger_of c k) (ledger_of (put_by_writer c l w' m') k)
    all k =
        at_both c l w' m' k (λ w m. Moves (writer_of c k) w (ledger_of c k) m) inW inL
        (λ q. subst (λ (n : ℕ). Moves (writer_of c n) w' (ledger_of c n) m') (sym q)
        (record { lac = h.lac; layout = λ s. absurd (open_shut (ledger_of c l) h.was_open s); ledger = open_succeeds (ledger_of c l) m' h.was_open }))
        (λ _. record { lac = omega arith; layout = λ _. refl; ledger = succeeds_same (ledger_of c k) })

-- and keeps the invariant
pub puts_inv : {x₀ : World} (ns : List Note) (c : Cluster) (l : ℕ) (w' : Writer) (m' : Metadata) → HasRow c.writers l → HasRow c.store.ledgers l
    → Puts (world ns c) l (writer_of c l) w' (ledger_of c l) m' → InvAt x₀ ns c → InvAt x₀ ns (put_by_writer c l w' m')
puts_inv ns c l w' m' inW inL h i =
    inv_later t i i.acked (λ b. copies_later t (bookie_of c b).entries (i.copies b))
    (λ k. at_number (WriterOk (contents_of ns k) (acked_by ns k)) c.writers l k w' no_writer
    (λ q. subst (λ (n : ℕ). WriterOk (contents_of ns n) (acked_by ns n) w') (sym q) h.writer) (i.writing k))
    (λ k. at_both c l w' m' k (LedgerOk (world ns (put_by_writer c l w' m')) k) inW inL
    (λ q. subst (λ (n : ℕ). LedgerOk (world ns (put_by_writer c l w' m')) n w' m') (sym q) (ledger_later t l w' m' h.ledger))
    (λ _. ledger_later t k (writer_of c k) (ledger_of c k) (i.metadata k)))
  where
    t : Later (world ns c) (world ns (put_by_writer c l w' m'))
    t = puts_later ns c l w' m' inW inL h
