-- Each fact of the invariant lasts from a world to every later one.
use Rattle.std.proofs.Common.{◌≡◌, ℕ, suc, ◌≤◌, Bool, true, false, not, List, [], ◌∷◌, sym, refl, ◌∙◌, inl, inr, arith}
use Rattle.std.specs.List.{AllByRecursion}
use Rattle.std.proofs.ByRecursion.{All-weaker}
use Rattle.std.proofs.lemmas.Bool.{and_parts, and_from, both_ways, not-true}
use Rattle.ledgers.specs.declared.bodies.Body.{Body}
use Rattle.layout.specs.Layouts.{bookie_at, bookies_of}
use Rattle.layout.specs.declared.fragments.Layout.{Layout}
use Rattle.messages.specs.declared.entries.Held.{Held}
use Rattle.messages.specs.declared.entries.PendingAdd.{PendingAdd}
use Rattle.messages.specs.declared.messages.Message.{Message}
use Rattle.messages.specs.declared.messages.Message.TheVariants.{Fence, RecoveryRead, Add, RecoveryAdd, Added, AddRefused, Fenced, Absent, Found, RecoveryAdded, Refused}
use Rattle.messages.specs.declared.metadata.LedgerState.{LedgerState}
use Rattle.messages.specs.declared.metadata.LedgerState.TheVariants.{Open, InRecovery, Closed}
use Rattle.messages.specs.declared.metadata.Metadata.{Metadata}
use Rattle.protocol.specs.Bookies.{is_fenced}
use Rattle.protocol.specs.Writers.{Writer}
use Rattle.protocol.specs.declared.recoverers.Phase.{Phase}
use Rattle.protocol.specs.declared.recoverers.Phase.TheVariants.{Idle, Fencing, Reading, Writing, Ended}
use Rattle.protocol.specs.declared.recoverers.Recoverer.{Recoverer}
use Rattle.protocol.proofs.Lists.{tally_mono}
use Rattle.protocol.proofs.World.{World, barred, held_at, Sent, CopyOk, MessageOk, PendingOk, WriterOk, Sealed, Copied, StateOk, LedgerOk, PhaseOk, Under, WorkOk, Shut, Later, Inv}

-- contents stay, and LACs only rise
pub sent_later : {x y : World} → Later x y → (l e n : ℕ) (body : Body) → Sent x l e n body → Sent y l e n body
sent_later t l e n body h = let a : n ≤ _ = h.1 in let b = t.lac l in (t.contents l e body h.0, omega arith)

-- barred stays barred: the fence is for good, and a fenced bookie acknowledges nothing new
pub barred_later : {x y : World} → Later x y → (l e b : ℕ) → barred x l e b ≡ true → barred y l e b ≡ true
barred_later {x} {y} t l e b h =
    and_from (is_fenced (y.bookie b) l) (not (y.acked l e b)) (t.fenced l b f) (never (y.acked l e b) refl)
  where
    f : is_fenced (x.bookie b) l ≡ true
    f = (and_parts (is_fenced (x.bookie b) l) (not (x.acked l e b)) h).0

    n : x.acked l e b ≡ false
    n = not-true (x.acked l e b) (and_parts (is_fenced (x.bookie b) l) (not (x.acked l e b)) h).1

    never : (v : Bool) → y.acked l e b ≡ v → not v ≡ true
    never true q = absurd (both_ways (x.acked l e b) n (t.barred l e b f q))
    never false q = refl

-- a true message stays true
pub message_later : {x y : World} → Later x y → (m : Message) → MessageOk x m → MessageOk y m
message_later t (Fence r l b) h = h
message_later t (RecoveryRead r l b e) h = h
message_later t (Add l b e n body) h = sent_later t l.0 e.0 n.0 body h
message_later t (RecoveryAdd r l b e n body) h = sent_later t l.0 e.0 n.0 body h
message_later t (Added l b e) h = t.acked l.0 e.0 b.0 h
message_later t (AddRefused l b e f) h = h
message_later t (Fenced r l b n) h = (t.fenced l.0 b.0 h.0, let p = h.1 in let q = t.lac l.0 in omega arith)
message_later t (Absent r l b e) h = barred_later t l.0 e.0 b.0 h
message_later t (Found r l b e n body) h = sent_later t l.0 e.0 n.0 body h
message_later t (RecoveryAdded r l b e) h = t.held l.0 e.0 b.0 h
message_later t (Refused r l b f) h = h

-- copies stay true
pub copies_later : {x y : World} → Later x y → (hs : List Held) → AllByRecursion (CopyOk x) hs → AllByRecursion (CopyOk y) hs
copies_later {x} {y} t hs = All-weaker (CopyOk x) (CopyOk y) (λ h. sent_later t h.ledger.0 h.entry.0 h.lac.0 h.body) hs

-- what an ack quorum holds it holds on
pub copied_later : {x y : World} → Later x y → (l n : ℕ) (u : Layout) → Copied x l n u → Copied y l n u
copied_later {x} {y} t l n u h e k =
    let p = h e k in let q = tally_mono (held_at x l e) (held_at y l e) (bookies_of u e) (λ b. t.held l e b) in omega arith

-- an entry that cannot be confirmed never can
pub sealed_later : {x y : World} → Later x y → (l n : ℕ) (u : Layout) → Sealed x l n u → Sealed y l n u
sealed_later t l n u (inl h) = inl h
sealed_later {x} {y} t l n u (inr h) =
    let q = tally_mono (barred x l n) (barred y l n) (bookies_of u n) (λ b. barred_later t l n b) in inr (omega arith)

-- what a recoverer knows stays so
phase_later : {x y : World} → Later x y → (R : Recoverer) (l : ℕ) (u : Layout) (ph : Phase) → PhaseOk x R l u ph → PhaseOk y R l u ph
phase_later t R l u Idle h = h
phase_later t R l u (Fencing m) h = h
phase_later t R l u (Reading m) h = λ q k. barred_later t l R.settled.0 (bookie_at u R.settled.0 q) (h q k)
phase_later t R l u (Writing m n body) h =
    (sent_later t l R.settled.0 n.0 body h.0, λ q k. t.held l R.settled.0 (bookie_at u R.settled.0 q) (h.1 q k))
phase_later t R l u Ended h = sealed_later t l R.settled.0 u h

-- under a recovery the ledger is not open
pub under_shut : (m : Metadata) (v : ℕ) → Under m v → Shut m
under_shut m v (inl h) = inl h.0
under_shut m v (inr h) = inr h.0

-- a recoverer at work keeps its facts
work_later : {x y : World} → Later x y → (R : Recoverer) → WorkOk x R → WorkOk y R
work_later {x} {y} t R h =
    let f = t.frozen R.ledger.0 (under_shut (x.ledger R.ledger.0) R.version.0 h.under) in
    record {
      same = h.same ∙ sym f.0;
      under = f.2 R.version.0 h.under;
      below = copied_later t R.ledger.0 R.settled.0 R.layout h.below;
      phase = phase_later t R R.ledger.0 R.layout R.phase h.phase;
    }

-- the facts of each state of a ledger last
state_later : {x y : World} → Later x y → (l : ℕ) (w : Writer) (m : Metadata) (st : LedgerState) → StateOk x l w m st → StateOk y l w m st
state_later t l w m Open h = h
state_later t l w m InRecovery h = h
state_later {x} {y} t l w m Closed h = (
  copied_later t l m.closing.0 m.layout h.0,
  elim h.1 [ inl k ↦ inl k | inr k ↦ inr (k.0, sealed_later t l m.closing.0 w.layout k.1) ],
)

-- and so those of its metadata
pub ledger_later : {x y : World} → Later x y → (l : ℕ) (w : Writer) (m : Metadata) → LedgerOk x l w m → LedgerOk y l w m
ledger_later t l w m h = record { free = h.free; state = state_later t l w m m.state h.state; layout = h.layout }

-- a writer's facts, under more acknowledgements
pending_more : (ts : List Body) (A B : ℕ → ℕ → Bool) → ((e b : ℕ) → A e b ≡ true → B e b ≡ true)
    → (u : Layout) (e : ℕ) (ps : List PendingAdd) → PendingOk ts A u e ps → PendingOk ts B u e ps
pending_more ts A B f u e [] h = h
pending_more ts A B f u e (p ∷ ps) h = (h.0, (λ q m. f e (bookie_at u e q) (h.1 q m)), pending_more ts A B f u (suc e) ps h.2)

-- as the acknowledgements grow
pub writer_more : (ts : List Body) (A B : ℕ → ℕ → Bool) (w : Writer) → ((e b : ℕ) → A e b ≡ true → B e b ≡ true) → WriterOk ts A w → WriterOk ts B w
writer_more ts A B w f h =
    record {
      upto = h.upto;
      small = h.small;
      firm = λ e k. let p = h.firm e k in let q = tally_mono (A e) (B e) (bookies_of w.layout e) (f e) in omega arith;
      pending = λ a b. pending_more ts A B f w.layout w.lac w.pending (h.pending a b);
      first = h.first;
      blank = h.blank;
      layout = h.layout;
    }

-- worlds follow one another ------------------------------------------------------------------------------------------
-- a world is later than itself
pub later_refl : (x : World) → Later x x
later_refl x =
    record {
      contents = λ l e body h. h;
      acked = λ l e b h. h;
      barred = λ l e b f h. h;
      held = λ l e b h. h;
      fenced = λ l b h. h;
      lac = λ l. omega arith;
      frozen = λ l s. (refl, s, λ v h. h);
      closed = λ l h. (h, refl);
      flags = λ b. refl;
      writers = refl;
      ledgers = refl;
    }

-- and later than later is later
pub later_trans : {x y z : World} → Later x y → Later y z → Later x z
later_trans {x} {y} {z} s t =
    record {
      contents = λ l e body h. t.contents l e body (s.contents l e body h);
      acked = λ l e b h. t.acked l e b (s.acked l e b h);
      barred = λ l e b f h. s.barred l e b f (t.barred l e b (s.fenced l b f) h);
      held = λ l e b h. t.held l e b (s.held l e b h);
      fenced = λ l b h. t.fenced l b (s.fenced l b h);
      lac = λ l. let p = s.lac l in let q = t.lac l in omega arith;
      frozen = λ l h. let p = s.frozen l h in let q = t.frozen l p.1 in (q.0 ∙ p.0, q.1, λ v u. q.2 v (p.2 v u));
      closed = λ l h. let p = s.closed l h in let q = t.closed l p.0 in (q.0, q.1 ∙ p.1);
      flags = λ b. t.flags b ∙ s.flags b;
      writers = t.writers ∙ s.writers;
      ledgers = t.ledgers ∙ s.ledgers;
    }

-- from a world to a later one, where acknowledgements, copies, writers and metadata are seen to anew
pub inv_later : {x₀ x y : World} {rs : ℕ → Recoverer} {ms : List Message} → Later x y → Inv x₀ x rs ms
    → ((l e b : ℕ) → y.acked l e b ≡ true → held_at y l e b ≡ true)
    → ((b : ℕ) → AllByRecursion (CopyOk y) (y.bookie b).entries)
    → ((l : ℕ) → WriterOk (y.contents l) (y.acked l) (y.writer l))
    → ((l : ℕ) → LedgerOk y l (y.writer l) (y.ledger l)) → Inv x₀ y rs ms
inv_later {x₀} {x} {y} {rs} {ms} t i a h w s =
    record {
      since = later_trans i.since t;
      acked = a;
      copies = h;
      messages = All-weaker (MessageOk x) (MessageOk y) (message_later t) ms i.messages;
      writing = w;
      metadata = s;
      recoverers = λ r z. work_later t (rs r) (i.recoverers r z);
      flags = λ b. t.flags b ∙ i.flags b;
      writers = t.writers ∙ i.writers;
      ledgers = t.ledgers ∙ i.ledgers;
    }
