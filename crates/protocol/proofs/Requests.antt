-- The delivery of a request: what a bookie that answers has become, and that its reply is true.
use Rattle.std.proofs.Common.{◌≡◌, ℕ, ◌≤◌, max, Bool, true, false, cond, not, ◌&&◌, ◌||◌, eqb, ◌⊎◌, List, [], ◌∷◌, ◌++◌, length, Some, None, Ok, Err, Option, Result, sym, refl, ap, ◌∙◌, subst, inl, inr, arith, length-set}
use Rattle.std.specs.Option.{is_some}
use Rattle.std.specs.List.{AllByRecursion}
use Rattle.std.proofs.ByRecursion.{All-push}
use Rattle.std.proofs.lemmas.List.{get_or-set_same}
use Rattle.std.proofs.lemmas.Bool.{and_parts, and_from, both_ways, not-true, false≢true, cond_both, eqb-true, eq-eqb, or_cases, or_left, or_right}
use Rattle.ledgers.specs.Limits.{max_ledgers, is_ledger, is_entry}
use Rattle.ledgers.specs.Ids.{lac_id}
use Rattle.ledgers.specs.Tables.{row}
use Rattle.ledgers.specs.declared.bodies.Body.{Body}
use Rattle.ledgers.specs.declared.ids.BookieId.{BookieId}
use Rattle.ledgers.specs.declared.ids.EntryId.{EntryId}
use Rattle.ledgers.specs.declared.ids.Lac.{Lac}
use Rattle.ledgers.specs.declared.ids.LedgerId.{LedgerId}
use Rattle.ledgers.specs.declared.ids.RecovererId.{RecovererId}
use Rattle.messages.specs.declared.entries.Held.{Held}
use Rattle.messages.specs.declared.faults.BookieFault.{BookieFault}
use Rattle.messages.specs.declared.faults.BookieFault.TheVariants as refused
use Rattle.messages.specs.declared.messages.Message.{Message}
use Rattle.messages.specs.declared.messages.Message.TheVariants.{Fence, RecoveryRead, Add, RecoveryAdd, Added, AddRefused, Refused}
use Rattle.protocol.specs.Bookies.{Bookie, no_bookie, is_copy, find, holds, is_fenced, highest_lac, add_fits, add_answer, holding, add_after, fence_answer, fencing, fence_after, read_answer, recovery_read_answer}
use Rattle.protocol.specs.Clusters.{Cluster, bookie_of, writer_of, with_bookie, send}
use Rattle.protocol.specs.Steps.{unless_stopped, add_reply, recovery_add_reply, fence_reply, read_reply, served, act}
use Rattle.protocol.proofs.Lists.{at_set, in_range, set_rel, number_rel, number_same, ledger_row}
use Rattle.protocol.proofs.Questions.{passed, by_answer, both_passed}
use Rattle.protocol.proofs.World.{Note, ack_note, delivery_note, is_ack, acked_by, World, world, Sent, CopyOk, MessageOk, Later, InvAt}
use Rattle.protocol.proofs.Changes.{sent_inv, Grows, grows_same, bookies_later, bookies_inv, bookie_inv}

-- copies of a bookie -------------------------------------------------------------------------------------------------
-- what is held is held with one copy more
find_more : (hs : List Held) (h : Held) (l e : ℕ) → is_some (find hs l e) ≡ true → is_some (find (hs ++ (h ∷ [])) l e) ≡ true
find_more [] h l e k = absurd (false≢true k)
find_more (g ∷ hs) h l e k = one (find_more hs h l e) (is_copy g l e) k
  where
    one : (is_some (find hs l e) ≡ true → is_some (find (hs ++ (h ∷ [])) l e) ≡ true) → (v : Bool)
        → is_some (cond v (Some g) (find hs l e)) ≡ true → is_some (cond v (Some g) (find (hs ++ (h ∷ [])) l e)) ≡ true
    one rest true k = refl
    one rest false k = rest k

-- a number is itself
same_number : (n : ℕ) → eqb n n ≡ true
same_number n = eq-eqb n n refl

-- the new copy is found
find_new : (hs : List Held) (h : Held) → is_some (find (hs ++ (h ∷ [])) h.ledger.0 h.entry.0) ≡ true
find_new [] h = rw (same_number h.ledger.0, same_number h.entry.0)
find_new (g ∷ hs) h = one (find_new hs h) (is_copy g h.ledger.0 h.entry.0)
  where
    one : is_some (find (hs ++ (h ∷ [])) h.ledger.0 h.entry.0) ≡ true → (v : Bool)
        → is_some (cond v (Some g) (find (hs ++ (h ∷ [])) h.ledger.0 h.entry.0)) ≡ true
    one rest true = refl
    one rest false = rest

-- the LACs of copies are ones that the writer has had
highest_le : (x : World) (hs : List Held) (l : ℕ) → AllByRecursion (CopyOk x) hs → highest_lac hs l ≤ (x.writer l).lac
highest_le x [] l h = omega arith
highest_le x (g ∷ hs) l h =
    cond_both (eqb g.ledger.0 l) (max g.lac.0 (highest_lac hs l)) (highest_lac hs l) (λ n. n ≤ (x.writer l).lac)
    (λ q. let p : g.lac.0 ≤ (x.writer l).lac = subst (λ (k : ℕ). g.lac.0 ≤ (x.writer k).lac) (eqb-true g.ledger.0 l q) h.0.1 in
    let r = highest_le x hs l h.1 in omega arith)
    (λ _. highest_le x hs l h.1)

-- what a copy that is found says
abbrev pub FoundOk : World → ℕ → ℕ → Option Held → Type 0
FoundOk x l e None = Unit {0}
FoundOk x l e (Some h) = Sent x l e h.lac.0 h.body

-- a copy that is found is one of this entry
pub find_ok : (x : World) (hs : List Held) (l e : ℕ) → AllByRecursion (CopyOk x) hs → FoundOk x l e (find hs l e)
find_ok x [] l e h = tt
find_ok x (g ∷ hs) l e h =
    cond_both (is_copy g l e) (Some g) (find hs l e) (FoundOk x l e)
    (λ q. let p = and_parts (eqb g.ledger.0 l) (eqb g.entry.0 e) q in
    subst (λ (k : ℕ). Sent x k e g.lac.0 g.body) (eqb-true g.ledger.0 l p.0)
    (subst (λ (k : ℕ). Sent x g.ledger.0 k g.lac.0 g.body) (eqb-true g.entry.0 e p.1) h.0))
    (λ _. find_ok x hs l e h.1)

-- add ----------------------------------------------------------------------------------------------------------------
module _ (B : Bookie) (l : LedgerId) (e : EntryId) (n : Lac) (body : Body) (recovery : Bool) where
  -- the copy that an add makes
  copy : Held
  copy = record { ledger = l; entry = e; lac = n; body = body }

  -- of the bookie after an add: it is as before, or holds the entry anew
  add_cases : (P : Bookie → Type 0) → P B → (holds B l.0 e.0 ≡ false → P (holding B copy)) → P (add_after B l e n body recovery)
  unfolding copy
  add_cases P old new =
      by_answer (add_answer B l e n body recovery) _ B P (λ _ _. cond_both (holds B l.0 e.0) B (holding B copy) P (λ _. old) new) (λ _ _. old)

  -- an add takes nothing away
  add_grows : Grows B (add_after B l e n body recovery)
  unfolding copy
  add_grows = add_cases (Grows B) (grows_same B) (λ _. record { held = λ k f. find_more B.entries copy k f; fenced = λ k h. h; flags = refl })

  -- its copy is true
  add_copies : (x : World) → AllByRecursion (CopyOk x) B.entries → Sent x l.0 e.0 n.0 body → AllByRecursion (CopyOk x) (add_after B l e n body recovery).entries
  unfolding copy
  add_copies x h s = add_cases (λ C. AllByRecursion (CopyOk x) C.entries) h (λ _. All-push (CopyOk x) B.entries copy h s)

  -- an acknowledged entry is held
  add_holds : (u : Unit {0}) → add_answer B l e n body recovery ≡ Ok u → holds (add_after B l e n body recovery) l.0 e.0 ≡ true
  unfolding copy
  add_holds u z =
      by_answer (add_answer B l e n body recovery) _ B (λ C. holds C l.0 e.0 ≡ true)
      (λ _ _. cond_both (holds B l.0 e.0) B (holding B copy) (λ C. holds C l.0 e.0 ≡ true) (λ h. h) (λ _. find_new B.entries copy))
      (λ f k. absurd (cc))

  -- a bookie that acknowledges is up, and not fenced for a writer
  add_passed : (u : Unit {0}) → add_answer B l e n body recovery ≡ Ok u → (B.up ≡ true) × ((not (is_fenced B l.0) || recovery) ≡ true)
  add_passed u z =
      let p = passed (add_fits l e n) refused.Range _ u z in let q = passed B.up refused.Stopped _ u p.1 in
      (q.0, (passed (not (is_fenced B l.0) || recovery) refused.Fenced _ u q.1).0)

-- fence --------------------------------------------------------------------------------------------------------------
module _ (B : Bookie) (l : LedgerId) where
  -- a bookie that answers a fence is up
  fence_passed : (n : Lac) → fence_answer B l ≡ Ok n → (is_ledger l.0 ≡ true) × (B.up ≡ true) × (lac_id (highest_lac B.entries l.0) ≡ n)
  fence_passed n z =
      let p = passed (is_ledger l.0) refused.Range _ n z in let q = passed B.up refused.Stopped _ n p.1 in
      (p.0, q.0, (let e = q.1 in cc))

  -- a fence takes nothing away
  fence_grows : Grows B (fence_after B l)
  fence_grows =
      by_answer (fence_answer B l) (fencing B l) B (Grows B)
      (λ _ _. record {
        held = λ k e h. h;
        fenced = λ k. number_rel (λ (a b : Bool). a ≡ true → b ≡ true) (λ a h. h) B.fences l.0 k true false (λ _. refl);
        flags = length-set B.fences (row B.fences l.0) true;
      })
      (λ _ _. grows_same B)

  -- and leaves the copies
  fence_entries : (fence_after B l).entries ≡ B.entries
  fence_entries = by_answer (fence_answer B l) (fencing B l) B (λ C. C.entries ≡ B.entries) (λ _ _. refl) (λ _ _. refl)

  -- what is fenced is fenced
  fence_fences : length B.fences ≡ max_ledgers → (n : Lac) → fence_answer B l ≡ Ok n → is_fenced (fence_after B l) l.0 ≡ true
  fence_fences flags n z =
      by_answer (fence_answer B l) (fencing B l) B (λ C. is_fenced C l.0 ≡ true)
      (λ _ _. number_same B.fences l.0 true false (ledger_row B.fences l.0 flags (fence_passed n z).0))
      (λ f k. absurd (cc))

-- deliveries ---------------------------------------------------------------------------------------------------------
-- a refusal says nothing
unless_ok : (x : World) (f : BookieFault) (m : Message) → MessageOk x m → AllByRecursion (MessageOk x) (unless_stopped f m)
unless_ok x refused.Range m g = (g, tt)
unless_ok x refused.Stopped m g = tt
unless_ok x refused.Fenced m g = (g, tt)
unless_ok x refused.OtherBody m g = (g, tt)
unless_ok x refused.Full m g = (g, tt)

-- a bookie that is up is there, so that what it becomes is found in its place
put_there : (c : Cluster) (b : ℕ) (B : Bookie) → (bookie_of c b).up ≡ true → bookie_of (with_bookie c b B) b ≡ B
put_there c b B u = get_or-set_same c.bookies b B no_bookie (in_range (λ C. C.up) c.bookies b no_bookie refl u)

-- the bookie of a fence or of a recovery read is fenced, and the rest of it is as before
fenced_inv : {x₀ : World} (ns : List Note) (c : Cluster) (b : ℕ) (l : LedgerId) → InvAt x₀ ns c → InvAt x₀ ns (with_bookie c b (fence_after (bookie_of c b) l))
fenced_inv ns c b l i =
    bookie_inv ns c b (fence_after (bookie_of c b) l) i (fence_grows (bookie_of c b) l)
    (rw (fence_entries (bookie_of c b) l) (i.copies b))

-- the bookie is found fenced
fenced_there : {x₀ : World} (ns : List Note) (c : Cluster) (b : ℕ) (l : LedgerId) (n : Lac) → InvAt x₀ ns c → fence_answer (bookie_of c b) l ≡ Ok n
    → is_fenced (bookie_of (with_bookie c b (fence_after (bookie_of c b) l)) b) l.0 ≡ true
fenced_there ns c b l n i z =
    rw (put_there c b (fence_after (bookie_of c b) l) (fence_passed (bookie_of c b) l n z).1) (fence_fences (bookie_of c b) l (i.flags b) n z)

-- a fence arrives
pub fence_keeps : {x₀ : World} (ns : List Note) (c : Cluster) (r : RecovererId) (l : LedgerId) (b : BookieId) → InvAt x₀ ns c
    → InvAt x₀ ns (act c (Fence r l b)).next
fence_keeps ns c r l b i = sent_inv ns c' (fence_reply r l b (fence_answer B l)) (fenced_inv ns c b.0 l i) (true_reply (fence_answer B l) refl)
  where
    B : Bookie
    B = bookie_of c b.0

    c' : Cluster
    c' = with_bookie c b.0 (fence_after B l)

    true_reply : (a : Result Lac BookieFault) → fence_answer B l ≡ a → AllByRecursion (MessageOk (world ns c')) (fence_reply r l b a)
    true_reply (Ok n) z = (
      (
        fenced_there ns c b.0 l n i z,
        subst (λ (v : Lac). v.0 ≤ (writer_of c l.0).lac) (fence_passed B l n z).2 (highest_le (world ns c) B.entries l.0 (i.copies b.0)),
      ),
      tt,
    )
    true_reply (Err f) z = unless_ok (world ns c') f (Refused r l b f) tt

-- a recovery read arrives
pub read_keeps : {x₀ : World} (ns : List Note) (c : Cluster) (r : RecovererId) (l : LedgerId) (b : BookieId) (e : EntryId) → InvAt x₀ ns c
    → InvAt x₀ ns (act c (RecoveryRead r l b e)).next
read_keeps ns c r l b e i =
    sent_inv ns c' (read_reply r l b e (recovery_read_answer B l e)) (fenced_inv ns c b.0 l i)
    (true_reply (recovery_read_answer B l e) refl (find_ok (world ns c) B.entries l.0 e.0 (i.copies b.0)))
  where
    B : Bookie
    B = bookie_of c b.0

    c' : Cluster
    c' = with_bookie c b.0 (fence_after B l)

    -- an answered read: the bookie answered a fence, and the entry was looked for among its copies
    read_passed : (o : Option Held) → recovery_read_answer B l e ≡ Ok o → ((n : Lac) × (fence_answer B l ≡ Ok n)) × (find B.entries l.0 e.0 ≡ o)
    read_passed o z =
        let p = both_passed (fence_answer B l) (read_answer (fence_after B l) l e) o z in
        let q = passed (is_ledger l.0 && is_entry e.0) refused.Range _ o p.1 in
        let v = passed (fence_after B l).up refused.Stopped _ o q.1 in
        let same : find (fence_after B l).entries l.0 e.0 ≡ o = let k = v.1 in cc in
        (p.0, subst (λ (hs : List Held). find hs l.0 e.0 ≡ o) (fence_entries B l) same)

    -- an absent entry was never acknowledged, since what is acknowledged is held
    never : find B.entries l.0 e.0 ≡ None → (v : Bool) → acked_by ns l.0 e.0 b.0 ≡ v → not v ≡ true
    never q true k = absurd (false≢true (sym (ap is_some q) ∙ i.acked l.0 e.0 b.0 k))
    never q false k = refl

    true_reply : (a : Result (Option Held) BookieFault) → recovery_read_answer B l e ≡ a → FoundOk (world ns c) l.0 e.0 (find B.entries l.0 e.0)
        → AllByRecursion (MessageOk (world ns c')) (read_reply r l b e a)
    true_reply (Ok None) z f =
        let p = read_passed None z in (
          and_from (is_fenced (bookie_of c' b.0) l.0) (not (acked_by ns l.0 e.0 b.0))
              (fenced_there ns c b.0 l p.0.0 i p.0.1) (never p.1 (acked_by ns l.0 e.0 b.0) refl),
          tt,
        )
    true_reply (Ok (Some h)) z f = (subst (FoundOk (world ns c) l.0 e.0) (read_passed (Some h) z).1 f, tt)
    true_reply (Err f) z _ = unless_ok (world ns c') f (Refused r l b f) tt

-- a recovery add arrives
pub recovery_add_keeps : {x₀ : World} (ns : List Note) (c : Cluster) (r : RecovererId) (l : LedgerId) (b : BookieId) (e : EntryId) (n : Lac) (body : Body)
    → InvAt x₀ ns c → Sent (world ns c) l.0 e.0 n.0 body → InvAt x₀ ns (act c (RecoveryAdd r l b e n body)).next
recovery_add_keeps ns c r l b e n body i s =
    sent_inv ns c' (recovery_add_reply r l b e (add_answer B l e n body true))
    (bookie_inv ns c b.0 C i (add_grows B l e n body true) (add_copies B l e n body true (world ns c) (i.copies b.0) s))
    (true_reply (add_answer B l e n body true) refl)
  where
    B : Bookie
    B = bookie_of c b.0

    C : Bookie
    C = add_after B l e n body true

    c' : Cluster
    c' = with_bookie c b.0 C

    true_reply : (a : Result (Unit {0}) BookieFault) → add_answer B l e n body true ≡ a → AllByRecursion (MessageOk (world ns c')) (recovery_add_reply r l b e a)
    true_reply (Ok u) z = (rw (put_there c b.0 C (add_passed B l e n body true u z).0) (add_holds B l e n body true u z), tt)
    true_reply (Err f) z = unless_ok (world ns c') f (Refused r l b f) tt

-- a writer's add, whose acknowledgement is noted ---------------------------------------------------------------------
-- whose acknowledgement it is
ack_parts : (l e b l' e' b' : ℕ) → is_ack (ack_note l e b) l' e' b' ≡ true → (l ≡ l') × (e ≡ e') × (b ≡ b')
ack_parts l e b l' e' b' h =
    let p = and_parts (eqb l l') (eqb e e' && eqb b b') h in let q = and_parts (eqb e e') (eqb b b') p.1 in
    (eqb-true l l' p.0, eqb-true e e' q.0, eqb-true b b' q.1)

-- a writer's add arrives
pub add_keeps : {x₀ : World} (ns : List Note) (c : Cluster) (l : LedgerId) (b : BookieId) (e : EntryId) (n : Lac) (body : Body)
    → InvAt x₀ ns c → Sent (world ns c) l.0 e.0 n.0 body
    → InvAt x₀ (delivery_note (Add l b e n body) (act c (Add l b e n body)).answer ∷ ns) (act c (Add l b e n body)).next
add_keeps {x₀} ns c l b e n body i s = by (add_answer B l e n body false) refl
  where
    B : Bookie
    B = bookie_of c b.0

    C : Bookie
    C = add_after B l e n body false

    c' : Cluster
    c' = with_bookie c b.0 C

    new : Note
    new = ack_note l.0 e.0 b.0

    grown : (k : ℕ) → Grows (bookie_of c k) (bookie_of c' k)
    grown k = set_rel Grows grows_same c.bookies b.0 k C no_bookie (add_grows B l e n body false)

    copies : AllByRecursion (CopyOk (world ns c)) C.entries
    copies = add_copies B l e n body false (world ns c) (i.copies b.0) s

    acknowledging : (u : Unit {0}) → add_answer B l e n body false ≡ Ok u → InvAt x₀ (new ∷ ns) (send c' (Added l b e ∷ []))
    acknowledging u z =
        sent_inv (new ∷ ns) c' (Added l b e ∷ [])
        (bookies_inv (world ns c) (bookie_of c') (acked_by (new ∷ ns)) later i
        (λ k. at_set (λ D. AllByRecursion (CopyOk (world ns c)) D.entries) c.bookies b.0 k C no_bookie (λ _. copies) (i.copies k))
        (λ l' e' k h. has l' e' k (or_cases (is_ack new l' e' k) (acked_by ns l' e' k) h)))
        (or_left (is_ack new l.0 e.0 b.0) (acked_by ns l.0 e.0 b.0) (rw (same_number l.0, same_number e.0, same_number b.0)), tt)
      where
        unfenced : is_fenced B l.0 ≡ false
        unfenced =
            elim (or_cases (not (is_fenced B l.0)) false (add_passed B l e n body false u z).1)
            [ inl k ↦ not-true (is_fenced B l.0) k | inr k ↦ absurd (false≢true k) ]

        -- an acknowledgement of a fenced bookie is an old one
        old : (l' e' k : ℕ) → is_fenced (bookie_of c k) l' ≡ true → ((is_ack new l' e' k ≡ true) ⊎ (acked_by ns l' e' k ≡ true)) → acked_by ns l' e' k ≡ true
        old l' e' k f (inl a) =
            let p = ack_parts l.0 e.0 b.0 l' e' k a in
            absurd (both_ways (is_fenced B l.0) unfenced
            (subst (λ (v : ℕ). is_fenced (bookie_of c v) l.0 ≡ true) (sym p.2) (subst (λ (v : ℕ). is_fenced (bookie_of c k) v ≡ true) (sym p.0) f)))
        old l' e' k f (inr a) = a

        later : Later (world ns c) (world (new ∷ ns) c')
        later =
            bookies_later (world ns c) (bookie_of c') (acked_by (new ∷ ns)) grown
            (λ l' e' k h. or_right (is_ack new l' e' k) (acked_by ns l' e' k) h)
            (λ l' e' k f h. old l' e' k f (or_cases (is_ack new l' e' k) (acked_by ns l' e' k) h))

        has : (l' e' k : ℕ) → ((is_ack new l' e' k ≡ true) ⊎ (acked_by ns l' e' k ≡ true)) → holds (bookie_of c' k) l' e' ≡ true
        has l' e' k (inl a) =
            let p = ack_parts l.0 e.0 b.0 l' e' k a in
            rw (← p.0, ← p.1, ← p.2, put_there c b.0 C (add_passed B l e n body false u z).0) (add_holds B l e n body false u z)
        has l' e' k (inr a) = (grown k).held l' e' (i.acked l' e' k a)

    by : (a : Result (Unit {0}) BookieFault) → add_answer B l e n body false ≡ a
        → InvAt x₀ (delivery_note (Add l b e n body) (Ok (served a)) ∷ ns) (send c' (add_reply l b e a))
    by (Ok u) z = acknowledging u z
    by (Err f) z =
        sent_inv ns c' (add_reply l b e (Err f)) (bookie_inv ns c b.0 C i (add_grows B l e n body false) copies)
        (unless_ok (world ns c') f (AddRefused l b e f) tt)
