-- What is to be shown of a chain of questions: once for each refusal, and once for what follows a yes.
use Rattle.std.proofs.Common.{◌≡◌, suc, Bool, true, false, not, eqb, leb, Ok, Err, Result, refl}
use Rattle.std.proofs.lemmas.Bool.{not-true, eqb-true, eqb-false}
use Rattle.ledgers.specs.Limits.{is_ledger}
use Rattle.ledgers.specs.Ids.{lac_id, version_id}
use Rattle.ledgers.specs.declared.ids.Lac.{Lac}
use Rattle.ledgers.specs.declared.ids.LedgerId.{LedgerId}
use Rattle.ledgers.specs.declared.ids.Version.{Version}
use Rattle.layout.specs.declared.fragments.Layout.{Layout}
use Rattle.messages.specs.Faults.{question, when_ok, and_then}
use Rattle.messages.specs.declared.faults.StoreFault.{StoreFault}
use Rattle.messages.specs.declared.faults.StoreFault.TheVariants as denied
use Rattle.messages.specs.declared.metadata.LedgerState.{LedgerState}
use Rattle.messages.specs.declared.metadata.LedgerState.TheVariants.{Open}
use Rattle.protocol.specs.Stores.{Store, metadata_of, exists, written, create_answer, create_after, put_answer, put_after, is_version}
use Rattle.protocol.specs.Writers.{Writer, is_shut_out, is_closed, if_writing}
use Rattle.protocol.specs.Clusters.{Cluster}
use Rattle.protocol.specs.Steps.{Outcome, refuse, ask, by_client}
use Rattle.protocol.specs.declared.faults.ClientFault.{ClientFault}
use Rattle.protocol.specs.declared.faults.ClientFault.TheVariants as client
use Rattle.protocol.specs.declared.faults.StepFault.{StepFault}
use Rattle.protocol.specs.declared.faults.StepFault.TheVariants as fault

-- of bookies, stores and clients -------------------------------------------------------------------------------------
-- one question
pub asked : {A F : Type 0} (q : Bool) (f : F) (r : Result A F) (P : Result A F → Type 0) → P (Err f) → (q ≡ true → P r) → P (question q f r)
asked true f r P bad good = good refl
asked false f r P bad good = bad

-- an accepted call passed the question
pub passed : {A F : Type 0} (q : Bool) (f : F) (r : Result A F) (a : A) → question q f r ≡ Ok a → (q ≡ true) × (r ≡ Ok a)
passed true f r a h = (refl, h)
passed false f r a h = absurd (cc)

-- what follows an answer
pub by_answer : {A F X : Type 0} (r : Result A F) (x y : X) (P : X → Type 0) → ((a : A) → r ≡ Ok a → P x) → ((f : F) → r ≡ Err f → P y)
    → P (when_ok r x y)
by_answer (Ok a) x y P f g = f a refl
by_answer (Err e) x y P f g = g e refl

-- an accepted pair of calls
pub both_passed : {A B F : Type 0} (r : Result A F) (s : Result B F) (b : B) → and_then r s ≡ Ok b → ((a : A) × (r ≡ Ok a)) × (s ≡ Ok b)
both_passed (Ok a) s b h = ((a, refl), h)
both_passed (Err f) s b h = absurd (cc)

-- of the store, answer and store after together
module _ (s : Store) (l : LedgerId) (P : Result Version StoreFault → Store → Type 0) where
  -- refused, or in range and free
  pub create_cases : (y : Layout) → ((f : StoreFault) → P (Err f) s)
      → (is_ledger l.0 ≡ true → exists s l.0 ≡ false
      → P (Ok (version_id 1)) (written s l.0 (record { version = version_id 1; state = Open; layout = y; closing = lac_id 0 })))
      → P (create_answer s l) (create_after s l y)
  create_cases y bad good =
      let new = written s l.0 (record { version = version_id 1; state = Open; layout = y; closing = lac_id 0 }) in
      asked (is_ledger l.0) denied.Range _ (λ r. P r (when_ok r new s)) (bad denied.Range)
      (λ q30. asked (not (exists s l.0)) denied.Existence _ (λ r. P r (when_ok r new s)) (bad denied.Existence)
      (λ q31. asked (leb 1 s.changes) denied.Full _ (λ r. P r (when_ok r new s)) (bad denied.Full)
      (λ _. good q30 (not-true (exists s l.0) q31))))

  -- refused; another version; or in range and at the version expected
  pub put_cases : (v : Version) (st : LedgerState) (y : Layout) (n : Lac)
      → ((f : StoreFault) → is_version f ≡ false → P (Err f) s)
      → (((metadata_of s l.0).version.0 ≡ v.0 → ⊥) → P (Err denied.Version) s)
      → (is_ledger l.0 ≡ true → (metadata_of s l.0).version.0 ≡ v.0
      → P (Ok (version_id (suc v.0))) (written s l.0 (record { version = version_id (suc v.0); state = st; layout = y; closing = n })))
      → P (put_answer s l v) (put_after s l v st y n)
  put_cases v st y n bad other good =
      let new = written s l.0 (record { version = version_id (suc v.0); state = st; layout = y; closing = n }) in
      asked (is_ledger l.0) denied.Range _ (λ r. P r (when_ok r new s)) (bad denied.Range refl)
      (λ q30. asked (exists s l.0) denied.Existence _ (λ r. P r (when_ok r new s)) (bad denied.Existence refl)
      (λ _. version (eqb (metadata_of s l.0).version.0 v.0) refl q30))
    where
      P' : Result Version StoreFault → Type 0
      P' r = P r (when_ok r (written s l.0 (record { version = version_id (suc v.0); state = st; layout = y; closing = n })) s)

      version : (b : Bool) → eqb (metadata_of s l.0).version.0 v.0 ≡ b → is_ledger l.0 ≡ true
          → P' (question b denied.Version (question (leb 1 s.changes) denied.Full (Ok (version_id (suc v.0)))))
      version false q _ = other (eqb-false (metadata_of s l.0).version.0 v.0 q)
      version true q q30 =
          asked (leb 1 s.changes) denied.Full _ P' (bad denied.Full refl)
          (λ _. good q30 (eqb-true (metadata_of s l.0).version.0 v.0 q))

-- of a writer
pub writing_asked : {A : Type 0} (w : Writer) (r : Result A ClientFault) (P : Result A ClientFault → Type 0) → ((f : ClientFault) → P (Err f))
    → (is_shut_out w.state ≡ false → is_closed w.state ≡ false → P r) → P (if_writing w r)
writing_asked w r P bad good =
    asked (not (is_shut_out w.state)) client.Fenced _ P (bad client.Fenced)
    (λ q7. asked (not (is_closed w.state)) client.Closed r P (bad client.Closed)
    (λ q8. good (not-true (is_shut_out w.state) q7) (not-true (is_closed w.state) q8)))

-- of steps -----------------------------------------------------------------------------------------------------------
-- one question of a step
pub ask_cases : (c : Cluster) (P : Outcome → Type 0) (q : Bool) (f : StepFault) (o : Outcome) → P (refuse c f) → (q ≡ true → P o) → P (ask c q f o)
ask_cases c P true f o bad good = good refl
ask_cases c P false f o bad good = bad

-- what a client answers
pub client_cases : {A : Type 0} (c : Cluster) (P : Outcome → Type 0) (r : Result A ClientFault) (k : A → Outcome) → ((f : StepFault) → P (refuse c f)) → ((a : A) → P (k a))
    → P (by_client c r k)
client_cases c P (Ok a) k bad good = good a
client_cases c P (Err f) k bad good = bad (fault.Client f)
