-- Lemmas on lists, tables, counts and marks that know nothing of a cluster.
use Rattle.std.proofs.Common.{◌≡◌, ℕ, zero, suc, ◌+◌, ◌-◌, ◌<◌, ◌≤◌, Bool, true, false, cond, eqb, ltb, leb, ◌⊎◌, List, [], ◌∷◌, ◌++◌, map, length, get_or, take, drop, set, replicate, sym, refl, ap, ◌∙◌, subst, inl, inr, le_of_suc-le-suc, not-suc-le-zero, arith}
use Rattle.std.specs.List.{AllByRecursion}
use Rattle.std.proofs.ByRecursion.{All-append, All-push, All-take, All-drop}
use Rattle.std.proofs.lemmas.List.{get_or_past, set_past}
use Rattle.std.proofs.lemmas.Bool.{and_parts, true≢false, false≢true, cond_both, cond-false, eqb-true, ne_eqb, leb-true, cases_eq, cases_lt}
use Rattle.ledgers.specs.Limits.{max_ledgers, max_ensemble, is_ledger}
use Rattle.ledgers.specs.Tables.{row, numbered, renumbered}
use Rattle.layout.specs.WriteSets.{write_set, tally, marked, no_marks, mark}
use Rattle.layout.specs.Layouts.{bookie_at, bookies_of}
use Rattle.layout.specs.declared.fragments.Layout.{Layout}
use Rattle.messages.specs.Waiting.{taken_off, Queue, sent_one, sent}
use Rattle.messages.specs.declared.messages.Message.{Message}

-- places of a list ---------------------------------------------------------------------------------------------------
-- what holds of each element still does after one place was set
pub at_set : {A : Type 0} (P : A → Type 0) (xs : List A) (i j : ℕ) (a d : A) → (j ≡ i → P a) → P (get_or xs j d) → P (get_or (set xs i a) j d)
at_set P [] i j a d f g = g
at_set P (x ∷ xs) zero zero a d f g = f refl
at_set P (x ∷ xs) zero (suc j) a d f g = g
at_set P (x ∷ xs) (suc i) zero a d f g = g
at_set P (x ∷ xs) (suc i) (suc j) a d f g = at_set P xs i j a d (λ e. f (ap suc e)) g

-- the same, where the place is there, so that the old element need not have it
pub at_set_in : {A : Type 0} (P : A → Type 0) (xs : List A) (i j : ℕ) (a d : A) → i < length xs → (j ≡ i → P a)
    → ((j ≡ i → ⊥) → P (get_or xs j d)) → P (get_or (set xs i a) j d)
at_set_in P [] i j a d h f g = absurd (not-suc-le-zero h)
at_set_in P (x ∷ xs) zero zero a d h f g = f refl
at_set_in P (x ∷ xs) zero (suc j) a d h f g = g (λ e. omega arith)
at_set_in P (x ∷ xs) (suc i) zero a d h f g = g (λ e. omega arith)
at_set_in P (x ∷ xs) (suc i) (suc j) a d h f g =
    at_set_in P xs i j a d (le_of_suc-le-suc h) (λ e. f (ap suc e)) (λ ne. g (λ e. ne (omega arith)))

-- a place where a test passes that the default fails is there
pub in_range : {A : Type 0} (t : A → Bool) (xs : List A) (i : ℕ) (d : A) → t d ≡ false → t (get_or xs i d) ≡ true → i < length xs
in_range t [] i d e h = absurd (true≢false (sym h ∙ e))
in_range t (x ∷ xs) zero d e h = omega arith
in_range t (x ∷ xs) (suc i) d e h = let k : i < length xs = in_range t xs i d e h in omega arith

-- one place changes along R, and so each does
pub set_rel : {A : Type 0} (R : A → A → Type 0) → ((a : A) → R a a) → (xs : List A) (i j : ℕ) (a d : A) → R (get_or xs i d) a
    → R (get_or xs j d) (get_or (set xs i a) j d)
set_rel R same xs i j a d h =
    at_set (R (get_or xs j d)) xs i j a d (λ e. subst (λ (k : ℕ). R (get_or xs k d) a) (sym e) h) (same (get_or xs j d))

-- every place of a list of equals is the default's like
pub at_replicate : {A : Type 0} (P : A → Type 0) (n i : ℕ) (d : A) → P d → P (get_or (replicate n d) i d)
at_replicate P zero i d h = h
at_replicate P (suc n) zero d h = h
at_replicate P (suc n) (suc i) d h = at_replicate P n i d h

-- tables whose rows are numbered from 1 ------------------------------------------------------------------------------
-- number i has a row
abbrev pub HasRow : {A : Type 0} → List A → ℕ → Type 0
HasRow xs i = (1 ≤ i) × (i ≤ length xs)

-- there is no row of number 0
no_row : {A : Type 0} (xs : List A) (d : A) → numbered xs 0 d ≡ d
no_row xs d = get_or_past xs (length xs) d (omega arith)

-- number i + 1 has row i
row_suc : {A : Type 0} (xs : List A) (i : ℕ) → row xs (suc i) ≡ i
row_suc xs i = cond-false (eqb (suc i) 0) (length xs) (suc i - 1) (ne_eqb (suc i) 0 (λ e. omega arith)) ∙ omega arith

-- the row of number i + 1 is the place i
in_row : {A : Type 0} (P : A → Type 0) (xs : List A) (i : ℕ) (d : A) → P (numbered xs (suc i) d) → P (get_or xs i d)
in_row P xs i d = subst (λ (k : ℕ). P (get_or xs k d)) (row_suc xs i)

-- what holds of a place holds of the row
of_row : {A : Type 0} (P : A → Type 0) (xs : List A) (i j : ℕ) (a d : A) → P (get_or (set xs i a) j d)
    → P (numbered (renumbered xs (suc i) a) (suc j) d)
of_row P xs i j a d h =
    subst (λ (k : ℕ). P (get_or (renumbered xs (suc i) a) k d)) (sym (row_suc (renumbered xs (suc i) a) j))
    (subst (λ (k : ℕ). P (get_or (set xs k a) j d)) (sym (row_suc xs i)) h)

-- what holds of each row still does after one was set
pub at_number : {A : Type 0} (P : A → Type 0) (xs : List A) (i j : ℕ) (a d : A) → (j ≡ i → P a) → P (numbered xs j d)
    → P (numbered (renumbered xs i a) j d)
at_number P xs zero j a d f g = subst (λ ys. P (numbered ys j d)) (sym (set_past xs (length xs) a (omega arith))) g
at_number P xs (suc i) zero a d f g = subst P (no_row xs d ∙ sym (no_row (renumbered xs (suc i) a) d)) g
at_number P xs (suc i) (suc j) a d f g = of_row P xs i j a d (at_set P xs i j a d (λ e. f (ap suc e)) (in_row P xs j d g))

-- the same, where the row is there
pub at_number_in : {A : Type 0} (P : A → Type 0) (xs : List A) (i j : ℕ) (a d : A) → HasRow xs i → (j ≡ i → P a)
    → ((j ≡ i → ⊥) → P (numbered xs j d)) → P (numbered (renumbered xs i a) j d)
at_number_in P xs zero j a d h f g = let k = h.0 in let v : ⊥ = omega arith in absurd v
at_number_in P xs (suc i) zero a d h f g = subst P (no_row xs d ∙ sym (no_row (renumbered xs (suc i) a) d)) (g (λ e. omega arith))
at_number_in P xs (suc i) (suc j) a d h f g =
    of_row P xs i j a d
    (at_set_in P xs i j a d (let k = h.1 in omega arith) (λ e. f (ap suc e)) (λ ne. in_row P xs j d (g (λ e. ne (omega arith)))))

-- one row changes along R, and so each does
pub number_rel : {A : Type 0} (R : A → A → Type 0) → ((a : A) → R a a) → (xs : List A) (i j : ℕ) (a d : A) → R (numbered xs i d) a
    → R (numbered xs j d) (numbered (renumbered xs i a) j d)
number_rel R same xs i j a d h =
    at_number (R (numbered xs j d)) xs i j a d (λ e. subst (λ (k : ℕ). R (numbered xs k d) a) (sym e) h) (same (numbered xs j d))

-- what was set is found
pub number_same : {A : Type 0} (xs : List A) (i : ℕ) (a d : A) → HasRow xs i → numbered (renumbered xs i a) i d ≡ a
number_same xs i a d h = at_number_in (λ b. b ≡ a) xs i i a d h (λ _. refl) (λ ne. absurd (ne refl))

-- a number where a test passes that the blank fails has a row
pub has_row : {A : Type 0} (t : A → Bool) (xs : List A) (i : ℕ) (d : A) → t d ≡ false → t (numbered xs i d) ≡ true → HasRow xs i
has_row t xs zero d e h = absurd (true≢false (sym h ∙ ap t (no_row xs d) ∙ e))
has_row t xs (suc i) d e h =
    let k : i < length xs = in_range t xs i d e (in_row (λ a. t a ≡ true) xs i d h) in (omega arith, omega arith)

-- a number has a row, or a blank
pub row_or_blank : {A : Type 0} (xs : List A) (i : ℕ) (d : A) → HasRow xs i ⊎ (numbered xs i d ≡ d)
row_or_blank xs zero d = inr (no_row xs d)
row_or_blank xs (suc i) d =
    elim (cases_lt i (length xs))
    [ inl z ↦ inl (omega arith, z) | inr z ↦ inr (subst (λ (k : ℕ). get_or xs k d ≡ d) (sym (row_suc xs i)) (get_or_past xs i d z)) ]

-- what holds of the blank, of the new row and of every other holds of each after one row was set
pub at_number_blank : {A : Type 0} (P : A → Type 0) (xs : List A) (i j : ℕ) (a d : A) → P d → (j ≡ i → P a)
    → ((j ≡ i → ⊥) → P (numbered xs j d)) → P (numbered (renumbered xs i a) j d)
at_number_blank P xs i j a d blank f g =
    elim (row_or_blank xs i d) [
      | inl z ↦ at_number_in P xs i j a d z f g
      | inr z ↦ at_number P xs i j a d f
          (elim (cases_eq j i) [ inl q ↦ subst (λ (k : ℕ). P (numbered xs k d)) (sym q) (subst P (sym z) blank) | inr ne ↦ g ne ])
    ]

-- a ledger that there can be has a row in a table of all
pub ledger_row : {A : Type 0} (xs : List A) (l : ℕ) → length xs ≡ max_ledgers → is_ledger l ≡ true → HasRow xs l
ledger_row xs l n h =
    let p = and_parts (leb 1 l) (leb l max_ledgers) h in
    let low : 1 ≤ l = leb-true 1 l p.0 in
    let high : l ≤ max_ledgers = leb-true l max_ledgers p.1 in (low, omega arith)

-- every row of a table of blanks is blank
pub all_blank : {A : Type 0} (P : A → Type 0) (n i : ℕ) (d : A) → P d → P (numbered (replicate n d) i d)
all_blank P n i d h = at_replicate P n (row (replicate n d) i) d h

-- waiting lists ------------------------------------------------------------------------------------------------------
-- what holds of all holds of the rest
pub all_taken_off : {A : Type 0} (P : A → Type 0) (xs : List A) (i : ℕ) → AllByRecursion P xs → AllByRecursion P (taken_off xs i)
all_taken_off P xs i h = All-append P (take i xs) (drop (suc i) xs) (All-take P i xs h) (All-drop P (suc i) xs h)

-- and with one message more
pub all_sent_one : (P : Message → Type 0) (q : Queue) (m : Message) → AllByRecursion P q.waiting → P m → AllByRecursion P (sent_one q m).waiting
all_sent_one P q m h k =
    cond_both (ltb (length q.waiting) q.room) (q.waiting ++ (m ∷ [])) q.waiting (AllByRecursion P) (λ _. All-push P q.waiting m h k) (λ _. h)

-- or with several
pub all_sent : (P : Message → Type 0) (q : Queue) (new : List Message) → AllByRecursion P q.waiting → AllByRecursion P new → AllByRecursion P (sent q new).waiting
all_sent P q [] h k = h
all_sent P q (m ∷ new) h k = all_sent P (sent_one q m) new (all_sent_one P q m h k.0) k.1

-- counts -------------------------------------------------------------------------------------------------------------
-- a weaker test passes more
pub tally_mono : {A : Type 0} (t u : A → Bool) (xs : List A) → ((x : A) → t x ≡ true → u x ≡ true) → tally t xs ≤ tally u xs
tally_mono t u [] h = omega arith
tally_mono t u (x ∷ xs) h = one (t x) (u x) (h x) (tally_mono t u xs h)
  where
    one : (a b : Bool) → (a ≡ true → b ≡ true) → tally t xs ≤ tally u xs
        → cond a (suc (tally t xs)) (tally t xs) ≤ cond b (suc (tally u xs)) (tally u xs)
    one true true f k = omega arith
    one true false f k = absurd (true≢false (sym (f refl)))
    one false true f k = omega arith
    one false false f k = k

-- counting what a map gives
pub tally_map : {A B : Type 0} (t : B → Bool) (f : A → B) (xs : List A) → tally t (map f xs) ≡ tally (λ x. t (f x)) xs
tally_map t f [] = refl
tally_map t f (x ∷ xs) = ap (λ n. cond (t (f x)) (suc n) n) (tally_map t f xs)

-- two tests that no element passes both of
pub pigeon : {A : Type 0} (t u : A → Bool) (xs : List A) → ((x : A) → t x ≡ true → u x ≡ true → ⊥) → tally t xs + tally u xs ≤ length xs
pigeon t u [] h = omega arith
pigeon t u (x ∷ xs) h = one (t x) (u x) (h x) (pigeon t u xs h)
  where
    one : (a b : Bool) → (a ≡ true → b ≡ true → ⊥) → tally t xs + tally u xs ≤ length xs
        → cond a (suc (tally t xs)) (tally t xs) + cond b (suc (tally u xs)) (tally u xs) ≤ suc (length xs)
    one true true f k = absurd (f refl refl)
    one true false f k = omega arith
    one false true f k = omega arith
    one false false f k = omega arith

-- marks --------------------------------------------------------------------------------------------------------------
-- what is marked was marked before, or has bookie b
pub mark_is : (P : ℕ → Type 0) (bs ps : List ℕ) (b : ℕ) (m : List Bool) → ((q : ℕ) → marked m q ≡ true → P (get_or bs q 0)) → P b
    → (q : ℕ) → marked (mark bs ps b m) q ≡ true → P (get_or bs q 0)
mark_is P bs [] b m h k = h
mark_is P bs (p ∷ ps) b m h k =
    cond_both (eqb (get_or bs p 0) b) (set m p true) (mark bs ps b m) (λ m'. (q : ℕ) → marked m' q ≡ true → P (get_or bs q 0))
    (λ e q. at_set (λ v. v ≡ true → P (get_or bs q 0)) m p q true false
    (λ same _. subst P (sym (ap (λ (z : ℕ). get_or bs z 0) same ∙ eqb-true (get_or bs p 0) b e)) k) (h q))
    (λ _. mark_is P bs ps b m h k)

-- a mark was made by somebody
pub none_marked : (q : ℕ) → marked no_marks q ≡ true → ⊥
none_marked q h = true≢false (sym h ∙ at_replicate (λ v. v ≡ false) max_ensemble q false refl)

-- marks on the positions of a write set count bookies of it
pub marks_count : (t : ℕ → Bool) (y : Layout) (e : ℕ) (m : List Bool) → ((q : ℕ) → marked m q ≡ true → t (bookie_at y e q) ≡ true)
    → tally (marked m) (write_set y.sizes e) ≤ tally t (bookies_of y e)
marks_count t y e m h =
    rw (tally_map t (bookie_at y e) (write_set y.sizes e)) (tally_mono (marked m) (λ q. t (bookie_at y e q)) (write_set y.sizes e) h)

-- without the mark of position p
pub unmark_is : (m : List Bool) (p q : ℕ) → marked (set m p false) q ≡ true → (q ≡ p → ⊥) × (marked m q ≡ true)
unmark_is [] p q h = absurd (false≢true h)
unmark_is (x ∷ xs) zero zero h = absurd (false≢true h)
unmark_is (x ∷ xs) zero (suc q) h = ((λ e. omega arith), h)
unmark_is (x ∷ xs) (suc p) zero h = ((λ e. omega arith), h)
unmark_is (x ∷ xs) (suc p) (suc q) h = let k = unmark_is xs p q h in ((λ e. k.0 (omega arith)), k.1)
