-- What a replay of changes leaves: how long the table is, what one change more does to a ledger, and how high versions are.
use Rattle.std.proofs.Common.{◌≡◌, ℕ, suc, ◌+◌, ◌-◌, ◌<◌, ◌≤◌, Bool, true, false, cond, eqb, List, [], ◌∷◌, length, get_or, take, set, replicate, Some, None, fold, Option, sym, refl, ap, ◌∙◌, ⊎_elim, arith, length-set}
use Rattle.std.proofs.lemmas.List.{get_or-set_same, get_or-set_other, get_or-replicate}
use Rattle.std.proofs.lemmas.List.Sums.{fold_more}
use Rattle.std.proofs.lemmas.Bool.{cond-true, cond-false, cond_both, eq-eqb, ne_eqb, cases_eq, cases_Bool}
use Rattle.std.proofs.lemmas.Bool.Decides.{nat_tests}
use Rattle.ledgers.specs.Limits.{is_ledger}
use Rattle.ledgers.specs.Tables.{row, numbered}
use Rattle.layout.specs.WriteSets.{tally}
use Rattle.messages.specs.declared.metadata.Metadata.{Metadata}
use Rattle.protocol.specs.Stores.{known}
use Rattle.ledgers.proofs.Rows.{row_of, has_row, none_numbered}
use Rattle.chronicles.specs.Replays.{noted, changed, replayed, of_ledger}
use Rattle.chronicles.specs.declared.changes.Change.{Change}

-- a change leaves the table as long as it was
length_folded : (cs : List Change) (t : List (Option Metadata)) → length (fold changed t cs) ≡ length t
length_folded [] t = refl
length_folded (c ∷ cs) t =
    length_folded cs (changed t c) ∙ length-set t (row t c.ledger.0) (Some (noted (numbered t c.ledger.0 None) c))

-- which has a row for each ledger
pub length_replayed : (cs : List Change) → length (replayed cs) ≡ 16
length_replayed cs = length_folded cs _

-- a change is one of its own ledger, and of no other
module _ (t : List (Option Metadata)) (c : Change) (l : ℕ) (long : length t ≡ 16) (there : is_ledger l ≡ true) where
  at_row : numbered (changed t c) l None ≡ get_or (changed t c) (l - 1) None
  at_row = ap (λ i. get_or (changed t c) i None) (row_of (changed t c) l there)

  its_own : c.ledger.0 ≡ l → numbered (changed t c) l None ≡ Some (noted (numbered t l None) c)
  its_own is =
      let new : Option Metadata = Some (noted (numbered t c.ledger.0 None) c) in
      at_row ∙ ap (λ i. get_or (set t i new) (l - 1) None) (ap (row t) is ∙ row_of t l there)
      ∙ get_or-set_same t (l - 1) new None (has_row t l long there) ∙ ap (λ k. Some (noted (numbered t k None) c)) is

  rows_apart : l - 1 ≡ row t c.ledger.0 → c.ledger.0 ≡ l
  rows_apart same = let low = has_row t l long there in grind (arith, nat_tests)

  no_other : (c.ledger.0 ≡ l → ⊥) → numbered (changed t c) l None ≡ numbered t l None
  no_other ne =
      at_row ∙ get_or-set_other t (row t c.ledger.0) (l - 1) (Some (noted (numbered t c.ledger.0 None) c)) None (λ e. ne (rows_apart e))
      ∙ ap (λ i. get_or t i None) (sym (row_of t l there))

  numbered_changed : numbered (changed t c) l None
      ≡ cond (eqb c.ledger.0 l) (Some (noted (numbered t l None) c)) (numbered t l None)
  numbered_changed =
      ⊎_elim (λ is. its_own is ∙ sym (cond-true _ _ _ (eq-eqb c.ledger.0 l is)))
      (λ ne. no_other ne ∙ sym (cond-false _ _ _ (ne_eqb c.ledger.0 l ne))) (cases_eq c.ledger.0 l)

-- what is found of a ledger before the first change
pub found_none : (l : ℕ) → is_ledger l ≡ true → None ≡ numbered (replayed []) l None
found_none l there =
    let none : List (Option Metadata) = replayed [] in
    sym (ap (λ i. get_or none i None) (row_of none l there) ∙ get_or-replicate 16 (l - 1) None None (has_row none l refl there))

-- a ledger's version goes up by one with each change of it
version_folded : (cs : List Change) (t : List (Option Metadata)) (l : ℕ) → length t ≡ 16 → is_ledger l ≡ true
    → (known (numbered (fold changed t cs) l None)).version.0 ≡ (known (numbered t l None)).version.0 + tally (of_ledger l) cs
version_folded [] t l long there = omega arith
version_folded (c ∷ cs) t l long there =
    let rest = version_folded cs (changed t c) l (length_folded (c ∷ []) t ∙ long) there in
    let here = ap (λ m. (known m).version.0) (numbered_changed t c l long there) in
    rest ∙ ap (λ v. v + tally (of_ledger l) cs) here ∙ counted (of_ledger l c) (numbered t l None)
  where
    counted : (own : Bool) (m : Option Metadata)
        → (known (cond own (Some (noted m c)) m)).version.0 + tally (of_ledger l) cs
        ≡ (known m).version.0 + cond own (suc (tally (of_ledger l) cs)) (tally (of_ledger l) cs)
    counted true m = omega arith
    counted false m = refl

-- which is the number of its changes
pub complete : (cs : List Change) (l : ℕ) → is_ledger l ≡ true → (known (numbered (replayed cs) l None)).version.0 ≡ tally (of_ledger l) cs
complete cs l there =
    let start = ap (λ m. (known m).version.0) (found_none l there) in
    let all = version_folded cs (replayed []) l refl there in omega (arith, all, start)

tally_few : (t : Change → Bool) (cs : List Change) → tally t cs ≤ length cs
tally_few t [] = omega arith
tally_few t (c ∷ cs) =
    let rest = tally_few t cs in
    cond_both (t c) (suc (tally t cs)) (tally t cs) (λ n. n ≤ suc (length cs)) (λ _. omega arith) (λ _. omega arith)

-- so that no version is above the number of changes, whatever number a ledger has
pub kept_within : (cs : List Change) (l : ℕ) → (known (numbered (replayed cs) l None)).version.0 ≤ length cs
kept_within cs l =
    ⊎_elim (λ (there : is_ledger l ≡ true). omega (arith, complete cs l there, tally_few (of_ledger l) cs))
    (λ (none : is_ledger l ≡ false).
    omega (arith, ap (λ m. (known m).version.0) (none_numbered (replayed cs) l None (length_replayed cs) none)))
    (cases_Bool (is_ledger l))

-- what is found of a ledger after one change more
pub found_more : (cs : List Change) (i l : ℕ) (c : Change) (found : Option Metadata) → i < length cs → c ≡ get_or cs i c → is_ledger l ≡ true
    → found ≡ numbered (replayed (take i cs)) l None
    → numbered (replayed (take (i + 1) cs)) l None ≡ cond (eqb c.ledger.0 l) (Some (noted found c)) found
found_more cs i l c found lt is there so =
    let t = replayed (take i cs) in
    ap (λ u. numbered u l None) (fold_more changed (replicate 16 None) cs i c lt ∙ ap (changed t) (sym is))
    ∙ numbered_changed t c l (length_replayed (take i cs)) there
    ∙ ap (λ m. cond (eqb c.ledger.0 l) (Some (noted m c)) m) (sym so)
