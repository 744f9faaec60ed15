-- The library's searches through a list of entries are the protocol's.
use Rattle.std.proofs.Common.{◌≡◌, ℕ, max, cond, eqb, List, [], ◌∷◌, Some, Ordering, Less, Equal, Greater, fold, filter, refl, ap, ◌∙◌, arith}
use Rattle.std.proofs.lemmas.Bool.Decides.{nat_tests}
use Rattle.std.specs.List.{find}
use Rattle.std.specs.Ordering.{nat_cmp, max_by_ordering}
use Rattle.ledgers.specs.declared.ids.Lac.{Lac}
use Rattle.messages.specs.declared.entries.Held.{Held}
use Rattle.protocol.specs.Bookies.{is_copy, find as copy_in, highest_lac}

module _ (l : ℕ) where
  pub find_copy : (e : ℕ) (es : List Held) → find (λ h. is_copy h l e) es ≡ copy_in es l e
  find_copy e [] = refl
  find_copy e (h ∷ hs) = ap (cond (is_copy h l e) (Some h)) (find_copy e hs)

  -- from the highest so far
  pub fold_highest : (n : ℕ) (es : List Held) → fold (λ m (h : Held). max m h.lac.0) n (filter (λ h. eqb h.ledger.0 l) es) ≡ max n (highest_lac es l)
  fold_highest n [] = omega arith
  fold_highest n (h ∷ hs) =
      let a = fold_highest n hs in
      let b = fold_highest (max n h.lac.0) hs in
      grind (arith, nat_tests)

-- the later of a LAC and that of an entry
abbrev pub later : Lac → Held → Lac
later n h = max_by_ordering (nat_cmp n.0 h.lac.0) n h.lac

-- it has the greater number
later_number : (n : Lac) (h : Held) → (later n h).0 ≡ max n.0 h.lac.0
later_number n h = number (nat_cmp n.0 h.lac.0) n h.lac ∙ greater n.0 h.lac.0
  where
    number : (o : Ordering) (p z : Lac) → (max_by_ordering o p z).0 ≡ max_by_ordering o p.0 z.0
    number Less p z = refl
    number Equal p z = refl
    number Greater p z = refl

    greater : (a b : ℕ) → max_by_ordering (nat_cmp a b) a b ≡ max a b
    greater a b = grind arith

-- the number of the latest is the greatest number
pub latest_number : (n : Lac) (es : List Held) → (fold later n es).0 ≡ fold (λ m (h : Held). max m h.lac.0) n.0 es
latest_number n [] = refl
latest_number n (h ∷ hs) = latest_number (later n h) hs ∙ ap (λ m. fold (λ k (x : Held). max k x.lac.0) m hs) (later_number n h)
