-- The bookies of a write set are different ones: positions differ, and so do the bookies of a fragment.
use Rattle.std.proofs.Common.{◌≡◌, ℕ, zero, suc, ◌+◌, ◌-◌, ◌%◌, ◌<◌, ◌≤◌, Bool, true, false, cond, eqb, leb, List, [], ◌∷◌, map, length, get_or, take, set, replicate, sym, refl, ap, ◌∙◌, subst, inl, inr, le_of_suc-le-suc, not-suc-le-zero, mod-lt, mod-eq_of_lt, arith, lit≤}
use native.Mathlib.Nat.{mod-add-mod, mod-eq-sub-mod}
use Rattle.std.specs.List.{AllByRecursion}
use Rattle.std.proofs.lemmas.List.{get_or-take, length-take-le}
use Rattle.std.proofs.lemmas.Bool.{both_ways, true≢false, false≢true, cond_both, eqb-false, eq-eqb, ne_eqb, leb-false, cases_lt}
use Rattle.ledgers.specs.Limits.{max_ensemble}
use Rattle.layout.specs.Sizes.{sizes_of}
use Rattle.layout.specs.WriteSets.{positions, write_set, member, distinct}
use Rattle.layout.specs.Layouts.{no_fragment, blank_fragment, fragment_below, fragment_of, bookie_at, bookies_of, first_layout, no_layout}
use Rattle.layout.specs.declared.sizes.Sizes.{Sizes}
use Rattle.layout.specs.declared.fragments.Fragment.{Fragment}
use Rattle.layout.specs.declared.fragments.Layout.{Layout}
use Rattle.protocol.proofs.World.{LayoutOk}

-- neither holds
either_not : (a b : Bool) → cond a true b ≡ false → (a ≡ false) × (b ≡ false)
either_not true b h = absurd (true≢false h)
either_not false b h = (refl, h)

-- the first does not, and the second does
neither : (a b : Bool) → cond a false b ≡ true → (a ≡ false) × (b ≡ true)
neither true b h = absurd (false≢true h)
neither false b h = (refl, h)

-- a change past the front leaves it
pub take_of_set : {A : Type 0} (n : ℕ) (xs : List A) (i : ℕ) (x : A) → take n (set xs i x) ≡ set (take n xs) i x
take_of_set zero xs i x = refl
take_of_set (suc n) [] i x = refl
take_of_set (suc n) (y ∷ xs) zero x = refl
take_of_set (suc n) (y ∷ xs) (suc i) x = ap (λ ys. y ∷ ys) (take_of_set n xs i x)

-- x stays out where another comes in
not_member_set : (xs : List ℕ) (q b x : ℕ) → member x xs ≡ false → eqb x b ≡ false → member x (set xs q b) ≡ false
not_member_set [] q b x h e = h
not_member_set (y ∷ xs) zero b x h e = rw e (either_not (eqb x y) (member x xs) h).1
not_member_set (y ∷ xs) (suc q) b x h e = let k = either_not (eqb x y) (member x xs) h in rw k.0 (not_member_set xs q b x k.1 e)

-- a number that is not among them may replace one of them
pub distinct_set : (xs : List ℕ) (q b : ℕ) → distinct xs ≡ true → member b xs ≡ false → distinct (set xs q b) ≡ true
distinct_set [] q b d h = d
distinct_set (x ∷ xs) zero b d h = let k = either_not (eqb b x) (member b xs) h in rw k.1 (neither (member x xs) (distinct xs) d).1
distinct_set (x ∷ xs) (suc q) b d h =
    let k = either_not (eqb b x) (member b xs) h in let z = neither (member x xs) (distinct xs) d in
    let ne : eqb x b ≡ false = ne_eqb x b (λ e. eqb-false b x k.0 (sym e)) in
    rw (not_member_set xs q b x z.0 ne) (distinct_set xs q b z.1 k.1)

-- what stands at a place is a member
member_at : (xs : List ℕ) (i : ℕ) → i < length xs → member (get_or xs i 0) xs ≡ true
member_at [] i h = absurd (not-suc-le-zero h)
member_at (x ∷ xs) zero h = rw (eq-eqb x x refl)
member_at (x ∷ xs) (suc i) h =
    cond_both (eqb (get_or xs i 0) x) true (member (get_or xs i 0) xs) (λ v. v ≡ true) (λ _. refl) (λ _. member_at xs i (le_of_suc-le-suc h))

-- different numbers stand at different places
places_apart : (xs : List ℕ) (i j : ℕ) → distinct xs ≡ true → i < length xs → j < length xs → get_or xs i 0 ≡ get_or xs j 0 → i ≡ j
places_apart [] i j d h k e = absurd (not-suc-le-zero h)
places_apart (x ∷ xs) zero zero d h k e = refl
places_apart (x ∷ xs) zero (suc j) d h k e =
    absurd (both_ways (member x xs) (neither (member x xs) (distinct xs) d).0 (subst (λ (v : ℕ). member v xs ≡ true) (sym e) (member_at xs j (le_of_suc-le-suc k))))
places_apart (x ∷ xs) (suc i) zero d h k e =
    absurd (both_ways (member x xs) (neither (member x xs) (distinct xs) d).0 (subst (λ (v : ℕ). member v xs ≡ true) e (member_at xs i (le_of_suc-le-suc h))))
places_apart (x ∷ xs) (suc i) (suc j) d h k e =
    ap suc (places_apart xs i j (neither (member x xs) (distinct xs) d).1 (le_of_suc-le-suc h) (le_of_suc-le-suc k) e)

-- a function that keeps the numbers below m apart
module _ (f : ℕ → ℕ) (m : ℕ) (one : (i j : ℕ) → i < m → j < m → f i ≡ f j → i ≡ j) where
  -- what is out stays out
  not_member_map : (p : ℕ) (ps : List ℕ) → p < m → AllByRecursion (λ q. q < m) ps → member p ps ≡ false → member (f p) (map f ps) ≡ false
  not_member_map p [] lt all h = refl
  not_member_map p (q ∷ ps) lt all h =
      let k = either_not (eqb p q) (member p ps) h in
      let ne : eqb (f p) (f q) ≡ false = ne_eqb (f p) (f q) (λ e. eqb-false p q k.0 (one p q lt all.0 e)) in
      rw ne (not_member_map p ps lt all.1 k.1)

  -- and what differs still does
  map_distinct : (ps : List ℕ) → AllByRecursion (λ q. q < m) ps → distinct ps ≡ true → distinct (map f ps) ≡ true
  map_distinct [] all d = refl
  map_distinct (p ∷ ps) all d =
      let k = neither (member p ps) (distinct ps) d in rw (not_member_map p ps all.0 all.1 k.0) (map_distinct ps all.1 k.1)

-- positions ----------------------------------------------------------------------------------------------------------
-- positions less than m apart differ
mod_apart : (e d m : ℕ) → 1 ≤ d → d < m → e % m ≡ (e + d) % m → ⊥
mod_apart e d m some lt same =
    let r : e % m < m = mod-lt e (omega arith) in
    let s : (e % m + d) % m ≡ (e + d) % m = mod-add-mod e m d in
    elim (cases_lt (e % m + d) m) [
      | inl h ↦ (let k : (e % m + d) % m ≡ e % m + d = mod-eq_of_lt h in omega arith)
      | inr h ↦ (let k : (e % m + d) % m ≡ (e % m + d - m) % m = mod-eq-sub-mod h in
          let l : (e % m + d - m) % m ≡ e % m + d - m = mod-eq_of_lt (omega arith) in omega arith)
    ]

-- so the first does not come again
later_not : (n e d m : ℕ) → 1 ≤ d → d + n ≤ m → member (e % m) (positions n (e + d) m) ≡ false
later_not zero e d m some le = refl
later_not (suc n) e d m some le =
    let ne : eqb (e % m) ((e + d) % m) ≡ false = ne_eqb (e % m) ((e + d) % m) (mod_apart e d m some (omega arith)) in
    let k : suc (e + d) ≡ e + (d + 1) = omega arith in
    rw (ne, k) (later_not n e (d + 1) m (omega arith) (omega arith))

-- the positions of a write set differ
positions_distinct : (n e m : ℕ) → n ≤ m → distinct (positions n e m) ≡ true
positions_distinct zero e m le = refl
positions_distinct (suc n) e m le =
    let k : suc e ≡ e + 1 = omega arith in
    let other : member (e % m) (positions n (suc e) m) ≡ false = rw k (later_not n e 1 m (omega arith) (omega arith)) in
    rw other (positions_distinct n (suc e) m (omega arith))

-- and are positions of the ensemble
positions_within : (n e m : ℕ) → 1 ≤ m → AllByRecursion (λ q. q < m) (positions n e m)
positions_within zero e m some = tt
positions_within (suc n) e m some = (mod-lt e some, positions_within n (suc e) m some)

-- layouts ------------------------------------------------------------------------------------------------------------
-- what holds of each fragment holds of the one that an entry belongs to
of_fragment : (fs : List Fragment) (P : Fragment → Type 0) (n e : ℕ) → (get_or fs 0 no_fragment).first.0 ≡ 0 → 1 ≤ n
    → ((i : ℕ) → i < n → P (get_or fs i no_fragment)) → P (fragment_below fs n e)
of_fragment fs P zero e first some all = let v : ⊥ = omega arith in absurd v
of_fragment fs P (suc zero) e first some all =
    cond_both (leb (get_or fs 0 no_fragment).first.0 e) (get_or fs 0 no_fragment) blank_fragment P (λ _. all 0 (omega arith))
    (λ q. let k = leb-false (get_or fs 0 no_fragment).first.0 e q in let v : ⊥ = omega arith in absurd v)
of_fragment fs P (suc (suc n)) e first some all =
    cond_both (leb (get_or fs (suc n) no_fragment).first.0 e) (get_or fs (suc n) no_fragment) (fragment_below fs (suc n) e) P
    (λ _. all (suc n) (omega arith)) (λ _. of_fragment fs P (suc n) e first (omega arith) (λ i h. all i (omega arith)))

-- so the bookies of a write set differ
pub bookies_apart : (y : Layout) → LayoutOk y → (e : ℕ) → distinct (bookies_of y e) ≡ true
bookies_apart y h e =
    map_distinct (bookie_at y e) y.sizes.ensemble one (write_set y.sizes e)
    (positions_within y.sizes.write e y.sizes.ensemble (let a = y.sizes.written in let b = y.sizes.acked in let c = y.sizes.some in omega arith))
    (positions_distinct y.sizes.write e y.sizes.ensemble y.sizes.written)
  where
    full : y.sizes.ensemble ≤ length (fragment_of y e).bookies
    full = of_fragment y.fragments (λ f. y.sizes.ensemble ≤ length f.bookies) y.count e h.rises.first y.some h.full

    apart : distinct (take y.sizes.ensemble (fragment_of y e).bookies) ≡ true
    apart = of_fragment y.fragments (λ f. distinct (take y.sizes.ensemble f.bookies) ≡ true) y.count e h.rises.first y.some h.apart

    one : (i j : ℕ) → i < y.sizes.ensemble → j < y.sizes.ensemble → bookie_at y e i ≡ bookie_at y e j → i ≡ j
    one i j k l q =
        let n : length (take y.sizes.ensemble (fragment_of y e).bookies) ≡ y.sizes.ensemble = length-take-le y.sizes.ensemble (fragment_of y e).bookies full in
        places_apart (take y.sizes.ensemble (fragment_of y e).bookies) i j apart (omega arith) (omega arith)
        (get_or-take y.sizes.ensemble (fragment_of y e).bookies i 0 k ∙ q ∙ sym (get_or-take y.sizes.ensemble (fragment_of y e).bookies j 0 l))

-- a layout of one fragment
pub first_layout_ok : (s : Sizes) (bs : List ℕ) → s.ensemble ≤ length bs → distinct (take s.ensemble bs) ≡ true → LayoutOk (first_layout s bs)
first_layout_ok s bs full apart =
    record {
      rises = record { first = refl; rising = λ i l. let v : ⊥ = omega arith in absurd v; last = omega arith };
      full = λ i l. let o : 0 ≡ i = omega arith in
          subst (λ (k : ℕ). s.ensemble ≤ length (get_or (first_layout s bs).fragments k no_fragment).bookies) o full;
      apart = λ i l. let o : 0 ≡ i = omega arith in
          subst (λ (k : ℕ). distinct (take s.ensemble (get_or (first_layout s bs).fragments k no_fragment).bookies) ≡ true) o apart;
    }

-- the blank layout
pub no_layout_ok : LayoutOk no_layout
no_layout_ok = first_layout_ok (sizes_of 1 1 1) (replicate max_ensemble 0) (lit≤ tt) refl
