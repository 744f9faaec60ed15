-- A loop's turns through the positions of a write set, the write sets of an ensemble, and the fragments of a layout.
use Rattle.std.proofs.Common.{◌≡◌, ℕ, zero, suc, ◌+◌, ◌%◌, ◌<◌, Bool, true, false, cond, ◌||◌, eqb, leb, List, [], ◌∷◌, ◌++◌, length, sym, refl, ap, ◌∙◌, ⊎_elim, not-suc-le-zero, count_by, add-zero, add-one, arith}
use Rattle.std.proofs.lemmas.Bool.{and_from, and_left, and_right, cases_eq}
use Rattle.std.proofs.lemmas.Bool.Decides.{nat_tests}
use Rattle.std.proofs.lemmas.List.Recursion.{is_count_by}
use Rattle.std.specs.List.{list_any}
use Rattle.layout.specs.WriteSets.{positions, write_set, tally, member, blocking, covers_below}
use Rattle.layout.specs.declared.sizes.Sizes.{Sizes}

-- so many positions
pub length_positions : (n e m : ℕ) → length (positions n e m) ≡ n
length_positions zero e m = refl
length_positions (suc n) e m = ap suc (length_positions n (suc e) m)

-- one position more at the end
pub positions_push : (n e m : ℕ) → positions (n + 1) e m ≡ positions n e m ++ (((e + n) % m) ∷ [])
positions_push zero e m = ap (λ k. (k % m) ∷ []) (sym (add-zero e))
positions_push (suc n) e m =
    let k : suc n + 1 ≡ suc (n + 1) = omega arith in
    let j : suc e + n ≡ e + suc n = omega arith in
    ap (λ v. positions v e m) k ∙ ap (λ ps. (e % m) ∷ ps) (positions_push n (suc e) m)
    ∙ ap (λ v. (e % m) ∷ (positions n (suc e) m ++ ((v % m) ∷ []))) j

-- what the library counts
pub tally_counts : {A : Type 0} (t : A → Bool) (xs : List A) → tally t xs ≡ count_by t xs
tally_counts t xs =
    is_count_by (tally t) t refl
    (λ x ys. let more : suc (tally t ys) ≡ 1 + tally t ys = omega arith in ap (λ n. cond (t x) n (tally t ys)) more) xs

eqb_flip : (x y : ℕ) → eqb x y ≡ eqb y x
eqb_flip x y = grind (arith, nat_tests)

-- what the library looks for
pub member_found : (x : ℕ) (ys : List ℕ) → member x ys ≡ list_any (λ y. eqb y x) ys
member_found x [] = refl
member_found x (y ∷ ys) = rw (member_found x ys) (rw (eqb_flip x y) (go (eqb y x) (list_any (λ z. eqb z x) ys)))
  where
    go : (u v : Bool) → cond u true v ≡ (u || v)
    go true v = refl
    go false v = refl

-- the write sets below n are covered, and the next one too
module _ (s : Sizes) (t : ℕ → Bool) where
  pub covers_more : (n : ℕ) → covers_below s t n ≡ true → leb (blocking s) (tally t (write_set s n)) ≡ true → covers_below s t (n + 1) ≡ true
  covers_more n h k = rw add-one (and_from _ _ k h)

  -- one of them is not
  pub covers_not : (n k : ℕ) → k < n → leb (blocking s) (tally t (write_set s k)) ≡ false → covers_below s t n ≡ false
  covers_not zero k l h = absurd (not-suc-le-zero l)
  covers_not (suc n) k l h =
      ⊎_elim (λ (q : n ≡ k). and_left _ _ (ap (λ j. leb (blocking s) (tally t (write_set s j))) q ∙ h))
      (λ (q : n ≡ k → ⊥). and_right (leb (blocking s) (tally t (write_set s n))) _ (covers_not n k (omega arith) h)) (cases_eq n k)
