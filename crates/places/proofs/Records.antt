-- What the functions do to the records of a list and to the places behind them: what users of lists rest on.
use Rattle.std.proofs.Common.{◌≡◌, ℕ, zero, suc, ◌+◌, ◌-◌, ◌<◌, ◌≤◌, cond, ltb, List, [], ◌∷◌, ◌++◌, length, take, drop, set, replicate, is_some, true, true≢false, Some, None, Option, sym, refl, ap, ◌∙◌, ⊎_elim, add-one, arith, length-append}
use Rattle.std.proofs.lemmas.List.{append_assoc, take_more_set, take-take, take_at, drop_at, drop-take, drop-drop, drop-set-lt, drop-replicate, length-take, length-take-le, length-drop, set_past}
use Rattle.std.proofs.lemmas.Bool.{and_parts, ltb-true, lt-ltb, le-ltb, cond-true, cond-false, cases_lt}
use Rattle.places.specs.Lists.{Removed, posted, taken_off, closed}

-- the count after an append
abbrev pub grown : {A : Type 0} → List A → ℕ → ℕ
grown places count = cond (ltb count (length places)) (count + 1) count

module _ {A : Type 0} (places : List A) (count : ℕ) (x : A) where
  -- an append posts the record,
  pub append_records : take (grown places count) (set places count x) ≡ posted (length places) (take count places) x
  append_records = ⊎_elim free full (cases_lt count (length places))
    where
      free : count < length places → take (grown places count) (set places count x) ≡ posted (length places) (take count places) x
      free lt =
          let long = length-take-le count places (omega arith) in
          ap (λ n. take n (set places count x)) (cond-true _ _ _ (lt-ltb count (length places) lt)) ∙ take_more_set places count x lt
          ∙ sym (cond-true _ _ _ (lt-ltb (length (take count places)) (length places) (omega arith)))

      full : length places ≤ count → take (grown places count) (set places count x) ≡ posted (length places) (take count places) x
      full ge =
          let long = length-take count places in
          ap (λ n. take n (set places count x)) (cond-false _ _ _ (le-ltb count (length places) ge)) ∙ ap (take count) (set_past places count x ge)
          ∙ sym (cond-false _ _ _ (le-ltb (length (take count places)) (length places) (omega arith)))

  -- and leaves the places behind
  pub append_behind : drop (grown places count) (set places count x) ≡ drop (grown places count) places
  append_behind = ⊎_elim free full (cases_lt count (length places))
    where
      free : count < length places → drop (grown places count) (set places count x) ≡ drop (grown places count) places
      free lt =
          let n = cond-true (ltb count (length places)) (count + 1) count (lt-ltb count (length places) lt) in
          drop-set-lt (grown places count) places count x (omega (arith, n))

      full : length places ≤ count → drop (grown places count) (set places count x) ≡ drop (grown places count) places
      full ge = ap (drop (grown places count)) (set_past places count x ge)

module _ {A : Type 0} (blank : A) (places : List A) (count at : ℕ) (there : at < count) (fits : count ≤ length places) where
  front : List A
  front = take at places ++ take (count - (at + 1)) (drop (at + 1) places)

  front_long : length front ≡ count - 1
  unfolding front
  front_long =
      let a = length-take-le at places (omega arith) in
      let d = length-drop (at + 1) places in
      let b = length-take-le (count - (at + 1)) (drop (at + 1) places) (omega arith) in
      omega (arith, length-append (take at places) (take (count - (at + 1)) (drop (at + 1) places)))

  closed_front : closed blank places count at ≡ front ++ (blank ∷ drop count places)
  unfolding front
  closed_front = sym (append_assoc (take at places) (take (count - (at + 1)) (drop (at + 1) places)) (blank ∷ drop count places))

  -- a removal takes the record off
  pub closed_records : take (count - 1) (closed blank places count at) ≡ taken_off (take count places) at
  unfolding front
  closed_records =
      let k : (at + 1) + (count - (at + 1)) ≡ count = omega arith in
      ap (take (count - 1)) closed_front ∙ take_at front (blank ∷ drop count places) (count - 1) front_long
      ∙ ap (λ ys. ys ++ take (count - (at + 1)) (drop (at + 1) places)) (sym (take-take at count places (omega arith)))
      ∙ ap (λ ys. take at (take count places) ++ ys) (sym (drop-take (at + 1) (count - (at + 1)) places) ∙ ap (λ n. drop (at + 1) (take n places)) k)
      ∙ ap (λ n. take at (take count places) ++ drop n (take count places)) (add-one at)

  -- and leaves one blank more behind
  pub closed_behind : drop (count - 1) (closed blank places count at) ≡ blank ∷ drop count places
  closed_behind = ap (drop (count - 1)) closed_front ∙ drop_at front (blank ∷ drop count places) (count - 1) front_long

-- what is blank from n on is blank from k on
pub blank_past : {A : Type 0} (xs : List A) (m n k : ℕ) (b : A) → n ≤ k → drop n xs ≡ replicate (m - n) b → drop k xs ≡ replicate (m - k) b
blank_past xs m n k b le h =
    let i : n + (k - n) ≡ k = omega arith in
    let j : (m - n) - (k - n) ≡ m - k = omega arith in
    ap (λ v. drop v xs) (sym i) ∙ sym (drop-drop (k - n) n xs) ∙ ap (drop (k - n)) h ∙ drop-replicate (k - n) (m - n) b ∙ ap (λ v. replicate v b) j

-- a write to one of the first n places
pub take_of_set : {A : Type 0} (n : ℕ) (xs : List A) (i : ℕ) (x : A) → take n (set xs i x) ≡ set (take n xs) i x
take_of_set zero xs i x = refl
take_of_set (suc n) [] i x = refl
take_of_set (suc n) (y ∷ xs) zero x = refl
take_of_set (suc n) (y ∷ xs) (suc i) x = ap (λ ys. y ∷ ys) (take_of_set n xs i x)

-- where a record was taken off, the list had it
pub taken_there : {A : Type 0} (blank : A) (xs ys : List A) (n at : ℕ) (r : Option A) → is_some r ≡ true → Removed blank xs n at r ys
    → (at < n) × (ys ≡ closed blank xs n at)
taken_there blank xs ys n at None is h = absurd (true≢false (sym is))
taken_there blank xs ys n at (Some x) is (there, value, after) = let parts = and_parts (ltb at n) _ there in (ltb-true at n parts.0, after)

-- one blank more in front
pub blank_before : {A : Type 0} (m n : ℕ) (b : A) → 1 ≤ n → n ≤ m → b ∷ replicate (m - n) b ≡ replicate (m - (n - 1)) b
blank_before m n b some le = let i : suc (m - n) ≡ m - (n - 1) = omega arith in ap (λ k. replicate k b) i
