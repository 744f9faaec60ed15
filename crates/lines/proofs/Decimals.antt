-- Numbers in decimal digits are numerals, and words with no space in them.
use Rattle.std.proofs.Common.{◌≡◌, ℕ, ◌+◌, ◌-◌, ◌*◌, ◌<◌, ◌≤◌, true, false, ◌&&◌, ◌||◌, eqb, ltb, List, [], ◌∷◌, length, get_or, Some, decimal, refl, ap, ◌∙◌, ⊎_elim, arith, rules}
use Rattle.std.specs.Char.{is_ascii_digit}
use Rattle.std.specs.List.{AllByRecursion}
use Rattle.std.specs.Str.{all_ascii_digits}
use Rattle.std.proofs.lemmas.Fmt.{decimal_digit, decimal_nonempty, first_decimal, length-decimal-le, digits_decimal, digits_value-decimal}
use Rattle.std.proofs.lemmas.Str.Parse.{IsNumeralModel, numerals_by_fold, tells_all_ascii_digits}
use Rattle.std.proofs.lemmas.Bool.{and_parts, cond-true, cond-false, cases_lt}
use Rattle.std.proofs.lemmas.Bool.Decides.{nat_tests}
use Rattle.words.specs.Numerals.{onward, numeral}
use Rattle.words.specs.Words.{inner}

-- five digits write the number
abbrev pub Short : ℕ → Type 0
Short n = n < 100000

-- the number that digits write after the number n
abbrev pub value_on : ℕ → List ℕ → ℕ
value_on n [] = n
value_on n (b ∷ bs) = value_on (n * 10 + (b - 48)) bs

pub own : IsNumeralModel (λ ds. all_ascii_digits ds ≡ true) (value_on 0)
own = numerals_by_fold _ tells_all_ascii_digits value_on (search rules)

-- a digit is no space
inner_digit : (b : ℕ) → is_ascii_digit b ≡ true → inner b ≡ true
inner_digit b h = grind (arith, nat_tests)

onward_digits : (n : ℕ) (ds : List ℕ) → all_ascii_digits ds ≡ true → onward n ds ≡ Some (value_on n ds)
onward_digits n [] h = refl
onward_digits n (b ∷ bs) h =
    let p = and_parts (is_ascii_digit b) (all_ascii_digits bs) h in
    cond-true _ _ _ p.0 ∙ onward_digits (n * 10 + (b - 48)) bs p.1

inner_digits : (ds : List ℕ) → all_ascii_digits ds ≡ true → AllByRecursion (λ b. inner b ≡ true) ds
inner_digits [] h = tt
inner_digits (b ∷ bs) h = let p = and_parts (is_ascii_digit b) (all_ascii_digits bs) h in (inner_digit b p.0, inner_digits bs p.1)

module _ (n : ℕ) (short : Short n) where
  pub few_digits : length (decimal n) ≤ 5
  few_digits = length-decimal-le 5 n (omega arith) (omega arith) (omega arith)

  -- 0 is the one number that begins with 0
  leading_zero : (eqb (get_or (decimal n) 0 0) 48 && ltb 1 (length (decimal n))) ≡ false
  leading_zero =
      ⊎_elim
      (λ some. let high = first_decimal n some (omega arith) in grind (arith, nat_tests))
      (λ none. let one = ap length (decimal_digit n (omega arith)) in grind (arith, nat_tests))
      (cases_lt 0 n)

  pub numeral_decimal : numeral (decimal n) ≡ Some n
  numeral_decimal =
      let some = decimal_nonempty n (omega arith) in
      let few = few_digits in
      cond-false (eqb (length (decimal n)) 0 || ltb 5 (length (decimal n))) _ _ (grind (arith, nat_tests))
      ∙ cond-false _ _ _ leading_zero
      ∙ onward_digits 0 (decimal n) (digits_decimal own n (omega arith)) ∙ ap Some (digits_value-decimal own n (omega arith))

  pub inner_decimal : AllByRecursion (λ b. inner b ≡ true) (decimal n)
  inner_decimal = inner_digits (decimal n) (digits_decimal own n (omega arith))
