-- A line that is read as a step is the line that is written for it.
use Rattle.std.proofs.Common.{◌≡◌, ℕ, zero, suc, ◌+◌, ◌-◌, ◌*◌, ◌<◌, ◌≤◌, Bool, true, false, cond, not, ◌&&◌, ◌||◌, eqb, ltb, leb, List, [], ◌∷◌, ◌++◌, length, get_or, take, drop, Some, None, Ok, Err, decimal, Option, Result, sym, refl, ap, ◌∙◌, subst, ⊎_elim, add-zero, one-add, arith}
use Rattle.std.specs.List.{fold, prefix_len, AllByRecursion}
use Rattle.std.specs.Str.{all_ascii_digits}
use Rattle.std.specs.Char.{is_ascii_digit}
use Rattle.std.proofs.lemmas.Fmt.{decimal-digits_value}
use Rattle.std.proofs.lemmas.List.{append-nil, take-append-drop, drop_more, drop_all, length-drop}
use Rattle.std.proofs.lemmas.Str.Parse.{digits_value_short}
use Rattle.std.proofs.lemmas.Bool.{cond-true, cond-false, cases_Bool, and_parts, or_parts, and_from, eqb-true, ltb-true, ltb-false, leb-true, lt-ltb, le-leb, ne_eqb, not-false, false≢true}
use Rattle.std.proofs.lemmas.Bool.Decides.{nat_tests}
use Rattle.ledgers.specs.Limits.{is_ledger}
use Rattle.ledgers.specs.Ids.{ledger_id, bookie_id, position_id, message_place, recoverer_id}
use Rattle.ledgers.specs.Bodies.{content, body_of}
use Rattle.ledgers.specs.BookieLists.{listed, list_of}
use Rattle.ledgers.proofs.Same.{content_of, listed_of}
use Rattle.ledgers.specs.declared.bodies.Body.{Body}
use Rattle.ledgers.specs.declared.steps.Step.{Step}
use Rattle.ledgers.specs.declared.steps.Step.TheVariants.{Create, Append, Resend, ChangeEnsemble, Close, Recover, AskAgain, Finish, Deliver, Duplicate, Discard, Stop, Start}
use Rattle.words.specs.Letters.{byte_of, written_as, letter_of}
use Rattle.words.specs.Numerals.{onward, numeral}
use Rattle.words.specs.Words.{inner, number_or_text, known_or_form, word_at, first_of, after_first, letter_in, number_in, body_in, body_or_range, printable, text}
use Rattle.words.specs.declared.letters.Letter.{Letter}
use Rattle.words.specs.declared.letters.Letter.TheVariants as letter
use Rattle.words.specs.declared.faults.LineFault.{LineFault}
use Rattle.lines.specs.Numbers.{more_words, and_then, no_numbers, with_number, numbers_from}
use Rattle.lines.specs.Steps.{at_place, taking, create_of, step_of}
use Rattle.lines.specs.Reading.{ended, text_of, is_line, in_range, ranges, within_range, made_step, read_numbers, append_text, read_append, takes_text, read_line}
use Rattle.lines.specs.Writing.{letter_for, numbers_in, text_in, spaced, written, sayable, InScript}
use Rattle.lines.specs.declared.numbers.Numbers.{Numbers}
use Rattle.lines.proofs.Cuts.{cut_first, words_behind}
use Rattle.lines.proofs.ReadBack.{created, create_listed}
use Rattle.lines.proofs.Decimals.{Short, value_on, own}

-- A cond that came out as one of its ways tells its test.
module _ {A : Type 0} (t : Bool) (x y : A) where
  -- the way that was not taken would have given something else
  not_then : (v : A) → cond t x y ≡ v → (x ≡ v → ⊥) → (t ≡ false) × (y ≡ v)
  not_then v e no-x = ⊎_elim (λ yes. absurd (no-x (sym (cond-true t x y yes) ∙ e))) (λ f. (f, sym (cond-false t x y f) ∙ e)) (cases_Bool t)

  not_else : (v : A) → cond t x y ≡ v → (y ≡ v → ⊥) → (t ≡ true) × (x ≡ v)
  not_else v e no-y = ⊎_elim (λ yes. (yes, sym (cond-true t x y yes) ∙ e)) (λ f. absurd (no-y (sym (cond-false t x y f) ∙ e))) (cases_Bool t)

-- what went on to a value had one before
ok_then : {A B E : Type 0} (r : Result A E) (f : A → Result B E) (v : B) → and_then r f ≡ Ok v → (x : A) × (r ≡ Ok x) × (f x ≡ Ok v)
ok_then (Ok x) f v e = (x, refl, e)
ok_then (Err g) f v e = cc

-- Letters.
-- a byte that is read as a letter is its byte, if that holds of the letters behind it
module _ (b : ℕ) (y : Letter) where
  or_behind : (x : Letter) (others : Option Letter) → (others ≡ Some y → b ≡ byte_of y) → written_as x b others ≡ Some y → b ≡ byte_of y
  or_behind x others rest e =
      ⊎_elim
      (λ is.
      let same : Some x ≡ Some y = sym (cond-true (eqb b (byte_of x)) (Some x) others is) ∙ e in
      let x_is : x ≡ y = cc in
      eqb-true b (byte_of x) is ∙ ap byte_of x_is)
      (λ isn't. rest (sym (cond-false (eqb b (byte_of x)) (Some x) others isn't) ∙ e))
      (cases_Bool (eqb b (byte_of x)))

  letter_known : letter_of b ≡ Some y → b ≡ byte_of y
  letter_known =
      or_behind letter.Create _ (or_behind letter.Append _ (or_behind letter.Resend _ (or_behind letter.ChangeEnsemble _
      (or_behind letter.Close _ (or_behind letter.Recover _ (or_behind letter.AskAgain _ (or_behind letter.Finish _
      (or_behind letter.Deliver _ (or_behind letter.Duplicate _ (or_behind letter.Discard _ (or_behind letter.Stop _
      (or_behind letter.Start None (λ e. absurd (none_some e))))))))))))))
    where
      none_some : None ≡ Some y → ⊥
      none_some e = cc

-- what is no letter is not read as one
no_letter : (w : List ℕ) (o : Option ℕ) (x : Letter) → letter_in (number_or_text 0 w o) ≡ Ok x → ⊥
no_letter w None x e = cc
no_letter w (Some n) x e = cc

known_letter : (o : Option Letter) (x : Letter) → known_or_form 0 o ≡ Ok x → o ≡ Some x
known_letter None x e = cc
known_letter (Some y) x e = let same : y ≡ x = cc in ap Some same

letter_was : (w : List ℕ) (x : Letter) → letter_in (word_at 0 w) ≡ Ok x → w ≡ byte_of x ∷ []
letter_was [] x e = absurd (no_letter [] None x e)
letter_was (b ∷ []) x e = ap (λ c. c ∷ []) (letter_known b x (known_letter (letter_of b) x e))
letter_was (b ∷ c ∷ bs) x e =
    let long : eqb (length (b ∷ c ∷ bs)) 1 ≡ false = grind (arith, nat_tests) in
    absurd (no_letter (b ∷ c ∷ bs) (numeral (b ∷ c ∷ bs)) x (ap letter_in (sym (cond-false _ _ _ long)) ∙ e))

-- Numbers.
onward_was : (n : ℕ) (ds : List ℕ) (v : ℕ) → onward n ds ≡ Some v → (all_ascii_digits ds ≡ true) × (value_on n ds ≡ v)
onward_was n [] v e = (refl, cc)
onward_was n (b ∷ bs) v e =
    let none : None ≡ Some v → ⊥ = λ f. cc in
    let way = not_else (is_ascii_digit b) (onward (n * 10 + (b - 48)) bs) None (Some v) e none in
    let rest = onward_was (n * 10 + (b - 48)) bs v way.1 in
    (and_from _ _ way.0 rest.0, rest.1)

numeral_was : (w : List ℕ) (n : ℕ) → numeral w ≡ Some n → (w ≡ decimal n) × Short n
numeral_was w n e =
    let none : None ≡ Some n → ⊥ = λ f. cc in
    let sized = not_then (eqb (length w) 0 || ltb 5 (length w)) None _ (Some n) e none in
    let led = not_then (eqb (get_or w 0 0) 48 && ltb 1 (length w)) None _ (Some n) sized.1 none in
    let read = onward_was 0 w n led.1 in
    let some : 0 < length w = grind (arith, nat_tests, sized.0) in
    let few : length w ≤ 5 = grind (arith, nat_tests, sized.0) in
    let zero_alone : get_or w 0 0 ≡ 48 → length w ≡ 1 = λ z. grind (arith, nat_tests, led.0) in
    let short : value_on 0 w < 100000 = digits_value_short own w 5 read.0 few in
    (sym (ap decimal (sym read.1) ∙ decimal-digits_value own w read.0 some zero_alone (omega arith)), subst Short read.1 short)

number_or_text_was : (p : ℕ) (w : List ℕ) (o : Option ℕ) (n : ℕ) → number_in (number_or_text p w o) ≡ Ok n → o ≡ Some n
number_or_text_was p w None n e = cc
number_or_text_was p w (Some m) n e = let same : m ≡ n = cc in ap Some same

number_was : (p : ℕ) (w : List ℕ) (n : ℕ) → 0 < p → number_in (word_at p w) ≡ Ok n → (w ≡ decimal n) × Short n
number_was p w n behind e =
    let later : (eqb p 0 && eqb (length w) 1) ≡ false = grind (arith, nat_tests) in
    numeral_was w n (number_or_text_was p w (numeral w) n (ap number_in (sym (cond-false _ _ _ later)) ∙ e))

-- Gaps between words.
-- what follows a first word begins with a gap
gap_after : (l : List ℕ) → prefix_len inner (after_first l) ≡ 0
gap_after [] = refl
gap_after (b ∷ bs) = at (inner b) refl (gap_after bs)
  where
    at : (t : Bool) → inner b ≡ t → prefix_len inner (after_first bs) ≡ 0 → prefix_len inner (drop (cond t (1 + prefix_len inner bs) 0) (b ∷ bs)) ≡ 0
    at true e ih = rw (one-add (prefix_len inner bs)) ih
    at false e ih = cond-false (inner b) _ _ e

-- and a gap that is there is a space
gap_space : (b : ℕ) (bs : List ℕ) → prefix_len inner (b ∷ bs) ≡ 0 → b ≡ 32
gap_space b bs gap = grind (arith, nat_tests)

-- a number is written in front, with the space before it
number_first : (b : ℕ) (l : List ℕ) (x : ℕ) → prefix_len inner (b ∷ l) ≡ 0 → first_of l ≡ decimal x → b ∷ l ≡ 32 ∷ decimal x ++ after_first l
number_first b l x gap word =
    ap (λ c. c ∷ l) (gap_space b l gap) ∙ ap (λ t. 32 ∷ t) (sym (take-append-drop (prefix_len inner l) l))
    ∙ ap (λ w. 32 ∷ w ++ after_first l) word

-- The numbers behind a letter: ws is what is written for them.
record Numbered (n : Numbers) (ws : List ℕ) (m : Numbers) : Type 0 where
  ns : List ℕ
  is : ws ≡ spaced ns
  short : AllByRecursion Short ns
  all : m ≡ fold with_number n ns

-- k bounds the length of what is left
numbers_were : (k : ℕ) (n m : Numbers) (ws : List ℕ) → length ws ≤ k → prefix_len inner ws ≡ 0 → numbers_from n (more_words ws) ≡ Ok m
    → Numbered n ws m
numbers_were k n m [] few gap e = record { ns = []; is = refl; short = tt; all = cc }
numbers_were zero n m (b ∷ l) few gap e = absurd (omega arith)
numbers_were (suc k) n m (b ∷ l) few gap e =
    let words : more_words (b ∷ l) ≡ first_of l ∷ more_words (after_first l) = words_behind (b ∷ l) (omega arith) ∙ cut_first l in
    let read : numbers_from n (first_of l ∷ more_words (after_first l)) ≡ Ok m = ap (numbers_from n) (sym words) ∙ e in
    let one = ok_then (number_in (word_at (n.count + 1) (first_of l))) _ m read in
    let first = number_was (n.count + 1) (first_of l) one.0 (omega arith) one.1 in
    let few_left : length (after_first l) ≤ k = omega (arith, length-drop (prefix_len inner l) l) in
    let rest = numbers_were k (with_number n one.0) m (after_first l) few_left (gap_after l) one.2 in
    record {
      ns = one.0 ∷ rest.ns;
      is = number_first b l one.0 gap first.0 ∙ ap (λ t. 32 ∷ decimal one.0 ++ t) rest.is;
      short = (first.1, rest.short);
      all = rest.all;
    }

-- Steps.
-- what numbers behind a letter say of the step that they make
record MadeOf (x : Letter) (ns : List ℕ) (s : Step) : Type 0 where
  letter : letter_for s ≡ x
  numbers : numbers_in s ≡ ns
  bare : text_in s ≡ []
  said : sayable s ≡ true

count_all : (n : Numbers) (xs : List ℕ) → (fold with_number n xs).count ≡ n.count + length xs
count_all n [] = sym (add-zero n.count)
count_all n (x ∷ xs) = omega (arith, count_all (with_number n x) xs)

no_step : (s : Step) → None ≡ Some s → ⊥
no_step s e = cc

-- a step that takes k numbers was made of k
taken_count : (k : ℕ) (ns : List ℕ) (f s : Step) → taking k (fold with_number no_numbers ns) f ≡ Some s → length ns ≡ k
taken_count k ns f s e =
    let way = not_else (eqb (fold with_number no_numbers ns).count k) (Some f) None (Some s) e (no_step s) in
    omega (arith, count_all no_numbers ns, eqb-true (fold with_number no_numbers ns).count k way.0)

module _ (x : Letter) (s : Step) where
  of_one : (f : ℕ → Step) → ((a : ℕ) → MadeOf x (a ∷ []) (f a)) → (ns : List ℕ)
      → taking 1 (fold with_number no_numbers ns) (f (at_place (fold with_number no_numbers ns) 0)) ≡ Some s → MadeOf x ns s
  of_one f each [] e = absurd (no_step s e)
  of_one f each (a ∷ []) e = let is : f a ≡ s = cc in subst (MadeOf x (a ∷ [])) is (each a)
  of_one f each (a ∷ b ∷ ns) e = absurd (omega (arith, taken_count 1 (a ∷ b ∷ ns) _ s e))

  of_two : (f : ℕ → ℕ → Step) → ((a b : ℕ) → MadeOf x (a ∷ b ∷ []) (f a b)) → (ns : List ℕ)
      → taking 2 (fold with_number no_numbers ns) (f (at_place (fold with_number no_numbers ns) 0) (at_place (fold with_number no_numbers ns) 1)) ≡ Some s → MadeOf x ns s
  of_two f each [] e = absurd (no_step s e)
  of_two f each (a ∷ []) e = absurd (no_step s e)
  of_two f each (a ∷ b ∷ []) e = let is : f a b ≡ s = cc in subst (MadeOf x (a ∷ b ∷ [])) is (each a b)
  of_two f each (a ∷ b ∷ c ∷ ns) e = absurd (omega (arith, taken_count 2 (a ∷ b ∷ c ∷ ns) _ s e))

  of_three : (f : ℕ → ℕ → ℕ → Step) → ((a b c : ℕ) → MadeOf x (a ∷ b ∷ c ∷ []) (f a b c)) → (ns : List ℕ)
      → taking 3 (fold with_number no_numbers ns)
      (f (at_place (fold with_number no_numbers ns) 0) (at_place (fold with_number no_numbers ns) 1) (at_place (fold with_number no_numbers ns) 2)) ≡ Some s
      → MadeOf x ns s
  of_three f each [] e = absurd (no_step s e)
  of_three f each (a ∷ []) e = absurd (no_step s e)
  of_three f each (a ∷ b ∷ []) e = absurd (no_step s e)
  of_three f each (a ∷ b ∷ c ∷ []) e = let is : f a b c ≡ s = cc in subst (MadeOf x (a ∷ b ∷ c ∷ [])) is (each a b c)
  of_three f each (a ∷ b ∷ c ∷ d ∷ ns) e = absurd (omega (arith, taken_count 3 (a ∷ b ∷ c ∷ d ∷ ns) _ s e))

-- a create was made of four numbers and one to five bookies
create_count : (ns : List ℕ) (s : Step) → create_of (fold with_number no_numbers ns) ≡ Some s → (5 ≤ length ns) × (length ns ≤ 9)
create_count ns s e =
    let n = fold with_number no_numbers ns in
    let way = not_then (ltb n.count 5 || ltb 9 n.count) None _ (Some s) e (no_step s) in
    let tests = or_parts (ltb n.count 5) (ltb 9 n.count) way.0 in
    let all = count_all no_numbers ns in
    (omega (arith, ltb-false n.count 5 tests.0), omega (arith, ltb-false 9 n.count tests.1))

of_create : (ns : List ℕ) (s : Step) → create_of (fold with_number no_numbers ns) ≡ Some s → MadeOf letter.Create ns s
of_create [] s e = absurd (no_step s e)
of_create (a ∷ []) s e = absurd (no_step s e)
of_create (a ∷ b ∷ []) s e = absurd (no_step s e)
of_create (a ∷ b ∷ c ∷ []) s e = absurd (no_step s e)
of_create (l ∷ n ∷ w ∷ k ∷ xs) s e =
    let many = create_count (l ∷ n ∷ w ∷ k ∷ xs) s e in
    let some : 0 < length xs = omega (arith, many.0) in
    let few : length xs ≤ 5 = omega (arith, many.1) in
    let is : Create (ledger_id l) n w k (list_of xs) ≡ s =
    same (sym (ap (created l n w k) (cond-true (leb (length xs) 5) (Some (list_of xs)) None (le-leb (length xs) 5 few))) ∙ sym (create_listed l n w k xs some few) ∙ e) in
    subst (MadeOf letter.Create (l ∷ n ∷ w ∷ k ∷ xs)) is
    (record {
      letter = refl;
      numbers = ap (λ bs. l ∷ n ∷ w ∷ k ∷ bs) (listed_of xs few);
      bare = refl;
      said = lt-ltb 0 (length (listed (list_of xs))) (omega (arith, ap length (listed_of xs few)));
    })
  where
    same : {t : Step} → Some t ≡ Some s → t ≡ s
    same p = cc

plain : {x : Letter} {ns : List ℕ} {s : Step} → letter_for s ≡ x → numbers_in s ≡ ns → text_in s ≡ [] → sayable s ≡ true → MadeOf x ns s
plain a b c d = record { letter = a; numbers = b; bare = c; said = d }

step_was : (x : Letter) (ns : List ℕ) (s : Step) → step_of x (fold with_number no_numbers ns) ≡ Some s → MadeOf x ns s
step_was letter.Create ns s e = of_create ns s e
step_was letter.Append ns s e = absurd (no_step s e)
step_was letter.Resend ns s e = of_one letter.Resend s (λ a. Resend (ledger_id a)) (λ a. plain refl refl refl refl) ns e
step_was letter.ChangeEnsemble ns s e =
    of_three letter.ChangeEnsemble s (λ a b c. ChangeEnsemble (ledger_id a) (position_id b) (bookie_id c)) (λ a b c. plain refl refl refl refl) ns e
step_was letter.Close ns s e = of_one letter.Close s (λ a. Close (ledger_id a)) (λ a. plain refl refl refl refl) ns e
step_was letter.Recover ns s e = of_two letter.Recover s (λ a b. Recover (recoverer_id a) (ledger_id b)) (λ a b. plain refl refl refl refl) ns e
step_was letter.AskAgain ns s e = of_one letter.AskAgain s (λ a. AskAgain (recoverer_id a)) (λ a. plain refl refl refl refl) ns e
step_was letter.Finish ns s e = of_one letter.Finish s (λ a. Finish (recoverer_id a)) (λ a. plain refl refl refl refl) ns e
step_was letter.Deliver ns s e = of_one letter.Deliver s (λ a. Deliver (message_place a)) (λ a. plain refl refl refl refl) ns e
step_was letter.Duplicate ns s e = of_one letter.Duplicate s (λ a. Duplicate (message_place a)) (λ a. plain refl refl refl refl) ns e
step_was letter.Discard ns s e = of_one letter.Discard s (λ a. Discard (message_place a)) (λ a. plain refl refl refl refl) ns e
step_was letter.Stop ns s e = of_one letter.Stop s (λ a. Stop (bookie_id a)) (λ a. plain refl refl refl refl) ns e
step_was letter.Start ns s e = of_one letter.Start s (λ a. Start (bookie_id a)) (λ a. plain refl refl refl refl) ns e

-- What a letter and the bytes behind it say of the step that they are read as.
record ReadAs (x : Letter) (fits : Bool) (ws : List ℕ) (s : Step) : Type 0 where
  letter : letter_for s ≡ x
  line : fits ≡ true
  rest : ws ≡ spaced (numbers_in s) ++ text_in s
  within : InScript s

no_fault : {A : Type 0} (f : LineFault) (v : A) → Err f ≡ Ok v → ⊥
no_fault f v e = cc

made_was : (fits : Bool) (o : Option Step) (s : Step) → made_step fits o ≡ Ok s → (o ≡ Some s) × (fits ≡ true) × (ranges s ≡ Ok tt)
made_was fits None s e = absurd (no_fault _ s e)
made_was fits (Some t) s e =
    let line = not_else fits (within_range t) _ (Ok s) e (no_fault _ s) in
    let ranged = ok_then (ranges t) (λ _. Ok t) s line.1 in
    let r : Ok t ≡ Ok s = ranged.2 in
    let same : t ≡ s = cc in
    (ap Some same, line.0, ap ranges (sym same) ∙ ranged.1)

read_numbers_was : (x : Letter) (fits : Bool) (ws : List ℕ) (s : Step) → prefix_len inner ws ≡ 0 → read_numbers x fits ws ≡ Ok s → ReadAs x fits ws s
read_numbers_was x fits ws s gap e =
    let read = ok_then (numbers_from no_numbers (more_words ws)) _ s e in
    let numbers = numbers_were (length ws) no_numbers read.0 ws (omega arith) gap read.1 in
    let made = made_was fits (step_of x read.0) s read.2 in
    let of = step_was x numbers.ns s (ap (step_of x) (sym numbers.all) ∙ made.0) in
    record {
      letter = of.letter;
      line = made.1;
      rest =
          numbers.is ∙ ap spaced (sym of.numbers) ∙ sym (append-nil (spaced (numbers_in s)))
          ∙ ap (λ t. spaced (numbers_in s) ++ t) (sym of.bare);
      within = record { ranged = made.2; short = subst (AllByRecursion Short) (sym of.numbers) numbers.short; said = of.said };
    }

-- An append.
body_was : (bs : List ℕ) (b : Body) → body_in (text bs 2) ≡ Ok b → (printable bs ≡ true) × (content b ≡ bs)
body_was bs b e = by (leb (length bs) 40) refl e
  where
    by : (t : Bool) → leb (length bs) 40 ≡ t → body_or_range 2 (printable bs) (cond t (Some (body_of bs)) None) ≡ Ok b → (printable bs ≡ true) × (content b ≡ bs)
    by false is e = absurd (no_fault _ b e)
    by true is e =
        let way = not_else (printable bs) (Ok (body_of bs)) _ (Ok b) e (no_fault _ b) in
        let r : Ok (body_of bs) ≡ Ok b = way.1 in
        let same : body_of bs ≡ b = cc in
        (way.0, ap content (sym same) ∙ content_of bs (leb-true (length bs) 40 is))

append_text_was : (fits : Bool) (n : ℕ) (rest : List ℕ) (s : Step) → prefix_len inner rest ≡ 0 → Short n → append_text fits n rest ≡ Ok s
    → ReadAs letter.Append fits (32 ∷ decimal n ++ rest) s
append_text_was fits n [] s gap short e = absurd (no_fault _ s e)
append_text_was fits n (c ∷ t) s gap short e =
    let way = not_then (eqb (length (c ∷ t)) 0 || not fits) _ _ (Ok s) e (no_fault _ s) in
    let fitting = not-false fits (or_parts (eqb (length (c ∷ t)) 0) (not fits) way.0).1 in
    let ranged = ok_then (in_range (is_ledger n) 1) _ s way.1 in
    let made = ok_then (body_in (text t 2)) _ s ranged.2 in
    let body = body_was t made.0 made.1 in
    let r : Ok (Append (ledger_id n) made.0) ≡ Ok s = made.2 in
    let is : Append (ledger_id n) made.0 ≡ s = cc in
    let digits = decimal n in
    subst (ReadAs letter.Append fits (32 ∷ digits ++ (c ∷ t))) is
    (record {
      letter = refl;
      line = fitting;
      rest =
          ap (λ l. 32 ∷ digits ++ l) (ap (λ b. b ∷ t) (gap_space c t gap) ∙ ap (λ l. 32 ∷ l) (sym body.1))
          ∙ ap (λ d. 32 ∷ d ++ (32 ∷ content made.0)) (sym (append-nil digits));
      within = record { ranged = ranged.1; short = (short, tt); said = ap printable body.1 ∙ body.0 };
    })

read_append_was : (fits : Bool) (ws : List ℕ) (s : Step) → prefix_len inner ws ≡ 0 → read_append fits ws ≡ Ok s → ReadAs letter.Append fits ws s
read_append_was fits [] s gap e = absurd (no_fault _ s e)
read_append_was fits (b ∷ l) s gap e =
    let some = ne_eqb (length (b ∷ l)) 0 (λ z. omega arith) in
    let read = ok_then (number_in (word_at 1 (first_of l))) _ s (sym (cond-false (eqb (length (b ∷ l)) 0) _ _ some) ∙ e) in
    let number = number_was 1 (first_of l) read.0 (omega arith) read.1 in
    let whole = sym (number_first b l read.0 gap number.0) in
    subst (λ ws. ReadAs letter.Append fits ws s) whole (append_text_was fits read.0 (after_first l) s (gap_after l) number.1 read.2)

-- A whole line.
-- only an append takes a text
takes_text_was : (x : Letter) → takes_text x ≡ true → letter.Append ≡ x
takes_text_was letter.Create e = absurd (false≢true e)
takes_text_was letter.Append e = refl
takes_text_was letter.Resend e = absurd (false≢true e)
takes_text_was letter.ChangeEnsemble e = absurd (false≢true e)
takes_text_was letter.Close e = absurd (false≢true e)
takes_text_was letter.Recover e = absurd (false≢true e)
takes_text_was letter.AskAgain e = absurd (false≢true e)
takes_text_was letter.Finish e = absurd (false≢true e)
takes_text_was letter.Deliver e = absurd (false≢true e)
takes_text_was letter.Duplicate e = absurd (false≢true e)
takes_text_was letter.Discard e = absurd (false≢true e)
takes_text_was letter.Stop e = absurd (false≢true e)
takes_text_was letter.Start e = absurd (false≢true e)

-- a line that is ended is its text and byte 10
ended_was : (l : List ℕ) → ended l ≡ true → l ≡ text_of l ++ 10 ∷ []
ended_was l e =
    let parts = and_parts (ltb 0 (length l)) (eqb (get_or l (length l - 1) 0) 10) e in
    let some = ltb-true 0 (length l) parts.0 in
    sym (take-append-drop (length l - 1) l)
    ∙ ap (λ t. take (length l - 1) l ++ t)
    (drop_more l (length l - 1) 0 (omega arith)
    ∙ ap (λ b. b ∷ drop (length l - 1 + 1) l) (eqb-true (get_or l (length l - 1) 0) 10 parts.1)
    ∙ ap (λ t. 10 ∷ t) (drop_all (length l - 1 + 1) l (omega arith)))
    ∙ ap (λ t. t ++ 10 ∷ []) (sym (cond-true (ended l) (take (length l - 1) l) l e))

pub only_written : (l : List ℕ) (s : Step) → read_line l ≡ Ok s → InScript s × (l ≡ written s)
only_written l s e =
    let t = text_of l in
    let gap = gap_after t in
    let first = ok_then (letter_in (word_at 0 (first_of t))) _ s e in
    let x = first.0 in
    let read : ReadAs x (is_line l) (after_first t) s =
    ⊎_elim
    (λ text. let y = takes_text_was x text in subst (λ z. ReadAs z (is_line l) (after_first t) s) y (read_append_was (is_line l) (after_first t) s gap (sym (cond-true _ _ _ text) ∙ first.2)))
    (λ numbers. read_numbers_was x (is_line l) (after_first t) s gap (sym (cond-false _ _ _ numbers) ∙ first.2))
    (cases_Bool (takes_text x)) in
    let line = and_parts (ended l) (leb (length l) 80) read.line in (
      read.within,
      ended_was l line.0 ∙ ap (λ v. v ++ 10 ∷ [])
          (sym (take-append-drop (prefix_len inner t) t) ∙ ap (λ w. w ++ after_first t) (letter_was (first_of t) x first.1)
          ∙ ap (λ y. (byte_of y ∷ []) ++ after_first t) (sym read.letter) ∙ ap (λ ws. (byte_of (letter_for s) ∷ []) ++ ws) read.rest),
    )
