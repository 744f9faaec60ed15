-- What is written for a step is read as that step.
use Rattle.std.proofs.Common.{◌≡◌, ℕ, suc, ◌+◌, ◌-◌, ◌*◌, ◌<◌, ◌≤◌, true, false, cond, not, ◌&&◌, ◌||◌, eqb, ltb, List, [], ◌∷◌, ◌++◌, map, length, Some, None, Ok, decimal, Option, sym, refl, ap, ◌∙◌, one-add, arith}
use Rattle.std.specs.List.{fold, prefix_len, AllByRecursion}
use Rattle.std.proofs.lemmas.List.{append-nil, length-append, length_push, get_or_push, take_at, drop_at}
use Rattle.std.proofs.lemmas.Bool.{cond-true, cond-false, and_from, and_left, lt-ltb, le-leb, eq-eqb, ne_eqb, ltb-true}
use Rattle.std.proofs.lemmas.Bool.Decides.{nat_tests}
use Rattle.ledgers.specs.Ids.{ledger_id}
use Rattle.ledgers.specs.Bodies.{content}
use Rattle.ledgers.specs.BookieLists.{listed, made_list}
use Rattle.ledgers.proofs.Same.{content_short, made_of_content, listed_few, made_of_listed}
use Rattle.ledgers.specs.declared.bodies.Body.{Body}
use Rattle.ledgers.specs.declared.bookie_lists.BookieList.{BookieList}
use Rattle.ledgers.specs.declared.ids.LedgerId.{LedgerId}
use Rattle.ledgers.specs.declared.steps.Step.{Step}
use Rattle.ledgers.specs.declared.steps.Step.TheVariants.{Create, Append, Resend, ChangeEnsemble, Close, Recover, AskAgain, Finish, Deliver, Duplicate, Discard, Stop, Start}
use Rattle.words.specs.Letters.{byte_of}
use Rattle.words.specs.Words.{inner, number_or_text, word_at, first_of, after_first, letter_in, number_in, body_in, body_or_range, printable, text}
use Rattle.lines.specs.Numbers.{more_words, and_then, no_numbers, with_number, numbers_from}
use Rattle.lines.specs.Steps.{create_of, step_of}
use Rattle.lines.specs.Reading.{ended, text_of, is_line, made_step, read_numbers, append_text, read_append, takes_text, by_letter, read_text, read_line}
use Rattle.lines.specs.Writing.{letter_for, numbers_in, text_in, spaced, written, InScript}
use Rattle.words.specs.declared.letters.Letter.{Letter}
use Rattle.words.specs.declared.letters.Letter.TheVariants as letter
use Rattle.lines.specs.declared.numbers.Numbers.{Numbers}
use Rattle.lines.proofs.Cuts.{cut, cut_first}
use Rattle.lines.proofs.Decimals.{Short, few_digits, numeral_decimal, inner_decimal}

-- A word ends where a gap begins: at the end of the text or at a space.
module _ (ws : List ℕ) (gap : prefix_len inner ws ≡ 0) where
  leading_word : (w : List ℕ) → AllByRecursion (λ b. inner b ≡ true) w → prefix_len inner (w ++ ws) ≡ length w
  leading_word [] h = gap
  leading_word (b ∷ w) h = cond-true (inner b) _ _ h.0 ∙ ap (λ n. 1 + n) (leading_word w h.1) ∙ one-add (length w)

  first_word_is : (w : List ℕ) → AllByRecursion (λ b. inner b ≡ true) w → first_of (w ++ ws) ≡ w
  first_word_is w h = take_at w ws (prefix_len inner (w ++ ws)) (sym (leading_word w h))

  after_word_is : (w : List ℕ) → AllByRecursion (λ b. inner b ≡ true) w → after_first (w ++ ws) ≡ ws
  after_word_is w h = drop_at w ws (prefix_len inner (w ++ ws)) (sym (leading_word w h))

gap_spaced : (ns t : List ℕ) → prefix_len inner t ≡ 0 → prefix_len inner (spaced ns ++ t) ≡ 0
gap_spaced [] t gap = gap
gap_spaced (n ∷ ns) t gap = refl

-- the words of spaced numbers
words_spaced : (ns : List ℕ) → AllByRecursion Short ns → more_words (spaced ns) ≡ map decimal ns
words_spaced [] h = refl
words_spaced (n ∷ ns) h =
    let tail = decimal n ++ spaced ns in
    let gap = gap_spaced ns [] refl in
    let none : prefix_len inner (spaced ns) ≡ 0 = ap (prefix_len inner) (sym (append-nil (spaced ns))) ∙ gap in
    let digits = inner_decimal n h.0 in
    cond-true (ltb 0 (suc (length tail))) (cut tail) [] (lt-ltb 0 (suc (length tail)) (omega arith)) ∙ cut_first tail
    ∙ ap (λ w. w ∷ more_words (after_first tail)) (first_word_is (spaced ns) none (decimal n) digits)
    ∙ ap (λ ws. decimal n ∷ more_words ws) (after_word_is (spaced ns) none (decimal n) digits)
    ∙ ap (λ ws. decimal n ∷ ws) (words_spaced ns h.1)

-- a number is read behind the letter as itself
number_read : (p n : ℕ) → 0 < p → Short n → number_in (word_at p (decimal n)) ≡ Ok n
number_read p n behind short =
    ap number_in
    (cond-false (eqb p 0 && eqb (length (decimal n)) 1) _ _ (and_left _ _ (ne_eqb p 0 (λ e. omega arith)))
    ∙ ap (number_or_text p (decimal n)) (numeral_decimal n short))

numbers_read : (n : Numbers) (xs : List ℕ) → AllByRecursion Short xs → numbers_from n (map decimal xs) ≡ Ok (fold with_number n xs)
numbers_read n [] h = refl
numbers_read n (x ∷ xs) h =
    ap (λ r. and_then r (λ v. numbers_from (with_number n v) (map decimal xs))) (number_read (n.count + 1) x (omega arith) h.0)
    ∙ numbers_read (with_number n x) xs h.1

-- each letter is read as itself, and is no space
letter_read : (x : Letter) → (letter_in (word_at 0 (byte_of x ∷ [])) ≡ Ok x) × (inner (byte_of x) ≡ true)
letter_read letter.Create = (refl, refl)
letter_read letter.Append = (refl, refl)
letter_read letter.Resend = (refl, refl)
letter_read letter.ChangeEnsemble = (refl, refl)
letter_read letter.Close = (refl, refl)
letter_read letter.Recover = (refl, refl)
letter_read letter.AskAgain = (refl, refl)
letter_read letter.Finish = (refl, refl)
letter_read letter.Deliver = (refl, refl)
letter_read letter.Duplicate = (refl, refl)
letter_read letter.Discard = (refl, refl)
letter_read letter.Stop = (refl, refl)
letter_read letter.Start = (refl, refl)

-- A text with byte 10 behind it.
module _ (t : List ℕ) where
  end_read : ended (t ++ 10 ∷ []) ≡ true
  end_read =
      let long = length_push t 10 in
      and_from _ _ (lt-ltb 0 _ (omega arith)) (eq-eqb _ 10 (get_or_push t 10 0 (length (t ++ 10 ∷ []) - 1) (omega arith)))

  text_read : text_of (t ++ 10 ∷ []) ≡ t
  text_read =
      let long = length_push t 10 in
      cond-true _ _ _ end_read ∙ take_at t (10 ∷ []) (length (t ++ 10 ∷ []) - 1) (omega arith)

  line_read : length t ≤ 79 → is_line (t ++ 10 ∷ []) ≡ true
  line_read few = let long = length_push t 10 in and_from _ _ end_read (le-leb _ 80 (omega arith))

-- The letter of a line decides how the rest is read.
module _ (x : Letter) (rest : List ℕ) (gap : prefix_len inner rest ≡ 0) (few : length rest ≤ 78) where
  by_its_letter : read_line ((byte_of x ∷ rest) ++ 10 ∷ []) ≡ cond (takes_text x) (read_append true rest) (read_numbers x true rest)
  by_its_letter =
      let t = byte_of x ∷ rest in
      let is = letter_read x in
      ap (λ v. read_text v (is_line (t ++ 10 ∷ []))) (text_read t)
      ∙ ap (read_text t) (line_read t (omega arith))
      ∙ ap (λ w. and_then (letter_in (word_at 0 w)) (λ y. by_letter y true (after_first t))) (first_word_is rest gap (byte_of x ∷ []) (is.1, tt))
      ∙ ap (λ ws. and_then (letter_in (word_at 0 (byte_of x ∷ []))) (λ y. by_letter y true ws)) (after_word_is rest gap (byte_of x ∷ []) (is.1, tt))
      ∙ ap (λ r. and_then r (λ y. by_letter y true rest)) is.0

length_spaced : (ns : List ℕ) → AllByRecursion Short ns → length (spaced ns) ≤ 6 * length ns
length_spaced [] h = omega arith
length_spaced (n ∷ ns) h =
    omega (arith, few_digits n h.0, length_spaced ns h.1, length-append (decimal n) (spaced ns))

-- A step whose words are numbers.
module _ (s : Step) (h : InScript s) where
  numbers_back : takes_text (letter_for s) ≡ false → text_in s ≡ [] → length (numbers_in s) ≤ 9
      → step_of (letter_for s) (fold with_number no_numbers (numbers_in s)) ≡ Some s → read_line (written s) ≡ Ok s
  numbers_back plain bare few is =
      let ns = numbers_in s in
      let rest : spaced ns ++ text_in s ≡ spaced ns = ap (λ t. spaced ns ++ t) bare ∙ append-nil (spaced ns) in
      let gap : prefix_len inner (spaced ns) ≡ 0 = ap (prefix_len inner) (sym (append-nil (spaced ns))) ∙ gap_spaced ns [] refl in
      ap (λ t. read_line ((byte_of (letter_for s) ∷ t) ++ 10 ∷ [])) rest
      ∙ by_its_letter (letter_for s) (spaced ns) gap (omega (arith, length_spaced ns h.short))
      ∙ cond-false _ _ _ plain
      ∙ ap (λ ws. and_then (numbers_from no_numbers ws) (λ n. made_step true (step_of (letter_for s) n))) (words_spaced ns h.short)
      ∙ ap (λ r. and_then r (λ n. made_step true (step_of (letter_for s) n))) (numbers_read no_numbers ns h.short)
      ∙ ap (made_step true) is
      ∙ ap (λ r. and_then r (λ _. Ok s)) h.ranged

-- A create: its bookies are the numbers behind the fourth.
abbrev pub created : ℕ → ℕ → ℕ → ℕ → Option BookieList → Option Step
created l e w k None = None
created l e w k (Some bs) = Some (Create (ledger_id l) e w k bs)

pub create_listed : (l e w k : ℕ) (xs : List ℕ) → 0 < length xs → length xs ≤ 5
    → create_of (fold with_number no_numbers (l ∷ e ∷ w ∷ k ∷ xs)) ≡ created l e w k (made_list xs)
create_listed l e w k [] some few = absurd (omega arith)
create_listed l e w k (a ∷ []) some few = refl
create_listed l e w k (a ∷ b ∷ []) some few = refl
create_listed l e w k (a ∷ b ∷ c ∷ []) some few = refl
create_listed l e w k (a ∷ b ∷ c ∷ d ∷ []) some few = refl
create_listed l e w k (a ∷ b ∷ c ∷ d ∷ f ∷ []) some few = refl
create_listed l e w k (a ∷ b ∷ c ∷ d ∷ f ∷ g ∷ xs) some few = absurd (omega arith)

create_back : (l : LedgerId) (e w k : ℕ) (bs : BookieList) → InScript (Create l e w k bs) → read_line (written (Create l e w k bs)) ≡ Ok (Create l e w k bs)
create_back l e w k bs h =
    let few = listed_few bs in
    let some = ltb-true 0 (length (listed bs)) h.said in
    numbers_back (Create l e w k bs) h refl refl (omega arith)
    (create_listed l.0 e w k (listed bs) (omega arith) (omega arith) ∙ ap (created l.0 e w k) (made_of_listed bs))

-- An append: a number, a space, and the text.
append_back : (l : LedgerId) (b : Body) → InScript (Append l b) → read_line (written (Append l b)) ≡ Ok (Append l b)
append_back l b h =
    let digits = decimal l.0 in
    let text_part = 32 ∷ content b in
    let tail = (digits ++ []) ++ text_part in
    let is : tail ≡ digits ++ text_part = ap (λ d. d ++ text_part) (append-nil digits) in
    let inners = inner_decimal l.0 h.short.0 in
    let short = content_short b in
    let entry = λ (c : Body). Ok (Append (ledger_id l.0) c) in
    by_its_letter letter.Append (32 ∷ tail) refl
    (omega (arith, few_digits l.0 h.short.0, length-append digits text_part, ap length is))
    ∙ cond-false (eqb (length (32 ∷ tail)) 0) _ _ (ne_eqb _ 0 (λ e. omega arith))
    ∙ ap (λ t. and_then (number_in (word_at 1 (first_of t))) (λ n. append_text true n (after_first t))) is
    ∙ ap (λ w. and_then (number_in (word_at 1 w)) (λ n. append_text true n (after_first (digits ++ text_part)))) (first_word_is text_part refl digits inners)
    ∙ ap (λ r. and_then r (λ n. append_text true n (after_first (digits ++ text_part)))) (number_read 1 l.0 (omega arith) h.short.0)
    ∙ ap (append_text true l.0) (after_word_is text_part refl digits inners)
    ∙ cond-false (eqb (length text_part) 0 || not true) _ _ (grind (arith, nat_tests))
    ∙ ap (λ r. and_then r (λ _. and_then (body_in (text (content b) 2)) entry)) h.ranged
    ∙ ap (λ m. and_then (body_or_range 2 (printable (content b)) m) entry) (made_of_content b)
    ∙ ap (λ r. and_then r entry) (cond-true (printable (content b)) _ _ h.said)

pub read_back : (s : Step) → InScript s → read_line (written s) ≡ Ok s
read_back (Create l e w k bs) h = create_back l e w k bs h
read_back (Append l b) h = append_back l b h
read_back (Resend l) h = numbers_back (Resend l) h refl refl (omega arith) refl
read_back (ChangeEnsemble l p b) h = numbers_back (ChangeEnsemble l p b) h refl refl (omega arith) refl
read_back (Close l) h = numbers_back (Close l) h refl refl (omega arith) refl
read_back (Recover r l) h = numbers_back (Recover r l) h refl refl (omega arith) refl
read_back (AskAgain r) h = numbers_back (AskAgain r) h refl refl (omega arith) refl
read_back (Finish r) h = numbers_back (Finish r) h refl refl (omega arith) refl
read_back (Deliver m) h = numbers_back (Deliver m) h refl refl (omega arith) refl
read_back (Duplicate m) h = numbers_back (Duplicate m) h refl refl (omega arith) refl
read_back (Discard m) h = numbers_back (Discard m) h refl refl (omega arith) refl
read_back (Stop b) h = numbers_back (Stop b) h refl refl (omega arith) refl
read_back (Start b) h = numbers_back (Start b) h refl refl (omega arith) refl
