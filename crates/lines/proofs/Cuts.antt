-- How a text is cut, word by word.
use Rattle.std.proofs.Common.{◌≡◌, ℕ, suc, ◌+◌, ◌-◌, ◌<◌, Bool, true, false, cond, eqb, ltb, List, [], ◌∷◌, length, get_or, take, drop, not, Result, sym, refl, ap, ◌∙◌, one-add, arith}
use Rattle.std.specs.List.{slice_split, onto_first, prefix_len}
use Rattle.std.proofs.lemmas.List.{at_drop_more, take_all, length-drop}
use Rattle.std.proofs.lemmas.Bool.{cond-true, lt-ltb}
use Rattle.std.specs.Iterator.{Yields}
use Rattle.std.specs.Fn.{CalledAt}
use Rattle.std.specs.Slice.Iter as slice
use Rattle.std.proofs.lemmas.Iterator.{YieldsList}
use Rattle.std.proofs.lemmas.Iterator.Splits.{YieldsList-from_slice_split}
use Rattle.std.proofs.lemmas.Iterator.Consumers.{YieldsList-at}
use denote.Param.Members.{Mut}
use denote.Ref.{Bor}
use Rattle.words.specs.Words.{inner, word_at, number_in, first_of, after_first}
use Rattle.lines.specs.Numbers.{more_words, and_then, with_number, numbers_from}
use Rattle.words.specs.declared.faults.LineFault.{LineFault}
use Rattle.lines.specs.declared.numbers.Numbers.{Numbers}

-- the words of a text, cut at each space
abbrev pub cut : List ℕ → List (List ℕ)
cut l = slice_split (λ b. eqb b 32) l

-- the first byte is part of the first word, or the space before the second
cut_byte : (t : Bool) (b n : ℕ) (bs : List ℕ) → cut bs ≡ take n bs ∷ more_words (drop n bs)
    → cond t ([] ∷ cut bs) (onto_first b (cut bs)) ≡ take (cond (not t) (1 + n) 0) (b ∷ bs) ∷ more_words (drop (cond (not t) (1 + n) 0) (b ∷ bs))
cut_byte false b n bs ih = rw (one-add n) (ap (onto_first b) ih)
cut_byte true b n bs ih = ap (λ ws. [] ∷ ws) (sym (cond-true (ltb 0 (suc (length bs))) (cut bs) [] (lt-ltb 0 (suc (length bs)) (omega arith))))

-- the words of a text are its first one and those behind it
pub cut_first : (l : List ℕ) → cut l ≡ first_of l ∷ more_words (after_first l)
cut_first [] = refl
cut_first (b ∷ bs) = cut_byte (eqb b 32) b (prefix_len inner bs) bs (cut_first bs)

-- a text that has a byte has words behind its first byte
pub words_behind : (l : List ℕ) → 0 < length l → more_words l ≡ cut (drop 1 l)
words_behind l some = cond-true (ltb 0 (length l)) (cut (drop 1 l)) [] (lt-ltb 0 (length l) some)

-- all but the first byte, as the code takes them
pub all_behind : (l : List ℕ) → take (length l - 1) (drop 1 l) ≡ drop 1 l
all_behind l = take_all (length l - 1) (drop 1 l) (omega (arith, length-drop 1 l))

-- One turn of reading numbers: the word is read, and those behind it are left.
pub numbers_turn : (n : Numbers) (words : List (List ℕ)) (i : ℕ) (w : List ℕ) (r : Result ℕ LineFault)
    → (i < length words) × (w ≡ get_or words i w) → r ≡ number_in (word_at (n.count + 1) w)
    → numbers_from n (drop i words) ≡ and_then r (λ x. numbers_from (with_number n x) (drop (i + 1) words))
numbers_turn n words i w r here said =
    let rest = λ (v : Result ℕ LineFault). and_then v (λ x. numbers_from (with_number n x) (drop (i + 1) words)) in
    at_drop_more (numbers_from n) words i w here.0 ∙ ap (λ v. rest (number_in (word_at (n.count + 1) v))) (sym here.1) ∙ ap rest (sym said)

-- What `split` at the spaces yields of all but the first byte of a text: the words behind that.
pub words_yielded : {F : Type 0} {s t : _} {g : Mut F (Bor ℕ × Unit {0}) Bool} {f : F} (seen : List (Bor (List ℕ))) (u : _)
    → Yields (slice.split_steps g) t seen u → t ≡ s → (l : List ℕ) → slice.split_rest s ≡ take (length l - 1) (drop 1 l)
    → slice.split_done s ≡ false → slice.split_callee s ≡ f → ((x : ℕ) (b : Bool) (q : F) → CalledAt g f x b q → (q ≡ f) × (b ≡ eqb x 32))
    → YieldsList (slice.split_steps g) (λ x. x.now) t (cut (drop 1 l))
words_yielded {g = g} seen u run starts l rest done closure tests =
    YieldsList-at starts (YieldsList-from_slice_split g (λ b. eqb b 32) (drop 1 l) (rest ∙ all_behind l) done closure tests)
