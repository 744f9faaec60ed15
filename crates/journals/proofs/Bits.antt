-- Fences in a number, bit by bit.
use Rattle.std.proofs.Common.{◌≡◌, ℕ, zero, suc, ◌+◌, ◌*◌, ◌/◌, ◌%◌, ◌^◌, ◌<◌, max, Bool, true, false, cond, eqb, List, [], ◌∷◌, length, get_or, set, sym, refl, ap, ◌∙◌, subst, pow-suc, arith}
use native.Mathlib.Nat.{pow-succ', div-div-eq-div-mul}
use lib.Bits.{bit_or, or_step, or_zero_r}
use Rattle.std.proofs.lemmas.List.{get_or_past}
use Rattle.journals.specs.Fences.{word, bits, flags}
use Rattle.journals.proofs.Rows.{row_small, row_is, row_past}

-- the lowest bit of a word and the word of the others
low : (b : Bool) (x : ℕ) → (cond b 1 0 + x * 2) % 2 ≡ cond b 1 0
low true x = omega arith
low false x = omega arith

high : (b : Bool) (x : ℕ) → (cond b 1 0 + x * 2) / 2 ≡ x
high true x = omega arith
high false x = omega arith

lowest : (b : Bool) → eqb (cond b 1 0) 1 ≡ b
lowest true = refl
lowest false = refl

-- the bits of a word are those that it was made of
bits_word : (bs : List Bool) → bits (length bs) (word bs) ≡ bs
bits_word [] = refl
bits_word (b ∷ bs) =
    let w = cond b 1 0 + word bs * 2 in
    ap (λ x. eqb x 1 ∷ bits (length bs) (w / 2)) (low b (word bs))
    ∙ ap (λ x. x ∷ bits (length bs) (w / 2)) (lowest b)
    ∙ ap (λ x. b ∷ bits (length bs) x) (high b (word bs))
    ∙ ap (λ xs. b ∷ xs) (bits_word bs)

word_bound : (bs : List Bool) → word bs < 2 ^ length bs
word_bound [] = omega arith
word_bound (true ∷ bs) = omega (arith, word_bound bs, pow-suc 2 (length bs))
word_bound (false ∷ bs) = omega (arith, word_bound bs, pow-suc 2 (length bs))

-- one flag more is one bit more
word_set : (bs : List Bool) (k : ℕ) → k < length bs → word (set bs k true) ≡ bit_or (word bs) (2 ^ k)
word_set [] k lt = absurd (omega arith)
word_set (b ∷ bs) zero lt =
    let w = cond b 1 0 + word bs * 2 in
    let s : bit_or w 1 ≡ bit_or (w / 2) 0 * 2 + max (w % 2) 1 = or_step w 1 in
    let z = or_zero_r (w / 2) in
    let q : w / 2 ≡ word bs = high b (word bs) in
    omega (arith, s, z, q)
word_set (b ∷ bs) (suc k) lt =
    let w = cond b 1 0 + word bs * 2 in
    let p = pow-suc 2 k in
    let s = or_step w (2 ^ suc k) in
    let h : 2 ^ suc k / 2 ≡ 2 ^ k = omega (arith, p) in
    let m : 2 ^ suc k % 2 ≡ 0 = omega (arith, p) in
    let q : w / 2 ≡ word bs = high b (word bs) in
    let r : w % 2 ≡ cond b 1 0 = low b (word bs) in
    let t : bit_or w (2 ^ suc k) ≡ bit_or (word bs) (2 ^ k) * 2 + max (cond b 1 0) 0 = simp (h, m, q, r) at s in
    let i = word_set bs k (omega arith) in
    omega (arith, t, i)

bits_get : (n k w : ℕ) → k < n → get_or (bits n w) k false ≡ eqb (w / 2 ^ k % 2) 1
bits_get zero k w lt = absurd (omega arith)
bits_get (suc n) zero w lt = let d : w / 1 ≡ w = omega arith in simp d
bits_get (suc n) (suc k) w lt =
    let l : k < n = omega arith in
    let d = div-div-eq-div-mul w 2 (2 ^ k) in
    bits_get n k (w / 2) l ∙ simp (d, pow-succ' 2 k)

-- sixteen flags and their number say the same
pub flags_word : (fs : List Bool) → length fs ≡ 16 → flags (word fs) ≡ fs
unfolding flags
flags_word fs long = ap (λ n. bits n (word fs)) (sym long) ∙ bits_word fs

pub word_small : (fs : List Bool) → length fs ≡ 16 → word fs < 65536
word_small fs long = subst (λ n. word fs < 2 ^ n) long (word_bound fs)

pub length_flags : (w : ℕ) → length (flags w) ≡ 16
unfolding flags
length_flags w = refl

pub flags_get : (k w : ℕ) → k < 16 → get_or (flags w) k false ≡ eqb (w / 2 ^ k % 2) 1
unfolding flags
flags_get k w lt = bits_get 16 k w lt

pub flags_set : (fs : List Bool) (k : ℕ) → length fs ≡ 16 → k < 16 → word (set fs k true) ≡ bit_or (word fs) (2 ^ k)
flags_set fs k long lt = word_set fs k (omega arith)

-- what a ledger's flag is, or that it has none
pub ruleset reads = (length_flags, flags_get, row_small, row_is, row_past, get_or_past)
