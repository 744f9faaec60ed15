-- An input, line by line.
use Rattle.std.proofs.Common.{◌≡◌, ℕ, zero, suc, ◌+◌, ◌<◌, min, Bool, eqb, List, [], ◌∷◌, ◌++◌, length, get_or, drop, Option, Some, subst, refl, sym, ap, ◌∙◌, arith}
use Rattle.std.specs.Fn.{CalledAt, ComputesKey}
use Rattle.std.specs.Iterator.{Yields}
use Rattle.std.specs.List.{IsFirstMatchOrLen}
use Rattle.std.specs.Option.{MatchOption}
use Rattle.std.specs.declared.slice.SplitInclusive.{SplitInclusive}
use Rattle.std.specs.Slice.Iter.{split_inclusive_rest, split_inclusive_callee}
use Rattle.std.proofs.lemmas.Bool.{cond-true, cond-false}
use Rattle.std.proofs.lemmas.Fn.{always_returns_same}
use Rattle.std.proofs.lemmas.Iterator.{YieldsList}
use Rattle.std.proofs.lemmas.Iterator.Consumers.{YieldsList-at}
use Rattle.std.proofs.lemmas.Iterator.Splits.{YieldsList-from_shown_while}
use Rattle.std.proofs.lemmas.List.{append_assoc, at_drop_more, nil_from_length}
use denote.Param.Members.{Mut}
use denote.Ref.{Bor}
use Rattle.script.specs.Playing.{counted, line_bytes}
use Rattle.script.specs.Inputs.{onto_line, lines_of, all_bytes, all_counted}
use Rattle.script.specs.declared.players.Player.{Player}

-- The bytes up to and with the first 10, or all of them where there is none, are the first line.
first_line : (line rest : List ℕ) (i : ℕ) → 0 < length line → length line ≡ min (i + 1) (length (line ++ rest))
    → IsFirstMatchOrLen (λ b. eqb b 10) (line ++ rest) i → lines_of (line ++ rest) ≡ line ∷ lines_of rest
first_line [] rest i some long first = absurd (omega arith)
first_line (b ∷ []) rest zero some long first = cond-true (eqb b 10) _ _ (first.1 (omega arith) 0)
first_line (b ∷ []) [] (suc i) some long first = cond-false (eqb b 10) _ _ (first.0 0 0 (omega arith) (omega arith))
first_line (b ∷ []) (c ∷ cs) (suc i) some long first = absurd (omega arith)
first_line (b ∷ c ∷ cs) rest zero some long first = absurd (omega arith)
first_line (b ∷ c ∷ cs) rest (suc i) some long first =
    cond-false (eqb b 10) _ _ (first.0 0 0 (omega arith) (omega arith))
    ∙ ap (onto_line b)
    (first_line (c ∷ cs) rest i (omega arith) (omega arith)
    (λ k d low high. first.0 (suc k) d (omega arith) (omega arith), λ within d. first.1 (omega arith) d))

module _ {F : Type 0} (g : Mut F (Bor ℕ × Unit {0}) Bool) where
  -- what one call of `next` does to a `split_inclusive`
  abbrev pub cuts : SplitInclusive ℕ F → Option (Bor (List ℕ)) → SplitInclusive ℕ F → Type 0
  cuts s r t =
      MatchOption r ((length (split_inclusive_rest s) ≡ 0) × (t ≡ s))
      (λ x. (split_inclusive_rest s ≡ x.now ++ split_inclusive_rest t)
      × ((i : ℕ) × (length x.now ≡ min (i + 1) (length (split_inclusive_rest s)))
      × ((p : ℕ → Bool) → ComputesKey g p (split_inclusive_callee s) → ComputesKey g p (split_inclusive_callee t) × IsFirstMatchOrLen p (split_inclusive_rest s) i))
      × (0 < length (split_inclusive_rest s)))

  line_turn : (s : SplitInclusive ℕ F) (x : Bor (List ℕ)) (t : SplitInclusive ℕ F) → ComputesKey g (λ b. eqb b 10) (split_inclusive_callee s) → cuts s (Some x) t
      → ComputesKey g (λ b. eqb b 10) (split_inclusive_callee t) × (lines_of (split_inclusive_rest s) ≡ x.now ∷ lines_of (split_inclusive_rest t))
  line_turn s x t test turn =
      let said = turn.1.2 (λ b. eqb b 10) test in
      let parts = turn.0 in
      let some : 0 < length x.now = omega (arith, turn.1.1, turn.2) in
      (said.0, ap lines_of parts ∙ first_line x.now (split_inclusive_rest t) turn.1.0 some (turn.1.1 ∙ ap (λ l. min (turn.1.0 + 1) (length l)) parts) (subst (λ l. IsFirstMatchOrLen (λ b. eqb b 10) l turn.1.0) parts said.1))

  -- What `split_inclusive` at the bytes 10 yields: the lines of the input.
  pub lines_yielded : {s t : SplitInclusive ℕ F} {f : F} (seen : List (Bor (List ℕ))) (u : SplitInclusive ℕ F) → Yields cuts t seen u → t ≡ s
      → (input : List ℕ) → split_inclusive_rest s ≡ input → split_inclusive_callee s ≡ f
      → ((x : ℕ) (b : Bool) (q : F) → CalledAt g f x b q → (q ≡ f) × (b ≡ eqb x 10)) → YieldsList cuts (λ x. x.now) t (lines_of input)
  lines_yielded {s = s} {t} {f} seen u run starts input rest closure tests =
      let computes = always_returns_same g (λ a r. r ≡ eqb a.0.now 10) f (λ a r q k. let m = tests a.0.now r q (record { shown = a.0; shows = refl; called = k }) in (m.1, m.0)) in
      YieldsList-at starts
      (subst (YieldsList cuts (λ x. x.now) s) (ap lines_of rest)
      (YieldsList-from_shown_while cuts (λ x. x.now) (λ v. lines_of (split_inclusive_rest v)) (λ v. ComputesKey g (λ b. eqb b 10) (split_inclusive_callee v))
      (λ v w h k. ap (λ l. length (lines_of l)) (nil_from_length _ k.0)) line_turn s (subst (ComputesKey g (λ b. eqb b 10)) (sym closure) computes)))

-- One turn of playing: line i of the input is printed and counted, and the lines behind it are left.
module _ (p : Player) (lines : List (List ℕ)) (i : ℕ) (l : List ℕ) (here : (i < length lines) × (l ≡ get_or lines i l)) where
  pub turn_bytes : (before after : List ℕ) (p' : Player) → p' ≡ counted p l → after ≡ before ++ line_bytes p l
      → after ++ all_bytes p' (drop (i + 1) lines) ≡ before ++ all_bytes p (drop i lines)
  turn_bytes before after p' counts is =
      let rest = drop (i + 1) lines in
      ap (λ t. t ++ all_bytes p' rest) is ∙ append_assoc before (line_bytes p l) (all_bytes p' rest)
      ∙ ap (λ q. before ++ (line_bytes p l ++ all_bytes q rest)) counts
      ∙ ap (λ v. before ++ (line_bytes p v ++ all_bytes (counted p v) rest)) here.1
      ∙ ap (λ t. before ++ t) (sym (at_drop_more (all_bytes p) lines i l here.0))

  pub turn_counts : (p' : Player) → p' ≡ counted p l → all_counted p' (drop (i + 1) lines) ≡ all_counted p (drop i lines)
  turn_counts p' counts =
      ap (λ q. all_counted q (drop (i + 1) lines)) counts ∙ ap (λ v. all_counted (counted p v) (drop (i + 1) lines)) here.1
      ∙ sym (at_drop_more (all_counted p) lines i l here.0)
