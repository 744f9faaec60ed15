-- A list in a room of fixed size: its first records, and blanks in the places behind them.
use Rattle.std.specs.Prelude.{◌≡◌, ℕ, ◌-◌, min, List, ◌++◌, length, take, drop, replicate}
use Rattle.std.proofs.Common.{sym, ap, arith}
use Rattle.std.proofs.lemmas.List.{take_at, drop_at, length-take, length-append, length-replicate}

module _ {A : Type 0} (blank : A) (room : ℕ) (xs : List A) where
  abbrev pub padded : List A
  padded = take room xs ++ replicate (room - min room (length xs)) blank

  -- What the type of short lists asks for: a padded list fills the room,
  pub length_padded : length padded ≡ room
  length_padded =
      omega (
        arith,
        length-append (take room xs) (replicate (room - min room (length xs)) blank),
        length-take room xs,
        length-replicate {A = A} (room - min room (length xs)) blank,
      )

  -- has blanks behind its records,
  pub blank_behind : drop (min room (length xs)) padded ≡ replicate (room - min room (length xs)) blank
  blank_behind = drop_at (take room xs) (replicate (room - min room (length xs)) blank) (min room (length xs)) (length-take room xs)

  -- and is the padding of its own front.
  pub padded_again : padded ≡ take (min room (length xs)) padded ++ replicate (room - min room (length xs)) blank
  padded_again =
      let blanks = replicate (room - min room (length xs)) blank in
      ap (λ front. front ++ blanks) (sym (take_at (take room xs) blanks (min room (length xs)) (length-take room xs)))
