-- What short lists are made of: a copy of records into a room of blanks, and lists with the same parts.
use Rattle.std.proofs.Common.{◌≡◌, ℕ, ◌-◌, ◌≤◌, min, List, ◌++◌, length, take, drop, replicate, sym, ap, ◌∙◌, arith}
use mathlib.Core.HLevel.{is_prop→PathP}
use mathlib.Core.List.{is_set}
use mathlib.Core.Logic.{∥∥₁_elim, ∥∥₁_prop}
use native.Mathlib.Bridge.{le_prop}
use native.Mathlib.Nat.{ℕ_set}
use Rattle.std.proofs.lemmas.List.{take-append-drop, take_all, take_at, length-take, length-take-le, drop-replicate}
use Rattle.places.specs.Padding.{padded, blank_behind}
use Rattle.places.specs.ShortLists.{listed, short_list}
use Rattle.places.specs.declared.Blank.{Ghosts}
use Rattle.places.specs.declared.short_lists.ShortList.{ShortList}

module _ {A : Type 0} (blank : A) (room : ℕ) (xs : List A) where
  -- what the places of the room hold once the records lie in front of its blanks
  pub laid_in : (given : A) (places : List A) → length xs ≤ room → given ≡ blank → places ≡ xs ++ drop (length xs) (replicate room given)
      → places ≡ padded blank room xs
  laid_in given places few blanks is =
      let least : length xs ≡ min room (length xs) = omega arith in
      is ∙ ap (λ b. xs ++ drop (length xs) (replicate room b)) blanks
      ∙ ap (λ front. front ++ drop (length xs) (replicate room blank)) (sym (take_all room xs few))
      ∙ ap (λ behind. take room xs ++ behind) (drop-replicate {X = A} (length xs) room blank ∙ ap (λ k. replicate (room - k) blank) least)

  -- the fact that the type asks for
  pub stays_padded : (places : List A) (n : ℕ) → n ≡ min room (length xs) → places ≡ padded blank room xs
      → drop n places ≡ replicate (room - n) blank
  stays_padded places n least is =
      ap (drop n) is ∙ ap (λ k. drop k (padded blank room xs)) least ∙ blank_behind blank room xs
      ∙ ap (λ k. replicate (room - k) blank) (sym least)

  -- a list that the room takes is found in front of its padding
  pub front_padded : length xs ≤ room → take (min room (length xs)) (padded blank room xs) ≡ xs
  front_padded few =
      take_at (take room xs) (replicate (room - min room (length xs)) blank) (min room (length xs)) (length-take room xs) ∙ take_all room xs few

-- the front of a padded list, padded again
repadded : {A : Type 0} (blank : A) (room n : ℕ) (items : List A) → length (take n items) ≡ n → n ≤ room
    → drop n items ≡ replicate (room - n) blank → items ≡ padded blank room (take n items)
repadded blank room n items long few behind =
    let least : n ≡ min room (length (take n items)) = omega arith in
    sym (take-append-drop n items) ∙ ap (λ ys. take n items ++ ys) behind
    ∙ ap (λ k. take n items ++ replicate (room - k) blank) least
    ∙ ap (λ front. front ++ replicate (room - min room (length (take n items))) blank) (sym (take_all room (take n items) (omega arith)))

module _ {A : Type 0} {room : ℕ} {kind : Ghosts A} where
  -- the type's facts add nothing to a list's parts
  pub short_same : (a b : ShortList A room kind) → a.count ≡ b.count → a.items ≡ b.items → a ≡ b
  short_same a b n xs =
      λ i. record {
        count = n i;
        items = xs i;
        whole = is_prop→PathP (λ j. length (xs j) ≡ room) (λ j. ℕ_set (length (xs j)) room) a.whole b.whole i;
        few = is_prop→PathP (λ j. n j ≤ room) (λ j. le_prop) a.few b.few i;
        clear =
            is_prop→PathP (λ j. ∥ drop (n j) (xs j) ≡ replicate (room - n j) kind.empty ∥₁) (λ j. ∥∥₁_prop) a.clear b.clear i;
      }

  pub length_listed : (xs : ShortList A room kind) → length (listed xs) ≡ xs.count
  length_listed xs = let few = xs.few in length-take-le xs.count xs.items (omega (arith, xs.whole))

-- what a list of records holds, as far as there is room
pub listed_short : {A : Type 0} (room : ℕ) (kind : Ghosts A) (xs : List A) → length xs ≤ room → listed (short_list {room = room} {kind = kind} xs) ≡ xs
listed_short room kind xs few = front_padded kind.empty room xs few

-- a list is the one that is made of what it holds
pub short_of_listed : {A : Type 0} {room : ℕ} {kind : Ghosts A} → IsSet A → (xs : ShortList A room kind) → short_list (listed xs) ≡ xs
short_of_listed {A} {room} {kind} set xs =
    let long = length_listed xs in
    let few = xs.few in
    let clear = ∥∥₁_elim xs.clear (is_set set (drop xs.count xs.items) (replicate (room - xs.count) kind.empty)) (λ c. c) in
    sym (short_same xs (short_list (listed xs)) (omega arith) (repadded kind.empty room xs.count xs.items long few clear))
