-- Bodies, and lists of bookies, are what they hold.
use Rattle.std.proofs.Common.{◌≡◌, ℕ, ◌≤◌, List, length, Some, ap, ◌∙◌, arith}
use native.Mathlib.Nat.{ℕ_set}
use Rattle.std.proofs.lemmas.Bool.{cond-true, le-leb}
use Rattle.places.proofs.ShortLists.{listed_short, length_listed as length_listed_numbers, short_of_listed}
use Rattle.ledgers.specs.Bodies.{content, body_of, made_body}
use Rattle.ledgers.specs.BookieLists.{listed, list_of, made_list}
use Rattle.ledgers.specs.declared.bodies.Body.{Body}
use Rattle.ledgers.specs.declared.bookie_lists.BookieList.{BookieList}

pub content_of : (bs : List ℕ) → length bs ≤ 40 → content (body_of bs) ≡ bs
content_of bs few = listed_short 40 _ bs few

pub listed_of : (bs : List ℕ) → length bs ≤ 5 → listed (list_of bs) ≡ bs
listed_of bs few = listed_short 5 _ bs few

module _ (b : Body) where
  pub content_short : length (content b) ≤ 40
  content_short = let few = b.0.few in omega (arith, length_listed_numbers b.0)

  pub body_of_content : body_of (content b) ≡ b
  body_of_content = ap (λ xs. record { 0 = xs }) (short_of_listed ℕ_set b.0)

  pub made_of_content : made_body (content b) ≡ Some b
  made_of_content = cond-true _ _ _ (le-leb (length (content b)) 40 content_short) ∙ ap Some body_of_content

module _ (b : BookieList) where
  pub length_listed : length (listed b) ≡ b.0.count
  length_listed = length_listed_numbers b.0

  pub listed_few : length (listed b) ≤ 5
  listed_few = let few = b.0.few in omega (arith, length_listed)

  pub made_of_listed : made_list (listed b) ≡ Some b
  made_of_listed =
      cond-true _ _ _ (le-leb (length (listed b)) 5 listed_few)
      ∙ ap (λ xs. Some (record { 0 = xs })) (short_of_listed ℕ_set b.0)
