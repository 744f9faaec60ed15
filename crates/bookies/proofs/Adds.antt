-- An add of the bytes of a body is an add of that body: what those who send bodies go by.
use Rattle.std.proofs.Common.{◌≡◌, Bool, ap}
use Rattle.ledgers.specs.Bodies.{content}
use Rattle.ledgers.specs.declared.bodies.Body.{Body}
use Rattle.ledgers.specs.declared.ids.EntryId.{EntryId}
use Rattle.ledgers.specs.declared.ids.Lac.{Lac}
use Rattle.ledgers.specs.declared.ids.LedgerId.{LedgerId}
use Rattle.ledgers.proofs.Same.{made_of_content}
use Rattle.protocol.specs.Bookies.{Bookie, add_answer, add_after}
use Rattle.bookies.specs.Calls.{add_made_answer, add_made_after, add_bytes_answer, add_bytes_after}

module _ (b : Bookie) (l : LedgerId) (e : EntryId) (n : Lac) (body : Body) (recovery : Bool) where
  pub add_content_answer : add_bytes_answer b l e n (content body) recovery ≡ add_answer b l e n body recovery
  unfolding add_bytes_answer
  add_content_answer = ap (λ made. add_made_answer made b l e n recovery) (made_of_content body)

  pub add_content_after : add_bytes_after b l e n (content body) recovery ≡ add_after b l e n body recovery
  unfolding add_bytes_after
  add_content_after = ap (λ made. add_made_after made b l e n recovery) (made_of_content body)
