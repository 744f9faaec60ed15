-- Adds that are sent one pending entry after another.
use Rattle.std.proofs.Common.{◌≡◌, ℕ, suc, ◌+◌, ◌<◌, List, [], ◌∷◌, ◌++◌, length, get_or, drop, sym, refl, ap, ◌∙◌, arith}
use Rattle.std.proofs.lemmas.List.{at_drop_more}
use Rattle.ledgers.specs.declared.ids.LedgerId.{LedgerId}
use Rattle.layout.specs.declared.fragments.Layout.{Layout}
use Rattle.messages.specs.Waiting.{Queue, sent, sent_one}
use Rattle.messages.specs.declared.entries.PendingAdd.{PendingAdd}
use Rattle.messages.specs.declared.messages.Message.{Message}
use Rattle.protocol.specs.Writers.{adds, all_adds}

-- two lists sent one after the other are their sum
pub sent_append : (q : Queue) (xs ys : List Message) → sent q (xs ++ ys) ≡ sent (sent q xs) ys
sent_append q [] ys = refl
sent_append q (x ∷ xs) ys = sent_append (sent_one q x) xs ys

-- pending entries from e on, whose adds carry LAC m, and of which k are sent: the adds of the next, and then those that are left
pub all_more : (y : Layout) (l : LedgerId) (m e : ℕ) (ps : List PendingAdd) (q : Queue) (k : ℕ) (p : PendingAdd) → k < length ps → p ≡ get_or ps k p
    → sent (sent q (adds y l (e + k) m p)) (all_adds y l m (e + (k + 1)) (drop (k + 1) ps)) ≡ sent q (all_adds y l m (e + k) (drop k ps))
all_more y l m e ps q k p lt is =
    let j : e + (k + 1) ≡ suc (e + k) = omega arith in
    sym (sent_append q (adds y l (e + k) m p) (all_adds y l m (e + (k + 1)) (drop (k + 1) ps)))
    ∙ ap (λ v. sent q (adds y l (e + k) m p ++ all_adds y l m v (drop (k + 1) ps))) j
    ∙ ap (λ x. sent q (adds y l (e + k) m x ++ all_adds y l m (suc (e + k)) (drop (k + 1) ps))) is
    ∙ sym (at_drop_more (λ xs. sent q (all_adds y l m (e + k) xs)) ps k p lt)
