use Rattle.std.proofs.Common.{sym, refl, ap, ◌∙◌}
use Rattle.journals.specs.Fences.{word, flags}
use Rattle.journals.proofs.Owned.{stood, said, flags_owned, bookie_same}
use Rattle.journals.proofs.Writes.{fence_kept}
use Rattle.journals.proofs.journal.calls.JournalBookieStorage.mark_fenced.Goals as goal

pub with_fence-requires : goal.with_fence-requires
with_fence-requires c =
    let fences = ap (λ h. h.fences) c.header-header.ensures in
    fences ∙ ap word (sym (flags_owned c.args.self.now)) ∙ ap (λ w. word (flags w)) (sym fences)

pub invariant_of-self : goal.invariant_of-self
invariant_of-self c =
    let s = c.args.self.now in
    let kept = (fence_kept _ (stood s) _ c.header-header.ensures c.args.ledger.0 _ _ c.with_fence.ensures c.write_header.ensures).keeps in
    record { least = kept.least; most = kept.most; room = kept.room; sound = kept.sound; laid = kept.laid }

pub returns : goal.returns
returns c =
    let s = c.args.self.now in
    let now = (fence_kept _ (stood s) _ c.header-header.ensures c.args.ledger.0 _ _ c.with_fence.ensures c.write_header.ensures).tells in
    bookie_same _ _ refl now.entries now.fences (now.space ∙ sym (said s).space)
