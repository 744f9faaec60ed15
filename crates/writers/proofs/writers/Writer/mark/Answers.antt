use Rattle.std.proofs.Common.{◌≡◌, ◌+◌, ◌-◌, ◌<◌, ◌≤◌, length, get_or, set, sym, ap, ◌∙◌, inl, inr, arith, rules}
use Rattle.places.specs.ShortLists.{listed}
use Rattle.protocol.specs.Writers.{with_pending, marked_add}
use Rattle.writers.specs.Meaning.{meant}
use Rattle.writers.proofs.Marks.{marked_none, marked_at}
use Rattle.writers.proofs.writers.Writer.mark.Goals as goal

pub returns-in_default : goal.returns-in_default
returns-in_default c =
    let w = c.args.self.now in
    let below : c.args.e.0 < w.lac.0 = search rules in
    ap (with_pending (meant w) w.lac.0) (sym (marked_none w.layout c.args.e.0 c.args.bookie.0 w.lac.0 (listed w.pending) (inl below)))

pub returns-in-Some-copied : goal.returns-in-Some-copied
returns-in-Some-copied c =
    let w = c.args.self.now in
    let y = w.layout in
    let e = c.args.e.0 in
    let b = c.args.bookie.0 in
    let ps = listed w.pending in
    let at = c.in-Some.at in
    let x = c.in-Some-copied.add in
    let is : at ≡ e - w.lac.0 = search rules in
    let le : w.lac.0 ≤ e = search rules in
    let lt : at < length ps = search rules in
    let here : x ≡ get_or ps at x = search rules in
    ap (with_pending (meant w) w.lac.0)
    (c.replace.ensures ∙ ap (λ m. set ps at (record { body = x.body; marks = m })) c.mark_write_set.ensures
    ∙ ap (λ v. set ps at (marked_add y e b v)) here ∙ ap (λ k. set ps k (marked_add y e b (get_or ps k x))) is
    ∙ sym (marked_at y e b w.lac.0 ps x le (omega (arith, is, lt))))

pub returns-in_default-copied : goal.returns-in_default-copied
returns-in_default-copied c =
    let w = c.args.self.now in
    let past : w.lac.0 + length (listed w.pending) ≤ c.args.e.0 = search rules in
    ap (with_pending (meant w) w.lac.0) (sym (marked_none w.layout c.args.e.0 c.args.bookie.0 w.lac.0 (listed w.pending) (inr past)))
