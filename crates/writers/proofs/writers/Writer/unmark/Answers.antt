use Rattle.std.proofs.Common.{◌≡◌, ◌<◌, length, get_or, set, ap, ◌∙◌, arith, length-set}
use Rattle.std.proofs.lemmas.List.Edits.{map_over_more}
use Rattle.places.specs.ShortLists.{listed}
use Rattle.protocol.specs.Writers.{Writer, unmarked, with_pending}
use Rattle.writers.specs.Meaning.{meant}
use Rattle.writers.proofs.writers.Writer.unmark.Goals as goal

pub loop-k-preserved : goal.loop-k-preserved
loop-k-preserved c =
    let w = c.args.self.now in
    let f = unmarked c.args.position.0 in
    let olds = listed w.pending in
    let ps = listed c.loop-k.self.pending in
    let k = c.loop-k.k in
    let x = c.index-as_slice-k.result in
    let before = c.loop-k.invariant.1 in
    let lt : k < length olds = omega arith in
    let here : x ≡ get_or ps k x = c.index-as_slice-k.is ∙ ap (λ xs. get_or xs k x) c.as_slice.ensures in
    let is : listed c.replace.new.self ≡ set ps k (f x) =
    c.replace.ensures ∙ ap (λ m. set ps k (record { body = x.body; marks = m })) c.put.ensures in
    let more = map_over_more f olds ps k x lt (ap (λ (v : Writer). v.pending) before) here in (
      ap length is ∙ length-set ps k (f x) ∙ c.loop-k.invariant.0,
      ap (λ (v : Writer). with_pending v v.lac (listed c.replace.new.self)) before
          ∙ ap (with_pending (meant w) w.lac.0) (is ∙ more),
    )
