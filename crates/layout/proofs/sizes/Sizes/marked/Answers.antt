use Rattle.std.proofs.Common.{◌≡◌, sym, ◌∙◌, rules}
use Rattle.std.specs.List.{count_by}
use Rattle.layout.specs.WriteSets.{write_set, marked}
use Rattle.layout.proofs.Turns.{tally_counts}
use Rattle.layout.proofs.sizes.Sizes.marked.Goals as goal

pub returns : goal.returns
returns c =
    let set = write_set c.args.self.now c.args.e.0 in
    let counted : c.count.result ≡ count_by (marked c.args.marks.now) set = search rules in
    counted ∙ sym (tally_counts (marked c.args.marks.now) set)
