use Rattle.std.proofs.Common.{◌≡◌, ◌≤◌, length, drop, ap, ◌∙◌, arith, length-drop}
use Rattle.std.proofs.lemmas.List.{length-take, take_rest}
use Rattle.journals.specs.Files.{entries_in}
use Rattle.journals.specs.Headers.{header_in}
use Rattle.journals.specs.Numbers.{le4}
use Rattle.journals.specs.Records.{records_of}
use Rattle.journals.proofs.Parts.{records_are}
use Rattle.journals.proofs.files.JournalFile.records.Goals as goal

pub slice_bounds-result-end : goal.slice_bounds-result-end
unfolding header_in
slice_bounds-result-end c =
    let file = c.args.self.now.file.now in
    let count : c.header-count.result.count ≡ le4 file 0 = ap (λ h. h.count) c.header-count.ensures in
    let few : c.header-count.result.count ≤ length c.as_chunks.result.0.now = omega (arith, c.as_chunks.ensures.front_len, length-drop 32 file) in
    omega (arith, length-take c.header-count.result.count c.as_chunks.result.0.now)

pub returns : goal.returns
unfolding header_in entries_in
returns c =
    let file = c.args.self.now.file.now in
    let count : c.header-count.result.count ≡ le4 file 0 = ap (λ h. h.count) c.header-count.ensures in
    records_are c.header-count.result.count _ (drop 32 file) _ c.as_chunks.ensures.front (take_rest file 32) (omega (arith, length-drop 32 file))
    ∙ ap (λ n. records_of n (drop 32 file)) count
