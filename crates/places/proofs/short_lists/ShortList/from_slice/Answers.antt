use Rattle.std.proofs.Common.{◌≡◌, ◌≤◌, min, length, Some, sym, ap, ◌∙◌, arith}
use Rattle.std.proofs.lemmas.Bool.{cond-true, le-leb}
use Rattle.places.specs.Padding.{length_padded}
use Rattle.places.specs.ShortLists.{short_list}
use Rattle.places.proofs.ShortLists.{laid_in, stays_padded, short_same}
use Rattle.places.proofs.short_lists.ShortList.from_slice.Goals as goal

pub invariant_of-result : goal.invariant_of-result
invariant_of-result g c =
    let records = c.args.records.now in
    let blank = g.T.Blank.empty in
    let few : length records ≤ g.row.N = omega arith in
    let filled = laid_in blank g.row.N records c.blank-items.result _ few c.blank-items.ensures c.lay_in_front.ensures in
    record {
      whole = ap length filled ∙ length_padded blank g.row.N records;
      few = few;
      clear = ∣ stays_padded blank g.row.N records _ (length records) (omega arith) filled ∣₁;
    }

pub returns : goal.returns
returns g c =
    let records = c.args.records.now in
    let few : length records ≤ g.row.N = omega arith in
    let filled = laid_in g.T.Blank.empty g.row.N records c.blank-items.result _ few c.blank-items.ensures c.lay_in_front.ensures in
    let least : length records ≡ min g.row.N (length records) = omega arith in
    ap Some (short_same _ (short_list records) least filled) ∙ sym (cond-true _ _ _ (le-leb (length records) g.row.N few))
