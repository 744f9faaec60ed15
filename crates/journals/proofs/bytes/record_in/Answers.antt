use Rattle.std.proofs.Common.{min, ap, ◌∙◌}
use Rattle.journals.specs.Records.{record_of}
use Rattle.journals.proofs.Images.{body_read}
use Rattle.journals.proofs.Words.{word2, word4}
use Rattle.journals.proofs.bytes.record_in.Goals as goal

pub returns : goal.returns
unfolding record_of
returns c =
    let bytes = c.args.bytes.now in
    let long = word2 bytes 2 _ _ c.bytes_at.ensures c.from_le_bytes-length.ensures in
    let body = body_read bytes c.min.result _ c.in-Some.body (c.min.ensures ∙ ap (min 40) long) c.in-Some.ensures in
    λ i.
    record {
      ledger = record { 0 = word2 bytes 0 _ _ c.bytes_at-2.ensures (c.from.ensures ∙ c.from_le_bytes.ensures) i };
      entry = record { 0 = word4 bytes 4 _ _ c.bytes_at-3.ensures c.from_le_bytes-2.ensures i };
      lac = record { 0 = word4 bytes 8 _ _ c.bytes_at-4.ensures c.from_le_bytes-3.ensures i };
      body = body i;
    }
