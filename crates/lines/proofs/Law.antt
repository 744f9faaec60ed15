-- The law of lines.
use Rattle.std.proofs.Common.{◌≡◌, Ok, sym, ap, ◌∙◌}
use Rattle.lines.specs.Reading.{read_line}
use Rattle.lines.specs.Writing.{LinesKeepSteps}
use Rattle.lines.proofs.ReadBack.{read_back}
use Rattle.lines.proofs.OnlyWritten.{only_written}

pub lines_keep_steps : LinesKeepSteps
lines_keep_steps =
    record {
      read_back = read_back;
      apart = λ s t h k e. let r : Ok s ≡ Ok t = sym (read_back s h) ∙ ap read_line e ∙ read_back t k in cc;
      only = only_written;
    }
