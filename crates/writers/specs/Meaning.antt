-- What a writer means: the protocol's writer.
use Rattle.places.specs.ShortLists.{listed}
use Rattle.protocol.specs.Writers as protocol
use Rattle.writers.specs.declared.writers.Writer.{Writer}

abbrev pub meant : Writer → protocol.Writer
meant w =
    record {
      state = w.state;
      layout = w.layout;
      version = w.version.0;
      lac = w.lac.0;
      pending = listed w.pending;
    }
