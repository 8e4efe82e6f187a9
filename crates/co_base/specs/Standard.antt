-- What stands behind a source or a sink of the standard library.
use Rattle.std.specs.Prelude.{ℕ, List, Option, None}
use Rattle.co_base.specs.declared.standard.StdSource.{StdSource}
use Rattle.co_base.specs.declared.standard.StdSink.{StdSink}

-- the reader behind the source
abbrev pub reader_of : {R : Type 0} → StdSource R → R
reader_of s = s.reader

-- the number of the source's failures so far
abbrev pub source_faults : {R : Type 0} → StdSource R → ℕ
source_faults s = s.faults

-- a reader's bytes are not told
abbrev pub source_left : {R : Type 0} → StdSource R → Option (List ℕ)
source_left s = None

-- the writer behind the sink
abbrev pub writer_of : {W : Type 0} → StdSink W → W
writer_of s = s.writer

-- the number of the sink's failures so far
abbrev pub sink_faults : {W : Type 0} → StdSink W → ℕ
sink_faults s = s.faults

-- a writer's bytes are not told
abbrev pub sink_held : {W : Type 0} → StdSink W → Option (List ℕ)
sink_held s = None
