-- What a source and a sink in memory still have or hold, and when they fail.
use Rattle.std.specs.Prelude.{◌≡◌, ℕ, List, [], drop}
use Rattle.co_base.specs.FailingCalls.{MadeFor, FailsNext}
use Rattle.co_base.specs.declared.failing.FailingCalls.{FailingCalls}
use Rattle.co_base.specs.declared.in_memory.MemorySource.{MemorySource}
use Rattle.co_base.specs.declared.in_memory.MemorySink.{MemorySink}

-- the bytes still to come
abbrev pub bytes_left : MemorySource → List ℕ
bytes_left s = drop s.at s.bytes.items

-- the most bytes of one read
abbrev pub source_step : MemorySource → ℕ
source_step s = s.step

-- the reads so far, and which of them fail
abbrev pub source_calls : MemorySource → FailingCalls
source_calls s = s.calls

-- the number of failures so far
abbrev pub source_faults : MemorySource → ℕ
source_faults s = s.calls.faults

-- the next read is to fail
abbrev pub SourceFailsNext : MemorySource → Type 0
SourceFailsNext s = FailsNext s.calls

-- all these bytes are left, and nothing was read
pub record SourceOver (bytes : List ℕ) (most : ℕ) (fails : List ℕ) (s : MemorySource) : Type 0 where
  pub left : bytes_left s ≡ bytes
  pub step : source_step s ≡ most
  pub calls : MadeFor fails (source_calls s)

-- the bytes taken so far
abbrev pub bytes_held : MemorySink → List ℕ
bytes_held s = s.bytes.items

-- the most bytes of one write
abbrev pub sink_step : MemorySink → ℕ
sink_step s = s.step

-- the writes so far, and which of them fail
abbrev pub sink_calls : MemorySink → FailingCalls
sink_calls s = s.calls

-- the number of failures so far
abbrev pub sink_faults : MemorySink → ℕ
sink_faults s = s.calls.faults

-- the next write is to fail
abbrev pub SinkFailsNext : MemorySink → Type 0
SinkFailsNext s = FailsNext s.calls

-- no byte is held, and nothing was written
pub record SinkOf (most : ℕ) (fails : List ℕ) (s : MemorySink) : Type 0 where
  pub held : bytes_held s ≡ []
  pub step : sink_step s ≡ most
  pub calls : MadeFor fails (sink_calls s)
