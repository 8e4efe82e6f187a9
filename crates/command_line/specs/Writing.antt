-- What a write of a text came to.
use Rattle.std.specs.Prelude.{◌≡◌, ℕ, List}
use Rattle.co_base.specs.Streams.{Rose, Took, TookPart}
use Rattle.command_line.specs.declared.status.Ending.{Ending}
use Rattle.command_line.specs.declared.status.Status.{Status}
use Rattle.command_line.specs.declared.status.Status.TheVariants as status
use Rattle.command_line.specs.Statuses.{Stream, status_of}

-- the sink failed after a part of the text, or took it whole
abbrev pub IsWritten : Ending → List ℕ → Stream → Stream → Status → Type 0
IsWritten how text sink sink' status.WriteFault = Rose sink.faults sink'.faults × TookPart text sink.bytes sink'.bytes
IsWritten how text sink sink' result = (result ≡ status_of how) × Took sink.bytes sink'.bytes text
