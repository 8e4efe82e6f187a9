-- What an end behind a pointer owns.
use Rattle.std.specs.Prelude.{Option, Some, None}
use base.Fml.{Fml, ftrue}
use base.Stored.{Coded}
use denote.RawPtr.{Ptr}
use Rattle.std.specs.Box.Ownership.{box_owns}
use Rattle.std.specs.Coded.{coded_option}
use Rattle.std.specs.Global.{Global}
use Rattle.std_heap.specs.contracts.GlobalAllocator.TheImpl.{ghosts}
use Rattle.channel_ends.specs.contracts.end.End.{the_row}

-- an end on the heap, with the right to free its block; or nothing
abbrev pub hidden_owns : Global → Ptr → Option the_row.Denot → Fml
hidden_owns alloc p None = ftrue
hidden_owns alloc p (Some e) = box_owns (ghosts.dealloc_token alloc) the_row p e

abbrev pub end_coded : Coded (Option the_row.Denot)
end_coded = coded_option the_row.coded
