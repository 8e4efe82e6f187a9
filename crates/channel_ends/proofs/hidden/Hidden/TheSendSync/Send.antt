-- A hidden end may go to another thread, since an end may, and its block is freed in any thread.
use Rattle.std.specs.Prelude.{Option, Some, None}
use mir.Raw.{raw}
use denote.Memory.{lone}
use denote.RawPtr.{Ptr}
use denote.Struct.Struct.{exits_of}
use denote.Struct.Owning.{shape, fields, to}
use base.Shift.{Keyless}
use denote.Param.Send.{IsSend, AllSend, owning_send, struct_send, sendable}
use Rattle.std.proofs.Crossing as heap
use Rattle.std_alloc.proofs.SendSync.{quiet, lies}
use Rattle.std_heap.proofs.Global.TheSendSync as handle
use Rattle.std.specs.Global.{Global}
use Rattle.channel_ends.specs.Hidden.{hidden_owns}
use Rattle.channel_ends.specs.contracts.end.End as End
use Rattle.channel_ends.proofs.end.End.TheSendSync.{the_send as end}
use Rattle.channel_ends.specs.contracts.hidden.Hidden.{the_row, the_type}

keyless : (a : Global) (p : Ptr) (held : Option (End.the_row).Denot) → Keyless (hidden_owns a p held)
keyless a p None = tt
keyless a p (Some e) = (lies End.the_row end p e, heap.frees.frees a (raw (lone (End.the_row).mir)) p)

pub send : IsSend the_row
send =
    let all : AllSend (fields the_type) = (search sendable, (handle.the_field_send, tt)) in
    owning_send the_type all (λ d. keyless d.alloc d.at d.end)
    (λ k. quiet (to the_type) (exits_of k (fields the_type)) ((struct_send (shape the_type) all).leaving k))
