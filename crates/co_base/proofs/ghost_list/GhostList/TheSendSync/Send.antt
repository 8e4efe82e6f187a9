use denote.RattleType.{RattleType}
use denote.Struct.Declared.{shape}
use denote.Param.Send.{IsSend, owning_send, struct_send}
use Rattle.std.specs.contracts.marker.PhantomData as phantom
use Rattle.co_base.specs.contracts.ghost_list.GhostList.{the_row, the_type}

pub send : (R : RattleType) → IsSend R → IsSend (the_row R)
send R sends = owning_send (the_type R) (struct_send (shape (phantom.the_type R)) tt, tt) (λ d. tt) (λ k x w. tt)
