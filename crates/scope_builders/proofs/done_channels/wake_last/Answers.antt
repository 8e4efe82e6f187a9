use Rattle.scope_builders.proofs.Closings.{woken, none_stood}
use Rattle.std.proofs.Common.{refl}
use Rattle.scope_builders.proofs.done_channels.wake_last.Goals as goal

pub returns-in-Some-clause-woken : goal.returns-in-Some-clause-woken
returns-in-Some-clause-woken g c =
    woken (g.met.C.ChannelFloor.legal c.wake_closed.new.self) c.requires.one_place c.in-Some.ensures.answer.made refl c.note.ensures.items
    c.note.ensures.spare

pub returns-in_default-clause-woken : goal.returns-in_default-clause-woken
returns-in_default-clause-woken g c = none_stood c.in_default.ensures.answer.0 c.in_default.ensures.answer.1 refl refl refl
