use Rattle.std.proofs.Common.{refl, sym, ◌∙◌}
use Rattle.channel_ends.specs.Handles.{end_in}
use Rattle.channel_ends.proofs.Handles.{there, empty, splits_off, splits_not}
use Rattle.channel_ends.proofs.handle.ChannelEnd.split.Goals as goal

pub returns-then-not-is_none : goal.returns-then-not-is_none
returns-then-not-is_none c = (there (end_in c.args.other.now) (sym c.is_none.ensures ∙ c.if-not-is_none.true), refl, refl)

pub returns-in-Ok : goal.returns-in-Ok
returns-in-Ok c =
    splits_off c.in-Some.end.value c.deref_mut.result.now c.split-made.new.self c.in-Ok.new (end_in c.args.self.now) (end_in c.put.new.self)
    (end_in c.args.other.now) (end_in c.put_new.new.self) c.put_new.result c.deref_mut.ensures.value c.in-Some.ensures.old c.put.ensures
    (empty (end_in c.args.other.now) (sym c.is_none.ensures ∙ c.if-not-is_none.false)) c.in-Ok.ensures c.put_new.ensures

pub returns-in-Err : goal.returns-in-Err
returns-in-Err c =
    splits_not c.in-Some.end.value c.deref_mut.result.now c.split-made.new.self (end_in c.args.self.now) (end_in c.put.new.self)
    (end_in c.args.other.now) c.in-Err.fault c.deref_mut.ensures.value c.in-Some.ensures.old c.put.ensures
    (empty (end_in c.args.other.now) (sym c.is_none.ensures ∙ c.if-not-is_none.false)) c.in-Err.ensures
