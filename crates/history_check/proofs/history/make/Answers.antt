use Rattle.one_thread_floor.specs.ListFloors.{floor_of}
use Rattle.std.proofs.Common.{refl}
use Rattle.history_check.proofs.OverBits.{overs_kept}
use Rattle.history_check.proofs.Walks.{none_has}
use Rattle.history_check.proofs.history.make.Goals as goal

pub returns-then-not-step-clause-made : goal.returns-then-not-step-clause-made
returns-then-not-step-clause-made c =
    none_has c.args.who c.args.act.now (floor_of c.args.floor.now) (floor_of c.room.new.self) c.in_ok-room.ensures.ok
    c.if-not-step.ensures.answer

pub returns-then-so-clause-overs : goal.returns-then-so-clause-overs
returns-then-so-clause-overs c =
    overs_kept c.args.kinds.now c.args.who c.args.act.now c.is_over-over.result (floor_of c.args.floor.now) (floor_of c.room.new.self)
    (floor_of c.step.new.self) c.args.overs.now.items c.keep.new.overs.items c.requires.shape c.in_ok-room.ensures.ok refl
    c.if-not-step.ensures.made c.step.new.self.legal c.requires.overs c.is_over-over.ensures c.in_ok-keep.ensures
