use Rattle.std.proofs.Common.{◌-◌, arith, drop, length, length-drop, subst, sym}
use Rattle.std.proofs.lemmas.List.{take_all}
use Rattle.one_thread_floor.specs.ListFloors.{floor_of}
use Rattle.history_text.specs.Numbers.{shape_of}
use Rattle.history_check.specs.Verdicts.{IsVerdict}
use Rattle.history_check.proofs.OverBits.{fresh_overs}
use Rattle.history_check.proofs.Walks.{begun, goes_on, stops_for_act, stops_for_note}
use Rattle.history_check.proofs.history.check_history.Goals as goal

pub loop-rest-init : goal.loop-rest-init
loop-rest-init c = record {
  walked = begun c.args.kinds.now (shape_of c.args.numbers) c.args.lines.now (floor_of c.in_ok-floor.floor) c.in_ok-tree.tree
      c.in_ok-floor.ensures.shape c.in_ok-floor.ensures.seen c.in_ok-tree.ensures.size c.in_ok-tree.ensures.tree;
  overs = fresh_overs c.args.kinds.now (floor_of c.in_ok-floor.floor) c.in_ok-overs.overs.items c.in_ok-floor.ensures.shape
      c.in_ok-floor.ensures.seen c.requires.kinds c.in_ok-overs.ensures;
}

pub returns-in-MayNotCome : goal.returns-in-MayNotCome
returns-in-MayNotCome c =
    subst (IsVerdict c.args.kinds.now (shape_of c.args.numbers) c.args.lines.now) (sym c.stopped.ensures)
    (stops_for_act c.args.kinds.now (shape_of c.args.numbers) c.args.lines.now c.loop-rest.number c.loop-rest.rest.now _
    (floor_of c.loop-rest.floor) (floor_of c.write.new.floor) c.loop-rest.tree c.write.new.tree
    c.loop-rest.invariant.walked c.in-len1-up.len_at_least c.loop-rest.floor.legal (rw c.in-MayNotCome.is at c.in_ok-write.ensures.step))

pub returns-in-NotSo : goal.returns-in-NotSo
returns-in-NotSo c =
    subst (IsVerdict c.args.kinds.now (shape_of c.args.numbers) c.args.lines.now) (sym c.stopped-in-NotSo.ensures)
    (stops_for_note c.args.kinds.now (shape_of c.args.numbers) c.args.lines.now c.loop-rest.number c.loop-rest.rest.now _
    (floor_of c.loop-rest.floor) (floor_of c.write.new.floor) c.loop-rest.tree c.write.new.tree
    c.loop-rest.invariant.walked c.in-len1-up.len_at_least c.loop-rest.floor.legal (rw c.in-NotSo.is at c.in_ok-write.ensures.step))

pub loop-rest-preserved : goal.loop-rest-preserved
loop-rest-preserved c =
    let rest = c.loop-rest.rest.now in
    record {
      walked = goes_on c.args.kinds.now (shape_of c.args.numbers) c.args.lines.now c.loop-rest.number rest _ _
          (floor_of c.loop-rest.floor) (floor_of c.write.new.floor) c.loop-rest.tree c.write.new.tree c.loop-rest.invariant.walked
          c.in-len1-up.len_at_least
          (take_all (length rest - 1) (drop 1 rest) (omega (arith, length-drop 1 rest)))
          (rw c.in-Good.is at c.in_ok-write.ensures.step);
      overs = rw c.in-Good.is at c.in_ok-write.ensures.overs;
    }
