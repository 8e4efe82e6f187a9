use Rattle.job_model.proofs.Spans.{setting_then}
use Rattle.job_tree.proofs.CallersKept.{caller_self, caller_then}
use Rattle.job_tree.proofs.Walks.{legal_as, may_next}
use Rattle.job_tree.proofs.Climbs.{rank_less}
use Rattle.job_tree.proofs.Endings.{owed, first_rise, rise_up, rise_stops, rise_fails, same_answer}
use Rattle.job_tree.proofs.caller.JobCaller.finish_up.Goals as goal

pub loop-parent-init : goal.loop-parent-init
loop-parent-init g c = record {
  same = caller_self _ _;
  rise = first_rise c.requires.can.attached;
}

pub finish_one-requires : goal.finish_one-requires
finish_one-requires g c =
    let i = c.loop-parent.invariant in
    record { can = may_next _ _ _ _ _ _ i.same.who c.requires.can i.rise.same i.rise.attached }

pub loop-parent-smaller : goal.loop-parent-smaller
loop-parent-smaller g c =
    let i = c.loop-parent.invariant in
    let t = c.in-Ok-To.ensures in
    let o = owed (same_answer c.in-Ok-To.field-0-is t.answer) in
    let l = legal_as _ _ (setting_then _ _ _ i.rise.same o.added.same) (g.met.F.JobFloor.legal c.finish_one.new.self.floor.now) in
    rank_less _ _ _ _ _ (g.met.F.JobFloor.shaped c.args.self.now.floor.now) l o.added.longer i.rise.attached o.parent

pub loop-parent-preserved : goal.loop-parent-preserved
loop-parent-preserved g c =
    let i = c.loop-parent.invariant in
    let t = c.in-Ok-To.ensures in
    record {
      same = caller_then _ _ _ _ i.same t.same;
      rise = rise_up (g.met.F.JobFloor.legal c.finish_one.new.self.floor.now) i.rise (same_answer c.in-Ok-To.field-0-is t.answer);
    }

pub returns-in-Ok-Stops-clause-finished : goal.returns-in-Ok-Stops-clause-finished
returns-in-Ok-Stops-clause-finished g c =
    let i = c.loop-parent.invariant in
    rise_stops i.rise (same_answer c.in-Ok-Stops.field-0-is c.in-Ok-Stops.ensures.answer)

pub returns-in-Err-clause-finished : goal.returns-in-Err-clause-finished
returns-in-Err-clause-finished g c =
    let i = c.loop-parent.invariant in
    rise_fails i.rise c.in-Err.ensures.answer
