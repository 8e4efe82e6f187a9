use Rattle.std.proofs.Common.{sym, ◌∙◌, arith}
use Rattle.job_replay.specs.Sizes.{shape_of}
use Rattle.job_replay.proofs.May.{may_is}
use Rattle.job_replay.proofs.After.{stands_after}
use Rattle.job_replay.proofs.TreeCalls.{needs_of}
use Rattle.job_replay.proofs.replay.JobReplay.step.Goals as goal

pub returns-then-not-may_make-clause-step : goal.returns-then-not-may_make-clause-step
returns-then-not-may_make-clause-step c = λ tree h. record {
  may = c.if-not-may_make.ensures
      ∙ may_is (shape_of c.args.self.now.size) tree c.args.self.now.rows.items c.args.self.now.gone.items c.args.who c.args.act.now h;
  left = h;
}

pub returns-clause-step : goal.returns-clause-step
returns-clause-step c = λ tree h.
    let x = c.args.self.now in
    let shape = shape_of x.size in
    let may = c.if-not-may_make.ensures ∙ may_is shape tree x.rows.items x.gone.items c.args.who c.args.act.now h in
    let few = x.few in
    record {
      may = may;
      left = stands_after shape tree c.args.who c.args.act.now x.rows.items c.make.new.rows.items x.gone.items c.make.new.gone.items
          x.shaped (omega (arith, few)) h (needs_of shape tree c.args.who c.args.act.now (sym may)) c.make.ensures;
    }
