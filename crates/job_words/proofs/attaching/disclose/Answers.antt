use Rattle.std.proofs.Common.{[]}
use Rattle.job_words.proofs.StepsAsCalls.{goes_trans}
use Rattle.job_words.proofs.ClaimedRows.{goes_self, acted_after}
use Rattle.job_words.proofs.LostExchangesGrow.{nearer}
use Rattle.job_words.specs.Forests.{seen_by}
use Rattle.job_words.proofs.attaching.disclose.Goals as goal

pub tries-init : goal.tries-init
tries-init c = record {
  own = c.requires.own;
  goes = goes_self c.args.who (seen_by c.args.pass.now) c.requires.own.0.2 c.args.pass.now.done;
  parent = c.requires.parent;
  mine = c.requires.mine;
}

pub returns-in-Attached-clause-answer : goal.returns-in-Attached-clause-answer
returns-in-Attached-clause-answer c =
    let t = c.in-Attached.ensures.tried in (
      t.0,
      acted_after c.args.who c.args.parent t.0 _ (seen_by c.args.pass.now) (seen_by c.tries.pass) (seen_by c.attach_once.new.pass)
          c.tries.invariant.goes t.1,
    )

pub returns-in-Ended-clause-answer : goal.returns-in-Ended-clause-answer
returns-in-Ended-clause-answer c =
    let t = c.in-Ended.ensures.tried in (
      goes_trans c.args.who [] [] (seen_by c.args.pass.now) (seen_by c.tries.pass) (seen_by c.attach_once.new.pass) c.tries.invariant.goes
          t.0,
      t.1,
    )

pub tries-smaller : goal.tries-smaller
tries-smaller c = nearer c.args.forest.now.size (seen_by c.tries.pass) (seen_by c.attach_once.new.pass) c.args.forest.now.small
    c.attach_once.ensures.own.0.1 c.attach_once.new.pass.done c.in-Lost.ensures.tried.0.grew

pub tries-preserved : goal.tries-preserved
tries-preserved c = record {
  own = c.attach_once.ensures.own;
  goes = goes_trans c.args.who [] [] (seen_by c.args.pass.now) (seen_by c.tries.pass) (seen_by c.attach_once.new.pass)
      c.tries.invariant.goes c.in-Lost.ensures.tried.0.goes;
  parent = c.attach_once.ensures.parent;
  mine = c.in-Lost.ensures.tried.1;
}
