use Rattle.std.proofs.Common.{[], sym, subst}
use Rattle.job_words.specs.Attaches.{IsAttached}
use Rattle.word_rules.specs.Rows.{without_hint}
use Rattle.job_words.proofs.StepsAsCalls.{sees_goes, goes_trans}
use Rattle.job_words.proofs.ClaimedRows.{goes_self}
use Rattle.job_words.proofs.PartsOfAnAttach.{sees_done, goes_done}
use Rattle.job_words.proofs.LooksSee.{walk_begins, next_attached, walk_steps}
use Rattle.job_words.specs.Forests.{seen_by}
use Rattle.job_words.proofs.looking.is_child.Goals as goal

pub walk-init : goal.walk-init
walk-init c =
    let v0 = seen_by c.args.pass.now in
    let v1 = seen_by c.load_job-next.new.pass in
    let size = c.args.forest.now.size in
    let a = c.load_job-next.ensures.attached in
    record {
      own = c.load_job-next.ensures.own;
      goes = goes_self c.args.who v1 c.load_job-next.ensures.own.0.2 c.load_job-next.new.pass.done;
      parent = a;
      ahead = walk_begins size v1 c.args.parent c.args.row c.load_job-next.result c.args.forest.now.small
          (sees_done size c.args.who v0 v1 c.requires.own.0.1 c.load_job-next.ensures.sees) a c.load_job-next.ensures.word;
    }

pub returns-then-next-row-clause-found : goal.returns-then-next-row-clause-found
returns-then-next-row-clause-found c =
    let v0 = seen_by c.args.pass.now in
    let v1 = seen_by c.load_job-next.new.pass in
    let v = seen_by c.walk.pass in
    let size = c.args.forest.now.size in (
      goes_trans c.args.who [] [] v0 v1 v (sees_goes c.args.who v0 v1 c.load_job-next.ensures.sees) c.walk.invariant.goes,
      subst (IsAttached v) c.if-next-row.true (next_attached size c.args.who c.args.parent c.args.row c.walk.next v1 v
          c.args.forest.now.small (sees_done size c.args.who v0 v1 c.requires.own.0.1 c.load_job-next.ensures.sees) c.walk.invariant.goes
          c.walk-test.true c.walk.invariant.ahead),
    )

pub load_link-next-requires-clause-attached : goal.load_link-next-requires-clause-attached
load_link-next-requires-clause-attached c =
    let v0 = seen_by c.args.pass.now in
    let v1 = seen_by c.load_job-next.new.pass in
    let size = c.args.forest.now.size in
    next_attached size c.args.who c.args.parent c.args.row c.walk.next v1 (seen_by c.walk.pass) c.args.forest.now.small
    (sees_done size c.args.who v0 v1 c.requires.own.0.1 c.load_job-next.ensures.sees) c.walk.invariant.goes c.walk-test.true
    c.walk.invariant.ahead

pub walk-smaller : goal.walk-smaller
walk-smaller c =
    let v0 = seen_by c.args.pass.now in
    let v1 = seen_by c.load_job-next.new.pass in
    let v = seen_by c.walk.pass in
    let w = seen_by c.load_link-next.new.pass in
    let size = c.args.forest.now.size in
    (walk_steps size c.args.who c.args.parent c.args.row c.walk.next v1 v w (without_hint c.load_link-next.result) c.args.forest.now.small
    (sees_done size c.args.who v0 v1 c.requires.own.0.1 c.load_job-next.ensures.sees)
    (goes_done size c.args.who [] v1 v c.load_job-next.ensures.own.0.1 c.walk.invariant.goes)
    (sees_done size c.args.who v w c.walk.invariant.own.0.1 c.load_link-next.ensures.sees)
    c.walk.invariant.goes (sees_goes c.args.who v w c.load_link-next.ensures.sees) c.walk-test.true (λ e. c.if-next-row.false (sym e))
    c.walk.invariant.ahead c.load_link-next.ensures.link).1

pub walk-preserved : goal.walk-preserved
walk-preserved c =
    let v0 = seen_by c.args.pass.now in
    let v1 = seen_by c.load_job-next.new.pass in
    let v = seen_by c.walk.pass in
    let w = seen_by c.load_link-next.new.pass in
    let size = c.args.forest.now.size in
    let k = walk_steps size c.args.who c.args.parent c.args.row c.walk.next v1 v w (without_hint c.load_link-next.result)
    c.args.forest.now.small
    (sees_done size c.args.who v0 v1 c.requires.own.0.1 c.load_job-next.ensures.sees)
    (goes_done size c.args.who [] v1 v c.load_job-next.ensures.own.0.1 c.walk.invariant.goes)
    (sees_done size c.args.who v w c.walk.invariant.own.0.1 c.load_link-next.ensures.sees)
    c.walk.invariant.goes (sees_goes c.args.who v w c.load_link-next.ensures.sees) c.walk-test.true (λ e. c.if-next-row.false (sym e))
    c.walk.invariant.ahead c.load_link-next.ensures.link in
    record {
      own = c.load_link-next.ensures.own;
      goes = goes_trans c.args.who [] [] v1 v w c.walk.invariant.goes (sees_goes c.args.who v w c.load_link-next.ensures.sees);
      parent = c.walk.invariant.parent;
      ahead = k.0;
    }

pub returns-clause-found : goal.returns-clause-found
returns-clause-found c =
    let v0 = seen_by c.args.pass.now in
    let v1 = seen_by c.load_job-next.new.pass in
    (v1, sees_goes c.args.who v0 v1 c.load_job-next.ensures.sees, c.walk.invariant.goes, c.walk.invariant.ahead.0 c.walk-test.false)
