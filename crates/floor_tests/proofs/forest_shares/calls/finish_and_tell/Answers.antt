use Rattle.std.proofs.Common.{◌∙◌, arith}
use Rattle.job_tree.proofs.Looks.{may_later}
use Rattle.job_tree.proofs.Endings.{may_tell}
use Rattle.job_model.proofs.Spans.{added_made, setting_then}
use Rattle.floor_tests.proofs.SettingsKept.{finish_same}
use Rattle.floor_tests.proofs.forest_shares.calls.finish_and_tell.Goals as goal

pub finish-requires-clause-can : goal.finish-requires-clause-can
finish-requires-clause-can g c = c.requires.ready.can

pub gone-requires-clause-can : goal.gone-requires-clause-can
gone-requires-clause-can g c =
    let k = added_made _ _ _ _ _ c.in-Now.ensures.answer in
    may_later _ _ _ _ k.same k.longer (g.met.J.JobFloor.legal c.finish.new.self) c.requires.ready.can

pub gone-requires-clause-room : goal.gone-requires-clause-room
gone-requires-clause-room g c = omega (arith, c.in-Now.ensures.answer.spare, c.requires.ready.room)

pub gone-requires-clause-untold : goal.gone-requires-clause-untold
gone-requires-clause-untold g c =
    may_tell _ _ _ _ _ (g.met.J.JobFloor.legal c.finish.new.self) c.in-Now.ensures.answer c.if-row-eq0.false

pub returns-in-Now-clause-anchor : goal.returns-in-Now-clause-anchor
returns-in-Now-clause-anchor g c = c.gone.ensures.anchor ∙ c.finish.ensures.anchor

pub returns-in-Now-clause-same : goal.returns-in-Now-clause-same
returns-in-Now-clause-same g c = setting_then _ _ _ c.in-Now.ensures.answer.same c.gone.ensures.answer.made.same

pub returns-in_default : goal.returns-in_default
returns-in_default g c = record {
  anchor = c.finish.ensures.anchor;
  same = finish_same _ _ _ _ c.finish.result c.finish.ensures.answer;
}
