use Rattle.std.proofs.Common.{[], ◌<◌, sym, ◌∙◌, subst}
use Rattle.job_model.specs.Trees.{Shape}
use Rattle.job_model.proofs.Spans.{added_looked, added_then, setting_then}
use Rattle.job_tree.proofs.Looks.{in_rows, may_later}
use Rattle.job_tree.proofs.Endings.{caller_still}
use Rattle.floor_tests.proofs.LooksBeforeCalls.{may_end_body}
use Rattle.floor_tests.proofs.SettingsKept.{looks_same, looks_room}
use Rattle.floor_tests.proofs.forest_shares.calls.end_body.Goals as goal

pub link-requires-clause-can : goal.link-requires-clause-can
link-requires-clause-can g c = c.requires.ready.can

pub link-requires-clause-child : goal.link-requires-clause-child
link-requires-clause-child g c = c.if-row-eq0.false

pub returns-then-link-who-clause-anchor : goal.returns-then-link-who-clause-anchor
returns-then-link-who-clause-anchor g c = c.link.ensures.anchor

pub returns-then-link-who-clause-same : goal.returns-then-link-who-clause-same
returns-then-link-who-clause-same g c = c.link.ensures.answer.0.same

pub look-requires-clause-caller : goal.look-requires-clause-caller
look-requires-clause-caller g c = caller_still _ _ _ c.link.ensures.answer.0.same c.requires.ready.can.caller

pub look-requires-clause-row : goal.look-requires-clause-row
look-requires-clause-row g c =
    let a = c.args.jobs.now in
    subst (λ (s : Shape). c.args.row < s.rows) (sym c.link.ensures.answer.0.same.shape)
    (in_rows c.args.who c.args.row (g.J.JobFloor.view a) (g.met.J.JobFloor.shaped a) (g.met.J.JobFloor.legal a) c.requires.ready.can)

pub returns-in_default-clause-anchor : goal.returns-in_default-clause-anchor
returns-in_default-clause-anchor g c = c.look.ensures.anchor ∙ c.link.ensures.anchor

pub returns-in_default-clause-same : goal.returns-in_default-clause-same
returns-in_default-clause-same g c = looks_same _ _ _ _ c.link.ensures.answer.0 c.look.ensures.answer.0

pub returns-then-is_new-clause-anchor : goal.returns-then-is_new-clause-anchor
returns-then-is_new-clause-anchor g c = c.look.ensures.anchor ∙ c.link.ensures.anchor

pub returns-then-is_new-clause-same : goal.returns-then-is_new-clause-same
returns-then-is_new-clause-same g c = looks_same _ _ _ _ c.link.ensures.answer.0 c.look.ensures.answer.0

pub end_body-requires-clause-can : goal.end_body-requires-clause-can
end_body-requires-clause-can g c =
    let k = added_then c.args.who [] [] [] [] _ _ _ (added_looked _ _ _ _ c.link.ensures.answer.0)
    (added_looked _ _ _ _ c.in-Some.ensures.answer.0)
    in
    may_later _ _ _ _ k.same k.longer (g.met.J.JobFloor.legal c.look.new.self) c.requires.ready.can

pub end_body-requires-clause-room : goal.end_body-requires-clause-room
end_body-requires-clause-room g c = looks_room _ _ _ _ c.link.ensures.answer.0 c.look.ensures.answer.0 c.requires.ready.room

pub end_body-requires-clause-own : goal.end_body-requires-clause-own
end_body-requires-clause-own g c =
    may_end_body _ _ _ _ _ _ _ (g.met.J.JobFloor.legal c.look.new.self) c.link.ensures.answer c.if-link-who.false c.in-Some.ensures.answer
    (sym c.if-is_new.ensures) c.if-job.false

pub returns-clause-anchor : goal.returns-clause-anchor
returns-clause-anchor g c = c.end_body.ensures.anchor ∙ c.look.ensures.anchor ∙ c.link.ensures.anchor

pub returns-clause-same : goal.returns-clause-same
returns-clause-same g c =
    setting_then _ _ _ (looks_same _ _ _ _ c.link.ensures.answer.0 c.look.ensures.answer.0) c.end_body.ensures.answer.made.same
