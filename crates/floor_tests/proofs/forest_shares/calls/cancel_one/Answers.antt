use Rattle.std.proofs.Common.{[], sym, ◌∙◌}
use Rattle.job_model.proofs.Spans.{added_looked, added_then, setting_then}
use Rattle.job_tree.proofs.Looks.{may_later}
use Rattle.job_tree.proofs.Endings.{caller_still}
use Rattle.floor_tests.proofs.LooksBeforeCalls.{parent_cancelled}
use Rattle.floor_tests.proofs.SettingsKept.{looks_same, looks_room, cancel_same}
use Rattle.floor_tests.proofs.forest_shares.calls.cancel_one.Goals as goal

pub link-parent-requires-clause-can : goal.link-parent-requires-clause-can
link-parent-requires-clause-can g c = c.requires.ready.can

pub link-parent-requires-clause-child : goal.link-parent-requires-clause-child
link-parent-requires-clause-child g c = c.if-row-eq0.false

pub returns-then-parent-rows-clause-anchor : goal.returns-then-parent-rows-clause-anchor
returns-then-parent-rows-clause-anchor g c = c.link-parent.ensures.anchor

pub returns-then-parent-rows-clause-same : goal.returns-then-parent-rows-clause-same
returns-then-parent-rows-clause-same g c = c.link-parent.ensures.answer.0.same

pub look-requires-clause-caller : goal.look-requires-clause-caller
look-requires-clause-caller g c = caller_still _ _ _ c.link-parent.ensures.answer.0.same c.requires.ready.can.caller

pub returns-in_default-clause-anchor : goal.returns-in_default-clause-anchor
returns-in_default-clause-anchor g c = c.look.ensures.anchor ∙ c.link-parent.ensures.anchor

pub returns-in_default-clause-same : goal.returns-in_default-clause-same
returns-in_default-clause-same g c = looks_same _ _ _ _ c.link-parent.ensures.answer.0 c.look.ensures.answer.0

pub returns-then-not-is_cancelled-clause-anchor : goal.returns-then-not-is_cancelled-clause-anchor
returns-then-not-is_cancelled-clause-anchor g c = c.look.ensures.anchor ∙ c.link-parent.ensures.anchor

pub returns-then-not-is_cancelled-clause-same : goal.returns-then-not-is_cancelled-clause-same
returns-then-not-is_cancelled-clause-same g c = looks_same _ _ _ _ c.link-parent.ensures.answer.0 c.look.ensures.answer.0

pub cancel_one-requires-clause-can : goal.cancel_one-requires-clause-can
cancel_one-requires-clause-can g c =
    let k = added_then c.args.who [] [] [] [] _ _ _ (added_looked _ _ _ _ c.link-parent.ensures.answer.0)
    (added_looked _ _ _ _ c.in-Some.ensures.answer.0)
    in
    may_later _ _ _ _ k.same k.longer (g.met.J.JobFloor.legal c.look.new.self) c.requires.ready.can

pub cancel_one-requires-clause-room : goal.cancel_one-requires-clause-room
cancel_one-requires-clause-room g c = looks_room _ _ _ _ c.link-parent.ensures.answer.0 c.look.ensures.answer.0 c.requires.ready.room

pub cancel_one-requires-clause-reason : goal.cancel_one-requires-clause-reason
cancel_one-requires-clause-reason g c =
    parent_cancelled _ _ _ _ _ _ _ (g.met.J.JobFloor.legal c.look.new.self) c.link-parent.ensures.answer c.in-Some.ensures.answer
    (sym c.if-not-is_cancelled.ensures)

pub returns-clause-anchor : goal.returns-clause-anchor
returns-clause-anchor g c = c.cancel_one.ensures.anchor ∙ c.look.ensures.anchor ∙ c.link-parent.ensures.anchor

pub returns-clause-same : goal.returns-clause-same
returns-clause-same g c =
    setting_then _ _ _ (looks_same _ _ _ _ c.link-parent.ensures.answer.0 c.look.ensures.answer.0)
    (cancel_same _ _ _ _ _ c.cancel_one.result c.cancel_one.ensures.answer)
