use Rattle.std.proofs.Common.{sym, ap, ◌∙◌, Some}
use Rattle.task_berths.specs.declared.rule.SeatView.{SeatView}
use Rattle.task_crew.specs.AtHand.{tag_at}
use Rattle.task_crew.proofs.TasksAtHand.{held_left, held_tag}
use Rattle.task_crew.proofs.worker.leave.Goals as goal

pub leave-requires-clause-tag : goal.leave-requires-clause-tag
leave-requires-clause-tag g c =
    held_tag _ _ _ _ _ (ap (λ o. tag_at g.T.Tagged.tag_of o) c.in-Some.is ∙ ap Some (sym c.tag-tag.ensures)) c.requires.held

pub returns-then-leave-clause-held : goal.returns-then-leave-clause-held
returns-then-leave-clause-held g c =
    held_left _ _ _ _ _ _ (ap (λ o. tag_at g.T.Tagged.tag_of o) c.in-Some.is
    ∙ ap Some (sym c.tag-tag.ensures)) c.requires.held (ap (λ (v : SeatView). v.held) c.leave.ensures.left.now)

pub returns-else-leave-clause-held : goal.returns-else-leave-clause-held
returns-else-leave-clause-held g c =
    held_left _ _ _ _ _ _ (ap (λ o. tag_at g.T.Tagged.tag_of o) c.in-Some.is
    ∙ ap Some (sym c.tag-tag.ensures)) c.requires.held (ap (λ (v : SeatView). v.held) c.leave.ensures.left.now)
