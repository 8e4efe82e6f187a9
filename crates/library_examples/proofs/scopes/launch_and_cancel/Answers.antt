use Rattle.std.proofs.Common.{ap, ◌∙◌}
use Rattle.library_examples.proofs.AfterLaunches.{launched_attached, builds_again}
use Rattle.library_examples.proofs.scopes.launch_and_cancel.Goals as goal

pub cancel-requires-clause-row : goal.cancel-requires-clause-row
cancel-requires-clause-row g c = launched_attached _ _ _ _ _ _ _ _ _ _ c.requires.alone c.in-Ok.ensures.answer

pub returns-in-Ok-cancel-clause-shape : goal.returns-in-Ok-cancel-clause-shape
returns-in-Ok-cancel-clause-shape g c = c.in-Ok-cancel.ensures.answer.noted.added.same.shape ∙ c.in-Ok.ensures.answer.1.added.same.shape

pub returns-in-Ok-cancel-clause-may : goal.returns-in-Ok-cancel-clause-may
returns-in-Ok-cancel-clause-may g c =
    let launched = c.in-Ok.ensures.answer.1.added.same in
    let cancelled = c.in-Ok-cancel.ensures.answer.noted.added.same in
    let who = c.cancel.ensures.same.who ∙ c.launch.ensures.same.who in
    let channels = c.cancel.ensures.channels ∙ c.launch.ensures.channels in
    let callers = cancelled.callers ∙ launched.callers in
    builds_again (c.cancel.ensures.same.base ∙ c.launch.ensures.same.base) (ap (λ f. (g.C.ChannelFloor.view f).shape) channels)
    (cancelled.shape ∙ launched.shape) (rw who (rw channels c.requires.may.of_channels)) (rw who (rw callers c.requires.may.of_jobs))
    c.requires.may
