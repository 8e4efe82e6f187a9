use Rattle.std.proofs.Common.{refl, ◌∙◌, sym, subst}
use Rattle.job_model.specs.Floors.{SameSetting}
use Rattle.job_model.proofs.Spans.{setting_then}
use Rattle.floor_tests.proofs.SettingsKept.{ready_there}
use Rattle.floor_tests.proofs.forest_shares.calls.is_ready.Goals as goal

pub returns-then-not-is_attached-clause-same : goal.returns-then-not-is_attached-clause-same
returns-then-not-is_attached-clause-same g c = c.is_attached.ensures.same

pub returns-in-Ok-clause-anchor : goal.returns-in-Ok-clause-anchor
returns-in-Ok-clause-anchor g c = c.room.ensures.anchor ∙ c.is_attached.ensures.anchor

pub returns-in-Ok-clause-same : goal.returns-in-Ok-clause-same
returns-in-Ok-clause-same g c = setting_then _ _ _ c.is_attached.ensures.same c.in-Ok.ensures.ok.same

pub returns-in-Ok-clause-ready : goal.returns-in-Ok-clause-ready
returns-in-Ok-clause-ready g c e =
    ready_there _ _ _ _ _ c.is_attached.ensures.same c.requires.caller (c.if-not-is_attached.ensures.attached refl) c.in-Ok.ensures.ok

pub returns-in-Err-clause-anchor : goal.returns-in-Err-clause-anchor
returns-in-Err-clause-anchor g c = c.room.ensures.anchor ∙ c.is_attached.ensures.anchor

pub returns-in-Err-clause-same : goal.returns-in-Err-clause-same
returns-in-Err-clause-same g c =
    subst (SameSetting (g.J.JobFloor.view c.args.jobs.now)) (sym c.in-Err.ensures.err) c.is_attached.ensures.same
