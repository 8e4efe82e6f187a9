use Rattle.std.proofs.Common.{◌≡◌, ap, ◌∙◌, arith, rules}
use Rattle.job_model.specs.Trees.{Shape}
use Rattle.job_model.specs.Floors.{SameSetting}
use Rattle.job_model.proofs.Spans.{setting_then}
use Rattle.job_tree.proofs.Rooms.{room_for_rows}
use Rattle.floor_tests.proofs.SettingsKept.{same_as, may_roomed}
use Rattle.floor_tests.proofs.forest_shares.calls.pass_over.Goals as goal

pub returns-in_err-room-2-clause-anchor : goal.returns-in_err-room-2-clause-anchor
returns-in_err-room-2-clause-anchor g c = c.room-2.ensures.anchor

pub returns-in_err-room-2-clause-same : goal.returns-in_err-room-2-clause-same
returns-in_err-room-2-clause-same g c = same_as _ _ c.in_err-room-2.ensures.err

pub cancel_pass-requires-clause-can : goal.cancel_pass-requires-clause-can
cancel_pass-requires-clause-can g c = may_roomed _ _ _ _ _ c.in_ok-room-2.ensures.ok c.requires.ready.can

pub cancel_pass-requires-clause-reason : goal.cancel_pass-requires-clause-reason
cancel_pass-requires-clause-reason g c = tt

pub cancel_pass-requires-clause-room : goal.cancel_pass-requires-clause-room
cancel_pass-requires-clause-room g c =
    let made = c.in_ok-room-2.ensures.ok in
    let rows = ap (λ (s : Shape). s.rows) made.same.shape in
    room_for_rows _ _ (omega (arith, rows, made.room, c.rows.ensures, c.from-rows.ensures))
    (omega (arith, rows, c.in_ok-room.ensures.ok, c.rows.ensures, c.from-rows.ensures))

pub returns-clause-anchor : goal.returns-clause-anchor
returns-clause-anchor g c =
    let anchor = g.J.JobFloor.anchor in
    let e : anchor c.cancel_pass.new.self.floor.now ≡ anchor c.args.jobs.now = c.cancel_pass.ensures.same.of_floor
    ∙ c.room-2.ensures.anchor in
    search rules

pub returns-clause-same : goal.returns-clause-same
returns-clause-same g c =
    let view = g.J.JobFloor.view in
    let s : SameSetting (view c.args.jobs.now) (view c.cancel_pass.new.self.floor.now) =
    setting_then _ _ _ c.in_ok-room-2.ensures.ok.same c.cancel_pass.ensures.pass.pass.noted.added.same in
    search rules
