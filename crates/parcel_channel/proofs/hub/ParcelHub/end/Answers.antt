use Rattle.std.proofs.Common.{ap, sym, ◌∙◌}
use Rattle.parcel_channel.proofs.NobodyHolds.{end_idle}
use Rattle.parcel_channel.proofs.SeatsEnd.{end_answer}
use Rattle.parcel_channel.proofs.hub.ParcelHub.end.Goals as goal

pub invariant_of-main-clause-idle : goal.invariant_of-main-clause-idle
invariant_of-main-clause-idle g c =
    let joined = c.join_to.ensures.joined in
    end_idle c.args.self.now.table.shared.key joined.0 c.args.main.now.seat.me.0 c.args.pass.seat.me.0 c.join_to.new.main.me.0
    c.args.main.now.idle c.args.pass.idle joined.1

pub returns-clause-values : goal.returns-clause-values
returns-clause-values g c =
    let joined = c.join_to.ensures.joined in
    end_answer c.args.self.now.table.shared.key joined.0 c.args.main.now.seat.me.0 c.args.pass.seat.me.0 c.join_to.new.main.me.0 joined.1

pub returns-clause-first : goal.returns-clause-first
returns-clause-first g c h =
    let joined = c.join_to.ensures.joined in
    let values = (end_answer c.args.self.now.table.shared.key joined.0 c.args.main.now.seat.me.0 c.args.pass.seat.me.0
    c.join_to.new.main.me.0 joined.1).giving in
    let numbers = c.end.ensures.ended.giving in
    (ap (λ x. x.0) values ∙ h.0, (ap (λ x. x.0) numbers ∙ h.1.0, ap (λ x. x.1) numbers ∙ h.1.1 ∙ sym (ap (λ x. x.1) values)))
