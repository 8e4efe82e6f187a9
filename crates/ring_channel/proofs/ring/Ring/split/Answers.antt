use Rattle.std.proofs.Common.{sym, ap, subst}
use Rattle.ring_channel.specs.Seen.{IsIdle}
use Rattle.ring_channel.proofs.NobodyHolds.{split_idle}
use Rattle.ring_channel.proofs.ring.Ring.split.Goals as goal

pub invariant_of-result-clause-idle : goal.invariant_of-result-clause-idle
invariant_of-result-clause-idle g c = subst (λ v. IsIdle v.key v) (sym (ap (λ m. m.0) c.split_off-seat.ensures.new.1))
    (split_idle c.args.pass.now.seat.me.0.key c.args.pass.now.seat.me.0 c.args.tag c.split_off-seat.ensures.none)
