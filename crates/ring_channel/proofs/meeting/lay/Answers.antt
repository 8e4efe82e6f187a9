use Rattle.std.proofs.Common.{get_or, length, sym, ap, subst, ◌∙◌}
use Rattle.ring_channel.specs.Seen.{IsIdle}
use Rattle.ring_channel.proofs.NobodyHolds.{first_idle}
use Rattle.ring_channel.proofs.NewRings.{opens}
use Rattle.ring_channel.proofs.meeting.lay.Goals as goal

pub vacant-requires : goal.vacant-requires
vacant-requires g c = opens c.args.slots c.as_slice.result.now (ap length c.as_slice.ensures.value ∙ c.in_ok-words.ensures.count)
    (λ i lt. ap (λ l. get_or l i 0) c.as_slice.ensures.value ∙ c.in_ok-words.ensures.words i lt)

pub invariant_of-result-in-Ok-clause-idle : goal.invariant_of-result-in-Ok-clause-idle
invariant_of-result-in-Ok-clause-idle g c = subst (λ v. IsIdle v.key v) (sym (ap (λ m. m.0) c.in-Ok.ensures.4)) (first_idle _ c.args.slots)
