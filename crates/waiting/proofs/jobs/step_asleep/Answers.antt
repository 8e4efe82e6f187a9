use Rattle.waiting.proofs.jobs.step_asleep.Goals as goal

pub loop-init : goal.loop-init
loop-init g c = record { stands = c.requires.stands; same = λ r h. h }

pub step-requires : goal.step-requires
step-requires g c = c.loop.invariant.stands
