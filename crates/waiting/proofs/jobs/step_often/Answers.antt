use Rattle.waiting.proofs.jobs.step_often.Goals as goal

pub loop-init : goal.loop-init
loop-init c = record { stands = c.requires.stands; same = λ r h. h }

pub step-requires : goal.step-requires
step-requires c = c.loop.invariant.stands
