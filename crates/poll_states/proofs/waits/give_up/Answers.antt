use Rattle.std.proofs.Common.{refl}
use Rattle.call_meaning.specs.ChannelCalls.{GivesUp}
use Rattle.poll_states.proofs.EndedWaits.{gave_resolved, gave_cancelled, part_after, given_none, given_part}
use Rattle.poll_states.proofs.waits.give_up.Goals as goal

pub returns-in-Ok-clause-answer : goal.returns-in-Ok-clause-answer
returns-in-Ok-clause-answer g c = gave_resolved c.in-Ok.field-0 c.see_cancelling.ensures.items c.see_cancelling.ensures.tag
    c.in-Ok.ensures.answer

pub returns-in-Ok-cancel_wait-clause-answer : goal.returns-in-Ok-cancel_wait-clause-answer
returns-in-Ok-cancel_wait-clause-answer g c = gave_cancelled c.in-Ok-cancel_wait.field-0 c.see_cancelling.ensures.items
    c.see_cancelling.ensures.tag c.in-Ok-cancel_wait.ensures.answer

pub returns-in-Err-clause-answer : goal.returns-in-Err-clause-answer
returns-in-Err-clause-answer g c = part_after (GivesUp c.args.w) c.see_cancelling.ensures.items c.see_cancelling.ensures.tag
    (given_none c.args.w c.in-Err.ensures.answer)

pub returns-in-Err-cancel_wait-clause-answer : goal.returns-in-Err-cancel_wait-clause-answer
returns-in-Err-cancel_wait-clause-answer g c = part_after (GivesUp c.args.w) c.see_cancelling.ensures.items c.see_cancelling.ensures.tag
    (given_part c.args.w c.in-Err-cancel_wait.ensures.answer)

pub returns-in-Ok-clause-same : goal.returns-in-Ok-clause-same
returns-in-Ok-clause-same g c = record {
  channels_lent = refl;
  jobs_lent = refl;
  wakes_lent = refl;
  channels_are = c.in-Ok.ensures.same.anchor_is;
}

pub returns-in-Ok-cancel_wait-clause-same : goal.returns-in-Ok-cancel_wait-clause-same
returns-in-Ok-cancel_wait-clause-same g c = record {
  channels_lent = refl;
  jobs_lent = refl;
  wakes_lent = refl;
  channels_are = c.in-Ok-cancel_wait.ensures.same.anchor_is;
}

pub returns-in-Err-clause-same : goal.returns-in-Err-clause-same
returns-in-Err-clause-same g c = record {
  channels_lent = refl;
  jobs_lent = refl;
  wakes_lent = refl;
  channels_are = c.in-Err.ensures.same.anchor_is;
}

pub returns-in-Err-cancel_wait-clause-same : goal.returns-in-Err-cancel_wait-clause-same
returns-in-Err-cancel_wait-clause-same g c = record {
  channels_lent = refl;
  jobs_lent = refl;
  wakes_lent = refl;
  channels_are = c.in-Err-cancel_wait.ensures.same.anchor_is;
}
