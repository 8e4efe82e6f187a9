use Rattle.script_laws.proofs.GivenUpWaits.{gives_up_after_saw}
use Rattle.script_laws.proofs.laws.a_wait_is_given_up_behind_a_cancellation.Goals as goal

pub returns : goal.returns
returns c = gives_up_after_saw
