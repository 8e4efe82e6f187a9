use Rattle.script_meaning.proofs.OneWait.{just_the_wait, wait_in_floor}
use Rattle.script_meaning.proofs.laws.an_open_wait_is_the_one_unsettled.Goals as goal

pub returns-clause-one : goal.returns-clause-one
returns-clause-one c = just_the_wait

pub returns-clause-on_floor : goal.returns-clause-on_floor
returns-clause-on_floor c = wait_in_floor
