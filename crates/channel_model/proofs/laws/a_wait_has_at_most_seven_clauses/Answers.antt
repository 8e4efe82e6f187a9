use Rattle.channel_model.proofs.Clauses.{replay_clauses_fit}
use Rattle.channel_model.proofs.laws.a_wait_has_at_most_seven_clauses.Goals as goal

pub returns : goal.returns
returns c = replay_clauses_fit
