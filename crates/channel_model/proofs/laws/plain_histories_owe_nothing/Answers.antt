use Rattle.channel_model.proofs.Plain.{replay_plain, plain_owes_nothing}
use Rattle.channel_model.specs.Histories.{replay}
use Rattle.channel_model.proofs.laws.plain_histories_owe_nothing.Goals as goal

pub returns-clause-plain : goal.returns-clause-plain
returns-clause-plain c = replay_plain

pub returns-clause-owing : goal.returns-clause-owing
returns-clause-owing c = λ shape history plain kinds. plain_owes_nothing shape (replay history) (replay_plain history plain) kinds
