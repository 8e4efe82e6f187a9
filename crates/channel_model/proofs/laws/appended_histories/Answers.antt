use Rattle.channel_model.specs.Channels.{start}
use Rattle.channel_model.proofs.Histories.{replay_from-append, LegalFrom-append, LegalFrom-parts}
use Rattle.channel_model.proofs.laws.appended_histories.Goals as goal

pub returns-clause-replayed : goal.returns-clause-replayed
returns-clause-replayed c = replay_from-append start

pub returns-clause-legal : goal.returns-clause-legal
returns-clause-legal c = λ shape xs ys. (LegalFrom-parts shape start xs ys, λ h. LegalFrom-append shape start xs ys h.0 h.1)
