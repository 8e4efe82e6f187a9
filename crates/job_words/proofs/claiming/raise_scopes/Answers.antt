use Rattle.job_words.proofs.MayExchange.{lifts_scopes}
use Rattle.job_words.specs.Forests.{seen_by}
use Rattle.job_words.proofs.claiming.raise_scopes.Goals as goal

pub lift_word-requires-clause-may : goal.lift_word-requires-clause-may
lift_word-requires-clause-may c = lifts_scopes c.args.forest.now.size (seen_by c.args.pass.now) c.args.row c.requires.claimed
