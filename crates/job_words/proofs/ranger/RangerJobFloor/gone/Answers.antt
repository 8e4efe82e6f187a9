use Rattle.job_words.proofs.TreesReplay.{tell_seen}
use Rattle.job_words.specs.Forests.{seen_by}
use Rattle.job_words.proofs.ranger.RangerJobFloor.gone.Goals as goal

pub gone-requires-clause-untold : goal.gone-requires-clause-untold
gone-requires-clause-untold c = tell_seen (seen_by c.args.self.now.pass.now).seen c.args.who c.args.row c.requires.untold
