use Rattle.job_words.proofs.TreesReplay.{may_seen}
use Rattle.job_words.specs.Forests.{seen_by}
use Rattle.job_words.proofs.ranger.RangerJobFloor.end_body.Goals as goal

pub end_body-requires-clause-may : goal.end_body-requires-clause-may
end_body-requires-clause-may c = may_seen (seen_by c.args.self.now.pass.now).seen c.args.who c.args.row c.requires.own
