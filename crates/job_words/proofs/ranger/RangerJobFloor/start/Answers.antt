use Rattle.job_words.proofs.TreesReplay.{attached_seen}
use Rattle.job_words.specs.Forests.{seen_by}
use Rattle.job_words.proofs.ranger.RangerJobFloor.start.Goals as goal

pub start-requires-clause-attached : goal.start-requires-clause-attached
start-requires-clause-attached c = attached_seen (seen_by c.args.self.now.pass.now).seen c.args.row c.requires.can.attached
