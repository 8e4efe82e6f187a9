use Rattle.job_words.proofs.TreesReplay.{attached_seen}
use Rattle.job_words.specs.Forests.{seen_by}
use Rattle.job_words.proofs.ranger.RangerJobFloor.link.Goals as goal

pub link-requires-clause-attached : goal.link-requires-clause-attached
link-requires-clause-attached c = attached_seen (seen_by c.args.self.now.pass.now).seen c.args.row c.requires.can.attached
