use Rattle.job_words.proofs.TreesReplay.{attached_seen}
use Rattle.job_words.specs.Forests.{seen_by}
use Rattle.job_words.proofs.ranger.RangerJobFloor.attach.Goals as goal

pub attach-requires-clause-parent : goal.attach-requires-clause-parent
attach-requires-clause-parent c = attached_seen (seen_by c.args.self.now.pass.now).seen c.args.parent c.requires.can.attached
