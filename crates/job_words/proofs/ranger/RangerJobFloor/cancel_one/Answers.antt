use Rattle.std.proofs.Common.{subst}
use Rattle.job_model.specs.Needs.{Holds}
use Rattle.word_rules.specs.declared.size.ForestSize.{ForestSize}
use Rattle.word_rules.specs.Deeds.{shape_of, store_of}
use Rattle.job_words.proofs.TreesReplay.{attached_seen, holds_seen}
use Rattle.job_words.specs.Forests.{seen_by}
use Rattle.job_words.proofs.ranger.RangerJobFloor.cancel_one.Goals as goal

pub cancel_one-requires-clause-attached : goal.cancel_one-requires-clause-attached
cancel_one-requires-clause-attached c = attached_seen (seen_by c.args.self.now.pass.now).seen c.args.row c.requires.can.attached

pub cancel_one-requires-clause-reason : goal.cancel_one-requires-clause-reason
cancel_one-requires-clause-reason c =
    let r = c.args.self.now in
    let v = seen_by r.pass.now in
    subst (λ (k : ForestSize). Holds (shape_of k) (store_of v.seen).tree c.args.who c.args.row c.args.reason) r.of.1
    (holds_seen (shape_of v.key) v.seen c.args.who c.args.row c.args.reason c.requires.reason)
