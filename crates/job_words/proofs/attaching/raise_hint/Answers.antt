use Rattle.job_words.proofs.MayExchange.{lifts_attached}
use Rattle.job_words.specs.Forests.{seen_by}
use Rattle.job_words.proofs.attaching.raise_hint.Goals as goal

pub lift_word-requires-clause-may : goal.lift_word-requires-clause-may
lift_word-requires-clause-may c = lifts_attached c.args.forest.now.size (seen_by c.args.pass.now) c.args.row c.args.link c.requires.row.1
    c.requires.attached c.requires.link
