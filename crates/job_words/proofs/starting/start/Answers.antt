use Rattle.std.proofs.Common.{[], of_calls}
use Rattle.job_words.proofs.LostExchangesGrow.{attached_goes}
use Rattle.job_words.proofs.DecisionsOnWords.{tag_goes, start_may, start_answer}
use Rattle.job_words.specs.Forests.{seen_by}
use Rattle.job_words.proofs.starting.start.Goals as goal

pub update-requires-clause-may : goal.update-requires-clause-may
update-requires-clause-may c = λ v w d g k p.
    start_may c.args.forest.now.size c.args.who c.args.row v w d c.args.forest.now.small
    (tag_goes c.args.who (seen_by c.args.pass.now) v g c.requires.own.1)
    (attached_goes c.args.who [] (seen_by c.args.pass.now) v c.args.row g c.requires.attached) k (search of_calls)

pub returns-clause-answer : goal.returns-clause-answer
returns-clause-answer c =
    let t = c.update.ensures.answer in
    start_answer c.args.forest.now.size c.args.who c.args.row t.0 t.1 (seen_by c.args.pass.now) (seen_by c.update.new.pass)
    c.update.result c.args.forest.now.small c.requires.own.0.1 c.requires.attached (let p = t.2 in search of_calls) t.3
