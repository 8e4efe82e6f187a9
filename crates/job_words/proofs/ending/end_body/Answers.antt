use Rattle.std.proofs.Common.{[], of_calls, arith}
use Rattle.job_words.proofs.LostExchangesGrow.{attached_goes}
use Rattle.job_words.proofs.TriesOfAnAct.{may_attached, own_body_goes}
use Rattle.job_words.proofs.DecisionsOnWords.{tag_goes, end_may, end_answer}
use Rattle.job_words.specs.Forests.{seen_by}
use Rattle.job_words.proofs.ending.end_body.Goals as goal

pub update-requires-clause-attached : goal.update-requires-clause-attached
update-requires-clause-attached c = may_attached c.args.who _ c.requires.may

pub update-requires-clause-may : goal.update-requires-clause-may
update-requires-clause-may c = λ v w d g k p.
    let u = seen_by c.args.pass.now in
    end_may c.args.forest.now.size c.args.who c.args.row c.args.value v w d c.args.forest.now.small
    (tag_goes c.args.who u v g c.requires.own.1) (attached_goes c.args.who [] u v c.args.row g (may_attached c.args.who _ c.requires.may))
    (omega (arith, c.ranges.value.fits)) (own_body_goes c.args.who c.args.row [] u v g c.requires.may) k (search of_calls)

pub returns-clause-answer : goal.returns-clause-answer
returns-clause-answer c =
    let t = c.update.ensures.answer in
    end_answer c.args.forest.now.size c.args.who c.args.row c.args.value t.0 t.1 (seen_by c.args.pass.now) (seen_by c.update.new.pass)
    c.update.result c.args.forest.now.small c.requires.own.0.1 (may_attached c.args.who _ c.requires.may)
    (let p = t.2 in search of_calls) t.3
