use Rattle.std.proofs.Common.{[], rules, of_calls, ◌<◌}
use Rattle.job_words.proofs.CausesInWords.{cause_goes}
use Rattle.job_words.proofs.PartsOfAnAttach.{goes_done}
use Rattle.job_words.proofs.DecisionsOnWords.{tag_goes, cancel_may, cancel_answer}
use Rattle.job_words.specs.Forests.{seen_by}
use Rattle.job_words.proofs.cancelling.cancel_one.Goals as goal

pub update-requires-clause-attached : goal.update-requires-clause-attached
update-requires-clause-attached c = c.cause_for-cause.ensures.cause.attached

pub update-requires-clause-may : goal.update-requires-clause-may
update-requires-clause-may c = λ v w d g k p.
    let size = c.args.forest.now.size in
    let small = c.args.forest.now.small in
    let u = seen_by c.cause_for-cause.new.pass in
    let own = c.cause_for-cause.ensures.own in
    let fits : c.code_of_cause-code.result < 4294967296 = search rules in
    cancel_may size c.args.who c.args.row c.args.reason c.cause_for-cause.result c.code_of_cause-code.result v w d small
    (tag_goes c.args.who u v g own.1) (goes_done size c.args.who [] u v own.0.1 g)
    (cause_goes size c.args.who c.args.row c.args.reason [] u v c.cause_for-cause.result small own.0.1 c.cause_for-cause.new.pass.done g
    c.cause_for-cause.ensures.cause) c.code_of_cause-code.ensures fits k (search of_calls)

pub returns-clause-answer : goal.returns-clause-answer
returns-clause-answer c =
    let t = c.update.ensures.answer in
    cancel_answer c.args.forest.now.size c.args.who c.args.row c.args.reason c.code_of_cause-code.result t.0 t.1 (seen_by c.args.pass.now)
    (seen_by c.cause_for-cause.new.pass) (seen_by c.update.new.pass) c.update.result c.args.forest.now.small
    c.cause_for-cause.ensures.own.0.1 c.cause_for-cause.ensures.cause.attached c.cause_for-cause.ensures.goes
    (let p = t.2 in search of_calls) t.3
