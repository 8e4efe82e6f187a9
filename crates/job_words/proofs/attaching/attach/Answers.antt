use Rattle.std.proofs.Common.{[], ◌∷◌, ◌∙◌}
use Rattle.job_words.proofs.ClaimedRows.{drawn_err, drawn_attached, drawn_ended}
use Rattle.job_words.proofs.LostExchangesGrow.{attached_goes}
use Rattle.job_words.proofs.GivingStays.{by_error, by_act}
use Rattle.job_words.specs.Forests.{seen_by}
use Rattle.job_words.proofs.attaching.attach.Goals as goal

pub returns-in-Err-clause-answer : goal.returns-in-Err-clause-answer
returns-in-Err-clause-answer c = drawn_err c.args.forest.now.size c.args.who c.args.parent c.args.kind c.args.tag (seen_by c.args.pass.now)
    (seen_by c.claim_row.new.pass) c.in-Err.error c.requires.own.0.1 c.claim_row.ensures.own.0.1 c.in-Err.ensures.answer

pub disclose-requires-clause-parent : goal.disclose-requires-clause-parent
disclose-requires-clause-parent c = attached_goes c.args.who (c.in-Ok.row ∷ []) (seen_by c.args.pass.now) (seen_by c.claim_row.new.pass)
    c.args.parent c.in-Ok.ensures.answer.goes c.requires.parent

pub returns-in-Some-clause-answer : goal.returns-in-Some-clause-answer
returns-in-Some-clause-answer c = drawn_attached c.args.forest.now.size c.args.who c.args.parent c.args.kind c.args.tag c.in-Ok.row
    c.in-Some.cancelled (seen_by c.args.pass.now) (seen_by c.claim_row.new.pass) (seen_by c.disclose.new.pass) c.in-Ok.ensures.answer
    c.in-Some.ensures.answer

pub returns-in-None-clause-answer : goal.returns-in-None-clause-answer
returns-in-None-clause-answer c = drawn_ended c.args.forest.now.size c.args.who c.args.parent c.args.kind c.args.tag c.in-Ok.row
    (seen_by c.args.pass.now) (seen_by c.claim_row.new.pass) (seen_by c.disclose.new.pass) c.requires.own.0.1 c.in-Ok.ensures.answer
    c.in-None.ensures.answer.0 c.disclose.ensures.own.0.2 c.in-None.ensures.answer.1

pub returns-in-Err-clause-giving : goal.returns-in-Err-clause-giving
returns-in-Err-clause-giving c = by_error c.args.forest.now.size c.args.who c.args.kind c.args.tag (seen_by c.args.pass.now)
    (seen_by c.claim_row.new.pass) c.in-Err.error c.in-Err.ensures.answer

pub returns-in-Some-clause-giving : goal.returns-in-Some-clause-giving
returns-in-Some-clause-giving c = let t = c.in-Some.ensures.answer
    in by_act c.args.who c.args.parent t.0 _ (seen_by c.claim_row.new.pass) (seen_by c.disclose.new.pass) t.1
    ∙ c.in-Ok.ensures.answer.goes.giving

pub returns-in-None-clause-giving : goal.returns-in-None-clause-giving
returns-in-None-clause-giving c = c.in-None.ensures.answer.0.giving ∙ c.in-Ok.ensures.answer.goes.giving
