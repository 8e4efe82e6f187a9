use Rattle.std.proofs.Common.{rules, subst}
use Rattle.run_explore.specs.Words.{request_of}
use Rattle.run_explore.specs.Outcomes.{IsMadeOf, stream}
use Rattle.run_explore.proofs.Meaning.{made_of, long_made}
use Rattle.run_explore.proofs.top.read_answer.Goals as goal

pub returns-in-Ok : goal.returns-in-Ok
returns-in-Ok g c =
    made_of c.answer_of.result (request_of c.args.asked) _ _ _ c.in-Ok.ensures.all (λ short. c.in-Ok.ensures.drained)
    (subst (λ b. IsMadeOf (request_of c.args.asked) b c.answer_of.result) c.as_slice.ensures.value c.answer_of.ensures)

pub returns-in-Err-TooLong : goal.returns-in-Err-TooLong
returns-in-Err-TooLong g c =
    long_made c.too_long.result (request_of c.args.asked)
    (stream (g.S.Source.left c.args.source.now) (g.S.Source.faults c.args.source.now))
    (stream (g.S.Source.left c.read_script.new.source) (g.S.Source.faults c.read_script.new.source))
    c.too_long.ensures.ending c.too_long.ensures.memory (c.in-Err-TooLong.ensures.long (search rules))
