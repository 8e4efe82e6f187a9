use Rattle.run_explore.specs.Words.{request_of}
use Rattle.run_explore.proofs.Meaning.{fault_made}
use Rattle.run_explore.proofs.top.answer_of.Goals as goal

pub returns : goal.returns
returns g c =
    fault_made c.fault_answer.result (request_of c.args.asked) c.args.bytes.now c.fault_answer.ensures.ending c.fault_answer.ensures.memory
    (λ p s. c.in_default.not-Memory (c.in-Err.ensures.complete p s))
