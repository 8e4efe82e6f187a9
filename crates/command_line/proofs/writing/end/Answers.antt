use Rattle.std.proofs.Common.{subst}
use Rattle.command_line.specs.Preparing.{AnswersTo}
use Rattle.command_line.proofs.WrittenMeans.{answer_means}
use Rattle.command_line.proofs.writing.end.Goals as goal

pub returns-in-Ok-clause-status : goal.returns-in-Ok-clause-status
returns-in-Ok-clause-status g c = λ asked source source' m. answer_means c.written.result asked c.in-Ok.answer source source' _ _
    (subst (AnswersTo asked source source') c.in-Ok.is m) c.written.ensures
