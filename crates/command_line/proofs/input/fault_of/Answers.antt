use Rattle.command_line.proofs.Answering.{refused}
use Rattle.command_line.proofs.input.fault_of.Goals as goal

pub returns-in_ok-line-in_default : goal.returns-in_ok-line-in_default
returns-in_ok-line-in_default c = refused _ _ _ c.in_default.not-Memory c.requires.refused c.requires.unspelled
    c.in_ok-line-in_default.ensures
