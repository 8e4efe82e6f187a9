use Rattle.std.proofs.Common.{sym, ap, ◌∙◌}
use Rattle.job_replay.specs.Sizes.{shape_of}
use Rattle.job_replay.specs.Tests.{may_in}
use Rattle.job_replay.proofs.tests.may_make.Goals as goal

pub returns-in-Attach : goal.returns-in-Attach
returns-in-Attach c =
    c.may_attach.ensures c.args.gone.now.items
    ∙ ap (may_in (shape_of c.args.size) c.args.rows.now.items c.args.gone.now.items c.args.who) (sym c.in-Attach.is)
