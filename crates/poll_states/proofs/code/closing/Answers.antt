use Rattle.std.proofs.Common.{arith}
use Rattle.poll_states.proofs.Standing.{open_short}
use Rattle.poll_states.proofs.code.closing.Goals as goal

pub overflow_cast-line : goal.overflow_cast-line
overflow_cast-line c = let h = open_short c.args.script.now c.args.tag c.args.line c.requires.opens in omega (arith, h)
