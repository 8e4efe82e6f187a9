use Rattle.std.proofs.Common.{arith, shl_exact}
use Rattle.gates.proofs.choice.bit_of.Goals as goal

pub returns : goal.returns
returns c = record { bit = shl_exact {a = 65536} 17 c.args.tag 64 (omega arith) (omega (arith, c.requires.few)) }
