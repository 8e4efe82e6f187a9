use Rattle.std.proofs.Common.{rules}
use Rattle.co_base.proofs.Flows.{given_at}
use Rattle.co_base.proofs.in_memory.MemorySourceSource.read.Goals as goal

pub returns-clause-given : goal.returns-clause-given
returns-clause-given c = given_at c.args.self.now.bytes.items c.args.buf.now c.copy_from_slice.new.self c.args.self.now.at c.min-n.result
    (search rules) (search rules)
