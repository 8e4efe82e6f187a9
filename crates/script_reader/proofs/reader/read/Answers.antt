use Rattle.script_reader.proofs.Answered.{spelled, complete, refused}
use Rattle.script_reader.proofs.reader.read.Goals as goal

pub returns-clause-spelled : goal.returns-clause-spelled
returns-clause-spelled c = spelled c.read_or_fault.result c.args.bytes.now c.read_or_fault.ensures.exact

pub returns-clause-complete : goal.returns-clause-complete
returns-clause-complete c = λ p is. complete c.read_or_fault.result c.args.bytes.now p c.read_or_fault.ensures.exact is

pub returns-clause-refused : goal.returns-clause-refused
returns-clause-refused c = refused c.read_or_fault.result c.args.bytes.now c.read_or_fault.ensures.exact
