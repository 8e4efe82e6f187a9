use Rattle.std.proofs.Common.{arith}
use Rattle.script_reader.specs.Scripts.{program_of}
use Rattle.engine_base.proofs.ChannelKinds.{few_jobs}
use Rattle.engine_base.proofs.sizes.rows_of.Goals as goal

pub overflow_add-result : goal.overflow_add-result
overflow_add-result c = omega (
  arith,
  few_jobs (program_of c.args.script.now) c.args.script.now.well_formed,
  c.coroutines.ensures,
  c.scopes.ensures,
)
