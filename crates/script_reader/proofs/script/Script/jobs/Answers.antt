use Rattle.std.proofs.Common.{arith}
use Rattle.script_grammar.proofs.JobsCounted.{whole_load-job_count}
use Rattle.script_reader.specs.Scripts.{program_of}
use Rattle.script_reader.proofs.script.Script.jobs.Goals as goal

pub overflow_add-result : goal.overflow_add-result
overflow_add-result c =
    omega (
      arith,
      c.args.self.now.well_formed.load,
      whole_load-job_count (program_of c.args.self.now) c.args.self.now.well_formed,
      c.coroutines.ensures,
      c.scopes.ensures,
    )
