use Rattle.std.proofs.Common.{arith, ap, length}
use Rattle.script_reader.specs.Scripts.{program_of}
use Rattle.script_reader.proofs.Tables.{few_coroutines}
use Rattle.script_reader.proofs.script.Script.coroutines.Goals as goal

pub overflow_cast-result : goal.overflow_cast-result
overflow_cast-result c =
    let script = c.args.self.now in
    omega (arith, few_coroutines (program_of script) script.well_formed, ap length script.tagged, c.len.ensures, script.tags.ok.0)
