use Rattle.std.proofs.Common.{arith}
use Rattle.script_grammar.proofs.Layouts.{main_fits}
use Rattle.script_reader.specs.Scripts.{program_of}
use Rattle.run_report.proofs.totals.summary.Goals as goal

pub summary_of-requires-clause-root : goal.summary_of-requires-clause-root
summary_of-requires-clause-root c = omega (arith, c.jobs.ensures, main_fits (program_of c.args.script.now) c.args.script.now.well_formed)
