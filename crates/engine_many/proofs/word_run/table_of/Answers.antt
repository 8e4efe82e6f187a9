use Rattle.script_reader.specs.Scripts.{program_of}
use Rattle.std.proofs.Common.{arith}
use Rattle.run_laws.proofs.Lists.{some_coroutine}
use Rattle.engine_base.proofs.ChannelKinds.{few_channels, few_jobs}
use Rattle.engine_many.proofs.TablesOfScripts.{few_cells, is_shape}
use Rattle.engine_many.proofs.word_run.table_of.Goals as goal

pub hub_and_forest-requires-clause-channels : goal.hub_and_forest-requires-clause-channels
hub_and_forest-requires-clause-channels c = rw (c.deref.ensures.value, c.in_ok-kinds.ensures)
    (few_channels (program_of c.args.script.now) c.args.script.now.well_formed)

pub hub_and_forest-requires-clause-shape : goal.hub_and_forest-requires-clause-shape
hub_and_forest-requires-clause-shape c = rw (c.deref.ensures.value, c.in_ok-kinds.ensures)
    (is_shape (program_of c.args.script.now) c.args.script.now.well_formed)

pub hub_and_forest-requires-clause-cells : goal.hub_and_forest-requires-clause-cells
hub_and_forest-requires-clause-cells c = rw (c.deref.ensures.value, c.in_ok-kinds.ensures)
    (few_cells (program_of c.args.script.now) c.args.script.now.well_formed)

pub hub_and_forest-requires-clause-some : goal.hub_and_forest-requires-clause-some
hub_and_forest-requires-clause-some c = omega (
  arith,
  some_coroutine (program_of c.args.script.now) c.args.script.now.well_formed,
  c.coroutines.ensures,
)

pub hub_and_forest-requires-clause-few : goal.hub_and_forest-requires-clause-few
hub_and_forest-requires-clause-few c = omega (
  arith,
  few_jobs (program_of c.args.script.now) c.args.script.now.well_formed,
  c.coroutines.ensures,
  c.scopes.ensures,
)
