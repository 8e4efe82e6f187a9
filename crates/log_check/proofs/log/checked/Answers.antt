use Rattle.std.proofs.Common.{arith}
use Rattle.script_reader.specs.Scripts.{program_of}
use Rattle.run_laws.proofs.Lists.{some_coroutine}
use Rattle.engine_base.proofs.ChannelKinds.{few_channels, few_jobs}
use Rattle.engine_one.proofs.ChannelKinds.{all_may_be_made}
use Rattle.log_check.proofs.log.checked.Goals as goal

pub check_history-requires-clause-channels : goal.check_history-requires-clause-channels
check_history-requires-clause-channels c = rw (c.as_slice.ensures.value, c.in_ok-kinds.ensures)
    (few_channels (program_of c.args.script.now) c.args.script.now.well_formed)

pub check_history-requires-clause-kinds : goal.check_history-requires-clause-kinds
check_history-requires-clause-kinds c = rw (c.as_slice.ensures.value, c.in_ok-kinds.ensures)
    (all_may_be_made (program_of c.args.script.now) c.args.script.now.well_formed)

pub invariant_of-numbers : goal.invariant_of-numbers
invariant_of-numbers c =
    let p = program_of c.args.script.now in
    let ok = c.args.script.now.well_formed in
    record {
      some = omega (arith, some_coroutine p ok, c.coroutines.ensures);
      few = omega (arith, few_jobs p ok, c.coroutines.ensures, c.scopes.ensures);
    }
