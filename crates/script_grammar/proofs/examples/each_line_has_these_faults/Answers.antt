use Rattle.script_grammar.proofs.FaultsComputed.{channel_rows_have, outside_rows_have, channel_call_rows_have, job_rows_have, other_rows_have, select_rows_have}
use Rattle.script_grammar.proofs.examples.each_line_has_these_faults.Goals as goal

pub returns-clause-channels : goal.returns-clause-channels
returns-clause-channels c = channel_rows_have

pub returns-clause-outside : goal.returns-clause-outside
returns-clause-outside c = outside_rows_have

pub returns-clause-channel_calls : goal.returns-clause-channel_calls
returns-clause-channel_calls c = channel_call_rows_have

pub returns-clause-jobs : goal.returns-clause-jobs
returns-clause-jobs c = job_rows_have

pub returns-clause-others : goal.returns-clause-others
returns-clause-others c = other_rows_have

pub returns-clause-clauses : goal.returns-clause-clauses
returns-clause-clauses c = select_rows_have
