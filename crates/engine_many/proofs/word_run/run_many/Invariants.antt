use Rattle.script_reader.specs.Scripts.{program_of}
use Rattle.engine_many.proofs.word_run.run_many.Given as goal

-- the script and the table of this run
abbrev pub ghosts-run_seated-N-ScriptName : goal.ghosts-run_seated-N-ScriptName
ghosts-run_seated-N-ScriptName g a = record { program = program_of a.script.now }

abbrev pub ghosts-run_seated-N-TableName : goal.ghosts-run_seated-N-TableName
ghosts-run_seated-N-TableName g a = record { table = a.hub.now.table.value.shared.table_id; table_key = a.hub.now.table.value.shared.key }
