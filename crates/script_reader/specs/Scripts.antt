-- What a script in memory says.
use Rattle.script_grammar.specs.Programs.{Program}
use Rattle.script_reader.specs.declared.script.Script.{Script}
use Rattle.script_reader.specs.Programs.{program_from}

-- what the script says
abbrev pub program_of : Script → Program
program_of s = program_from s.version s.channels.items s.coroutines.items s.spawns.items
