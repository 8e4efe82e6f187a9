-- What the parts of a script in memory say.
use Rattle.std.specs.Prelude.{ℕ, List, map, string_bytes}
use Rattle.script_grammar.specs.Programs.{Declared, Block, Program}
use Rattle.script_reader.specs.declared.script.Channel.{Channel}
use Rattle.script_reader.specs.declared.script.Coroutine.{Coroutine}
use Rattle.script_reader.specs.declared.script.Spawn.{Spawn}

abbrev pub declared_of : Channel → Declared
declared_of c = record { name = string_bytes c.name; kind = c.kind; places = c.places }

abbrev pub block_of : Coroutine → Block
block_of c = record { name = string_bytes c.name; jobs = map string_bytes c.jobs.items; code = c.code.items }

abbrev pub spawn_of : Spawn → ℕ × ℕ
spawn_of s = (s.coroutine, s.count)

abbrev pub program_from : ℕ → List Channel → List Coroutine → List Spawn → Program
program_from version channels coroutines spawns =
    record { version = version; channels = map declared_of channels; blocks = map block_of coroutines; spawns = map spawn_of spawns }
