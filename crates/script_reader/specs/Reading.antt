-- The script so far as it lies in memory.
use Rattle.std.specs.Prelude.{ℕ, ◌≤◌, List, length, map, Option, Some, None, option_map, string_bytes}
use denote.Ref.{Bor}
use Rattle.script_grammar.specs.Blocks.{Open}
use Rattle.script_grammar.specs.Reads.{Read, Form, version_is, channel_is, coroutine_is, spawn_is, line_is, end_is}
use Rattle.script_reader.specs.Programs.{declared_of, block_of, spawn_of}
use Rattle.script_reader.specs.declared.reading.OpenBlock.{OpenBlock}
use Rattle.script_reader.specs.declared.reading.Reading.{Reading}
use Rattle.script_reader.specs.declared.form.Spoken.{Spoken}
use Rattle.script_reader.specs.declared.form.Spoken.TheVariants as spoken

-- a name that may be missing
abbrev pub name_in : Option (Bor (List ℕ)) → Option (List ℕ)
name_in name = option_map (λ n. n.now) name

abbrev pub said : Spoken → Form
said spoken.Version = version_is
said (spoken.Channel name kind places) = channel_is (record { name = name.now; kind = kind; places = places })
said (spoken.Coroutine name) = coroutine_is name.now
said (spoken.Spawn block count) = spawn_is block count
said (spoken.Line x job) = line_is x (name_in job)
said spoken.End = end_is

-- the block that is open
abbrev pub open_of : OpenBlock → Open
open_of b = record {
  name = string_bytes b.name;
  jobs = map string_bytes b.jobs.items.items;
  awaitable = b.awaitable.items;
  code = b.code.items;
  nest = b.nest.items;
  clauses = option_map (λ v. v.items) b.clauses;
  weight = b.weight;
}

-- what the memory holds
abbrev pub view : Reading → Read
view r = record {
  version = r.version;
  channels = map declared_of r.channels.items.items;
  blocks = map block_of r.coroutines.items.items;
  spawns = map spawn_of r.spawns.items;
  weights = r.weights.items;
  current = option_map open_of r.current;
}

-- the number of a Job name of the open block fits 16 bits
abbrev pub HasFewJobs : Option OpenBlock → Type 0
HasFewJobs None = Unit {0}
HasFewJobs (Some b) = length b.jobs.items.items ≤ 65535
