-- The channels and the Jobs of a script.
use Rattle.std.specs.Prelude.{ℕ, ◌++◌, length, replicate}
use Rattle.channel_model.specs.declared.acts.Kind.TheVariants.{Signal}
use Rattle.channel_model.specs.Channels.{Shape}
use Rattle.job_model.specs.Trees.{Shape as JobShape}
use Rattle.script_grammar.specs.Programs.{Program, shape_of}
use Rattle.script_grammar.specs.Tags.{coroutine_count, job_count}

-- the declared channels, and then for each row a done channel: a signal with one place
abbrev pub floor_shape : Program → Shape
floor_shape p = shape_of p ++ replicate (job_count p) (Signal, 1)

-- a row for each coroutine, and then one for each scope
abbrev pub job_shape : Program → JobShape
job_shape p = record { coroutines = coroutine_count p; rows = job_count p }

-- the number of the first done channel
abbrev pub base_of : Program → ℕ
base_of p = length p.channels
