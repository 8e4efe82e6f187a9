use Rattle.std.proofs.Common.{◌≡◌, ◌+◌, ◌-◌, ◌++◌, ◌≤◌, drop, replicate}
use Rattle.script_reader.specs.Scripts.{program_of}
use Rattle.script_grammar.specs.Tags.{spawned_by}
use Rattle.poll_states.specs.Frames.{noted}
use Rattle.poll_states.proofs.Spawning.{Spawning}
use Rattle.poll_states.proofs.beginning.spawn_all.Given as goal

abbrev pub invariant-loop-spawn : goal.invariant-loop-spawn
invariant-loop-spawn g l =
    Spawning (program_of l.script) (spawned_by (drop l.spawn-index (program_of l.script).spawns)) (g.J.JobFloor.view l.fn.jobs)
    (g.J.JobFloor.view l.jobs) (noted g.B.NoteBook.items l.frame)
    × (g.J.JobFloor.anchor l.jobs ≡ g.J.JobFloor.anchor l.fn.jobs)

abbrev pub invariant-loop-made : goal.invariant-loop-made
invariant-loop-made g l =
    Spawning (program_of l.script) (replicate (l.spawn.count - l.made) l.spawn.coroutine
    ++ spawned_by (drop (l.spawn-index + 1) (program_of l.script).spawns)) (g.J.JobFloor.view l.fn.jobs) (g.J.JobFloor.view l.jobs)
    (noted g.B.NoteBook.items l.frame)
    × (g.J.JobFloor.anchor l.jobs ≡ g.J.JobFloor.anchor l.fn.jobs)
    × (l.made ≤ l.spawn.count)

abbrev pub decreases-loop-made : goal.decreases-loop-made
decreases-loop-made g l = l.spawn.count - l.made
