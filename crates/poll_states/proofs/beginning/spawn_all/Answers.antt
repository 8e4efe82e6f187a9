use Rattle.std.proofs.Common.{refl, ◌∙◌, arith}
use Rattle.script_reader.specs.Scripts.{program_of}
use Rattle.poll_states.proofs.Spawning.{spawning_first, spawning_next, spawning_at, next_spawn, next_instance, no_instance, spawn_block, spawn_count, none_left, for_spawn, begun_all, begun_refused, begun_cut}
use Rattle.poll_states.proofs.beginning.spawn_all.Goals as goal

pub loop-spawn-init : goal.loop-spawn-init
loop-spawn-init g c = (spawning_first _ _ _ c.args.script.now.well_formed c.requires.new, refl)

pub loop-made-init : goal.loop-made-init
loop-made-init g c = (
  spawning_at (program_of c.args.script.now) _ _ _ _ _
      (next_spawn (program_of c.args.script.now) c.spawns-spawn-items.result.now c.loop-spawn.spawn-index
      (record { coroutine = 0; count = 0 }) c.spawns-spawn-items.ensures c.loop-spawn-test.true) c.loop-spawn.invariant.0,
  c.loop-spawn.invariant.1,
  omega arith,
)

pub spawn_one-requires-clause-block : goal.spawn_one-requires-clause-block
spawn_one-requires-clause-block g c = spawn_block (program_of c.args.script.now) c.spawns-spawn-items.result.now c.loop-spawn.spawn-index
    (record { coroutine = 0; count = 0 }) c.args.script.now.well_formed c.spawns-spawn-items.ensures c.loop-spawn-test.true

pub spawn_one-requires-clause-next : goal.spawn_one-requires-clause-next
spawn_one-requires-clause-next g c = for_spawn _ _ _ _ _ _ c.args.script.now.well_formed c.requires.on
    (spawning_at (program_of c.args.script.now) _ _ _ _ _ (next_instance _ c.loop-made.made _ _ c.loop-made-test.true)
    c.loop-made.invariant.0)

pub returns-then-not-attached-clause-begun : goal.returns-then-not-attached-clause-begun
returns-then-not-attached-clause-begun g c = λ channels its.
    begun_refused _ _ _ channels _ _ _ _ _ _ c.args.script.now.well_formed (g.met.J.JobFloor.legal c.spawn_one.new.jobs) c.requires.new its
    c.requires.on
    (spawning_at (program_of c.args.script.now) _ _ _ _ _ (next_instance _ c.loop-made.made _ _ c.loop-made-test.true)
    c.loop-made.invariant.0) (rw c.if-not-attached.true at c.in-Ok.ensures.spawned)

pub returns-in-Err-clause-begun : goal.returns-in-Err-clause-begun
returns-in-Err-clause-begun g c = λ channels. begun_cut c.requires.new c.loop-made.invariant.0 (c.in-Err.ensures.spawned channels)

pub overflow_add-made : goal.overflow_add-made
overflow_add-made g c = let h = spawn_count (program_of c.args.script.now) c.spawns-spawn-items.result.now c.loop-spawn.spawn-index
    (record { coroutine = 0; count = 0 }) c.args.script.now.well_formed c.spawns-spawn-items.ensures c.loop-spawn-test.true
    in omega (arith, h, c.loop-made-test.true)

pub loop-made-preserved : goal.loop-made-preserved
loop-made-preserved g c = (
  spawning_next (spawning_at (program_of c.args.script.now) _ _ _ _ _
      (next_instance _ c.loop-made.made _ _ c.loop-made-test.true) c.loop-made.invariant.0)
      (rw c.if-not-attached.false at c.in-Ok.ensures.spawned),
  c.in-Ok.ensures.anchor ∙ c.loop-made.invariant.1,
  omega arith,
)

pub loop-spawn-preserved : goal.loop-spawn-preserved
loop-spawn-preserved g c = (
  spawning_at (program_of c.args.script.now) _ _ _ _ _ (no_instance _ c.loop-made.made _ _ c.loop-made-test.false)
      c.loop-made.invariant.0,
  c.loop-made.invariant.1,
)

pub returns-clause-begun : goal.returns-clause-begun
returns-clause-begun g c = λ channels its.
    begun_all _ channels _ _ _ _ c.args.script.now.well_formed (g.met.J.JobFloor.legal c.loop-spawn.jobs) c.requires.new its c.requires.on
    (spawning_at (program_of c.args.script.now) _ _ _ _ _
    (none_left (program_of c.args.script.now) c.spawns-spawn-items.result.now c.loop-spawn.spawn-index c.spawns-spawn-items.ensures
    c.loop-spawn-test.false) c.loop-spawn.invariant.0)
