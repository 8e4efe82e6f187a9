use Rattle.script_reader.specs.Scripts.{program_of}
use Rattle.poll_states.proofs.Spawning.{spawn_block}
use Rattle.engine_many.proofs.dealing.deal.Goals as goal

pub size_of-size-requires : goal.size_of-size-requires
size_of-size-requires c = spawn_block (program_of c.args.script.now) c.spawns-spawn-items.result.now c.loop-spawn.spawn-index
    (record { coroutine = 0; count = 0 }) c.args.script.now.well_formed c.spawns-spawn-items.ensures c.loop-spawn-test.true
