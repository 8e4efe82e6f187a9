use Rattle.std.proofs.Common.{refl, ap, ◌∙◌, arith}
use Rattle.script_reader.specs.Scripts.{program_of}
use Rattle.poll_states.proofs.Spawning.{root_attached, spawn_row, spawn_short, has_spawned, spawn_refused, spawn_cut}
use Rattle.poll_states.proofs.beginning.spawn_one.Goals as goal

pub overflow_cast-free : goal.overflow_cast-free
overflow_cast-free g c = let h = spawn_short _ _ _ _ c.args.script.now.well_formed c.requires.next in omega (arith, h)

pub attach_coroutine-requires-clause-can : goal.attach_coroutine-requires-clause-can
attach_coroutine-requires-clause-can g c = record {
  caller = ap (g.J.JobFloor.view c.args.jobs.now).callers c.requires.next.tag ∙ c.requires.next.body.at.caller;
  attached = root_attached (g.J.JobFloor.view c.args.jobs.now) (g.met.J.JobFloor.legal c.args.jobs.now);
}

pub attach_coroutine-requires-clause-tag : goal.attach_coroutine-requires-clause-tag
attach_coroutine-requires-clause-tag g c = spawn_row _ _ _ _ c.requires.block c.requires.next

pub returns-in-Ok-clause-spawned : goal.returns-in-Ok-clause-spawned
returns-in-Ok-clause-spawned g c = has_spawned (program_of c.args.script.now) _ _ _ _ _ _ c.in-Ok.field-0.cancelled refl refl
    (c.from.ensures ∙ c.size_of-size.ensures) c.in-Ok.ensures.answer.1

pub returns-in-Used-clause-spawned : goal.returns-in-Used-clause-spawned
returns-in-Used-clause-spawned g c = spawn_refused (program_of c.args.script.now) _ _ _ _ _ c.in-Err.error _ _ c.in-Used.is
    (g.met.J.JobFloor.legal c.attach_coroutine.new.jobs) c.requires.next c.in-Err.ensures.answer c.fail.ensures.tag c.fail.ensures.config
    c.fail.ensures.items

pub returns-in-Memory-clause-spawned : goal.returns-in-Memory-clause-spawned
returns-in-Memory-clause-spawned g c = λ channels. spawn_cut channels _ _ _ c.in-Err.error c.in-Memory.is refl c.in-Err.ensures.answer
