use Rattle.std.proofs.Common.{◌≡◌, ◌++◌, length}
use Rattle.script_meaning.specs.Lines.{clauses_in}
use Rattle.select_calls.specs.Clauses.{calls_of}
use Rattle.poll_states.specs.Frames.{config_of}
use Rattle.poll_states.proofs.coroutine.Coroutine.clauses_of.Given as goal

abbrev pub invariant-loop-rest : goal.invariant-loop-rest
invariant-loop-rest g l = calls_of l.clauses.items ++ clauses_in (config_of l.self) l.rest ≡ clauses_in (config_of l.self) l.code

abbrev pub decreases-loop-rest : goal.decreases-loop-rest
decreases-loop-rest g l = length l.rest
