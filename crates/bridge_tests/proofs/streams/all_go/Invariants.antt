use Rattle.std.specs.Prelude.{IfSome}
use Rattle.cell_words.specs.Hubs.{IsOwn}
use Rattle.future_bridge.specs.Streams.{Stands}
use Rattle.bridge_tests.proofs.streams.all_go.Given as goal

abbrev pub invariant-loop-step : goal.invariant-loop-step
invariant-loop-step g l = record { held : IfSome l.held Stands; two : IsOwn l.hub l.two 2 }
