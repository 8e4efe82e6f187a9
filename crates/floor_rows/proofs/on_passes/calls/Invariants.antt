use Rattle.cell_words.specs.Hubs.{IsOwn}
use Rattle.floor_rows.proofs.on_passes.calls.Given as goal

abbrev pub invariant-calls : goal.invariant-calls
invariant-calls l = IsOwn l.hub l.pass l.who
