use Rattle.cell_words.specs.Hubs.{IsOwn}
use Rattle.floor_rows.proofs.on_passes.look_at_all.Given as goal

abbrev pub invariant-waits : goal.invariant-waits
invariant-waits l = IsOwn l.hub l.pass l.who
