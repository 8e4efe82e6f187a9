use Rattle.cell_words.specs.Hubs.{IsOwn}
use Rattle.floor_rows.proofs.words.latest_at_once.take_some.Given as goal

abbrev pub invariant-loop : goal.invariant-loop
invariant-loop l = IsOwn l.hub l.pass l.who
