use Rattle.cell_words.specs.Hubs.{IsOwn}
use Rattle.floor_rows.proofs.words.latest_at_once.send_all.Given as goal

abbrev pub invariant-loop-value : goal.invariant-loop-value
invariant-loop-value l = IsOwn l.hub l.pass 1
