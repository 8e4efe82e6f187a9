use Rattle.std.proofs.Common.{refl}
use Rattle.cell_words.proofs.PlacesDecided.{decided_none}
use Rattle.cell_words.proofs.decided.begun_at.Goals as goal

pub returns-then-known-most-clause-decided : goal.returns-then-known-most-clause-decided
returns-then-known-most-clause-decided c shape log d h = h

pub returns-clause-decided : goal.returns-clause-decided
returns-clause-decided c shape log d h = decided_none shape log d c.args.low c.args.low 0 refl refl
