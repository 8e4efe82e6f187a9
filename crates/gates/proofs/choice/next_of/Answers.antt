use Rattle.gates.proofs.WordsTell.{lowest_waits}
use Rattle.gates.proofs.choice.next_of.Goals as goal

pub returns : goal.returns
returns c = record { waits = lowest_waits c.args.word c.requires.some c.ranges.word.fits }
