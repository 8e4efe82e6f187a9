use Rattle.std.proofs.Common.{sym, subst}
use mathlib.Core.List.{IsPrefix}
use Rattle.cell_words.specs.Seen.{Known}
use Rattle.cell_calls.proofs.CallsTell.{looked_of}
use Rattle.word_seats.proofs.SeatsHear.{has_told}
use Rattle.word_seats.proofs.beside.ForestSeatJobsBesideHubSeat.tell.Goals as goal

pub returns-clause-looked : goal.returns-clause-looked
returns-clause-looked g c who own = looked_of c.args.channels.now.hub.now who c.args.channels.now.pass c.hear_jobs.new.pass own
    c.hear_jobs.ensures.sees

pub returns-clause-told : goal.returns-clause-told
returns-clause-told g c joint = has_told c.args.channels.now.hub.now c.hear_jobs.new.pass c.hear_jobs.new.jobs
    (subst (λ (v : Known). IsPrefix v.seen c.hear_jobs.new.pass.seat.me.0.seen) (sym c.hear_jobs.ensures.same.1) c.hear_jobs.ensures.heard)
