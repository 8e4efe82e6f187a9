use Rattle.std.proofs.Common.{sym, subst}
use mathlib.Core.List.{IsPrefix}
use Rattle.cell_words.specs.Seen.{Known}
use Rattle.cell_calls.proofs.CallsTell.{looked_of}
use Rattle.word_seats.proofs.SeatsHear.{no_jobs_beside, no_rows_beside}
use Rattle.word_seats.proofs.beside.ForestSeatSharedBesideHubSeat.learn.Goals as goal

pub returns-clause-looked : goal.returns-clause-looked
returns-clause-looked g c who own = looked_of c.args.channels.now.hub.now who c.args.channels.now.pass c.hear_jobs.new.pass own
    c.hear_jobs.ensures.sees

pub returns-clause-none : goal.returns-clause-none
returns-clause-none g c = no_jobs_beside c.args.channels.now.hub.now c.hear_jobs.new.pass c.hear_jobs.new.jobs
    (subst (λ (v : Known). IsPrefix v.seen c.hear_jobs.new.pass.seat.me.0.seen) (sym c.hear_jobs.ensures.same.1) c.hear_jobs.ensures.heard)

pub returns-clause-unclaimed : goal.returns-clause-unclaimed
returns-clause-unclaimed g c = no_rows_beside c.args.channels.now.hub.now c.hear_jobs.new.pass c.hear_jobs.new.jobs
    (subst (λ (v : Known). IsPrefix v.seen c.hear_jobs.new.pass.seat.me.0.seen) (sym c.hear_jobs.ensures.same.1) c.hear_jobs.ensures.heard)
