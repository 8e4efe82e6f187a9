use Rattle.std.proofs.Common.{sym, subst}
use mathlib.Core.List.{IsPrefix}
use Rattle.cell_words.specs.Seen.{Known}
use Rattle.word_seats.proofs.SeatsHear.{has_heard}
use Rattle.word_seats.proofs.beside.ForestSeatJobsBesideHubSeat.hear.Goals as goal

pub returns-clause-heard : goal.returns-clause-heard
returns-clause-heard g c joint = has_heard c.args.channels.now.hub.now c.hear_channels.new.pass c.hear_channels.new.jobs
    (subst (λ (v : Known). IsPrefix v.seen c.hear_channels.new.jobs.seat.me.0.seen) (sym c.hear_channels.ensures.same.1)
    c.hear_channels.ensures.heard)
