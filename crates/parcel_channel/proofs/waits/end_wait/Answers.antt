use Rattle.std.proofs.Common.{◌≤◌, subst}
use Rattle.channel_model.specs.Channels.{places_at}
use Rattle.cell_words.specs.Hubs.{shape_of, seen_by}
use Rattle.cell_words.proofs.LooksAtCells.{hub_legal}
use Rattle.cell_calls.proofs.CallsTell.{wait_place}
use Rattle.parcel_channel.proofs.NumbersWithdrawn.{ready_own}
use Rattle.parcel_channel.proofs.waits.end_wait.Goals as goal

pub withdrawn_number-requires-clause-at : goal.withdrawn_number-requires-clause-at
withdrawn_number-requires-clause-at c =
    let shape = shape_of c.args.hub.now in
    let p = c.args.pass.now in (
      c.requires.channel.0,
      subst (λ n. c.args.w.place ≤ places_at shape n) c.requires.wait
          (wait_place shape (seen_by p).seen c.args.who c.args.w (hub_legal c.args.hub.now p c.requires.own.0)
          (ready_own c.args.who _ c.requires.ready)),
    )
