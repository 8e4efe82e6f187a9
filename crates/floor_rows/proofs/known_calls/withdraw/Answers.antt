use Rattle.call_meaning.specs.ChannelCalls.{wait_at}
use Rattle.channel_model.specs.declared.acts.Why.TheVariants.{Cancelled}
use Rattle.floor_rows.proofs.KnownLater.{unmade, withdrawn_then}
use Rattle.floor_rows.proofs.known_calls.withdraw.Goals as goal

pub returns-then-not-known-clause-then : goal.returns-then-not-known-clause-then
returns-then-not-known-clause-then g c = unmade c.args.known (g.F.ChannelFloor.view c.args.floor.now) c.requires.knows

pub returns-clause-then : goal.returns-clause-then
returns-clause-then g c =
    withdrawn_then c.args.known c.args.known.tag (wait_at 0 c.args.known.place) Cancelled (g.F.ChannelFloor.view c.args.floor.now) (g.F.ChannelFloor.view c.withdraw.new.self) c.withdraw.result
    (g.met.F.ChannelFloor.legal c.withdraw.new.self) c.requires.knows c.withdraw.ensures.answer
