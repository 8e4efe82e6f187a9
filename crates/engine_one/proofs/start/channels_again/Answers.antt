use Rattle.script_reader.specs.Scripts.{program_of}
use Rattle.engine_base.proofs.ChannelKinds.{few_channels}
use Rattle.engine_one.proofs.ChannelKinds.{all_may_be_made}
use Rattle.engine_one.proofs.start.channels_again.Goals as goal

pub renewed-requires-clause-channels : goal.renewed-requires-clause-channels
renewed-requires-clause-channels c = rw (c.deref.ensures.value, c.in_ok-kinds.ensures)
    (few_channels (program_of c.args.script.now) c.args.script.now.well_formed)

pub renewed-requires-clause-kinds : goal.renewed-requires-clause-kinds
renewed-requires-clause-kinds c = rw (c.deref.ensures.value, c.in_ok-kinds.ensures)
    (all_may_be_made (program_of c.args.script.now) c.args.script.now.well_formed)
