use Rattle.task_berths.proofs.OpensAndCloses.{closes}
use Rattle.task_berths.proofs.berths.Berths.close.Goals as goal

pub move_out-requires-clause-home : goal.move_out-requires-clause-home
move_out-requires-clause-home g c = closes g.T.Tagged.tag_of _ _ _ _ c.requires.main.1 c.args.main.idle.1 c.requires.ended c.requires.none
    c.close_with.ensures.values.2
