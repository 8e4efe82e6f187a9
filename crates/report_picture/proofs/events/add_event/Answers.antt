use Rattle.report_picture.proofs.Fields.{adds_event}
use Rattle.report_picture.proofs.events.add_event.Goals as goal

pub returns : goal.returns
returns c =
    adds_event c.args.event.now.line.now c.args.event.now.source.now c.add_place.ensures c.add_happening.ensures c.add_end.ensures
