use Rattle.report_picture.proofs.Fields.{adds_event}
use Rattle.report_picture.proofs.events.add_moment.Goals as goal

pub returns : goal.returns
returns c =
    let named = rw c.label_of.ensures at c.add_place.ensures in
    let placed = rw c.track_of.ensures at named in
    adds_event c.args.moment.now.line.text.now c.args.moment.now.source.now placed c.add_when.ensures c.add_end.ensures
