use Rattle.report_reader.proofs.Waits.{some_more}
use Rattle.report_reader.proofs.forms.is_channel_and_place.Goals as goal

pub returns-in-Some : goal.returns-in-Some
returns-in-Some c = some_more c.args.channel.now c.args.place.now c.args.more c.in-Some.field-0 c.in-Some.is
