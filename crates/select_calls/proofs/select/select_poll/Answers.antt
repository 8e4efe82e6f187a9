use Rattle.channel_calls.specs.Calls.{seen}
use Rattle.select_calls.proofs.Stopping.{all_wait, selected_then}
use Rattle.select_calls.proofs.select.select_poll.Goals as goal

pub wait_on_all-requires-clause-waits : goal.wait_on_all-requires-clause-waits
wait_on_all-requires-clause-waits g c = all_wait (rw c.in-Ok-NoneReady.field-0-is at c.in-Ok-NoneReady.ensures.tried.answer)

pub returns-in-Ok-NoneReady-clause-answer : goal.returns-in-Ok-NoneReady-clause-answer
returns-in-Ok-NoneReady-clause-answer g c =
    let behind = seen g.F.ChannelFloor.view g.B.NoteBook.items c.wait_on_all.new.x in
    let tried = rw c.in-Ok-NoneReady.field-0-is at c.in-Ok-NoneReady.ensures.tried.answer in
    selected_then c.wait_on_all.new.held behind tried c.wait_on_all.result c.wait_on_all.ensures.waited
