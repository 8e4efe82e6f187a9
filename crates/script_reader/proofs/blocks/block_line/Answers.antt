use Rattle.script_reader.proofs.blocks.block_line.Goals as goal

pub returns-in-Send : goal.returns-in-Send
returns-in-Send c = rw c.in-Send.is (rw c.in-Send.is at c.sending_line.ensures)

pub returns-in-TrySend : goal.returns-in-TrySend
returns-in-TrySend c = rw c.in-TrySend.is (rw c.in-TrySend.is at c.sending_line-in-TrySend.ensures)

pub returns-in-Receive : goal.returns-in-Receive
returns-in-Receive c = rw c.in-Receive.is (rw c.in-Receive.is at c.channel_line.ensures)

pub returns-in-TryReceive : goal.returns-in-TryReceive
returns-in-TryReceive c = rw c.in-TryReceive.is (rw c.in-TryReceive.is at c.channel_line-in-TryReceive.ensures)

pub returns-in-Close : goal.returns-in-Close
returns-in-Close c = rw c.in-Close.is (rw c.in-Close.is at c.channel_line-in-Close.ensures)

pub returns-in-CancelChannel : goal.returns-in-CancelChannel
returns-in-CancelChannel c = rw c.in-CancelChannel.is (rw c.in-CancelChannel.is at c.channel_line-in-CancelChannel.ensures)

pub returns-in-Each : goal.returns-in-Each
returns-in-Each c = rw c.in-Each.is (rw c.in-Each.is at c.channel_line-in-Each.ensures)

pub returns-in-Start : goal.returns-in-Start
returns-in-Start c = rw c.in-Start.is (rw c.in-Start.is at c.job_line.ensures)

pub returns-in-Join : goal.returns-in-Join
returns-in-Join c = rw c.in-Join.is (rw c.in-Join.is at c.job_line-in-Join.ensures)

pub returns-in-Cancel : goal.returns-in-Cancel
returns-in-Cancel c = rw c.in-Cancel.is (rw c.in-Cancel.is at c.job_line-in-Cancel.ensures)

pub returns-in-Await : goal.returns-in-Await
returns-in-Await c = rw c.in-Await.is c.awaiting.ensures

pub returns-in-Launch : goal.returns-in-Launch
returns-in-Launch c = rw c.in-Launch.is c.launching.ensures

pub returns-in-Async : goal.returns-in-Async
returns-in-Async c = rw c.in-Async.is c.launching-in-Async.ensures

pub returns-in-Lazy : goal.returns-in-Lazy
returns-in-Lazy c = rw c.in-Lazy.is c.launching-in-Lazy.ensures

pub returns-in-Fail : goal.returns-in-Fail
returns-in-Fail c = rw c.in-Fail.is c.fail_line.ensures

pub returns-in-Result : goal.returns-in-Result
returns-in-Result c = rw c.in-Result.is c.result_line.ensures

pub returns-in-Repeat : goal.returns-in-Repeat
returns-in-Repeat c = rw c.in-Repeat.is c.repeat_line.ensures

pub returns-in-Yield : goal.returns-in-Yield
returns-in-Yield c = rw c.in-Yield.is c.plain_line.ensures

pub returns-in-Scope : goal.returns-in-Scope
returns-in-Scope c = rw c.in-Scope.is c.plain_line-in-Scope.ensures

pub returns-in-Supervisor : goal.returns-in-Supervisor
returns-in-Supervisor c = rw c.in-Supervisor.is c.plain_line-in-Supervisor.ensures

pub returns-in-Select : goal.returns-in-Select
returns-in-Select c = rw c.in-Select.is c.plain_line-in-Select.ensures
