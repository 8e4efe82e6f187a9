use Rattle.poll_states.proofs.ChannelLines.{sent_made, tried_to_send_made, received_made, each_made, tried_to_receive_made, closed_made, cancelled_made, send_part, try_send_part, receive_part, each_part, try_receive_part, close_part, cancel_part}
use Rattle.poll_states.proofs.calls.make.Goals as goal

pub returns-in-Ok-clause-answer : goal.returns-in-Ok-clause-answer
returns-in-Ok-clause-answer g c = rw c.in-Send.is (sent_made c.in-Send.value _ _ _ _ c.in-Ok.answer _ c.of_send.ensures
    c.in-Ok.ensures.answer)

pub returns-in-Ok-try_send-clause-answer : goal.returns-in-Ok-try_send-clause-answer
returns-in-Ok-try_send-clause-answer g c = rw c.in-TrySend.is
    (tried_to_send_made c.in-TrySend.value _ _ _ _ c.in-Ok-try_send.answer _ c.of_try_send.ensures c.in-Ok-try_send.ensures.answer)

pub returns-in-Ok-try_receive-clause-answer : goal.returns-in-Ok-try_receive-clause-answer
returns-in-Ok-try_receive-clause-answer g c = rw c.in-TryReceive.is
    (tried_to_receive_made _ _ _ _ c.in-Ok-try_receive.answer _ c.of_try_receive.ensures c.in-Ok-try_receive.ensures.answer)

pub returns-in-Ok-close-clause-answer : goal.returns-in-Ok-close-clause-answer
returns-in-Ok-close-clause-answer g c = rw c.in-Close.is (closed_made _ _ _ _ c.in-Ok-close.field-0 c.in-Ok-close.ensures.answer)

pub returns-in-Ok-cancel_channel-clause-answer : goal.returns-in-Ok-cancel_channel-clause-answer
returns-in-Ok-cancel_channel-clause-answer g c = rw c.in-CancelChannel.is
    (cancelled_made _ _ _ _ c.in-Ok-cancel_channel.field-0 c.in-Ok-cancel_channel.ensures.answer)

pub returns-in-Err-clause-answer : goal.returns-in-Err-clause-answer
returns-in-Err-clause-answer g c = rw c.in-Send.is (send_part c.in-Send.value _ _ c.in-Err.ensures.answer)

pub returns-in-Err-try_send-clause-answer : goal.returns-in-Err-try_send-clause-answer
returns-in-Err-try_send-clause-answer g c = rw c.in-TrySend.is
    (try_send_part c.in-TrySend.value _ _ c.in-Err-try_send.ensures.answer)

pub returns-in-Err-receive-clause-answer : goal.returns-in-Err-receive-clause-answer
returns-in-Err-receive-clause-answer g c = rw c.in-Receive.is (receive_part _ c.args.value c.in-Err-receive.ensures.answer)

pub returns-in-Err-receive-2-clause-answer : goal.returns-in-Err-receive-2-clause-answer
returns-in-Err-receive-2-clause-answer g c = rw c.in-Each.is (each_part _ c.args.value c.in-Err-receive-2.ensures.answer)

pub returns-in-Err-try_receive-clause-answer : goal.returns-in-Err-try_receive-clause-answer
returns-in-Err-try_receive-clause-answer g c = rw c.in-TryReceive.is (try_receive_part _ c.args.value c.in-Err-try_receive.ensures.answer)

pub returns-in-Err-close-clause-answer : goal.returns-in-Err-close-clause-answer
returns-in-Err-close-clause-answer g c = rw c.in-Close.is (close_part _ c.args.value c.in-Err-close.ensures.answer)

pub returns-in-Err-cancel_channel-clause-answer : goal.returns-in-Err-cancel_channel-clause-answer
returns-in-Err-cancel_channel-clause-answer g c = rw c.in-CancelChannel.is
    (cancel_part _ c.args.value c.in-Err-cancel_channel.ensures.answer)

pub returns-in-Ok-clause-same : goal.returns-in-Ok-clause-same
returns-in-Ok-clause-same g c = c.in-Ok.ensures.same

pub returns-in-Ok-try_send-clause-same : goal.returns-in-Ok-try_send-clause-same
returns-in-Ok-try_send-clause-same g c = c.in-Ok-try_send.ensures.same

pub returns-in-Ok-receive-clause-same : goal.returns-in-Ok-receive-clause-same
returns-in-Ok-receive-clause-same g c = c.in-Ok-receive.ensures.same

pub returns-in-Ok-receive-2-clause-same : goal.returns-in-Ok-receive-2-clause-same
returns-in-Ok-receive-2-clause-same g c = c.in-Ok-receive-2.ensures.same

pub returns-in-Ok-try_receive-clause-same : goal.returns-in-Ok-try_receive-clause-same
returns-in-Ok-try_receive-clause-same g c = c.in-Ok-try_receive.ensures.same

pub returns-in-Ok-close-clause-same : goal.returns-in-Ok-close-clause-same
returns-in-Ok-close-clause-same g c = c.in-Ok-close.ensures.same

pub returns-in-Ok-cancel_channel-clause-same : goal.returns-in-Ok-cancel_channel-clause-same
returns-in-Ok-cancel_channel-clause-same g c = c.in-Ok-cancel_channel.ensures.same

pub returns-in-Err-clause-same : goal.returns-in-Err-clause-same
returns-in-Err-clause-same g c = c.in-Err.ensures.same

pub returns-in-Err-try_send-clause-same : goal.returns-in-Err-try_send-clause-same
returns-in-Err-try_send-clause-same g c = c.in-Err-try_send.ensures.same

pub returns-in-Err-receive-clause-same : goal.returns-in-Err-receive-clause-same
returns-in-Err-receive-clause-same g c = c.in-Err-receive.ensures.same

pub returns-in-Err-receive-2-clause-same : goal.returns-in-Err-receive-2-clause-same
returns-in-Err-receive-2-clause-same g c = c.in-Err-receive-2.ensures.same

pub returns-in-Err-try_receive-clause-same : goal.returns-in-Err-try_receive-clause-same
returns-in-Err-try_receive-clause-same g c = c.in-Err-try_receive.ensures.same

pub returns-in-Err-close-clause-same : goal.returns-in-Err-close-clause-same
returns-in-Err-close-clause-same g c = c.in-Err-close.ensures.same

pub returns-in-Err-cancel_channel-clause-same : goal.returns-in-Err-cancel_channel-clause-same
returns-in-Err-cancel_channel-clause-same g c = c.in-Err-cancel_channel.ensures.same

pub returns-in-Ok-receive-clause-answer : goal.returns-in-Ok-receive-clause-answer
returns-in-Ok-receive-clause-answer g c = rw c.in-Receive.is
    (received_made _ c.args.value _ _ c.in-Ok-receive.answer _ c.of_receive.ensures c.in-Ok-receive.ensures.answer)

pub returns-in-Ok-receive-2-clause-answer : goal.returns-in-Ok-receive-2-clause-answer
returns-in-Ok-receive-2-clause-answer g c = rw c.in-Each.is
    (each_made _ c.args.value _ _ c.in-Ok-receive-2.answer _ c.of_receive-in-Ok-receive-2.ensures c.in-Ok-receive-2.ensures.answer)
