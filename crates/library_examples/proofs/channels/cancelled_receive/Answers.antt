use Rattle.std.specs.Prelude.{◌≡◌, true, List, refl}
use Rattle.std.proofs.Common.{◌∙◌}
use Rattle.co_base.specs.declared.names.WaitId.{WaitId}
use Rattle.channel_model.specs.declared.acts.Settled.{Settled}
use Rattle.call_meaning.specs.Telling.{Told}
use Rattle.call_meaning.specs.ChannelCalls.{is_given_up}
use Rattle.channel_calls.specs.Calls.{TakesBack}
use Rattle.library_examples.proofs.AfterSends.{may_call_behind, kind_behind, may_call_waiting, holds_waiting}
use Rattle.library_examples.proofs.channels.cancelled_receive.Goals as goal

-- a wait that was taken back ended as cancelled, or with its element given up
ends_given_up : (w : WaitId) (outcome : Settled) (told : List Told) → TakesBack w outcome told → is_given_up outcome ≡ true
ends_given_up _ _ _ (TakesBack.withdrawn admits h) = refl
ends_given_up _ _ _ (TakesBack.late outcome admits given_up h) = given_up

pub receive_as-requires : goal.receive_as-requires
receive_as-requires g c = record { can = c.requires.one }

pub send_as-requires-clause-can : goal.send_as-requires-clause-can
send_as-requires-clause-can g c =
    may_call_behind 2 c.args.c _ _ _ _ _ (rw c.in-Ok-Waits.field-0-is at c.in-Ok-Waits.ensures.answer) c.requires.two

pub send_as-requires-clause-kind : goal.send_as-requires-clause-kind
send_as-requires-clause-kind g c =
    kind_behind c.args.c _ _ _ _ _ (rw c.in-Ok-Waits.field-0-is at c.in-Ok-Waits.ensures.answer) c.requires.kind

pub cancel_wait-requires-clause-can : goal.cancel_wait-requires-clause-can
cancel_wait-requires-clause-can g c = may_call_waiting _ _ _ _ _ _ _ _ _ _ _ (rw c.in-Ok-Waits.field-0-is at c.in-Ok-Waits.ensures.answer)
    c.in-Ok-send_as.ensures.answer c.requires.one

pub cancel_wait-requires-clause-holds : goal.cancel_wait-requires-clause-holds
cancel_wait-requires-clause-holds g c = holds_waiting _ _ _ _ _ _ _ _ _ _ _ (g.met.F.ChannelFloor.legal c.send_as.new.floor)
    c.requires.alone (rw c.in-Ok-Waits.field-0-is at c.in-Ok-Waits.ensures.answer) c.in-Ok-send_as.ensures.answer

pub returns-in-Err-send_as-clause-anchor : goal.returns-in-Err-send_as-clause-anchor
returns-in-Err-send_as-clause-anchor g c = c.send_as.ensures.anchor ∙ c.receive_as.ensures.anchor

pub returns-in-Err-clause-anchor : goal.returns-in-Err-clause-anchor
returns-in-Err-clause-anchor g c = c.receive_as.ensures.anchor

pub returns-in-Ok-cancel_wait-clause-given_up : goal.returns-in-Ok-cancel_wait-clause-given_up
returns-in-Ok-cancel_wait-clause-given_up g c = ends_given_up _ _ _ c.in-Ok-cancel_wait.ensures.answer.goes

pub returns-in-Ok : goal.returns-in-Ok
returns-in-Ok g c = record { anchor = c.receive_as.ensures.anchor; given_up = tt }

pub returns-in-Err-cancel_wait-clause-given_up : goal.returns-in-Err-cancel_wait-clause-given_up
returns-in-Err-cancel_wait-clause-given_up g c = tt

pub returns-in-Err-send_as-clause-given_up : goal.returns-in-Err-send_as-clause-given_up
returns-in-Err-send_as-clause-given_up g c = tt

pub returns-in-Err-clause-given_up : goal.returns-in-Err-clause-given_up
returns-in-Err-clause-given_up g c = tt
