use Rattle.select_calls.proofs.ClausesAt.{call_there}
use Rattle.select_calls.proofs.ClausesApart.{may_register}
use Rattle.select_calls.proofs.placing.place_at.Goals as goal

pub place_send-requires-clause-can : goal.place_send-requires-clause-can
place_send-requires-clause-can g c = c.requires.may.may.may_call _ _
    (call_there c.args.clauses.now c.args.i _ _ c.requires.may.there c.in-OnSend.is)

pub place_send-requires-clause-kind : goal.place_send-requires-clause-kind
place_send-requires-clause-kind g c = c.requires.may.waits _
    (call_there c.args.clauses.now c.args.i _ _ c.requires.may.there c.in-OnSend.is)

pub place_send-requires-clause-joins : goal.place_send-requires-clause-joins
place_send-requires-clause-joins g c = may_register c.requires.may
    (call_there c.args.clauses.now c.args.i _ _ c.requires.may.there c.in-OnSend.is)

pub place_receive-requires-clause-can : goal.place_receive-requires-clause-can
place_receive-requires-clause-can g c = c.requires.may.may.may_call _ _
    (call_there c.args.clauses.now c.args.i _ _ c.requires.may.there c.in-OnReceive.is)

pub place_receive-requires-clause-joins : goal.place_receive-requires-clause-joins
place_receive-requires-clause-joins g c = may_register c.requires.may
    (call_there c.args.clauses.now c.args.i _ _ c.requires.may.there c.in-OnReceive.is)

pub returns-in-OnSend-clause-answer : goal.returns-in-OnSend-clause-answer
returns-in-OnSend-clause-answer g c = record {
  call = _;
  at =
      call_there c.args.clauses.now c.args.i _ _ c.requires.may.there c.in-OnSend.is;
  answer = c.place_send.ensures.answer;
}

pub returns-in-OnReceive-clause-answer : goal.returns-in-OnReceive-clause-answer
returns-in-OnReceive-clause-answer g c = record {
  call = _;
  at =
      call_there c.args.clauses.now c.args.i _ _ c.requires.may.there c.in-OnReceive.is;
  answer = c.place_receive.ensures.answer;
}
