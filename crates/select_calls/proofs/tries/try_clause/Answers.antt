use Rattle.select_calls.proofs.ClausesAt.{call_at}
use Rattle.select_calls.proofs.tries.try_clause.Goals as goal

pub try_to_send-requires-clause-can : goal.try_to_send-requires-clause-can
try_to_send-requires-clause-can g c = c.requires.may.may_call _ _ (call_at c.args.clauses.now c.args.i _ _ c.requires.there c.in-OnSend.is)

pub try_to_send-requires-clause-kind : goal.try_to_send-requires-clause-kind
try_to_send-requires-clause-kind g c = c.requires.may.no_signal _ _ _
    (call_at c.args.clauses.now c.args.i _ _ c.requires.there c.in-OnSend.is)

pub try_to_receive-requires : goal.try_to_receive-requires
try_to_receive-requires g c = record {
  can = c.requires.may.may_call _ _
      (call_at c.args.clauses.now c.args.i _ _ c.requires.there c.in-OnReceive.is);
}

pub returns-in-OnSend-clause-answer : goal.returns-in-OnSend-clause-answer
returns-in-OnSend-clause-answer g c = record {
  call = _;
  at = call_at c.args.clauses.now c.args.i _ _ c.requires.there c.in-OnSend.is;
  answer = c.try_to_send.ensures.answer;
}

pub returns-in-OnReceive-clause-answer : goal.returns-in-OnReceive-clause-answer
returns-in-OnReceive-clause-answer g c = record {
  call = _;
  at = call_at c.args.clauses.now c.args.i _ _ c.requires.there c.in-OnReceive.is;
  answer = c.try_to_receive.ensures.answer;
}
