use Rattle.select_calls.proofs.ClausesAt.{call_at}
use Rattle.select_calls.proofs.AdmittedIn.{admitted_send, admitted_receive}
use Rattle.select_calls.proofs.placing.admit_at.Goals as goal

pub admit_all-requires : goal.admit_all-requires
admit_all-requires g c = record {
  can = c.requires.may.may_call _ _
      (call_at c.args.clauses.now c.args.i _ _ c.requires.there c.in-OnSend.is);
}

pub returns-in-OnSend-clause-answer : goal.returns-in-OnSend-clause-answer
returns-in-OnSend-clause-answer g c = admitted_send _ _ _ _ _ (call_at c.args.clauses.now c.args.i _ _ c.requires.there c.in-OnSend.is)
    c.admit_all.ensures.answer

pub returns-in-OnReceive-clause-answer : goal.returns-in-OnReceive-clause-answer
returns-in-OnReceive-clause-answer g c = admitted_receive _ (call_at c.args.clauses.now c.args.i _ _ c.requires.there c.in-OnReceive.is)
