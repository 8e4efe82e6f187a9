use Rattle.std.proofs.Common.{ap, sym, ◌∙◌, arith, option_map}
use Rattle.select_calls.specs.Clauses.{call_of}
use Rattle.poll_states.specs.Frames.{config_of}
use Rattle.poll_states.proofs.Codes.{clause_taken, clause_room, clauses_taken, clauses_all}
use Rattle.poll_states.proofs.coroutine.Coroutine.clauses_of.Goals as goal

pub push-requires : goal.push-requires
push-requires g c = (
  omega arith,
  clause_room (config_of c.args.self.now) c.loop-rest.clauses.items c.loop-rest.rest.now _ _ c.in-Some.clause 7 c.in-len1-up.len_at_least
      (ap (option_map call_of) (sym c.in-Some.is) ∙ c.clause_of.ensures) c.loop-rest.invariant c.requires,
)

pub loop-rest-preserved : goal.loop-rest-preserved
loop-rest-preserved g c =
    rw c.push.ensures.items (clause_taken (config_of c.args.self.now) c.loop-rest.clauses.items c.loop-rest.rest.now _ _ c.in-Some.clause
    c.in-len1-up.len_at_least (ap (option_map call_of) (sym c.in-Some.is) ∙ c.clause_of.ensures) c.loop-rest.invariant)

pub returns-in_default-clause_of : goal.returns-in_default-clause_of
returns-in_default-clause_of g c =
    clauses_taken (config_of c.args.self.now) c.loop-rest.clauses.items c.loop-rest.rest.now _ _ c.in-len1-up.len_at_least
    (ap (option_map call_of) (sym c.in_default-clause_of.is) ∙ c.clause_of.ensures) c.loop-rest.invariant

pub returns : goal.returns
returns g c =
    clauses_all (config_of c.args.self.now) c.loop-rest.clauses.items c.loop-rest.rest.now _ c.in_default.len_below c.loop-rest.invariant
