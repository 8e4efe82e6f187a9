use Rattle.std.proofs.Common.{subst}
use Rattle.task_berths.specs.Steps.{AskAnswer}
use Rattle.task_berths.proofs.BusyHasACause.{busy_second, busy_third}
use Rattle.task_berths.proofs.taking.take_at.Goals as goal

pub returns-then-second-ne0-clause-taken : goal.returns-then-second-ne0-clause-taken
returns-then-second-ne0-clause-taken g c = busy_second g.T.Tagged.tag_of c.args.tag c.claim-first.result c.ask-second.result
    c.args.seat.now.me c.claim-first.new.seat.me c.ask-second.new.seat.me c.requires.lacks c.if-first-eq0.false c.if-first-ne0.false
    c.if-second-ne0.true c.claim-first.ensures.claims c.ask-second.ensures.asks

pub returns-then-third-ne0-clause-taken : goal.returns-then-third-ne0-clause-taken
returns-then-third-ne0-clause-taken g c = busy_third g.T.Tagged.tag_of c.args.tag c.claim-first.result c.claim-third.result
    c.args.seat.now.me c.claim-first.new.seat.me c.ask-second.new.seat.me c.claim-third.new.seat.me c.requires.lacks c.if-first-eq0.false
    c.if-third-ne0.true c.claim-first.ensures.claims
    (subst (λ x. AskAnswer c.args.tag c.claim-first.result x c.claim-first.new.seat.me c.ask-second.new.seat.me) c.if-second-ne0.false
    c.ask-second.ensures.asks) c.claim-third.ensures.claims
