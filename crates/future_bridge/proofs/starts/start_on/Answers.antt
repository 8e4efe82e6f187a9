use Rattle.job_words.specs.Rangers.{ranger_floor}
use Rattle.forest_calls.proofs.PassesStayOwn.{stays_own, gives_on}
use Rattle.future_bridge.proofs.StartsGo.{start_same, starts}
use Rattle.future_bridge.proofs.starts.start_on.Goals as goal

pub returns-clause-own : goal.returns-clause-own
returns-clause-own c =
    stays_own c.args.ranger.now c.start-started.new.self c.args.who c.start-started.ensures.anchor
    (start_same c.args.who c.args.row (ranger_floor c.args.ranger.now) (ranger_floor c.start-started.new.self) c.start-started.result
    c.start-started.ensures.answer)
    c.requires.can.caller

pub returns-clause-giving : goal.returns-clause-giving
returns-clause-giving c = gives_on c.args.ranger.now c.start-started.new.self c.start-started.ensures.anchor

pub returns-clause-started : goal.returns-clause-started
returns-clause-started c =
    starts c.args.who c.args.row (ranger_floor c.args.ranger.now) (ranger_floor c.start-started.new.self) c.start-started.result
    c.start-started.new.self.pass.now.legal c.start-started.ensures.answer
