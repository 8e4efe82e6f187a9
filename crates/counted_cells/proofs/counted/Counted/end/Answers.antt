use Rattle.counted_cells.proofs.PassesEnd.{end_answer, end_stays}
use Rattle.counted_cells.proofs.counted.Counted.end.Goals as goal

pub returns-clause-ended : goal.returns-clause-ended
returns-clause-ended c =
    end_answer c.args.self.now.table.shared.key c.args.main.now.seat.me.0 c.args.pass.seat.me.0 c.end.new.main.me.0 c.end.ensures.took

pub returns-clause-stays : goal.returns-clause-stays
returns-clause-stays c =
    end_stays c.args.self.now.table.shared.key c.args.main.now.number c.args.main.now.seat.me.0 c.args.pass.seat.me.0
    c.end.new.main.me.0 c.args.main.now.numbered.1 c.end.ensures.took
