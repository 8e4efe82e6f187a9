use Rattle.floor_rows.proofs.CellsStayDrawn.{all_still, one_more}
use Rattle.floor_rows.proofs.words.counted_at_once.receive_one.Goals as goal

pub returns-in-Waits-clause-came : goal.returns-in-Waits-clause-came
returns-in-Waits-clause-came c =
    one_more c.args.counted.now c.args.pass.now c.receive.new.pass c.args.waits.now.items c.add.new.numbers.items c.in-Waits.place
    c.receive.ensures.same c.receive.ensures.stays c.requires.came c.in-Waits.ensures.answer.2 c.in-Waits.ensures.answer.3 c.add.ensures

pub returns-in-Waits-clause-others : goal.returns-in-Waits-clause-others
returns-in-Waits-clause-others c =
    all_still c.args.counted.now c.args.pass.now c.receive.new.pass c.args.others.now c.receive.ensures.same c.receive.ensures.stays
    c.requires.others

pub returns-in-Value-clause-came : goal.returns-in-Value-clause-came
returns-in-Value-clause-came c =
    all_still c.args.counted.now c.args.pass.now c.receive.new.pass c.args.waits.now.items c.receive.ensures.same c.receive.ensures.stays
    c.requires.came

pub returns-in-Value-clause-others : goal.returns-in-Value-clause-others
returns-in-Value-clause-others c =
    all_still c.args.counted.now c.args.pass.now c.receive.new.pass c.args.others.now c.receive.ensures.same c.receive.ensures.stays
    c.requires.others

pub returns-in-Broken-clause-came : goal.returns-in-Broken-clause-came
returns-in-Broken-clause-came c =
    all_still c.args.counted.now c.args.pass.now c.receive.new.pass c.args.waits.now.items c.receive.ensures.same c.receive.ensures.stays
    c.requires.came

pub returns-in-Broken-clause-others : goal.returns-in-Broken-clause-others
returns-in-Broken-clause-others c =
    all_still c.args.counted.now c.args.pass.now c.receive.new.pass c.args.others.now c.receive.ensures.same c.receive.ensures.stays
    c.requires.others
