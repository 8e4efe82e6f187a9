use Rattle.floor_rows.proofs.CellsStayDrawn.{all_still, one_more}
use Rattle.floor_rows.proofs.words.counted_at_once.send_one.Goals as goal

pub returns-in-Waits-clause-came : goal.returns-in-Waits-clause-came
returns-in-Waits-clause-came c =
    one_more c.args.counted.now c.args.pass.now c.send.new.pass c.args.waits.now.items c.add.new.numbers.items c.in-Waits.place
    c.send.ensures.same c.send.ensures.stays c.requires.came c.in-Waits.ensures.answer.2 c.in-Waits.ensures.answer.3 c.add.ensures

pub returns-in-Waits-clause-others : goal.returns-in-Waits-clause-others
returns-in-Waits-clause-others c =
    all_still c.args.counted.now c.args.pass.now c.send.new.pass c.args.others.now c.send.ensures.same c.send.ensures.stays
    c.requires.others

pub returns-in-Paired-clause-came : goal.returns-in-Paired-clause-came
returns-in-Paired-clause-came c =
    all_still c.args.counted.now c.args.pass.now c.send.new.pass c.args.waits.now.items c.send.ensures.same c.send.ensures.stays
    c.requires.came

pub returns-in-Paired-clause-others : goal.returns-in-Paired-clause-others
returns-in-Paired-clause-others c =
    all_still c.args.counted.now c.args.pass.now c.send.new.pass c.args.others.now c.send.ensures.same c.send.ensures.stays
    c.requires.others

pub returns-in-Broken-clause-came : goal.returns-in-Broken-clause-came
returns-in-Broken-clause-came c =
    all_still c.args.counted.now c.args.pass.now c.send.new.pass c.args.waits.now.items c.send.ensures.same c.send.ensures.stays
    c.requires.came

pub returns-in-Broken-clause-others : goal.returns-in-Broken-clause-others
returns-in-Broken-clause-others c =
    all_still c.args.counted.now c.args.pass.now c.send.new.pass c.args.others.now c.send.ensures.same c.send.ensures.stays
    c.requires.others
