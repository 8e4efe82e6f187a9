use Rattle.history_check.proofs.OverBits.{set_over_of}
use Rattle.history_check.proofs.overs.set_over.Goals as goal

pub returns : goal.returns
returns c = set_over_of c.set_bit.result c.args.overs.now.items c.args.c c.args.place c.args.over c.index_mut.result.now c.set_bit.new.bits
    c.requires c.index_mut.ensures.value c.set_bit.ensures
