use Rattle.co_base.proofs.Flows.{filled_more}
use Rattle.program_input.proofs.reading.read_within.Goals as goal

pub loop-count-preserved : goal.loop-count-preserved
loop-count-preserved g c = let h = c.in-Ok.ensures in filled_more _ _ _ _ _ _ c.loop-count.count c.in-Ok.n c.args.limit
    c.loop-count.bytes.items c.read_behind.new.bytes.items c.loop-count.invariant h.length h.front h.fits h.given h.rises
