use Rattle.std.proofs.Common.{arith}
use Rattle.co_base.proofs.Flows.{written_more}
use Rattle.co_base.proofs.writing.write_all.Goals as goal

pub loop-done-preserved : goal.loop-done-preserved
loop-done-preserved g c =
    let h = c.in-Ok.ensures in
    let k = c.split_at.ensures in
    written_more _ _ _ _ _ _ c.loop-done.done c.in-Ok.n c.args.bytes.now c.loop-done.invariant (rw k.back at h.count)
    (omega (arith, h.count, k.back_len)) (rw k.back at h.taken) h.rises
