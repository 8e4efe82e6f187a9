use Rattle.std.specs.Prelude.{◌<◌, length}
use Rattle.std.proofs.Common.{arith, ◌∙◌}
use Rattle.one_thread_floor.specs.ListStands.{channel_in}
use Rattle.one_thread_floor.proofs.ListMay.{less_told, three_more, gives_told, nothing_told}
use Rattle.one_thread_floor.proofs.list_may.may_await.Goals as goal

pub returns : goal.returns
returns c =
    let lt : c.args.c < length c.args.kinds.now.items = omega (arith, c.args.kinds.now.ok.0, c.len.ensures, c.if-len-c.false) in
    c.may_name.ensures (λ d place. 0)
    ∙ three_more _ _ _ _ (less_told _ _ lt) (gives_told _ _ c.args.place (channel_in c.args.channels.now.items c.args.c)
    (c.requires.places c.args.c) c.if-not-gives_place.ensures)
    (nothing_told _ _ c.queue_len.ensures c.if-queue_len-ne0.false)
