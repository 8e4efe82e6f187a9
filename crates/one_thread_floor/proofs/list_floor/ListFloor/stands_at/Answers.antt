use Rattle.std.specs.Prelude.{◌<◌, length}
use Rattle.std.proofs.Common.{sym, ap, ◌∙◌, subst, arith}
use Rattle.channel_model.specs.Laws.{StandsInOrder}
use Rattle.one_thread_floor.specs.Entries.{channel_entries}
use Rattle.one_thread_floor.specs.ListSnapshots.{stands_at as is_taken}
use Rattle.one_thread_floor.proofs.InOrder.{all_in_order}
use Rattle.one_thread_floor.proofs.OneChannel.{here, nothing_there}
use Rattle.one_thread_floor.proofs.list_floor.ListFloor.stands_at.Goals as goal

pub returns-then-len-c : goal.returns-then-len-c
returns-then-len-c c = sym (ap (is_taken c.args.place) (c.args.self.now.stands.channels_are c.args.c
    ∙ nothing_there c.args.self.now.channels.items c.args.c (omega (arith, c.len.ensures, c.if-len-c.true))))

pub stands_at-requires : goal.stands_at-requires
stands_at-requires c =
    let xs = c.args.self.now.channels.items in
    let lt : c.args.c < length xs = omega (arith, c.len.ensures, c.if-len-c.false) in
    subst StandsInOrder (sym (here xs c.args.c c.index.result.now lt c.index.ensures))
    (all_in_order _ xs (channel_entries c.args.self.now.entries) c.args.self.now.legal c.args.self.now.stands c.args.c)

pub returns : goal.returns
returns c =
    let xs = c.args.self.now.channels.items in
    let lt : c.args.c < length xs = omega (arith, c.len.ensures, c.if-len-c.false) in
    c.stands_at.ensures ∙ ap (is_taken c.args.place) (here xs c.args.c c.index.result.now lt c.index.ensures
    ∙ sym (c.args.self.now.stands.channels_are c.args.c))
