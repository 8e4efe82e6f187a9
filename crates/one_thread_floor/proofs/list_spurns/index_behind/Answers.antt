use Rattle.std.specs.Prelude.{◌≡◌, false, None}
use Rattle.std.proofs.Common.{subst, sym, arith}
use Rattle.channel_model.specs.Channels.{Channel}
use Rattle.channel_model.specs.declared.standing.Standing.{Standing}
use Rattle.one_thread_floor.specs.ListStands.{PlacesAscend, stands_behind, IsBehind}
use Rattle.one_thread_floor.proofs.OneChannel.{here}
use Rattle.one_thread_floor.proofs.ListSpurns.{none_behind, few_behind}
use Rattle.one_thread_floor.proofs.list_spurns.index_behind.Goals as goal

pub index_at-requires : goal.index_at-requires
index_at-requires c = subst (λ (ch : Channel). PlacesAscend (λ o. o.place) ch.queue)
    (sym (here c.args.channels.now.items c.args.c c.index.result.now c.requires.channel c.index.ensures)) c.requires.order

pub returns-then-count-i : goal.returns-then-count-i
returns-then-count-i c = subst (λ (ch : Channel). IsBehind c.args.count c.args.place c.in-Some.i ch.queue)
    (here c.args.channels.now.items c.args.c c.index.result.now c.requires.channel c.index.ensures)
    (record {
      within = omega (arith, c.in-Some.ensures.within);
      behind = c.if-count-i.true;
      at = c.in-Some.ensures.at;
    })

pub returns-else-count-i : goal.returns-else-count-i
returns-else-count-i c =
    let same = here c.args.channels.now.items c.args.c c.index.result.now c.requires.channel c.index.ensures in
    let d : Standing = record { place = 0; value = 0; holder = None } in
    let order : PlacesAscend (λ (o : Standing). o.place) c.index.result.now.queue.items =
    subst (λ (ch : Channel). PlacesAscend (λ (o : Standing). o.place) ch.queue) (sym same) c.requires.order in
    subst (λ (ch : Channel). stands_behind c.args.count c.args.place 0 ch.queue ≡ false) same
    (few_behind c.args.count c.args.place 0 c.in-Some.i 0 order.below c.index.result.now.queue.items d order.ascend
    (omega (arith, c.in-Some.ensures.within)) (c.in-Some.ensures.at d) (omega (arith, c.if-count-i.false)))

pub returns-in_default : goal.returns-in_default
returns-in_default c = subst (λ (ch : Channel). stands_behind c.args.count c.args.place 0 ch.queue ≡ false)
    (here c.args.channels.now.items c.args.c c.index.result.now c.requires.channel c.index.ensures)
    (none_behind c.args.count c.args.place 0 c.index.result.now.queue.items c.in_default.ensures.none)
