use Rattle.std.specs.Prelude.{◌<◌, length}
use Rattle.std.proofs.Common.{arith, sym, ap, ◌∙◌}
use Rattle.channel_model.specs.declared.acts.Kind.{Kind}
use Rattle.channel_model.specs.Channels.{suspends}
use Rattle.one_thread_floor.specs.ListStands.{channel_in}
use Rattle.one_thread_floor.proofs.ListMay.{less_told, four_more, gives_told, nobody_told}
use Rattle.one_thread_floor.proofs.list_may.may_offer.Goals as goal

pub returns-then-suspends : goal.returns-then-suspends
returns-then-suspends c = λ value.
    let lt : c.args.c < length c.args.kinds.now.items = omega (arith, c.args.kinds.now.ok.0, c.len.ensures, c.if-len-c.false) in
    c.may_name.ensures (λ d place. 0)
    ∙ four_more _ _ _ _ _ (less_told _ _ lt) (gives_told _ _ c.args.place (channel_in c.args.channels.now.items c.args.c)
    (c.requires.places c.args.c) c.if-not-gives_place.ensures)
    (nobody_told _ c.first_receiver.result c.first_receiver.ensures c.if-is_some.ensures)
    (ap (λ (k : Kind). suspends k) (sym c.kind_at.ensures) ∙ sym c.if-suspends.ensures)
