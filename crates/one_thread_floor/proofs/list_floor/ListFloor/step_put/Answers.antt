use Rattle.std.specs.Prelude.{◌≡◌, slice_get, refl}
use Rattle.std.proofs.Common.{arith, sym, ap, ◌∙◌}
use Rattle.one_thread_floor.specs.Entries.{channel_entries}
use Rattle.one_thread_floor.specs.ListSteps.{state_in}
use Rattle.std.specs.Prelude.{List}
use Rattle.channel_model.specs.declared.acts.Act.TheVariants.{Put}
use Rattle.channel_model.specs.declared.standing.Receiver.{Receiver}
use Rattle.channel_model.specs.Channels.{Channel}
use Rattle.one_thread_floor.proofs.ListMay.{may_at, are_of, needs_of}
use Rattle.one_thread_floor.proofs.ListTold.{made_needs, same_put}
use Rattle.one_thread_floor.proofs.list_floor.ListFloor.step_put.Goals as goal

pub may_put-requires : goal.may_put-requires
may_put-requires c = are_of _ c.args.self.now.channels.items _ c.args.self.now.stands

pub returns-then-not-may_put-clause-answer : goal.returns-then-not-may_put-clause-answer
returns-then-not-may_put-clause-answer c = c.if-not-may_put.ensures c.args.who c.args.value
    ∙ may_at _ c.args.self.now.channels.items _ c.args.who (Put c.args.c c.args.place c.args.value) c.args.self.now.stands

pub put-requires-clause-channel : goal.put-requires-clause-channel
put-requires-clause-channel c = (needs_of _ (state_in (λ d p. 0) c.args.self.now.channels.items) c.args.who
    (Put c.args.c c.args.place c.args.value)
    (sym (c.if-not-may_put.ensures c.args.who c.args.value))).0

pub put-requires-clause-is_open : goal.put-requires-clause-is_open
put-requires-clause-is_open c = (needs_of _ (state_in (λ d p. 0) c.args.self.now.channels.items) c.args.who
    (Put c.args.c c.args.place c.args.value)
    (sym (c.if-not-may_put.ensures c.args.who c.args.value))).1.open_now

pub put-requires-clause-left : goal.put-requires-clause-left
put-requires-clause-left c =
    let h = (needs_of _ (state_in (λ d p. 0) c.args.self.now.channels.items) c.args.who (Put c.args.c c.args.place c.args.value)
    (sym (c.if-not-may_put.ensures c.args.who c.args.value))).1.left in
    let k = c.args.self.now.stands.places c.args.c in
    omega (arith, h, k)

pub put-requires-clause-nobody : goal.put-requires-clause-nobody
put-requires-clause-nobody c = ap (λ (rs : List Receiver). slice_get rs 0)
    (needs_of _ (state_in (λ d p. 0) c.args.self.now.channels.items) c.args.who (Put c.args.c c.args.place c.args.value)
    (sym (c.if-not-may_put.ensures c.args.who c.args.value))).2

pub put-requires-clause-fits : goal.put-requires-clause-fits
put-requires-clause-fits c = (needs_of _ (state_in (λ d p. 0) c.args.self.now.channels.items) c.args.who
    (Put c.args.c c.args.place c.args.value)
    (sym (c.if-not-may_put.ensures c.args.who c.args.value))).3

pub returns-clause-answer : goal.returns-clause-answer
returns-clause-answer c = c.if-not-may_put.ensures c.args.who c.args.value
    ∙ may_at _ c.args.self.now.channels.items _ c.args.who (Put c.args.c c.args.place c.args.value) c.args.self.now.stands

pub returns-clause-made : goal.returns-clause-made
returns-clause-made c =
    let es = channel_entries c.args.self.now.entries in
    let mine = needs_of _ (state_in (λ d p. 0) c.args.self.now.channels.items) c.args.who (Put c.args.c c.args.place c.args.value)
    (sym (c.if-not-may_put.ensures c.args.who c.args.value)) in
    let made = made_needs c.args.who _ _ _ refl c.put.new.self.legal c.put.ensures.made in
    let same : c.put.result ≡ c.args.place = made.1.first ∙ ap (λ (ch : Channel). ch.next) (c.args.self.now.stands.channels_are c.args.c)
    ∙ sym mine.1.first in
    same_put _ _ _ _ _ _ _ same c.put.ensures.made
