use Rattle.std.specs.Prelude.{refl}
use Rattle.std.proofs.Common.{sym, ◌∙◌, subst}
use Rattle.one_thread_floor.specs.Entries.{channel_entries}
use Rattle.one_thread_floor.specs.ListSteps.{state_in}
use Rattle.channel_model.specs.declared.acts.Act.TheVariants.{Take}
use Rattle.channel_model.specs.Channels.{Channel}
use Rattle.channel_model.specs.Needs.{IsFirstOffer}
use Rattle.one_thread_floor.proofs.ListTold.{some_first_offer, same_first_offer}
use Rattle.one_thread_floor.proofs.ListMay.{may_at, are_of, needs_of}
use Rattle.one_thread_floor.proofs.ListTold.{made_needs, same_take}
use Rattle.one_thread_floor.proofs.list_floor.ListFloor.step_take.Goals as goal

pub may_take-requires : goal.may_take-requires
may_take-requires c = are_of _ c.args.self.now.channels.items _ c.args.self.now.stands

pub returns-then-not-may_take-clause-answer : goal.returns-then-not-may_take-clause-answer
returns-then-not-may_take-clause-answer c = c.if-not-may_take.ensures c.args.who
    ∙ may_at _ c.args.self.now.channels.items _ c.args.who (Take c.args.c c.args.place c.args.value) c.args.self.now.stands

pub take-requires-clause-channel : goal.take-requires-clause-channel
take-requires-clause-channel c = (needs_of _ (state_in (λ d p. 0) c.args.self.now.channels.items) c.args.who
    (Take c.args.c c.args.place c.args.value)
    (sym (c.if-not-may_take.ensures c.args.who))).0

pub take-requires-clause-some : goal.take-requires-clause-some
take-requires-clause-some c = some_first_offer c.args.place c.args.value _
    (needs_of _ (state_in (λ d p. 0) c.args.self.now.channels.items) c.args.who
    (Take c.args.c c.args.place c.args.value) (sym (c.if-not-may_take.ensures c.args.who))).1

pub returns-clause-answer : goal.returns-clause-answer
returns-clause-answer c = c.if-not-may_take.ensures c.args.who
    ∙ may_at _ c.args.self.now.channels.items _ c.args.who (Take c.args.c c.args.place c.args.value) c.args.self.now.stands

pub returns-clause-made : goal.returns-clause-made
returns-clause-made c =
    let es = channel_entries c.args.self.now.entries in
    let mine = needs_of _ (state_in (λ d p. 0) c.args.self.now.channels.items) c.args.who (Take c.args.c c.args.place c.args.value)
    (sym (c.if-not-may_take.ensures c.args.who)) in
    let made = made_needs c.args.who _ _ _ refl c.take.new.self.legal c.take.ensures.made.made in
    let here = subst (λ (ch : Channel). IsFirstOffer c.take.result.0 c.take.result.1 ch.queue)
    (c.args.self.now.stands.channels_are c.args.c)
    made.1 in
    let same = same_first_offer c.take.result.0 c.take.result.1 c.args.place c.args.value _ here mine.1 in
    same_take _ _ _ _ _ _ _ _ same c.take.ensures.made.made
