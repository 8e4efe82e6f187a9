use Rattle.std.specs.Prelude.{◌≡◌, ◌≤◌, true, false, refl}
use Rattle.std.proofs.Common.{arith, sym, ap, ◌∙◌}
use Rattle.channel_model.specs.declared.acts.Act.TheVariants.{Await}
use Rattle.channel_model.specs.Channels.{same_wait}
use Rattle.channel_model.specs.Needs.{JoinsWait}
use Rattle.channel_model.specs.Histories.{replay}
use Rattle.channel_model.proofs.Waits.{same_wait-eq}
use Rattle.one_thread_floor.specs.Entries.{channel_entries}
use Rattle.one_thread_floor.specs.ListStands.{wait_in, named}
use Rattle.one_thread_floor.specs.ListSteps.{state_in}
use Rattle.one_thread_floor.proofs.ListEntries.{began}
use Rattle.one_thread_floor.proofs.ListMay.{may_at, are_of, needs_of, told_needs}
use Rattle.one_thread_floor.proofs.ListTold.{made_needs, same_await, when_true, when_false}
use Rattle.one_thread_floor.proofs.list_floor.ListFloor.step_await.Goals as goal

pub may_await-requires : goal.may_await-requires
may_await-requires c = are_of _ c.args.self.now.channels.items _ c.args.self.now.stands

pub returns-then-not-may_await-clause-answer : goal.returns-then-not-may_await-clause-answer
returns-then-not-may_await-clause-answer c = c.if-not-may_await.ensures
    ∙ may_at _ c.args.self.now.channels.items _ c.args.who (Await c.args.c c.args.place c.args.main c.args.clause) c.args.self.now.stands

pub returns-then-begins-clause-answer : goal.returns-then-begins-clause-answer
returns-then-begins-clause-answer c = c.if-not-may_await.ensures
    ∙ may_at _ c.args.self.now.channels.items _ c.args.who (Await c.args.c c.args.place c.args.main c.args.clause) c.args.self.now.stands

pub returns-then-is_open_wait-clause-answer : goal.returns-then-is_open_wait-clause-answer
returns-then-is_open_wait-clause-answer c = c.if-not-may_await.ensures
    ∙ may_at _ c.args.self.now.channels.items _ c.args.who (Await c.args.c c.args.place c.args.main c.args.clause) c.args.self.now.stands

pub returns-else-is_open_wait-clause-answer : goal.returns-else-is_open_wait-clause-answer
returns-else-is_open_wait-clause-answer c = c.if-not-may_await.ensures
    ∙ may_at _ c.args.self.now.channels.items _ c.args.who (Await c.args.c c.args.place c.args.main c.args.clause) c.args.self.now.stands

pub begin_receiver-requires-clause-channel : goal.begin_receiver-requires-clause-channel
begin_receiver-requires-clause-channel c = (needs_of _ (state_in (λ d p. 0) c.args.self.now.channels.items) c.args.who
    (Await c.args.c c.args.place c.args.main c.args.clause) (sym (c.if-not-may_await.ensures))).0

pub begin_receiver-requires-clause-is_open : goal.begin_receiver-requires-clause-is_open
begin_receiver-requires-clause-is_open c = (needs_of _ (state_in (λ d p. 0) c.args.self.now.channels.items) c.args.who
    (Await c.args.c c.args.place c.args.main c.args.clause) (sym (c.if-not-may_await.ensures))).1.open_now

pub begin_receiver-requires-clause-left : goal.begin_receiver-requires-clause-left
begin_receiver-requires-clause-left c =
    let h = (needs_of _ (state_in (λ d p. 0) c.args.self.now.channels.items) c.args.who
    (Await c.args.c c.args.place c.args.main c.args.clause) (sym (c.if-not-may_await.ensures))).1.left in
    let k = c.args.self.now.stands.places c.args.c in
    omega (arith, h, k)

pub begin_receiver-requires-clause-nothing : goal.begin_receiver-requires-clause-nothing
begin_receiver-requires-clause-nothing c = (needs_of _ (state_in (λ d p. 0) c.args.self.now.channels.items) c.args.who
    (Await c.args.c c.args.place c.args.main c.args.clause) (sym (c.if-not-may_await.ensures))).2

pub join_receiver-requires-clause-channel : goal.join_receiver-requires-clause-channel
join_receiver-requires-clause-channel c = (needs_of _ (state_in (λ d p. 0) c.args.self.now.channels.items) c.args.who
    (Await c.args.c c.args.place c.args.main c.args.clause) (sym (c.if-not-may_await.ensures))).0

pub join_receiver-requires-clause-is_open : goal.join_receiver-requires-clause-is_open
join_receiver-requires-clause-is_open c = (needs_of _ (state_in (λ d p. 0) c.args.self.now.channels.items) c.args.who
    (Await c.args.c c.args.place c.args.main c.args.clause) (sym (c.if-not-may_await.ensures))).1.open_now

pub join_receiver-requires-clause-left : goal.join_receiver-requires-clause-left
join_receiver-requires-clause-left c =
    let h = (needs_of _ (state_in (λ d p. 0) c.args.self.now.channels.items) c.args.who
    (Await c.args.c c.args.place c.args.main c.args.clause) (sym (c.if-not-may_await.ensures))).1.left in
    let k = c.args.self.now.stands.places c.args.c in
    omega (arith, h, k)

pub join_receiver-requires-clause-nothing : goal.join_receiver-requires-clause-nothing
join_receiver-requires-clause-nothing c = (needs_of _ (state_in (λ d p. 0) c.args.self.now.channels.items) c.args.who
    (Await c.args.c c.args.place c.args.main c.args.clause) (sym (c.if-not-may_await.ensures))).2

pub join_late_receiver-requires-clause-channel : goal.join_late_receiver-requires-clause-channel
join_late_receiver-requires-clause-channel c = (needs_of _ (state_in (λ d p. 0) c.args.self.now.channels.items) c.args.who
    (Await c.args.c c.args.place c.args.main c.args.clause) (sym (c.if-not-may_await.ensures))).0

pub join_late_receiver-requires-clause-is_open : goal.join_late_receiver-requires-clause-is_open
join_late_receiver-requires-clause-is_open c = (needs_of _ (state_in (λ d p. 0) c.args.self.now.channels.items) c.args.who
    (Await c.args.c c.args.place c.args.main c.args.clause) (sym (c.if-not-may_await.ensures))).1.open_now

pub join_late_receiver-requires-clause-left : goal.join_late_receiver-requires-clause-left
join_late_receiver-requires-clause-left c =
    let h = (needs_of _ (state_in (λ d p. 0) c.args.self.now.channels.items) c.args.who
    (Await c.args.c c.args.place c.args.main c.args.clause) (sym (c.if-not-may_await.ensures))).1.left in
    let k = c.args.self.now.stands.places c.args.c in
    omega (arith, h, k)

pub join_late_receiver-requires-clause-nothing : goal.join_late_receiver-requires-clause-nothing
join_late_receiver-requires-clause-nothing c = (needs_of _ (state_in (λ d p. 0) c.args.self.now.channels.items) c.args.who
    (Await c.args.c c.args.place c.args.main c.args.clause) (sym (c.if-not-may_await.ensures))).2

pub begin_receiver-requires-clause-clause : goal.begin_receiver-requires-clause-clause
begin_receiver-requires-clause-clause c = when_true (same_wait c.args.main (named c.args.c c.args.place)) (c.args.clause ≤ 7) _
    (sym c.is_named-begins.ensures ∙ c.if-begins.true) (needs_of _ (state_in (λ d p. 0) c.args.self.now.channels.items) c.args.who
    (Await c.args.c c.args.place c.args.main c.args.clause) (sym (c.if-not-may_await.ensures))).3

pub join_receiver-requires-clause-joins : goal.join_receiver-requires-clause-joins
join_receiver-requires-clause-joins c = when_false (same_wait c.args.main (named c.args.c c.args.place)) _
    (JoinsWait c.args.who c.args.clause c.args.c (wait_in c.args.self.now.channels.items c.args.main)) (sym c.is_named-begins.ensures
    ∙ c.if-begins.false)
    (needs_of _ (state_in (λ d p. 0) c.args.self.now.channels.items) c.args.who (Await c.args.c c.args.place c.args.main c.args.clause)
    (sym (c.if-not-may_await.ensures))).3

pub join_late_receiver-requires-clause-joins : goal.join_late_receiver-requires-clause-joins
join_late_receiver-requires-clause-joins c = when_false (same_wait c.args.main (named c.args.c c.args.place)) _
    (JoinsWait c.args.who c.args.clause c.args.c (wait_in c.args.self.now.channels.items c.args.main)) (sym c.is_named-begins.ensures
    ∙ c.if-begins.false)
    (needs_of _ (state_in (λ d p. 0) c.args.self.now.channels.items) c.args.who (Await c.args.c c.args.place c.args.main c.args.clause)
    (sym (c.if-not-may_await.ensures))).3

pub is_open_wait-requires : goal.is_open_wait-requires
is_open_wait-requires c = began c.args.who c.args.clause c.args.c _
    (when_false (same_wait c.args.main (named c.args.c c.args.place)) _
    (JoinsWait c.args.who c.args.clause c.args.c (wait_in c.args.self.now.channels.items c.args.main)) (sym c.is_named-begins.ensures
    ∙ c.if-begins.false)
    (needs_of _ (state_in (λ d p. 0) c.args.self.now.channels.items) c.args.who (Await c.args.c c.args.place c.args.main c.args.clause)
    (sym (c.if-not-may_await.ensures))).3)

pub returns-then-begins-clause-made : goal.returns-then-begins-clause-made
returns-then-begins-clause-made c =
    let mine = told_needs _ c.args.self.now.channels.items (replay (channel_entries c.args.self.now.entries)) c.args.who
    (Await c.args.c c.args.place c.args.main c.args.clause) c.args.self.now.stands
    (c.if-not-may_await.ensures) in
    let made = made_needs c.args.who _ _ _ refl c.begin_receiver.new.self.legal c.begin_receiver.ensures.made in
    let same : c.begin_receiver.result ≡ c.args.place = made.1.first ∙ sym mine.1.first in
    same_await _ _ _ _ _ _ _ _ _ same (ap (λ q. named c.args.c q) same ∙ sym (same_wait-eq c.args.main (named c.args.c c.args.place)
    (sym c.is_named-begins.ensures ∙ c.if-begins.true))) c.begin_receiver.ensures.made

pub returns-then-is_open_wait-clause-made : goal.returns-then-is_open_wait-clause-made
returns-then-is_open_wait-clause-made c =
    let mine = told_needs _ c.args.self.now.channels.items (replay (channel_entries c.args.self.now.entries)) c.args.who
    (Await c.args.c c.args.place c.args.main c.args.clause) c.args.self.now.stands
    (c.if-not-may_await.ensures) in
    let made = made_needs c.args.who _ _ _ refl c.join_receiver.new.self.legal c.join_receiver.ensures.made in
    let same : c.join_receiver.result ≡ c.args.place = made.1.first ∙ sym mine.1.first in
    same_await _ _ _ _ _ _ _ _ _ same (refl) c.join_receiver.ensures.made

pub returns-else-is_open_wait-clause-made : goal.returns-else-is_open_wait-clause-made
returns-else-is_open_wait-clause-made c =
    let mine = told_needs _ c.args.self.now.channels.items (replay (channel_entries c.args.self.now.entries)) c.args.who
    (Await c.args.c c.args.place c.args.main c.args.clause) c.args.self.now.stands
    (c.if-not-may_await.ensures) in
    let made = made_needs c.args.who _ _ _ refl c.join_late_receiver.new.self.legal c.join_late_receiver.ensures.made in
    let same : c.join_late_receiver.result ≡ c.args.place = made.1.first ∙ sym mine.1.first in
    same_await _ _ _ _ _ _ _ _ _ same (refl) c.join_late_receiver.ensures.made
