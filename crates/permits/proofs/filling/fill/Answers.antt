use Rattle.std.proofs.Common.{◌∙◌, refl}
use Rattle.std.specs.Prelude.{[], ◌∷◌}
use Rattle.channel_model.specs.declared.acts.ChannelNote.TheVariants.{SendClosed}
use Rattle.call_meaning.specs.Telling.{heard}
use Rattle.call_meaning.specs.ChannelCalls.{sends, spent}
use Rattle.channel_calls.proofs.Repeated.{same_self}
use Rattle.permits.proofs.UsesGo.{heard_adds, met_adds}
use Rattle.permits.proofs.FillsGo.{begins, one_more, holds_none, filling_still, none_told, more_told, stops_told, stops_untouched}
use Rattle.permits.proofs.filling.fill.Goals as goal

pub loop-value-init : goal.loop-value-init
loop-value-init g c = record {
  same = same_self _;
  filling = begins _ _ _ _ c.requires.may;
  told = none_told _ _;
}

pub returns-in-Ok-Closed-clause-holds : goal.returns-in-Ok-Closed-clause-holds
returns-in-Ok-Closed-clause-holds g c =
    let i = c.loop-value.invariant in
    let added = heard_adds refl (rw c.in-Ok-Closed.field-0-is at c.in-Ok-Closed.ensures.answer) in
    holds_none _ _ _ _ _ (filling_still i.same.who added i.filling)

pub returns-in-Ok-Closed-clause-answer : goal.returns-in-Ok-Closed-clause-answer
returns-in-Ok-Closed-clause-answer g c =
    let i = c.loop-value.invariant in
    stops_told (λ m. heard (SendClosed c.args.p.now.c m c.in-Ok-Closed.v) ∷ []) c.loop-value-test.true i.told
    (rw c.in-Ok-Closed.field-0-is at c.in-Ok-Closed.ensures.answer)

pub returns-in-Ok-Spent-clause-holds : goal.returns-in-Ok-Spent-clause-holds
returns-in-Ok-Spent-clause-holds g c =
    let i = c.loop-value.invariant in
    let added = met_adds refl (rw c.in-Ok-Spent.field-0-is at c.in-Ok-Spent.ensures.answer) in
    holds_none _ _ _ _ _ (filling_still i.same.who added i.filling)

pub returns-in-Ok-Spent-clause-answer : goal.returns-in-Ok-Spent-clause-answer
returns-in-Ok-Spent-clause-answer g c =
    let i = c.loop-value.invariant in
    stops_told (λ m. spent (sends c.args.p.now.c m)) c.loop-value-test.true i.told
    (rw c.in-Ok-Spent.field-0-is at c.in-Ok-Spent.ensures.answer)

pub returns-in-Err-clause-answer : goal.returns-in-Err-clause-answer
returns-in-Err-clause-answer g c = stops_untouched c.loop-value-test.true c.loop-value.invariant.told c.in-Err.ensures.answer

pub loop-value-preserved : goal.loop-value-preserved
loop-value-preserved g c =
    let i = c.loop-value.invariant in
    let s = c.give_once.ensures.same in
    let given = rw c.in-Ok-Done.field-0-is at c.in-Ok-Done.ensures.answer in
    record {
      same = record {
        floor = s.floor ∙ i.same.floor;
        book = s.book ∙ i.same.book;
        wakes = s.wakes ∙ i.same.wakes;
        who = s.who
            ∙ i.same.who;
        anchor_is = s.anchor_is ∙ i.same.anchor_is;
      };
      filling = one_more i.same.who c.loop-value-test.true given i.filling;
      told = more_told i.told given;
    }
