use Rattle.std.specs.Prelude.{refl}
use Rattle.std.proofs.Common.{◌∙◌}
use Rattle.channel_model.specs.Histories.{replay}
use Rattle.one_thread_floor.specs.Entries.{channel_entries}
use Rattle.one_thread_floor.proofs.ListMay.{may_at, told_needs}
use Rattle.one_thread_floor.proofs.ListTold.{own_open, withdrawn_now}
use Rattle.channel_model.specs.declared.acts.Act.TheVariants.{Withdraw}
use Rattle.one_thread_floor.proofs.list_floor.ListFloor.step_withdraw.Goals as goal

pub returns-then-not-may_withdraw-clause-answer : goal.returns-then-not-may_withdraw-clause-answer
returns-then-not-may_withdraw-clause-answer c = c.if-not-may_withdraw.ensures
    ∙ may_at _ c.args.self.now.channels.items _ c.args.who (Withdraw c.args.w c.args.why) c.args.self.now.stands

pub withdraw-requires-clause-own : goal.withdraw-requires-clause-own
withdraw-requires-clause-own c =
    let es = channel_entries c.args.self.now.entries in
    own_open c.args.who _ (told_needs _ c.args.self.now.channels.items (replay es) c.args.who (Withdraw c.args.w c.args.why)
    c.args.self.now.stands c.if-not-may_withdraw.ensures)

pub returns-clause-made : goal.returns-clause-made
returns-clause-made c =
    let es = channel_entries c.args.self.now.entries in
    withdrawn_now c.args.who c.args.w c.args.why _ _ c.withdraw.result refl
    (told_needs _ c.args.self.now.channels.items (replay es) c.args.who (Withdraw c.args.w c.args.why) c.args.self.now.stands
    c.if-not-may_withdraw.ensures) c.withdraw.ensures.answer
