use Rattle.std.specs.Prelude.{◌≡◌}
use Rattle.std.proofs.Common.{sym, ap, ◌∙◌}
use Rattle.channel_model.specs.Answers.{outcome_at}
use Rattle.one_thread_floor.proofs.ListMay.{may_at}
use Rattle.one_thread_floor.proofs.ListTold.{same_settle}
use Rattle.channel_model.specs.declared.acts.Act.TheVariants.{Settle}
use Rattle.one_thread_floor.proofs.list_floor.ListFloor.step_settle.Goals as goal

pub returns-in_default-clause-answer : goal.returns-in_default-clause-answer
returns-in_default-clause-answer c = c.in_default.ensures.answer
    ∙ may_at _ c.args.self.now.channels.items _ c.args.who (Settle c.args.w c.args.outcome) c.args.self.now.stands

pub returns-clause-answer : goal.returns-clause-answer
returns-clause-answer c = c.in-Some.ensures.answer
    ∙ may_at _ c.args.self.now.channels.items _ c.args.who (Settle c.args.w c.args.outcome) c.args.self.now.stands

pub returns-clause-made : goal.returns-clause-made
returns-clause-made c =
    let both = sym c.settle.ensures.answer.1
    ∙ ap (outcome_at c.in-Some.cancelled) (c.args.self.now.stands.waits_are c.args.w)
    ∙ c.in-Some.ensures.by in
    let same : c.settle.result ≡ c.args.outcome = cc in
    same_settle c.args.who c.args.w c.settle.result c.args.outcome _ _ same c.settle.ensures.answer.0
