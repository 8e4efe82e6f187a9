use Rattle.std.proofs.Common.{◌≡◌, ap, ◌∙◌, arith}
use Rattle.job_model.proofs.Spans.{setting_then}
use Rattle.word_rules.specs.declared.size.ForestSize.{ForestSize}
use Rattle.job_words.specs.Forests.{seen_by}
use Rattle.forest_calls.proofs.PassesStayOwn.{stays_own}
use Rattle.job_model.proofs.Own.{seen_attached, root_attached}
use Rattle.library_examples.proofs.AttachedChild.{attach_same, look_same, same_callers}
use Rattle.library_examples.proofs.bridges.attach_on.Goals as goal

pub attach-requires-clause-can : goal.attach-requires-clause-can
attach-requires-clause-can c = record { caller = c.requires.caller; attached = root_attached _ _ c.args.ranger.now.pass.now.legal }

pub attach-requires-clause-tag : goal.attach-requires-clause-tag
attach-requires-clause-tag c =
    let two : (seen_by c.args.ranger.now.pass.now).key.coroutines ≡ 2 = ap (λ (k : ForestSize). k.coroutines) c.args.ranger.now.of.1
    ∙ c.requires.size in
    omega (arith, two)

pub look-requires-clause-caller : goal.look-requires-clause-caller
look-requires-clause-caller c = same_callers 0 _ _ (attach_same _ _ _ _ _ _ _ c.attach.ensures.answer) c.requires.caller

pub returns-in-Some-clause-attached : goal.returns-in-Some-clause-attached
returns-in-Some-clause-attached c e = seen_attached _ _ _ _ _ c.look.new.self.pass.now.legal c.in-Some.ensures.answer

pub returns-in-Some-clause-own : goal.returns-in-Some-clause-own
returns-in-Some-clause-own c =
    stays_own c.args.ranger.now c.look.new.self 0 (c.look.ensures.anchor ∙ c.attach.ensures.anchor)
    (setting_then _ _ _ (attach_same _ _ _ _ _ _ _ c.attach.ensures.answer) (look_same _ _ _ _ _ c.look.ensures.answer))
    c.requires.caller

pub returns-in-None-clause-own : goal.returns-in-None-clause-own
returns-in-None-clause-own c =
    stays_own c.args.ranger.now c.look.new.self 0 (c.look.ensures.anchor ∙ c.attach.ensures.anchor)
    (setting_then _ _ _ (attach_same _ _ _ _ _ _ _ c.attach.ensures.answer) (look_same _ _ _ _ _ c.look.ensures.answer))
    c.requires.caller

pub returns-then-is_err-clause-own : goal.returns-then-is_err-clause-own
returns-then-is_err-clause-own c =
    stays_own c.args.ranger.now c.attach.new.self 0 c.attach.ensures.anchor (attach_same _ _ _ _ _ _ _ c.attach.ensures.answer)
    c.requires.caller
