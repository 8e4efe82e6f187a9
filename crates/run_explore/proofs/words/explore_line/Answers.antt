use Rattle.std.proofs.Common.{rules, ◌∙◌, ap₂}
use Rattle.clap.specs.Words.{with_rule}
use Rattle.run_explore.proofs.words.explore_line.Goals as goal

pub returns : goal.returns
returns c =
    c.in_ok-line.ensures.shape c.option-6.ensures.local
    ∙ ap₂ with_rule
    (c.in_ok-arg-5.ensures.shape (search rules)
    ∙ ap₂ with_rule
    (c.in_ok-arg-4.ensures.shape (search rules)
    ∙ ap₂ with_rule
    (c.in_ok-arg-3.ensures.shape (search rules)
    ∙ ap₂ with_rule
    (c.in_ok-arg-2.ensures.shape (search rules)
    ∙ ap₂ with_rule (c.in_ok-arg.ensures.shape (search rules) ∙ ap₂ with_rule c.new.ensures.app c.option.ensures.rule)
    c.option-2.ensures.rule)
    c.option-3.ensures.rule) c.option-4.ensures.rule) c.option-5.ensures.rule) c.option-6.ensures.rule
