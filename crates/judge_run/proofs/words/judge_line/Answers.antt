use Rattle.std.proofs.Common.{rules, ◌∙◌, ap₂}
use Rattle.clap.specs.Words.{with_rule}
use Rattle.judge_run.proofs.words.judge_line.Goals as goal

pub returns : goal.returns
returns c =
    c.in_ok-line.ensures.shape c.option.ensures.local
    ∙ ap₂ with_rule (c.in_ok-arg.ensures.shape (search rules) ∙ ap₂ with_rule c.new.ensures.app c.switch.ensures.rule) c.option.ensures.rule
