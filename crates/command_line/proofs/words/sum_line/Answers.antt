use Rattle.std.proofs.Common.{rules, ◌∙◌, ◌≡◌, ap₂}
use Rattle.clap.specs.Words.{rule_of, with_rule}
use Rattle.command_line.specs.Commands.{size_option}
use Rattle.command_line.proofs.words.sum_line.Goals as goal

pub returns : goal.returns
returns c =
    let size_is : rule_of c.required-size.result ≡ size_option = search rules in
    c.in_ok-line.ensures.shape c.option-2.ensures.local
    ∙ ap₂ with_rule (c.in_ok-arg.ensures.shape (search rules) ∙ ap₂ with_rule c.new.ensures.app size_is) c.option-2.ensures.rule
