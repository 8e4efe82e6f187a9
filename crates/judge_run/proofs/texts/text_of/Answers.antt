use Rattle.std.proofs.Common.{◌++◌, ◌∙◌, ap}
use Rattle.judge_run.proofs.texts.text_of.Goals as goal

pub returns : goal.returns
returns c = record {
  hint = c.args.hint.now;
  text_is = c.in_ok-text.ensures ∙ ap (λ l. l ++ c.args.hint.now) c.in_ok-line.ensures;
}
