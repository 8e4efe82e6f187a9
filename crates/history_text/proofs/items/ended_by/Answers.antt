use Rattle.std.proofs.Common.{ap, get_or, ◌∙◌}
use Rattle.report_reader.specs.Words.{texts, value_at}
use Rattle.history_text.specs.Items.{both_of, ended_by, ended_with}
use Rattle.history_text.proofs.WordCounts.{ended_many}
use Rattle.history_text.proofs.Placed.{all_placed, no_word}
use Rattle.history_text.proofs.items.ended_by.Goals as goal

pub returns-in_default-2 : goal.returns-in_default-2
returns-in_default-2 c = ended_many c.args.words.now c.in_default.len_at_least

pub returns-in-len1 : goal.returns-in-len1
returns-in-len1 c =
    c.ended_alone.ensures
    ∙ ap (λ ws. ended_by (texts ws)) (all_placed no_word c.args.words.now 1 c.in-len1.len_at_least c.in-len1.len_below)

pub returns-in-len2 : goal.returns-in-len2
returns-in-len2 c =
    c.ended_with.ensures ∙ (λ i. ended_with (get_or c.args.words.now 0 no_word).now (c.clause_at.ensures i) (c.value_of.ensures i))
    ∙ ap (λ ws. ended_by (texts ws)) (all_placed no_word c.args.words.now 2 c.in-len2.len_at_least c.in-len2.len_below)

pub returns-in_err-clause_at-in-len3 : goal.returns-in_err-clause_at-in-len3
returns-in_err-clause_at-in-len3 c =
    c.from_residual.ensures
    ∙ (λ i. both_of (get_or c.args.words.now 0 no_word).now (c.in_err-clause_at-in-len3.ensures i)
    (value_at (get_or c.args.words.now 2 no_word).now))
    ∙ ap (λ ws. ended_by (texts ws)) (all_placed no_word c.args.words.now 3 c.in-len3.len_at_least c.in-len3.len_below)

pub returns-in_err-value_of-in-len3 : goal.returns-in_err-value_of-in-len3
returns-in_err-value_of-in-len3 c =
    c.from_residual-in_err-value_of-in-len3.ensures
    ∙ (λ i. both_of (get_or c.args.words.now 0 no_word).now (c.in_ok-clause_at-in-len3.ensures i) (c.in_err-value_of-in-len3.ensures i))
    ∙ ap (λ ws. ended_by (texts ws)) (all_placed no_word c.args.words.now 3 c.in-len3.len_at_least c.in-len3.len_below)

pub returns-in_ok-value_of-in-len3 : goal.returns-in_ok-value_of-in-len3
returns-in_ok-value_of-in-len3 c =
    c.ended_with_both.ensures
    ∙ (λ i. both_of (get_or c.args.words.now 0 no_word).now (c.in_ok-clause_at-in-len3.ensures i) (c.in_ok-value_of-in-len3.ensures i))
    ∙ ap (λ ws. ended_by (texts ws)) (all_placed no_word c.args.words.now 3 c.in-len3.len_at_least c.in-len3.len_below)
