use Rattle.std.proofs.Common.{ap, sym, ◌∙◌}
use Rattle.report_reader.specs.Words.{texts}
use Rattle.history_text.specs.JobItems.{end_body_by, end_body_with}
use Rattle.history_text.proofs.Placed.{all_placed, no_word}
use Rattle.history_text.proofs.WordCounts.{end_body_few, end_body_many}
use Rattle.history_text.proofs.job_items.end_body_by.Goals as goal

pub returns-in_default : goal.returns-in_default
returns-in_default c = end_body_few c.args.words.now c.in_default.len_below

pub returns-in_default-3 : goal.returns-in_default-3
returns-in_default-3 c = end_body_many c.args.words.now c.in_default.len_at_least

pub returns-in_default-2 : goal.returns-in_default-2
returns-in_default-2 c =
    (λ i. end_body_with (c.in_default-2.ensures i) (c.in_default-2.ensures' i))
    ∙ ap (λ ws. end_body_by (texts ws)) (all_placed no_word c.args.words.now 2 c.in-len2.len_at_least c.in-len2.len_below)

pub returns-in_default-2-2 : goal.returns-in_default-2-2
returns-in_default-2-2 c =
    let none = sym c.in_default-2.is-0 ∙ c.row_at.ensures in
    (λ i. end_body_with (none i) (c.value_of.ensures i))
    ∙ ap (λ ws. end_body_by (texts ws)) (all_placed no_word c.args.words.now 2 c.in-len2.len_at_least c.in-len2.len_below)

pub returns : goal.returns
returns c =
    (λ i. end_body_with (c.in-Some-Some.ensures i) (c.in-Some-Some.ensures' i))
    ∙ ap (λ ws. end_body_by (texts ws)) (all_placed no_word c.args.words.now 2 c.in-len2.len_at_least c.in-len2.len_below)
