use Rattle.std.proofs.Common.{ap, sym, ◌∙◌}
use Rattle.report_reader.specs.Words.{texts}
use Rattle.history_text.specs.JobItems.{saw_end_by, saw_end_with}
use Rattle.history_text.proofs.Placed.{first_placed, no_word}
use Rattle.history_text.proofs.job_items.saw_end_by.Goals as goal

pub returns-in_default-2 : goal.returns-in_default-2
returns-in_default-2 c =
    (λ i. saw_end_with (c.in_default-2.ensures i) (c.in_default-2.ensures' i))
    ∙ ap (λ ws. saw_end_by (texts ws)) (first_placed no_word c.args.words.now 1 c.in-len1-up.len_at_least)

pub returns-in_default-2-2 : goal.returns-in_default-2-2
returns-in_default-2-2 c =
    let none = sym c.in_default-2.is-0 ∙ c.row_at.ensures in
    (λ i. saw_end_with (none i) (c.end_by.ensures i))
    ∙ ap (λ ws. saw_end_by (texts ws)) (first_placed no_word c.args.words.now 1 c.in-len1-up.len_at_least)

pub returns : goal.returns
returns c =
    (λ i. saw_end_with (c.in-Some-Some.ensures i) (c.in-Some-Some.ensures' i))
    ∙ ap (λ ws. saw_end_by (texts ws)) (first_placed no_word c.args.words.now 1 c.in-len1-up.len_at_least)
