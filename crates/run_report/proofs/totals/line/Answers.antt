use Rattle.std.proofs.Common.{◌++◌, append_assoc, ap, sym, ◌∙◌}
use lib.Chars.{codes}
use Rattle.run_report.specs.Summaries.{element_counts_text, job_counts_text, result_text}
use Rattle.run_report.proofs.Gathering.{adds}
use Rattle.run_report.proofs.totals.line.Goals as goal

pub returns : goal.returns
returns c =
    let jobs = job_counts_text c.args.jobs in
    let elements = element_counts_text c.args.version c.args.elements in
    let root = result_text c.args.root in
    let end = codes "result " ++ root ++ codes "\n" in
    let all = adds _ _ _ _ _ c.add_job_counts.ensures c.add_element_counts.ensures in
    let held = c.in_ok-out.ensures in
    c.in_ok-push_result.ensures
    ∙ ap (λ l. l ++ end) (held.1 ∙ all.behind held.0 ∙ ap (λ l. l ++ (jobs ++ elements)) c.in_ok-text.ensures)
    ∙ sym (append_assoc (jobs ++ elements) (codes "result " ++ root) (codes "\n"))
    ∙ ap (λ l. l ++ codes "\n") (sym (append_assoc (jobs ++ elements) (codes "result ") root))
