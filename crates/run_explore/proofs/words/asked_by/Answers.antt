use Rattle.std.proofs.Common.{◌≡◌, ◌∙◌, ap, ap₂, sym, subst, codes, IfOk, option_and_then, option_map}
use Rattle.clap.specs.Words.{found_of, first_of, rows_of}
use Rattle.clap.proofs.WalkLemmas.{first_value-rows}
use Rattle.run_explore.specs.Words.{asked_within, request_of}
use Rattle.run_explore.proofs.Limits.{same_limit}
use Rattle.run_explore.proofs.words.asked_by.Goals as goal

pub returns-in-Some : goal.returns-in-Some
returns-in-Some c =
    let value = first_value-rows (found_of c.args.matches.now) in
    let limit = c.limit_by.ensures
    ∙ same_limit _ _ _ _ _ _ _ _ (c.get_str-find.ensures ∙ value (codes "find")) (c.get_str-tell.ensures ∙ value (codes "tell"))
    (c.get_str-states.ensures ∙ value (codes "states")) (c.get_str-workers.ensures ∙ value (codes "workers")) in
    subst (λ x. IfOk c.asked_within.result (λ asked. option_map request_of asked ≡ x))
    (ap₂ (asked_within c.in-Some.limit) (c.get_str-order.ensures ∙ value (codes "order")) (c.get_str-report.ensures ∙ value (codes "report"))
    ∙ ap
    (option_and_then
    (λ limit. asked_within limit (first_of (codes "order") (rows_of (found_of c.args.matches.now)))
    (first_of (codes "report") (rows_of (found_of c.args.matches.now))))) (sym c.in-Some.is ∙ limit)) c.asked_within.ensures

pub returns-in-None : goal.returns-in-None
returns-in-None c =
    let value = first_value-rows (found_of c.args.matches.now) in
    let limit = c.limit_by.ensures
    ∙ same_limit _ _ _ _ _ _ _ _ (c.get_str-find.ensures ∙ value (codes "find")) (c.get_str-tell.ensures ∙ value (codes "tell"))
    (c.get_str-states.ensures ∙ value (codes "states")) (c.get_str-workers.ensures ∙ value (codes "workers")) in
    ap
    (option_and_then
    (λ limit. asked_within limit (first_of (codes "order") (rows_of (found_of c.args.matches.now)))
    (first_of (codes "report") (rows_of (found_of c.args.matches.now))))) (sym c.in-None.is ∙ limit)
