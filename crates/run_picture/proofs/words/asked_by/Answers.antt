use Rattle.std.proofs.Common.{◌∙◌, ap, codes}
use Rattle.clap.specs.Words.{found_of}
use Rattle.clap.proofs.WalkLemmas.{first_value-rows}
use Rattle.run_picture.specs.Words.{asked_with, format_for, format_of, only_of, range_or, script_of}
use Rattle.run_picture.proofs.words.asked_by.Goals as goal

pub returns : goal.returns
returns c =
    let value = first_value-rows (found_of c.args.matches.now) in
    let word = c.get_str-format.ensures ∙ value (codes "format") in
    let rows = c.get_str-lines.ensures ∙ value (codes "lines") in
    let script = c.script_of.ensures ∙ ap script_of (c.get_str-script.ensures ∙ value (codes "script")) in
    let format = c.format_for.ensures ∙ (λ i. format_for (format_of (word i)) (rows i)) in
    let coroutines = c.range_or.ensures ∙ ap (range_or 0) (c.get_str-coroutines.ensures ∙ value (codes "coroutines")) in
    let only = c.only_of.ensures ∙ ap only_of (c.get_str-only.ensures ∙ value (codes "only")) in
    let lines = c.range_or-2.ensures ∙ ap (range_or 1) rows in
    c.asked_with.ensures ∙ (λ i. asked_with (script i) (format i) (coroutines i) (only i) (lines i))
