use Rattle.std.proofs.Common.{◌∙◌, ap, ap₂, codes}
use Rattle.clap.specs.Words.{found_of}
use Rattle.clap.proofs.WalkLemmas.{first_value-rows}
use Rattle.judge_run.specs.Words.{asked_with, log_of}
use Rattle.judge_run.proofs.words.asked_by.Goals as goal

pub returns : goal.returns
returns c =
    let value = first_value-rows (found_of c.args.matches.now) in
    let log = c.log_of.ensures ∙ ap log_of (c.get_str-log.ensures ∙ value (codes "log")) in
    c.asked_with.ensures ∙ ap₂ asked_with log (c.get_str-seed.ensures ∙ value (codes "seed"))
