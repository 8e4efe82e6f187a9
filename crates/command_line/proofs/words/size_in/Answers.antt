use Rattle.std.proofs.Common.{◌∙◌, ap, codes}
use Rattle.clap.specs.Words.{found_of}
use Rattle.clap.proofs.WalkLemmas.{first_value-rows}
use Rattle.command_line.specs.Commands.{size_of}
use Rattle.command_line.proofs.words.size_in.Goals as goal

pub returns-clause-value : goal.returns-clause-value
returns-clause-value c = c.size_of.ensures.value ∙ ap size_of (c.get_str.ensures
    ∙ first_value-rows (found_of c.args.matches.now) (codes "size"))
