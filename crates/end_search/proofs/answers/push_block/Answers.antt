use Rattle.std.proofs.Common.{rules}
use Rattle.script_reader.specs.Scripts.{program_of}
use Rattle.end_search.proofs.MoreBlocks.{added}
use Rattle.end_search.proofs.answers.push_block.Goals as goal

pub returns-in_ok-extend_from_slice-in-Some-2-clause-blocks : goal.returns-in_ok-extend_from_slice-in-Some-2-clause-blocks
returns-in_ok-extend_from_slice-in-Some-2-clause-blocks g c =
    added (program_of c.args.shown.script.now) c.args.shown.wanted c.args.count _ c.args.out.now.items c.in-Some-2.block.items _ c.requires
    (search rules) (search rules) (search rules)
