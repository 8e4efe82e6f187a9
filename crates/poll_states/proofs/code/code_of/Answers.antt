use Rattle.std.proofs.Common.{◌∙◌}
use Rattle.script_reader.specs.Scripts.{program_of}
use Rattle.poll_states.proofs.Codes.{block_short, code_read}
use Rattle.poll_states.proofs.code.code_of.Goals as goal

pub bounds-blocks-block : goal.bounds-blocks-block
bounds-blocks-block c = block_short (program_of c.args.script.now) _ _ c.blocks-2.ensures.blocks c.coroutine_of-block.ensures.declared

pub returns : goal.returns
returns c =
    c.as_slice.ensures.value
    ∙ code_read (program_of c.args.script.now) _ _ _ _ c.blocks-2.ensures.blocks c.coroutine_of-block.ensures.block
    c.coroutine_of-block.ensures.declared
