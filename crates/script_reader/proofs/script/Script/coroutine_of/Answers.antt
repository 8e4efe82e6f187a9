use Rattle.std.proofs.Common.{arith, ap, length}
use Rattle.script_reader.specs.Scripts.{program_of}
use Rattle.script_grammar.proofs.Layouts.{tag_at}
use Rattle.script_grammar.proofs.Declarations.{block_of_tag-within}
use Rattle.script_reader.proofs.script.Script.coroutine_of.Goals as goal

pub index-requires : goal.index-requires
index-requires c = omega (arith, c.requires, ap length c.args.self.now.tagged)

pub returns-clause-block : goal.returns-clause-block
returns-clause-block c =
    let script = c.args.self.now in
    tag_at (program_of script) script.tags.items c.args.tag c.index.result.now script.tagged c.requires c.index.ensures

pub returns-clause-declared : goal.returns-clause-declared
returns-clause-declared c =
    let script = c.args.self.now in
    block_of_tag-within (program_of script) script.well_formed c.args.tag c.index.result.now
    (tag_at (program_of script) script.tags.items c.args.tag c.index.result.now script.tagged c.requires c.index.ensures)
