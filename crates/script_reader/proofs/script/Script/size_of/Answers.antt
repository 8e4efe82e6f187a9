use Rattle.std.proofs.Common.{arith, ap, length}
use Rattle.script_reader.specs.Scripts.{program_of}
use Rattle.script_grammar.proofs.Layouts.{size_at, length-sizes_in}
use Rattle.script_reader.proofs.script.Script.size_of.Goals as goal

pub index-requires : goal.index-requires
index-requires c =
    let script = c.args.self.now in
    omega (arith, c.requires, ap length script.sized, length-sizes_in (program_of script).blocks)

pub returns : goal.returns
returns c =
    let script = c.args.self.now in
    size_at (program_of script).blocks script.sizes.items c.args.block c.index.result.now script.sized c.requires c.index.ensures
