use Rattle.std.proofs.Common.{arith, ◌≡◌, ℕ, Vec, Global}
use Rattle.std.proofs.lemmas.List.{get_or_read}
use Rattle.script_reader.specs.Scripts.{program_of}
use Rattle.script_reader.specs.Closings.{closing_places}
use Rattle.script_reader.specs.Lines.{block_code}
use Rattle.script_reader.proofs.Tables.{at_block, open_block, closing_within, closing_at}
use Rattle.script_reader.proofs.script.Script.closing.Goals as goal

pub index-requires-2 : goal.index-requires-2
index-requires-2 c =
    let script = c.args.self.now in
    let known = open_block script.coroutines.items c.args.block c.args.line c.requires in
    let table : c.index.result.now.items ≡ closing_places (block_code (program_of script) c.args.block) =
    at_block (λ (v : Vec ℕ Global). v.items) closing_places script.closings.items script.coroutines.items c.args.block
    c.index.result.now script.closed known c.index.ensures in
    omega (
      arith,
      closing_within c.index.result.now.items (block_code (program_of script) c.args.block) c.args.line table c.requires,
      c.index.result.now.ok.0,
    )

pub returns : goal.returns
returns c =
    let script = c.args.self.now in
    let known = open_block script.coroutines.items c.args.block c.args.line c.requires in
    let table : c.index.result.now.items ≡ closing_places (block_code (program_of script) c.args.block) =
    at_block (λ (v : Vec ℕ Global). v.items) closing_places script.closings.items script.coroutines.items c.args.block
    c.index.result.now script.closed known c.index.ensures in
    let within = closing_within c.index.result.now.items (block_code (program_of script) c.args.block) c.args.line table c.requires in
    closing_at (program_of script) script.well_formed c.args.block c.args.line c.index-2.result.now c.index.result.now.items table
    c.requires (get_or_read c.index.result.now.items _ _ within c.index-2.ensures 0)
