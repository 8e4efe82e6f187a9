use Rattle.std.proofs.Common.{arith}
use Rattle.script_reader.specs.Scripts.{program_of}
use Rattle.poll_states.specs.Frames.{config_of}
use Rattle.poll_states.proofs.EndsNamed.{awaited_is, awaited_named, awaited_row}
use Rattle.poll_states.proofs.Codes.{line_long}
use Rattle.poll_states.proofs.seen_ends.awaited.Goals as goal

pub returns : goal.returns
returns g c = awaited_row (program_of c.args.script.now) _ c.requires _ _ _ _ c.code_of.ensures c.in-Await.is c.index.ensures

pub bounds-code_of-frame : goal.bounds-code_of-frame
bounds-code_of-frame g c = line_long (program_of c.args.script.now) _ (config_of c.args.frame.now) _ _ c.code_of.ensures
    c.requires.line_is

pub index-requires : goal.index-requires
index-requires g c = let h = awaited_named (program_of c.args.script.now) _ c.requires _ _ _ c.code_of.ensures c.in-Await.is
    in omega (arith, h, c.args.frame.now.rows.ok.0)

pub unreachable-requires : goal.unreachable-requires
unreachable-requires g c = c.in_default.not-Await _ (awaited_is (program_of c.args.script.now) _ c.requires _ _ c.code_of.ensures)
