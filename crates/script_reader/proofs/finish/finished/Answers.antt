use Rattle.std.proofs.Common.{arith, ◌∙◌}
use Rattle.script_grammar.specs.Reads.{program_so_far}
use Rattle.script_reader.specs.Reading.{view}
use Rattle.script_reader.proofs.Kept.{short_code}
use Rattle.script_reader.proofs.Finished.{finish_ok, load-whole}
use Rattle.script_reader.proofs.finish.finished.Goals as goal

pub script_from-requires-clause-program : goal.script_from-requires-clause-program
script_from-requires-clause-program c =
    let s = view c.args.reading in
    let end = c.in_ok-main.ensures in
    c.requires.program (program_so_far s) (finish_ok s c.in_ok-main.main end.0 end.1)

pub script_from-requires-clause-load : goal.script_from-requires-clause-load
script_from-requires-clause-load c =
    let s = view c.args.reading in
    c.requires.holds.load ∙ load-whole s c.in_ok-main.ensures.0 c.requires.weights

pub script_from-requires-clause-short : goal.script_from-requires-clause-short
script_from-requires-clause-short c = short_code 1048577 c.args.reading.coroutines.items.items (omega (arith, c.requires.short))
