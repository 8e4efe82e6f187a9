use Rattle.script_reader.specs.Reading.{view}
use Rattle.script_reader.specs.Scripts.{program_of}
use Rattle.script_reader.proofs.LineLoops.{unless_still}
use Rattle.script_reader.proofs.WholeTexts.{text_fault, text_end, text_ok, lines_weights, lines_program}
use Rattle.script_reader.proofs.reader.read_short.Goals as goal

pub finished-requires-clause-weights : goal.finished-requires-clause-weights
finished-requires-clause-weights c = lines_weights c.args.bytes.now _ c.in-Ok.ensures.given

pub finished-requires-clause-program : goal.finished-requires-clause-program
finished-requires-clause-program c = lines_program c.args.bytes.now _ c.in-Ok.ensures.given

pub returns-in-Err : goal.returns-in-Err
returns-in-Err c =
    unless_still c.in-Err.fault.kind _ _ (λ bad. text_fault c.args.bytes.now c.in-Err.fault c.requires bad) c.in-Err.ensures.given

pub returns-in-Ok-finished : goal.returns-in-Ok-finished
returns-in-Ok-finished c =
    text_ok c.args.bytes.now (view c.in-Ok.whole.reading) (program_of c.in-Ok-finished.script) c.requires c.in-Ok.ensures.given
    c.in-Ok-finished.ensures

pub returns-in-Err-finished : goal.returns-in-Err-finished
returns-in-Err-finished c =
    unless_still c.in-Err-finished.kind _ _
    (λ bad. text_end c.args.bytes.now (view c.in-Ok.whole.reading) c.in-Ok.whole.lines c.in-Err-finished.kind c.requires
    c.in-Ok.ensures.given bad c.in-Ok.ensures.count)
    c.in-Err-finished.ensures
