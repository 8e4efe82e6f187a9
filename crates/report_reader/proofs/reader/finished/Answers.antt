use Rattle.std.proofs.Common.{true, false, sym}
use Rattle.report_reader.specs.Reading.{view}
use Rattle.report_reader.proofs.LineLoops.{lines_done}
use Rattle.report_reader.proofs.reader.finished.Goals as goal

pub returns-then-has_jobs : goal.returns-then-has_jobs
returns-then-has_jobs c = lines_done c.args.number (view c.args.reading) true (sym c.if-has_jobs.ensures)

pub returns : goal.returns
returns c = lines_done c.args.number (view c.args.reading) false (sym c.if-has_jobs.ensures)
