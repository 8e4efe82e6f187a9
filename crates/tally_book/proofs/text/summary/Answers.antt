use Rattle.std.proofs.Common.{◌≡◌, ℕ, subst}
use Rattle.std.specs.Prelude.{IfOk}
use Rattle.script_reader.specs.Scripts.{program_of}
use Rattle.tally_laws.specs.LinesTold.{line_of_books}
use Rattle.tally_book.proofs.AtRest.{summed_up}
use Rattle.tally_book.proofs.text.summary.Goals as goal

pub returns : goal.returns
returns c =
    summed_up c.bytes_of.result (λ t. t.items) (program_of c.args.script.now) c.args.tallies.now c.args.root c.args.script.now.well_formed
    (subst (λ (v : ℕ). IfOk c.bytes_of.result (λ t. t.items ≡ line_of_books v c.args.tallies.now c.args.root)) c.version.ensures
    c.bytes_of.ensures)
