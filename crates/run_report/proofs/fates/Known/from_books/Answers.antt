use Rattle.std.proofs.Common.{map}
use Rattle.note_book.specs.Books.{notes_of}
use Rattle.run_report.specs.Elements.{channel_acts_noted}
use Rattle.run_report.specs.Known.{elsewhere_in}
use Rattle.run_report.specs.Tables.{value_at}
use Rattle.run_report.proofs.Deduced.{element_from-tables}
use Rattle.run_report.proofs.fates.Known.from_books.Goals as goal

pub returns-clause-elements : goal.returns-clause-elements
returns-clause-elements c =
    element_from-tables (value_at c.in_ok-facts.facts) (elsewhere_in
    (record { facts = c.in_ok-facts.facts; resolved = c.in_ok-resolved.resolved })) (channel_acts_noted (map notes_of c.args.books.now))
    c.in_ok-facts.ensures.facts c.in_ok-resolved.ensures
