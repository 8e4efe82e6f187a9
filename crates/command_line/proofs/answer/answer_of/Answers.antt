use Rattle.std.proofs.Common.{map}
use Rattle.note_book.specs.Books.{notes_of}
use Rattle.script_reader.specs.Scripts.{program_of}
use Rattle.command_line.proofs.Answering.{answered}
use Rattle.command_line.proofs.answer.answer_of.Goals as goal

pub returns : goal.returns
returns c =
    rw c.ending_of-ending.ensures (λ source source' asks.
    answered c.args.command (program_of c.args.script.now) (map notes_of c.args.done.now.books.items) c.requires.channels
    c.requires.jobs c.args.done.now.end c.in_ok-text.text.items source source' c.requires.rests
    c.in_ok-text.ensures asks)
