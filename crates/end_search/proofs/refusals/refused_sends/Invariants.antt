use Rattle.std.proofs.Common.{◌≡◌, ◌++◌, length, map, string_bytes}
use Rattle.note_book.specs.Books.{notes_of}
use Rattle.script_reader.specs.Scripts.{program_of}
use Rattle.end_search.specs.Blocks.{refused_text}
use Rattle.end_search.proofs.refusals.refused_sends.Given as goal

abbrev pub invariant-loop-rest : goal.invariant-loop-rest
invariant-loop-rest l = string_bytes l.out ++ refused_text (program_of l.script) (map notes_of l.rest)
    ≡ refused_text (program_of l.script) (map notes_of l.books)

abbrev pub decreases-loop-rest : goal.decreases-loop-rest
decreases-loop-rest l = length l.rest
