-- What a whole text says, or its first fault.
use Rattle.std.specs.Prelude.{ℕ, ◌+◌, List, [], ◌∷◌, length, Option, Some, None, Result, Ok, Err, if◌then◌else◌, nat_lt}
use Rattle.script_grammar.specs.declared.fault.FaultKind.{FaultKind}
use Rattle.script_grammar.specs.declared.fault.FaultKind.TheVariants.{TooMany, NotAscii, NoEnd, NoMain}
use Rattle.script_grammar.specs.declared.fault.ScriptFault.{ScriptFault}
use Rattle.script_grammar.specs.Programs.{Program}
use Rattle.script_grammar.specs.Faults.{◌>>>◌, in_line}
use Rattle.script_grammar.specs.Words.{all_plain, words_of, lines_of}
use Rattle.script_grammar.specs.Blocks.{Open}
use Rattle.script_grammar.specs.Reads.{Read, start, program_so_far}
use Rattle.script_grammar.specs.Grammar.{has_main}
use Rattle.script_grammar.specs.Forms.{step}

-- the script with what a line adds, or the line's fault
unfoldable pub line_at : Read → List ℕ → Result Read FaultKind
line_at s line = if all_plain line then step s (words_of line) else Err NotAscii

-- the same of the lines from number n on
unfoldable pub lines_from : ℕ → Read → List (List ℕ) → Result Read ScriptFault
lines_from n s [] = Ok s
lines_from n s (line ∷ more) = in_line n (line_at s line) >>> λ t. lines_from (n + 1) t more

-- no block is open, and there is a main
abbrev pub when_closed : Read → Option Open → Result Program FaultKind
when_closed s (Some b) = Err NoEnd
when_closed s None = if has_main s.blocks then Ok (program_so_far s) else Err NoMain

-- after the last line
abbrev pub finish : Read → Result Program FaultKind
finish s = when_closed s s.current

-- what a text says, or its first fault
unfoldable pub reading_of : List ℕ → Result Program ScriptFault
reading_of bytes =
    if nat_lt 1048576 (length bytes) then Err (record { line = 1; kind = TooMany })
    else lines_from 1 start (lines_of bytes) >>> λ s. in_line (length (lines_of bytes)) (finish s)
