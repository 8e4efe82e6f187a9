-- The table of the lines that close what lines open.
use Rattle.std.specs.Prelude.{ℕ, ◌+◌, List, [], ◌∷◌, unwrap_or, if◌then◌else◌}
use Rattle.script_grammar.specs.declared.instructions.Instruction.{Instruction}
use Rattle.script_grammar.specs.Blocks.{opens_lines}
use Rattle.script_grammar.specs.Nesting.{closing_from}

-- of each of these lines, the first of which has this place, the place of the line that closes what it opens, or 0
abbrev pub closings_from : ℕ → List Instruction → List ℕ
closings_from place [] = []
closings_from place (x ∷ code) =
    (if opens_lines x then unwrap_or (closing_from 0 (place + 1) code) 0 else 0) ∷ closings_from (place + 1) code

abbrev pub closing_places : List Instruction → List ℕ
closing_places code = closings_from 0 code
