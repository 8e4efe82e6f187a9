-- How deep a line stands, and the line that closes what it opens.
use Rattle.std.specs.Prelude.{◌≡◌, is_some, slice_get, true, ℕ, ◌+◌, zero, suc, List, [], ◌∷◌, drop, Option, Some, None, if◌then◌else◌}
use Rattle.script_grammar.specs.declared.instructions.Instruction.{Instruction}
use Rattle.script_grammar.specs.Programs.{Block, Program}
use Rattle.script_grammar.specs.Blocks.{is_end, opens_lines}

abbrev pub one_less : ℕ → ℕ
one_less zero = zero
one_less (suc n) = n

-- the depth after a line at this depth
abbrev pub depth_after : Instruction → ℕ → ℕ
depth_after x depth = if opens_lines x then depth + 1 else (if is_end x then one_less depth else depth)

-- an end, if so many lines are open that were opened later
abbrev pub end_from : ℕ → ℕ → Option ℕ → Option ℕ
end_from zero place rest = Some place
end_from (suc depth) place rest = rest

-- the first end at which one line more is closed than opened; the first of these lines has this place
abbrev pub closing_from : ℕ → ℕ → List Instruction → Option ℕ
closing_from depth place [] = None
closing_from depth place (x ∷ code) =
    if is_end x then end_from depth place (closing_from (one_less depth) (place + 1) code)
    else closing_from (depth_after x depth) (place + 1) code

-- the line that closes what this line opens
abbrev pub closing_of : List Instruction → ℕ → Option ℕ
closing_of code line = closing_from 0 (line + 1) (drop (line + 1) code)

-- each line of a block that opens others has a line that closes it
abbrev pub AreClosed : Program → Type 0
AreClosed p =
    (n i : ℕ) (b : Block) (x : Instruction)
    → slice_get p.blocks n ≡ Some b
    → slice_get b.code i ≡ Some x
    → opens_lines x ≡ true
    → is_some (closing_of b.code i) ≡ true
