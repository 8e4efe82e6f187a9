-- Where a text is first at fault, in words of the grammar.
use Rattle.std.specs.Prelude.{◌≡◌, ℕ, ◌+◌, ◌<◌, ◌≤◌, List, ◌∷◌, ◌++◌, length, true, Err}
use Rattle.std.specs.List.{list_all}
use Rattle.script_grammar.specs.declared.fault.FaultKind.{FaultKind}
use Rattle.script_grammar.specs.declared.fault.FaultKind.TheVariants.{TooMany}
use Rattle.script_grammar.specs.declared.fault.ScriptFault.{ScriptFault}
use Rattle.script_grammar.specs.Words.{all_plain, lines_of, with_words}
use Rattle.script_grammar.specs.Reads.{Read, start}
use Rattle.script_grammar.specs.Grammar.{SayAll}
use Rattle.script_grammar.specs.Texts.{line_at, finish}

-- lines that say what leads to this state
pub record Leads (lines : List (List ℕ)) (s : Read) : Type 0 where
  pub plain : list_all all_plain lines ≡ true
  pub said : SayAll start (with_words lines) s

-- the fault of a text: it has too many bytes; or the lines before the faulty one say a state, and after it this line has this
-- fault; or all lines say a state, and the end of the text has it
pub data FirstFault (bytes : List ℕ) : ScriptFault → Type 0 where
  too_long : 1048576 < length bytes → FirstFault bytes (record { line = 1; kind = TooMany })
  in_line : (before rest : List (List ℕ)) (line : List ℕ) (s : Read) (kind : FaultKind)
      → length bytes ≤ 1048576
      → lines_of bytes ≡ before ++ line ∷ rest
      → Leads before s
      → line_at s line ≡ Err kind
      → FirstFault bytes (record { line = 1 + length before; kind = kind })
  at_end : (s : Read) (kind : FaultKind)
      → length bytes ≤ 1048576
      → Leads (lines_of bytes) s
      → finish s ≡ Err kind
      → FirstFault bytes (record { line = length (lines_of bytes); kind = kind })
