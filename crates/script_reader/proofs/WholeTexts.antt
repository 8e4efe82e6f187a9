-- A text, from its lines and its end.
use Rattle.std.proofs.Common.{◌≡◌, ℕ, ◌≤◌, List, [], ap, sym, ◌∙◌, subst, Result, Ok, Err, length, if◌then◌else◌}
use Rattle.script_grammar.specs.declared.fault.FaultKind.{FaultKind}
use Rattle.script_grammar.specs.declared.fault.FaultKind.TheVariants as kinds
use Rattle.script_grammar.specs.declared.fault.ScriptFault.{ScriptFault}
use Rattle.script_grammar.specs.Words.{lines_of}
use Rattle.script_grammar.specs.Programs.{Program}
use Rattle.script_grammar.specs.Reads.{Read, start}
use Rattle.script_grammar.specs.Faults.{◌>>>◌, in_line}
use Rattle.script_grammar.specs.Texts.{lines_from, finish, reading_of}
use Rattle.script_grammar.specs.WellFormed.{weights_from, IsProgram}
use Rattle.script_grammar.proofs.Truths.{lt-false}
use Rattle.script_grammar.proofs.TextsRead.{lines_found, closed_found}
use Rattle.script_grammar.proofs.SpelledIsProgram.{IsSound, IsSound-start, IsSound-all, IsProgram-from_sound}

-- a text that is not too long is read line by line
short_text : (bytes : List ℕ) → length bytes ≤ 1048576 → reading_of bytes ≡
    (lines_from 1 start (lines_of bytes) >>> λ s. in_line (length (lines_of bytes)) (finish s))
unfolding reading_of
short_text bytes short =
    ap (λ b. if b then Err (record { line = 1; kind = kinds.TooMany }) else
    (lines_from 1 start (lines_of bytes) >>> λ s. in_line (length (lines_of bytes)) (finish s))) (lt-false 1048576 (length bytes) short)

pub text_fault : (bytes : List ℕ) (f : ScriptFault) → length bytes ≤ 1048576 → lines_from 1 start (lines_of bytes) ≡ Err f
    → reading_of bytes ≡ Err f
text_fault bytes f short bad = short_text bytes short ∙ ap
    (λ (r : Result Read ScriptFault). r >>> λ s. in_line (length (lines_of bytes)) (finish s)) bad

pub text_end : (bytes : List ℕ) (s : Read) (lines : ℕ) (k : FaultKind) → length bytes ≤ 1048576 → lines_from 1 start (lines_of bytes) ≡ Ok s
    → finish s ≡ Err k → lines ≡ length (lines_of bytes) → reading_of bytes ≡ Err (record { line = lines; kind = k })
text_end bytes s lines k short ok bad count =
    short_text bytes short
    ∙ ap (λ (r : Result Read ScriptFault). r >>> λ s. in_line (length (lines_of bytes)) (finish s)) ok
    ∙ ap (in_line (length (lines_of bytes))) bad
    ∙ ap (λ n. Err (record { line = n; kind = k })) (sym count)

pub text_ok : (bytes : List ℕ) (s : Read) (p : Program) → length bytes ≤ 1048576 → lines_from 1 start (lines_of bytes) ≡ Ok s
    → finish s ≡ Ok p → reading_of bytes ≡ Ok p
text_ok bytes s p short ok done =
    short_text bytes short
    ∙ ap (λ (r : Result Read ScriptFault). r >>> λ s. in_line (length (lines_of bytes)) (finish s)) ok
    ∙ ap (in_line (length (lines_of bytes))) done

-- ---- what lines lead to

lines_sound : (bytes : List ℕ) (s : Read) → lines_from 1 start (lines_of bytes) ≡ Ok s → IsSound s
lines_sound bytes s ok = IsSound-all start _ s IsSound-start (lines_found 1 start s (lines_of bytes) ok).1

pub lines_weights : (bytes : List ℕ) (s : Read) → lines_from 1 start (lines_of bytes) ≡ Ok s → s.weights ≡ weights_from [] s.blocks
lines_weights bytes s ok = (lines_sound bytes s ok).weights

pub lines_program : (bytes : List ℕ) (s : Read) → lines_from 1 start (lines_of bytes) ≡ Ok s → (p : Program) → finish s ≡ Ok p → IsProgram p
lines_program bytes s ok p done =
    let end = closed_found s p s.current done in
    subst IsProgram end.2 (IsProgram-from_sound s (lines_sound bytes s ok) end.0 end.1)
