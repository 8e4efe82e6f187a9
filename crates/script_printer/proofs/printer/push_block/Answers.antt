use Rattle.std.proofs.Common.{◌≡◌, ◌++◌, ◌∷◌, [], ap, ap₂, ◌∙◌, List, ℕ, map, string_bytes, String, Global}
use lib.Chars.{codes}
use Rattle.script_grammar.specs.declared.instructions.Instruction.{Instruction}
use Rattle.script_grammar.specs.Programs.{channel_names, block_names}
use Rattle.script_grammar.specs.Lines.{coroutine_words}
use Rattle.script_grammar.specs.Canonical.{code_lines}
use Rattle.script_reader.specs.Programs.{declared_of, block_of}
use Rattle.script_printer.specs.Printing.{text_of}
use Rattle.script_printer.proofs.Spacing.{text_of-more}
use Rattle.script_printer.proofs.printer.push_block.Goals as goal

-- the lines of a block, with these names of Jobs
abbrev lines_with : List (List ℕ) → List (List ℕ) → List (String Global) → List Instruction → List (ℕ × List (List ℕ))
lines_with channels blocks jobs code = code_lines (record { channels = channels; blocks = blocks; jobs = map string_bytes jobs }) 1 code

pub returns : goal.returns
returns c =
    let channels = channel_names (map declared_of c.args.channels.now) in
    let blocks = block_names (map block_of c.args.coroutines.now) in
    let out = c.args.out.now.items in
    let b = c.args.coroutine.now in
    let head = (0, coroutine_words (string_bytes b.name)) ∷ [] in
    let code = lines_with channels blocks b.jobs.items b.code.items in
    let end = (0, codes "end" ∷ []) ∷ [] in
    let one : c.push_head.new.out.items ≡ out ++ text_of head = c.in_ok-push_head.ensures
    ∙ ap (λ n. out ++ text_of ((0, coroutine_words n) ∷ [])) c.as_bytes.ensures.value in
    let same : lines_with channels blocks c.deref.result.now c.deref-2.result.now ≡ code =
    ap₂ (lines_with channels blocks) c.deref.ensures.value c.deref-2.ensures.value in
    let two : c.push_code.new.out.items ≡ out ++ text_of (head ++ code) =
    c.in_ok-push_code.ensures
    ∙ ap (λ ls. c.push_head.new.out.items ++ text_of ls) same
    ∙ text_of-more out c.push_head.new.out.items head code one in
    let three : c.push_end.new.out.items ≡ out ++ text_of ((head ++ code) ++ end) = c.in_ok-push_end.ensures
    ∙ text_of-more out c.push_code.new.out.items (head ++ code) end two in
    three
