use Rattle.std.proofs.Common.{◌≡◌, ℕ, ◌≤◌, List, ap, sym, ◌∙◌, Ok, Err}
use Rattle.script_grammar.specs.Texts.{reading_of}
use Rattle.script_grammar.specs.Generated.{generated, generated_text}
use Rattle.script_grammar.proofs.GeneratedScript.{Spells-generated_text}
use Rattle.script_grammar.proofs.TextsRead.{read-from_Spells}
use Rattle.script_reader.specs.Scripts.{program_of}
use Rattle.script_reader.proofs.Answered.{same_ok, not_both, only_memory}
use Rattle.script_printer.proofs.generator.generate.Goals as goal

-- the text is read as the script that was meant
read_as : (n : ℕ) (text : List ℕ) → 1 ≤ n → n ≤ 100000 → text ≡ generated_text n → reading_of text ≡ Ok (generated n)
read_as n text low high is = ap reading_of is ∙ read-from_Spells (generated_text n) (generated n) (Spells-generated_text n low high)

pub returns-in-Ok-clause-generated : goal.returns-in-Ok-clause-generated
returns-in-Ok-clause-generated c =
    same_ok (program_of c.in-Ok.script) (generated c.args.n) (reading_of c.deref.result.now) c.in-Ok.ensures.exact
    (read_as c.args.n c.deref.result.now c.requires.low c.requires.high (c.deref.ensures.value ∙ c.in_ok-text.ensures))

pub returns-in-Ok-clause-read : goal.returns-in-Ok-clause-read
returns-in-Ok-clause-read c = ap reading_of (sym (c.deref.ensures.value ∙ c.in_ok-text.ensures)) ∙ c.in-Ok.ensures.exact

pub unreachable-requires : goal.unreachable-requires
unreachable-requires c =
    let read = read_as c.args.n c.deref.result.now c.requires.low c.requires.high (c.deref.ensures.value ∙ c.in_ok-text.ensures) in
    c.in_default.not-Memory
    (only_memory c.in-Err.fault.kind (reading_of c.deref.result.now ≡ Err c.in-Err.fault)
    (λ bad. not_both (generated c.args.n) c.in-Err.fault (reading_of c.deref.result.now) read bad) c.in-Err.ensures.exact)
