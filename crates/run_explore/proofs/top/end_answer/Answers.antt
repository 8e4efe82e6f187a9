use Rattle.std.proofs.Common.{◌≡◌, true, subst, IfSome}
use Rattle.script_reader.specs.Scripts.{program_of}
use Rattle.end_search.specs.Blocks.{TellsOf, does_suit}
use Rattle.run_explore.proofs.Meaning.{end_tells}
use Rattle.run_explore.proofs.top.end_answer.Goals as goal

pub returns-in-Ok-Some : goal.returns-in-Ok-Some
returns-in-Ok-Some g c =
    end_tells (program_of c.args.script.now) c.args.number c.args.limit c.in-Ok-Some.report c.answer_by.result c.args.bytes.now c.requires
    c.answer_by.ensures.ending c.answer_by.ensures.text
    (subst (λ o. IfSome o (λ told. does_suit c.args.limit.wanted told.root ≡ true)) c.in-Ok-Some.field-0-is c.in-Ok-Some.ensures.suits)
    (subst (λ o. IfSome o (TellsOf (program_of c.args.script.now))) c.in-Ok-Some.field-0-is c.in-Ok-Some.ensures.tells)
