use Rattle.std.proofs.Common.{arith}
use Rattle.cell_words.specs.Hubs.{shape_of, seen_by}
use Rattle.cell_words.proofs.OneNumberOneWord.{number_within}
use Rattle.cell_words.proofs.WordsFound.{numbered_wait, numbered_wait_some}
use Rattle.cell_words.proofs.cells.load_wait.Goals as goal

pub load_word-number-requires-clause-word : goal.load_word-number-requires-clause-word
load_word-number-requires-clause-word c = let i = c.requires.number
    in let n = number_within (shape_of c.args.hub.now) i.wait.channel i.wait.place i.at.0 i.at.1 in let e = i.is in omega arith

pub unreachable-requires : goal.unreachable-requires
unreachable-requires c = numbered_wait_some (shape_of c.args.hub.now) (seen_by c.load_word-number.new.pass).seen c.load_word-number.result
    c.args.cell c.requires.number c.load_word-number.ensures.found c.in-None.ensures

pub returns-clause-word : goal.returns-clause-word
returns-clause-word c = numbered_wait (shape_of c.args.hub.now) (seen_by c.load_word-number.new.pass).seen c.load_word-number.result
    c.args.cell c.load_word-number.ensures.found c.in-Some.word c.in-Some.ensures.0 c.in-Some.ensures.1

pub overflow_mul-cell : goal.overflow_mul-cell
overflow_mul-cell c = let i = c.requires.number in let n = number_within (shape_of c.args.hub.now) i.wait.channel i.wait.place i.at.0 i.at.1
    in let e = i.is in let w = c.args.hub.now.sized.few in record { fits = omega arith }

pub overflow_add-cell : goal.overflow_add-cell
overflow_add-cell c = let i = c.requires.number in let n = number_within (shape_of c.args.hub.now) i.wait.channel i.wait.place i.at.0 i.at.1
    in let e = i.is in let w = c.args.hub.now.sized.few in record { fits = omega arith }
