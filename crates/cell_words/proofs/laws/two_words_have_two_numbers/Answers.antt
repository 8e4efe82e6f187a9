use Rattle.cell_words.proofs.OneCodeOneWord.{cell_code_is, wait_code_is}
use Rattle.cell_words.proofs.laws.two_words_have_two_numbers.Goals as goal

pub returns-clause-cells : goal.returns-clause-cells
returns-clause-cells c = cell_code_is

pub returns-clause-waits : goal.returns-clause-waits
returns-clause-waits c = wait_code_is
