-- The number of a word.
use Rattle.std.specs.Prelude.{ℕ, ◌+◌, ◌*◌, ◌<◌, Bool, true, false}
use Rattle.word_rules.specs.declared.cell_word.CellState.{CellState}
use Rattle.word_rules.specs.declared.cell_word.CellState.TheVariants as cell
use Rattle.word_rules.specs.declared.cell_word.CellWord.{CellWord}
use Rattle.word_rules.specs.declared.wait_word.ResolvedBy.{ResolvedBy}
use Rattle.word_rules.specs.declared.wait_word.ResolvedBy.TheVariants as by
use Rattle.word_rules.specs.declared.wait_word.WaitWord.{WaitWord}

abbrev pub bit : Bool → ℕ
bit false = 0
bit true = 1

abbrev pub state_code : CellState → ℕ
state_code cell.Free = 0
state_code cell.Receiver = 1
state_code cell.Offer = 2
state_code cell.Buffered = 3
state_code cell.Emptied = 4
state_code cell.Closed = 5
state_code cell.Voided = 6

-- the number of a cell word, by the table of its bits
abbrev pub packed_cell : CellWord → ℕ
packed_cell w = state_code w.state + 8 * w.clause + 64 * bit w.own_wait + 128 * w.holder + 4294967296 * w.value

-- each field fits its bits
pub record IsNarrowCell (w : CellWord) : Type 0 where
  pub clause : w.clause < 8
  pub holder : w.holder < 8388608
  pub value : w.value < 4294967296

abbrev pub resolver_code : ResolvedBy → ℕ
resolver_code by.Nobody = 0
resolver_code by.Hand = 1
resolver_code by.Take = 2
resolver_code by.Admit = 3
resolver_code by.Close = 4
resolver_code by.Cancel = 5
resolver_code by.Revoke = 6
resolver_code by.Void = 7

-- the number of a wait word, by the table of its bits
abbrev pub packed_wait : WaitWord → ℕ
packed_wait w = resolver_code w.by + 8 * w.clause + 64 * bit w.settled + 128 * bit w.cancelled + 4294967296 * w.value

pub record IsNarrowWait (w : WaitWord) : Type 0 where
  pub clause : w.clause < 8
  pub value : w.value < 4294967296
