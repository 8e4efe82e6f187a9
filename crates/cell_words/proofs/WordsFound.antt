-- The number of a word that was found is that of the cell or of the wait, and the word is theirs.
use Rattle.std.specs.Prelude.{◌≡◌, ℕ, ◌+◌, ◌*◌, ◌<◌, Bool, true, false, List, Option, Some, None, if◌then◌else◌, refl}
use Rattle.std.proofs.Common.{sym, ◌∙◌, subst, arith}
use Rattle.co_base.specs.declared.names.WaitId.{WaitId}
use Rattle.channel_model.specs.declared.acts.Entry.{Entry}
use Rattle.channel_model.specs.declared.acts.Settled.{Settled}
use Rattle.channel_model.specs.declared.acts.Why.TheVariants.{Cancelled, Revoked}
use Rattle.channel_model.specs.declared.standing.Resolution.{Resolution}
use Rattle.channel_model.specs.declared.standing.Resolution.TheVariants as resolved
use Rattle.channel_model.specs.Channels.{Shape, Wait, same_wait}
use Rattle.channel_model.specs.Histories.{replay}
use Rattle.word_rules.specs.declared.cell_word.CellState.{CellState}
use Rattle.word_rules.specs.declared.cell_word.CellWord.{CellWord}
use Rattle.word_rules.specs.declared.wait_word.WaitWord.{WaitWord}
use Rattle.word_rules.specs.Cells.{Cell, free, receiver, offer, buffered, spot, cell_of}
use Rattle.word_rules.specs.Codes.{packed_cell, IsNarrowCell, packed_wait, IsNarrowWait}
use Rattle.word_rules.specs.Words.{number, IsCell, PartyFits, party_word, word_of_cell, CellFits, how_word, parts_word, word_of_wait, HowFits, PartsFit, WaitFits, Fits}
use Rattle.cell_words.specs.Answers.{IsNumber, IsCellWord, IsWaitWord, IsNumberedCell, IsNumberedWait}
use Rattle.cell_words.proofs.OneCodeOneWord.{cell_code_is, wait_code_is}

pub party_narrow : (shape : Shape) (c p : ℕ) (state : CellState) (v who k : ℕ) (w : WaitId) → PartyFits shape who w k → v < 4294967296
    → IsNarrowCell (party_word shape c p state v who w k)
party_narrow shape c p state v who k w h lv = record { clause = h.clause; holder = small (same_wait w (spot c p)); value = lv }
  where
    small : (b : Bool) → (if b then who else number shape w.channel w.place) < 8388608
    small true = let t = h.tag in omega arith
    small false = h.few

pub cell_narrow : (shape : Shape) (c p : ℕ) (x : Cell) → CellFits shape x → IsNarrowCell (word_of_cell shape c p x)
cell_narrow shape c p free h = record { clause = omega arith; holder = omega arith; value = omega arith }
cell_narrow shape c p (receiver who w k) h = party_narrow shape c p _ 0 who k w h (omega arith)
cell_narrow shape c p (offer v who w k) h = party_narrow shape c p _ v who k w h.0 h.1
cell_narrow shape c p (buffered v) h = record { clause = omega arith; holder = omega arith; value = h }
cell_narrow shape c p other h = record { clause = omega arith; holder = omega arith; value = h }

pub how_narrow : (how : Resolution) → HowFits how → IsNarrowWait (how_word how)
how_narrow (resolved.Taken k) h = record { clause = h; value = omega arith }
how_narrow (resolved.Admitted k) h = record { clause = h; value = omega arith }
how_narrow (resolved.Withdrawn Cancelled) h = record { clause = omega arith; value = omega arith }
how_narrow (resolved.Withdrawn Revoked) h = record { clause = omega arith; value = omega arith }
how_narrow resolved.Voided h = record { clause = omega arith; value = omega arith }
how_narrow other h = record { clause = h.0; value = h.1 }

parts_narrow : (how : Option Resolution) (outcome : Option Settled) → PartsFit how → IsNarrowWait (parts_word how outcome)
parts_narrow None outcome h = record { clause = omega arith; value = omega arith }
parts_narrow (Some how) None h = how_narrow how h
parts_narrow (Some how) (Some outcome) h = let n = how_narrow how h in record { clause = n.clause; value = n.value }

pub wait_narrow : (y : Option Wait) → WaitFits y → IsNarrowWait (word_of_wait y)
wait_narrow None h = record { clause = omega arith; value = omega arith }
wait_narrow (Some x) h = parts_narrow x.resolved x.settled h

module _ (shape : Shape) (log : List Entry) (n : ℕ) where
  pub cell_found : (c p : ℕ) → IsCell shape c p → Fits shape log (2 * number shape c p) n → (word : CellWord) → packed_cell word ≡ n
      → IsNarrowCell word → IsCellWord shape c p log word
  cell_found c p at f word e narrow =
      let k = f.cell c p at.0 at.1 refl in
      (cell_code_is word (word_of_cell shape c p (cell_of log c p)) narrow (cell_narrow shape c p (cell_of log c p) k.1) (e ∙ k.0), k.1)

  -- there is a word of this number
  pub cell_some : (c p : ℕ) → IsCell shape c p → Fits shape log (2 * number shape c p) n
      → ((w : CellWord) → IsNarrowCell w → packed_cell w ≡ n → ⊥) → ⊥
  cell_some c p at f none = let k = f.cell c p at.0 at.1 refl
      in none (word_of_cell shape c p (cell_of log c p)) (cell_narrow shape c p (cell_of log c p) k.1) (sym k.0)

  pub wait_found : (w : WaitId) → IsCell shape w.channel w.place → Fits shape log (2 * number shape w.channel w.place + 1) n
      → (word : WaitWord) → packed_wait word ≡ n → IsNarrowWait word → IsWaitWord w log word
  wait_found w at f word e narrow =
      let k = f.wait w.channel w.place at.0 at.1 refl in
      (wait_code_is word (word_of_wait ((replay log).waits w)) narrow (wait_narrow ((replay log).waits w) k.1) (e ∙ k.0), k.1)

  pub wait_some : (w : WaitId) → IsCell shape w.channel w.place → Fits shape log (2 * number shape w.channel w.place + 1) n
      → ((word : WaitWord) → IsNarrowWait word → packed_wait word ≡ n → ⊥) → ⊥
  wait_some w at f none = let k = f.wait w.channel w.place at.0 at.1 refl
      in none (word_of_wait ((replay log).waits w)) (wait_narrow ((replay log).waits w) k.1) (sym k.0)

  -- by the number of the cell
  pub numbered_cell : (m : ℕ) → Fits shape log (2 * m) n → (word : CellWord) → packed_cell word ≡ n → IsNarrowCell word
      → IsNumberedCell shape m log word
  numbered_cell m f word e narrow w at is = cell_found w.channel w.place at (subst (λ (z : ℕ). Fits shape log (2 * z) n) (sym is) f) word e
      narrow

  pub numbered_wait : (m : ℕ) → Fits shape log (2 * m + 1) n → (word : WaitWord) → packed_wait word ≡ n → IsNarrowWait word
      → IsNumberedWait shape m log word
  numbered_wait m f word e narrow w at is = wait_found w at (subst (λ (z : ℕ). Fits shape log (2 * z + 1) n) (sym is) f) word e narrow

  pub numbered_cell_some : (m : ℕ) → IsNumber shape m → Fits shape log (2 * m) n → ((w : CellWord) → IsNarrowCell w → packed_cell w ≡ n → ⊥)
      → ⊥
  numbered_cell_some m i f none = cell_some i.wait.channel i.wait.place i.at (subst (λ (z : ℕ). Fits shape log (2 * z) n) (sym i.is) f) none

  pub numbered_wait_some : (m : ℕ) → IsNumber shape m → Fits shape log (2 * m + 1) n
      → ((w : WaitWord) → IsNarrowWait w → packed_wait w ≡ n → ⊥) → ⊥
  numbered_wait_some m i f none = wait_some i.wait i.at (subst (λ (z : ℕ). Fits shape log (2 * z + 1) n) (sym i.is) f) none
