-- A cell that holds its own wait tells whose it is; and an own wait that is seen resolved is ready.
use Rattle.std.specs.Prelude.{◌≡◌, ℕ, ◌==◌, Bool, true, List, Option, Some, None, is_some, if◌then◌else◌, refl}
use Rattle.std.proofs.Common.{sym, ap, ◌∙◌, subst}
use Rattle.std.proofs.lemmas.Bool.{eqb-true}
use Rattle.co_base.specs.declared.names.WaitId.{WaitId}
use Rattle.channel_model.specs.declared.acts.Entry.{Entry}
use Rattle.channel_model.specs.declared.acts.Settled.{Settled}
use Rattle.channel_model.specs.declared.floor.WaitState.{WaitState}
use Rattle.channel_model.specs.declared.floor.WaitState.TheVariants as state
use Rattle.channel_model.specs.declared.standing.Resolution.{Resolution}
use Rattle.channel_model.specs.Channels.{Shape, Wait, same_wait}
use Rattle.channel_model.specs.Histories.{replay, Legal}
use Rattle.channel_model.specs.Answers.{IsOwnWait, IsReadyWait, state_of_parts, state_of_wait}
use Rattle.channel_model.proofs.Waits.{same_wait-eq}
use Rattle.word_rules.specs.declared.cell_word.CellWord.{CellWord}
use Rattle.word_rules.specs.Cells.{Cell, free, receiver, offer, buffered, spot, cell_of}
use Rattle.word_rules.specs.Words.{number, word_of_cell}
use Rattle.cell_words.specs.Answers.{IsCellWord}
use Rattle.cell_words.proofs.ListsOfCells.{IsNamed, CellNamed}
use Rattle.cell_words.proofs.CellsTellFacts.{tied_now}
use Rattle.cell_words.proofs.LooksAtCells.{named_own}

module _ (shape : Shape) (p who : ℕ) (log : List Entry) where
  by_party : (t k : ℕ) (w : WaitId) → IsNamed t k ((replay log).waits w) → same_wait w (spot 0 p) ≡ true
      → ((if same_wait w (spot 0 p) then t else number shape w.channel w.place) == who) ≡ true
      → IsOwnWait who ((replay log).waits (spot 0 p))
  by_party t k w named own h =
      let is : t ≡ who = eqb-true t who (sym (ap (λ (b : Bool). (if b then t else number shape w.channel w.place) == who) own) ∙ h) in
      subst (λ (z : WaitId). IsOwnWait who ((replay log).waits z)) (same_wait-eq w (spot 0 p) own)
      (subst (λ (z : ℕ). IsOwnWait z ((replay log).waits w)) is (named_own t k ((replay log).waits w) named))

  by_cell : (x : Cell) → CellNamed (replay log).waits x → (word_of_cell shape 0 p x).own_wait ≡ true
      → ((word_of_cell shape 0 p x).holder == who) ≡ true → IsOwnWait who ((replay log).waits (spot 0 p))
  by_cell free named own h = cc
  by_cell (receiver t w k) named own h = by_party t k w named own h
  by_cell (offer v t w k) named own h = by_party t k w named own h
  by_cell (buffered v) named own h = cc
  by_cell other named own h = cc

  pub own_told : Legal shape log → (word : CellWord) → IsCellWord shape 0 p log word → word.own_wait ≡ true → (word.holder == who) ≡ true
      → IsOwnWait who ((replay log).waits (spot 0 p))
  own_told l word is own h = by_cell (cell_of log 0 p) ((tied_now shape log l).named 0 p) (sym (ap (λ (z : CellWord). z.own_wait) is.0)
      ∙ own) (sym (ap (λ (z : CellWord). z.holder == who) is.0) ∙ h)

pub ready_told : (who : ℕ) (y : Option Wait) (s : WaitState) → IsOwnWait who y → state_of_wait y ≡ Some s → s ≡ state.Resolved
    → IsReadyWait who y
ready_told who None s own e is = absurd own
ready_told who (Some x) s own e is = by_parts x.resolved x.settled refl refl
    (let f : Some (state_of_parts x.resolved x.settled) ≡ Some state.Resolved = e ∙ ap (λ (z : WaitState). Some z) is in cc)
  where
    by_parts : (how : Option Resolution) (outcome : Option Settled) → x.resolved ≡ how → x.settled ≡ outcome
        → state_of_parts how outcome ≡ state.Resolved → IsReadyWait who (Some x)
    by_parts None None r t h = cc
    by_parts None (Some o) r t h = cc
    by_parts (Some how) (Some o) r t h = cc
    by_parts (Some how) None r t h = (own, ap is_some r, t)
