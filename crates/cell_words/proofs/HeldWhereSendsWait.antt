-- A cell has an offer that a sender began to wait with only where the kind of its channel lets a send wait.
use Rattle.std.proofs.Common.{◌≡◌, ℕ, Bool, true, false, true≢false, List, [], Option, Some, None, sym, refl, ap, ◌∙◌}
use Rattle.channel_model.specs.declared.acts.Act.{Act}
use Rattle.channel_model.specs.declared.acts.Act.TheVariants.{Put, Offer, Await, Take, Drop, Spurn, Close, Void, Drain}
use Rattle.channel_model.specs.declared.acts.Entry.{Entry}
use Rattle.channel_model.specs.declared.standing.Party.{Party}
use Rattle.channel_model.specs.declared.standing.Standing.{Standing}
use Rattle.channel_model.specs.Channels.{Shape, kind_at, suspends}
use Rattle.channel_model.specs.Needs.{Needs}
use Rattle.channel_model.specs.Histories.{Legal}
use Rattle.word_rules.specs.Cells.{Cell, free, receiver, offer, buffered, closed_by, set_cell, standing, emptied_if, emptied_unless, mark, Board, board_from, cell_of}
use Rattle.cell_words.proofs.ListsOfCells.{by_spot}
use Rattle.cell_words.proofs.CellsGiveLists.{BoardLasts, board_lasts}

-- a sender began to wait here
abbrev pub is_offer : Cell → Bool
is_offer free = false
is_offer (receiver who w k) = false
is_offer (offer v who w k) = true
is_offer (buffered v) = false
is_offer other = false

emptied_none : (o : Option Standing) (x : Cell) → is_offer x ≡ false → is_offer (emptied_if o x) ≡ false
emptied_none None x h = h
emptied_none (Some o) x h = by_holder o.holder
  where
    by_holder : (p : Option Party) → is_offer (emptied_unless p o.value x) ≡ false
    by_holder None = refl
    by_holder (Some p) = h

module _ (shape : Shape) (c p : ℕ) (kind : suspends (kind_at shape c) ≡ false) where
  -- another cell was placed
  placed : (b : Board) (d q : ℕ) (y : Cell) → (d ≡ c → is_offer y ≡ false) → is_offer (b.cells c p) ≡ false
      → is_offer (set_cell b.cells d q y c p) ≡ false
  placed b d q y here h = by_spot (λ x z w. x ≡ c → is_offer w ≡ false) b.cells d q y here c p (λ ne e. h) refl

  removed : (b : Board) (d q : ℕ) → is_offer (b.cells c p) ≡ false
      → is_offer (set_cell b.cells d q (emptied_if (standing b.state.waits q (b.cells d q)) (b.cells d q)) c p) ≡ false
  removed b d q h = by_spot (λ x z w. is_offer (b.cells x z) ≡ false
      → is_offer w ≡ false) b.cells d q _ (emptied_none (standing b.state.waits q (b.cells d q)) (b.cells d q)) c p (λ ne k. k) h

  never_step : (b : Board) (who : ℕ) (act : Act) → Needs shape b.state who act → is_offer (b.cells c p) ≡ false
      → is_offer (mark b.state b.cells who act c p) ≡ false
  never_step b who (Put d q v) n h = placed b d q (buffered v) (λ e. refl) h
  never_step b who (Offer d q v w k) n h = placed b d q (offer v who w k)
      (λ e. absurd (true≢false (sym n.3 ∙ ap (λ (x : ℕ). suspends (kind_at shape x)) e ∙ kind))) h
  never_step b who (Await d q w k) n h = placed b d q (receiver who w k) (λ e. refl) h
  never_step b who (Take d q v) n h = removed b d q h
  never_step b who (Drop d q v) n h = removed b d q h
  never_step b who (Spurn d q v) n h = removed b d q h
  never_step b who (Close d v) n h = placed b d (b.state.channels d).next (closed_by v) (λ e. refl) h
  never_step b who (Void d) n h = placed b d (b.state.channels d).next _ (λ e. refl) h
  never_step b who (Drain d q v) n h = removed b d q h
  never_step b who other n h = h

  never_lasts : BoardLasts shape (λ b. is_offer (b.cells c p) ≡ false)
  never_lasts = record { step = λ b e s t n h. never_step b e.who e.act n h }

  pub never_held : (log : List Entry) → Legal shape log → is_offer (cell_of log c p) ≡ false
  unfolding board_from
  never_held log l = board_lasts shape (λ b. is_offer (b.cells c p) ≡ false) never_lasts [] log l refl
