-- A receiver that was seen is still the one that was placed.
use Rattle.std.specs.Prelude.{◌≡◌, ℕ, Bool, true, false, List}
use Rattle.std.proofs.Common.{sym, subst}
use Rattle.channel_model.specs.declared.acts.Entry.{Entry}
use Rattle.channel_model.specs.Channels.{Shape}
use Rattle.channel_model.specs.Histories.{replay, Legal}
use Rattle.cell_words.specs.declared.found.Waiter.{Waiter}
use Rattle.word_rules.specs.Cells.{receiver, cell_of}
use Rattle.cell_words.specs.Seen.{Seen, Sees}
use Rattle.cell_words.specs.Answers.{Receives}
use Rattle.cell_words.specs.Clauses.{ReceiverStandsAt}
use Rattle.cell_words.proofs.ListsOfCells.{CellNamed}
use Rattle.cell_words.proofs.CellsLast.{receiver_more}
use Rattle.cell_words.proofs.CellsTellFacts.{tied_now}
use Rattle.cell_words.proofs.LooksAtCells.{named_own}

-- who was placed at a cell to receive is named there for good
pub receives_later : (shape : Shape) (c p : ℕ) (x : Waiter) (v w : Seen) → Legal shape w.seen → Sees v w → Receives shape c p x v.seen
    → Receives shape c p x w.seen
receives_later shape c p x v w l s h =
    let here : cell_of w.seen c p ≡ receiver h.held.who h.held.wait x.clause =
    subst (λ (es : List Entry). cell_of es c p ≡ receiver h.held.who h.held.wait x.clause) (sym s.now)
    (receiver_more shape c p h.held.who x.clause h.held.wait v.seen s.others (subst (Legal shape) s.now l) h.cell) in
    record {
      held = record {
        who = h.held.who;
        wait = h.held.wait;
        holder = h.held.holder;
        fits = h.held.fits;
        owner = named_own h.held.who x.clause ((replay w.seen).waits h.held.wait)
            (subst (CellNamed (replay w.seen).waits) here ((tied_now shape w.seen l).named c p));
      };
      cell = here;
    }

-- a look at a receiver's wait is a look
pub stands_sees : (c p : ℕ) (v w : Seen) (b : Bool) → ReceiverStandsAt c p v w b → Sees v w
stands_sees c p v w true h = h.0
stands_sees c p v w false h = h.0
