-- What one caller keeps of its acts: their counts, and of the wait that it has how many offers it placed.
use Rattle.std.specs.Prelude.{ℕ, ◌+◌, ◌==◌, cond, List, [], ◌∷◌}
use Rattle.channel_model.specs.declared.acts.Act.{Act}
use Rattle.channel_model.specs.declared.acts.Act.TheVariants.{Hand, Put, Offer, Take, Drop, Spurn, Drain, WakeClosed, Withdraw, Settle}
use Rattle.channel_model.specs.Fates.{is_value, is_undelivered}
use Rattle.note_book.specs.declared.book.Item.{Item}
use Rattle.note_book.specs.Items.{channel_acts_in}
use Rattle.tally_laws.specs.Counts.{Counts, nothing, added}

pub record Tally : Type 0 where
  pub counts : Counts
  -- how many offers the wait has that is not settled, and how many of them a plain send made
  pub open_offers : ℕ
  pub plain_offers : ℕ

abbrev pub empty : Tally
empty = record { counts = nothing; open_offers = 0; plain_offers = 0 }

-- what an act counts for, behind the acts of this tally
abbrev pub count_of : Tally → Act → Counts
count_of t (Hand c p v) = record nothing { hands = 1 }
count_of t (Put c p v) = record nothing { puts = 1 }
count_of t (Offer c p v w k) = record nothing { offers = 1 }
count_of t (Take c p v) = record nothing { takes = 1 }
count_of t (Drop c p v) = record nothing { drops = 1 }
count_of t (Spurn c p v) = record nothing { spurns = 1 }
count_of t (Drain c p v) = record nothing { drains = 1 }
count_of t (WakeClosed c p) = record nothing { wakes = 1 }
count_of t (Withdraw w why) = record nothing { withdraws = 1; taken_back = t.plain_offers }
count_of t (Settle w outcome) =
    record nothing {
      settles = 1;
      values = cond (is_value outcome) 1 0;
      given_up = cond (is_undelivered outcome) 1 0;
      ended = t.open_offers;
    }
count_of t other = nothing

-- how many offers the wait has after an act
abbrev pub open_after : Tally → Act → ℕ
open_after t (Offer c p v w k) = t.open_offers + 1
open_after t (Settle w outcome) = 0
open_after t other = t.open_offers

-- how many of them a plain send made
abbrev pub plain_after : Tally → Act → ℕ
plain_after t (Offer c p v w k) = t.plain_offers + cond (k == 0) 1 0
plain_after t (Settle w outcome) = 0
plain_after t other = t.plain_offers

-- with one act more
abbrev pub with_act : Tally → Act → Tally
with_act t a =
    record { counts = added t.counts (count_of t a); open_offers = open_after t a; plain_offers = plain_after t a }

-- with all these acts more, one after the other
abbrev pub with_acts : Tally → List Act → Tally
with_acts t [] = t
with_acts t (a ∷ acts) = with_acts (with_act t a) acts

-- the tally of a caller that made these acts
abbrev pub tally_of : List Act → Tally
tally_of acts = with_acts empty acts

-- the tallies of all books, added
abbrev pub tallied : List (List Item) → Counts
tallied [] = nothing
tallied (book ∷ books) = added (tally_of (channel_acts_in book)).counts (tallied books)
