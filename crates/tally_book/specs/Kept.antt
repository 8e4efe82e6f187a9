-- What the numbers of a tally say of what was noted.
use Rattle.std.specs.Prelude.{◌≡◌, ℕ, ◌-◌, List, length}
use Rattle.note_book.specs.declared.book.Item.{Item}
use Rattle.note_book.specs.Items.{channel_acts_in, job_acts_in}
use Rattle.tally_laws.specs.Tallies.{Tally, tally_of}
use Rattle.tally_laws.specs.JobTallies.{JobTally, job_tally_of}
use Rattle.tally_book.specs.declared.numbers.ActNumbers.{ActNumbers}
use Rattle.tally_book.specs.declared.numbers.JobNumbers.{JobNumbers}
use Rattle.tally_book.specs.declared.numbers.Numbers.{Numbers}
use Rattle.tally_book.specs.Numbers.{AreWithin}

-- the tally that these numbers are
abbrev pub tally_in : ActNumbers → Tally
tally_in n =
    record {
      counts =
          record {
            hands = n.hands;
            puts = n.puts;
            offers = n.offers;
            takes = n.takes;
            drops = n.drops;
            spurns = n.spurns;
            drains = n.drains;
            wakes = n.wakes;
            withdraws = n.withdraws;
            taken_back = n.taken_back;
            settles = n.settles;
            values = n.values;
            given_up = n.given_up;
            ended = n.ended;
          };
      open_offers = n.open_offers;
      plain_offers = n.plain_offers;
    }

abbrev pub job_tally_in : JobNumbers → JobTally
job_tally_in n = record { attached = n.attached; completed = n.completed; cancelled = n.cancelled }

-- the numbers are those of these notes
pub record AreOf (items : List Item) (n : Numbers) : Type 0 where
  pub notes : n.notes ≡ length items
  pub acts : tally_in n.acts ≡ tally_of (channel_acts_in items)
  pub jobs : job_tally_in n.jobs ≡ job_tally_of (job_acts_in items)
  pub within : AreWithin n

-- how many notes more it can count
abbrev pub spare_of : List Item → ℕ
spare_of items = 4294967295 - length items
