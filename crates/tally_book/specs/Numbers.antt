-- What numbers of acts become with one more.
use Rattle.std.specs.Prelude.{ℕ, ◌+◌, ◌*◌, ◌≤◌, ◌==◌, cond}
use Rattle.channel_model.specs.declared.acts.Act.{Act}
use Rattle.channel_model.specs.declared.acts.Act.TheVariants.{Hand, Put, Offer, Take, Drop, Spurn, Drain, WakeClosed, Withdraw, Settle}
use Rattle.channel_model.specs.declared.acts.ChannelNote.TheVariants as of_channel
use Rattle.channel_model.specs.declared.acts.Settled.{Settled}
use Rattle.channel_model.specs.declared.acts.Settled.TheVariants as settled
use Rattle.job_model.specs.declared.acts.End.{End}
use Rattle.job_model.specs.declared.acts.End.TheVariants as ends
use Rattle.job_model.specs.declared.acts.JobAct.{JobAct}
use Rattle.job_model.specs.declared.acts.JobAct.TheVariants.{Attach, Finish}
use Rattle.job_model.specs.declared.acts.JobNote.TheVariants as of_job
use Rattle.note_book.specs.declared.book.Item.{Item}
use Rattle.note_book.specs.declared.book.Item.TheVariants as item
use Rattle.tally_book.specs.declared.numbers.ActNumbers.{ActNumbers}
use Rattle.tally_book.specs.declared.numbers.JobNumbers.{JobNumbers}
use Rattle.tally_book.specs.declared.numbers.Numbers.{Numbers}

-- ---- acts on channels

-- the wait is settled, of which so many offers were counted
abbrev pub settled_with : ActNumbers → ActNumbers
settled_with n = record n { settles = n.settles + 1; ended = n.ended + n.open_offers; open_offers = 0; plain_offers = 0 }

abbrev pub with_outcome : ActNumbers → Settled → ActNumbers
with_outcome n (settled.Value k v) = record n { values = n.values + 1 }
with_outcome n (settled.Undelivered v) = record n { given_up = n.given_up + 1 }
with_outcome n other = n

abbrev pub with_act_in : ActNumbers → Act → ActNumbers
with_act_in n (Hand c p v) = record n { hands = n.hands + 1 }
with_act_in n (Put c p v) = record n { puts = n.puts + 1 }
with_act_in n (Offer c p v w k) =
    record n { offers = n.offers + 1; open_offers = n.open_offers + 1; plain_offers = n.plain_offers + cond (k == 0) 1 0 }
with_act_in n (Take c p v) = record n { takes = n.takes + 1 }
with_act_in n (Drop c p v) = record n { drops = n.drops + 1 }
with_act_in n (Spurn c p v) = record n { spurns = n.spurns + 1 }
with_act_in n (Drain c p v) = record n { drains = n.drains + 1 }
with_act_in n (WakeClosed c p) = record n { wakes = n.wakes + 1 }
with_act_in n (Withdraw w why) = record n { withdraws = n.withdraws + 1; taken_back = n.taken_back + n.plain_offers }
with_act_in n (Settle w outcome) = with_outcome (settled_with n) outcome
with_act_in n other = n

-- ---- acts on Jobs

abbrev pub with_end_in : JobNumbers → End → JobNumbers
with_end_in n (ends.Completed v) = record n { completed = n.completed + 1 }
with_end_in n (ends.Cancelled cause) = record n { cancelled = n.cancelled + 1 }

abbrev pub with_job_act_in : JobNumbers → JobAct → JobNumbers
with_job_act_in n (Attach p q kind tag cancelled) = record n { attached = n.attached + 1 }
with_job_act_in n (Finish q end) = with_end_in n end
with_job_act_in n other = n

-- ---- notes

abbrev pub acts_with : ActNumbers → Item → ActNumbers
acts_with n (item.Channel (of_channel.Made act)) = with_act_in n act
acts_with n other = n

abbrev pub jobs_with : JobNumbers → Item → JobNumbers
jobs_with n (item.Job (of_job.Made act)) = with_job_act_in n act
jobs_with n other = n

abbrev pub with_note : Numbers → Item → Numbers
with_note n x = record { notes = n.notes + 1; acts = acts_with n.acts x; jobs = jobs_with n.jobs x }

-- ---- numbers that fit

-- so many acts make no number larger than this
abbrev pub AreActsUpTo : ℕ → ActNumbers → Type 0
AreActsUpTo most n =
    (n.hands ≤ most) × (n.puts ≤ most) × (n.offers ≤ most) × (n.takes ≤ most) × (n.drops ≤ most) × (n.spurns ≤ most) × (n.drains ≤ most)
    × (n.wakes ≤ most) × (n.withdraws ≤ most) × (n.settles ≤ most) × (n.values ≤ most) × (n.given_up ≤ most)
    × (n.ended + n.open_offers ≤ most) × (n.plain_offers ≤ most) × (n.taken_back ≤ most * 4294967296)

abbrev pub AreJobsUpTo : ℕ → JobNumbers → Type 0
AreJobsUpTo most n = (n.attached ≤ most) × (n.completed ≤ most) × (n.cancelled ≤ most)

abbrev pub AreWithin : Numbers → Type 0
AreWithin n = AreActsUpTo n.notes n.acts × AreJobsUpTo n.notes n.jobs
