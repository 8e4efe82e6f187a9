-- The numbers of all tallies, added, and the line that is made of them.
use Rattle.std.specs.Prelude.{◌≡◌, ℕ, ◌+◌, ◌*◌, ◌≤◌, List, ◌++◌, Option}
use lib.Chars.{codes}
use Rattle.job_model.specs.declared.acts.End.{End}
use Rattle.run_report.specs.Summaries.{result_text}
use Rattle.tally_laws.specs.TallyTexts.{numbers_text}
use Rattle.tally_laws.specs.LinesTold.{job_numbers_text}
use Rattle.tally_laws.specs.Counts.{Counts, received, undelivered, dropped, spurned, withdrawn, held}
use Rattle.tally_laws.specs.JobTallies.{JobTally}
use Rattle.tally_book.specs.declared.counted.Fates.{Fates}
use Rattle.tally_book.specs.declared.totals.ActTotals.{ActTotals}
use Rattle.tally_book.specs.declared.totals.JobTotals.{JobTotals}

abbrev pub counts_in : ActTotals → Counts
counts_in n =
    record {
      hands = n.hands;
      puts = n.puts;
      offers = n.offers;
      takes = n.takes;
      drops = n.drops;
      spurns = n.spurns;
      drains = n.drains;
      wakes = n.wakes;
      withdraws = n.withdraws;
      taken_back = n.taken_back;
      settles = n.settles;
      values = n.values;
      given_up = n.given_up;
      ended = n.ended;
    }

abbrev pub job_counts_in : JobTotals → JobTally
job_counts_in n = record { attached = n.attached; completed = n.completed; cancelled = n.cancelled }

-- so many tallies make no number larger than this
abbrev pub AreActsOf : ℕ → ActTotals → Type 0
AreActsOf k n =
    (n.hands ≤ k * 4294967296) × (n.puts ≤ k * 4294967296) × (n.offers ≤ k * 4294967296) × (n.takes ≤ k * 4294967296)
    × (n.drops ≤ k * 4294967296) × (n.spurns ≤ k * 4294967296) × (n.drains ≤ k * 4294967296) × (n.wakes ≤ k * 4294967296)
    × (n.withdraws ≤ k * 4294967296)
    × (n.settles ≤ k * 4294967296) × (n.values ≤ k * 4294967296) × (n.given_up ≤ k * 4294967296) × (n.ended ≤ k * 4294967296)
    × (n.taken_back ≤ k * 18446744073709551616)

abbrev pub AreJobsOf : ℕ → JobTotals → Type 0
AreJobsOf k n = (n.attached ≤ k * 4294967296) × (n.completed ≤ k * 4294967296) × (n.cancelled ≤ k * 4294967296)

-- what became of how many elements, by these counts
abbrev pub AreFatesIn : Counts → Fates → Type 0
AreFatesIn n f =
    (f.received ≡ received n) × (f.undelivered ≡ undelivered n) × (f.dropped ≡ dropped n)
    × (f.spurned ≡ spurned n) × (f.withdrawn ≡ withdrawn n) × (f.held ≡ held n)

-- the line of these numbers, of a script of this version
abbrev pub line_of : ℕ → JobTotals → Fates → Option End → List ℕ
line_of version jobs f root =
    job_numbers_text (1 + jobs.attached) jobs.completed jobs.cancelled
    ++ numbers_text version f.received f.undelivered f.dropped f.spurned f.withdrawn f.held
    ++ codes "result " ++ result_text root ++ codes "\n"
