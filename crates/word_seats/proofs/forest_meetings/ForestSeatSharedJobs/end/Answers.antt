use Rattle.job_words.specs.Forests.{seen_by}
use Rattle.word_seats.proofs.SameForests.{same_forest}
use Rattle.word_seats.proofs.SeatsTell.{ended_on_jobs, no_jobs, no_rows}
use Rattle.word_seats.proofs.forest_meetings.ForestSeatSharedJobs.end.Goals as goal

pub end-requires-clause-pass : goal.end-requires-clause-pass
end-requires-clause-pass g c = same_forest _ _ c.args.self.now.forest.now c.args.other.forest.now c.args.other.pass
    c.args.self.now.named c.args.other.named c.args.other.of

pub returns-clause-ended : goal.returns-clause-ended
returns-clause-ended g c = ended_on_jobs (seen_by c.args.self.now.pass) (seen_by c.args.other.pass) (seen_by c.end.new.main)
    c.end.ensures.ended

pub returns-clause-none : goal.returns-clause-none
returns-clause-none g c = no_jobs (seen_by c.end.new.main) c.end.new.main.ungiven

pub returns-clause-unclaimed : goal.returns-clause-unclaimed
returns-clause-unclaimed g c = no_rows (seen_by c.end.new.main) c.end.new.main.ungiven
