use Rattle.job_words.specs.Forests.{seen_by}
use Rattle.word_seats.proofs.SameForests.{same_forest}
use Rattle.word_seats.proofs.SeatsTell.{met_on_jobs}
use Rattle.word_seats.proofs.forest_meetings.ForestSeatSharedJobs.meet.Goals as goal

pub meet-requires-clause-b : goal.meet-requires-clause-b
meet-requires-clause-b g c = same_forest _ _ c.args.self.now.forest.now c.args.other.now.forest.now c.args.other.now.pass
    c.args.self.now.named c.args.other.now.named c.args.other.now.of

pub returns-clause-met : goal.returns-clause-met
returns-clause-met g c = met_on_jobs (seen_by c.args.self.now.pass) (seen_by c.args.other.now.pass) (seen_by c.meet.new.a)
    (seen_by c.meet.new.b) c.meet.ensures.met c.meet.ensures.same
