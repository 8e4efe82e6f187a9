use Rattle.job_words.specs.Forests.{seen_by}
use Rattle.job_words.specs.Passes.{floor_seen}
use Rattle.word_seats.proofs.Given.{ungiven}
use Rattle.word_seats.proofs.NewSeats.{forest_gives, new_job_floor}
use Rattle.word_seats.proofs.forest_seat.ForestSeat.split.Goals as goal

pub split-requires-clause-new : goal.split-requires-clause-new
split-requires-clause-new g c = ungiven (seen_by c.args.self.now.pass).chief (seen_by c.args.self.now.pass).given c.args.tag c.requires

pub returns-clause-gives : goal.returns-clause-gives
returns-clause-gives g c = forest_gives c.args.self.now.forest.now c.args.self.now.pass c.split.new.pass c.args.tag c.requires
    c.split.ensures.gives

pub returns-clause-seat : goal.returns-clause-seat
returns-clause-seat g c = new_job_floor (floor_seen (seen_by c.args.self.now.pass)) (floor_seen (seen_by c.split.result)) c.args.tag
    c.split.ensures.sees c.split.ensures.none
