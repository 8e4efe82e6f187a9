use Rattle.std.proofs.Common.{refl, arith}
use Rattle.std.proofs.lemmas.Option.{slice_get_read}
use Rattle.script_reader.specs.Scripts.{program_of}
use Rattle.poll_states.proofs.Standing.{line_short, named_attached}
use Rattle.poll_states.proofs.LineNeeds.{stands_build, knows_name}
use Rattle.poll_states.proofs.WaitsForEnds.{innermost_ends_here}
use Rattle.poll_states.proofs.Stepping.{cut_as}
use Rattle.poll_states.proofs.NamedLines.{naming_enters, has_named}
use Rattle.poll_states.proofs.named.call_named.Goals as goal

pub index-row-requires : goal.index-row-requires
index-row-requires g c =
    let h = knows_name _ _ _ _ _ _ c.args.script.now.well_formed (g.met.J.JobFloor.legal c.args.floors.now.jobs.now) c.requires.stands
    c.requires.at c.requires.names in
    omega (arith, h, c.args.frame.now.rows.ok.0)

pub make-answer-requires-clause-may : goal.make-answer-requires-clause-may
make-answer-requires-clause-may g c = stands_build _ _ _ _ _ c.args.script.now.well_formed c.requires.stands c.first_done.ensures

pub make-answer-requires-clause-own : goal.make-answer-requires-clause-own
make-answer-requires-clause-own g c = innermost_ends_here _ _ _ _ _ (g.met.J.JobFloor.legal c.args.floors.now.jobs.now) c.requires.stands
    c.requires.at.stage c.innermost-own.ensures

pub make-answer-requires-clause-row : goal.make-answer-requires-clause-row
make-answer-requires-clause-row g c =
    let known = knows_name _ _ _ _ _ _ c.args.script.now.well_formed (g.met.J.JobFloor.legal c.args.floors.now.jobs.now) c.requires.stands
    c.requires.at c.requires.names in
    named_attached _ _ _ _ _ _ (g.met.J.JobFloor.legal c.args.floors.now.jobs.now) c.requires.stands
    (slice_get_read _ _ _ _ refl known c.index-row.ensures)

pub go_on_named-requires-clause-at : goal.go_on_named-requires-clause-at
go_on_named-requires-clause-at g c = c.requires.at.line_is

pub go_on_named-requires-clause-line : goal.go_on_named-requires-clause-line
go_on_named-requires-clause-line g c = let h = line_short c.args.script.now c.args.frame.now.tag _ _ c.requires.at.line_is
    in omega (arith, h)

pub go_on_named-requires-clause-inside : goal.go_on_named-requires-clause-inside
go_on_named-requires-clause-inside g c = naming_enters c.args.line c.args.job c.requires.names

pub returns-in-Ok-clause-came : goal.returns-in-Ok-clause-came
returns-in-Ok-clause-came g c =
    let known = knows_name _ _ _ _ _ _ c.args.script.now.well_formed (g.met.J.JobFloor.legal c.args.floors.now.jobs.now) c.requires.stands
    c.requires.at c.requires.names in
    has_named (program_of c.args.script.now) _ _ _ _ c.args.line c.args.job _ _ c.in-Ok.answer c.first_done.ensures
    (g.met.J.JobFloor.legal c.make-answer.new.builder.jobs.now) c.requires.stands c.requires.at c.requires.names
    c.innermost-own.ensures
    (slice_get_read _ _ _ _ refl known c.index-row.ensures) c.in-Ok.ensures.answer c.in-Ok.ensures.same.who c.go_on_named.ensures.tag
    c.go_on_named.ensures.config c.go_on_named.ensures.items

pub returns-in-Err-clause-came : goal.returns-in-Err-clause-came
returns-in-Err-clause-came g c = cut_as _ refl c.in-Err.ensures.answer

pub returns-in-Ok-clause-same : goal.returns-in-Ok-clause-same
returns-in-Ok-clause-same g c = record {
  channels_lent = refl;
  jobs_lent = refl;
  wakes_lent = refl;
  channels_are = c.in-Ok.ensures.same.of_channels;
  jobs_are = c.in-Ok.ensures.same.of_jobs;
}

pub returns-in-Err-clause-same : goal.returns-in-Err-clause-same
returns-in-Err-clause-same g c = record {
  channels_lent = refl;
  jobs_lent = refl;
  wakes_lent = refl;
  channels_are = c.in-Err.ensures.same.of_channels;
  jobs_are = c.in-Err.ensures.same.of_jobs;
}
