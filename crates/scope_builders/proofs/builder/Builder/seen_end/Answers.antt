use Rattle.std.proofs.Common.{refl, sym, ◌∙◌}
use Rattle.job_model.proofs.Short.{attached_within}
use Rattle.scope_builders.proofs.Rooms.{told_none}
use Rattle.scope_builders.proofs.Looking.{seen_ended, seen_alive}
use Rattle.scope_builders.proofs.builder.Builder.seen_end.Goals as goal

pub returns-in-Err-clause-answer : goal.returns-in-Err-clause-answer
returns-in-Err-clause-answer g c = told_none refl refl c.room.ensures.items

pub look-requires-clause-row : goal.look-requires-clause-row
look-requires-clause-row g c = attached_within _ _ _ (g.met.J.JobFloor.shaped c.args.self.now.jobs.now)
    (g.met.J.JobFloor.legal c.args.self.now.jobs.now) c.requires.row

pub returns-in-Some-clause-answer : goal.returns-in-Some-clause-answer
returns-in-Some-clause-answer g c =
    seen_ended _ (sym c.end_in.ensures ∙ c.in-Some.is) c.look.ensures.answer refl c.room.ensures.items c.note.ensures.items

pub returns-in-None-clause-answer : goal.returns-in-None-clause-answer
returns-in-None-clause-answer g c =
    seen_alive _ _ (g.met.J.JobFloor.legal c.look.new.self) c.requires.row (sym c.end_in.ensures ∙ c.in-None.is) c.look.ensures.answer refl
    c.room.ensures.items
