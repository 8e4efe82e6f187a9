use Rattle.std.specs.Prelude.{true, false, List, [], ◌∷◌, ◌++◌}
use Rattle.std.proofs.Common.{refl, ap, ◌∙◌}
use Rattle.job_model.specs.declared.acts.JobNote.TheVariants.{Saw}
use Rattle.job_model.proofs.Spans.{added_looked}
use Rattle.note_book.specs.declared.book.Item.{Item}
use Rattle.note_book.specs.declared.book.Item.TheVariants as item
use Rattle.scope_builders.proofs.Rooms.{told_none, may_call_after}
use Rattle.scope_builders.proofs.Bodies.{did_none, joins_nothing}
use Rattle.call_meaning.proofs.HeardCalls.{told_now}
use Rattle.scope_builders.proofs.Awaits.{join_stops, joins_told, own_as}
use Rattle.scope_builders.proofs.builder.Builder.join.Goals as goal

pub returns-in-Err-clause-answer : goal.returns-in-Err-clause-answer
returns-in-Err-clause-answer g c =
    did_none (joins_nothing _ _) (g.met.J.JobFloor.legal c.args.self.now.jobs.now) refl (told_none refl refl c.room.ensures.items)

pub returns-then-not-may_run-clause-answer : goal.returns-then-not-may_run-clause-answer
returns-then-not-may_run-clause-answer g c =
    join_stops c.args.row (g.met.J.JobFloor.legal c.tell.new.self)
    (told_now c.tell.ensures.jobs
    (c.tell.ensures.looked c.args.self.now.who c.requires.may.of_channels) c.tell.ensures.told) refl
    (c.note.ensures.items ∙ ap (λ (l : List Item). l ++ item.Job (Saw c.args.own) ∷ []) c.room.ensures.items)
    (own_as c.args.self.now.who c.args.own (g.J.JobFloor.view c.args.self.now.jobs.now) false
    c.tell.ensures.jobs c.if-not-may_run.ensures.seen)

pub await_end-requires-clause-row : goal.await_end-requires-clause-row
await_end-requires-clause-row g c =
    let seen = own_as c.args.self.now.who c.args.own (g.J.JobFloor.view c.args.self.now.jobs.now) true
    c.tell-2.ensures.jobs c.if-not-may_run.ensures.seen in
    (may_call_after c.requires.may c.requires.row (added_looked _ _ _ _ seen.0) (g.met.J.JobFloor.legal c.tell-2.new.self)).attached

pub returns-clause-answer : goal.returns-clause-answer
returns-clause-answer g c =
    joins_told _ _ _ _ _ _ _ (g.met.J.JobFloor.legal c.tell-2.new.self)
    (told_now c.tell-2.ensures.jobs (c.tell-2.ensures.looked c.args.self.now.who c.requires.may.of_channels) c.tell-2.ensures.told) refl
    c.room.ensures.items (own_as c.args.self.now.who c.args.own (g.J.JobFloor.view c.args.self.now.jobs.now) true
    c.tell-2.ensures.jobs c.if-not-may_run.ensures.seen) c.await_end.ensures.answer
