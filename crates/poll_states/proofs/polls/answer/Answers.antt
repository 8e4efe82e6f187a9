use Rattle.std.proofs.Common.{ap, sym, subst, refl, ⊎_elim}
use Rattle.script_meaning.specs.declared.stage.Stage.TheVariants.{Fresh, Running, Unwinding, SeesJob, SeesScope}
use Rattle.script_meaning.specs.declared.turn.Turn.TheVariants as turn
use Rattle.script_meaning.specs.Bodies.{is_over, is_fresh, is_leaving}
use Rattle.poll_states.specs.Frames.{noted}
use Rattle.poll_states.specs.Steps.{HasBody}
use Rattle.poll_states.proofs.OwnSeen.{waits_running, answered_at}
use Rattle.poll_states.proofs.Standing.{stands_body, never_new}
use Rattle.poll_states.proofs.polls.answer.Goals as goal

pub own_state-requires : goal.own_state-requires
own_state-requires g c =
    subst (λ r. HasBody c.args.frame.now.tag r (g.J.JobFloor.view c.args.floors.now.jobs.now)) (sym c.innermost.ensures)
    (stands_body _ _ _ _ (g.met.J.JobFloor.legal c.args.floors.now.jobs.now) c.requires (ap is_fresh c.in-Waiting.is)
    (ap is_leaving c.in-Waiting.is) (ap is_over c.in-Waiting.is))

pub unreachable-requires : goal.unreachable-requires
unreachable-requires g c =
    never_new _ _ _ _ _ (g.met.J.JobFloor.legal c.args.floors.now.jobs.now) (g.met.J.JobFloor.legal c.own_state.new.jobs) c.requires
    (ap is_fresh c.in-Waiting.is)
    (rw c.innermost.ensures at (rw c.in-NotStarted.is at c.own_state.ensures.seen))

pub returns-in-MayRun-clause-answered : goal.returns-in-MayRun-clause-answered
returns-in-MayRun-clause-answered g c = waits_running (noted g.B.NoteBook.items c.args.frame.now) _ _ _ _ c.in-Waiting.is
    c.innermost.ensures (rw c.in-MayRun.is at c.own_state.ensures.seen)

pub returns-in-Fresh-clause-answered : goal.returns-in-Fresh-clause-answered
returns-in-Fresh-clause-answered g c =
    let f = noted g.B.NoteBook.items c.args.frame.now in
    ⊎_elim (λ e. answered_at f _ Fresh turn.Ready e refl)
    (λ q. ⊎_elim (λ e. answered_at f _ Running turn.Ready e refl) (λ u. answered_at f _ (Unwinding u.0) turn.Ready u.1 refl) q) c.in-Fresh.is

pub returns-in-SeesJob-clause-answered : goal.returns-in-SeesJob-clause-answered
returns-in-SeesJob-clause-answered g c =
    let f = noted g.B.NoteBook.items c.args.frame.now in
    ⊎_elim (λ e. answered_at f _ SeesJob turn.Ready e refl) (λ e. answered_at f _ SeesScope turn.Ready e refl) c.in-SeesJob.is
