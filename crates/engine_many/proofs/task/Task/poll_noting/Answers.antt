use Rattle.std.proofs.Common.{rules, ◌≡◌, ◌≢◌, ◌≤◌, nat_lt, length, Bool, true, false, refl, subst}
use Rattle.script_grammar.proofs.Truths.{le-from_lt_false}
use Rattle.script_grammar.specs.Programs.{Program}
use Rattle.script_meaning.specs.declared.turn.Turn.TheVariants.{Ready}
use Rattle.poll_states.specs.Frames.{frame_of, items_of}
use Rattle.run_laws.specs.LastRounds.{Did, Rested}
use Rattle.run_laws.specs.Sights.{Sight}
use Rattle.run_laws.proofs.Hearing.{rested}
use Rattle.engine_many.proofs.task.Task.poll_noting.Goals as goal

did_by : (p : Program) (a b : Sight) (x : Bool) → (x ≡ false → Rested p a b) → Did p a b x
did_by p a b true r = tt
did_by p a b false r = r refl

pub returns-clause-did : goal.returns-clause-did
returns-clause-did g c =
    let p = c.in_ok-task.ensures.polled in
    let n : c.in_ok-task.turn ≢ Ready = search rules in
    let few : nat_lt c.notes-before.result c.notes.result ≡ false
    → length (items_of c.in_ok-task.task.0) ≤ length (items_of c.args.self.0) =
    λ e. subst (λ a. a ≤ length (items_of c.args.self.0)) c.notes.ensures
    (subst (λ b. c.notes.result ≤ b) c.notes-before.ensures (le-from_lt_false c.notes-before.result c.notes.result e)) in
    did_by g.N.ScriptName.program _ _ (nat_lt c.notes-before.result c.notes.result)
    (λ e. rested g.N.ScriptName.program (frame_of c.args.self.0) (frame_of c.in_ok-task.task.0) _ _ _ _ c.in_ok-task.turn p.polled
    p.turn n (few e))
