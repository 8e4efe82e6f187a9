-- What a look at one's own Job says of it.
use Rattle.std.specs.Prelude.{◌≡◌, ℕ, [], Option, Some, None, option_map, refl}
use Rattle.std.proofs.Common.{ap, sym, ◌∙◌, subst, inr}
use Rattle.job_model.specs.declared.acts.JobState.TheVariants.{New, Active}
use Rattle.job_model.specs.declared.floor.JobView.{JobView}
use Rattle.job_model.specs.Trees.{Job, is_active}
use Rattle.job_model.specs.Floors.{Floor, AtStep}
use Rattle.job_model.specs.Answers.{LookAnswer, view_of}
use Rattle.job_model.proofs.Spans.{added_looked}
use Rattle.call_meaning.specs.Facts.{IsRunning}
use Rattle.co_base.specs.declared.names.WaitId.{WaitId}
use Rattle.script_meaning.specs.declared.stage.Stage.{Stage}
use Rattle.script_meaning.specs.declared.stage.Stage.TheVariants.{Waiting}
use Rattle.script_meaning.specs.declared.turn.Turn.{Turn}
use Rattle.script_meaning.specs.declared.turn.Turn.TheVariants as turn
use Rattle.script_meaning.specs.Configs.{innermost}
use Rattle.script_meaning.specs.Idle.{IsNotStarted}
use Rattle.poll_states.specs.declared.jobs.OwnState.TheVariants as own
use Rattle.poll_states.specs.Frames.{Frame, config_of}
use Rattle.poll_states.specs.Steps.{OwnStateSeen, IsAnswerAt, AnsweredAfter}
use Rattle.poll_states.proofs.Stepping.{self_jobs}

-- ---- of a Job that was viewed so

-- one that is not attached has not started
none_seen : (j : Option Job) → option_map view_of j ≡ None → IsNotStarted j
none_seen None e = tt
none_seen (Some j) e = cc

-- nor has one that is New
new_seen : (j : Option Job) (v : JobView) → option_map view_of j ≡ Some v → v.state ≡ New → IsNotStarted j
new_seen None v e at = tt
new_seen (Some j) v e at = let same : view_of j ≡ v = cc in ap (λ (w : JobView). w.state) same ∙ at

-- one that is Active runs
active_seen : (j : Option Job) (v : JobView) → option_map view_of j ≡ Some v → v.state ≡ Active → IsRunning j
active_seen None v e at = absurd (let u : ⊥ = cc in u)
active_seen (Some j) v e at = let same : view_of j ≡ v = cc in ap (λ (w : JobView). is_active w.state) same ∙ ap is_active at

-- ---- of the look

-- it found no Job
pub unattached : (who row : ℕ) (a b : Floor) → LookAnswer who row a b None → OwnStateSeen who row a b own.NotStarted
unattached who row a b h = record {
  looked = h.0;
  was = record { moment = h.1.moment; after = h.1.after; before = h.1.before; holds = none_seen _ h.1.holds };
}

-- it found a New one
pub not_started : (who row : ℕ) (v : JobView) (a b : Floor) → LookAnswer who row a b (Some v) → v.state ≡ New
    → OwnStateSeen who row a b own.NotStarted
not_started who row v a b h at = record {
  looked = h.0;
  was = record { moment = h.1.moment; after = h.1.after; before = h.1.before; holds = new_seen _ v h.1.holds at };
}

-- it found an Active one
pub may_run : (who row : ℕ) (v : JobView) (a b : Floor) → LookAnswer who row a b (Some v) → v.state ≡ Active
    → OwnStateSeen who row a b own.MayRun
may_run who row v a b h at = record {
  looked = h.0;
  was = record { moment = h.1.moment; after = h.1.after; before = h.1.before; holds = active_seen _ v h.1.holds at };
}

-- ---- what a poll answers

-- of a coroutine that waits while its innermost Job may run
pub waits_running : (f : Frame) (row : ℕ) (a b : Floor) (w : WaitId) → f.stage ≡ Waiting w → row ≡ innermost f.tag (config_of f)
    → OwnStateSeen f.tag row a b own.MayRun → AnsweredAfter f a b turn.Waits
waits_running f row a b w at is seen = record {
  looked = added_looked f.tag [] a b seen.looked;
  so = subst (λ (s : Stage). IsAnswerAt (innermost f.tag (config_of f)) s a b turn.Waits) (sym at)
      (inr (refl, subst (λ r. AtStep a b (λ tree. IsRunning (tree r))) is seen.was));
}

-- of one that is left so, at which nothing is looked at
pub answered_at : (f : Frame) (a : Floor) (stage : Stage) (answer : Turn) → f.stage ≡ stage
    → IsAnswerAt (innermost f.tag (config_of f)) stage a a answer → AnsweredAfter f a a answer
answered_at f a stage answer at so = record {
  looked = self_jobs f.tag a;
  so = subst (λ (s : Stage). IsAnswerAt (innermost f.tag (config_of f)) s a a answer) (sym at) so;
}
