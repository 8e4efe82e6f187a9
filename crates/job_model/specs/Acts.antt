-- Words on one act.
use Rattle.std.specs.Prelude.{ℕ, ◌==◌, Bool, false}
use Rattle.job_model.specs.declared.acts.JobAct.{JobAct}
use Rattle.job_model.specs.declared.acts.JobAct.TheVariants.{Attach, Start, EndBody, Cancel, Finish, Gone}

abbrev pub attaches : ℕ → JobAct → Bool
attaches r (Attach p q kind tag cancelled) = r == q
attaches r (Start q) = false
attaches r (EndBody q v) = false
attaches r (Cancel q reason) = false
attaches r (Finish q end) = false
attaches r (Gone q) = false

abbrev pub starts : ℕ → JobAct → Bool
starts r (Attach p q kind tag cancelled) = false
starts r (Start q) = r == q
starts r (EndBody q v) = false
starts r (Cancel q reason) = false
starts r (Finish q end) = false
starts r (Gone q) = false

abbrev pub ends_body : ℕ → JobAct → Bool
ends_body r (Attach p q kind tag cancelled) = false
ends_body r (Start q) = false
ends_body r (EndBody q v) = r == q
ends_body r (Cancel q reason) = false
ends_body r (Finish q end) = false
ends_body r (Gone q) = false

abbrev pub cancels : ℕ → JobAct → Bool
cancels r (Attach p q kind tag cancelled) = false
cancels r (Start q) = false
cancels r (EndBody q v) = false
cancels r (Cancel q reason) = r == q
cancels r (Finish q end) = false
cancels r (Gone q) = false

abbrev pub finishes : ℕ → JobAct → Bool
finishes r (Attach p q kind tag cancelled) = false
finishes r (Start q) = false
finishes r (EndBody q v) = false
finishes r (Cancel q reason) = false
finishes r (Finish q end) = r == q
finishes r (Gone q) = false

abbrev pub tells : ℕ → JobAct → Bool
tells r (Attach p q kind tag cancelled) = false
tells r (Start q) = false
tells r (EndBody q v) = false
tells r (Cancel q reason) = false
tells r (Finish q end) = false
tells r (Gone q) = r == q
