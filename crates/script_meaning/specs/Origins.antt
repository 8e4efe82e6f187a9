-- How a Job came to be.
use Rattle.std.specs.Prelude.{ℕ, Bool, List, [], ◌∷◌, ◌==◌, Option, Some, None, if◌then◌else◌}
use Rattle.job_model.specs.declared.acts.JobKind.{JobKind}
use Rattle.job_model.specs.declared.acts.JobAct.{JobAct}
use Rattle.job_model.specs.declared.acts.JobAct.TheVariants.{Attach, Start, EndBody, Cancel, Finish, Gone}
use Rattle.job_model.specs.declared.acts.JobEntry.{JobEntry}

-- the kind of the row that the act attaches, and whether it is cancelled at once
abbrev pub origin_in : ℕ → JobAct → Option (JobKind × Bool)
origin_in r (Attach p q kind tag cancelled) = if r == q then Some (kind, cancelled) else None
origin_in r (Start q) = None
origin_in r (EndBody q v) = None
origin_in r (Cancel q reason) = None
origin_in r (Finish q end) = None
origin_in r (Gone q) = None

abbrev pub or_else : Option (JobKind × Bool) → Option (JobKind × Bool) → Option (JobKind × Bool)
or_else None more = more
or_else (Some x) more = Some x

-- the kind with which a row was attached, and whether it was cancelled at once
unfoldable pub origin_of : ℕ → List JobEntry → Option (JobKind × Bool)
origin_of r [] = None
origin_of r (e ∷ es) = or_else (origin_in r e.act) (origin_of r es)
