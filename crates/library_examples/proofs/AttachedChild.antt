-- What a look at a floor of Jobs shows, and that the root is attached.
use Rattle.std.specs.Prelude.{◌≡◌, ℕ, Bool, true, Option, Some, None, Result, Ok, Err}
use Rattle.std.proofs.Common.{ap, ◌∙◌}
use Rattle.job_model.specs.declared.acts.JobKind.{JobKind}
use Rattle.job_model.specs.declared.floor.Attached.{Attached}
use Rattle.job_model.specs.declared.floor.AttachError.{AttachError}
use Rattle.job_model.specs.declared.floor.AttachError.TheVariants as error
use Rattle.job_model.specs.declared.floor.JobView.{JobView}
use Rattle.job_model.specs.Floors.{Floor, SameSetting}
use Rattle.job_model.specs.Answers.{AttachAnswer, LookAnswer}

pub attach_same : (who parent : ℕ) (kind : JobKind) (tag : ℕ) (a d : Floor) (r : Result Attached AttachError)
    → AttachAnswer who parent kind tag a d r → SameSetting a d
attach_same who parent kind tag a d (Ok x) m = m.same
attach_same who parent kind tag a d (Err error.NoRow) m = m.looked.same
attach_same who parent kind tag a d (Err error.Used) m = m.looked.same
attach_same who parent kind tag a d (Err error.ParentEnded) m = m.looked.same

pub same_callers : (who : ℕ) (a b : Floor) → SameSetting a b → a.callers who ≡ true → b.callers who ≡ true
same_callers who a b s c = ap (λ (f : ℕ → Bool). f who) s.callers ∙ c

pub look_same : (who row : ℕ) (a b : Floor) (r : Option JobView) → LookAnswer who row a b r → SameSetting a b
look_same who row a b (Some v) m = m.0.same
look_same who row a b None m = m.0.same
