-- A call of a pass gives out no tag.
use Rattle.std.specs.Prelude.{◌≡◌, ℕ, Err}
use Rattle.std.proofs.Common.{◌∙◌}
use Rattle.job_model.specs.declared.acts.JobAct.{JobAct}
use Rattle.job_model.specs.declared.acts.JobKind.{JobKind}
use Rattle.job_model.specs.declared.floor.AttachError.{AttachError}
use Rattle.job_model.specs.declared.floor.AttachError.TheVariants.{ParentEnded}
use Rattle.word_rules.specs.declared.job_word.JobWord.{JobWord}
use Rattle.word_rules.specs.declared.size.ForestSize.{ForestSize}
use Rattle.job_words.specs.Passes.{Seen, tags_given}
use Rattle.job_words.specs.Attaches.{ActedNow, RowAnswer}

pub by_act : (who row : ℕ) (old : JobWord) (act : JobAct) (v w : Seen) → ActedNow who row old act v w → tags_given w ≡ tags_given v
by_act who row old act v w a = a.does.giving ∙ a.goes.giving

pub by_error : (size : ForestSize) (who : ℕ) (kind : JobKind) (tag : ℕ) (v w : Seen) (e : AttachError)
    → RowAnswer size who kind tag v w (Err e) → tags_given w ≡ tags_given v
by_error size who kind tag v w ParentEnded t = absurd t
by_error size who kind tag v w other t = t.0.giving
