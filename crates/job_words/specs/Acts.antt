-- What an act asks, and what one exchange for it comes to.
use Rattle.std.specs.Prelude.{◌≡◌, ◌≢◌, ℕ, ◌*◌, Bool, true, false, is_some}
use Rattle.worded.specs.Exchanges.{MayEnter}
use Rattle.joined_words.specs.Seen.{view_of}
use Rattle.job_model.specs.declared.acts.JobAct.{JobAct}
use Rattle.job_model.specs.declared.acts.Cause.{Cause}
use Rattle.job_model.specs.declared.acts.Reason.{Reason}
use Rattle.job_model.specs.Effects.{cause_of_reason}
use Rattle.job_model.specs.Needs.{Holds}
use Rattle.word_rules.specs.declared.size.ForestSize.{ForestSize}
use Rattle.word_rules.specs.declared.job_word.JobWord.{JobWord}
use Rattle.word_rules.specs.declared.deed.Deed.TheVariants.{Act}
use Rattle.word_rules.specs.Rows.{job_code}
use Rattle.word_rules.specs.Deeds.{shape_of, doer, store_of, job_word, IsDone, Fits}
use Rattle.job_words.specs.Passes.{Seen, Sees, Does}

-- whatever others do, this act of who is legal while the row's Job word is old, and turns it into new
abbrev pub MayAct : ForestSize → Seen → ℕ → ℕ → JobWord → JobWord → JobAct → Type 0
MayAct size v who row old new act =
    MayEnter (IsDone (shape_of size)) (Fits size) doer (view_of v) (2 * row) (job_code old) (job_code new)
    (Act (record { who = who; act = act }))

-- who made the act where the row's Job word was old; or it has another word
abbrev pub ActAnswer : ℕ → ℕ → JobWord → JobAct → Seen → Seen → Bool → Type 0
ActAnswer who row old act v w true = Does who (Act (record { who = who; act = act })) (2 * row) (job_code old) v w
ActAnswer who row old act v w false = Sees who v w × (job_code old ≢ job_word (store_of w.seen) row)

-- the reason was seen to hold for an attached Job, and gives this cause, now and later
pub record IsCauseOf (size : ForestSize) (who row : ℕ) (reason : Reason) (v : Seen) (cause : Cause) : Type 0 where
  pub attached : is_some ((store_of v.seen).tree row) ≡ true
  pub holds : Holds (shape_of size) (store_of v.seen).tree who row reason
  pub is : cause_of_reason (store_of v.seen).tree reason ≡ cause
