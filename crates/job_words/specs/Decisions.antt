-- What is decided on a Job word, and what that comes to.
use Rattle.std.specs.Prelude.{◌≡◌, ℕ, ◌-◌, ◌==◌, Bool, true, false, ◌&&◌, [], Option, Some, None, if◌then◌else◌}
use Rattle.job_model.specs.declared.acts.JobState.TheVariants.{Active, Cancelling}
use Rattle.job_model.specs.declared.acts.JobAct.TheVariants.{Start, EndBody, Cancel, Finish, Gone}
use Rattle.job_model.specs.declared.acts.End.{End}
use Rattle.job_model.specs.declared.acts.Reason.{Reason}
use Rattle.job_model.specs.declared.floor.Ended.{Ended}
use Rattle.job_model.specs.declared.floor.Ended.TheVariants.{Owes, Waits}
use Rattle.job_model.specs.declared.floor.Finished.{Finished}
use Rattle.job_model.specs.declared.floor.Finished.TheVariants as finished
use Rattle.job_model.specs.declared.floor.CancelledNow.{CancelledNow}
use Rattle.job_model.specs.declared.floor.CancelledNow.TheVariants as cancelled
use Rattle.job_model.specs.Trees.{is_new, is_cancellable, is_ended}
use Rattle.job_model.specs.Effects.{state_of_end}
use Rattle.word_rules.specs.declared.size.ForestSize.{ForestSize}
use Rattle.word_rules.specs.declared.job_word.JobWord.{JobWord}
use Rattle.job_words.specs.declared.decision.Decision.{Decision}
use Rattle.job_words.specs.declared.decision.Decision.TheVariants.{Keep, Change}
use Rattle.word_rules.specs.Rows.{IsNarrow, word_without_body, end_from}
use Rattle.job_words.specs.Passes.{Seen, Goes}
use Rattle.job_words.specs.Attaches.{IsWord, ActedNow}
use Rattle.job_words.specs.Acts.{MayAct}

-- an act that is decided on may come where the row's Job word is old
abbrev pub MayDecide : {A : Type 0} → ForestSize → Seen → ℕ → ℕ → JobWord → Decision A → Type 0
MayDecide size v who row old (Keep answer) = Unit {0}
MayDecide size v who row old (Change new act answer) = IsNarrow new × MayAct size v who row old new act

-- what was decided on old was answered: old is the row's Job word at the end, or who made the act where it was old
abbrev pub UpdateAnswer : {A : Type 0} → ℕ → ℕ → JobWord → Decision A → Seen → Seen → A → Type 0
UpdateAnswer who row old (Keep answer) v w a = Goes who [] v w × IsWord w row old × (a ≡ answer)
UpdateAnswer who row old (Change new act answer) v w a = ActedNow who row old act v w × IsNarrow old × (a ≡ answer)

-- ---- decisions

-- a New Job starts
abbrev pub start_decision : ℕ → JobWord → Decision Bool
start_decision row w = if is_new w.state then Change (record w { state = Active }) (Start row) true else Keep false

-- a Finish is owed, or not yet
abbrev pub owed_if : Bool → Ended
owed_if true = Owes
owed_if false = Waits

-- a body ends; the Job's Finish is owed where no child lives
abbrev pub end_decision : ℕ → ℕ → JobWord → Decision Ended
end_decision row value w = Change (word_without_body value w) (EndBody row value) (owed_if (w.living == 0))

-- a Job that may still be cancelled is, with this cause as its word has it
abbrev pub cancel_decision : ℕ → Reason → ℕ → JobWord → Decision CancelledNow
cancel_decision row reason code w =
    if is_cancellable w.state then Change (record w { state = Cancelling; rest = code }) (Cancel row reason) cancelled.Now
    else Keep cancelled.Already

-- a Job ends so, if it can
abbrev pub finish_with : ℕ → JobWord → Option End → Decision Finished
finish_with row w None = Keep finished.NotYet
finish_with row w (Some end) = Change (record w { state = state_of_end end }) (Finish row end) (finished.Now end)

-- a Job ends whose body has ended and of which no child lives
abbrev pub finish_decision : ℕ → JobWord → Decision Finished
finish_decision row w =
    if is_ended w.state then Keep finished.Already
    else if w.body_ended && (w.living == 0) then finish_with row w (end_from w w.state) else Keep finished.NotYet

-- a child is gone; its parent's Finish is owed where this was the last that it waited for
abbrev pub gone_decision : ℕ → JobWord → Decision Ended
gone_decision row w = Change (record w { living = w.living - 1 }) (Gone row) (owed_if (w.body_ended && (w.living == 1)))
