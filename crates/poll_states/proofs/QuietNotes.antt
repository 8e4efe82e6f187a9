-- Notes that attach no Job and refuse none.
use Rattle.std.specs.Prelude.{◌≡◌, Bool, true, false, ◌||◌, List, [], ◌∷◌, ◌++◌, refl}
use Rattle.std.specs.List.{list_any, list_all}
use Rattle.std.proofs.Common.{sym, ap, ◌∙◌}
use Rattle.job_model.specs.declared.acts.JobAct.{JobAct}
use Rattle.job_model.specs.declared.acts.JobAct.TheVariants.{Attach, Start, EndBody, Cancel, Finish, Gone}
use Rattle.job_model.specs.declared.acts.JobNote.{JobNote}
use Rattle.job_model.specs.declared.acts.JobNote.TheVariants as known
use Rattle.job_model.specs.Floors.{Floor}
use Rattle.note_book.specs.declared.book.Item.{Item}
use Rattle.note_book.specs.declared.book.Item.TheVariants as item
use Rattle.note_book.specs.Items.{job_act, job_acts_in}
use Rattle.call_meaning.specs.Telling.{Told, items_in}
use Rattle.call_meaning.specs.Calls.{rows_in}
use Rattle.script_meaning.specs.Configs.{Config}
use Rattle.script_meaning.specs.Polls.{RefusedByClaims, is_no_row, is_used, is_parent_ended}
use Rattle.script_meaning.proofs.GroupNotes.{AllPass, PassesCalls, PassesEnds, both}
use Rattle.script_meaning.proofs.GentleNotes.{attaches_none, is_ending_note}

abbrev pub is_quiet : Item → Bool
is_quiet (item.Channel n) = true
is_quiet (item.Job n) = is_ending_note n

pub quiet_allows : PassesCalls is_quiet
quiet_allows = record {
  acts = λ act e. refl;
  answers = λ n e. refl;
  starts = λ row. refl;
  cancels = λ row reason. refl;
  saw = λ row. refl;
  saw_end = λ row end. refl;
  fail = λ code. refl;
}

pub quiet_ends : PassesEnds is_quiet
quiet_ends = record { closes = λ c v. refl; end_bodies = λ row v. refl; finishes = λ row end. refl; tells = λ row. refl }

-- ---- what such notes are

no_rows : (items : List Item) → list_all is_quiet items ≡ true → rows_in (job_acts_in items) ≡ []
unfolding rows_in
no_rows [] h = refl
no_rows (item.Channel n ∷ items) h = no_rows items h
no_rows (item.Job n ∷ items) h = let two = both (is_ending_note n) (list_all is_quiet items) h in here n two.0 (no_rows items two.1)
  where
    act_here : (act : JobAct) → attaches_none act ≡ true → rows_in (job_acts_in items) ≡ [] → rows_in (act ∷ job_acts_in items) ≡ []
    act_here (Attach p q kind tag now) e k = cc
    act_here (Start q) e k = k
    act_here (EndBody q v) e k = k
    act_here (Cancel q reason) e k = k
    act_here (Finish q end) e k = k
    act_here (Gone q) e k = k

    here : (n : JobNote) → is_ending_note n ≡ true → rows_in (job_acts_in items) ≡ [] → rows_in (job_act n ++ job_acts_in items) ≡ []
    here (known.Made act) e k = act_here act e k
    here other e k = k

pub quiet_rows : (told : List Told) → AllPass is_quiet told → rows_in (job_acts_in (items_in told)) ≡ []
quiet_rows told h = no_rows (items_in told) h

-- each note of which a test says so is none of those that another test names
none_named : (test : Item → Bool) → ((i : Item) → is_quiet i ≡ true → test i ≡ false) → (items : List Item) → list_all is_quiet items ≡ true
    → list_any test items ≡ false
none_named test k [] h = refl
none_named test k (i ∷ items) h = let two = both (is_quiet i) (list_all is_quiet items) h in ap (λ b. b || list_any test items) (k i two.0)
    ∙ none_named test k items two.1

quiet_no_row : (i : Item) → is_quiet i ≡ true → is_no_row i ≡ false
quiet_no_row (item.Channel n) e = refl
quiet_no_row (item.Job (known.Made act)) e = refl
quiet_no_row (item.Job (known.Saw row)) e = refl
quiet_no_row (item.Job (known.SawEnd row end)) e = refl
quiet_no_row (item.Job (known.Fail code)) e = refl
quiet_no_row (item.Job known.NoRow) e = cc
quiet_no_row (item.Job known.Used) e = cc
quiet_no_row (item.Job known.ParentEnded) e = cc

quiet_used : (i : Item) → is_quiet i ≡ true → is_used i ≡ false
quiet_used (item.Channel n) e = refl
quiet_used (item.Job (known.Made act)) e = refl
quiet_used (item.Job (known.Saw row)) e = refl
quiet_used (item.Job (known.SawEnd row end)) e = refl
quiet_used (item.Job (known.Fail code)) e = refl
quiet_used (item.Job known.NoRow) e = cc
quiet_used (item.Job known.Used) e = cc
quiet_used (item.Job known.ParentEnded) e = cc

quiet_parent : (i : Item) → is_quiet i ≡ true → is_parent_ended i ≡ false
quiet_parent (item.Channel n) e = refl
quiet_parent (item.Job (known.Made act)) e = refl
quiet_parent (item.Job (known.Saw row)) e = refl
quiet_parent (item.Job (known.SawEnd row end)) e = refl
quiet_parent (item.Job (known.Fail code)) e = refl
quiet_parent (item.Job known.NoRow) e = cc
quiet_parent (item.Job known.Used) e = cc
quiet_parent (item.Job known.ParentEnded) e = cc

never : {A : Type 0} (b : Bool) → b ≡ false → b ≡ true → A
never b e f = absurd (let k : false ≡ true = sym e ∙ f in let no_way : ⊥ = cc in no_way)

pub quiet_refused : (x : Config) (told : List Told) (j : Floor) → AllPass is_quiet told → RefusedByClaims x (items_in told) j
quiet_refused x told j h = record {
  no_row = λ e. never _ (none_named is_no_row quiet_no_row (items_in told) h) e;
  used = λ e. never _ (none_named is_used quiet_used (items_in told) h) e;
  none_ended = none_named is_parent_ended quiet_parent (items_in told) h;
}
