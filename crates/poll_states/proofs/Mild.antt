-- What most moves note: no refusal, no end of a Job and no Close of a done channel.
use Rattle.std.specs.Prelude.{◌≡◌, ℕ, ◌<◌, Bool, true, false, ◌||◌, List, [], ◌∷◌, ◌++◌, refl}
use Rattle.std.specs.List.{list_any, list_all}
use Rattle.std.proofs.Common.{sym, ap, ◌∙◌}
use Rattle.std.proofs.lemmas.List.Folds.{list_any-append}
use Rattle.co_base.specs.declared.names.WaitId.{WaitId}
use Rattle.channel_model.specs.declared.acts.Act.TheVariants.{Settle}
use Rattle.channel_model.specs.declared.acts.Settled.{Settled}
use Rattle.job_model.specs.declared.acts.JobAct.{JobAct}
use Rattle.job_model.specs.declared.acts.JobAct.TheVariants.{Finish}
use Rattle.job_model.specs.declared.acts.JobNote.{JobNote}
use Rattle.job_model.specs.declared.acts.JobNote.TheVariants as known
use Rattle.job_model.specs.declared.acts.Reason.{Reason}
use Rattle.job_model.specs.Floors.{Floor}
use Rattle.note_book.specs.declared.book.Item.{Item}
use Rattle.note_book.specs.declared.book.Item.TheVariants as item
use Rattle.note_book.specs.Items.{channel_acts_in}
use Rattle.call_meaning.specs.Telling.{Told, on_channels, on_jobs, ChannelFact, JobFact, TakenBack, items_in, made, knew, saw}
use Rattle.call_meaning.specs.ChannelCalls.{Call, Answer, Closes, CancelsChannel, PlainCall, TryCall, GivesUp, channel_of}
use Rattle.call_meaning.specs.JobCalls.{Starts, Passes}
use Rattle.call_meaning.specs.Endings.{ClosesAtOnce, IsClosedNext, finish_of}
use Rattle.script_meaning.specs.Configs.{Config}
use Rattle.script_meaning.specs.Books.{is_refusal}
use Rattle.script_meaning.specs.Polls.{RefusedByClaims, is_no_row, is_used, is_parent_ended}
use Rattle.script_meaning.proofs.JobDebts.{Parents, AllKnown}
use Rattle.script_meaning.proofs.GroupNotes.{AllPass, both, all_then, all_none, plain_all, try_all, closes_all, cancels_channel_all, gives_up_all, resumed_all, taken_back_all, saw_all, fail_all, one_fact_all, starts_all, passes_all}
use Rattle.script_meaning.proofs.GentleNotes.{leaves_dones, is_no_finish, is_mild, is_mild_call, is_mild_note, mild_allows, below_dones, gentle_leaves, mild_gentle, Unrefused}

-- ---- mild notes

abbrev pub AllMild : ℕ → List Told → Type 0
AllMild base told = AllPass (is_mild base) told

pub mild_then : (base : ℕ) (xs ys : List Told) → AllMild base xs → AllMild base ys → AllMild base (xs ++ ys)
mild_then base = all_then (is_mild base)

pub nothing_mild : (base : ℕ) → AllMild base []
nothing_mild base = all_none (is_mild base)

-- ---- calls on channels

pub plain_mild : (base : ℕ) (call : Call) (g : List Told) (a : Answer) → channel_of call < base → PlainCall call g a → AllMild base g
plain_mild base call g a lt = plain_all (is_mild base) (mild_allows base) call g a (λ e. below_dones base (channel_of call) lt)

pub try_mild : (base : ℕ) (call : Call) (g : List Told) (a : Answer) → channel_of call < base → TryCall call g a → AllMild base g
try_mild base call g a lt = try_all (is_mild base) (mild_allows base) call g a (λ e. below_dones base (channel_of call) lt)

pub closes_mild : (base c v : ℕ) (g : List Told) → c < base → Closes c v g → AllMild base g
closes_mild base c v g lt = closes_all (is_mild base) (mild_allows base) c v g (below_dones base c lt)

pub cancels_channel_mild : (base c : ℕ) (g : List Told) → c < base → CancelsChannel c g → AllMild base g
cancels_channel_mild base c g lt = cancels_channel_all (is_mild base) (mild_allows base) c g (below_dones base c lt)

pub gives_up_mild : (base : ℕ) (w : WaitId) (g : List Told) → GivesUp w g → AllMild base g
gives_up_mild base = gives_up_all (is_mild base) (mild_allows base)

pub resumed_mild : (base : ℕ) (w : WaitId) (outcome : Settled) (seen : ChannelFact) (fact : JobFact)
    → AllMild base (on_channels seen ∷ on_jobs fact ∷ made (Settle w outcome) ∷ [])
resumed_mild base = resumed_all (is_mild base) (mild_allows base)

pub taken_back_mild : (base : ℕ) (w : WaitId) (outcome : Settled) → AllMild base (on_channels (TakenBack w) ∷ made (Settle w outcome) ∷ [])
taken_back_mild base = taken_back_all (is_mild base) (mild_allows base)

-- ---- calls on Jobs

pub saw_mild : (base row : ℕ) (more : List Told) → AllMild base more → AllMild base (saw row ∷ more)
saw_mild base = saw_all (is_mild base) (mild_allows base)

pub fail_mild : (base v : ℕ) → AllMild base (knew (known.Fail v) ∷ [])
fail_mild base = fail_all (is_mild base) (mild_allows base)

pub one_fact_mild : (base : ℕ) (fact : JobFact) → AllMild base (on_jobs fact ∷ [])
one_fact_mild base = one_fact_all (is_mild base)

pub starts_mild : (base row : ℕ) (g : List Told) → Starts row g → AllMild base g
starts_mild base = starts_all (is_mild base) (mild_allows base)

pub passes_mild : (base : ℕ) (parents : Parents) (row : ℕ) (reason : Reason) (newly : Bool) (g : List Told) → AllKnown parents g
    → Passes row reason newly g → AllMild base g
passes_mild base = passes_all (is_mild base) (mild_allows base)

-- ---- what mild notes are

pub mild_no_close : (base : ℕ) (items : List Item) → list_all (is_mild base) items ≡ true
    → list_all (leaves_dones base) (channel_acts_in items) ≡ true
mild_no_close base items h = gentle_leaves base items (mild_gentle base items h)

act_unfinished : (base : ℕ) (act : JobAct) (items : List Item) → is_no_finish act ≡ true
    → IsClosedNext base (finish_of (item.Job (known.Made act))) items
act_unfinished base (Finish q end) items e = cc
act_unfinished base other items e = tt

note_unfinished : (base : ℕ) (n : JobNote) (items : List Item) → is_mild_note n ≡ true → IsClosedNext base (finish_of (item.Job n)) items
note_unfinished base (known.Made act) items e = act_unfinished base act items e
note_unfinished base other items e = tt

pub mild_closes : (base : ℕ) (items : List Item) → list_all (is_mild base) items ≡ true → ClosesAtOnce base items
mild_closes base [] h = tt
mild_closes base (item.Channel n ∷ items) h = (tt, mild_closes base items (both (is_mild_call base n) _ h).1)
mild_closes base (item.Job n ∷ items) h = let two = both (is_mild_note n) (list_all (is_mild base) items) h
    in (note_unfinished base n items two.0, mild_closes base items two.1)

-- ---- no refusal of a claim

nor : (a b : Bool) → a ≡ false → b ≡ false → (a || b) ≡ false
nor a b e f = ap (λ x. x || b) e ∙ f

-- a refusal of any kind is one
no_row_refuses : (base : ℕ) (i : Item) → is_refusal base i ≡ false → is_no_row i ≡ false
no_row_refuses base (item.Channel n) e = refl
no_row_refuses base (item.Job (known.Made act)) e = refl
no_row_refuses base (item.Job (known.Saw row)) e = refl
no_row_refuses base (item.Job (known.SawEnd row end)) e = refl
no_row_refuses base (item.Job (known.Fail code)) e = refl
no_row_refuses base (item.Job known.NoRow) e = cc
no_row_refuses base (item.Job known.Used) e = refl
no_row_refuses base (item.Job known.ParentEnded) e = refl

used_refuses : (base : ℕ) (i : Item) → is_refusal base i ≡ false → is_used i ≡ false
used_refuses base (item.Channel n) e = refl
used_refuses base (item.Job (known.Made act)) e = refl
used_refuses base (item.Job (known.Saw row)) e = refl
used_refuses base (item.Job (known.SawEnd row end)) e = refl
used_refuses base (item.Job (known.Fail code)) e = refl
used_refuses base (item.Job known.NoRow) e = refl
used_refuses base (item.Job known.Used) e = cc
used_refuses base (item.Job known.ParentEnded) e = refl

ended_refuses : (base : ℕ) (i : Item) → is_refusal base i ≡ false → is_parent_ended i ≡ false
ended_refuses base (item.Channel n) e = refl
ended_refuses base (item.Job (known.Made act)) e = refl
ended_refuses base (item.Job (known.Saw row)) e = refl
ended_refuses base (item.Job (known.SawEnd row end)) e = refl
ended_refuses base (item.Job (known.Fail code)) e = refl
ended_refuses base (item.Job known.NoRow) e = refl
ended_refuses base (item.Job known.Used) e = refl
ended_refuses base (item.Job known.ParentEnded) e = cc

either : (a b : Bool) → (a || b) ≡ false → (a ≡ false) × (b ≡ false)
either true b e = cc
either false b e = (refl, e)

none_of : (base : ℕ) (test : Item → Bool) → ((i : Item) → is_refusal base i ≡ false → test i ≡ false) → (items : List Item)
    → list_any (is_refusal base) items ≡ false → list_any test items ≡ false
none_of base test k [] h = refl
none_of base test k (i ∷ items) h = let two = either (is_refusal base i) (list_any (is_refusal base) items) h
    in nor _ _ (k i two.0) (none_of base test k items two.1)

-- where nothing is refused, nothing is said of claims
pub unrefused_claims : (base : ℕ) (x : Config) (told : List Told) (jobs : Floor) → Unrefused base told
    → RefusedByClaims x (items_in told) jobs
unrefused_claims base x told jobs h = record {
  no_row = λ e. absurd (let u : true ≡ false = sym e ∙ none_of base is_no_row (no_row_refuses base) (items_in told) h in let v : ⊥ = cc
      in v);
  used = λ e. absurd (let u : true ≡ false = sym e ∙ none_of base is_used (used_refuses base) (items_in told) h in let v : ⊥ = cc in v);
  none_ended = none_of base is_parent_ended (ended_refuses base) (items_in told) h;
}

or_none : (test : Item → Bool) (xs ys : List Item) → list_any test xs ≡ false → list_any test (xs ++ ys) ≡ list_any test ys
or_none test xs ys h = list_any-append test xs ys ∙ ap (λ b. b || list_any test ys) h

-- a refusal behind notes that are none
pub claims_behind : (base : ℕ) (x : Config) (told : List Told) (notes : List Item) (jobs : Floor) → Unrefused base told
    → RefusedByClaims x notes jobs → RefusedByClaims x (items_in told ++ notes) jobs
claims_behind base x told notes jobs h m = record {
  no_row = λ e. m.no_row (sym (or_none is_no_row (items_in told) notes (none_of base is_no_row (no_row_refuses base) (items_in told) h))
      ∙ e);
  used = λ e. m.used (sym (or_none is_used (items_in told) notes (none_of base is_used (used_refuses base) (items_in told) h)) ∙ e);
  none_ended = or_none is_parent_ended (items_in told) notes (none_of base is_parent_ended (ended_refuses base) (items_in told) h)
      ∙ m.none_ended;
}
