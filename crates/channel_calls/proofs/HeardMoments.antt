-- What a call heard was so at a moment of it.
use Rattle.std.specs.Prelude.{◌≡◌, ℕ, List, [], ◌∷◌, map, refl}
use Rattle.std.proofs.Common.{sym, ap, ◌∙◌}
use Rattle.channel_model.specs.declared.acts.Act.{Act}
use Rattle.channel_model.specs.declared.acts.ChannelNote.{ChannelNote}
use Rattle.channel_model.specs.Histories.{acts_of}
use Rattle.channel_model.specs.Floors.{AtStep}
use Rattle.job_model.specs.Histories.{acts_of as job_acts_of}
use Rattle.note_book.specs.Items.{channel_acts_in, job_acts_in}
use Rattle.call_meaning.specs.Telling.{heard}
use Rattle.call_meaning.specs.Facts.{ChannelNoteHolds}
use Rattle.call_meaning.specs.Stories.{IsTrue}
use Rattle.call_meaning.specs.Calls.{ToldOnChannels}
use Rattle.channel_calls.specs.Groups.{made_note}
use Rattle.call_meaning.specs.Seen.{SeenOnChannels}

-- ---- the book of a caller, from its acts

pub noted_acts : (acts : List Act) → channel_acts_in (map made_note acts) ≡ acts
noted_acts [] = refl
noted_acts (a ∷ acts) = ap (λ l. a ∷ l) (noted_acts acts)

noted_jobs : (acts : List Act) → job_acts_in (map made_note acts) ≡ []
noted_jobs [] = refl
noted_jobs (a ∷ acts) = noted_jobs acts

no_job_acts : (who : ℕ) → job_acts_of who [] ≡ []
unfolding job_acts_of
no_job_acts who = refl

pub no_jobs_noted : (who : ℕ) (acts : List Act) → job_acts_of who [] ≡ job_acts_in (map made_note acts)
no_jobs_noted who acts = no_job_acts who ∙ sym (noted_jobs acts)

-- ---- one note

pub heard_at : (note : ChannelNote) {a b : SeenOnChannels} → ToldOnChannels a b (heard note ∷ [])
    → AtStep a.floor b.floor (ChannelNoteHolds a.floor.shape note)
unfolding IsTrue
heard_at note {a} t =
    let acts : List Act = acts_of a.who a.floor.seen in
    let so = t.was_so (map made_note acts) [] (sym (noted_acts acts)) (no_jobs_noted a.who acts) in
    record { moment = so.0.channels; after = so.1.not_before.channels; before = so.1.not_after.channels; holds = so.1.holds }
