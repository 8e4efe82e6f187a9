-- What a report prints of elements and of Jobs, which it computes of the joined books, is what the histories say.
use Rattle.std.specs.Prelude.{◌≡◌, ℕ, List, [], refl}
use Rattle.std.proofs.Common.{ap, sym, ◌∙◌}
use Rattle.channel_model.specs.declared.acts.Entry.{Entry}
use Rattle.channel_model.specs.Histories.{acts_of, acts_in}
use Rattle.channel_model.specs.Fates.{element_at, fate_at}
use Rattle.job_model.specs.declared.acts.JobEntry.{JobEntry}
use Rattle.job_model.specs.Histories.{acts_of as job_acts_of, acts_in as job_acts_in_history, replay as replay_jobs}
use Rattle.note_book.specs.declared.book.Item.{Item}
use Rattle.note_book.specs.Items.{channel_acts_in, job_acts_in}
use Rattle.script_grammar.specs.Programs.{Program}
use Rattle.script_meaning.specs.Shapes.{floor_shape, job_shape}
use Rattle.script_meaning.specs.Books.{BooksOf}
use Rattle.run_report.specs.Elements.{channel_acts_noted, with_fate, element_of}
use Rattle.run_report.specs.Jobs.{job_acts_noted}
use Rattle.tally_laws.specs.JobsTold.{AreToldOf}
use Rattle.tally_laws.proofs.SameMembers.{SameMembers, IsPart, IsJoined, same_members}
use Rattle.tally_laws.proofs.SameFates.{same_elements, same_fates}
use Rattle.tally_laws.proofs.JobsTold.{jobs_told}

-- the books of a run have the acts of its histories

pub channel_parts : IsPart (λ (e : Entry). e.who) (λ (e : Entry). e.act) acts_of
unfolding acts_of
channel_parts = record { none = λ k. refl; more = λ k e es. refl }

channels_joined : IsJoined channel_acts_in channel_acts_noted
channels_joined = record { none = refl; more = λ b bs. refl }

pub job_parts : IsPart (λ (e : JobEntry). e.who) (λ (e : JobEntry). e.act) job_acts_of
unfolding job_acts_of
job_parts = record { none = λ k. refl; more = λ k e es. refl }

jobs_joined : IsJoined job_acts_in job_acts_noted
jobs_joined = record { none = refl; more = λ b bs. refl }

-- ---- what is printed

pub printed : (p : Program) (books : List (List Item)) (channels : List Entry) (jobs : List JobEntry) → BooksOf p books channels jobs
    → (c place : ℕ) → element_of (channel_acts_noted books) c place ≡ element_of (acts_in channels) c place
printed p books channels jobs of c place =
    let same : SameMembers (acts_in channels) (channel_acts_noted books) =
    same_members _ _ acts_of channel_acts_in channel_acts_noted [] channel_parts channels_joined refl channels books of.channel_parts in
    sym (ap (λ o. with_fate o (fate_at c place (acts_in channels)))
    (same_elements (floor_shape p) channels (channel_acts_noted books) c place of.legal_channels same)
    ∙ ap (with_fate (element_at c place (channel_acts_noted books)))
    (same_fates (floor_shape p) channels (channel_acts_noted books) c place of.legal_channels same))

-- the books of a run have the acts on Jobs of its history
pub jobs_noted : (p : Program) (books : List (List Item)) (channels : List Entry) (jobs : List JobEntry) → BooksOf p books channels jobs
    → SameMembers (job_acts_in_history jobs) (job_acts_noted books)
jobs_noted p books channels jobs of = same_members _ _ job_acts_of job_acts_in job_acts_noted [] job_parts jobs_joined refl jobs books
    of.job_parts

pub printed_jobs : (p : Program) (books : List (List Item)) (channels : List Entry) (jobs : List JobEntry) → BooksOf p books channels jobs
    → AreToldOf (job_acts_noted books) (replay_jobs jobs)
printed_jobs p books channels jobs of = jobs_told (job_shape p) jobs (job_acts_noted books) of.legal_jobs
    (jobs_noted p books channels jobs of)
