-- The acts among notes that go on.
use Rattle.std.specs.Prelude.{◌≡◌, List, [], ◌∷◌, ◌++◌, refl}
use Rattle.std.proofs.Common.{sym, ap, ◌∙◌, append_assoc}
use Rattle.channel_model.specs.declared.acts.Act.{Act}
use Rattle.job_model.specs.declared.acts.JobAct.{JobAct}
use Rattle.note_book.specs.declared.book.Item.{Item}
use Rattle.note_book.specs.declared.book.Item.TheVariants as item
use Rattle.note_book.specs.Items.{channel_act, job_act, channel_acts_in, job_acts_in}

pub channel_acts_in-append : (xs ys : List Item) → channel_acts_in (xs ++ ys) ≡ channel_acts_in xs ++ channel_acts_in ys
channel_acts_in-append [] ys = refl
channel_acts_in-append (item.Channel note ∷ xs) ys = ap (λ (l : List Act). channel_act note ++ l) (channel_acts_in-append xs ys)
    ∙ sym (append_assoc (channel_act note) (channel_acts_in xs) (channel_acts_in ys))
channel_acts_in-append (item.Job note ∷ xs) ys = channel_acts_in-append xs ys

pub job_acts_in-append : (xs ys : List Item) → job_acts_in (xs ++ ys) ≡ job_acts_in xs ++ job_acts_in ys
job_acts_in-append [] ys = refl
job_acts_in-append (item.Channel note ∷ xs) ys = job_acts_in-append xs ys
job_acts_in-append (item.Job note ∷ xs) ys = ap (λ (l : List JobAct). job_act note ++ l) (job_acts_in-append xs ys)
    ∙ sym (append_assoc (job_act note) (job_acts_in xs) (job_acts_in ys))
