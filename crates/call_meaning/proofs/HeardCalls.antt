-- Calls on one of two floors of which the other heard then; and such that told nothing, of which it need not hear.
use Rattle.std.specs.Prelude.{◌≡◌, ℕ, true, List, []}
use Rattle.std.proofs.Common.{sym, ap, ◌∙◌, subst}
use Rattle.co_base.proofs.Orders.{order_same}
use Rattle.channel_model.specs.Floors.{Floor as ChannelFloor, Looked, Added as AddedToChannels}
use Rattle.channel_model.proofs.Spans as spans
use Rattle.job_model.specs.Floors.{Floor, SameSetting, Added}
use Rattle.job_model.proofs.Spans.{nothing_more}
use Rattle.note_book.specs.declared.book.Item.{Item}
use Rattle.note_book.specs.Items.{job_acts_in}
use Rattle.call_meaning.specs.Telling.{Told, items_in}
use Rattle.call_meaning.specs.Stories.{IsTrue}
use Rattle.call_meaning.specs.Seen.{SeenOnJobs, SeenOnBoth, jobs_of}
use Rattle.call_meaning.specs.Orders.{IsTrueAlong, IsAt, HasHeard, HasTold, HeardIfJoint, IsToldOfJobs}
use Rattle.call_meaning.specs.Calls.{ToldOnJobs, ToldOnBoth, WasSo}
use Rattle.call_meaning.proofs.Along.{at_later}
use Rattle.call_meaning.proofs.JobTellings.{moment_of, both_jobs}

-- calls that told nothing
pub both_nothing : {rows : List ℕ} {a b : SeenOnBoth} → AddedToChannels a.who [] a.channels b.channels → Added a.who [] rows a.jobs b.jobs
    → b.who ≡ a.who → b.items ≡ a.items → ToldOnBoth rows a b []
unfolding IsTrue IsTrueAlong items_in
both_nothing {rows} {a} {b} c j w e = record {
  who = w;
  appended = e ∙ sym (nothing_more a.items);
  channels = c;
  jobs = j;
  was_so = λ book d f. tt;
  along = λ joint book d f point at. record {
    to = point;
    not_before = order_same point;
    at = subst (λ (l : List Item). IsAt a.who b.channels b.jobs l point) (sym (nothing_more book))
        (at_later a.who a.channels b.channels a.jobs b.jobs book point c.same.order c.longer j.same.order j.longer at);
    is_true = tt;
  };
}

-- the same, told on Jobs alone
pub both_none : {rows : List ℕ} {a b : SeenOnBoth} → AddedToChannels a.who [] a.channels b.channels
    → ToldOnJobs rows (jobs_of a) (jobs_of b) [] → ToldOnBoth rows a b []
unfolding items_in
both_none {a = a} c h = both_nothing c h.added h.who (h.appended ∙ nothing_more a.items)

-- what was told of Jobs by another name of what was seen then
pub told_as : {rows : List ℕ} {a b c : SeenOnJobs} {told : List Told} → c.who ≡ b.who → c.floor ≡ b.floor → c.items ≡ b.items
    → ToldOnJobs rows a b told → ToldOnJobs rows a c told
told_as {rows} {a} {b} {c} {told} w f e h = record {
  who = w ∙ h.who;
  appended = e ∙ h.appended;
  added = subst (λ (x : Floor). Added a.who (job_acts_in (items_in told)) rows a.floor x) (sym f) h.added;
  no_channels = h.no_channels;
  of_jobs = h.of_jobs;
  was_so = λ book shape channels.
      subst (λ (x : Floor). WasSo shape a.who book (moment_of channels a.floor.seen) (moment_of channels x.seen) told) (sym f)
      (h.was_so book shape channels);
}

-- ---- what the floors say of a hearing

-- the channels were told of the Jobs as these were seen before
pub told_before_now : {who : ℕ} {a b : ChannelFloor} {j j' : Floor} → j' ≡ j → Looked who a b → (j.joint ≡ true → HasTold b j')
    → IsToldOfJobs who a b j
told_before_now {b = b} e h t = record { looked = h; told = λ joint. subst (HasTold b) e (t joint) }

-- and as they were seen then
pub told_now : {who : ℕ} {a b : ChannelFloor} {j j' : Floor} → j' ≡ j → Looked who a b → (j.joint ≡ true → HasTold b j')
    → IsToldOfJobs who a b j'
told_now e h t = record { looked = h; told = λ joint. t (sym (ap (λ (x : Floor). x.joint) e) ∙ joint) }

-- the Jobs heard of the channels
pub heard_now : {c : ChannelFloor} {j j' : Floor} → SameSetting j j' → (j.joint ≡ true → HasHeard c j') → HeardIfJoint c j'
heard_now same h joint = h (sym same.joint ∙ joint)

-- ---- one after another

-- calls of one floor after another
pub channels_then : (who : ℕ) (a b c : ChannelFloor) (jobs : Floor) → AddedToChannels who [] a b → IsToldOfJobs who b c jobs
    → AddedToChannels who [] a c
channels_then who a b c jobs h k = spans.added_then who [] [] a b c h (spans.added_looked who b c k.looked)

-- a call on Jobs alone, of which the channels were told then
pub both_told : {rows : List ℕ} {a b c : SeenOnBoth} {told : List Told} → ToldOnJobs rows (jobs_of a) (jobs_of b) told
    → AddedToChannels a.who [] a.channels b.channels → c.who ≡ b.who → c.jobs ≡ b.jobs → c.items ≡ b.items
    → IsToldOfJobs a.who b.channels c.channels c.jobs → ToldOnBoth rows a c told
both_told {a = a} {b = b} {c = c} h same w f e k =
    both_jobs (channels_then a.who a.channels b.channels c.channels c.jobs same k) k.told (told_as w f e h)
